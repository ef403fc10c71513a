use Rattle.std.proofs.Common.{ap, sym, ◌∙◌}
use Rattle.named_types.specs.Named.{are_built}
use Rattle.named_types.proofs.Instances.{next_type, no_type_left, fails, passes}
use Rattle.named_types.proofs.named.are_built.Goals as goal

pub loop-number-init : goal.loop-number-init
loop-number-init c = ap (λ ts. are_built c.args.program.now 0 ts) c.as_slice-declared-items.ensures

pub returns-then-not-is_built : goal.returns-then-not-is_built
returns-then-not-is_built c =
    fails _ _
    (next_type c.args.program.now c.as_slice-declared-items.result.now c.loop-number.number c.declared-item.result c.loop-number-test.true c.declared-item.is)
    (sym c.is_built.ensures ∙ c.if-not-is_built.true)
    ∙ c.loop-number.invariant

pub loop-number-preserved : goal.loop-number-preserved
loop-number-preserved c =
    passes _ _
    (next_type c.args.program.now c.as_slice-declared-items.result.now c.loop-number.number c.declared-item.result c.loop-number-test.true c.declared-item.is)
    (sym c.is_built.ensures ∙ c.if-not-is_built.false)
    ∙ c.loop-number.invariant

pub returns : goal.returns
returns c =
    no_type_left c.args.program.now c.as_slice-declared-items.result.now c.loop-number.number c.loop-number-test.false ∙ c.loop-number.invariant
