use Rattle.std.proofs.Common.{sym, ◌∙◌}
use Rattle.named_types.proofs.Beginnings.{ended, none_left, others, goes_on}
use Rattle.named_types.proofs.parameters.begin_with.Goals as goal

pub returns-in_default : goal.returns-in_default
returns-in_default c =
    none_left c.args.parameters.now c.loop-parameter.left.now c.loop-parameter.parameter-index c.loop-parameter-test.true c.in_default.ensures.cases
    ∙ c.loop-parameter.invariant

pub returns-then-not-same_subtype : goal.returns-then-not-same_subtype
returns-then-not-same_subtype c =
    others c.args.parameters.now c.in-Some.object.now c.in-Some.behind.now c.loop-parameter.left.now _ c.loop-parameter.parameter-index c.loop-parameter-test.true
    c.in-Some.ensures.cases.0 (sym c.same_subtype.ensures ∙ c.if-not-same_subtype.true)
    ∙ c.loop-parameter.invariant

pub loop-parameter-preserved : goal.loop-parameter-preserved
loop-parameter-preserved c =
    goes_on c.args.parameters.now c.in-Some.object.now c.in-Some.behind.now c.loop-parameter.left.now _ c.loop-parameter.parameter-index c.loop-parameter-test.true
    c.in-Some.ensures.cases.0 (sym c.same_subtype.ensures ∙ c.if-not-same_subtype.false)
    ∙ c.loop-parameter.invariant

pub returns : goal.returns
returns c = ended c.args.parameters.now c.loop-parameter.left.now c.loop-parameter.parameter-index c.loop-parameter-test.false ∙ c.loop-parameter.invariant
