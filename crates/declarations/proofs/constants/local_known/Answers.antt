use Rattle.std.proofs.Common.{Some, sym, ap, ◌∙◌}
use Rattle.std.proofs.lemmas.Result.{IfOk-weaker}
use Rattle.ada_tree.specs.View.{scalar_range_of, static_value_of}
use Rattle.ada_rules.specs.Environment.{given}
use Rattle.ada_rules.specs.Declarations.{lying_in}
use Rattle.program_walk.specs.ada_demands.specs.StaticsViews.{noted}
use Rattle.declarations.proofs.ConstantLaws.{numbered_as, numbered_nowhere, lying_is}
use Rattle.declarations.proofs.constants.local_known.Goals as goal

pub returns-in_ok-value-in-Some : goal.returns-in_ok-value-in-Some
returns-in_ok-value-in-Some c =
    rw c.in-Some.is
    (IfOk-weaker c.entered.result _ _
    (λ x h k env s t world range.
    numbered_as c.in-Some.generic (scalar_range_of c.args.range) c.args.value.now (static_value_of c.in_ok-value-in-Some.value) _
    (lying_in env t c.args.value.now) (noted k c.args.statics.now s) _ _ (c.in_ok-value-in-Some.ensures k s) (h k s))
    c.entered.ensures)

pub returns-in-None : goal.returns-in-None
returns-in-None c k env s t world range =
    let r = scalar_range_of c.args.range in
    let e = c.args.value.now in
    let n = noted k c.args.statics.now s in
    numbered_nowhere r e (lying_in env t e) n c.args.generic c.in-None.is
    ∙ ap (λ o. given o n) (lying_is env c.args.instances.now t r e c.lying-known.result world range c.lying-known.ensures ∙ ap Some (sym c.own_number.ensures))
