use Rattle.std.proofs.Common.{Some, sym, ap, ◌∙◌}
use Rattle.std.proofs.lemmas.Result.{IfOk-weaker}
use Rattle.ada_tree.specs.View.{scalar_range_of, static_value_of}
use Rattle.ada_rules.specs.Environment.{given}
use Rattle.program_walk.specs.ada_demands.specs.StaticsViews.{noted}
use Rattle.declarations.proofs.ConstantLaws.{numbered_here, numbered_nowhere}
use Rattle.declarations.proofs.constants.library_known.Goals as goal

pub returns-in-Some : goal.returns-in-Some
returns-in-Some c =
    let e = static_value_of c.args.value in
    rw c.in-Some.is
    (IfOk-weaker c.entered.result _ _
    (λ x h k s. numbered_here c.in-Some.generic (scalar_range_of c.args.range) c.args.value _ (Some e) (noted k c.args.statics.now s) _ (h k s))
    c.entered.ensures)

pub returns-in-None : goal.returns-in-None
returns-in-None c k s =
    let e = static_value_of c.args.value in
    numbered_nowhere (scalar_range_of c.args.range) e (Some e) (noted k c.args.statics.now s) c.args.generic c.in-None.is
    ∙ ap (λ x. given (Some x) (noted k c.args.statics.now s)) (sym c.own.ensures)
