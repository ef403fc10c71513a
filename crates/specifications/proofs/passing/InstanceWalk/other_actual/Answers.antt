use Rattle.ada_syntax.specs.Tree.{expr_pos}
use Rattle.ada_judged.specs.JudgedView.{judged_of}
use Rattle.ada_demands.specs.StaticsViews.{noted}
use Rattle.ada_phrases.specs.Scopes.{step_of}
use Rattle.program_walk.specs.Places.{with_notes}
use Rattle.specifications.specs.Actuals.{actual_of}
use Rattle.specifications.proofs.PassingLaws.{other_given}
use Rattle.specifications.proofs.passing.InstanceWalk.other_actual.Goals as goal

pub returns : goal.returns
returns c k env s h =
    let n = c.args.notes.now in
    let x = c.args.expr.now in
    let next = with_notes k (record n { decisions = c.judged.new.decisions }) s in
    other_given env (with_notes k n s) x (expr_pos x) c.pos.result next (judged_of k) (actual_of k) c.no_actual-actual.result c.and.result c.judged.result
    (step_of c.args.self.now.place.site.step) h.site.step c.pos.ensures c.and.ensures (c.no_actual-actual.ensures k next)
    (c.judged.ensures k env (noted k n.statics s) h.site)
