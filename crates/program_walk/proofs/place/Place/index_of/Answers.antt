use Rattle.std.proofs.Common.{rules}
use Rattle.ada_rules.specs.Environment.{given}
use Rattle.ada_phrases.specs.Answers.{counted}
use Rattle.ada_demands.specs.StaticsViews.{noted}
use Rattle.program_walk.specs.Marks.{marked_of}
use Rattle.program_walk.specs.Places.{with_notes}
use Rattle.program_walk.proofs.IndexLaws.{mark_refused, mark_passes}
use Rattle.program_walk.proofs.place.Place.index_of.Goals as goal

pub returns-in_ok-marked-in-Mark : goal.returns-in_ok-marked-in-Mark
returns-in_ok-marked-in-Mark c k env s h =
    let n = c.args.notes.now in
    let x = given (marked_of k c.in_ok-marked-in-Mark.marked) (counted c.scalar_mark.new.decisions (noted k n.statics s)) in
    rw c.in-Mark.is (mark_passes env (with_notes k n s) c.in-Mark.name x (c.in_ok-marked-in-Mark.ensures k env (noted k n.statics s) h.site))

pub returns-in_err-marked-in-Mark : goal.returns-in_err-marked-in-Mark
returns-in_err-marked-in-Mark c k env s h =
    let n = c.args.notes.now in
    let r = mark_refused env (with_notes k n s) c.in-Mark.name c.in_err-marked-in-Mark.field-0.0
    (c.in_err-marked-in-Mark.ensures k env (noted k n.statics s) h.site) in
    rw c.in-Mark.is (search (rules, r))

pub returns-in-Bounds : goal.returns-in-Bounds
returns-in-Bounds c k env s h = rw c.in-Bounds.is (c.index_between.ensures k env s h)
