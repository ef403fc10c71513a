use Rattle.std.proofs.lemmas.List.{drop_all}
use Rattle.std.proofs.lemmas.Result.{err_from_is_err_and}
use Rattle.program_objects.proofs.UnitLaws.{next_of, parsed_more, parsed_fault, parsed_all, only_all}
use Rattle.program_objects.proofs.units.add_units.Goals as goal

pub returns-in_err-add_units_of_file-clause-refused : goal.returns-in_err-add_units_of_file-clause-refused
returns-in_err-add_units_of_file-clause-refused c =
    let p = err_from_is_err_and c.from_residual.result c.from_residual.ensures.1 in
    let next = rw (next_of c.args.lists.now c.loop-file.file c.index-lists-file.result c.loop-file-test.true c.index-lists-file.is) at c.loop-file.invariant in
    rw (p.1, p.2) (parsed_fault c.in_err-add_units_of_file.field-0.0 next (rw c.as_slice.ensures at c.in_err-add_units_of_file.ensures.refused))

pub loop-file-preserved : goal.loop-file-preserved
loop-file-preserved c =
    let next = rw (next_of c.args.lists.now c.loop-file.file c.index-lists-file.result c.loop-file-test.true c.index-lists-file.is) at c.loop-file.invariant in
    let added = rw c.as_slice.ensures at c.in_ok-add_units_of_file.ensures.added in
    rw (added.all) (parsed_more next added.derived added.only)

pub returns-clause-units : goal.returns-clause-units
returns-clause-units c = parsed_all (rw (drop_all c.loop-file.file c.args.lists.now c.loop-file-test.false) at c.loop-file.invariant)

pub returns-clause-only_units : goal.returns-clause-only_units
returns-clause-only_units c = only_all (rw (drop_all c.loop-file.file c.args.lists.now c.loop-file-test.false) at c.loop-file.invariant)
