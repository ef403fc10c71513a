use Rattle.std.proofs.lemmas.Result.{err_from_is_err_and}
use Rattle.walked_program.proofs.CheckedLaws.{program_refused, program_legal, has_entries, declares_types}
use Rattle.walked_program.proofs.behind.program.Goals as goal

pub returns-in_err-prepared-clause-program : goal.returns-in_err-prepared-clause-program
returns-in_err-prepared-clause-program c l whole judged =
    let e = err_from_is_err_and c.from_residual.result c.from_residual.ensures.1 in
    rw (e.1, e.2) (program_refused c.args.whole c.args.units.now c.args.library.now l c.args.main.now whole judged c.in_err-prepared.field-0.0
    c.in_err-prepared.ensures.accepted)

pub returns-clause-program : goal.returns-clause-program
returns-clause-program c l whole judged =
    program_legal c.args.whole c.args.units.now c.args.library.now l c.args.main.now whole judged c.in_ok-assembled.field-0
    c.in_ok-prepared.ensures.accepted c.in_ok-assembled.ensures.program

pub returns-clause-units : goal.returns-clause-units
returns-clause-units c l whole judged =
    has_entries c.args.whole c.args.units.now c.args.library.now l c.args.main.now whole judged c.in_ok-assembled.field-0
    c.in_ok-prepared.prepared.entries.items c.in_ok-prepared.ensures.entries c.in_ok-assembled.ensures.units

pub returns-clause-types : goal.returns-clause-types
returns-clause-types c l whole judged =
    declares_types c.args.whole c.args.units.now c.args.library.now l c.args.main.now whole judged c.in_ok-assembled.field-0
    c.in_ok-prepared.prepared.generics.items c.in_ok-prepared.ensures.texts c.in_ok-assembled.ensures.types
