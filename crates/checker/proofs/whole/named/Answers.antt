use Rattle.std.proofs.Common.{sym, subst}
use Rattle.ada_rules.specs.Legal.{checked_in}
use Rattle.walked_program.specs.Checking.{IsRefusal}
use Rattle.walked_program.proofs.CheckedLaws.{names_refused, names_pass}
use Rattle.walked_program.proofs.Tables.{tables_there, begins_there}
use Rattle.checker.proofs.whole.named.Goals as goal

pub returns-in-Ok : goal.returns-in-Ok
returns-in-Ok c l whole =
    let w = c.in-Ok.whole in
    let j = c.in-Ok.ensures l whole (tables_there w.walk) (begins_there w.walk) in
    names_pass l c.args.main.now j.walked j.comes

pub returns-in-Err : goal.returns-in-Err
returns-in-Err c l whole =
    subst (IsRefusal (checked_in l c.args.main.now)) (sym c.naming.ensures)
    (names_refused l c.args.main.now c.in-Err.failure (c.in-Err.ensures l whole))
