use Rattle.linker.proofs.RowMarks.{rows_are_found}
use Rattle.linker.proofs.RoleMarks.{roles_are_found}
use Rattle.linker.proofs.laws.items_have_their_marks.Goals as goal

pub returns-clause-rows : goal.returns-clause-rows
returns-clause-rows c = rows_are_found

pub returns-clause-roles : goal.returns-clause-roles
returns-clause-roles c = roles_are_found
