use Rattle.linker.proofs.Places.{is_entered, linked_are_placed}
use Rattle.linker.proofs.RowMarks.{rows_are_in_order}
use Rattle.linker.proofs.Roles.{roles_are_branches}
use Rattle.linker.proofs.laws.linked_marks_are_whole.Goals as goal

pub returns-clause-entered : goal.returns-clause-entered
returns-clause-entered c = is_entered

pub returns-clause-placed : goal.returns-clause-placed
returns-clause-placed c = linked_are_placed

pub returns-clause-rows : goal.returns-clause-rows
returns-clause-rows c = rows_are_in_order

pub returns-clause-roles : goal.returns-clause-roles
returns-clause-roles c = roles_are_branches
