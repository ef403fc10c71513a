use Rattle.kernel_code.proofs.CodeMarks.{bodies_are_marked as bodies_law, layouts_are_marked, start_is_marked}
use Rattle.kernel_code.proofs.Marked.{candidates_come_of_items}
use Rattle.kernel_code.proofs.marks.bodies_are_marked.Goals as goal

pub returns-clause-bodies : goal.returns-clause-bodies
returns-clause-bodies c = bodies_law

pub returns-clause-start : goal.returns-clause-start
returns-clause-start c = start_is_marked

pub returns-clause-layouts : goal.returns-clause-layouts
returns-clause-layouts c = layouts_are_marked

pub returns-clause-candidates : goal.returns-clause-candidates
returns-clause-candidates c = candidates_come_of_items
