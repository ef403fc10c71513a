use Rattle.program_walk.proofs.WalkLaws.{exact_begins, fresh_holds}
use Rattle.program_walk.proofs.table_laws.walks_begin_and_end.Goals as goal

pub returns-clause-begin : goal.returns-clause-begin
returns-clause-begin c = fresh_holds

pub returns-clause-end : goal.returns-clause-end
returns-clause-end c = exact_begins
