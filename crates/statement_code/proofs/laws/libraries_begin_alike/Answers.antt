use Rattle.statement_code.proofs.Beginning.{begins_alike}
use Rattle.statement_code.proofs.laws.libraries_begin_alike.Goals as goal

pub returns : goal.returns
returns c = begins_alike
