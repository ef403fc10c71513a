use Rattle.placed_code.proofs.StretchLaws.{is_executed}
use Rattle.placed_code.proofs.code.an_instruction_is_executed.Goals as goal

pub returns : goal.returns
returns c = is_executed
