use Rattle.kernel_code.proofs.Behind.{past_tells, past_is_disciplined}
use Rattle.kernel_code.proofs.laws.a_past_tells_what_its_transcript_tells.Goals as goal

pub returns-clause-told : goal.returns-clause-told
returns-clause-told c = past_tells

pub returns-clause-disciplined : goal.returns-clause-disciplined
returns-clause-disciplined c = past_is_disciplined
