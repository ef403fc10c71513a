use Rattle.transcript.proofs.Readings.{tells_nothing, visits_nothing}
use Rattle.transcript.proofs.other_instructions_tell_nothing.Goals as goal

pub returns : goal.returns
returns c = record { events = tells_nothing; visits = visits_nothing }
