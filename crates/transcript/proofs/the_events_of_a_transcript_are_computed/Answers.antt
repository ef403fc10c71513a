use Rattle.std.proofs.Common.{[]}
use Rattle.transcript.proofs.Readings.{reading_law}
use Rattle.transcript.proofs.the_events_of_a_transcript_are_computed.Goals as goal

pub returns : goal.returns
returns c = record { whole = λ o ss es fair. reading_law o [] ss es fair; part = reading_law }
