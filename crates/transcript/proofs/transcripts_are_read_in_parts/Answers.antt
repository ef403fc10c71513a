use Rattle.transcript.proofs.Joined.{visits_append, onto_append, completed_append, follow_append}
use Rattle.transcript.proofs.Readings.{reading_append}
use Rattle.transcript.proofs.transcripts_are_read_in_parts.Goals as goal

pub returns : goal.returns
returns c = record {
  visits = visits_append;
  past = onto_append;
  events = reading_append;
  completed = completed_append;
  disciplined = follow_append;
}
