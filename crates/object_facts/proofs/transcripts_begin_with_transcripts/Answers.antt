use Rattle.object_facts.proofs.Placed.{transcript_begins}
use Rattle.object_facts.proofs.transcripts_begin_with_transcripts.Goals as goal

pub returns : goal.returns
returns c = transcript_begins
