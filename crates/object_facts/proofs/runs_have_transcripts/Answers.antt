use Rattle.object_facts.proofs.Placed.{run_transcript, run_ended}
use Rattle.object_facts.proofs.runs_have_transcripts.Goals as goal

pub returns : goal.returns
returns c = record {
  transcript = λ o budget input sound. run_transcript o budget input sound;
  ended = λ o budget input number sound is. run_ended o budget input number sound is;
}
