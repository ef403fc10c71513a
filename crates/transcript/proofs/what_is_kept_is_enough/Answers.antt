use Rattle.transcript.proofs.Broken.{keeps_none}
use Rattle.transcript.proofs.Kept.{kept_follows, kept_completes, kept_keeps}
use Rattle.transcript.proofs.what_is_kept_is_enough.Goals as goal

pub returns : goal.returns
returns c = record {
  none = keeps_none;
  follows = kept_follows;
  completes = kept_completes;
  keeps = kept_keeps;
}
