use Rattle.transcript.proofs.Joined.{key_law, other_key, others_apart}
use Rattle.transcript.proofs.other_keys_stand_apart.Goals as goal

pub returns : goal.returns
returns c = record { same = key_law; other = other_key; apart = others_apart }
