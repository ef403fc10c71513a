use Rattle.object_facts.proofs.Agreed.{edges_agree, transfers_agree, kept_agree}
use Rattle.object_facts.proofs.maps_agree_with_facts.Goals as goal

pub returns : goal.returns
returns c = record {
  transfers = λ o pc sound. transfers_agree o pc sound;
  branches = λ o pc sound. edges_agree o pc sound;
  kept = λ o s. kept_agree o s;
}
