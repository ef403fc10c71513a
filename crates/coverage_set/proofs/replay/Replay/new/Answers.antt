use Rattle.std.proofs.Common.{refl}
use Rattle.object_facts.specs.Object.{facts_of}
use Rattle.coverage_set.proofs.ReplaySeen.{none_replayed}
use Rattle.coverage_set.proofs.replay.Replay.new.Goals as goal

pub returns : goal.returns
returns c = λ o. none_replayed o _ (c.new.ensures.fed (facts_of o)) c.new-2.ensures refl
