use Rattle.std.proofs.Common.{take}
use Rattle.object_facts.specs.Object.{facts_of}
use Rattle.coverage_set.specs.Read.{HasReplayed}
use Rattle.coverage_set.proofs.said.replay.Given as goal

abbrev pub invariant-loop-at : goal.invariant-loop-at
invariant-loop-at l = HasReplayed (facts_of l.map) l.rebuild l.events (take l.at l.view.history)
