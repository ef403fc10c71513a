use Rattle.ada_rules.specs.Refusals.{looked_at}
use Rattle.ada_rules.proofs.Laws.{refusal_offends}
use Rattle.ada_rules.proofs.a_refusal_offends.Goals as goal

pub returns : goal.returns
returns c step l main p h = refusal_offends (looked_at step l main) p h
