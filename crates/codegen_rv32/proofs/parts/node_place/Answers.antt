use Rattle.std.proofs.Common.{arith}
use Rattle.std.proofs.lemmas.Grind.{common_steps}
use Rattle.codegen_rv32.proofs.Nodes.{place_behind, place_at_end}
use Rattle.codegen_rv32.proofs.parts.node_place.Goals as goal

pub returns-in_ok-nodes_length-in-Some : goal.returns-in_ok-nodes_length-in-Some
returns-in_ok-nodes_length-in-Some c = grind (arith, common_steps, place_behind, place_at_end)

pub returns-in_ok-nodes_length-in-None : goal.returns-in_ok-nodes_length-in-None
returns-in_ok-nodes_length-in-None c = grind (arith, common_steps, place_behind, place_at_end)
