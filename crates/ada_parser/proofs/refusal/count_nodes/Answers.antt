use Rattle.std.proofs.Common.{ap, ◌∙◌, sum_by}
use Rattle.ada_syntax.specs.Nodes.{capped, unit_nodes}
use Rattle.ada_parser.proofs.refusal.count_nodes.Goals as goal

pub returns-clause-derived : goal.returns-clause-derived
returns-clause-derived c =
    (_, c.in_ok-units.ensures.tree, c.nodes_of.ensures ∙ ap (λ units. capped (sum_by unit_nodes units)) c.as_slice.ensures.value)

pub returns-clause-nodes : goal.returns-clause-nodes
returns-clause-nodes c =
    c.nodes_of.ensures ∙ ap (λ units. capped (sum_by unit_nodes units)) c.as_slice.ensures.value ∙ ap capped c.in_ok-units.ensures.nodes
