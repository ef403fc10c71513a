use Rattle.ada_rules.specs.Library.{library_of}
use Rattle.program_weights.specs.TypeWeights.{types_weight}
use Rattle.legal_counts.proofs.NodesOfUnits.{few_beside_weights}
use Rattle.legal_counts.proofs.nodes_and_types_have_tokens.Goals as goal

pub returns : goal.returns
returns c = λ standard units main p is whole filled.
    few_beside_weights (types_weight is.walked.next.types_declared) (library_of standard units) main p is whole filled
    (c.types_weigh_no_more_than_their_text.ensures standard units main p is)
