use Rattle.std.proofs.Common.{refl, subst}
use Rattle.std.specs.Prelude.{◌≤◌, ◌+◌}
use Rattle.ada_rules.specs.Library.{library_of}
use Rattle.program_weights.specs.TypeWeights.{types_weight_in}
use Rattle.legal_counts.specs.TextParts.{exceptions_in, nodes_in}
use Rattle.legal_counts.proofs.ExceptionNodes.{exceptions_few_in}
use Rattle.legal_counts.proofs.NodesByGeneric.{all_parts_few}
use Rattle.legal_counts.proofs.ShownInterfaces.{roles_are, entries_are}
use Rattle.legal_counts.proofs.parts_of_each_generic_have_tokens.Goals as goal

pub returns-clause-text : goal.returns-clause-text
returns-clause-text c = λ standard units main p is full filled g.
    let l = library_of standard units in
    let whole = c.orders_of_legal_programs_are_whole.ensures standard units main p is in
    subst (λ n. nodes_in g p.subprograms + types_weight_in g is.walked.next.types_declared + exceptions_in g p.declared ≤ n)
    (roles_are l main p is whole is.walk.seen.world refl g)
    (all_parts_few l main p is full filled (types_weight_in g is.walked.next.types_declared) (exceptions_in g p.declared) g
    (c.types_of_each_generic_weigh_no_more_than_their_text.ensures standard units main p is g) (exceptions_few_in l main p is whole g))

pub returns-clause-entries : goal.returns-clause-entries
returns-clause-entries c = λ standard units main p is full filled counted w same g.
    let l = library_of standard units in
    let whole = c.orders_of_legal_programs_are_whole.ensures standard units main p is in
    subst (λ n. nodes_in g p.subprograms + types_weight_in g is.walked.next.types_declared + exceptions_in g p.declared ≤ n)
    (entries_are l main p is whole w same g counted)
    (all_parts_few l main p is full filled (types_weight_in g is.walked.next.types_declared) (exceptions_in g p.declared) g
    (c.types_of_each_generic_weigh_no_more_than_their_text.ensures standard units main p is g) (exceptions_few_in l main p is whole g))
