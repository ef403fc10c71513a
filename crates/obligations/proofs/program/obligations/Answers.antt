use Rattle.std.proofs.Common.{◌∷◌, map, ap, ◌∙◌}
use Rattle.ada_tree.specs.Programs.{instance_of}
use Rattle.ada_meaning.specs.Obligations.{in_order, instance_entry, no_instance}
use Rattle.obligations.specs.Entries.{of_subprograms}
use Rattle.obligations.specs.Ordered.{statement_before, decision_before}
use Rattle.obligations.proofs.Whole.{all_parts}
use Rattle.obligations.proofs.program.obligations.Goals as goal

pub returns : goal.returns
returns c =
    all_parts c.args.program.now c.in_ok-listing.listing
    c.from.result c.from-2.result c.from-3.result c.from-4.result c.from-5.result
    (c.in_ok-listing.ensures ∙ ap of_subprograms c.as_slice.ensures)
    (c.from.ensures ∙ c.in_ok-sort_statements.ensures ∙ ap (in_order statement_before) c.into_parts-statements.ensures.statements)
    (c.from-2.ensures ∙ c.in_ok-sort_decisions.ensures ∙ ap (in_order decision_before) c.into_parts-statements.ensures.decisions)
    (c.from-3.ensures ∙ c.new.ensures.items)
    (c.from-4.ensures ∙ c.in_ok-instances.ensures ∙ ap (λ is. no_instance ∷ map instance_entry (map instance_of is)) c.as_slice-2.ensures)
    (c.from-5.ensures ∙ c.in_ok-exceptions.ensures)
