use Rattle.std.proofs.Common.{ap, sym, ◌∙◌}
use Rattle.ada_tree.specs.Programs.{types_of}
use Rattle.generic_expand.specs.Copying.{of_subprograms}
use Rattle.generic_expand.specs.Expanded as spec
use Rattle.generic_expand.specs.Expanded.{has_too_many, passes_the_limit}
use Rattle.generic_expand.proofs.Copying.{of_all}
use Rattle.generic_expand.proofs.expansion.expand.Goals as goal

pub returns-in-Some-clause-refused : goal.returns-in-Some-clause-refused
returns-in-Some-clause-refused c =
    has_too_many (ap (spec.past_instances 0) (sym c.as_slice-units.ensures) ∙ sym c.past_instances.ensures ∙ c.in-Some.is)

pub returns-in-Some-first_past-clause-refused : goal.returns-in-Some-first_past-clause-refused
returns-in-Some-first_past-clause-refused c =
    passes_the_limit (ap (spec.past_instances 0) (sym c.as_slice-units.ensures) ∙ sym c.past_instances.ensures ∙ c.in_default.is)
    (ap (spec.first_past 0) (sym c.as_slice-units.ensures) ∙ sym c.first_past.ensures ∙ c.in-Some-first_past.is)

pub returns-clause-copies : goal.returns-clause-copies
returns-clause-copies c =
    let p = c.args.program.now in
    c.from.ensures ∙ c.in_ok-bodies.ensures ∙ (λ i. of_subprograms 0 (c.as_slice.ensures i) (c.as_slice-2.ensures i))
    ∙ of_all (types_of p.types) 0 p.subprograms p.instances
