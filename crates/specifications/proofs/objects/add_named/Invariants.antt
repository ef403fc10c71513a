-- What is left of the names, behind what was added, is all of them behind what there was.
use Rattle.std.proofs.Common.{◌≡◌, ◌++◌, drop}
use Rattle.ada_meaning.specs.Types.{here}
use Rattle.ada_rules.specs.Subprograms.{parameters_for}
use Rattle.ada_entities.specs.EntityViews.{Tables}
use Rattle.specifications.specs.Profiles.{parameters_of}
use Rattle.specifications.specs.Objects.{mode_in_form, mark_in_form}
use Rattle.specifications.proofs.objects.add_named.Given as goal

abbrev pub invariant-loop-name : goal.invariant-loop-name
invariant-loop-name l =
    (k : Tables)
    → parameters_of k here l.parameters.items
    ++ parameters_for (mode_in_form l.fn.form) (mark_in_form k l.fn.form) (drop l.name-index l.fn.names)
    ≡ parameters_of k here l.fn.parameters.items ++ parameters_for (mode_in_form l.fn.form) (mark_in_form k l.fn.form) l.fn.names
