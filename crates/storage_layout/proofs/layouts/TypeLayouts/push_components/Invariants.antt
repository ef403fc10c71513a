-- The numbers and layouts so far, and those of the rest.
use Rattle.std.proofs.Common.{◌≡◌, ◌++◌, drop}
use Rattle.storage_layout.specs.Layouts as spec
use Rattle.storage_layout.proofs.layouts.TypeLayouts.push_components.Given as goal

abbrev pub invariant-loop-component : goal.invariant-loop-component
invariant-loop-component l =
    (l.numbers.items ++ spec.component_numbers l.program l.instance l.self (drop l.component-index l.components)
    ≡ spec.component_numbers l.program l.instance l.fn.self l.components)
    × (spec.with_components l.program l.instance (drop l.component-index l.components) l.self
    ≡ spec.with_components l.program l.instance l.components l.fn.self)
