-- The headings that are left decide.
use Rattle.std.proofs.Common.{◌≡◌, drop}
use Rattle.ada_rules.specs.Library as rules
use Rattle.ada_rules.specs.Units.{all_headings}
use Rattle.ada_library.specs.LibraryView.{IsLibrary}
use Rattle.ada_library.proofs.heading.headings.Given as goal

abbrev pub invariant-loop-index : goal.invariant-loop-index
invariant-loop-index l =
    (x : rules.Library) → IsLibrary l.library l.units x
    → (all_headings x 0 l.units).answer ≡ (all_headings x l.index (drop l.index l.units)).answer
