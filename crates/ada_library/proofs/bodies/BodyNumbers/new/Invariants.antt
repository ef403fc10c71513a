-- The bodies so far, and those that are left, are all.
use Rattle.std.proofs.Common.{◌≡◌, ℕ, List, drop}
use Rattle.ada_rules.specs.Library.{all_bodies}
use Rattle.ada_rules.specs.Subprograms.{place_among}
use Rattle.ada_library.specs.BodyNumbering.{number_in}
use Rattle.ada_library.proofs.bodies.BodyNumbers.new.Given as goal

abbrev pub invariant-loop-unit : goal.invariant-loop-unit
invariant-loop-unit l =
    (unit name : List ℕ) → number_in l.bodies (all_bodies (drop l.unit-index l.units)) unit name
    ≡ place_among unit name 0 (all_bodies l.units)
