-- The names so far, and those that are left, are all.
use Rattle.std.proofs.Common.{◌≡◌, ℕ, List, drop}
use Rattle.ada_rules.specs.Library.{names_from}
use Rattle.ada_library.specs.NameTable.{named_in, bodies_from}
use Rattle.ada_library.proofs.unit_names.UnitNames.add_all.Given as goal

abbrev pub invariant-loop-index : goal.invariant-loop-index
invariant-loop-index l = record {
  named : (name : List ℕ) → named_in l.self.units (names_from l.index (drop l.index l.units)) name
      ≡ named_in l.fn.self.units (names_from 0 l.units) name;
  bodies : (name : List ℕ) → named_in l.self.package_bodies (bodies_from l.index (drop l.index l.units)) name
      ≡ named_in l.fn.self.package_bodies (bodies_from 0 l.units) name;
}
