-- What is left to count leads to what all count.
use Rattle.std.proofs.Common.{◌≡◌, ℕ, List, ◌++◌, drop}
use Rattle.ada_rules.specs.Entities.{key}
use Rattle.ada_rules.specs.Environment.{BodyName}
use Rattle.ada_rules.specs.Library.{body_names}
use Rattle.ada_library.specs.BodyNumbering.{number_in}
use Rattle.ada_library.proofs.bodies.BodyNumbers.add_items.Given as goal

abbrev pub invariant-loop-item : goal.invariant-loop-item
invariant-loop-item l =
    (behind : List BodyName) (unit name : List ℕ) → number_in l.self (body_names (key l.package_name) (drop l.item-index l.items) ++ behind) unit name
    ≡ number_in l.fn.self (body_names (key l.package_name) l.items ++ behind) unit name
