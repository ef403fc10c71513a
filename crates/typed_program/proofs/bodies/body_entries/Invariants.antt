-- The entries so far, and those of the units that are left.
use Rattle.std.proofs.Common.{◌≡◌, ◌++◌, drop}
use Rattle.typed_program.proofs.BodyLaws.{entered_in}
use Rattle.typed_program.proofs.bodies.body_entries.Given as goal

abbrev pub invariant-loop-unit : goal.invariant-loop-unit
invariant-loop-unit l = l.entries.items ++ entered_in (drop l.unit-index l.units) ≡ entered_in l.fn.units
