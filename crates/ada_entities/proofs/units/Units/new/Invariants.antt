use Rattle.std.proofs.Common.{◌≡◌, replicate}
use Rattle.ada_entities.specs.declared.units.Interface.TheVariants as interface
use Rattle.ada_entities.proofs.units.Units.new.Given as goal

abbrev pub invariant-loop : goal.invariant-loop
invariant-loop l = l.interfaces.items ≡ replicate l.counter interface.Unknown
