-- What is left declares a subprogram where all do.
use Rattle.std.proofs.Common.{◌≡◌, drop}
use Rattle.ada_rules.specs.Library.{declares_subprogram}
use Rattle.ada_library.proofs.items.declares_subprogram.Given as goal

abbrev pub invariant-loop-item : goal.invariant-loop-item
invariant-loop-item l = declares_subprogram (drop l.item-index l.items) ≡ declares_subprogram l.items
