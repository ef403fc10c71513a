-- The entries so far, and those of the items that are left.
use Rattle.std.proofs.Common.{◌≡◌, ◌++◌, drop}
use Rattle.typed_program.proofs.BodyLaws.{entered_among}
use Rattle.typed_program.proofs.bodies.add_items.Given as goal

abbrev pub invariant-loop-item : goal.invariant-loop-item
invariant-loop-item l = l.entries.items ++ entered_among (drop l.item-index l.items) ≡ l.fn.entries.items ++ entered_among l.fn.items
