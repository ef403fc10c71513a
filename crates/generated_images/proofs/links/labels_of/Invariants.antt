use Rattle.std.proofs.Common.{◌≡◌, ◌++◌, drop}
use Rattle.assembler.specs.Placed.{labels_of}
use Rattle.generated_images.proofs.links.labels_of.Given as goal

-- the labels so far and those to come are all
abbrev pub invariant-loop-item : goal.invariant-loop-item
invariant-loop-item l = l.labels.items ++ labels_of l.address (drop l.item-index l.items) ≡ labels_of l.from l.items
