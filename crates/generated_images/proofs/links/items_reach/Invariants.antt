use Rattle.std.proofs.Common.{drop}
use Rattle.assembler.specs.Reach.{ItemsReach}
use Rattle.generated_images.proofs.links.items_reach.Given as goal

-- where those to come are in reach, all are
abbrev pub invariant-loop-item : goal.invariant-loop-item
invariant-loop-item l = ItemsReach l.labels l.own l.at (drop l.item-index l.items) → ItemsReach l.labels l.own l.address l.items
