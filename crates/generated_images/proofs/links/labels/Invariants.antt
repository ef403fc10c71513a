use Rattle.std.proofs.Common.{◌≡◌, ◌++◌, drop}
use Rattle.rv_semantics.specs.Layout.{text_start}
use Rattle.assembler.specs.Placed.{labels_from}
use Rattle.generated_images.proofs.links.labels.Given as goal

-- the labels so far and those to come are all
abbrev pub invariant-loop-piece : goal.invariant-loop-piece
invariant-loop-piece l = l.all.items ++ labels_from l.address (drop l.piece-index l.pieces) ≡ labels_from text_start l.pieces
