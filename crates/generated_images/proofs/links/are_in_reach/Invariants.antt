use Rattle.std.proofs.Common.{drop}
use Rattle.rv_semantics.specs.Layout.{text_start}
use Rattle.assembler.specs.Reach.{PiecesReach}
use Rattle.generated_images.proofs.links.are_in_reach.Given as goal

-- where those to come are in reach, all are
abbrev pub invariant-loop-own : goal.invariant-loop-own
invariant-loop-own l = PiecesReach l.labels l.own l.address (drop l.own l.pieces) → PiecesReach l.labels 0 text_start l.pieces
