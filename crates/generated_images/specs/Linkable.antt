-- Which pieces can be linked.
use Rattle.std.specs.Prelude.{List}
use Rattle.assembler.specs.Reach.{AreInReach, EndInTime}
use Rattle.assembler.specs.declared.piece.Piece.{Piece}
use Rattle.linker.specs.Linked.{HasWord}

-- they begin with a word, each jump has a label and is in reach of it, and the text ends before the data
pub record CanBeLinked (pieces : List Piece) : Type 0 where
  pub has_word : HasWord pieces
  pub in_reach : AreInReach pieces
  pub in_time : EndInTime pieces
