use Rattle.std.proofs.Common.{◌≡◌, ◌+◌, ◌*◌, drop}
use Rattle.rv_semantics.specs.Layout.{text_start}
use Rattle.assembler.specs.Placed.{words_in}
use Rattle.generated_images.proofs.links.end_in_time.Given as goal

-- the end of those so far, with the words to come, is the end of all
abbrev pub invariant-loop-piece : goal.invariant-loop-piece
invariant-loop-piece l = l.address + 4 * words_in (drop l.piece-index l.pieces) ≡ text_start + 4 * words_in l.pieces
