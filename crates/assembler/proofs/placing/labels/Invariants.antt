use Rattle.std.proofs.Common.{◌≡◌, ◌+◌, ◌*◌, ◌++◌, drop}
use Rattle.rv_semantics.specs.Layout.{text_start}
use Rattle.assembler.specs.Placed.{words_in, labels_from}
use Rattle.assembler.proofs.placing.labels.Given as goal

-- the labels so far and those to come are all
abbrev pub invariant-loop-piece : goal.invariant-loop-piece
invariant-loop-piece l = record {
  end : l.address + 4 * words_in (drop l.piece-index l.pieces) ≡ text_start + 4 * words_in l.pieces;
  rest : l.all.items ++ labels_from l.address (drop l.piece-index l.pieces) ≡ labels_from text_start l.pieces;
}
