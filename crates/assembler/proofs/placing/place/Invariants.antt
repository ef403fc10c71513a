use Rattle.std.proofs.Common.{◌≡◌, ◌+◌, ◌*◌, ◌++◌, map, drop}
use Rattle.rv_isa.specs.Rows.{word}
use Rattle.rv_semantics.specs.Layout.{text_start}
use Rattle.assembler.specs.Placed.{words_in, labels, pieces_code, code}
use Rattle.assembler.specs.Reach.{PiecesReach, AreItems}
use Rattle.assembler.proofs.placing.place.Given as goal

-- the words so far and those to come are all
abbrev pub invariant-loop-own : goal.invariant-loop-own
invariant-loop-own l = record {
  made : l.labels.items ≡ labels l.pieces;
  end : l.address + 4 * words_in (drop l.own l.pieces) ≡ text_start + 4 * words_in l.pieces;
  reach : PiecesReach l.labels.items l.own l.address (drop l.own l.pieces);
  rest : l.text.items ++ map word (pieces_code l.labels.items l.own l.address (drop l.own l.pieces))
      ≡ map word (code l.pieces);
  fits : AreItems (drop l.own l.pieces) → AreItems l.pieces;
}
