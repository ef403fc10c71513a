use Rattle.std.proofs.Common.{◌≡◌, ◌+◌, ◌*◌, ◌++◌, drop}
use Rattle.assembler.specs.Placed.{words_of, labels_of}
use Rattle.assembler.proofs.placing.labels_of.Given as goal

-- the labels so far and those to come are all
abbrev pub invariant-loop-item : goal.invariant-loop-item
invariant-loop-item l = record {
  end : l.address + 4 * words_of (drop l.item-index l.items) ≡ l.from + 4 * words_of l.items;
  rest : l.labels.items ++ labels_of l.address (drop l.item-index l.items) ≡ labels_of l.from l.items;
}
