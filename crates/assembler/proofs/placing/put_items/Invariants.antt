use Rattle.std.proofs.Common.{◌≡◌, ◌+◌, ◌*◌, ◌++◌, map, drop}
use Rattle.std.specs.List.{AllByRecursion}
use Rattle.rv_isa.specs.Rows.{word}
use Rattle.assembler.specs.Placed.{words_of, items_code}
use Rattle.assembler.specs.Reach.{ItemsReach, IsItem}
use Rattle.assembler.proofs.placing.put_items.Given as goal

-- the words so far and those to come are all
abbrev pub invariant-loop-item : goal.invariant-loop-item
invariant-loop-item l = record {
  end : l.at + 4 * words_of (drop l.item-index l.items) ≡ l.fn.address + 4 * words_of l.items;
  reach : ItemsReach l.labels l.own l.at (drop l.item-index l.items);
  rest : l.text.items ++ map word (items_code l.labels l.own l.at (drop l.item-index l.items))
      ≡ l.fn.text.items ++ map word (items_code l.labels l.own l.fn.address l.items);
  fits : AllByRecursion IsItem (drop l.item-index l.items) → AllByRecursion IsItem l.items;
}
