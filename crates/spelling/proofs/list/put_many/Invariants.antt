use Rattle.std.proofs.Common.{◌≡◌, ◌++◌, All, take}
use Rattle.std.specs.List.{flat_map}
use Rattle.spelling.proofs.list.put_many.Given as goal

abbrev pub invariant-loop-value : goal.invariant-loop-value
invariant-loop-value g l = record {
  spelled : l.into.items ≡ l.fn.into.items ++ flat_map g.T.Formatted.format.spell (take l.value-index l.values);
  fits : All g.T.Formatted.format.Fits (take l.value-index l.values);
}
