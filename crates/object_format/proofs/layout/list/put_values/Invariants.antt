use Rattle.std.proofs.Common.{◌≡◌, ◌++◌, All, take}
use Rattle.std.specs.List.{flat_map}
use Rattle.object_format.proofs.layout.list.put_values.Given as goal

-- the values so far stand behind what stood there before, and they fit
abbrev pub invariant-loop-value : goal.invariant-loop-value
invariant-loop-value g l = record {
  appended : l.into.items ≡ l.fn.into.items ++ flat_map g.T.Stored.format.spell (take l.value-index l.values);
  fits : All g.T.Stored.format.Fits (take l.value-index l.values);
}
