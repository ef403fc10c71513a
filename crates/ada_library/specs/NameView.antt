-- What the code's tables of names are seen as.
use Rattle.std.specs.Prelude.{ℕ, List}
use Rattle.std.specs.declared.vec.Vec.{Vec}
use Rattle.std.specs.declared.alloc.Global.{Global}

-- an entry of a map
abbrev pub entry_of : Vec ℕ Global × ℕ → List ℕ × ℕ
entry_of entry = (entry.0.items, entry.1)
