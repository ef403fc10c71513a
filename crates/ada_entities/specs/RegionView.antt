-- What the code's regions are seen as.
use Rattle.std.specs.Prelude.{ℕ, List}
use Rattle.std.specs.declared.vec.Vec.{Vec}
use Rattle.std.specs.declared.alloc.Global.{Global}
use Rattle.ada_entities.specs.declared.entity.Entity.{Entity}

-- an entry of a map
abbrev pub entry_of : Vec ℕ Global × Entity → List ℕ × Entity
entry_of entry = (entry.0.items, entry.1)
