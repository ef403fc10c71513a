-- What the code's table of bodies is seen as.
use Rattle.std.specs.Prelude.{ℕ, List, map}
use Rattle.std.specs.declared.vec.Vec.{Vec}
use Rattle.std.specs.declared.alloc.Global.{Global}
use Rattle.ada_rules.specs.Environment.{BodyName}
use Rattle.ada_library.specs.BodyTable.{BodyTable}

abbrev pub name_of : Vec ℕ Global × Vec ℕ Global → BodyName
name_of names = record { package_name = names.0.items; name = names.1.items }

abbrev pub numbered : (Vec ℕ Global × Vec ℕ Global) × ℕ → BodyName × ℕ
numbered entry = (name_of entry.0, entry.1)

abbrev pub table_of : List ((Vec ℕ Global × Vec ℕ Global) × ℕ) → ℕ → BodyTable
table_of entries count = record { numbers = map numbered entries; count = count }
