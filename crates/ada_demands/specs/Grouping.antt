-- The constants of each generic.
use Rattle.std.specs.Prelude.{◌≡◌, ℕ, List, [], map, slice_index_or}
use Rattle.std.specs.declared.vec.Vec.{Vec}
use Rattle.std.specs.declared.alloc.Global.{Global}
use Rattle.ada_meaning.specs.Statics.{constants_of}
use Rattle.ada_tree.specs.declared.program.GenericConstant.{GenericConstant}
use Rattle.ada_tree.specs.Programs.{constant_of}

abbrev pub group_at : List (Vec GenericConstant Global) → ℕ → List GenericConstant
group_at groups g = slice_index_or (map (λ v. v.items) groups) g []

abbrev pub AreGrouped : List GenericConstant → List (Vec GenericConstant Global) → Type 0
AreGrouped cs groups = (g : ℕ) → map constant_of (group_at groups g) ≡ constants_of g (map constant_of cs)
