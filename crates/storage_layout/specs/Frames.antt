-- Where the objects of a body stand in its frame.
use Rattle.std.specs.Prelude.{ℕ, ◌+◌, ◌-◌, nat_lt, Bool, true, false, ◌&&◌, List, [], ◌∷◌, if◌then◌else◌}
use Rattle.ada_tree.specs.declared.program.Program.{Program}
use Rattle.ada_tree.specs.declared.types.Subtype.{Subtype}
use Rattle.ada_tree.specs.declared.types.Subtype.TheVariants as subtype
use Rattle.ada_tree.specs.Objects.{capped}
use Rattle.ada_resolved.specs.Forms.{named_type, shape_of}
use Rattle.ada_resolved.specs.Sizes.{words}
use Rattle.storage_layout.specs.declared.frames.LocalObject.{LocalObject}

abbrev pub is_scalar : Subtype → Bool
is_scalar (subtype.Scalar r) = true
is_scalar (subtype.Composite o n) = false

module _ (p : Program) (inst : ℕ) where
  -- so many slots, and those of an object more
  abbrev pub slots_with : (base : ℕ) → Subtype → ℕ
  slots_with base t = capped (base + words (shape_of p (named_type p inst t)))

  -- The object with this number, of which the first so many are parameters, where others have all slots below a base. A scalar parameter stands
  -- in the slot of its number; another object has the slots from the base on, and its first word stands in the last of them.
  abbrev pub object_at : (parameters number base : ℕ) → Subtype → LocalObject
  object_at parameters number base t =
      if nat_lt number parameters && is_scalar t
      then record { subtype = t; slot = capped number }
      else record { subtype = t; slot = slots_with base t - 1 }

  -- the first slot behind it
  abbrev pub base_at : (parameters number base : ℕ) → Subtype → ℕ
  base_at parameters number base t = if nat_lt number parameters && is_scalar t then base else slots_with base t

  -- those from a number on, and the first slot behind them
  abbrev pub placed : (parameters number base : ℕ) → List Subtype → List LocalObject
  placed parameters number base [] = []
  placed parameters number base (t ∷ ts) =
      object_at parameters number base t ∷ placed parameters (number + 1) (base_at parameters number base t) ts

  abbrev pub base_behind : (parameters number base : ℕ) → List Subtype → ℕ
  base_behind parameters number base [] = base
  base_behind parameters number base (t ∷ ts) = base_behind parameters (number + 1) (base_at parameters number base t) ts

  abbrev pub objects_of_frame : (parameters : ℕ) → List Subtype → List LocalObject
  objects_of_frame parameters ts = placed parameters 0 (capped parameters) ts

  abbrev pub base_of_frame : (parameters : ℕ) → List Subtype → ℕ
  base_of_frame parameters ts = base_behind parameters 0 (capped parameters) ts
