-- What an object says of the addresses of its items is what their marks do.
use Rattle.std.proofs.Common.{◌≡◌, ℕ, ◌==◌, Bool, true, false, List, [], ◌∷◌, option_map, Some, None, refl, if◌then◌else◌}
use Rattle.std.specs.Option.{option_and_then}
use Rattle.assembler.specs.declared.piece.Mark.{Mark}
use Rattle.assembler.specs.declared.piece.Mark.TheVariants.{Row as RowMark, Role as RoleMark}
use Rattle.kernel_code.specs.Standing.{row_marked, condition_marked}
use Rattle.linker.specs.Laws.{row_at, role_at}
use Rattle.object_facts.specs.Object.{row_of, condition_of}
use Rattle.decision_map.specs.Roles as map

pub rows_kept : (address j : ℕ) (marks : List Mark) → option_map row_of (row_at address j marks) ≡ row_marked j marks
rows_kept address j [] = refl
rows_kept address j (RowMark item statement instance ∷ marks) = by_item (item.0 == j) (rows_kept address j marks)
  where
    by_item : (b : Bool) → option_map row_of (row_at address j marks) ≡ row_marked j marks
        → option_map row_of (if b then Some (record { address = address; statement = statement; instance = instance }) else row_at address j marks)
        ≡ (if b then Some (record { statement = statement; instance = instance }) else row_marked j marks)
    by_item true later = refl
    by_item false later = later
rows_kept address j (RoleMark item kind decision condition value instance ∷ marks) = rows_kept address j marks

pub conditions_kept : (address j : ℕ) (marks : List Mark) → option_map condition_of (option_and_then map.condition_of (role_at address j marks)) ≡ condition_marked j marks
conditions_kept address j [] = refl
conditions_kept address j (RowMark item statement instance ∷ marks) = conditions_kept address j marks
conditions_kept address j (RoleMark item kind decision condition value instance ∷ marks) = by_item (item.0 == j) (conditions_kept address j marks)
  where
    by_kind : (c : Bool) → option_map condition_of (if c then Some (record { decision = decision; condition = condition; when_taken = value == 1; instance = instance }) else None)
        ≡ (if c then Some (record { decision = decision; at_node = condition.0; when_taken = value == 1; instance = instance }) else None)
    by_kind true = refl
    by_kind false = refl

    by_item : (b : Bool) → option_map condition_of (option_and_then map.condition_of (role_at address j marks)) ≡ condition_marked j marks
        → option_map condition_of (option_and_then map.condition_of
        (if b then Some (record { address = address; kind = kind; decision = decision; condition = condition; value = value; instance = instance }) else role_at address j marks))
        ≡ (if b then (if kind.0 == 2 then Some (record { decision = decision; at_node = condition.0; when_taken = value == 1; instance = instance }) else None) else condition_marked j marks)
    by_item true later = by_kind (kind.0 == 2)
    by_item false later = later
