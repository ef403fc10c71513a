-- What the check `field` says.
use Rattle.std.proofs.Common.{◌≡◌, ◌+◌, ◌*◌, ◌%◌, Bool, true, ◌&&◌, length, nat_eq, nat_le, nat_lt, eqb-true}
use Rattle.std.specs.List.{list_all}
use Rattle.std.proofs.lemmas.Bool.{and_parts, ltb-true, leb-true}
use Rattle.object_format.specs.declared.object.Object.{Object}
use Rattle.object_format.specs.Fields.{is_placed, are_files, are_obliged, is_row, is_role, passes_field}
use Rattle.object_format.specs.Text.{text_end, is_in_text, IsLaidOut}

-- the parts of a test of six
record Six (a b c d e f : Bool) : Type 0 where
  first : a ≡ true
  second : b ≡ true
  third : c ≡ true
  fourth : d ≡ true
  fifth : e ≡ true
  sixth : f ≡ true

six_parts : (a b c d e f : Bool) → (a && b && c && d && e && f) ≡ true → Six a b c d e f
six_parts a b c d e f h =
    let five = and_parts (a && b && c && d && e) f h in
    let four = and_parts (a && b && c && d) e five.0 in
    let three = and_parts (a && b && c) d four.0 in
    let two = and_parts (a && b) c three.0 in
    let one = and_parts a b two.0 in
    record { first = one.0; second = one.1; third = two.1; fourth = three.1; fifth = four.1; sixth = five.1 }

-- the first of five tests
first_of : (a b c d e : Bool) → (a && b && c && d && e) ≡ true → a ≡ true
first_of a b c d e h = (and_parts a b (and_parts (a && b) c (and_parts (a && b && c) d (and_parts (a && b && c && d) e h).0).0).0).0

pub laid_out : (o : Object) → passes_field o ≡ true → IsLaidOut o
laid_out o h =
    let placed = first_of (is_placed o) (are_files o.files) (are_obliged (length o.files) o.obligations)
    (list_all (is_row (length o.obligations.statements) (length o.obligations.instances)) o.rows)
    (list_all (is_role o.obligations.decisions (length o.obligations.instances)) o.roles) h in
    let parts = six_parts (nat_lt 0 (length o.text)) (nat_le (length o.text) 4194304) (is_in_text o.text o.entry) (nat_eq (o.init_at % 4) 0)
    (nat_le (text_end o.text) o.init_at) (nat_le (o.init_at + 4 * length o.init) 0x2000000) placed in
    record {
      filled = ltb-true _ _ parts.first;
      limited = leb-true _ _ parts.second;
      entry = parts.third;
      aligned = eqb-true _ _ parts.fourth;
      behind = leb-true _ _ parts.fifth;
      within = leb-true _ _ parts.sixth;
    }
