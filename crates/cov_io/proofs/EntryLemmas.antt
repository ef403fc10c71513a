-- What entries hold at a name, and after one is changed or added.
use Rattle.std.proofs.Common.{◌≡◌, ◌≢◌, ℕ, Bool, true, false, cond, List, [], ◌∷◌, ◌++◌, length, get_or, Option, None, Some, refl, sym, ap, ◌∙◌, slice_set, position}
use Rattle.std.specs.Prelude.{string_bytes, option_map, nat_lt}
use Rattle.std.specs.List.{find, slice_get, position_or_len}
use Rattle.std.specs.Option.{option_or}
use Rattle.std.specs.Str.{bytes_eq}
use Rattle.std.specs.Ordering.{nat_cmp, eq_by_cmp}
use Rattle.std.specs.Cmp.{eq_by_cmp_equiv}
use Rattle.std.specs.Cmp.Lexicographic.{slice_cmp, nat_list_cmp_total}
use Rattle.std.specs.FinMap as map
use Rattle.std.proofs.lemmas.List.Folds.{find_at, find-set, find_past, find-append}
use Rattle.std.proofs.lemmas.List.Quantifiers.{position-Some}
use Rattle.std.proofs.lemmas.Map.Text.{is_eq-slice_cmp}
use Rattle.std.proofs.lemmas.Bool.{ltb-false}
use Rattle.std.proofs.lemmas.Option.{slice_get_past, slice_get-get_or, cond_some}
use Rattle.std.proofs.lemmas.Slice.Eq.{bytes_eq-Decides}
use Rattle.cov_io.specs.declared.contents.Entry.{Entry}
use Rattle.cov_io.specs.Entries.{held_of, has_name}
use Rattle.cov_io.specs.Outside.{Replaces}

abbrev bytes_of : Entry → List ℕ
bytes_of entry = entry.bytes.items

first_of_two : (b : Bool) (entry : Entry) (others : Option Entry) → cond b (Some (bytes_of entry)) (option_map bytes_of others) ≡ option_map bytes_of (cond b (Some entry) others)
first_of_two true entry others = refl
first_of_two false entry others = refl

-- a name is found by its bytes, whichever of the two comes first
tied : (name other : List ℕ) → eq_by_cmp (slice_cmp nat_cmp) name other ≡ bytes_eq other name
tied name other = (eq_by_cmp_equiv nat_list_cmp_total).symm name other ∙ is_eq-slice_cmp other name

-- the bytes held under a name are those of the first entry that has it
pub get-held_of : (entries : List Entry) (name : List ℕ) → map.get (held_of entries) name ≡ option_map bytes_of (find (has_name name) entries)
get-held_of [] name = map.get-empty (slice_cmp nat_cmp) name
get-held_of (entry ∷ entries) name =
    map.get-insert nat_list_cmp_total (held_of entries) (string_bytes entry.name) (bytes_of entry) name
    ∙ ap (λ b. cond b (Some (bytes_of entry)) (map.get (held_of entries) name)) (tied name (string_bytes entry.name))
    ∙ ap (cond (has_name name entry) (Some (bytes_of entry))) (get-held_of entries name)
    ∙ first_of_two (has_name name entry) entry (find (has_name name) entries)

not_true : (b : Bool) → (b ≡ true → ⊥) → b ≡ false
not_true true h = absurd (h refl)
not_true false h = refl

not_placed : (b : Bool) (place : ℕ) → cond b (Some place) None ≡ None → b ≡ false
not_placed true place none = cc
not_placed false place none = refl

option_or-None : {X : Type 0} (o : Option X) → option_or o None ≡ o
option_or-None None = refl
option_or-None (Some x) = refl

is_first : {X : Type 0} (p : X → Bool) (xs : List X) (place : ℕ) → position p xs ≡ Some place → position_or_len p xs ≡ place
is_first p xs place some = (cond_some (nat_lt (position_or_len p xs) (length xs)) (position_or_len p xs) place some).1

-- the first element that passes stands at its place, and there is none where no place is given
find_none : {X : Type 0} (p : X → Bool) (xs : List X) → position p xs ≡ None → find p xs ≡ None
find_none p xs none = find_at p xs ∙ slice_get_past xs (position_or_len p xs) (ltb-false _ _ (not_placed _ _ none))

find_some : {X : Type 0} (p : X → Bool) (xs : List X) (place : ℕ) (d : X) → position p xs ≡ Some place → find p xs ≡ Some (get_or xs place d)
find_some p xs place d some =
    find_at p xs ∙ ap (slice_get xs) (is_first p xs place some) ∙ slice_get-get_or xs place d (position-Some p xs place d some).0

find-append_None : {X : Type 0} (p : X → Bool) (xs : List X) (x : X) → find p xs ≡ None → p x ≡ true → find p (xs ++ x ∷ []) ≡ Some x
find-append_None p xs x none passes =
    find-append p xs (x ∷ []) ∙ ap (λ o. option_or o (cond (p x) (Some x) None)) none ∙ ap (λ b. cond b (Some x) None) passes

find-append_false : {X : Type 0} (p : X → Bool) (xs : List X) (x : X) → p x ≡ false → find p (xs ++ x ∷ []) ≡ find p xs
find-append_false p xs x fails =
    find-append p xs (x ∷ []) ∙ ap (λ b. option_or (find p xs) (cond b (Some x) None)) fails ∙ option_or-None (find p xs)

has_name-true : (entry : Entry) (name : List ℕ) → string_bytes entry.name ≡ name → has_name name entry ≡ true
has_name-true entry name named = (bytes_eq-Decides (string_bytes entry.name) name).1 named

has_name-false : (entry : Entry) (name other : List ℕ) → string_bytes entry.name ≡ name → other ≢ name → has_name other entry ≡ false
has_name-false entry name other named differs =
    not_true (has_name other entry) (λ same. differs (sym ((bytes_eq-Decides (string_bytes entry.name) other).0 same) ∙ named))

pub get-held_of-None : (entries : List Entry) (name : List ℕ) → position (has_name name) entries ≡ None → map.get (held_of entries) name ≡ None
get-held_of-None entries name none = get-held_of entries name ∙ ap (option_map bytes_of) (find_none (has_name name) entries none)

pub get-held_of-Some : (entries : List Entry) (name : List ℕ) (place : ℕ) (entry : Entry) → position (has_name name) entries ≡ Some place → map.get (held_of entries) name ≡ Some (bytes_of (get_or entries place entry))
get-held_of-Some entries name place entry some =
    get-held_of entries name ∙ ap (option_map bytes_of) (find_some (has_name name) entries place entry some)

-- giving other bytes to the first entry that has a name replaces its bytes
pub Replaces-set : (entries : List Entry) (name : List ℕ) (place : ℕ) (old entry : Entry) → position (has_name name) entries ≡ Some place → old ≡ get_or entries place old → string_bytes entry.name ≡ string_bytes old.name → Replaces name (bytes_of entry) (held_of entries) (held_of (slice_set entries place entry))
Replaces-set entries name place old entry some read kept =
    let first = position-Some (has_name name) entries place old some in
    let old_named : string_bytes (get_or entries place old).name ≡ name = (bytes_eq-Decides (string_bytes (get_or entries place old).name) name).0 first.1 in
    let named : string_bytes entry.name ≡ name = kept ∙ ap (λ e. string_bytes e.name) read ∙ old_named in
    record {
      there = get-held_of _ name
          ∙ ap (option_map bytes_of) (find-set (has_name name) entries place entry (sym (is_first (has_name name) entries place some)) first.0 (has_name-true entry name named));
      others = λ other differs.
          get-held_of _ other
          ∙ ap (option_map bytes_of) (find_past (has_name other) entries place entry old (has_name-false (get_or entries place old) name other old_named differs) (has_name-false entry name other named differs))
          ∙ sym (get-held_of entries other);
    }

-- adding an entry whose name is new gives the name its bytes
pub Replaces-append : (entries : List Entry) (name : List ℕ) (entry : Entry) → position (has_name name) entries ≡ None → string_bytes entry.name ≡ name → Replaces name (bytes_of entry) (held_of entries) (held_of (entries ++ entry ∷ []))
Replaces-append entries name entry none named =
    record {
      there = get-held_of _ name
          ∙ ap (option_map bytes_of) (find-append_None (has_name name) entries entry (find_none (has_name name) entries none) (has_name-true entry name named));
      others = λ other differs.
          get-held_of _ other
          ∙ ap (option_map bytes_of) (find-append_false (has_name other) entries entry (has_name-false entry name other named differs))
          ∙ sym (get-held_of entries other);
    }
