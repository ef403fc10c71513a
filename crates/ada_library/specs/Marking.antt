-- Marks on units.
use Rattle.std.specs.Prelude.{◌≡◌, ℕ, nat_eq, Bool, false, true, not, ◌&&◌, ◌||◌, List, slice_get, unwrap_or}
use Rattle.ada_rules.specs.Library.{is_among, edges}

abbrev pub is_marked : List Bool → ℕ → Bool
is_marked marks n = unwrap_or (slice_get marks n) false

abbrev pub AreSameMarks : (old new : List Bool) → Type 0
AreSameMarks old new = (n : ℕ) → is_marked new n ≡ is_marked old n

abbrev pub IsMarkedToo : ℕ → (old new : List Bool) → Type 0
IsMarkedToo unit old new = (n : ℕ) → is_marked new n ≡ (nat_eq n unit || is_marked old n)

-- the units of a list are those that are marked
abbrev pub AreMarked : List ℕ → List Bool → Type 0
AreMarked units marks = (n : ℕ) → is_marked marks n ≡ is_among units n

-- units are marked, and those that were not marked before are added to a list
pub record MarksNew (units : List ℕ) (old new : List Bool) (before behind : List ℕ) : Type 0 where
  pub marked : (n : ℕ) → is_marked new n ≡ (is_among units n || is_marked old n)
  pub added : (n : ℕ) → is_among behind n ≡ (is_among before n || (is_among units n && not (is_marked old n)))

-- A search so far: these units were reached, and all that they name were too, but for what the latest ones name.
pub record IsSearched (graph : List (List ℕ)) (units latest : List ℕ) : Type 0 where
  pub within : (n : ℕ) → is_among latest n ≡ true → is_among units n ≡ true
  pub closed : (m n : ℕ) → is_among units m ≡ true → is_among latest m ≡ false → is_among (edges graph m) n ≡ true
      → is_among units n ≡ true
