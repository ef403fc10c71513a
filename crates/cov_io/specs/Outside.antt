-- What files hold and a sink has taken, and how a call changes it.
use Rattle.std.specs.Prelude.{◌≡◌, ◌≢◌, ℕ, ◌+◌, ◌-◌, ◌^◌, ◌≤◌, ◌↔◌, min, List, [], ◌++◌, length, take, drop, Option, None, Some, IfSome, IsSomeAnd}
use Rattle.std.specs.Ordering.{nat_cmp}
use Rattle.std.specs.Cmp.Lexicographic.{slice_cmp}
use Rattle.std.specs.FinMap as map

-- the files that are there: a finite map from each name to its bytes
abbrev pub Held : Type 0
Held = map.FinMap (slice_cmp nat_cmp) (List ℕ)

-- the count went up, or stands at the end of its type
abbrev pub Rose : ℕ → ℕ → Type 0
Rose before now = min (before + 1) (2 ^ 64 - 1) ≤ now

-- what was told before the call is told after it, and the two are so related
abbrev pub WhereTold : {A : Type 0} → (A → A → Type 0) → Option A → Option A → Type 0
WhereTold Related old new = IfSome old (λ before. IsSomeAnd new (λ after. Related before after))

-- this name has these bytes
abbrev pub Holds : List ℕ → List ℕ → Held → Type 0
Holds name bytes held = map.get held name ≡ Some bytes

-- the part has the first of these bytes from a place on, and has none exactly where that is at their end or past it
pub record IsPart (from : ℕ) (bytes part : List ℕ) : Type 0 where
  pub taken : part ≡ take (length part) (drop from bytes)
  pub ended : part ≡ [] ↔ length bytes ≤ from

-- this name is there, with bytes of which this is a part
abbrev pub HoldsPart : List ℕ → ℕ → List ℕ → Held → Type 0
HoldsPart name from part held = IsSomeAnd (map.get held name) (λ bytes. IsPart from bytes part)

-- the files tell what they hold, and this name is not there
abbrev pub IsAbsent : Option Held → List ℕ → Type 0
IsAbsent held name = IsSomeAnd held (λ told. map.get told name ≡ None)

-- every other name has what it had
abbrev pub SameBut : List ℕ → Held → Held → Type 0
SameBut name old new = (other : List ℕ) → other ≢ name → map.get new other ≡ map.get old other

-- this name now has these bytes, and every other name has what it had
pub record Replaces (name bytes : List ℕ) (old new : Held) : Type 0 where
  pub there : Holds name bytes new
  pub others : SameBut name old new

-- all these bytes came to the end
abbrev pub Appends : List ℕ → List ℕ → List ℕ → Type 0
Appends bytes old new = new ≡ old ++ bytes

-- the first of these bytes came to the end, as many as were taken
abbrev pub AppendsPrefix : List ℕ → List ℕ → List ℕ → Type 0
AppendsPrefix bytes old new = (taken : ℕ) × (new ≡ old ++ take taken bytes)
