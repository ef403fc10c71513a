-- A role is found by its address among roles whose addresses rise.
use Rattle.std.proofs.Common.{◌≡◌, ◌∙◌, ℕ, suc, zero, ◌<◌, ◌≤◌, ◌≢◌, Bool, ◌==◌, List, [], ◌∷◌, length, get_or, find, Option, Some, None, Result, Ok, Err, refl, sym, ap, eq-eqb, ne_eqb, arith, AllPairs, inl, inr}
use Rattle.std.proofs.lemmas.Bool.Decides.{leb_tells}
use Rattle.std.specs.List.Sorted.{IsSearchInRange, IsBinarySearchResult, IsNonDecreasingBy}
use Rattle.std.specs.Ordering.{nat_cmp, ordering_index}
use Rattle.std.proofs.lemmas.Cmp.{ranked}
use Rattle.std.proofs.lemmas.List.Sorted.{IsNonDecreasingBy-from_default}
use Rattle.std.proofs.lemmas.Bool.Decides.{nat_tests}
use Rattle.line_table.specs.declared.roles.Role.{Role}

-- a role's test
abbrev pub stands_at : ℕ → Role → Bool
stands_at pc role = role.address == pc

abbrev pub Rise : List Role → Type 0
Rise roles = AllPairs (λ (first next : Role). first.address < next.address) roles

rise_behind : (role : Role) (roles : List Role) → Rise (role ∷ roles) → Rise roles
rise_behind role roles rise i j d before within = rise (suc i) (suc j) d (omega arith) (omega arith)

-- the role at a place is the first of its address
pub found_first : (roles : List Role) (at : ℕ) (pc : ℕ) (d : Role) → Rise roles → at < length roles → (get_or roles at d).address ≡ pc
    → find (stands_at pc) roles ≡ Some (get_or roles at d)
found_first [] at pc d rise within is = absurd (omega arith)
found_first (role ∷ roles) zero pc d rise within is = rw (eq-eqb role.address pc is) refl
found_first (role ∷ roles) (suc at) pc d rise within is =
    let before : role.address < (get_or roles at d).address = rise zero (suc at) d (omega arith) within in
    let other : role.address ≢ pc = λ same. absurd (omega arith) in
    rw (ne_eqb role.address pc other) (found_first roles at pc d (rise_behind role roles rise) (omega arith) is)

-- the role that stands at a place, where it has the address
pub found_hinted : (roles : List Role) (at : ℕ) (pc : ℕ) (role : Role) → Rise roles → at < length roles → role ≡ get_or roles at role → role.address ≡ pc
    → Some role ≡ find (stands_at pc) roles
found_hinted roles at pc role rise within is same =
    ap (λ (r : Role). Some r) is ∙ sym (found_first roles at pc role rise within (ap (λ (r : Role). r.address) (sym is) ∙ same))

-- no role is found where none has the address
pub found_none : (roles : List Role) (pc : ℕ) → ((k : ℕ) (d : Role) → k < length roles → (get_or roles k d).address ≢ pc)
    → find (stands_at pc) roles ≡ None
found_none [] pc none = refl
found_none (role ∷ roles) pc none =
    rw (ne_eqb role.address pc (none zero role (omega arith)))
    (found_none roles pc (λ k d within. none (suc k) d (omega arith)))

-- the role at the place that a search answers
abbrev pub found_at : List Role → Role → Result ℕ ℕ → Option Role
found_at roles e (Ok at) = Some (get_or roles at e)
found_at roles e (Err at) = None

module _ (roles : List Role) (rise : Rise roles) (pc : ℕ) (e : Role) where
  comparisons_rise : IsNonDecreasingBy (λ (role : Role). ordering_index (nat_cmp role.address pc)) roles
  comparisons_rise = IsNonDecreasingBy-from_default (λ (role : Role). ordering_index (nat_cmp role.address pc)) roles e (λ i j le in_range.
      let rises : (get_or roles i e).address ≤ (get_or roles j e).address =
      grind (arith, rise i j e, λ (same : i ≡ j). ap (λ (k : ℕ). (get_or roles k e).address) same) in
      grind (arith, nat_tests))

  -- what a search by address answers
  pub searched : (r : Result ℕ ℕ) → IsSearchInRange r (length roles) → IsBinarySearchResult (λ (role : Role). nat_cmp role.address pc) roles r
      → found_at roles e r ≡ find (stands_at pc) roles
  searched (Ok at) within equal = sym (found_first roles at pc e rise within (ranked _ pc _ (sym (equal e))))
  searched (Err at) within parted =
      sym (found_none roles pc (λ k d below same. elim (leb_tells at k) [
        | inl high ↦ let more : pc < (get_or roles k d).address = ranked _ pc _ (sym ((parted comparisons_rise).1 k d high.1 below)) in absurd (omega arith)
        | inr low ↦ let less : (get_or roles k d).address < pc = ranked _ pc _ (sym ((parted comparisons_rise).0 k d (omega (arith, low.1)) low.1)) in absurd (omega arith)
      ]))
