-- So many bodies stand before each unit, and a library subprogram is the unit of its name.
use Rattle.std.proofs.Common.{◌≡◌, ◌+◌, ℕ, zero, suc, true, List, [], ◌∷◌, length, Option, Some, None, slice_get, ap, subst, arith}
use Rattle.std.specs.Prelude.{not}
use Rattle.std.proofs.lemmas.Bool.{eqb-true, false≢true}
use Rattle.ada_syntax.specs.declared.unit.LibraryItem.TheVariants as library
use Rattle.ada_syntax.specs.declared.unit.SubprogramBody.{SubprogramBody}
use Rattle.ada_syntax.specs.declared.unit.Unit.{Unit as LibraryUnit}
use Rattle.ada_rules.specs.Entities.{key}
use Rattle.ada_rules.specs.Library.{Library, unit_named, bodies_of_item, is_test_io, is_first_name, is_declared_well}
use Rattle.legal_laws.proofs.Passing.{both_true}
use Rattle.legal_programs.specs.Homes.{AreHeaded}
use Rattle.legal_texts.proofs.InterfaceWalk.{same_some}

first_is : (n : ℕ) (o : Option ℕ) → is_first_name n o ≡ true → o ≡ Some n
first_is n None h = absurd (false≢true h)
first_is n (Some m) h = ap Some (eqb-true m n h)

none_is_some : {X : Type 0} {x : X} → None ≡ Some x → ⊥
none_is_some e = cc

-- so many bodies stand in the units before a place
abbrev pub bodies_before : ℕ → List LibraryUnit → ℕ
bodies_before zero us = 0
bodies_before (suc k) [] = 0
bodies_before (suc k) (u ∷ us) = length (bodies_of_item u.item) + bodies_before k us

pub before_next : (k : ℕ) (us : List LibraryUnit) (u : LibraryUnit) → slice_get us k ≡ Some u → bodies_before (suc k) us ≡ bodies_before k us + length (bodies_of_item u.item)
before_next zero [] u there = absurd (none_is_some there)
before_next (suc k) [] u there = absurd (none_is_some there)
before_next zero (v ∷ us) u there = let same = ap (λ x. length (bodies_of_item x.item)) (same_some there) in omega (arith, same)
before_next (suc k) (v ∷ us) u there = let rest = before_next k us u there in omega (arith, rest)

module _ (l : Library) where
  named_as : (n : ℕ) (b : SubprogramBody) → is_declared_well l n (library.Subprogram b) ≡ true → unit_named l.names (key b.specification.name) ≡ Some n
  named_as n b well =
      first_is n (unit_named l.names (key b.specification.name))
      (both_true (not (is_test_io b.specification.name)) (is_first_name n (unit_named l.names (key b.specification.name))) well).1

  pub headed_at : (n k : ℕ) (us : List LibraryUnit) (u : LibraryUnit) → AreHeaded l n us → slice_get us k ≡ Some u → is_declared_well l (n + k) u.item ≡ true
  headed_at n k [] u headed there = absurd (none_of k there)
    where
      none_of : (j : ℕ) → slice_get [] j ≡ Some u → ⊥
      none_of zero e = none_is_some e
      none_of (suc j) e = none_is_some e
  headed_at n zero (v ∷ us) u headed there =
      let none : n ≡ n + 0 = omega (arith) in
      subst (λ m. is_declared_well l m u.item ≡ true) none (subst (λ x. is_declared_well l n x.item ≡ true) (same_some there) headed.0.0)
  headed_at n (suc k) (v ∷ us) u headed there =
      let count : (n + 1) + k ≡ n + suc k = omega (arith) in
      subst (λ m. is_declared_well l m u.item ≡ true) count (headed_at (n + 1) k us u headed.1 there)

  -- the unit at a place has that number for its name
  pub named_at : (us : List LibraryUnit) (k : ℕ) (u : LibraryUnit) (b : SubprogramBody) → AreHeaded l 0 us → slice_get us k ≡ Some u → u.item ≡ library.Subprogram b
      → unit_named l.names (key b.specification.name) ≡ Some k
  named_at us k u b headed there item =
      let none : 0 + k ≡ k = omega (arith) in
      named_as k b (subst (λ i. is_declared_well l k i ≡ true) item
      (subst (λ m. is_declared_well l m u.item ≡ true) none (headed_at 0 k us u headed there)))
