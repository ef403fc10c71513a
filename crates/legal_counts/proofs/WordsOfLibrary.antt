-- The words of units keep to their limit; and a library whose objects have known bounds has a size where its words do.
use Rattle.std.proofs.Common.{◌≡◌, ◌≤◌, ◌+◌, ℕ, zero, suc, nat_le, Bool, true, false, if◌then◌else◌, List, [], ◌∷◌, length, Option, Some, None, option_map, slice_get, refl, ap, ◌∙◌, arith}
use Rattle.std.specs.Option.{option_and_then}
use Rattle.std.proofs.lemmas.Bool.{eqb-true, false≢true}
use Rattle.std.proofs.lemmas.Bool.Decides.{nat_tests}
use Rattle.cov_base.specs.Lists.{Everywhere}
use Rattle.cov_base.specs.declared.position.Pos.{Pos}
use Rattle.ada_syntax.specs.declared.unit.Unit.{Unit as LibraryUnit}
use Rattle.ada_meaning.specs.Bodies.{StandsIn}
use Rattle.ada_meaning.specs.Program.{Instance, LibraryObject, Program}
use Rattle.ada_meaning.specs.Statics.{values_of}
use Rattle.ada_resolved.specs.Library.{has_text, stands_in, with_objects, with_instances, program_size}
use Rattle.ada_resolved.specs.Sizes.{word_limit, with_component, type_size}
use Rattle.ada_rules.specs.Environment.{World, interface_of, UnitWords}
use Rattle.ada_rules.specs.Library.{Library}
use Rattle.ada_rules.specs.Limits.{words_in, words_by, earlier_of, first_place, first_declared, first_unit, most_words_of_type, most_words_of_subprogram, most_words_of_library}
use Rattle.ada_rules.specs.Statics.{Facts}
use Rattle.legal_laws.specs.Valued.{HaveFacts}
use Rattle.legal_programs.specs.Walked.{IsLegal}
use Rattle.legal_programs.proofs.Limited.{both_none}
use Rattle.legal_laws.specs.Bounded.{IsBounded}
use Rattle.legal_counts.specs.LibraryWords.{words_at, words_of_instances, library_words, words_of_units}
use Rattle.legal_counts.proofs.WordsOfTypes.{within_limit, size_is}

-- units
some_is_none : {X : Type 0} {x : X} → Some x ≡ None → ⊥
some_is_none e = cc

fits_if : (b : Bool) (x : ℕ) (p : Pos) (more : Option Pos) → nat_le x most_words_of_library ≡ b → (if b then more else Some p) ≡ None
    → (x ≤ most_words_of_library) × (more ≡ None)
fits_if true x p more e h = (grind (arith, nat_tests, e), h)
fits_if false x p more e h = absurd (some_is_none h)

units_fit : (w : World) (ws : List UnitWords) (n before : ℕ) (us : List LibraryUnit) → before ≤ most_words_of_library → first_unit w ws n before us ≡ None
    → before + words_of_units w ws n us ≤ most_words_of_library
units_fit w ws n before [] few h = nothing_more before few
  where
    nothing_more : (k : ℕ) → k ≤ most_words_of_library → k + 0 ≤ most_words_of_library
    nothing_more k le = omega (arith, le)
units_fit w ws n before (u ∷ us) few h =
    let here = words_by w.instances n (interface_of w n) ws in
    let this = fits_if (nat_le (before + here) most_words_of_library) (before + here) u.pos (first_unit w ws (n + 1) (before + here) us) refl h in
    grouped before here (words_of_units w ws (n + 1) us) (units_fit w ws (n + 1) (before + here) us this.0 this.1)
  where
    grouped : (a b c : ℕ) → (a + b) + c ≤ most_words_of_library → a + (b + c) ≤ most_words_of_library
    grouped a b c le = omega (arith, le)

pub few_unit_words : (l : Library) (main : List ℕ) (p : Program) → (is : IsLegal l main p)
    → words_of_units is.walked.world is.walked.next.unit_words 0 l.units ≤ most_words_of_library
few_unit_words l main p is =
    let w = is.walked.world in
    let s = is.walked.next in
    let units = first_unit w s.unit_words 0 0 l.units in
    let words = earlier_of (first_declared w.instances most_words_of_subprogram s.subprogram_words) units in
    let types = earlier_of (first_declared w.instances most_words_of_type s.types_declared) words in
    let first = both_none (first_place s.excesses) types is.limited in
    let second = both_none (first_declared w.instances most_words_of_type s.types_declared) words first.1 in
    let third = both_none (first_declared w.instances most_words_of_subprogram s.subprogram_words) units second.1 in
    let all = units_fit w s.unit_words 0 0 l.units (omega (arith)) third.1 in
    omega (arith, all)

-- what stands in an instance of the program
has_generic : (g : ℕ) (o : Option Instance) → has_text g o ≡ true → option_map (λ x. x.generic) o ≡ Some g
has_generic g None h = absurd (false≢true h)
has_generic g (Some i) h = ap (λ n. Some n) (eqb-true i.generic g h)

module _ (p : Program) (facts : List Facts) (has : HaveFacts p.instances facts) where
  abbrev IsBoundedThere : LibraryObject → Type 0
  IsBoundedThere o = (i : ℕ) → StandsIn p o.generic i → IsBounded p i o.subtype

  stands : (o : Option ℕ) (i : ℕ) → stands_in p.instances o i ≡ true → StandsIn p o i
  stands None zero h = refl
  stands None (suc i) h = absurd (false≢true h)
  stands (Some g) zero h = absurd (false≢true h)
  stands (Some g) (suc i) h = has_generic g (slice_get p.instances i) h

  object_added : (inst before : ℕ) (o : LibraryObject) → IsBoundedThere o → (b : Bool) → stands_in p.instances o.generic inst ≡ b
      → before + (if b then words_in facts inst o.subtype else 0) ≤ word_limit
      → (if b then with_component before (type_size (values_of p) inst o.subtype) else Some before) ≡ Some (before + (if b then words_in facts inst o.subtype else 0))
  object_added inst before o bounded true e few =
      let here = words_in facts inst o.subtype in
      ap (with_component before) (size_is p facts has inst o.subtype (bounded inst (stands o.generic inst e)) (second_in before here few)) ∙ within_limit (before + here) few
    where
      second_in : (a b : ℕ) → a + b ≤ word_limit → b ≤ word_limit
      second_in a b le = omega (arith, le)
  object_added inst before o bounded false e few = ap (λ n. Some n) (nothing_more before)
    where
      nothing_more : (n : ℕ) → n ≡ n + 0
      nothing_more n = omega (arith)

  objects_added : (inst before : ℕ) (os : List LibraryObject) → Everywhere IsBoundedThere os → before + words_at p facts inst os ≤ word_limit
      → with_objects p inst before os ≡ Some (before + words_at p facts inst os)
  objects_added inst before [] bounded few = ap (λ n. Some n) (nothing_more before)
    where
      nothing_more : (n : ℕ) → n ≡ n + 0
      nothing_more n = omega (arith)
  objects_added inst before (o ∷ os) bounded few =
      let here : ℕ = if stands_in p.instances o.generic inst then words_in facts inst o.subtype else 0 in
      let rest = words_at p facts inst os in
      ap (option_and_then (λ n. with_objects p inst n os)) (object_added inst before o bounded.0 (stands_in p.instances o.generic inst) refl (first_in before here rest few))
      ∙ (objects_added inst (before + here) os bounded.1 (grouped before here rest few) ∙ ap (λ n. Some n) (regrouped before here rest))
    where
      first_in : (a b c : ℕ) → a + (b + c) ≤ word_limit → a + b ≤ word_limit
      first_in a b c le = omega (arith, le)

      grouped : (a b c : ℕ) → a + (b + c) ≤ word_limit → (a + b) + c ≤ word_limit
      grouped a b c le = omega (arith, le)

      regrouped : (a b c : ℕ) → (a + b) + c ≡ a + (b + c)
      regrouped a b c = omega (arith)

  instances_added : (before count i : ℕ) → Everywhere IsBoundedThere p.objects → before + words_of_instances p facts count i ≤ word_limit
      → with_instances p before count i ≡ Some (before + words_of_instances p facts count i)
  instances_added before zero i bounded few = ap (λ n. Some n) (nothing_more before)
    where
      nothing_more : (n : ℕ) → n ≡ n + 0
      nothing_more n = omega (arith)
  instances_added before (suc n) i bounded few =
      let here = words_at p facts i p.objects in
      let rest = words_of_instances p facts n (i + 1) in
      ap (λ o. option_and_then (λ w. with_instances p w n (i + 1)) (with_component before o))
      (objects_added i 0 p.objects bounded (alone before here rest few) ∙ ap (λ k. Some k) (from_nothing here))
      ∙ (ap (option_and_then (λ w. with_instances p w n (i + 1))) (within_limit (before + here) (first_in before here rest few))
      ∙ (instances_added (before + here) n (i + 1) bounded (grouped before here rest few) ∙ ap (λ k. Some k) (regrouped before here rest)))
    where
      from_nothing : (a : ℕ) → 0 + a ≡ a
      from_nothing a = omega (arith)

      alone : (a b c : ℕ) → a + (b + c) ≤ word_limit → 0 + b ≤ word_limit
      alone a b c le = omega (arith, le)

      first_in : (a b c : ℕ) → a + (b + c) ≤ word_limit → a + b ≤ word_limit
      first_in a b c le = omega (arith, le)

      grouped : (a b c : ℕ) → a + (b + c) ≤ word_limit → (a + b) + c ≤ word_limit
      grouped a b c le = omega (arith, le)

      regrouped : (a b c : ℕ) → (a + b) + c ≡ a + (b + c)
      regrouped a b c = omega (arith)

  pub library_sized : Everywhere IsBoundedThere p.objects → library_words p facts ≤ word_limit → program_size p ≡ Some (library_words p facts)
  library_sized bounded few =
      instances_added 0 (length p.instances + 1) 0 bounded (at_zero (library_words p facts) few) ∙ ap (λ n. Some n) (from_nothing (library_words p facts))
    where
      at_zero : (n : ℕ) → n ≤ word_limit → 0 + n ≤ word_limit
      at_zero n le = omega (arith, le)

      from_nothing : (a : ℕ) → 0 + a ≡ a
      from_nothing a = omega (arith)
