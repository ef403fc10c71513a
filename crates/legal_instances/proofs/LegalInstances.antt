-- The instances of a legal program stand beside their facts, and what stands in them is looked at there.
use Rattle.std.proofs.Common.{◌≡◌, ◌+◌, ℕ, zero, suc, nat_eq, Bool, true, false, if◌then◌else◌, List, [], ◌∷◌, ◌++◌, length, reverse, Some, None, option_map, slice_get, refl, sym, ap, ◌∙◌, subst, arith, inl, inr, append-nil}
use Rattle.std.specs.List.{sum_by}
use Rattle.std.proofs.lemmas.Bool.{eq-eqb}
use Rattle.cov_base.specs.Lists.{Somewhere}
use Rattle.cov_base.specs.TextOrder.{precedes}
use Rattle.ada_syntax.specs.declared.unit.Unit.{Unit as LibraryUnit}
use Rattle.ada_meaning.specs.Obligations.{in_order}
use Rattle.ada_meaning.specs.Program.{GenericConstant, Instance, Program}
use Rattle.ada_rules.specs.Entities.{Standard}
use Rattle.ada_rules.specs.Environment.{typing, beginning_state}
use Rattle.ada_rules.specs.Legal.{with_values}
use Rattle.ada_rules.specs.Library.{Library, instance_number, units_but_bodies, library_of}
use Rattle.ada_rules.specs.Statics.{Asked, Facts, instances_from}
use Rattle.ada_rules.specs.Units.{all_interfaces, world_before, all_with_constants}
use Rattle.legal_laws.specs.Demanded.{IsMade}
use Rattle.legal_laws.specs.Valued.{HaveFacts, AreFactsOf}
use Rattle.legal_programs.specs.Growing.{IsLonger}
use Rattle.legal_programs.specs.Walked.{IsLegal}
use Rattle.legal_programs.proofs.Counted.{states_of}
use Rattle.legal_programs.proofs.FactsCounted.{count_before}
use Rattle.legal_programs.proofs.FactsInBase.{facts_in_base}
use Rattle.legal_programs.proofs.Passed.{of_ok}
use Rattle.legal_instances.specs.InOrder.{UnitsRise}
use Rattle.legal_instances.specs.Looked.{AreLookedAt}
use Rattle.legal_instances.specs.Ordered.{HaveSameItems}
use Rattle.legal_instances.proofs.KeptInstances.{IsKept, made_behind}
use Rattle.legal_instances.proofs.KeptInterfaces.{MakesAll, interfaces_so}
use Rattle.legal_instances.proofs.KeptWalk.{instances_among}
use Rattle.legal_instances.proofs.SortedKeys.{AreKeyed}
use Rattle.legal_instances.proofs.Sums.{same_both, same_back}
use Rattle.legal_instances.proofs.TextInstances.{AreBeside, units_once, same_once, same_chosen, in_text, beside}
use Rattle.legal_instances.proofs.WholeOrder.{none_some, or_else, legal_order}

-- the values of constants change nothing else
beside_valued : (facts : List Facts) (cs : List GenericConstant) (ds es : List Asked) → IsLonger ds es → (k n : ℕ) (is : List Instance) (fs : List Facts)
    → AreBeside ds k is fs → AreBeside es k is (all_with_constants facts cs n fs)
beside_valued facts cs ds es more k n [] [] h = tt
beside_valued facts cs ds es more k n [] (f ∷ fs) h = h
beside_valued facts cs ds es more k n (i ∷ is) [] h = h
beside_valued facts cs ds es more k n (i ∷ is) (f ∷ fs) h = (
  record {
    matches = record { generic = h.0.matches.generic; alike = h.0.matches.alike };
    made = subst (IsMade f.generic (k + 1)) (sym more.is) (made_behind f.generic (k + 1) more.more ds h.0.made);
  },
  beside_valued facts cs ds es more (k + 1) (n + 1) is fs h.1,
)

have_facts : (ds : List Asked) (k : ℕ) (is : List Instance) (fs : List Facts) → AreBeside ds k is fs → HaveFacts (with_values is fs) fs
have_facts ds k [] [] h = tt
have_facts ds k [] (f ∷ fs) h = absurd h
have_facts ds k (i ∷ is) [] h = absurd h
have_facts ds k (i ∷ is) (f ∷ fs) h = (record { formals = h.0.matches.alike; constants = refl }, have_facts ds (k + 1) is fs h.1)

-- an instance of a generic was made, and is among the instances of its facts
made_at : (all : List Facts) (ds : List Asked) (k : ℕ) (is : List Instance) (fs : List Facts) (g i : ℕ) → AreBeside ds k is fs
    → option_map (λ x. x.generic) (slice_get (with_values is fs) i) ≡ Some g
    → IsMade g (k + i + 1) ds × Somewhere (λ j. j ≡ k + i + 1) (instances_from all (k + 1) g fs)
made_at all ds k [] [] g zero h at = absurd (none_some at)
made_at all ds k [] [] g (suc i) h at = absurd (none_some at)
made_at all ds k [] (f ∷ fs) g n h at = absurd h
made_at all ds k (j ∷ is) [] g n h at = absurd h
made_at all ds k (j ∷ is) (f ∷ fs) g zero h at =
    let same : f.generic ≡ g = sym h.0.matches.generic ∙ ap (or_else g) at in
    let count : k + 1 ≡ k + 0 + 1 = omega (arith) in (
      subst (λ n. IsMade g n ds) count (subst (λ x. IsMade x (k + 1) ds) same h.0.made),
      there_if (nat_eq f.generic g) (k + 1) (k + 0 + 1) (instances_from all (k + 1 + 1) g fs) (eq-eqb f.generic g same) count,
    )
  where
    there_if : (b : Bool) (n m : ℕ) (ns : List ℕ) → b ≡ true → n ≡ m → Somewhere (λ x. x ≡ m) (if b then n ∷ ns else ns)
    there_if true n m ns e f = inl f
    there_if false n m ns e f = absurd (cc e)
made_at all ds k (j ∷ is) (f ∷ fs) g (suc i) h at =
    let rest = made_at all ds (k + 1) is fs g i h.1 at in
    let count : k + 1 + i + 1 ≡ k + suc i + 1 = omega (arith) in (
      subst (λ n. IsMade g n ds) count rest.0,
      later_if (nat_eq f.generic g) (k + 1) (instances_from all (k + 1 + 1) g fs)
          (subst (λ n. Somewhere (λ x. x ≡ n) (instances_from all (k + 1 + 1) g fs)) count rest.1),
    )
  where
    later_if : (b : Bool) (n : ℕ) (ns : List ℕ) → Somewhere (λ x. x ≡ k + suc i + 1) ns → Somewhere (λ x. x ≡ k + suc i + 1) (if b then n ∷ ns else ns)
    later_if true n ns there = inr there
    later_if false n ns there = there

module _ (standard : Standard) (us : List LibraryUnit) (main : List ℕ) (p : Program) (is : IsLegal (library_of standard us) main p) (rise : UnitsRise us) where
  abbrev l : Library
  l = library_of standard us

  abbrev all_units : List ℕ
  all_units = units_but_bodies 0 us

  made_all : MakesAll l l.order [] is.walk.seen
  made_all =
      of_ok (MakesAll l l.order []) (all_interfaces typing l (record { world = world_before l; next = beginning_state }) l.order).answer is.walk.seen is.walk.interfaces
      (interfaces_so l [] (record { world = world_before l; next = beginning_state }) l.order
      (same_once all_units l.order (legal_order standard us main p is).units (units_once 0 us)) (λ m h k. k)
      (record { kept = tt; counted = count_before (length us) us }))

  keys_same : HaveSameItems made_all.keys (instances_among us all_units)
  keys_same =
      same_both made_all.keys (instances_among us l.order ++ []) (instances_among us all_units) made_all.same
      (same_both (instances_among us l.order ++ []) (instances_among us l.order) (instances_among us all_units)
      (λ weight. ap (sum_by weight) (append-nil (instances_among us l.order)))
      (same_chosen us l.order all_units (same_back all_units l.order (legal_order standard us main p is).units)))

  abbrev pub in_places : List Instance
  in_places = in_order (λ a b. precedes a.place b.place) (reverse is.walk.seen.next.instances_declared)

  first_number : (vs : List LibraryUnit) → instance_number 0 vs ≡ 0 + 1
  first_number [] = refl
  first_number (v ∷ vs) = refl

  from_start : {X : Type 0} (xs : List X) (j : ℕ) → slice_get xs (0 + j) ≡ slice_get xs j
  from_start xs j = let none : 0 + j ≡ j = omega (arith) in ap (slice_get xs) none

  -- each is that of its unit
  abbrev pub IsOfUnit : Instance → ℕ → Type 0
  IsOfUnit i n = IsKept us is.walk.seen.world.instances is.walk.seen.next.demands i n

  pub keyed_in_places : AreKeyed IsOfUnit in_places (instances_among us (units_but_bodies 0 us))
  keyed_in_places =
      in_text us rise is.walk.seen.world.instances is.walk.seen.next.demands is.walk.seen.next.instances_declared made_all.keys made_all.made.kept keys_same

  seen_beside : AreBeside is.walk.seen.next.demands 0 in_places is.walk.seen.world.instances
  seen_beside =
      beside us rise is.walk.seen.world.instances is.walk.seen.next.demands 0 0 us in_places is.walk.seen.world.instances (from_start us) (first_number us)
      made_all.made.counted (from_start is.walk.seen.world.instances) keyed_in_places

  pub all_beside : AreBeside is.walked.next.demands 0 in_places is.walked.world.instances
  all_beside =
      subst (AreBeside is.walked.next.demands 0 in_places) (sym (ap (λ w. w.instances) is.walk.world))
      (beside_valued is.walk.seen.world.instances (reverse is.walked.next.constants_declared) is.walk.seen.next.demands is.walked.next.demands
      (states_of l main p is).bodies.extends.demands 0 1 in_places is.walk.seen.world.instances seen_beside)

  pub instances_are : p.instances ≡ with_values in_places is.walked.world.instances
  instances_are =
      ap (λ q. q.instances) is.made
      ∙ ap (λ ds. with_values (in_order (λ a b. precedes a.place b.place) (reverse ds)) is.walked.world.instances) (states_of l main p is).bodies.instances

  pub facts_of_instances : AreFactsOf p is.walked.world.instances
  facts_of_instances = (
    subst (λ xs. HaveFacts xs is.walked.world.instances) (sym instances_are) (have_facts is.walked.next.demands 0 in_places is.walked.world.instances all_beside),
    facts_in_base l main p is,
  )

  pub looked_at : AreLookedAt is.walked.world.instances is.walked.next.demands p
  looked_at None inst stands = record { asked = stands; counted = inl (sym stands) }
  looked_at (Some g) zero stands = absurd stands
  looked_at (Some g) (suc i) stands =
      let at = made_at is.walked.world.instances is.walked.next.demands 0 in_places is.walked.world.instances g i all_beside
      (subst (λ xs. option_map (λ x. x.generic) (slice_get xs i) ≡ Some g) instances_are stands) in
      let count : 0 + i + 1 ≡ suc i = omega (arith) in
      let first : 0 + 1 ≡ 1 = refl in
      record {
        asked = subst (λ n. IsMade g n is.walked.next.demands) count at.0;
        counted = subst (λ n. Somewhere (λ j. j ≡ n) (instances_from is.walked.world.instances 1 g is.walked.world.instances)) count at.1;
      }
