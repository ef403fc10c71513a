-- Programs without instances: there is nothing to resolve, and the final program serves each state of its walk.
use Rattle.std.proofs.Common.{◌≡◌, ◌+◌, ℕ, false, if◌then◌else◌, List, [], ◌∷◌, length, reverse, Option, Some, None, IfSome, slice_get, refl, sym, ap, ◌∙◌, subst, arith, inl}
use Rattle.cov_base.specs.Lists.{Everywhere}
use Rattle.ada_syntax.specs.declared.unit.LibraryItem.{LibraryItem}
use Rattle.ada_syntax.specs.declared.unit.LibraryItem.TheVariants as library
use Rattle.ada_syntax.specs.declared.unit.Unit.{Unit as LibraryUnit}
use Rattle.ada_meaning.specs.Obligations.{in_order, AreResolved, IsResolved}
use Rattle.ada_meaning.specs.Program.{Program}
use Rattle.cov_base.specs.TextOrder.{precedes}
use Rattle.ada_rules.specs.Environment.{State}
use Rattle.ada_rules.specs.Legal.{with_values}
use Rattle.ada_rules.specs.Library.{Library, is_instance, count_instances}
use Rattle.legal_laws.specs.Valued.{HaveFacts, AreFactsOf}
use Rattle.legal_programs.proofs.FactsCounted.{facts_counted}
use Rattle.legal_programs.specs.Final.{IsServed}
use Rattle.legal_programs.specs.Growing.{Extends}
use Rattle.legal_programs.specs.Homes.{instances_in, instances_at}
use Rattle.legal_programs.specs.PlainUnits.{IsPlainUnit, ArePlainUnits}
use Rattle.legal_programs.specs.Walked.{IsLegal}
use Rattle.legal_programs.proofs.Counted.{states_of}
use Rattle.legal_programs.proofs.DecidedUnits.{every_at}
use Rattle.legal_programs.proofs.Finals.{final_served}

-- units without generics
pub plain_instances : (units : List LibraryUnit) → ArePlainUnits units → Everywhere (λ u. is_instance u.item ≡ false) units
plain_instances [] h = tt
plain_instances (u ∷ us) h = (of_item u.item h.0, plain_instances us h.1)
  where
    of_item : (i : LibraryItem) → IsPlainUnit i → is_instance i ≡ false
    of_item (library.Subprogram b) k = refl
    of_item (library.Package x) k = refl
    of_item (library.PackageBody x) k = refl
    of_item (library.Instance x) k = absurd k

none_in : (o : Option LibraryUnit) → IfSome o (λ u. is_instance u.item ≡ false) → instances_in o ≡ 0
none_in None h = refl
none_in (Some u) h = ap (λ b. if b then 1 else 0) h

none_at : (l : Library) → Everywhere (λ u. is_instance u.item ≡ false) l.units → (ns : List ℕ) → instances_at l ns ≡ 0
none_at l h [] = refl
none_at l h (n ∷ ns) =
    let first = none_in (slice_get l.units n) (every_at (λ u. is_instance u.item ≡ false) l.units n h) in
    let rest = none_at l h ns in
    omega (arith, first, rest)

none_counted : (us : List LibraryUnit) → Everywhere (λ u. is_instance u.item ≡ false) us → count_instances us ≡ 0
none_counted [] h = refl
none_counted (u ∷ us) h = ap (λ b. if b then count_instances us + 1 else count_instances us) h.0 ∙ none_counted us h.1

empty_of : {X : Type 0} (xs : List X) → length xs ≡ 0 → xs ≡ []
empty_of [] h = refl
empty_of (x ∷ xs) h = absurd (some_item h)
  where
    some_item : length (x ∷ xs) ≡ 0 → ⊥
    some_item e = omega (arith, e)

module _ (l : Library) (main : List ℕ) (p : Program) (is : IsLegal l main p) (none : Everywhere (λ u. is_instance u.item ≡ false) l.units) where
  none_declared : is.walked.next.instances_declared ≡ []
  none_declared =
      let states = states_of l main p is in
      let count = states.seen.instances in
      let made = none_at l none l.order in
      states.bodies.instances ∙ empty_of is.walk.seen.next.instances_declared (omega (arith, count, made))

  pub no_instances : p.instances ≡ []
  no_instances =
      ap (λ q. q.instances) is.made
      ∙ ap (λ is_list. with_values (in_order (λ a b. precedes a.place b.place) (reverse is_list)) is.walked.world.instances) none_declared

  pub nothing_to_resolve : IsResolved p
  nothing_to_resolve = subst (λ xs. AreResolved p 1 xs) (sym no_instances) tt

  no_facts_there : is.walked.world.instances ≡ []
  no_facts_there = empty_of is.walked.world.instances (facts_counted l main p is ∙ none_counted l.units none)

  -- the facts of the program are those of its instances: there are none
  pub facts_of_none : AreFactsOf p is.walked.world.instances
  facts_of_none =
      subst (λ fs. AreFactsOf p fs) (sym no_facts_there) (subst (λ xs. HaveFacts xs []) (sym no_instances) tt, tt)

-- text that stands in no generic is looked at once
pub served_once : (l : Library) (main : List ℕ) (p : Program) (is : IsLegal l main p) (s : State) → Extends s is.walked.next
    → IsServed is.walked.world.instances p None 0 s
served_once l main p is s more = final_served l main p is None 0 (record { asked = refl; counted = inl refl }) refl tt s more
