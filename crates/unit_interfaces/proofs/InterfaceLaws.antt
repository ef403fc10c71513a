-- Units that others see, one behind the other, of the rules' definitions.
use Rattle.std.proofs.Common.{◌≡◌, ℕ, ◌+◌, ◌<◌, ◌≤◌, List, ◌∷◌, length, drop, get_or, slice_get, Option, Some, None, Result, Ok, Err, refl, sym, ap, ◌∙◌, subst}
use Rattle.std.specs.Borrow.{Bor}
use Rattle.std.specs.Option.{option_copied}
use Rattle.std.proofs.lemmas.List.{at_drop_all, at_drop_more}
use Rattle.cov_base.specs.declared.position.Pos.{Pos}
use Rattle.cov_base.specs.declared.failure.Failure.{Failure}
use Rattle.ada_syntax.specs.declared.unit.Instance.{Instance}
use Rattle.ada_syntax.specs.declared.unit.LibraryItem.{LibraryItem}
use Rattle.ada_syntax.specs.declared.unit.LibraryItem.TheVariants as item
use Rattle.ada_syntax.specs.declared.unit.PackageSpecification.{PackageSpecification}
use Rattle.ada_syntax.specs.declared.unit.SubprogramBody.{SubprogramBody}
use Rattle.ada_syntax.specs.declared.unit.Unit.{Unit as LibraryUnit}
use Rattle.ada_rules.specs.Plan.{Plan, ◌>>=◌, rule, outcome_after, answer_at}
use Rattle.ada_rules.specs.Denoted.{nowhere}
use Rattle.ada_rules.specs.Entities.{key, hidden, unit, Region}
use Rattle.ada_rules.specs.Environment as rules
use Rattle.ada_rules.specs.Environment.{World, State, Env}
use Rattle.ada_rules.specs.Library.{Library as RulesLibrary, item_name, instance_number}
use Rattle.ada_rules.specs.Statics.{Facts}
use Rattle.ada_rules.specs.Units.{Walked, env_of, package_judged, instance_judged, library_subprogram, interface_judged, interface_at, all_interfaces, seen_in}
use Rattle.ada_entities.specs.Answers.{Refuses}
use Rattle.ada_entities.specs.declared.entity.Entity.{Entity}
use Rattle.ada_entities.specs.declared.entity.Entity.TheVariants as entity
use Rattle.ada_entities.specs.declared.fault.Refusal.{Refusal}
use Rattle.ada_entities.specs.EntityViews.{Tables, entity_of, region_of}
use Rattle.ada_library.specs.declared.library.Library.{Library}
use Rattle.ada_library.specs.Seeing.{IsSeen}
use Rattle.ada_phrases.proofs.Parts.{passes_on, in_part, refused_as}
use Rattle.program_walk.specs.declared.walk.Walk.{Walk}
use Rattle.program_walk.specs.States.{state_of}
use Rattle.program_walk.specs.Standing.{StandsBefore, IsKnownEntity}
use Rattle.unit_walk.proofs.SeenLaws.{seen_known}
use Rattle.unit_walk.specs.Interfaces.{IsIdle}
use Rattle.unit_walk.specs.Walked.{GoesBehind, IsBetween, IsWalked, WalkedAs}

-- the same answer in other words
pub walked_as : {A : Type 0} (x : Library) (facts : List Facts) (new : Walk) (k : Tables) (r s : Result Walked Pos) (o : Result A (Failure Refusal))
    → r ≡ s → WalkedAs x facts new k s o → WalkedAs x facts new k r o
walked_as x facts new k r s o e h = subst (λ y. WalkedAs x facts new k y o) (sym e) h

-- what a unit sees, where the walk stands between units
module _ (x : Library) (all : List LibraryUnit) (l : RulesLibrary) (w : Walk) (idle : IsIdle x all l w) where
  pub between : (u : LibraryUnit) (own : Entity) (region : List (List ℕ × Entity)) → IsKnownEntity w.symbols.extent own
      → IsSeen x w.symbols.units u own region → IsBetween w region
  between u own region known seen = record {
    known = idle.known;
    closed = idle.closed;
    seen_known = seen_known x all l w.symbols u own region idle.library idle.known known seen;
  }

  pub seen_there : (facts : List Facts) (k : Tables) (world : World) → StandsBefore x facts w k world → (u : LibraryUnit) (own : Entity)
      (region : List (List ℕ × Entity)) → IsSeen x w.symbols.units u own region → region_of k region ≡ seen_in world l u (entity_of k own)
  seen_there facts k world b u own region seen =
      seen all k world l (record { library = idle.library; actuals = b.units.actuals; interfaces = b.units.interfaces })

-- one more unit of the order
abbrev then_units : rules.Step → RulesLibrary → List ℕ → Walked → Plan Walked
then_units step l ns y = all_interfaces step l y ns >>= (λ rest. rule (Some rest))

itself : {A : Type 0} (p : Pos) (r : Result A Pos) → answer_at p (outcome_after r (λ x. rule (Some x))) ≡ r
itself p (Ok x) = refl
itself p (Err q) = refl

module _ (step : rules.Step) (l : RulesLibrary) (x : Walked) (n : ℕ) (ns : List ℕ) where
  unit_at : (o : Option LibraryUnit) (u : LibraryUnit) → o ≡ Some u
      → (interface_at step l x n o).answer ≡ (interface_judged step l x.world x.next n u u.item).answer
  unit_at o u e =
      ap (λ y. (interface_at step l x n y).answer) e ∙ itself u.pos (interface_judged step l x.world x.next n u u.item).answer

  pub unit_refused : (u : LibraryUnit) (f : Failure Refusal) → slice_get l.units n ≡ Some u
      → Refuses (interface_judged step l x.world x.next n u u.item).answer f → Refuses (all_interfaces step l x (n ∷ ns)).answer f
  unit_refused u f e h =
      in_part nowhere (interface_at step l x n (slice_get l.units n)).answer (then_units step l ns) f (refused_as _ _ f (unit_at (slice_get l.units n) u e) h)

  pub unit_passes : (u : LibraryUnit) (y : Walked) → slice_get l.units n ≡ Some u
      → (interface_judged step l x.world x.next n u u.item).answer ≡ Ok y
      → (all_interfaces step l x (n ∷ ns)).answer ≡ (all_interfaces step l y ns).answer
  unit_passes u y e h =
      passes_on nowhere (interface_at step l x n (slice_get l.units n)).answer (then_units step l ns) y (unit_at (slice_get l.units n) u e ∙ h)
      ∙ itself nowhere (all_interfaces step l y ns).answer

  pub no_unit : slice_get l.units n ≡ None → (all_interfaces step l x (n ∷ ns)).answer ≡ (all_interfaces step l x ns).answer
  no_unit e =
      passes_on nowhere (interface_at step l x n (slice_get l.units n)).answer (then_units step l ns) x
      (ap (λ o. (interface_at step l x n o).answer) e)
      ∙ itself nowhere (all_interfaces step l x ns).answer

-- what the rules say of a unit, by what it is
module _ (step : rules.Step) (l : RulesLibrary) (w : World) (s : State) (n : ℕ) (u : LibraryUnit) (name : List ℕ) (named : name ≡ key (item_name u.item))
    (r : Region) where
  as_item : (i : LibraryItem) → u.item ≡ i → name ≡ key (item_name i)
  as_item i is = named ∙ ap (λ j. key (item_name j)) is

  pub package_as : (p : PackageSpecification) → u.item ≡ item.Package p → r ≡ seen_in w l u (unit n)
      → (interface_judged step l w s n u u.item).answer ≡ (package_judged (env_of step w n name r) s u.item_pos n p).answer
  package_as p is seen =
      ap (λ i. (interface_judged step l w s n u i).answer) is
      ∙ (λ z. (package_judged (env_of step w n (sym (as_item (item.Package p) is) z) (sym seen z)) s u.item_pos n p).answer)

  pub instance_as : (i : Instance) (number : ℕ) → u.item ≡ item.Instance i → number ≡ instance_number n l.units → r ≡ seen_in w l u hidden
      → (interface_judged step l w s n u u.item).answer ≡ (instance_judged (env_of step w n name r) s u.item_pos n number i).answer
  instance_as i number is numbered seen =
      ap (λ j. (interface_judged step l w s n u j).answer) is
      ∙ (λ z. (instance_judged (env_of step w n (sym (as_item (item.Instance i) is) z) (sym seen z)) s u.item_pos n (sym numbered z) i).answer)

  pub subprogram_as : (b : SubprogramBody) → u.item ≡ item.Subprogram b → r ≡ seen_in w l u hidden
      → (interface_judged step l w s n u u.item).answer ≡ (library_subprogram (env_of step w n name r) s n b).answer
  subprogram_as b is seen =
      ap (λ j. (interface_judged step l w s n u j).answer) is
      ∙ (λ z. (library_subprogram (env_of step w n (sym (as_item (item.Subprogram b) is) z) (sym seen z)) s n b).answer)

-- entities that lead nowhere
pub unit_known : (w : Walk) (n : ℕ) → IsKnownEntity w.symbols.extent (entity.Unit n)
unit_known w n k l a = refl

pub hidden_known : (w : Walk) → IsKnownEntity w.symbols.extent entity.Hidden
hidden_known w k l a = refl

-- the walk goes on behind a unit
pub goes_nowhere : (x : Library) (all : List LibraryUnit) (l : RulesLibrary) (w : Walk) → IsIdle x all l w → GoesBehind w w
goes_nowhere x all l w idle = record { continues = λ k b. b; known = idle.known; closed = idle.closed }

pub then_behind : (old middle new : Walk) → GoesBehind old middle → GoesBehind middle new → GoesBehind old new
then_behind old middle new a b = record { continues = λ k h. a.continues k (b.continues k h); known = b.known; closed = b.closed }

pub still_idle : (x : Library) (all : List LibraryUnit) (l : RulesLibrary) (old new : Walk) → IsIdle x all l old → GoesBehind old new → IsIdle x all l new
still_idle x all l old new idle g = record { library = idle.library; known = g.known; closed = g.closed }

-- where the walk stands behind some units, from which the others come to what all come to
pub record Reached (step : rules.Step) (x : Library) (l : RulesLibrary) (facts : List Facts) (new : Walk) (k : Tables) (first : Walked)
    (order rest : List ℕ) : Type 0 where
  pub world : World
  pub stands : StandsBefore x facts new k world
  pub comes : (all_interfaces step l first order).answer ≡ (all_interfaces step l (record { world = world; next = state_of k new }) rest).answer

pub reached_first : (step : rules.Step) (x : Library) (l : RulesLibrary) (facts : List Facts) (w : Walk) (k : Tables) (world : World) (order : List ℕ)
    → StandsBefore x facts w k world → Reached step x l facts w k (record { world = world; next = state_of k w }) order order
reached_first step x l facts w k world order b = record { world = world; stands = b; comes = refl }

module _ (step : rules.Step) (x : Library) (l : RulesLibrary) (facts : List Facts) (middle : Walk) (k : Tables) (first : Walked) (order : List ℕ) (i : ℕ)
    (r : Reached step x l facts middle k first order (drop i order)) where
  abbrev here_now : Walked
  here_now = record { world = r.world; next = state_of k middle }

  rest_at : (d : ℕ) → i < length order
      → (all_interfaces step l first order).answer ≡ (all_interfaces step l here_now (get_or order i d ∷ drop (i + 1) order)).answer
  rest_at d less = r.comes ∙ at_drop_more (λ ns. (all_interfaces step l here_now ns).answer) order i d less

  pub reached_next : (d : ℕ) (u : LibraryUnit) (new : Walk) (after : List Facts) → i < length order → slice_get l.units (get_or order i d) ≡ Some u
      → IsWalked x after new k (interface_judged step l r.world (state_of k middle) (get_or order i d) u u.item).answer
      → Reached step x l after new k first order (drop (i + 1) order)
  reached_next d u new after less found w = record {
    world = w.world;
    stands = w.stands;
    comes = rest_at d less
        ∙ unit_passes step l here_now (get_or order i d) (drop (i + 1) order) u (record { world = w.world; next = state_of k new }) found w.comes;
  }

  pub reached_none : (d : ℕ) → i < length order → slice_get l.units (get_or order i d) ≡ None
      → Reached step x l facts middle k first order (drop (i + 1) order)
  reached_none d less none = record {
    world = r.world;
    stands = r.stands;
    comes = rest_at d less ∙ no_unit step l here_now (get_or order i d) (drop (i + 1) order) none;
  }

  pub reached_refused : (d : ℕ) (u : LibraryUnit) (f : Failure Refusal) → i < length order → slice_get l.units (get_or order i d) ≡ Some u
      → Refuses (interface_judged step l r.world (state_of k middle) (get_or order i d) u u.item).answer f
      → Refuses (all_interfaces step l first order).answer f
  reached_refused d u f less found h =
      refused_as _ _ f (rest_at d less) (unit_refused step l here_now (get_or order i d) (drop (i + 1) order) u f found h)

  pub reached_last : length order ≤ i → IsWalked x facts middle k (all_interfaces step l first order).answer
  reached_last none = record {
    world = r.world;
    comes = r.comes ∙ at_drop_all (λ ns. (all_interfaces step l here_now ns).answer) order i none;
    stands = r.stands;
  }

-- the same order in other words
pub in_order : {A : Type 0} (step : rules.Step) (x : Library) (l : RulesLibrary) (facts : List Facts) (new : Walk) (k : Tables) (first : Walked)
    (order : List ℕ) (o : Result A (Failure Refusal)) → order ≡ l.order → WalkedAs x facts new k (all_interfaces step l first order).answer o
    → WalkedAs x facts new k (all_interfaces step l first l.order).answer o
in_order step x l facts new k first order o e h = subst (λ ns. WalkedAs x facts new k (all_interfaces step l first ns).answer o) e h

pub refused_in_order : (step : rules.Step) (l : RulesLibrary) (first : Walked) (order : List ℕ) (f : Failure Refusal) → order ≡ l.order
    → Refuses (all_interfaces step l first order).answer f → Refuses (all_interfaces step l first l.order).answer f
refused_in_order step l first order f e h = subst (λ ns. Refuses (all_interfaces step l first ns).answer f) e h

-- what the list of units has under a number
pub unit_there : (all units : List LibraryUnit) (n : ℕ) (o r : Option (Bor LibraryUnit)) → all ≡ units → option_copied o ≡ slice_get all n → o ≡ r
    → slice_get units n ≡ option_copied r
unit_there all units n o r same found is = ap (λ us. slice_get us n) (sym same) ∙ (sym found ∙ ap option_copied is)
