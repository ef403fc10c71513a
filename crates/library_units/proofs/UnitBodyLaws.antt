-- The bodies of units, one behind the other, of the rules' definitions.
use Rattle.std.proofs.Common.{◌≡◌, ℕ, ◌+◌, ◌<◌, ◌≤◌, List, [], ◌∷◌, length, drop, get_or, Option, Some, None, Result, Ok, Err, refl, sym, ap, ◌∙◌, subst}
use Rattle.std.proofs.lemmas.List.{at_drop_all, at_drop_more}
use Rattle.cov_base.specs.declared.position.Pos.{Pos}
use Rattle.cov_base.specs.declared.failure.Failure.{Failure}
use Rattle.cov_base.specs.declared.failure.Failure.TheVariants.{Fault, WantOfMemory}
use Rattle.ada_syntax.specs.declared.unit.LibraryItem.TheVariants as item
use Rattle.ada_syntax.specs.declared.unit.PackageBody.{PackageBody}
use Rattle.ada_syntax.specs.declared.unit.SubprogramBody.{SubprogramBody}
use Rattle.ada_syntax.specs.declared.unit.Unit.{Unit as LibraryUnit}
use Rattle.ada_rules.specs.Plan.{Plan, ◌>>=◌, rule, outcome_after, answer_at}
use Rattle.ada_rules.specs.Denoted.{nowhere}
use Rattle.ada_rules.specs.Entities.{key, Region}
use Rattle.ada_rules.specs.Environment as rules
use Rattle.ada_rules.specs.Environment.{World, State, interface_of}
use Rattle.ada_rules.specs.Library.{Library as RulesLibrary, item_name, unit_named}
use Rattle.ada_rules.specs.Statics.{Facts}
use Rattle.ada_rules.specs.Units.{env_of, package_body, package_body_of, library_body, bodies_judged, all_bodies_judged, seen_in, seen_in_body, routine_entity}
use Rattle.ada_entities.specs.Answers.{Refuses}
use Rattle.ada_entities.specs.declared.entity.Entity.{Entity}
use Rattle.ada_entities.specs.declared.fault.Refusal.{Refusal}
use Rattle.ada_entities.specs.EntityViews.{Tables, entity_of, region_of}
use Rattle.ada_library.specs.declared.library.Library.{Library}
use Rattle.ada_library.specs.LibraryView.{IsLibrary}
use Rattle.ada_library.specs.Seeing.{IsSeenInBody}
use Rattle.ada_phrases.proofs.Parts.{passes_on, in_part, refused_as}
use Rattle.program_walk.specs.declared.walk.Walk.{Walk}
use Rattle.program_walk.specs.States.{state_of}
use Rattle.program_walk.specs.Walks.{Begins}
use Rattle.program_walk.specs.Going.{Stays}
use Rattle.program_walk.specs.Standing.{StandsBefore}
use Rattle.unit_interfaces.specs.unit_walk.proofs.SeenLaws.{seen_in_body_known}
use Rattle.unit_interfaces.specs.unit_walk.proofs.StandingLaws.{grown}
use Rattle.unit_interfaces.specs.unit_walk.specs.Bodies.{GoesByBodies, IsWalkedTo, WalkedTo}
use Rattle.unit_interfaces.specs.unit_walk.specs.Interfaces.{IsIdle}
use Rattle.unit_interfaces.specs.unit_walk.specs.Walked.{IsBetween}

-- the same answer in other words
pub walked_to : {A : Type 0} (new : Walk) (k : Tables) (r s : Result State Pos) (o : Result A (Failure Refusal)) → r ≡ s → WalkedTo new k s o → WalkedTo new k r o
walked_to new k r s o e h = subst (λ y. WalkedTo new k y o) (sym e) h

-- what the body of a package sees, where the walk stands between units
module _ (x : Library) (all : List LibraryUnit) (l : RulesLibrary) (w : Walk) (idle : IsIdle x all l w) (units : List LibraryUnit) (same : units ≡ l.units) where
  of_these : IsLibrary x units l
  of_these = subst (λ us. IsLibrary x us l) (sym (same ∙ idle.library.of_units)) idle.library

  pub body_between : (n : ℕ) (u : LibraryUnit) (region : List (List ℕ × Entity)) → IsSeenInBody x w.symbols.units units n u region → IsBetween w region
  body_between n u region seen = record {
    known = idle.known;
    closed = idle.closed;
    seen_known = seen_in_body_known x units l w.symbols n u region of_these idle.known seen;
  }

  pub body_seen : (facts : List Facts) (k : Tables) (world : World) → StandsBefore x facts w k world → (n : ℕ) (u : LibraryUnit)
      (region : List (List ℕ × Entity)) → IsSeenInBody x w.symbols.units units n u region → region_of k region ≡ seen_in_body world l n u
  body_seen facts k world b n u region seen =
      seen k world l (record { library = of_these; actuals = b.units.actuals; interfaces = b.units.interfaces })

-- what the rules say of the bodies of a unit, by what it is
module _ (step : rules.Step) (l : RulesLibrary) (w : World) (s : State) (m : ℕ) (u : LibraryUnit) (name : List ℕ) (r : Region) where
  pub named_as : (b : PackageBody) (n : ℕ) → name ≡ key b.name → Some n ≡ unit_named l.names name → r ≡ seen_in_body w l n u
      → (package_body_of step l w s m u b (unit_named l.names (key b.name))).answer ≡ (package_body (env_of step w m name r) s u.item_pos n b).answer
  named_as b n named is seen =
      ap (λ o. (package_body_of step l w s m u b o).answer) (ap (unit_named l.names) (sym named) ∙ sym is)
      ∙ (λ z. (package_body (env_of step w m (sym named z) (sym seen z)) s u.item_pos n b).answer)

  pub unnamed_as : (b : PackageBody) → name ≡ key b.name → None ≡ unit_named l.names name
      → (package_body_of step l w s m u b (unit_named l.names (key b.name))).answer ≡ Ok s
  unnamed_as b named is = ap (λ o. (package_body_of step l w s m u b o).answer) (ap (unit_named l.names) (sym named) ∙ sym is)

  pub package_as : (b : PackageBody) → u.item ≡ item.PackageBody b
      → (bodies_judged step l w s m u u.item).answer ≡ (package_body_of step l w s m u b (unit_named l.names (key b.name))).answer
  package_as b is = ap (λ i. (bodies_judged step l w s m u i).answer) is

  pub subprogram_as : (b : SubprogramBody) → u.item ≡ item.Subprogram b → name ≡ key (item_name u.item)
      → r ≡ seen_in w l u (routine_entity (interface_of w m))
      → (bodies_judged step l w s m u u.item).answer ≡ (library_body (env_of step w m name r) s b).answer
  subprogram_as b is named seen =
      ap (λ i. (bodies_judged step l w s m u i).answer) is
      ∙ (λ z. (library_body (env_of step w m (sym (named ∙ ap (λ i. key (item_name i)) is) z) (sym seen z)) s b).answer)

-- the walk goes on behind bodies
pub goes_nowhere : (w : Walk) → w.symbols.regions ≡ [] → GoesByBodies w w
goes_nowhere w closed = record {
  symbols = record { known = λ h. h; stays = λ h k l a. a; begins = λ k b. b; regions = closed; units = refl };
  continues = λ k b. b;
}

pub then_bodies : (old middle new : Walk) → GoesByBodies old middle → GoesByBodies middle new → GoesByBodies old new
then_bodies old middle new a b = record {
  symbols = record {
    known = λ h. b.symbols.known (a.symbols.known h);
    stays = λ h k l alike. a.symbols.stays h k l (b.symbols.stays (a.symbols.known h) k l alike);
    begins = λ k h. a.symbols.begins k (b.symbols.begins k h);
    regions = b.symbols.regions;
    units = b.symbols.units ∙ a.symbols.units;
  };
  continues = λ k h. a.continues k (b.continues k h);
}

pub then_stays : (old middle new : Walk) (f : Failure Refusal) → GoesByBodies old middle → Stays middle new f → Stays old new f
then_stays old middle new (Fault x) a s = λ k b. a.continues k (s k b)
then_stays old middle new WantOfMemory a s = tt

pub still_idle : (x : Library) (all : List LibraryUnit) (l : RulesLibrary) (old new : Walk) → IsIdle x all l old → GoesByBodies old new → IsIdle x all l new
still_idle x all l old new idle g = record { library = idle.library; known = g.symbols.known idle.known; closed = g.symbols.regions }

pub stands_still : (x : Library) (facts : List Facts) (old new : Walk) (k : Tables) (world : World) → GoesByBodies old new → StandsBefore x facts old k world
    → Begins new k → StandsBefore x facts new k world
stands_still x facts old new k world g b begins = grown old new [] g.symbols x facts k world b begins

-- one more unit of the text
itself : {A : Type 0} (p : Pos) (r : Result A Pos) → answer_at p (outcome_after r (λ x. rule (Some x))) ≡ r
itself p (Ok x) = refl
itself p (Err q) = refl

abbrev then_units : rules.Step → RulesLibrary → World → ℕ → List LibraryUnit → State → Plan State
then_units step l w n us s = all_bodies_judged step l w s (n + 1) us >>= (λ rest. rule (Some rest))

module _ (step : rules.Step) (l : RulesLibrary) (w : World) (s : State) (n : ℕ) (u : LibraryUnit) (us : List LibraryUnit) where
  pub unit_refused : (f : Failure Refusal) → Refuses (bodies_judged step l w s n u u.item).answer f → Refuses (all_bodies_judged step l w s n (u ∷ us)).answer f
  unit_refused f h =
      in_part nowhere _ (then_units step l w n us) f (refused_as _ _ f (itself u.pos (bodies_judged step l w s n u u.item).answer) h)

  pub unit_passes : (t : State) → (bodies_judged step l w s n u u.item).answer ≡ Ok t
      → (all_bodies_judged step l w s n (u ∷ us)).answer ≡ (all_bodies_judged step l w t (n + 1) us).answer
  unit_passes t h =
      passes_on nowhere _ (then_units step l w n us) t (itself u.pos (bodies_judged step l w s n u u.item).answer ∙ h)
      ∙ itself nowhere (all_bodies_judged step l w t (n + 1) us).answer

-- what is left of the units, where a loop over them stands
module _ (step : rules.Step) (l : RulesLibrary) (w : World) (s t : State) (us : List LibraryUnit) (i : ℕ)
    (so_far : (all_bodies_judged step l w s 0 us).answer ≡ (all_bodies_judged step l w t i (drop i us)).answer) where
  pub all_passed : length us ≤ i → (all_bodies_judged step l w s 0 us).answer ≡ Ok t
  all_passed none = so_far ∙ at_drop_all (λ ys. (all_bodies_judged step l w t i ys).answer) us i none

  module _ (u : LibraryUnit) (less : i < length us) (is : u ≡ get_or us i u) (n : ℕ) (numbered : n ≡ i) where
    at_unit : (all_bodies_judged step l w s 0 us).answer ≡ (all_bodies_judged step l w t i (u ∷ drop (i + 1) us)).answer
    at_unit =
        so_far
        ∙ (at_drop_more (λ ys. (all_bodies_judged step l w t i ys).answer) us i u less
        ∙ ap (λ y. (all_bodies_judged step l w t i (y ∷ drop (i + 1) us)).answer) (sym is))

    pub turn_refused : (f : Failure Refusal) → Refuses (bodies_judged step l w t n u u.item).answer f
        → Refuses (all_bodies_judged step l w s 0 us).answer f
    turn_refused f h =
        refused_as _ _ f at_unit
        (unit_refused step l w t i u (drop (i + 1) us) f (subst (λ m. Refuses (bodies_judged step l w t m u u.item).answer f) numbered h))

    pub turn_passes : (new : State) → (bodies_judged step l w t n u u.item).answer ≡ Ok new
        → (all_bodies_judged step l w s 0 us).answer ≡ (all_bodies_judged step l w new (i + 1) (drop (i + 1) us)).answer
    turn_passes new h =
        at_unit
        ∙ unit_passes step l w t i u (drop (i + 1) us) new (subst (λ m. (bodies_judged step l w t m u u.item).answer ≡ Ok new) numbered h)
