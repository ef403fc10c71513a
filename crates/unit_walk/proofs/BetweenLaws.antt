-- Walks between units: what enters a unit, leaves it and lets others see it is as it was.
use Rattle.std.proofs.Common.{◌≡◌, ℕ, ◌<◌, arith, length, List, [], ◌∷◌, set, refl, sym, ap, ◌∙◌, subst}
use Rattle.cov_base.specs.declared.failure.Failure.{Failure}
use Rattle.cov_base.specs.declared.failure.Failure.TheVariants.{Fault, WantOfMemory}
use Rattle.ada_rules.specs.Environment.{World}
use Rattle.ada_rules.specs.Statics.{Facts}
use Rattle.ada_rules.specs.Units.{env_of}
use Rattle.ada_entities.specs.declared.entity.Entity.{Entity}
use Rattle.ada_entities.specs.declared.fault.Refusal.{Refusal}
use Rattle.ada_entities.specs.declared.units.Interface.{Interface}
use Rattle.ada_entities.specs.EntityViews.{Tables, region_of}
use Rattle.ada_entities.specs.RegionCode.{innermost, enclosing}
use Rattle.ada_library.specs.declared.library.Library.{Library}
use Rattle.ada_demands.specs.SpanViews as spans
use Rattle.ada_demands.specs.SpanViews.{listed}
use Rattle.ada_phrases.specs.declared.scope.Step.{Step}
use Rattle.ada_phrases.specs.Scopes.{step_of}
use Rattle.program_walk.specs.declared.symbols.Symbols.{Symbols}
use Rattle.program_walk.specs.Alike.{IsKnownRegion}
use Rattle.program_walk.specs.Changes.{IsOpen, Becomes, Grows, ShowsUnit, Closes, Reopens}
use Rattle.program_walk.specs.SymbolViews.{IsKnown}
use Rattle.program_walk.proofs.PlaceLaws.{region_stays}
use Rattle.program_walk.proofs.RegionChanges.{innermost_known}
use Rattle.program_walk.specs.declared.context.Context.{Context}
use Rattle.program_walk.specs.declared.walk.Walk.{Walk}
use Rattle.program_walk.specs.Walks.{Begins, Continues, StandsAt}
use Rattle.program_walk.specs.Going.{Stays, GoesInside}
use Rattle.program_walk.proofs.GoingLaws.{inside_continues, stays_behind}
use Rattle.program_walk.specs.Standing.{StandsBefore}
use Rattle.unit_walk.specs.Entering.{IsUnitContext, IsEntered, Enters, Leaves}
use Rattle.unit_walk.proofs.StandingLaws.{in_unit}
use Rattle.unit_walk.specs.Walked.{IsBetween, GoesBehind}

-- no declarations lead anywhere
pub empty_known : (w : Walk) → IsKnownRegion w.symbols.extent []
empty_known w k l a = refl

pub is_entered : (old new : Walk) (seen text : List (List ℕ × Entity)) → text ≡ [] → IsBetween old seen → Enters old seen text new
    → IsEntered old seen [] new
is_entered old new seen text empty between enters =
    subst (λ t. IsEntered old seen t new) empty
    (enters between.closed between.seen_known (subst (IsKnownRegion old.symbols.extent) (sym empty) (empty_known old)) between.known)

-- a unit that was entered, went on in its text and was left: no region is open, and the rest only grew
module _ (old first : Walk) (middle new : Symbols) (seen text then : List (List ℕ × Entity)) (e : IsEntered old seen text first)
    (on : Becomes first.symbols middle (then ∷ seen ∷ []) first.symbols.units) (left : Leaves middle new) where
  pub left_becomes : Becomes old.symbols new [] old.symbols.units
  left_becomes = record {
    known = λ h. left.known (on.known (e.symbols.known h));
    stays = λ h k l a. e.symbols.stays h k l (on.stays (e.symbols.known h) k l (left.stays (on.known (e.symbols.known h)) k l a));
    begins = λ k b. e.symbols.begins k (on.begins k (left.begins k b));
    regions = left.regions ∙ ap (λ rs. enclosing (enclosing rs)) on.regions;
    units = left.units ∙ (on.units ∙ e.symbols.units);
  }

-- nothing changes in its text
pub as_entered : (old new : Walk) (seen text : List (List ℕ × Entity)) → IsEntered old seen text new
    → Becomes new.symbols new.symbols (text ∷ seen ∷ []) new.symbols.units
as_entered old new seen text e = record {
  known = λ h. h;
  stays = λ h k l a. a;
  begins = λ k b. b;
  regions = e.symbols.regions;
  units = refl;
}

-- what was entered goes on from before
pub entered_continues : (old new : Walk) (seen text : List (List ℕ × Entity)) → IsEntered old seen text new → Continues old new
entered_continues old new seen text e k b = record {
  symbols = e.symbols.begins k b.symbols;
  spans = subst (λ s. spans.Begins s k) e.spans b.spans;
}

pub entered_stays : (old middle new : Walk) (seen text : List (List ℕ × Entity)) (f : Failure Refusal) → IsEntered old seen text middle
    → Stays middle new f → Stays old new f
entered_stays old middle new seen text (Fault x) e s = λ k b. entered_continues old middle seen text e k (s k b)
entered_stays old middle new seen text WantOfMemory e s = tt

-- what the rules look at the unit in
module _ (step : Step) (x : Library) (facts : List Facts) (n : ℕ) (name : List ℕ) (c : Context) (h : IsUnitContext step x facts n name c)
    (old new : Walk) (seen : List (List ℕ × Entity)) (e : IsEntered old seen [] new) (k : Tables) (world : World) where
  by_context : StandsBefore x facts old k world → StandsBefore c.library.now c.instances.now old k world
  by_context b =
      subst (λ y. StandsBefore y c.instances.now old k world) (sym h.library)
      (subst (λ f. StandsBefore x f old k world) (sym h.instances) b)

  pub stands_in_unit : StandsBefore x facts old k world → Begins new k
      → StandsAt c new k (env_of (step_of step) world n name (region_of k seen))
  stands_in_unit b begins =
      subst (λ env. StandsAt c new k env)
      (λ z. env_of (step_of (h.step z)) world (h.unit z) (h.unit_name z) (region_of k seen))
      (in_unit step x facts n name c old new seen h e k world (by_context b) begins)

-- what is behind: the table only grew, and another unit is seen
pub grown_behind : (old middle new : Symbols) → Becomes old middle [] old.units → Grows middle new → Becomes old new [] old.units
grown_behind old middle new a b = record {
  known = λ h. b.known (a.known h);
  stays = λ h k l alike. a.stays h k l (b.stays (a.known h) k l alike);
  begins = λ k h. a.begins k (b.begins k h);
  regions = b.regions ∙ a.regions;
  units = b.units ∙ a.units;
}

pub shown_behind : (old middle new : Symbols) (n : ℕ) (i : Interface) → Becomes old middle [] old.units → ShowsUnit middle new n i
    → Becomes old new [] (set old.units n i)
shown_behind old middle new n i a b = record {
  known = λ h. b.known (a.known h);
  stays = λ h k l alike. a.stays h k l (b.stays (a.known h) k l alike);
  begins = λ k h. a.begins k (b.begins k h);
  regions = b.regions ∙ a.regions;
  units = b.units ∙ ap (λ us. set us n i) a.units;
}

pub goes_behind : (old new : Walk) (seen : List (List ℕ × Entity)) (is : List Interface) → IsBetween old seen → Becomes old.symbols new.symbols [] is
    → listed new.spans ≡ listed old.spans → GoesBehind old new
goes_behind old new seen is between g kept = record {
  continues = λ k b. record { symbols = g.begins k b.symbols; spans = subst (λ s. spans.Begins s k) kept b.spans };
  known = g.known between.known;
  closed = g.regions;
}

-- the innermost region closes and opens again
pub reopened_innermost : (old middle new : Symbols) (r : List (List ℕ × Entity)) → IsKnown old → r ≡ innermost old.regions → Closes old middle
    → (IsKnownRegion middle.extent r → Reopens middle new r) → Becomes old new (innermost old.regions ∷ enclosing old.regions) old.units
reopened_innermost old middle new r known is a opens =
    let there : IsKnownRegion old.extent r = subst (IsKnownRegion old.extent) (sym is) (innermost_known old.extent old.regions known.regions) in
    let b = opens (region_stays old middle (enclosing old.regions) old.units r a known there) in
    record {
      known = λ h. b.known (a.known h);
      stays = λ h k l alike. a.stays h k l (b.stays (a.known h) k l alike);
      begins = λ k h. a.begins k (b.begins k h);
      regions = b.regions ∙ (λ z. is z ∷ a.regions z);
      units = b.units ∙ a.units;
    }

pub entered_open : (old new : Walk) (seen text : List (List ℕ × Entity)) → IsEntered old seen text new → IsOpen new.symbols
entered_open old new seen text e = subst (λ rs. 0 < length rs) (sym e.symbols.regions) (omega arith)

-- the text of a package, in which formals are declared, whose region is copied, and then other declarations
pub kept_open : (old new : Symbols) → Becomes old new (innermost old.regions ∷ enclosing old.regions) old.units → IsOpen new
kept_open old new g = subst (λ rs. 0 < length rs) (sym g.regions) (omega arith)

pub goes_stay : (old new : Walk) (f : Failure Refusal) → GoesInside old new → Stays old new f
goes_stay old new (Fault x) g = inside_continues old new g
goes_stay old new WantOfMemory g = tt

module _ (old first second fourth : Walk) (seen : List (List ℕ × Entity)) (e : IsEntered old seen [] first) (goes : GoesInside first second)
    (copied : Symbols) (kept : Becomes second.symbols copied (innermost second.symbols.regions ∷ enclosing second.symbols.regions) second.symbols.units) where
  abbrev third : Walk
  third = record second { symbols = copied }

  third_continues : Continues old third
  third_continues k b =
      entered_continues old first seen [] e k
      (inside_continues first second goes k (record { symbols = kept.begins k b.symbols; spans = b.spans }))

  pub items_stay : (f : Failure Refusal) → Stays third fourth f → Stays old fourth f
  items_stay f stays = stays_behind old third fourth f third_continues stays

  module _ (goes_on : GoesInside third fourth) (left : Symbols) (leaves : Leaves fourth.symbols left) where
    in_its_text : Becomes first.symbols fourth.symbols (innermost fourth.symbols.regions ∷ seen ∷ []) first.symbols.units
    in_its_text = record {
      known = λ h. goes_on.symbols.known (kept.known (goes.symbols.known h));
      stays = λ h k l a.
          goes.symbols.stays h k l (kept.stays (goes.symbols.known h) k l (goes_on.symbols.stays (kept.known (goes.symbols.known h)) k l a));
      begins = λ k b. goes.symbols.begins k (kept.begins k (goes_on.symbols.begins k b));
      regions = goes_on.symbols.regions
          ∙ ap (λ rs. innermost fourth.symbols.regions ∷ rs)
          (ap enclosing kept.regions ∙ (ap enclosing goes.symbols.regions ∙ ap enclosing e.symbols.regions));
      units = goes_on.symbols.units ∙ (kept.units ∙ goes.symbols.units);
    }

    pub text_left : Becomes old.symbols left [] old.symbols.units
    text_left = left_becomes old first fourth.symbols left seen [] (innermost fourth.symbols.regions) e in_its_text leaves

    -- what the formals and all declarations lead to is there still
    pub text_known : IsKnown old.symbols → (formals region : List (List ℕ × Entity)) → formals ≡ innermost second.symbols.regions
        → region ≡ innermost fourth.symbols.regions → IsKnownRegion left.extent formals × IsKnownRegion left.extent region
    text_known known formals region is are =
        let second_known = goes.symbols.known (e.symbols.known known) in
        let copied_known = kept.known second_known in
        let fourth_known = goes_on.symbols.known copied_known in
        let of_formals = subst (IsKnownRegion second.symbols.extent) (sym is)
        (innermost_known second.symbols.extent second.symbols.regions second_known.regions) in
        let of_region = subst (IsKnownRegion fourth.symbols.extent) (sym are)
        (innermost_known fourth.symbols.extent fourth.symbols.regions fourth_known.regions) in
        let then_copied = region_stays second.symbols copied (innermost second.symbols.regions ∷ enclosing second.symbols.regions)
        second.symbols.units formals kept second_known of_formals in
        let then_items = region_stays copied fourth.symbols (innermost fourth.symbols.regions ∷ enclosing copied.regions) copied.units formals
        goes_on.symbols copied_known then_copied in (
          region_stays fourth.symbols left (enclosing (enclosing fourth.symbols.regions)) fourth.symbols.units formals leaves fourth_known then_items,
          region_stays fourth.symbols left (enclosing (enclosing fourth.symbols.regions)) fourth.symbols.units region leaves fourth_known of_region,
        )
