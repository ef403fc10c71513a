-- Bodies of packages and of library subprograms, of the rules' definitions.
use Rattle.std.proofs.Common.{◌≡◌, ℕ, false, List, [], ◌∷◌, map, Option, Some, Result, Ok, Err, refl, sym, ap, ◌∙◌, subst}
use Rattle.cov_base.specs.declared.position.Pos.{Pos}
use Rattle.cov_base.specs.declared.failure.Failure.{Failure}
use Rattle.cov_base.specs.declared.failure.Failure.TheVariants.{Fault, WantOfMemory}
use Rattle.ada_syntax.specs.declared.unit.BodyItem.{BodyItem}
use Rattle.ada_syntax.specs.declared.unit.PackageBody.{PackageBody}
use Rattle.ada_syntax.specs.declared.unit.SubprogramBody.{SubprogramBody}
use Rattle.ada_rules.specs.Plan.{Plan, ◌>>=◌, rule, answer_at}
use Rattle.ada_rules.specs.Entities.{Actual, Region, whole_standard}
use Rattle.ada_rules.specs.Environment as environment
use Rattle.ada_rules.specs.Environment.{World, State, beginning_state, Given, given, Env}
use Rattle.ada_rules.specs.Statics.{Facts}
use Rattle.ada_rules.specs.Subprograms.{closed_by}
use Rattle.ada_rules.specs.Units as rules
use Rattle.ada_rules.specs.Units.{at_unit, env_of, in_package, in_body, is_generic_interface, behind_unit, body_items, package_body, library_body}
use Rattle.ada_entities.specs.Answers.{Refuses}
use Rattle.ada_entities.specs.declared.entity.Entity.{Entity}
use Rattle.ada_entities.specs.declared.fault.Refusal.{Refusal}
use Rattle.ada_entities.specs.declared.units.Interface.{Interface}
use Rattle.ada_entities.specs.EntityViews.{Tables, region_of}
use Rattle.ada_entities.specs.RegionCode.{innermost, enclosing}
use Rattle.ada_entities.specs.UnitViews.{interface_of}
use Rattle.ada_library.specs.declared.library.Library.{Library}
use Rattle.ada_phrases.specs.declared.scope.Step.{Step}
use Rattle.ada_phrases.specs.Scopes.{step_of}
use Rattle.ada_phrases.proofs.Parts.{passes_on, in_part, refused_as}
use Rattle.program_walk.specs.Places.{with_notes}
use Rattle.program_walk.specs.declared.symbols.Symbols.{Symbols}
use Rattle.program_walk.specs.Alike.{IsKnownRegion}
use Rattle.program_walk.specs.Changes.{Becomes}
use Rattle.program_walk.specs.Sites.{Holds}
use Rattle.program_walk.specs.SymbolViews.{IsKnown}
use Rattle.program_walk.specs.declared.context.Context.{Context}
use Rattle.program_walk.specs.declared.context.Level.TheVariants as level
use Rattle.program_walk.specs.declared.found.Found.{Found}
use Rattle.program_walk.specs.declared.walk.Walk.{Walk}
use Rattle.program_walk.specs.States.{with_counts, state_of}
use Rattle.program_walk.specs.Walks.{Begins, StandsAt, IsInside}
use Rattle.program_walk.specs.Going.{region_in, Stays}
use Rattle.program_walk.proofs.GoingLaws.{refused_behind}
use Rattle.unit_interfaces.specs.specifications.specs.Profiles.{IsClosed}
use Rattle.unit_interfaces.specs.specifications.specs.Routines.{ComesToRegion}
use Rattle.unit_interfaces.specs.specifications.specs.Going.{IsSound, Advances}
use Rattle.library_units.specs.Library.{ComesToLibrary}
use Rattle.program_walk.specs.Standing.{StandsBefore, IsKnownEntity}
use Rattle.unit_interfaces.specs.unit_walk.specs.Entering.{IsUnitContext, IsPackageContext, IsEntered, Leaves, LeavesWords}
use Rattle.unit_interfaces.specs.unit_walk.proofs.StandingLaws.{in_text}
use Rattle.program_walk.specs.UnitGenerics.{IsGenericOf}
use Rattle.unit_interfaces.specs.unit_walk.specs.Bodies.{IsTextOf, IsRoutineOf, GoesByBodies, IsWalkedTo}
use Rattle.unit_interfaces.specs.unit_walk.proofs.BetweenLaws.{left_becomes, entered_continues, entered_open, stands_in_unit}

-- a world of these units alone
abbrev world_with : List environment.Interface → World
world_with is = record { standard = whole_standard; names = []; interfaces = is; instances = []; bodies = [] }

abbrev nothing : ℕ → List Actual
nothing n = []

abbrev world_of : Tables → List Interface → World
world_of k units = world_with (map (interface_of k nothing) units)

-- what a body begins with leads only to what is there
pub text_known : (symbols : Symbols) (n : ℕ) (r : List (List ℕ × Entity)) → IsKnown symbols → IsTextOf symbols.units n r
    → IsKnownRegion symbols.extent r
text_known symbols n r known is_text k m alike =
    is_text k nothing (world_of k symbols.units) refl
    ∙ (ap (λ is. rules.region_of (environment.interface_of (world_with is) n)) (known.interfaces k m nothing nothing alike (λ j b. refl))
    ∙ sym (is_text m nothing (world_of m symbols.units) refl))

pub routine_known : (symbols : Symbols) (n : ℕ) (x : Entity) → IsKnown symbols → IsRoutineOf symbols.units n x
    → IsKnownEntity symbols.extent x
routine_known symbols n x known is_routine k m alike =
    is_routine k nothing (world_of k symbols.units) refl
    ∙ (ap (λ is. rules.routine_entity (environment.interface_of (world_with is) n)) (known.interfaces k m nothing nothing alike (λ j b. refl))
    ∙ sym (is_routine m nothing (world_of m symbols.units) refl))

-- a body is its declarations and bodies, and its end
abbrev body_env : Env → ℕ → Env
body_env env n = in_body env n (environment.interface_of env.world n) (rules.region_of (environment.interface_of env.world n))

abbrev behind_body : Env → ℕ → State → State
behind_body env n s = behind_unit (in_body env n (environment.interface_of env.world n) []) n s

abbrev then_closed : Env → ℕ → Given Region → Unit {0} → Plan State
then_closed env n region end = rule (Some (behind_body env n region.next))

abbrev then_end : Env → Pos → ℕ → PackageBody → Given Region → Plan State
then_end env p n b region = closed_by p b.name b.end_name >>= then_closed env n region

module _ (env : Env) (s : State) (p : Pos) (n : ℕ) (b : PackageBody) where
  abbrev items_part : Result (Given Region) Pos
  items_part = (body_items (body_env env n) (at_unit s) p b.items).answer

  items_refused : (f : Failure Refusal) → Refuses items_part f → Refuses (package_body env s p n b).answer f
  items_refused f h = in_part p items_part (then_end env p n b) f h

  module _ (region : Given Region) (items : items_part ≡ Ok region) where
    at_end : (package_body env s p n b).answer ≡ answer_at p (then_end env p n b region).outcome
    at_end = passes_on p items_part (then_end env p n b) region items

    closing_refused : (f : Failure Refusal) → Refuses (closed_by p b.name b.end_name).answer f → Refuses (package_body env s p n b).answer f
    closing_refused f h = refused_as _ _ f at_end (in_part p (closed_by p b.name b.end_name).answer (then_closed env n region) f h)

    body_passes : (end : Unit {0}) → (closed_by p b.name b.end_name).answer ≡ Ok end
        → (package_body env s p n b).answer ≡ Ok (behind_body env n region.next)
    body_passes end h = at_end ∙ passes_on p (closed_by p b.name b.end_name).answer (then_closed env n region) end h

-- where a unit was entered
pub sound_entered : (old first : Walk) (seen text : List (List ℕ × Entity)) → IsEntered old seen text first → IsKnown old.symbols → IsSound first
sound_entered old first seen text e known = record { known = e.symbols.known known; open_now = entered_open old first seen text e }

pub advanced_stays : (old first second : Walk) (seen text : List (List ℕ × Entity)) (f : Failure Refusal) → IsEntered old seen text first
    → Advances first second → Stays old second f
advanced_stays old first second seen text (Fault x) e a = λ k b. entered_continues old first seen text e k (a.continues k b)
advanced_stays old first second seen text WantOfMemory e a = tt

-- and what stands in its text was looked at, before it is left
module _ (old first second : Walk) (left : Symbols) (seen text : List (List ℕ × Entity)) (e : IsEntered old seen text first) (a : Advances first second)
    (leaves : Leaves second.symbols left) where
  in_its_text : Becomes first.symbols second.symbols (innermost second.symbols.regions ∷ seen ∷ []) first.symbols.units
  in_its_text = record {
    known = a.symbols.known;
    stays = a.symbols.stays;
    begins = a.symbols.begins;
    regions = a.symbols.regions ∙ ap (λ rs. innermost second.symbols.regions ∷ enclosing rs) e.symbols.regions;
    units = a.symbols.units;
  }

  pub body_left : (found : Found) → GoesByBodies old (record second { symbols = left; found = found })
  body_left found = record {
    symbols = left_becomes old first second.symbols left seen text (innermost second.symbols.regions) e in_its_text leaves;
    continues = λ k b.
        entered_continues old first seen text e k
        (a.continues k (record { symbols = leaves.begins k b.symbols; spans = b.spans }));
  }

-- the body of a package, whose text was entered
module _ (step : Step) (x : Library) (facts : List Facts) (m : ℕ) (name : List ℕ) (c d : Context) (in_unit : IsUnitContext step x facts m name c)
    (g : Option ℕ) (n : ℕ) (is_package : IsPackageContext c g n d) (old first second : Walk) (seen text : List (List ℕ × Entity))
    (e : IsEntered old seen text first) (is_text : IsTextOf old.symbols.units n text) (is_generic : IsGenericOf old.symbols.units n g)
    (b : PackageBody) (items : List BodyItem) (items_are : items ≡ b.items)
    (k : Tables) (world : World) (before : StandsBefore x facts old k world) where
  abbrev unit_env : Env
  unit_env = env_of (step_of step) world m name (region_of k seen)

  by_context : StandsBefore d.library.now d.instances.now old k world
  by_context =
      subst (λ (y : Context). StandsBefore y.library.now y.instances.now old k world) (sym is_package)
      (subst (λ y. StandsBefore y c.instances.now old k world) (sym in_unit.library)
      (subst (λ f. StandsBefore x f old k world) (sym in_unit.instances) before))

  text_is : region_of k text ≡ rules.region_of (environment.interface_of world n)
  text_is = is_text k before.units.actuals world before.units.interfaces

  generic_is : g ≡ is_generic_interface (environment.interface_of world n) n
  generic_is = is_generic k before.units.actuals world before.units.interfaces

  same_env : in_package (env_of (step_of d.step) world d.unit d.unit_name.now (region_of k seen)) g n (region_of k text) ≡ body_env unit_env n
  same_env =
      ap (λ (y : Context). in_package (env_of (step_of y.step) world y.unit y.unit_name.now (region_of k seen)) g n (region_of k text)) is_package
      ∙ (λ z. in_package (env_of (step_of (in_unit.step z)) world (in_unit.unit z) (in_unit.unit_name z) (region_of k seen)) (generic_is z) n (text_is z))

  stands_in_body : Begins first k → StandsAt d first k (body_env unit_env n)
  stands_in_body begins =
      subst (λ y. StandsAt d first k y) same_env
      (in_text step x facts m name c d g n old first seen text in_unit is_package e k world by_context begins)

  items_as : (p : Pos)
      → (body_items (body_env unit_env n) (at_unit (state_of k old)) p b.items).answer
      ≡ (body_items (body_env unit_env n) (state_of k first) p items).answer
  items_as p = λ z. (body_items (body_env unit_env n) (sym (e.state k) z) p (sym items_are z)).answer

  pub refused_at_items : (p : Pos) (f : Failure Refusal) → Stays first second f → Begins second k
      → ((p : Pos) → ComesToRegion {A = Unit {0}} d first second (λ k env s. (body_items env s p items).answer) (Err f))
      → Refuses (package_body unit_env (state_of k old) p n b).answer f
  refused_at_items p f stays begins comes =
      refused_behind first second k f _ stays begins (λ middle.
      items_refused unit_env (state_of k old) p n b f
      (refused_as _ _ f (items_as p) (comes p k (body_env unit_env n) (stands_in_body middle) begins)))

  module _ (o : Unit {0}) (a : Advances first second) (begins : Begins second k)
      (comes : (p : Pos) → ComesToRegion {A = Unit {0}} d first second (λ k env s. (body_items env s p items).answer) (Ok o)) where
    items_done : (p : Pos)
        → (body_items (body_env unit_env n) (at_unit (state_of k old)) p b.items).answer ≡ Ok (given (region_in k second) (state_of k second))
    items_done p = items_as p ∙ comes p k (body_env unit_env n) (stands_in_body (a.continues k begins)) begins

    pub refused_at_end : (p : Pos) (f : Failure Refusal) → IsClosed b.name b.end_name (Err f)
        → Refuses (package_body unit_env (state_of k old) p n b).answer f
    refused_at_end p f closed =
        closing_refused unit_env (state_of k old) p n b (given (region_in k second) (state_of k second)) (items_done p) f (closed p)

    pub body_comes : (p : Pos) (left : Symbols) (found : Found) → IsClosed b.name b.end_name (Ok o) → LeavesWords second.found m n g found
        → IsWalkedTo (record second { symbols = left; found = found }) k (package_body unit_env (state_of k old) p n b).answer
    body_comes p left found closed words =
        let env = in_body unit_env n (environment.interface_of world n) [] in
        let noted : behind_unit env n (state_of k second) ≡ state_of k (record second { symbols = left; found = found }) =
        ap (with_notes k second.notes) (sym (words k env (with_counts second.counts beginning_state) refl (sym generic_is))) in
        record {
          comes =
              body_passes unit_env (state_of k old) p n b (given (region_in k second) (state_of k second)) (items_done p) _ (closed p)
              ∙ ap (λ s. Ok s) noted;
        }

-- a library subprogram, which was entered: its text stands inside
module _ (step : Step) (x : Library) (facts : List Facts) (n : ℕ) (name : List ℕ) (c d : Context) (in_unit : IsUnitContext step x facts n name c)
    (is_inside : IsInside c d) (old first : Walk) (seen : List (List ℕ × Entity)) (e : IsEntered old seen [] first)
    (k : Tables) (world : World) (before : StandsBefore x facts old k world) where
  abbrev env : Env
  env = env_of (step_of step) world n name (region_of k seen)

  inside_it : StandsAt c first k env → StandsAt (record c { level = level.Inside }) first k (record env { is_library = false })
  inside_it h = record {
    symbols = subst (λ o. Holds c.step o first.symbols k (record env { is_library = false })) (sym in_unit.own_package)
        (record { units = h.symbols.units; step = h.symbols.step; inside = h.symbols.inside; regions = h.symbols.regions; text = refl });
    spans = h.spans;
    instances = h.instances;
    generic = h.generic;
    library = h.library;
    unit_number = h.unit_number;
    unit_name = h.unit_name;
    subprogram_name = h.subprogram_name;
    level = refl;
    looping = h.looping;
    handling = h.handling;
    returning = h.returning;
  }

  pub stands_inside : Begins first k → StandsAt d first k (record env { is_library = false })
  stands_inside begins =
      subst (λ y. StandsAt y first k (record env { is_library = false })) (sym is_inside)
      (inside_it (stands_in_unit step x facts n name c in_unit old first seen e k world before begins))

  -- its body comes to what the rules say of it
  module _ (second : Walk) (b : SubprogramBody) where
    pub inside_refused : (f : Failure Refusal) → Stays first second f → Begins second k → ComesToLibrary {A = Unit {0}} d first second b (Err f)
        → Refuses (library_body env (state_of k old) b).answer f
    inside_refused f stays begins comes =
        refused_behind first second k f _ stays begins (λ middle.
        comes k (record env { is_library = false }) (state_of k old) (stands_inside middle) begins refl refl (e.state k))

    pub inside_comes : (o : Unit {0}) (left : Symbols) → Advances first second → Begins second k
        → ComesToLibrary {A = Unit {0}} d first second b (Ok o)
        → IsWalkedTo (record second { symbols = left }) k (library_body env (state_of k old) b).answer
    inside_comes o left a begins comes = record {
      comes = comes k (record env { is_library = false }) (state_of k old) (stands_inside (a.continues k begins)) begins refl refl (e.state k);
    }
