-- Packages, as other units see them, of the rules' definitions.
use Rattle.std.proofs.Common.{◌≡◌, ℕ, List, [], ◌∷◌, Option, Some, Result, Ok, Err, refl, sym, ap, ◌∙◌, subst}
use Rattle.cov_base.specs.declared.position.Pos.{Pos}
use Rattle.cov_base.specs.declared.failure.Failure.{Failure}
use Rattle.ada_syntax.specs.declared.unit.Formal.{Formal}
use Rattle.ada_syntax.specs.declared.unit.PackageItem.{PackageItem}
use Rattle.ada_syntax.specs.declared.unit.PackageSpecification.{PackageSpecification}
use Rattle.ada_rules.specs.Plan.{Plan, ◌>>=◌, rule, answer_at}
use Rattle.ada_rules.specs.Entities.{Actual, Region}
use Rattle.ada_rules.specs.Environment.{World, State, beginning_state, Given, given, Env}
use Rattle.ada_rules.specs.Instances.{formals_declared}
use Rattle.ada_rules.specs.Statics.{Facts}
use Rattle.ada_rules.specs.Subprograms.{closed_by}
use Rattle.ada_rules.specs.Units.{Walked, at_unit, env_of, in_package, generic_at, formals_in, in_specification, with_package, interface_with, with_interface, behind_unit, package_items, package_judged}
use Rattle.ada_entities.specs.Answers.{Refuses}
use Rattle.ada_entities.specs.declared.entity.Entity.{Entity}
use Rattle.ada_entities.specs.declared.fault.Refusal.{Refusal}
use Rattle.ada_entities.specs.declared.units.Interface.{Interface}
use Rattle.ada_entities.specs.EntityViews.{Tables, region_of}
use Rattle.ada_entities.specs.RegionCode.{innermost, enclosing}
use Rattle.ada_entities.specs.UnitViews.{interface_of}
use Rattle.ada_library.specs.declared.library.Library.{Library}
use Rattle.ada_phrases.specs.declared.scope.Step.{Step}
use Rattle.ada_phrases.specs.Scopes.{step_of}
use Rattle.ada_phrases.proofs.Parts.{passes_on, in_part, refused_as}
use Rattle.program_walk.specs.Places.{with_notes}
use Rattle.program_walk.specs.declared.symbols.Symbols.{Symbols}
use Rattle.program_walk.specs.Changes.{Becomes, ChangesInside, ShowsUnit}
use Rattle.program_walk.specs.declared.context.Context.{Context}
use Rattle.program_walk.specs.declared.found.Found.{Found}
use Rattle.program_walk.specs.declared.walk.Walk.{Walk}
use Rattle.program_walk.specs.States.{with_counts, state_of}
use Rattle.program_walk.specs.Walks.{Begins, StandsAt}
use Rattle.program_walk.specs.Going.{region_in, Stays, GoesInside}
use Rattle.program_walk.proofs.GoingLaws.{inside_continues, refused_behind, stands_then}
use Rattle.unit_walk.specs.specifications.specs.Profiles.{IsClosed}
use Rattle.unit_walk.specs.specifications.specs.Routines.{ComesToRegion}
use Rattle.program_walk.specs.Standing.{StandsBefore}
use Rattle.unit_walk.specs.Entering.{IsUnitContext, IsPackageContext, IsEntered, LeavesWords}
use Rattle.unit_walk.proofs.StandingLaws.{grown, shown, in_text}
use Rattle.unit_walk.specs.Walked.{IsWalked}

-- a package is its formals, its declarations and its end
abbrev then_closed : Env → ℕ → PackageSpecification → Region → Given Region → Unit {0} → Plan Walked
then_closed env n x formals region end = rule (Some (with_package env n x formals region))

abbrev then_items : Env → Pos → ℕ → PackageSpecification → Region → Given Region → Plan Walked
then_items env p n x formals region = closed_by p x.name x.end_name >>= then_closed env n x formals region

abbrev then_formals : Env → Pos → ℕ → PackageSpecification → Given Region → Plan Walked
then_formals env p n x formals =
    package_items (in_specification env n x formals.value) formals.next p x.items >>= then_items env p n x formals.value

module _ (env : Env) (s : State) (p : Pos) (n : ℕ) (x : PackageSpecification) where
  abbrev pub formals_part : Result (Given Region) Pos
  formals_part = (formals_declared (in_specification env n x []) (at_unit s) p 0 (formals_in x.formals)).answer

  pub formals_refused : (f : Failure Refusal) → Refuses formals_part f → Refuses (package_judged env s p n x).answer f
  formals_refused f h = in_part p formals_part (then_formals env p n x) f h

  module _ (formals : Given Region) (declared : formals_part ≡ Ok formals) where
    abbrev pub items_part : Result (Given Region) Pos
    items_part = (package_items (in_specification env n x formals.value) formals.next p x.items).answer

    at_items : (package_judged env s p n x).answer ≡ answer_at p (then_formals env p n x formals).outcome
    at_items = passes_on p formals_part (then_formals env p n x) formals declared

    pub items_refused : (f : Failure Refusal) → Refuses items_part f → Refuses (package_judged env s p n x).answer f
    items_refused f h = refused_as _ _ f at_items (in_part p items_part (then_items env p n x formals.value) f h)

    module _ (region : Given Region) (items : items_part ≡ Ok region) where
      at_end : (package_judged env s p n x).answer ≡ answer_at p (then_items env p n x formals.value region).outcome
      at_end = at_items ∙ passes_on p items_part (then_items env p n x formals.value) region items

      pub closing_refused : (f : Failure Refusal) → Refuses (closed_by p x.name x.end_name).answer f → Refuses (package_judged env s p n x).answer f
      closing_refused f h =
          refused_as _ _ f at_end (in_part p (closed_by p x.name x.end_name).answer (then_closed env n x formals.value region) f h)

      pub package_passes : (end : Unit {0}) → (closed_by p x.name x.end_name).answer ≡ Ok end
          → (package_judged env s p n x).answer ≡ Ok (with_package env n x formals.value region)
      package_passes end h =
          at_end ∙ passes_on p (closed_by p x.name x.end_name).answer (then_closed env n x formals.value region) end h

-- a copy of the innermost region was taken, and nothing changed
pub innermost_stays : (old new : Symbols) → Becomes old new (innermost old.regions ∷ enclosing old.regions) old.units → ChangesInside old new
innermost_stays old new g = record {
  known = g.known;
  stays = g.stays;
  begins = g.begins;
  regions = g.regions ∙ ap (λ rs. innermost rs ∷ enclosing old.regions) (sym g.regions);
  units = g.units;
}

-- the text of a package, which was entered
module _ (step : Step) (x : Library) (facts : List Facts) (n : ℕ) (name : List ℕ) (c d : Context) (in_unit : IsUnitContext step x facts n name c)
    (g : Option ℕ) (is_package : IsPackageContext c g n d) (old first : Walk) (seen : List (List ℕ × Entity)) (e : IsEntered old seen [] first)
    (k : Tables) (world : World) (before : StandsBefore x facts old k world) (u : PackageSpecification) (is_generic : g ≡ generic_at u.formals n) where
  abbrev pub env : Env
  env = env_of (step_of step) world n name (region_of k seen)

  by_context : StandsBefore d.library.now d.instances.now old k world
  by_context =
      subst (λ (y : Context). StandsBefore y.library.now y.instances.now old k world) (sym is_package)
      (subst (λ y. StandsBefore y c.instances.now old k world) (sym in_unit.library)
      (subst (λ f. StandsBefore x f old k world) (sym in_unit.instances) before))

  same_env : (r : Region)
      → in_package (env_of (step_of d.step) world d.unit d.unit_name.now (region_of k seen)) g n r ≡ in_specification env n u r
  same_env r =
      ap (λ (y : Context). in_package (env_of (step_of y.step) world y.unit y.unit_name.now (region_of k seen)) g n r) is_package
      ∙ (λ z. in_package (env_of (step_of (in_unit.step z)) world (in_unit.unit z) (in_unit.unit_name z) (region_of k seen)) (is_generic z) n r)

  pub stands_in_text : Begins first k → StandsAt d first k (in_specification env n u [])
  stands_in_text b =
      subst (λ y. StandsAt d first k y) (same_env [])
      (in_text step x facts n name c d g n old first seen [] in_unit is_package e k world by_context b)

  -- behind the formals, whose region was copied
  module _ (second : Walk) (goes : GoesInside first second) (b_second : Begins second k) where
    pub stands_behind_formals : StandsAt d second k (in_specification env n u (region_in k second))
    stands_behind_formals = stands_then d first k (in_specification env n u []) (stands_in_text (b_first)) second goes b_second where
      b_first : Begins first k
      b_first = inside_continues first second goes k b_second

    pub stands_at_items : (copied : Symbols) → Becomes second.symbols copied (innermost second.symbols.regions ∷ enclosing second.symbols.regions) second.symbols.units
        → Begins (record second { symbols = copied }) k
        → StandsAt d (record second { symbols = copied }) k (in_specification env n u (region_in k second))
    stands_at_items copied kept b =
        let third = record second { symbols = copied } in
        subst (λ r. StandsAt d third k (in_specification env n u r)) (ap (λ rs. region_of k (innermost rs)) kept.regions)
        (stands_then d second k (in_specification env n u (region_in k second)) stands_behind_formals third
        (record { symbols = innermost_stays second.symbols copied kept; spans = refl }) b)

  -- behind its end, where others see it
  module _ (fourth : Walk) (found : Found) (left last : Symbols) (i : Interface) (formals : Region) (region : List (List ℕ × Entity))
      (words : LeavesWords fourth.found n n g found) (grew : Becomes old.symbols left [] old.symbols.units)
      (shows : ShowsUnit left last n i) (begins : Begins (record fourth { symbols = last; found = found }) k)
      (seen_as : (actuals : ℕ → List Actual) → interface_of k actuals i ≡ interface_with u.formals formals (region_of k region))
      (comes : (p : Pos) → (package_judged env (state_of k old) p n u).answer
      ≡ Ok (with_package env n u formals (given (region_of k region) (state_of k fourth)))) where
    pub package_walked : (p : Pos) → IsWalked x facts (record fourth { symbols = last; found = found }) k (package_judged env (state_of k old) p n u).answer
    package_walked p =
        let middle = record fourth { symbols = left; found = found } in
        let stood = grown old middle [] grew x facts k world before (record { symbols = shows.begins k begins.symbols; spans = begins.spans }) in
        let now = shown middle (record fourth { symbols = last; found = found }) n i shows x facts k world stood begins in
        let noted : behind_unit (in_specification env n u []) n (state_of k fourth) ≡ state_of k (record fourth { symbols = last; found = found }) =
        ap (with_notes k fourth.notes) (sym (words k (in_specification env n u []) (with_counts fourth.counts beginning_state) refl (sym is_generic))) in
        record {
          world = _;
          comes = comes p ∙ (λ z. Ok (record {
            world = with_interface world n (sym (seen_as stood.units.actuals) z);
            next = noted z;
          }));
          stands = now;
        }

-- What was looked at, part by part, where each part is what the code has of the rules'.
module _ (step : Step) (x : Library) (facts : List Facts) (n : ℕ) (name : List ℕ) (c d : Context) (in_unit : IsUnitContext step x facts n name c)
    (g : Option ℕ) (is_package : IsPackageContext c g n d) (old first second : Walk) (seen : List (List ℕ × Entity)) (e : IsEntered old seen [] first)
    (u : PackageSpecification) (is_generic : g ≡ generic_at u.formals n) (fs : List Formal) (formals_are : fs ≡ formals_in u.formals)
    (k : Tables) (world : World) (before : StandsBefore x facts old k world) where
  abbrev pub unit_env : Env
  unit_env = env_of (step_of step) world n name (region_of k seen)

  abbrev pub text_env : Region → Env
  text_env r = in_specification unit_env n u r

  formals_as : (p : Pos)
      → (formals_declared (text_env []) (at_unit (state_of k old)) p 0 (formals_in u.formals)).answer
      ≡ (formals_declared (text_env []) (state_of k first) p 0 fs).answer
  formals_as p = λ z. (formals_declared (text_env []) (sym (e.state k) z) p 0 (sym formals_are z)).answer

  in_text_at : Begins first k → StandsAt d first k (text_env [])
  in_text_at = stands_in_text step x facts n name c d in_unit g is_package old first seen e k world before u is_generic

  pub refused_at_formals : (p : Pos) (f : Failure Refusal) → Stays first second f → Begins second k
      → ((p : Pos) → ComesToRegion {A = Unit {0}} d first second (λ k env s. (formals_declared env s p 0 fs).answer) (Err f))
      → Refuses (package_judged unit_env (state_of k old) p n u).answer f
  refused_at_formals p f stays begins comes =
      refused_behind first second k f _ stays begins (λ b.
      formals_refused unit_env (state_of k old) p n u f
      (refused_as _ _ f (formals_as p) (comes p k (text_env []) (in_text_at b) begins)))

  module _ (o : Unit {0}) (goes : GoesInside first second)
      (comes : (p : Pos) → ComesToRegion {A = Unit {0}} d first second (λ k env s. (formals_declared env s p 0 fs).answer) (Ok o)) where
    formals_at : (p : Pos) → Begins second k
        → (formals_declared (text_env []) (at_unit (state_of k old)) p 0 (formals_in u.formals)).answer
        ≡ Ok (given (region_in k second) (state_of k second))
    formals_at p b = formals_as p ∙ comes p k (text_env []) (in_text_at (inside_continues first second goes k b)) b

    module _ (copied : Symbols)
        (kept : Becomes second.symbols copied (innermost second.symbols.regions ∷ enclosing second.symbols.regions) second.symbols.units)
        (fourth : Walk) (items : List PackageItem) (items_are : items ≡ u.items) where
      abbrev pub third : Walk
      third = record second { symbols = copied }

      second_begins : Begins third k → Begins second k
      second_begins b = record { symbols = kept.begins k b.symbols; spans = b.spans }

      items_at : Begins third k → StandsAt d third k (text_env (region_in k second))
      items_at b =
          stands_at_items step x facts n name c d in_unit g is_package old first seen e k world before u is_generic second goes
          (second_begins b) copied kept b

      items_as : (p : Pos)
          → (package_items (text_env (region_in k second)) (state_of k second) p u.items).answer
          ≡ (package_items (text_env (region_in k second)) (state_of k third) p items).answer
      items_as p = ap (λ xs. (package_items (text_env (region_in k second)) (state_of k second) p xs).answer) (sym items_are)

      pub refused_at_items : (p : Pos) (f : Failure Refusal) → Stays third fourth f → Begins fourth k
          → ((p : Pos) → ComesToRegion {A = Unit {0}} d third fourth (λ k env s. (package_items env s p items).answer) (Err f))
          → Refuses (package_judged unit_env (state_of k old) p n u).answer f
      refused_at_items p f stays begins refuses =
          refused_behind third fourth k f _ stays begins (λ b.
          items_refused unit_env (state_of k old) p n u (given (region_in k second) (state_of k second)) (formals_at p (second_begins b)) f
          (refused_as _ _ f (items_as p) (refuses p k (text_env (region_in k second)) (items_at b) begins)))

      module _ (goes_on : GoesInside third fourth) (b : Begins fourth k)
          (comes_to : (p : Pos) → ComesToRegion {A = Unit {0}} d third fourth (λ k env s. (package_items env s p items).answer) (Ok o)) where
        b_third : Begins third k
        b_third = inside_continues third fourth goes_on k b

        items_done : (p : Pos)
            → (package_items (text_env (region_in k second)) (state_of k second) p u.items).answer
            ≡ Ok (given (region_in k fourth) (state_of k fourth))
        items_done p = items_as p ∙ comes_to p k (text_env (region_in k second)) (items_at b_third) b

        pub refused_at_end : (p : Pos) (f : Failure Refusal) → IsClosed u.name u.end_name (Err f)
            → Refuses (package_judged unit_env (state_of k old) p n u).answer f
        refused_at_end p f closed =
            closing_refused unit_env (state_of k old) p n u (given (region_in k second) (state_of k second))
            (formals_at p (second_begins b_third)) (given (region_in k fourth) (state_of k fourth)) (items_done p) f (closed p)

        pub passes_end : (p : Pos) → IsClosed u.name u.end_name (Ok o)
            → (package_judged unit_env (state_of k old) p n u).answer
            ≡ Ok (with_package unit_env n u (region_in k second) (given (region_in k fourth) (state_of k fourth)))
        passes_end p closed =
            package_passes unit_env (state_of k old) p n u (given (region_in k second) (state_of k second))
            (formals_at p (second_begins b_third)) (given (region_in k fourth) (state_of k fourth)) (items_done p) _ (closed p)

-- what was taken out of the innermost region is what it had
pub seen_as : (k : Tables) (actuals : ℕ → List Actual) (second : Symbols) (formals region : List (List ℕ × Entity)) (o : Option (List Formal))
    (i : Interface) → formals ≡ innermost second.regions → interface_of k actuals i ≡ interface_with o (region_of k formals) (region_of k region)
    → interface_of k actuals i ≡ interface_with o (region_of k (innermost second.regions)) (region_of k region)
seen_as k actuals second formals region o i is e = e ∙ ap (λ r. interface_with o (region_of k r) (region_of k region)) is

pub passes_in : (k : Tables) (fourth : Walk) (region : List (List ℕ × Entity)) (env : Env) (n : ℕ) (u : PackageSpecification) (formals : Region)
    (r : Result Walked Pos) → region ≡ innermost fourth.symbols.regions
    → r ≡ Ok (with_package env n u formals (given (region_in k fourth) (state_of k fourth)))
    → r ≡ Ok (with_package env n u formals (given (region_of k region) (state_of k fourth)))
passes_in k fourth region env n u formals r is h =
    h ∙ ap (λ x. Ok (with_package env n u formals (given (region_of k x) (state_of k fourth)))) (sym is)
