-- All units in one of the steps, of the rules' definitions, and where the walk over them begins and ends.
use Rattle.std.proofs.Common.{◌≡◌, ℕ, Bool, true, false, if◌then◌else◌, List, [], ◌∷◌, length, map, replicate, Some, None, Result, Ok, Err, refl, sym, ap, ◌∙◌, subst}
use Rattle.cov_base.specs.declared.position.Pos.{Pos}
use Rattle.cov_base.specs.declared.failure.Failure.{Failure}
use Rattle.ada_syntax.specs.declared.unit.Unit.{Unit as LibraryUnit}
use Rattle.ada_rules.specs.Plan.{Plan, ◌>>=◌, rule, outcome_after, answer_at}
use Rattle.ada_rules.specs.Denoted.{nowhere}
use Rattle.ada_rules.specs.Environment as rules
use Rattle.ada_rules.specs.Environment.{no_interface, Interface, World, State, beginning_state}
use Rattle.ada_rules.specs.Library.{Library as RulesLibrary}
use Rattle.ada_rules.specs.Statics.{Facts}
use Rattle.ada_rules.specs.Units.{Walked, all_headings, all_interfaces, all_bodies_judged, has_main, resolved, facts_before, world_before, judged_in}
use Rattle.ada_entities.specs.Answers.{refusal, Refuses, refused_at}
use Rattle.ada_entities.specs.declared.fault.Refusal.{Refusal}
use Rattle.ada_entities.specs.EntityViews.{Tables}
use Rattle.ada_library.specs.declared.library.Library.{Library}
use Rattle.ada_library.specs.LibraryView.{IsLibrary}
use Rattle.ada_phrases.specs.declared.scope.Step.{Step}
use Rattle.ada_phrases.specs.Scopes.{step_of}
use Rattle.ada_phrases.proofs.Parts.{passes_on, in_part, refused_as}
use Rattle.program_walk.proofs.WalkLaws.{fresh_holds}
use Rattle.program_walk.specs.declared.walk.Walk.{Walk}
use Rattle.program_walk.specs.States.{state_of}
use Rattle.program_walk.specs.Walks.{Begins, IsBeginning}
use Rattle.library_units.proofs.Grown.{grown}
use Rattle.program_walk.proofs.GoingLaws.{refused_behind}
use Rattle.library_units.specs.Words.{StandsBefore, PassesBodies, ComesToAllBodies, IsIdle, PassesUnits, ComesToUnits, GoesBehind, IsWalked}
use Rattle.walked_program.proofs.Tables.{tables_there, begins_there}
use Rattle.walked_program.specs.Judging.{IsWholeLibrary, IsMainThere, EndsAs, IsEnd}

-- the parts of a step, each where those before it pass
abbrev pub behind_bodies : Walked → State → Walked
behind_bodies x s = record { world = resolved x.world s; next = s }

abbrev then_main : RulesLibrary → List ℕ → Walked → State → Plan Walked
then_main l main x s = rule (if has_main main l.units then Some (behind_bodies x s) else None)

abbrev then_bodies : rules.Step → RulesLibrary → List ℕ → Walked → Plan Walked
then_bodies step l main x = all_bodies_judged step l x.world x.next 0 l.units >>= then_main l main x

abbrev before_units : RulesLibrary → Walked
before_units l = record { world = world_before l; next = beginning_state }

abbrev then_interfaces : rules.Step → RulesLibrary → List ℕ → Unit {0} → Plan Walked
then_interfaces step l main u = all_interfaces step l (before_units l) l.order >>= then_bodies step l main

module _ (step : rules.Step) (l : RulesLibrary) (main : List ℕ) where
  pub headings_refused : (f : Failure Refusal) → Refuses (all_headings l 0 l.units).answer f → Refuses (judged_in step l main).answer f
  headings_refused f h = in_part nowhere (all_headings l 0 l.units).answer (then_interfaces step l main) f h

  module _ (u : Unit {0}) (headed : (all_headings l 0 l.units).answer ≡ Ok u) where
    at_interfaces : (judged_in step l main).answer ≡ answer_at nowhere (then_interfaces step l main u).outcome
    at_interfaces = passes_on nowhere (all_headings l 0 l.units).answer (then_interfaces step l main) u headed

    pub interfaces_refused : (f : Failure Refusal) → Refuses (all_interfaces step l (before_units l) l.order).answer f
        → Refuses (judged_in step l main).answer f
    interfaces_refused f h =
        refused_as _ _ f at_interfaces
        (in_part nowhere (all_interfaces step l (before_units l) l.order).answer (then_bodies step l main) f h)

    module _ (x : Walked) (shown : (all_interfaces step l (before_units l) l.order).answer ≡ Ok x) where
      at_bodies : (judged_in step l main).answer ≡ answer_at nowhere (then_bodies step l main x).outcome
      at_bodies = at_interfaces ∙ passes_on nowhere (all_interfaces step l (before_units l) l.order).answer (then_bodies step l main) x shown

      pub bodies_refused : (f : Failure Refusal) → Refuses (all_bodies_judged step l x.world x.next 0 l.units).answer f
          → Refuses (judged_in step l main).answer f
      bodies_refused f h =
          refused_as _ _ f at_bodies
          (in_part nowhere (all_bodies_judged step l x.world x.next 0 l.units).answer (then_main l main x) f h)

      pub main_decides : (s : State) → (all_bodies_judged step l x.world x.next 0 l.units).answer ≡ Ok s
          → (judged_in step l main).answer ≡ answer_at nowhere (then_main l main x s).outcome
      main_decides s h =
          at_bodies ∙ passes_on nowhere (all_bodies_judged step l x.world x.next 0 l.units).answer (then_main l main x) s h

-- before any unit the walk stands in the rules' first world
none_seen : (us : List LibraryUnit) → map (λ u. no_interface) us ≡ replicate (length us) no_interface
none_seen [] = refl
none_seen (u ∷ us) = ap (λ is. no_interface ∷ is) (none_seen us)

module _ (x : Library) (units : List LibraryUnit) (l : RulesLibrary) (whole : IsWholeLibrary x units l) (w : Walk) (fresh : IsBeginning (length units) w) where
  pub idle_first : IsIdle x units l w
  idle_first = record { library = whole.is; known = fresh.symbols.known; closed = fresh.symbols.regions }

  pub stands_first : (facts : List Facts) → facts ≡ facts_before (length units) units → (k : Tables) → Begins w k
      → StandsBefore x facts w k (world_before l)
  stands_first facts are k b = record {
    units = fresh_holds (length units) w.symbols k (world_before l) fresh.symbols b.symbols
        (none_seen l.units ∙ ap (λ (us : List LibraryUnit). replicate (length us) no_interface) whole.is.of_units) whole.standard;
    spans = b.spans;
    instances = (λ z. facts_before (length (whole.is.of_units z)) (whole.is.of_units z)) ∙ sym are;
    library = record { units = units; library = l; is = whole.is; bodies = refl };
  }

  -- and its state is the first
  pub first_walked : (k : Tables) → record { world = world_before l; next = state_of k w } ≡ before_units l
  first_walked k = λ z. record { world = world_before l; next = fresh.state k z }

-- with the main unit, or without it
pub main_present : (b : Bool) (x : Walked) → b ≡ true → answer_at nowhere (rule (if b then Some x else None)).outcome ≡ Ok x
main_present b x h = ap (λ y. answer_at nowhere (rule (if y then Some x else None)).outcome) h

pub main_absent : (b : Bool) (x : Walked) → b ≡ false → answer_at nowhere (rule (if b then Some x else None)).outcome ≡ Err nowhere
main_absent b x h = ap (λ y. answer_at nowhere (rule (if y then Some x else None)).outcome) h

-- the walk from the beginning, part by part, where the code has each part of the rules'
module _ (step : Step) (x : Library) (units : List LibraryUnit) (main : List ℕ) (l : RulesLibrary) (whole : IsWholeLibrary x units l)
    (w : Walk) (fresh : IsBeginning (length units) w) (before : List Facts) (are : before ≡ facts_before (length units) units) where
  abbrev refuses : Failure Refusal → Type 0
  refuses f = Refuses (judged_in (step_of step) l main).answer f

  pub refused_at_headings : (f : Failure Refusal) → Refuses (all_headings l 0 units).answer f → refuses f
  refused_at_headings f h =
      headings_refused (step_of step) l main f (subst (λ us. Refuses (all_headings l 0 us).answer f) (sym whole.is.of_units) h)

  module _ (u : Unit {0}) (headed : (all_headings l 0 units).answer ≡ Ok u) where
    headed_in : (all_headings l 0 l.units).answer ≡ Ok u
    headed_in = subst (λ us. (all_headings l 0 us).answer ≡ Ok u) (sym whole.is.of_units) headed

    first_in : (k : Tables) → (all_interfaces (step_of step) l (before_units l) l.order).answer
        ≡ (all_interfaces (step_of step) l (record { world = world_before l; next = state_of k w }) l.order).answer
    first_in k = ap (λ y. (all_interfaces (step_of step) l y l.order).answer) (sym (first_walked x units l whole w fresh k))

    pub refused_at_interfaces : (new : Walk) (after : List Facts) (f : Failure Refusal) → PassesUnits {A = Unit {0}} x w new (Err f)
        → ComesToUnits {A = Unit {0}} step x before after w new units (Err f) → refuses f
    refused_at_interfaces new after f passes comes =
        let k = tables_there new in
        let idle = idle_first x units l whole w fresh in
        interfaces_refused (step_of step) l main u headed_in f
        (refused_behind w new k f _ (passes units l idle) (begins_there new) (λ b.
        refused_as _ _ f (first_in k)
        (comes units l idle (sym whole.is.of_units) k (world_before l) (stands_first x units l whole w fresh before are k b) (begins_there new))))

    module _ (second : Walk) (facts : List Facts) (passes : PassesUnits {A = Unit {0}} x w second (Ok tt))
        (comes : ComesToUnits {A = Unit {0}} step x before facts w second units (Ok tt)) where
      goes : GoesBehind w second
      goes = passes units l (idle_first x units l whole w fresh)

      idle_second : IsIdle x units l second
      idle_second = record { library = whole.is; known = goes.known; closed = goes.closed }

      walked_at : (k : Tables) → Begins second k
          → IsWalked x facts second k (all_interfaces (step_of step) l (record { world = world_before l; next = state_of k w }) l.order).answer
      walked_at k b =
          comes units l (idle_first x units l whole w fresh) (sym whole.is.of_units) k (world_before l)
          (stands_first x units l whole w fresh before are k (goes.continues k b)) b

      shown_at : (k : Tables) (b : Begins second k)
          → (all_interfaces (step_of step) l (before_units l) l.order).answer
          ≡ Ok (record { world = (walked_at k b).world; next = state_of k second })
      shown_at k b = first_in k ∙ (walked_at k b).comes

      pub refused_at_bodies : (third : Walk) (f : Failure Refusal) → PassesBodies {A = Unit {0}} x units second third (Err f)
          → ComesToAllBodies {A = Unit {0}} step x facts units second third (Err f) → refuses f
      refused_at_bodies third f stays refused_so =
          let k = tables_there third in
          refused_behind second third k f _ (stays units l idle_second (sym whole.is.of_units)) (begins_there third) (λ b.
          bodies_refused (step_of step) l main u headed_in (record { world = (walked_at k b).world; next = state_of k second }) (shown_at k b) f
          (refused_so units l idle_second (sym whole.is.of_units) k (walked_at k b).world (walked_at k b).stands (begins_there third)))

      module _ (third : Walk) (on : PassesBodies {A = Unit {0}} x units second third (Ok tt))
          (bodied : ComesToAllBodies {A = Unit {0}} step x facts units second third (Ok tt)) where
        b_second : (k : Tables) → Begins third k → Begins second k
        b_second k b = (on units l idle_second (sym whole.is.of_units)).continues k b

        abbrev world_at : (k : Tables) → Begins third k → World
        world_at k b = (walked_at k (b_second k b)).world

        at_main : (k : Tables) (b : Begins third k) → (judged_in (step_of step) l main).answer
            ≡ answer_at nowhere (rule (if has_main main l.units
            then Some (record { world = resolved (world_at k b) (state_of k third); next = state_of k third }) else None)).outcome
        at_main k b =
            main_decides (step_of step) l main u headed_in (record { world = world_at k b; next = state_of k second }) (shown_at k (b_second k b))
            (state_of k third)
            (bodied units l idle_second (sym whole.is.of_units) k (world_at k b) (walked_at k (b_second k b)).stands b).comes

        main_in : (k : Tables) (b : Begins third k) → (judged_in (step_of step) l main).answer
            ≡ answer_at nowhere (rule (if has_main main units
            then Some (record { world = resolved (world_at k b) (state_of k third); next = state_of k third }) else None)).outcome
        main_in k b =
            at_main k b
            ∙ ap (λ us. answer_at nowhere (rule (if has_main main us
            then Some (record { world = resolved (world_at k b) (state_of k third); next = state_of k third }) else None)).outcome) whole.is.of_units

        pub ends_as : (r : Result (Unit {0}) (Failure Refusal)) → IsMainThere main units r → EndsAs step x l main facts third r
        ends_as (Ok v) h = λ k b. record {
          world = world_at k b;
          comes = main_in k b ∙ h _;
          stands = grown second third [] (on units l idle_second (sym whole.is.of_units)).symbols x facts k (world_at k b)
              (walked_at k (b_second k b)).stands b;
        }
        ends_as (Err f) h =
            refused_as _ _ f (main_in (tables_there third) (begins_there third)) (h _)

pub absent_refused : (b c : Bool) (x : Walked) (p : Pos) (f : Failure Refusal) → c ≡ b → c ≡ false → p ≡ nowhere → f ≡ refusal p
    → Refuses (answer_at nowhere (rule (if b then Some x else None)).outcome) f
absent_refused b c x p f is absent at told =
    subst (λ g. Refuses (answer_at nowhere (rule (if b then Some x else None)).outcome) g) (sym (told ∙ ap refusal at))
    (refused_at (main_absent b x (sym is ∙ absent)))
