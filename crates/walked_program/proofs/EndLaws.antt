-- What the walk over all units leaves at its end, of the rules' definitions.
use Rattle.std.proofs.Common.{◌≡◌, ℕ, List, map, reverse, Result, Ok, Err, sym, ap, ◌∙◌, subst}
use Rattle.std.proofs.lemmas.List.{reverse-reverse}
use Rattle.cov_base.specs.declared.failure.Failure.{Failure}
use Rattle.ada_rules.specs.Environment.{World}
use Rattle.ada_rules.specs.Library.{Library as RulesLibrary}
use Rattle.ada_rules.specs.Statics.{Facts}
use Rattle.ada_rules.specs.Units.{resolved, all_with_constants, judged_in}
use Rattle.ada_tree.specs.Programs.{constant_of}
use Rattle.ada_entities.specs.Answers.{Refuses, no_memory}
use Rattle.ada_entities.specs.declared.fault.Refusal.{Refusal}
use Rattle.ada_entities.specs.EntityViews.{Tables}
use Rattle.ada_library.specs.declared.library.Library.{Library}
use Rattle.ada_phrases.specs.declared.scope.Step.{Step}
use Rattle.ada_phrases.specs.Scopes.{step_of}
use Rattle.typed_program.specs.program_walk.specs.declared.walk.Walk.{Walk}
use Rattle.typed_program.specs.program_walk.specs.Standing.{StandsBefore}
use Rattle.typed_program.specs.program_walk.specs.States.{state_of}
use Rattle.typed_program.specs.program_walk.specs.Walks.{Begins}
use Rattle.walked_program.specs.declared.whole_walk.WholeWalk.{WholeWalk}
use Rattle.walked_program.specs.Ending.{EndsWith}
use Rattle.walked_program.specs.Judging.{EndsAs, JudgedAs}

-- behind all bodies the instances have all constants
stands_resolved : (x : Library) (facts after : List Facts) (new : Walk) (k : Tables) (world : World) → StandsBefore x facts new k world
    → after ≡ all_with_constants facts (map constant_of new.notes.statics.constants) 1 facts
    → StandsBefore x after new k (resolved world (state_of k new))
stands_resolved x facts after new k world there are =
    let cs = map constant_of new.notes.statics.constants in
    record {
      units = record {
        known = there.units.known;
        begins = there.units.begins;
        actuals = there.units.actuals;
        given_types = there.units.given_types;
        interfaces = there.units.interfaces;
        standard = there.units.standard;
      };
      spans = there.spans;
      instances = (λ z. all_with_constants (there.instances z) (reverse-reverse cs z) 1 (there.instances z)) ∙ sym are;
      library = record {
        units = there.library.units;
        library = there.library.library;
        is = there.library.is;
        bodies = there.library.bodies;
      };
    }

-- so a walk that ends passes as the rules do, or is refused as they do
pub judged_at_end : (step : Step) (x : Library) (l : RulesLibrary) (main : List ℕ) (old : WholeWalk) (walked : Result (Unit {0}) (Failure Refusal))
    → (r : Result WholeWalk (Failure Refusal)) → EndsWith old walked r → EndsAs step x l main old.instances old.walk walked → JudgedAs step x l main r
judged_at_end step x l main old (Ok u) (Ok new) e end = λ k b.
    let there = end k (subst (λ w. Begins w k) e.walk b) in
    record {
      walked = record { world = resolved there.world (state_of k old.walk); next = state_of k old.walk };
      comes = there.comes;
      next = ap (state_of k) (sym e.walk);
      stands = subst (λ w. StandsBefore x new.instances w k (resolved there.world (state_of k old.walk))) (sym e.walk)
          (stands_resolved x old.instances new.instances old.walk k there.world there.stands e.instances);
    }
judged_at_end step x l main old (Ok u) (Err f) e end = subst (λ g. Refuses (judged_in (step_of step) l main).answer g) (sym e) no_memory
judged_at_end step x l main old (Err f) (Ok new) e end = absurd e
judged_at_end step x l main old (Err f) (Err g) e end = subst (λ h. Refuses (judged_in (step_of step) l main).answer h) (sym e) end
