-- What passes in a step has parts that pass, and a rule that is kept.
use Rattle.std.proofs.Common.{◌≡◌, ℕ, Bool, true, false, if◌then◌else◌, List, reverse, Option, Some, None, Result, Ok, Err, IfOk, refl, sym, ap, ◌∙◌, subst}
use Rattle.cov_base.specs.declared.position.Pos.{Pos}
use Rattle.ada_meaning.specs.Program.{Program}
use Rattle.ada_rules.specs.Environment.{Step, typing, naming, State, beginning_state}
use Rattle.ada_rules.specs.Denoted.{nowhere}
use Rattle.ada_rules.specs.Legal.{Checked, unnamed, mistyped, too_large, legal, program_of, refused_or, after_step, after_counts, after_values, after_names, checked_in}
use Rattle.ada_rules.specs.Library.{Library}
use Rattle.ada_rules.specs.Limits.{first_excess}
use Rattle.ada_rules.specs.Plan.{Plan, ◌>>=◌, rule, outcome_after, answer_at}
use Rattle.ada_rules.specs.Statics.{first_unmet}
use Rattle.ada_rules.specs.Units.{Walked, all_headings, all_interfaces, all_bodies_judged, world_before, has_main, resolved, judged_in}
use Rattle.legal_programs.specs.Walked.{IsWalked, IsLegal}

-- a value that is reached, and what holds of it
pub record Reached {A : Type 0} (r : Result A Pos) (P : A → Type 0) : Type 0 where
  pub value : A
  pub is : r ≡ Ok value
  pub rest : P value

pub of_ok : {A : Type 0} (P : A → Type 0) (r : Result A Pos) (x : A) → r ≡ Ok x → IfOk r P → P x
of_ok P r x e h = subst (λ q. IfOk q P) e h

refused : {A : Type 0} {p : Pos} {x : A} → Err p ≡ Ok x → ⊥
refused e = cc

abbrev ok_or : {A : Type 0} → A → Result A Pos → A
ok_or x (Ok y) = y
ok_or x (Err p) = x

pub passed_part : {A B : Type 0} (p : Pos) (r : Result A Pos) (k : A → Plan B) (y : B) → answer_at p (outcome_after r k) ≡ Ok y
    → Reached r (λ a. answer_at p (k a).outcome ≡ Ok y)
passed_part p (Ok x) k y h = record { value = x; is = refl; rest = h }
passed_part p (Err q) k y h = absurd (refused h)

pub passed_rule : {B : Type 0} (p : Pos) (o : Option B) (y : B) → answer_at p (rule o).outcome ≡ Ok y → o ≡ Some y
passed_rule p None y h = absurd (refused h)
passed_rule p (Some x) y h = ap (λ r. Some (ok_or x r)) h

some_is_none : {X : Type 0} {x : X} → None ≡ Some x → ⊥
some_is_none e = cc

pub passed_test : {B : Type 0} (b : Bool) (x y : B) → (if b then Some x else None) ≡ Some y → (b ≡ true) × (x ≡ y)
passed_test true x y h = (refl, ap (some_or x) h)
  where
    some_or : {B : Type 0} → B → Option B → B
    some_or z None = z
    some_or z (Some v) = v
passed_test false x y h = absurd (some_is_none h)

-- whole programs
module _ (step : Step) (l : Library) (main : List ℕ) where
  abbrev before : Walked
  before = record { world = world_before l; next = beginning_state }

  abbrev walked_to : Walked → State → Walked
  walked_to y s = record { world = resolved y.world s; next = s }

  abbrev after_bodies : Walked → State → Plan Walked
  after_bodies y s = rule (if has_main main l.units then Some (walked_to y s) else None)

  abbrev after_interfaces : Walked → Plan Walked
  after_interfaces y = all_bodies_judged step l y.world y.next 0 l.units >>= after_bodies y

  abbrev after_headings : Unit {0} → Plan Walked
  after_headings u = all_interfaces step l before l.order >>= after_interfaces

  pub is_walked : (x : Walked) → (judged_in step l main).answer ≡ Ok x → IsWalked step l main x
  is_walked x h =
      let headings = passed_part nowhere (all_headings l 0 l.units).answer after_headings x h in
      let seen = passed_part nowhere (all_interfaces step l before l.order).answer after_interfaces x headings.rest in
      let bodies = passed_part nowhere (all_bodies_judged step l seen.value.world seen.value.next 0 l.units).answer (after_bodies seen.value) x seen.rest in
      let main_is = passed_test (has_main main l.units) (walked_to seen.value bodies.value) x
      (passed_rule nowhere (if has_main main l.units then Some (walked_to seen.value bodies.value) else None) x bodies.rest) in
      let next_is : bodies.value ≡ x.next = ap (λ w. w.next) main_is.1 in
      record {
        headings = headings.is;
        seen = seen.value;
        interfaces = seen.is;
        bodies = bodies.is ∙ ap (λ s. Ok s) next_is;
        main_unit = main_is.0;
        world = sym (ap (λ w. w.world) main_is.1) ∙ ap (resolved seen.value.world) next_is;
      }

-- a program is legal where all steps pass
not_legal : {p : Program} → ((q : Pos) → unnamed q ≡ legal p → ⊥) × (((q : Pos) → mistyped q ≡ legal p → ⊥) × ((q : Pos) → too_large q ≡ legal p → ⊥))
not_legal = (λ q e. cc, (λ q e. cc, λ q e. cc))

step_reached : {A : Type 0} (refusal : Pos → Checked) (r : Result A Pos) (later : A → Checked) (p : Program) → ((q : Pos) → refusal q ≡ legal p → ⊥)
    → after_step refusal r later ≡ legal p → Reached r (λ x. later x ≡ legal p)
step_reached refusal (Ok x) later p none h = record { value = x; is = refl; rest = h }
step_reached refusal (Err q) later p none h = absurd (none q h)

none_refused : (refusal : Pos → Checked) (o : Option Pos) (later : Unit {0} → Checked) (p : Program) → ((q : Pos) → refusal q ≡ legal p → ⊥)
    → refused_or refusal o later ≡ legal p → (o ≡ None) × (later tt ≡ legal p)
none_refused refusal None later p none h = (refl, h)
none_refused refusal (Some q) later p none h = absurd (none q h)

abbrev program_in : Program → Checked → Program
program_in p (legal q) = q
program_in p c = p

pub is_legal : (l : Library) (main : List ℕ) (p : Program) → checked_in l main ≡ legal p → IsLegal l main p
is_legal l main p h =
    let names = step_reached unnamed (judged_in naming l main).answer (λ x. after_names l main) p not_legal.0 h in
    let types = step_reached mistyped (judged_in typing l main).answer (λ x. after_values l main x) p not_legal.1.0 names.rest in
    let x = types.value in
    let values = none_refused mistyped (first_unmet x.world.instances (reverse x.next.demands)) (λ u. after_counts l main x) p not_legal.1.0 types.rest in
    let counts = none_refused too_large (first_excess x.world x.next l.units) (λ u. legal (program_of x.world x.next main)) p not_legal.1.1 values.1 in
    record {
      walked = x;
      walk = is_walked typing l main x types.is;
      met = values.0;
      limited = counts.0;
      made = sym (ap (program_in p) counts.1);
    }

-- its walk is what the rules come to in the step of types
pub legal_comes : (l : Library) (main : List ℕ) (p : Program) → (h : checked_in l main ≡ legal p) → (judged_in typing l main).answer ≡ Ok (is_legal l main p h).walked
unfolding is_legal step_reached
legal_comes l main p h =
    let names = step_reached unnamed (judged_in naming l main).answer (λ x. after_names l main) p not_legal.0 h in
    (step_reached mistyped (judged_in typing l main).answer (λ x. after_values l main x) p not_legal.1.0 names.rest).is
