-- One part of a construct behind another, as the walk goes on.
use Rattle.std.proofs.Common.{◌≡◌, ℕ, List, ◌∷◌, Result, Ok, Err, Option, OnOk, ap, ◌∙◌, sym, subst}
use Rattle.cov_base.specs.declared.position.Pos.{Pos}
use Rattle.cov_base.specs.declared.failure.Failure.{Failure}
use Rattle.cov_base.specs.declared.failure.Failure.TheVariants.{Fault, WantOfMemory}
use Rattle.ada_meaning.specs.Tree as tree
use Rattle.ada_tree.specs.declared.label.Label.{Label}
use Rattle.ada_tree.specs.View.{label_of}
use Rattle.ada_rules.specs.Plan.{Plan, answer_at}
use Rattle.ada_rules.specs.Environment.{State, Given, given, Env, statement_label, started, beginning_state}
use Rattle.ada_entities.specs.declared.entity.Entity.{Entity}
use Rattle.ada_entities.specs.RegionCode.{enclosing}
use Rattle.ada_entities.specs.declared.fault.Refusal.{Refusal}
use Rattle.ada_entities.specs.Answers.{Refuses, no_memory, Answers}
use Rattle.ada_entities.specs.EntityViews.{Tables}
use Rattle.program_walk.specs.declared.symbols.Symbols.{Symbols}
use Rattle.program_walk.specs.Changes.{Becomes, Grows, Closes, UnlessMemory}
use Rattle.program_walk.specs.declared.counts.Counts.{Counts}
use Rattle.program_walk.specs.declared.walk.Walk.{Walk}
use Rattle.program_walk.specs.Counting.{IsLabel, Starts}
use Rattle.program_walk.specs.States.{state_of}
use Rattle.program_walk.specs.Walks.{Begins, Continues}
use Rattle.program_walk.specs.Going.{Stays}
use Rattle.statement_parts.specs.Simple.{in_program}
use Rattle.statements.specs.Made.{some_in_program, IsMade}
use Rattle.statements.proofs.SimpleLaws.{behind_label}

-- a failure, of whatever answer
abbrev pub fails : Failure Refusal → Result (Unit {0}) (Failure Refusal)
fails f = Err f

pub then_grows : (a b c : Symbols) → Grows a b → Grows b c → Grows a c
then_grows a b c f g = record {
  known = λ h. g.known (f.known h);
  stays = λ h k l alike. f.stays h k l (g.stays (f.known h) k l alike);
  begins = λ k h. f.begins k (g.begins k h);
  regions = g.regions ∙ f.regions;
  units = g.units ∙ f.units;
}

pub then_continues : {A : Type 0} (a b c : Walk) (r : Result A (Failure Refusal)) → Continues a b → UnlessMemory (Continues b c) r
    → UnlessMemory (Continues a c) r
then_continues a b c (Ok x) f g = λ k h. f k (g k h)
then_continues a b c (Err (Fault x)) f g = λ k h. f k (g k h)
then_continues a b c (Err WantOfMemory) f g = tt

-- where the part behind is refused
pub failure_continues : (a b c : Walk) (f : Failure Refusal) → Continues a b → UnlessMemory (Continues b c) (fails f)
    → UnlessMemory (Continues a c) (fails f)
failure_continues a b c (Fault x) f g = λ k h. f k (g k h)
failure_continues a b c WantOfMemory f g = tt

pub refused_behind : {B : Type 0} (b c : Walk) (k : Tables) (f : Failure Refusal) (r : Result B Pos) → UnlessMemory (Continues b c) (fails f)
    → Begins c k → (Begins b k → Refuses r f) → Refuses r f
refused_behind b c k (Fault x) r goes begins h = h (goes k begins)
refused_behind b c k WantOfMemory r goes begins h = no_memory

-- a statement that was made, as one of a list
pub made_answers : (k : Tables) (s : State) (r : Result (Given (List tree.Stmt)) Pos) (x : Result tree.Stmt (Failure Refusal))
    (y : Result (Option tree.Stmt) (Failure Refusal)) → IsMade x y → Answers (λ t. given (in_program k t) s) r x
    → Answers (λ t. given (some_in_program k t) s) r y
made_answers k s r (Ok t) y is a = subst (λ o. Answers (λ t. given (some_in_program k t) s) r o) (sym is) a
made_answers k s r (Err f) y is a = subst (λ o. Answers (λ t. given (some_in_program k t) s) r o) (sym is) a

pub made_continues : (P : Type 0) (x : Result tree.Stmt (Failure Refusal)) (y : Result (Option tree.Stmt) (Failure Refusal)) → IsMade x y
    → UnlessMemory P x → UnlessMemory P y
made_continues P (Ok t) y is h = subst (UnlessMemory P) (sym is) h
made_continues P (Err (Fault f)) y is h = subst (UnlessMemory P) (sym is) h
made_continues P (Err WantOfMemory) y is h = subst (UnlessMemory P) (sym is) h

pub made_grown : (P : Type 0) (x : Result tree.Stmt (Failure Refusal)) (y : Result (Option tree.Stmt) (Failure Refusal)) → IsMade x y → OnOk x P → OnOk y P
made_grown P (Ok t) y is h = subst (λ o. OnOk o P) (sym is) h
made_grown P (Err f) y is h = subst (λ o. OnOk o P) (sym is) h

-- what holds of each answer
pub goes : {A : Type 0} (a b : Walk) (r : Result A (Failure Refusal)) → Continues a b → UnlessMemory (Continues a b) r
goes a b (Ok x) h = h
goes a b (Err (Fault x)) h = h
goes a b (Err WantOfMemory) h = tt

pub if_ok : {A : Type 0} (a b : Symbols) (r : Result A (Failure Refusal)) → Grows a b → OnOk r (Grows a b)
if_ok a b (Ok x) h = h
if_ok a b (Err f) h = tt

pub stays_continue : (a b c : Walk) (f : Failure Refusal) → Continues a b → Stays b c f → UnlessMemory (Continues a c) (fails f)
stays_continue a b c (Fault x) h s = λ k d. h k (s k d)
stays_continue a b c WantOfMemory h s = tt

-- a construct behind the label that was taken for it
pub behind_at : (plan : tree.Label → Env → State → Plan (Given (List tree.Stmt))) (env : Env) (p : Pos) (k : Tables) (w : Walk) (c : Counts) (l : Label)
    → IsLabel w.counts p l → Starts w.counts c
    → answer_at p (plan (statement_label (state_of k w) p) env (started (state_of k w))).outcome
    ≡ answer_at p (plan (label_of l) env (state_of k (record w { counts = c }))).outcome
behind_at plan env p k w c l is starts =
    λ z. answer_at p (plan (sym (is beginning_state) z) env (sym (behind_label k w c starts) z)).outcome

-- a region that opens, in which more is declared, and that closes again
pub region_gone : (a b c d : Symbols) (r : List (List ℕ × Entity)) → Becomes a b (r ∷ a.regions) a.units → Grows b c → Closes c d → Grows a d
region_gone a b c d r opens grows closes = record {
  known = λ h. closes.known (grows.known (opens.known h));
  stays = λ h k l alike. opens.stays h k l (grows.stays (opens.known h) k l (closes.stays (grows.known (opens.known h)) k l alike));
  begins = λ k h. opens.begins k (grows.begins k (closes.begins k h));
  regions = closes.regions ∙ (ap enclosing grows.regions ∙ ap enclosing opens.regions);
  units = closes.units ∙ (grows.units ∙ opens.units);
}
