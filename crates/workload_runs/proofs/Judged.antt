-- What the totals ask of an object that passed its checks, and of events that its runs can have.
use Rattle.std.proofs.Common.{◌≡◌, inl, inr, ℕ, zero, suc, ◌<◌, Bool, true, false, cond, ◌==◌, List, [], ◌∷◌, length, Option, Some, None, refl, sym, ap, subst, ◌∙◌, slice_get, eqb-true}
use Rattle.std.proofs.lemmas.Bool.{and_parts, ltb-true}
use Rattle.std.specs.List.{list_all, filter_map, cons_option, AllByRecursion}
use Rattle.annotated_report.specs.Caller.{AreEvaluated, AreOfStatements}
use Rattle.annotated_report.specs.Verdicts.{vector_in, vectors_of}
use Rattle.cov_base.specs.declared.event.Event.{Event}
use Rattle.cov_base.specs.declared.event.Event.TheVariants.{Start, Done}
use Rattle.cov_base.specs.declared.event.Vector.{Vector}
use Rattle.cov_base.specs.declared.obligations.DecEntry.{DecEntry}
use Rattle.coverage_set.specs.Consolidated.{IsPossibleEvent}
use Rattle.decision_map.proofs.Needed.{graph_of_spelled}
use Rattle.decision_map.specs.Decisions.{graph_at}
use Rattle.cov_base.specs.Graph.{Edges}
use Rattle.cov_base.specs.Lists.{Somewhere, Everywhere}
use Rattle.cov_base.specs.Path.{IsPathVector}
use Rattle.object_format.specs.Checked.{IsSound}
use Rattle.object_format.specs.declared.object.Object.{Object}
use Rattle.object_format.specs.Decisions.{AreExpression}
use Rattle.object_format.specs.Fields.{is_decision, passes_field}

-- ---- what holds of all holds of the one in a place

each_at : {X : Type 0} (P : X → Type 0) (xs : List X) (place : ℕ) (x : X) → AllByRecursion P xs → slice_get xs place ≡ Some x → P x
each_at P [] place x all there = absurd (cc there)
each_at P (y ∷ ys) zero x all there = let same : y ≡ x = cc there in subst P same all.0
each_at P (y ∷ ys) (suc place) x all there = each_at P ys place x all.1 there

passes_at : {X : Type 0} (test : X → Bool) (xs : List X) (place : ℕ) (x : X) → list_all test xs ≡ true → slice_get xs place ≡ Some x → test x ≡ true
passes_at test [] place x all there = absurd (cc there)
passes_at test (y ∷ ys) zero x all there = let same : y ≡ x = cc there in ap test (sym same) ∙ (and_parts _ _ all).0
passes_at test (y ∷ ys) (suc place) x all there = passes_at test ys place x (and_parts _ _ all).1 there

-- ---- decisions

decisions_pass : (o : Object) → passes_field o ≡ true
    → list_all (is_decision (length o.files) (length o.obligations.statements)) o.obligations.decisions ≡ true
decisions_pass o field =
    let obliged = (and_parts _ _ (and_parts _ _ (and_parts _ _ field).0).0).1 in
    (and_parts _ _ (and_parts _ _ (and_parts _ _ obliged).0).1).0

in_statement : (files statements : ℕ) (entry : DecEntry) → is_decision files statements entry ≡ true → entry.statement.0 < statements
in_statement files statements entry passes =
    ltb-true entry.statement.0 statements
    (and_parts _ _ (and_parts _ _ (and_parts _ _ (and_parts _ _ (and_parts _ _ (and_parts _ _ passes).0).0).0).0).0).0

-- each decision of a checked object is of one of its statements
pub statements_known : (o : Object) → IsSound o → AreOfStatements o.obligations.decisions (length o.obligations.statements)
statements_known o sound = λ d entry there.
    in_statement (length o.files) (length o.obligations.statements) entry
    (passes_at (is_decision (length o.files) (length o.obligations.statements)) o.obligations.decisions d entry (decisions_pass o sound.field) there)

-- ---- vectors

-- the vectors that events give a decision are so, where each of them that an event gives is
all_given : (P : Vector → Type 0) (d : ℕ) (events : List Event) → ((e : Event) (v : Vector) → Somewhere (λ x. x ≡ e) events → vector_in d e ≡ Some v → P v)
    → Everywhere P (filter_map (vector_in d) events)
all_given P d [] each = tt
all_given P d (e ∷ events) each =
    by_vector (vector_in d e) (λ v given. each e v (inl refl) given) (all_given P d events (λ f v there given. each f v (inr there) given))
  where
    by_vector : (found : Option Vector) → ((v : Vector) → found ≡ Some v → P v) → Everywhere P (filter_map (vector_in d) events)
        → Everywhere P (cons_option found (filter_map (vector_in d) events))
    by_vector None here rest = rest
    by_vector (Some v) here rest = (here v refl, rest)

-- an event that can occur gives a decision the vector of a path
of_event : (o : Object) (d : ℕ) (e : Event) (v : Vector) → IsPossibleEvent o e → vector_in d e ≡ Some v → IsPathVector (graph_at o d) v
of_event o d (Start s i) v possible given = absurd (cc given)
of_event o d (Done n i vector) v possible given = by_number (n.0 == d) refl given
  where
    by_number : (b : Bool) → (n.0 == d) ≡ b → cond b (Some vector) None ≡ Some v → IsPathVector (graph_at o d) v
    by_number false is gives = absurd (cc gives)
    by_number true is gives =
        let same : vector ≡ v = cc gives in
        subst (λ (w : Vector). IsPathVector (graph_at o d) w) same
        (subst (λ (m : ℕ). IsPathVector (graph_at o m) vector) (eqb-true n.0 d is) possible.path)

-- each decision of a checked object can be judged by events that can occur
pub evaluations_known : (o : Object) (events : List Event) → IsSound o → ((e : Event) → Somewhere (λ x. x ≡ e) events → IsPossibleEvent o e)
    → AreEvaluated o.obligations.decisions events
evaluations_known o events sound possible = λ d entry there.
    let is = each_at (λ (x : DecEntry). AreExpression x.expression.postfix (length x.conditions)) o.obligations.decisions d entry sound.decision there in
    record {
      expression = is.0;
      spelled = is.1;
      placed = sym is.2;
      paths = subst (λ (g : List Edges). Everywhere (IsPathVector g) (vectors_of events d)) (graph_of_spelled o d entry is.0 there is.1)
          (all_given (IsPathVector (graph_at o d)) d events (λ e v there given. of_event o d e v (possible e there) given));
    }
