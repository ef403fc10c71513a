-- The entries of decisions.
use Rattle.std.proofs.Common.{◌≡◌, ℕ, zero, suc, ◌+◌, ◌≤◌, ◌<◌, true, List, [], ◌∷◌, length, map, slice_get, Some, option_map, unwrap_or, refl, sym, ap, ◌∙◌, subst, arith, length-append}
use Rattle.std.specs.List.{AllByRecursion}
use Rattle.std.proofs.lemmas.List.{length-map}
use Rattle.ada_meaning.specs.Collected.{Decision, condition_places}
use Rattle.ada_meaning.specs.Obligations.{numbers, decision_entry, condition_entry}
use Rattle.ada_meaning.specs.Tree as tree
use Rattle.ada_meaning.specs.Tree.{shape_of, conditions_of}
use Rattle.cov_base.specs.declared.obligations.DecEntry.{DecEntry}
use Rattle.cov_base.specs.declared.position.DecId.{DecId}
use Rattle.cov_base.proofs.Postfix.{read_postfix}
use Rattle.cov_base.specs.Expression.{expression_of}
use Rattle.decision_map.specs.Decisions.{graph_at}
use Rattle.cov_base.specs.Expr as logic
use Rattle.cov_base.specs.Expr.{Expr, postfix_of, IsPostfixOf}
use Rattle.cov_base.specs.Graph.{Edges, graph}
use Rattle.cov_base.specs.Lists.{Everywhere}
use Rattle.object_format.specs.Decisions.{AreExpression}
use Rattle.object_format.specs.Fields.{condition_count}
use Rattle.object_format.specs.declared.object.Object.{Object}

-- conditions

places_many : (t : tree.Test) → length (condition_places t) ≡ conditions_of t
places_many (tree.condition at e) = refl
places_many (tree.negation t) = places_many t
places_many (tree.operator neutral t u) = length-append (condition_places t) (condition_places u) ∙ (λ i. places_many t i + places_many u i)

pub conditions_many : (h : Decision) → length (decision_entry h).conditions ≡ conditions_of h.test
conditions_many h = length-map (condition_places h.test) condition_entry ∙ places_many h.test

pub size_positive : (e : Expr) → 0 < logic.size e
size_positive logic.condition = omega arith
size_positive (logic.negation e) = size_positive e
size_positive (logic.operator neutral left right) = omega (arith, size_positive left)

-- expressions: few conditions, and no `not` directly in another

abbrev pub AreFew : List Decision → Type 0
AreFew hs = Everywhere (λ h. conditions_of h.test ≤ 32) hs

abbrev pub NegateOnce : List Decision → Type 0
NegateOnce hs = Everywhere (λ h. logic.negates_once (shape_of h.test) ≡ true) hs

spelled : (t : tree.Test) → conditions_of t ≤ 32 → logic.negates_once (shape_of t) ≡ true → IsPostfixOf (postfix_of (shape_of t)) (shape_of t)
spelled t few once = record { spelled = refl; fits = few; once = once }

pub are_expressions : (hs : List Decision) → AreFew hs → NegateOnce hs
    → AllByRecursion (λ d. AreExpression d.expression.postfix (length d.conditions)) (map decision_entry hs)
are_expressions [] few once = tt
are_expressions (h ∷ hs) few once = ((shape_of h.test, spelled h.test few.0 once.0, sym (conditions_many h)), are_expressions hs few.1 once.1)

read_back : (t : tree.Test) → conditions_of t ≤ 32 → logic.negates_once (shape_of t) ≡ true → expression_of (postfix_of (shape_of t)) ≡ shape_of t
read_back t few once = read_postfix (postfix_of (shape_of t)) (shape_of t) (spelled t few once)

-- decisions by their numbers

abbrev head_of : List ℕ → ℕ
head_of [] = 0
head_of (n ∷ ns) = n

abbrev behind : List ℕ → List ℕ
behind [] = []
behind (n ∷ ns) = ns

pub first_number : (from : ℕ) (h : Decision) (hs : List Decision) → map (λ g. g.label.number) (h ∷ hs) ≡ numbers from (length (h ∷ hs)) → h.label.number ≡ from
first_number from h hs are = ap head_of are

pub numbers_behind : (from : ℕ) (h : Decision) (hs : List Decision) → map (λ g. g.label.number) (h ∷ hs) ≡ numbers from (length (h ∷ hs))
    → map (λ g. g.label.number) hs ≡ numbers (suc from) (length hs)
numbers_behind from h hs are = ap behind are

-- what holds of each decision with its number holds of each, where they are numbered as they come
pub numbered_from : (P : ℕ → Decision → Type 0) (from : ℕ) (hs : List Decision) → map (λ h. h.label.number) hs ≡ numbers from (length hs)
    → ((n : ℕ) (h : Decision) → slice_get hs n ≡ Some h → P (from + n) h) → Everywhere (λ h. P h.label.number h) hs
numbered_from P from [] are each = tt
numbered_from P from (h ∷ hs) are each = (
  subst (λ n. P n h) (let first : from + 0 ≡ h.label.number = omega (arith, first_number from h hs are) in first) (each 0 h refl),
  numbered_from P (suc from) hs (numbers_behind from h hs are) (λ n g there. subst (λ m. P m g) (let next : from + suc n ≡ suc from + n = omega arith in next) (each (suc n) g there)),
)

-- the graphs of decisions by their numbers
abbrev pub graph_in : List Decision → DecId → List Edges
graph_in hs d = graph (unwrap_or (option_map (λ h. shape_of h.test) (slice_get hs d.0)) logic.condition)

abbrev pub AreGraphs : (DecId → List Edges) → List Decision → Type 0
AreGraphs f hs = Everywhere (λ h. f (record { 0 = h.label.number }) ≡ graph (shape_of h.test)) hs

pub own_graphs : (hs : List Decision) → map (λ h. h.label.number) hs ≡ numbers 0 (length hs) → AreGraphs (graph_in hs) hs
own_graphs hs are =
    numbered_from (λ n h. graph_in hs (record { 0 = n }) ≡ graph (shape_of h.test)) 0 hs are
    (λ n h there. ap (λ o. graph (unwrap_or (option_map (λ g. shape_of g.test) o) logic.condition)) (let same : 0 + n ≡ n = omega arith in ap (slice_get hs) same ∙ there))

entry_there : (hs : List Decision) (n : ℕ) (h : Decision) → slice_get hs n ≡ Some h → slice_get (map decision_entry hs) n ≡ Some (decision_entry h)
entry_there [] n h there = absurd (let x : ⊥ = cc there in x)
entry_there (g ∷ hs) zero h there = ap (option_map decision_entry) there
entry_there (g ∷ hs) (suc n) h there = entry_there hs n h there

of_everywhere : (P : Decision → Type 0) (hs : List Decision) (n : ℕ) (h : Decision) → Everywhere P hs → slice_get hs n ≡ Some h → P h
of_everywhere P [] n h each there = absurd (let x : ⊥ = cc there in x)
of_everywhere P (g ∷ hs) zero h each there = subst P (let same : g ≡ h = cc there in same) each.0
of_everywhere P (g ∷ hs) (suc n) h each there = of_everywhere P hs n h each.1 there

-- an object with these decisions has their graphs
pub object_graphs : (o : Object) (hs : List Decision) → o.obligations.decisions ≡ map decision_entry hs → AreFew hs → NegateOnce hs
    → map (λ h. h.label.number) hs ≡ numbers 0 (length hs) → AreGraphs (λ d. graph_at o d.0) hs
object_graphs o hs is few once are =
    numbered_from (λ n h. graph_at o n ≡ graph (shape_of h.test)) 0 hs are
    (λ n h there. let same : 0 + n ≡ n = omega arith in
    ap (λ m. graph_at o m) same
    ∙ (ap (λ (ds : List DecEntry). graph (unwrap_or (option_map (λ entry. expression_of entry.expression.postfix) (slice_get ds n)) logic.condition)) is
    ∙ (ap (λ e. graph (unwrap_or (option_map (λ (entry : DecEntry). expression_of entry.expression.postfix) e) logic.condition)) (entry_there hs n h there)
    ∙ ap graph (read_back h.test (of_everywhere (λ g. conditions_of g.test ≤ 32) hs n h few there) (of_everywhere (λ g. logic.negates_once (shape_of g.test) ≡ true) hs n h once there)))))

-- how many conditions the entry of a numbered decision has
pub count_at : (hs : List Decision) (n : ℕ) (h : Decision) → slice_get hs n ≡ Some h → condition_count (slice_get (map decision_entry hs) n) ≡ conditions_of h.test
count_at hs n h there = ap condition_count (entry_there hs n h there) ∙ conditions_many h
