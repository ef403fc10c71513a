-- Vectors that are added are still of paths.
use Rattle.std.proofs.Common.{◌≡◌, ℕ, true, false, zero, suc, List, [], ◌∷◌, ◌++◌, map, drop, sym, ap, ◌∙◌, subst, if◌then◌else◌}
use Rattle.std.proofs.lemmas.List.{append-nil}
use Rattle.serde_json.specs.Data.{Data, string}
use Rattle.annotated_report.specs.Shown.{vector_text}
use Rattle.cov_base.specs.declared.event.Vector.{Vector}
use Rattle.cov_base.specs.Expr.{Expr, size}
use Rattle.cov_base.specs.Graph.{Edges, graph}
use Rattle.cov_base.specs.Lists.{Everywhere}
use Rattle.cov_base.specs.Marks.{marks, precedes}
use Rattle.cov_base.specs.Path.{IsPathVector}
use Rattle.mcdc_verdicts.specs.Search.{IsWord, widest}
use Rattle.mcdc_verdicts.proofs.Causing.{path-unseen}
use Rattle.mcdc_verdicts.proofs.Searching.{same_order}
use Rattle.json_report.specs.Distinct.{in_front, added, all_added}

in_front_everywhere : (P : Vector → Type 0) (n : ℕ) (v : Vector) (ws : List Vector) → P v → Everywhere P ws → Everywhere P (in_front n v ws)
in_front_everywhere P n v [] here all = (here, tt)
in_front_everywhere P n v (w ∷ ws) here all =
    elim (precedes n (marks v) (marks w)) as (λ b. Everywhere P (if b then v ∷ w ∷ ws else w ∷ ws)) [ true ↦ (here, all) | false ↦ all ]

-- what holds of a vector and of those in order holds of all once it is added
pub added_everywhere : (P : Vector → Type 0) (n : ℕ) (v : Vector) (ws : List Vector) → P v → Everywhere P ws → Everywhere P (added n v ws)
added_everywhere P n v [] here all = (here, tt)
added_everywhere P n v (w ∷ ws) here all =
    elim (precedes n (marks w) (marks v)) as (λ b. Everywhere P (if b then w ∷ added n v ws else in_front n v (w ∷ ws))) [
      | true ↦ (all.0, added_everywhere P n v ws here all.1)
      | false ↦ in_front_everywhere P n v (w ∷ ws) here all
    ]

pub added_paths : (edges : List Edges) (n : ℕ) (v : Vector) (ws kept : List Vector) → IsPathVector edges v → Everywhere (IsPathVector edges) ws
    → kept ≡ added n v ws → Everywhere (IsPathVector edges) kept
added_paths edges n v ws kept here all is =
    subst (Everywhere (IsPathVector edges)) (sym is) (added_everywhere (IsPathVector edges) n v ws here all)

everywhere_dropped : (P : Vector → Type 0) (i : ℕ) (vs : List Vector) → Everywhere P vs → Everywhere P (drop i vs)
everywhere_dropped P zero vs all = all
everywhere_dropped P (suc i) [] all = tt
everywhere_dropped P (suc i) (v ∷ vs) all = everywhere_dropped P i vs all.1

pub everywhere_at : (P : Vector → Type 0) (vs : List Vector) (i : ℕ) (v : Vector) (rest : List Vector) → Everywhere P vs → drop i vs ≡ v ∷ rest → P v
everywhere_at P vs i v rest all next = let left : Everywhere P (v ∷ rest) = subst (Everywhere P) next (everywhere_dropped P i vs all) in left.0

-- one more vector, and all that are left
pub all_more : (n : ℕ) (vs : List Vector) (i : ℕ) (v : Vector) (kept more all rest : List Vector) → more ≡ added n v kept
    → all_added n kept (drop i vs) ≡ all → drop i vs ≡ v ∷ rest → all_added n more rest ≡ all
all_more n vs i v kept more all rest is whole next =
    ap (λ k. all_added n k rest) is ∙ ap (all_added n kept) (sym next) ∙ whole

-- the texts of all vectors are made once none is left
pub values_are : (values : List Data) (items distinct : List Vector) (i n m : ℕ)
    → values ++ map (λ v. string (vector_text n v)) (drop i items) ≡ map (λ v. string (vector_text n v)) items
    → drop i items ≡ [] → items ≡ distinct → n ≡ m → values ≡ map (λ v. string (vector_text m v)) distinct
values_are values items distinct i n m whole none same count =
    sym (append-nil values) ∙ ap (λ l. values ++ map (λ v. string (vector_text n v)) l) (sym none) ∙ whole
    ∙ ap (map (λ v. string (vector_text n v))) same ∙ ap (λ k. map (λ v. string (vector_text k v)) distinct) count

-- the order of all bits is that of the decision's conditions
pub path_order : (e : Expr) (edges : List Edges) (v w : Vector) → edges ≡ graph e → IsPathVector edges v → IsPathVector edges w → IsWord v → IsWord w
    → precedes widest (marks v) (marks w) ≡ precedes (size e) (marks v) (marks w)
path_order e edges v w is first second word_v word_w =
    same_order (size e) v w (path-unseen e v (subst (λ es. IsPathVector es v) is first)) (path-unseen e w (subst (λ es. IsPathVector es w) is second)) word_v word_w
