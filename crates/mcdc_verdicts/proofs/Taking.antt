-- What a list of vectors whose paths take every edge has.
use Rattle.std.proofs.Common.{◌≡◌, ◌↔◌, ℕ, zero, suc, ◌+◌, ◌<◌, ◌≤◌, inl, inr, Bool, true, false, List, [], ◌∷◌, refl, subst, arith, ⊎_elim}
use Rattle.std.proofs.lemmas.Bool.{cases_lt}
use Rattle.cov_base.specs.declared.event.Vector.{Vector}
use Rattle.cov_base.specs.Expr.{Expr, size}
use Rattle.cov_base.specs.Graph.{graph, IsTree}
use Rattle.cov_base.specs.Marks.{Marks, bit}
use Rattle.cov_base.specs.Path.{IsPathVector}
use Rattle.cov_base.specs.Lists.{Everywhere, Somewhere}
use Rattle.decision_meaning.specs.Pair.{is_unique_cause, is_masking}
use Rattle.decision_meaning.specs.Verdict.{TakesEdge, TakesAllEdges, PathTakesEdge, PathsTakeAllEdges, HasPair, HasPairOfPaths}
use Rattle.decision_meaning.proofs.AllEdges.{all_edges_law}
use Rattle.mcdc_verdicts.proofs.Lists.{everywhere-item}

-- an item of a list that is so
pub record Found {X : Type 0} (P : X → Type 0) (xs : List X) : Type 0 where
  pub item : X
  pub is_so : P item
  pub listed : Somewhere (λ x. x ≡ item) xs

found : {X : Type 0} (P : X → Type 0) (xs : List X) → Somewhere P xs → Found P xs
found P [] at = absurd at
found P (x ∷ xs) at =
    ⊎_elim (λ here. record { item = x; is_so = here; listed = inl refl })
    (λ there. let later = found P xs there in record { item = later.item; is_so = later.is_so; listed = inr later.listed }) at

-- vectors of the list that are of paths, and take the edges of the nodes before m
pub record Picked (e : Expr) (vectors : List Vector) (m : ℕ) : Type 0 where
  pub items : List Vector
  pub paths : Everywhere (IsPathVector (graph e)) items
  pub listed : Everywhere (λ w. Somewhere (λ v. v ≡ w) vectors) items
  pub takes : (k : ℕ) (value : Bool) → k < m → TakesEdge items k value

picked : (e : Expr) (vectors : List Vector) (m : ℕ) → m ≤ size e → PathsTakeAllEdges e vectors → Picked e vectors m
picked e vectors zero few all = record { items = []; paths = tt; listed = tt; takes = λ k value below. absurd (omega arith) }
picked e vectors (suc m) few all =
    let rest = picked e vectors m (omega arith) all in
    let on_false = found (λ v. IsPathVector (graph e) v × (bit v.seen m ≡ true) × (bit v.value m ≡ false)) vectors (all m false (omega arith)) in
    let on_true = found (λ v. IsPathVector (graph e) v × (bit v.seen m ≡ true) × (bit v.value m ≡ true)) vectors (all m true (omega arith)) in
    let items : List Vector = on_false.item ∷ on_true.item ∷ rest.items in
    let at_m : (value : Bool) → TakesEdge items m value = λ value. by_value rest on_false.item on_true.item (on_false.is_so.1, on_false.is_so.2) (on_true.is_so.1, on_true.is_so.2) value in
    record {
      items = items;
      paths = (on_false.is_so.0, (on_true.is_so.0, rest.paths));
      listed = (on_false.listed, (on_true.listed, rest.listed));
      takes = λ k value below.
          ⊎_elim (λ before. inr (inr (rest.takes k value before)))
          (λ past. let here : m ≡ k = omega arith in subst (λ (i : ℕ). TakesEdge items i value) here (at_m value)) (cases_lt k m);
    }
  where
    by_value : (rest : Picked e vectors m) (v w : Vector) → (bit v.seen m ≡ true) × (bit v.value m ≡ false) → (bit w.seen m ≡ true) × (bit w.value m ≡ true)
        → (value : Bool) → TakesEdge (v ∷ w ∷ rest.items) m value
    by_value rest v w takes_false takes_true true = inr (inl takes_true)
    by_value rest v w takes_false takes_true false = inl takes_false

-- a pair of those is a pair of paths of the list
widened : (e : Expr) (test : Marks → Marks → Bool) (vectors : List Vector) (m : ℕ) (some : Picked e vectors m) → HasPair test some.items → HasPairOfPaths e test vectors
widened e test vectors m some pair = (
  pair.0,
  record {
    has_first = everywhere-item (λ w. Somewhere (λ v. v ≡ w) vectors) pair.0.first some.items some.listed pair.1.has_first;
    has_second = everywhere-item (λ w. Somewhere (λ v. v ≡ w) vectors) pair.0.second some.items some.listed pair.1.has_second;
    passes = pair.1.passes;
  },
  everywhere-item (IsPathVector (graph e)) pair.0.first some.items some.paths pair.1.has_first,
  everywhere-item (IsPathVector (graph e)) pair.0.second some.items some.paths pair.1.has_second,
)

-- on a tree, paths that take every edge have a pair of both kinds for each condition
pub pairs_of_paths : (e : Expr) → IsTree (graph e) → (vectors : List Vector) → PathsTakeAllEdges e vectors → (c : ℕ) → c < size e
    → HasPairOfPaths e (is_unique_cause e c) vectors × HasPairOfPaths e (is_masking e c) vectors
pairs_of_paths e tree vectors all c below =
    let some = picked e vectors (size e) (omega arith) all in
    let pairs = all_edges_law e tree some.items some.paths some.takes c below in
    (widened e (is_unique_cause e c) vectors (size e) some pairs.0, widened e (is_masking e c) vectors (size e) some pairs.1)

-- both edges of each node are all edges
pub both_are_all : (e : Expr) (vectors : List Vector) (m : ℕ) → ((k : ℕ) (value : Bool) → k < m → PathTakesEdge e vectors k value)
    → PathTakesEdge e vectors m false × PathTakesEdge e vectors m true → (k : ℕ) (value : Bool) → k < m + 1 → PathTakesEdge e vectors k value
both_are_all e vectors m before both k value below =
    ⊎_elim (λ less. before k value less) (λ past. let here : m ≡ k = omega arith in subst (λ (i : ℕ). PathTakesEdge e vectors i value) here (of_both both value)) (cases_lt k m)
  where
    of_both : PathTakesEdge e vectors m false × PathTakesEdge e vectors m true → (value : Bool) → PathTakesEdge e vectors m value
    of_both both true = both.1
    of_both both false = both.0

-- in a list of vectors of paths it is enough that they take the edge
path_takes : (e : Expr) (k : ℕ) (value : Bool) (vectors : List Vector) → Everywhere (IsPathVector (graph e)) vectors → TakesEdge vectors k value → PathTakesEdge e vectors k value
path_takes e k value [] paths at = at
path_takes e k value (v ∷ vectors) paths at =
    ⊎_elim (λ here. inl (paths.0, here.0, here.1)) (λ there. inr (path_takes e k value vectors paths.1 there)) at

takes_by_path : (e : Expr) (k : ℕ) (value : Bool) (vectors : List Vector) → PathTakesEdge e vectors k value → TakesEdge vectors k value
takes_by_path e k value [] at = at
takes_by_path e k value (v ∷ vectors) at =
    ⊎_elim (λ here. inl (here.1, here.2)) (λ there. inr (takes_by_path e k value vectors there)) at

pub takes_all : (e : Expr) (vectors : List Vector) → Everywhere (IsPathVector (graph e)) vectors → PathsTakeAllEdges e vectors ↔ TakesAllEdges e vectors
takes_all e vectors paths = (
  λ all k value below. takes_by_path e k value vectors (all k value below),
  λ all k value below. path_takes e k value vectors paths (all k value below),
)
