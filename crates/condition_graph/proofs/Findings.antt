-- What is found of the nodes from one on, from what is found of those behind it.
use Rattle.std.proofs.Common.{◌≡◌, ℕ, ◌-◌, ◌<◌, ◌≤◌, suc, Bool, not, cond, ◌&&◌, ◌||◌, List, ◌∷◌, length, map, drop, get_or, eqb, sym, ap, subst, ◌∙◌, drop-cons, arith}
use Rattle.cov_base.specs.declared.event.Vector.{Vector}
use Rattle.cov_base.specs.Graph.{Edges, target}
use Rattle.cov_base.specs.Marks.{bit, marks}
use Rattle.decision_meaning.specs.Turn.{reaches, open_from, can_turn_from}
use Rattle.condition_graph.specs.declared.node.Exits.{Exits}
use Rattle.condition_graph.specs.Target.{place_of, edges_of}

-- what is found of the nodes from number n on
pub record Finds (xs : List Exits) (n : ℕ) (v : Vector) (given : Bool) (leading turning : ℕ → Bool) : Type 0 where
  pub leads : (k : ℕ) → leading k ≡ open_from n (map edges_of (drop n xs)) (marks v) given k
  pub turns : (c : ℕ) → turning c ≡ can_turn_from n (map edges_of (drop n xs)) (marks v) given c

-- what is added of a node
pub record Adds (x : Exits) (n : ℕ) (v : Vector) (given : Bool) (leading turning leading' turning' : ℕ → Bool) : Type 0 where
  pub leads : (k : ℕ) → leading' k ≡ cond (eqb k n)
      (not (bit v.seen n) && (reaches leading given (place_of x.on_true) || reaches leading given (place_of x.on_false))) (leading k)
  pub turns : (c : ℕ) → turning' c ≡ cond (eqb c n)
      (bit v.seen n && reaches leading given (target (edges_of x) (not (bit v.value n)))) (turning c)

finds_next : (xs : List Exits) (x : Exits) (n : ℕ) (v : Vector) (given : Bool) (leading turning leading' turning' : ℕ → Bool)
    → drop n xs ≡ x ∷ drop (suc n) xs → Finds xs (suc n) v given leading turning → Adds x n v given leading turning leading' turning'
    → Finds xs n v given leading' turning'
finds_next xs x n v given leading turning leading' turning' is finds adds =
    let later : List Edges = map edges_of (drop (suc n) xs) in
    let same_leading : leading ≡ open_from (suc n) later (marks v) given = λ i k. finds.leads k i in
    record {
      leads = λ k. adds.leads k
          ∙ ap (λ (from : ℕ → Bool). cond (eqb k n) (not (bit v.seen n) && (reaches from given (place_of x.on_true) || reaches from given (place_of x.on_false))) (from k)) same_leading
          ∙ ap (λ (ys : List Exits). open_from n (map edges_of ys) (marks v) given k) (sym is);
      turns = λ c. adds.turns c
          ∙ ap (λ (from : ℕ → Bool). cond (eqb c n) (bit v.seen n && reaches from given (target (edges_of x) (not (bit v.value n)))) (turning c)) same_leading
          ∙ ap (λ (b : Bool). cond (eqb c n) (bit v.seen n && reaches (open_from (suc n) later (marks v) given) given (target (edges_of x) (not (bit v.value n)))) b) (finds.turns c)
          ∙ ap (λ (ys : List Exits). can_turn_from n (map edges_of ys) (marks v) given c) (sym is);
    }

-- one node more, counted down
pub finds_before : (xs : List Exits) (i : ℕ) (d : Exits) (v : Vector) (given : Bool) (leading turning leading' turning' : ℕ → Bool)
    → 0 < i → i ≤ length xs → Finds xs i v given leading turning → Adds (get_or xs (i - 1) d) (i - 1) v given leading turning leading' turning'
    → Finds xs (i - 1) v given leading' turning'
finds_before xs i d v given leading turning leading' turning' some within finds adds =
    let again : i ≡ suc (i - 1) = omega arith in
    finds_next xs (get_or xs (i - 1) d) (i - 1) v given leading turning leading' turning' (drop-cons xs (i - 1) d (omega arith))
    (subst (λ (k : ℕ). Finds xs k v given leading turning) again finds) adds
