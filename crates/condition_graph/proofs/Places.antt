-- The place of a node in a list, and the lengths of graphs.
use Rattle.std.proofs.Common.{◌≡◌, ℕ, ◌+◌, ◌<◌, suc, zero, Bool, true, false, List, [], ◌∷◌, length, map, get_or, refl, sym, ap, ◌∙◌, eq-eqb, ne_eqb, arith}
use Rattle.cov_base.specs.Expr.{Expr, size}
use Rattle.std.proofs.Math.ListN.{get_or-map}
use Rattle.std.proofs.lemmas.List.{length-map}
use Rattle.cov_base.proofs.Edges.{length-nodes}
use Rattle.condition_graph.specs.declared.node.Exits.{Exits}
use Rattle.condition_graph.specs.Target.{edges_of}
use Rattle.cov_base.specs.Graph.{leaf, Edges, target, graph, next_from, next_in}

-- the node of number k stands k - n places on
pub next_at : (es : List Edges) (n i k : ℕ) (value : Bool) (d : Edges) → i < length es → k ≡ n + i → next_from n es k value ≡ target (get_or es i d) value
next_at [] n i k value d within is = absurd (omega arith)
next_at (edges ∷ rest) n zero k value d within is =
    let here : k ≡ n = omega arith in rw (eq-eqb k n here) refl
next_at (edges ∷ rest) n (suc i) k value d within is =
    let later : k ≡ n → ⊥ = λ h. absurd (omega arith) in
    rw (ne_eqb k n later) (next_at rest (suc n) i k value d (omega arith) (omega arith))

-- the program's node of number k is the node of that number
pub next_of_place : (xs : List Exits) (k : ℕ) (value : Bool) (d : Exits) → k < length xs → d ≡ get_or xs k d
    → target (edges_of d) value ≡ next_in (map edges_of xs) k value
next_of_place xs k value d within is =
    let same_length : length (map edges_of xs) ≡ length xs = length-map xs edges_of in
    ap (λ (x : Exits). target (edges_of x) value) is
    ∙ ap (λ (x : Edges). target x value) (sym (get_or-map edges_of xs k d))
    ∙ sym (next_at (map edges_of xs) 0 k k value (edges_of d) (omega arith) (omega arith))

pub next_of_item : (xs : List Exits) (k : ℕ) (value : Bool) (d : Exits) → k < length xs
    → target (edges_of (get_or xs k d)) value ≡ next_in (map edges_of xs) k value
next_of_item xs k value d within =
    let same_length : length (map edges_of xs) ≡ length xs = length-map xs edges_of in
    ap (λ (x : Edges). target x value) (sym (get_or-map edges_of xs k d))
    ∙ sym (next_at (map edges_of xs) 0 k k value (edges_of d) (omega arith) (omega arith))

-- a list that is a decision's graph has a node for each condition
pub length_of_graph : (xs : List Exits) (e : Expr) → map edges_of xs ≡ graph e → length xs ≡ size e
length_of_graph xs e is = sym (length-map xs edges_of) ∙ ap length is ∙ length-nodes e 0 (leaf true) (leaf false)
