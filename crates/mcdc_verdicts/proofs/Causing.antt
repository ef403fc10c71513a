-- When two vectors of paths are a unique-cause pair, by the conditions that differ.
use Rattle.std.proofs.Common.{◌≡◌, ℕ, zero, suc, ◌<◌, ◌≤◌, Bool, true, false, not, ◌&&◌, ◌||◌, inl, inr, List, [], ◌∷◌, nat_eq, refl, ap, subst, sym, ◌∙◌, arith, eq-eqb}
use Rattle.std.specs.Bool.{beq}
use Rattle.std.proofs.lemmas.Bool.Decides.{nat_tests, eqb_tells, leb_tells}
use Rattle.cov_base.specs.declared.event.Vector.{Vector}
use Rattle.cov_base.specs.Expr.{Expr, size}
use Rattle.cov_base.specs.Graph.{Next, node, leaf, graph}
use Rattle.cov_base.specs.Marks.{Marks, bit, same, outcome}
use Rattle.cov_base.specs.Path.{Step, LeadsTo, IsPathVector}
use Rattle.decision_meaning.specs.Pair.{turns, agrees, others_agree, is_unique_cause}
use Rattle.cov_base.proofs.Bits.{some_step, is_at, bit_seen}
use Rattle.cov_base.proofs.Edges.{edges_rise, size_some}

-- the nodes of a path are nodes of the graph
inside : (e : Expr) (path : List Step) (k : ℕ) → LeadsTo (graph e) path (node k) → k < size e
inside e [] k leads = let root : k ≡ 0 = cc in let some = size_some e in omega arith
inside e (step ∷ older) k leads = (edges_rise e step.at_node step.value k leads.0).1

none_past : (e : Expr) (path : List Step) (x : Next) (d : ℕ) → LeadsTo (graph e) path x → size e ≤ d → some_step (is_at d) path ≡ false
none_past e [] x d leads past = refl
none_past e (step ∷ older) x d leads past =
    let here : step.at_node < size e = inside e older step.at_node leads.1 in
    let rest : some_step (is_at d) older ≡ false = none_past e older (node step.at_node) d leads.1 past in
    let off : nat_eq d step.at_node ≡ false = grind (arith, nat_tests) in
    ap (λ b. b || some_step (is_at d) older) off ∙ rest

-- conditions past the last one are not seen
abbrev pub IsUnseenFrom : ℕ → Vector → Type 0
IsUnseenFrom n v = (d : ℕ) → n ≤ d → bit v.seen d ≡ false

pub path-unseen : (e : Expr) (v : Vector) → IsPathVector (graph e) v → IsUnseenFrom (size e) v
path-unseen e v is d past =
    ap (λ u. bit u.seen d) is.shown ∙ bit_seen is.path d ∙ none_past e is.path (leaf is.ends) d is.leads past

differ_or_agree : (s t : Bool) (x : Bool) → (not (s && t) || x) ≡ not (s && t && not x)
differ_or_agree true true true = refl
differ_or_agree true true false = refl
differ_or_agree true false x = refl
differ_or_agree false t x = refl

agrees-turns : (d : ℕ) (v w : Marks) → agrees d v w ≡ not (turns d v w)
agrees-turns d v w = differ_or_agree (v.seen d) (w.seen d) (same (v.value d) (w.value d))

-- c differs, and no other condition does
abbrev pub TurnsOnly : ℕ → (v w : Marks) → Type 0
TurnsOnly c v w = (d : ℕ) → turns d v w ≡ nat_eq d c

either_way : (b : Bool) → (b || not b) ≡ true
either_way true = refl
either_way false = refl

all_others : (c : ℕ) (v w : Marks) → TurnsOnly c v w → (n : ℕ) → others_agree c n v w ≡ true
all_others c v w only zero = refl
all_others c v w only (suc d) =
    let here : (nat_eq d c || agrees d v w) ≡ true =
    ap (λ b. nat_eq d c || b) (agrees-turns d v w ∙ ap not (only d)) ∙ either_way (nat_eq d c) in
    ap (λ b. b && others_agree c d v w) here ∙ all_others c v w only d

first_of : (a b : Bool) → (a && b) ≡ true → a ≡ true
first_of true b h = refl
first_of false b h = h

second_of : (a b : Bool) → (a && b) ≡ true → b ≡ true
second_of true b h = h
second_of false b h = let bad : ⊥ = cc in absurd bad

other_at : (c : ℕ) (v w : Marks) (n d : ℕ) → others_agree c n v w ≡ true → d < n → (nat_eq d c || agrees d v w) ≡ true
other_at c v w zero d h low = absurd (let bad : ⊥ = omega arith in bad)
other_at c v w (suc n) d h low =
    elim (eqb_tells d n) [
      | inl is ↦ subst (λ m. (nat_eq m c || agrees m v w) ≡ true) (sym is.1)
          (first_of (nat_eq n c || agrees n v w) (others_agree c n v w) h)
      | inr other ↦ other_at c v w n d (second_of (nat_eq n c || agrees n v w) (others_agree c n v w) h)
          (let ne = other.1 in omega arith)
    ]

not_turned : (e t : Bool) → e ≡ false → (e || not t) ≡ true → t ≡ false
not_turned false true is h = let bad : ⊥ = cc in absurd bad
not_turned false false is h = refl
not_turned true t is h = let bad : ⊥ = cc in absurd bad

only_turned : (c n : ℕ) (v w : Marks) → turns c v w ≡ true → others_agree c n v w ≡ true → ((d : ℕ) → n ≤ d → v.seen d ≡ false) → TurnsOnly c v w
only_turned c n v w here others unseen d = elim (eqb_tells d c) [
  | inl is ↦ subst (λ m. turns m v w ≡ true) (sym is.1) here ∙ sym is.0
  | inr other ↦ elim (leb_tells n d) [
    | inl past ↦ ap (λ b. b && w.seen d && not (same (v.value d) (w.value d))) (unseen d past.1) ∙ sym other.0
    | inr low ↦ not_turned (nat_eq d c) (turns d v w) other.0
        (ap (λ b. nat_eq d c || b) (sym (agrees-turns d v w)) ∙ other_at c v w n d others low.1)
        ∙ sym other.0
  ]
]

all_three : (x y z : Bool) → y ≡ true → z ≡ true → (x && y && z) ≡ x
all_three true y z h l = ap (λ b. b && z) h ∙ l
all_three false y z h l = refl

-- where c alone differs, the outcomes decide
pub cause_by_outcomes : (e : Expr) (c : ℕ) (v w : Marks) → TurnsOnly c v w → is_unique_cause e c v w ≡ not (same (outcome e v) (outcome e w))
cause_by_outcomes e c v w only =
    all_three (not (same (outcome e v) (outcome e w))) (turns c v w) (others_agree c (size e) v w)
    (only c ∙ eq-eqb c c refl) (all_others c v w only (size e))

not_all_three : (x y z : Bool) → (y ≡ true → z ≡ true → ⊥) → (x && y && z) ≡ false
not_all_three false y z h = refl
not_all_three true false z h = refl
not_all_three true true false h = refl
not_all_three true true true h = absurd (h refl refl)

-- where another condition differs, or c doesn't, they are no pair
pub no_cause : (e : Expr) (c : ℕ) (v w : Marks) → ((d : ℕ) → size e ≤ d → v.seen d ≡ false) → (TurnsOnly c v w → ⊥) → is_unique_cause e c v w ≡ false
no_cause e c v w unseen never =
    not_all_three (not (same (outcome e v) (outcome e w))) (turns c v w) (others_agree c (size e) v w)
    (λ here others. never (only_turned c (size e) v w here others unseen))

-- what a comparison of two outcomes says
pub beq-same : (a b : Bool) → beq a b ≡ same a b
beq-same true true = refl
beq-same true false = refl
beq-same false true = refl
beq-same false false = refl

pub same-swap : (a b : Bool) → same a b ≡ same b a
same-swap true true = refl
same-swap true false = refl
same-swap false true = refl
same-swap false false = refl
