-- Constructs in a row, which are looked at one by one: the rules list the first in front of what follows.
use Rattle.std.proofs.Common.{◌≡◌, ℕ, ◌+◌, ◌<◌, ◌≤◌, length, get_or, drop, List, [], ◌∷◌, ◌++◌, Some, Result, Ok, Err, refl, sym, ap, ◌∙◌, append-nil, append_assoc}
use Rattle.std.proofs.lemmas.List.{at_drop_more, at_drop_all}
use Rattle.cov_base.specs.declared.position.Pos.{Pos}
use Rattle.cov_base.specs.declared.failure.Failure.{Failure}
use Rattle.ada_rules.specs.Plan.{rule, outcome_after, answer_at}
use Rattle.ada_rules.specs.Environment.{State, Given, given}
use Rattle.ada_entities.specs.declared.fault.Refusal.{Refusal}
use Rattle.ada_entities.specs.Answers.{Refuses, refused_at, no_memory}
use Rattle.ada_phrases.specs.Answers.{before}

-- each gives a list, and a row of them the lists behind each other
pub record IsWalk {X Y B : Type 0} (one : State → X → Result (Given Y) Pos) (list : Y → List B) (all : State → List X → Result (Given (List B)) Pos) : Type 0 where
  pub ends : (s : State) → all s [] ≡ Ok (given [] s)
  pub passes : (s : State) (x : X) (xs : List X) (y : Given Y) → one s x ≡ Ok y → all s (x ∷ xs) ≡ before (list y.value) (all y.next xs)
  pub refuses : (s : State) (x : X) (xs : List X) (q : Pos) → one s x ≡ Err q → all s (x ∷ xs) ≡ Err q

behind_more : {B : Type 0} (done more : List B) (r : Result (Given (List B)) Pos) → before done (before more r) ≡ before (done ++ more) r
behind_more done more (Ok g) = ap (λ xs. Ok (given xs g.next)) (sym (append_assoc done more g.value))
behind_more done more (Err q) = refl

pub none_before : {B : Type 0} (r : Result (Given (List B)) Pos) → r ≡ before [] r
none_before (Ok g) = refl
none_before (Err q) = refl

module _ {X Y B : Type 0} (one : State → X → Result (Given Y) Pos) (list : Y → List B) (all : State → List X → Result (Given (List B)) Pos)
    (walk : IsWalk one list all) (s : State) (done : List B) (xs : List X) (i : ℕ) where
  pub item_passes : (x : X) (y : Given Y) → i < length xs → x ≡ get_or xs i x → one s x ≡ Ok y
      → before done (all s (drop i xs)) ≡ before (done ++ list y.value) (all y.next (drop (i + 1) xs))
  item_passes x y h is ok =
      at_drop_more (λ ys. before done (all s ys)) xs i x h
      ∙ (ap (λ z. before done (all s (z ∷ drop (i + 1) xs))) (sym is)
      ∙ (ap (before done) (walk.passes s x (drop (i + 1) xs) y ok) ∙ behind_more done (list y.value) (all y.next (drop (i + 1) xs))))

  pub item_refused : (x : X) (f : Failure Refusal) → i < length xs → x ≡ get_or xs i x → Refuses (one s x) f → Refuses (before done (all s (drop i xs))) f
  item_refused x f h is (refused_at {p = q} r) =
      refused_at
      (at_drop_more (λ ys. before done (all s ys)) xs i x h
      ∙ (ap (λ z. before done (all s (z ∷ drop (i + 1) xs))) (sym is) ∙ ap (before done) (walk.refuses s x (drop (i + 1) xs) q r)))
  item_refused x f h is no_memory = no_memory

  pub items_end : length xs ≤ i → before done (all s (drop i xs)) ≡ Ok (given done s)
  items_end h = at_drop_all (λ ys. before done (all s ys)) xs i h ∙ (ap (before done) (walk.ends s) ∙ ap (λ ys. Ok (given ys s)) (append-nil done))

-- one in front of what follows
pub listed : {B : Type 0} (p : Pos) (y : B) (r : Result (Given (List B)) Pos)
    → answer_at p (outcome_after r (λ ys. rule (Some (given (y ∷ ys.value) ys.next)))) ≡ before (y ∷ []) r
listed p y (Ok g) = refl
listed p y (Err q) = refl
