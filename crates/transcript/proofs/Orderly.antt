-- Where each visit follows those before it, each key's steps lead from the root to where it stands.
use Rattle.std.proofs.Common.{◌≡◌, ℕ, zero, suc, ◌⊎◌, ⊎_elim, Bool, true, false, cond, List, [], ◌∷◌, Some, refl, sym, subst, eq-eqb, arith}
use Rattle.cov_base.specs.Graph.{node, Edges, next_in}
use Rattle.cov_base.specs.Path.{Step}
use Rattle.transcript.specs.Facts.{Facts}
use Rattle.transcript.specs.Visit.{Key, Visit, same_key, steps}
use Rattle.transcript.specs.Reading.{Led, Follows}
use Rattle.transcript.specs.Computed.{path_to}
use Rattle.transcript.proofs.Keys.{same_key_true}

-- each of these steps, the latest first, is at the root or led to by the one before it
abbrev pub Followed : List Edges → List Step → Type 0
Followed g [] = Unit {0}
Followed g (s ∷ older) = ((s.at_node ≡ 0) ⊎ Led g older s.at_node) × Followed g older

-- this is so of the steps of each key
abbrev pub Orderly : Facts → List Visit → Type 0
Orderly o past = (k : Key) → Followed (o.graph k.decision) (steps k past)

pub orderly_none : (o : Facts) → Orderly o []
orderly_none o k = tt

pub orderly_more : (o : Facts) (past : List Visit) (v : Visit) → Orderly o past → Follows o past v → Orderly o (v ∷ past)
orderly_more o past v orderly follows k = by_key (same_key k v.key) refl
  where
    by_key : (b : Bool) → same_key k v.key ≡ b → Followed (o.graph k.decision) (cond b (v.step ∷ steps k past) (steps k past))
    by_key true is =
        let same : v.key ≡ k = sym (same_key_true k v.key is) in
        subst (λ (l : Key). Followed (o.graph l.decision) (v.step ∷ steps l past)) same (follows, orderly v.key)
    by_key false is = orderly k

-- a path to a node
pub record Reached (g : List Edges) (all : List Step) (n : ℕ) : Type 0 where
  pub path : List Step
  pub is : path_to g all n ≡ Some path

pub path_there : (g : List Edges) (all : List Step) (n : ℕ) → Followed g all → (n ≡ 0) ⊎ Led g all n → Reached g all n
path_there g all zero followed led = record { path = []; is = refl }
path_there g [] (suc n) followed led = ⊎_elim (λ off. absurd (omega (arith, off))) (λ off. absurd off) led
path_there g (s ∷ older) (suc n) followed led =
    ⊎_elim (λ off. absurd (omega (arith, off))) (λ leads. onward leads (path_there g older s.at_node followed.1 followed.0)) led
  where
    onward : next_in g s.at_node s.value ≡ node (suc n) → Reached g older s.at_node → Reached g (s ∷ older) (suc n)
    onward leads before =
        record { path = s ∷ before.path; is = rw (leads, eq-eqb (suc n) (suc n) refl, before.is) refl }
