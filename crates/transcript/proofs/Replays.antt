-- What is kept of each key is enough to rebuild the vectors, and to see where visits stop following.
use Rattle.std.proofs.Common.{◌≡◌, ℕ, zero, suc, ◌+◌, inl, inr, Bool, true, false, cond, List, [], ◌∷◌, ◌++◌, length, Option, Some, None, option_map, eqb, ne_eqb, refl, sym, ap, subst, ◌∙◌, arith}
use Rattle.cov_base.specs.declared.event.Vector.{Vector}
use Rattle.cov_base.specs.Graph.{Next, node, leaf, Edges, next_in}
use Rattle.cov_base.specs.Path.{Step, LeadsTo, vector_of}
use Rattle.transcript.specs.Facts.{Facts}
use Rattle.transcript.specs.Visit.{Key, Visit, same_key, steps, onto}
use Rattle.transcript.specs.Reading.{Led, Follows, AllFollow}
use Rattle.transcript.specs.Computed.{is_node, path_to, vector_by, completed, done_of}
use Rattle.transcript.specs.Replay.{Half, with_step, continued, begun, half_by, over_by, half_after, half_of, Keeps, put_half, replay_from}
use Rattle.transcript.proofs.Keys.{same_key_true}
use Rattle.transcript.proofs.Paths.{path_found}
use Rattle.transcript.proofs.Orderly.{Orderly, orderly_more, path_there}

onward : (half : Option Half) (n : ℕ) → begun half (suc n) ≡ continued half (suc n)
onward half n = rw (ne_eqb (suc n) 0 (λ e. absurd (omega (arith, e)))) refl

-- the vector with which an evaluation comes to a node is that of the path to it
pub begun_path : (g : List Edges) (all : List Step) (n : ℕ) → begun (half_of g all) n ≡ option_map vector_of (path_to g all n)
begun_path g all zero = refl
begun_path g [] (suc n) = onward None n
begun_path g (s ∷ older) (suc n) =
    onward (half_of g (s ∷ older)) n ∙ by_place (next_in g s.at_node s.value) (path_to g older s.at_node)
  where
    by_test : (b : Bool) (path : List Step)
        → cond b (Some (vector_of (s ∷ path))) None ≡ option_map vector_of (cond b (Some (s ∷ path)) None)
    by_test true path = refl
    by_test false path = refl

    neither : (b : Bool) → None ≡ option_map vector_of (cond b None None)
    neither true = refl
    neither false = refl

    by_place : (x : Next) (found : Option (List Step))
        → continued (half_after x s found) (suc n) ≡ option_map vector_of (cond (is_node x (suc n)) (option_map (λ path. s ∷ path) found) None)
    by_place (node j) (Some path) = by_test (eqb j (suc n)) path
    by_place (leaf outcome) (Some path) = refl
    by_place (node j) None = neither (eqb j (suc n))
    by_place (leaf outcome) None = refl

-- a path to a visit's node shows that it follows
pub reached_follows : (o : Facts) (past : List Visit) (v : Visit) (path : List Step) → path_to (o.graph v.key.decision) (steps v.key past) v.step.at_node ≡ Some path → Follows o past v
reached_follows o past v path is =
    let ends = path_found (o.graph v.key.decision) (steps v.key past) v.step.at_node path is in
    by_path path ends.older ends.ends ends.leads
  where
    by_path : (p older : List Step) → steps v.key past ≡ p ++ older → LeadsTo (o.graph v.key.decision) p (node v.step.at_node) → Follows o past v
    by_path [] older ends leads = let root : node v.step.at_node ≡ node 0 = leads in inl (cc)
    by_path (s ∷ p) older ends leads =
        inr (subst (λ (ss : List Step). Led (o.graph v.key.decision) ss v.step.at_node) (sym ends) leads.0)

-- a visit that follows comes with the vector of its path
comes_with : (o : Facts) (past : List Visit) (kept : Key → Option Half) (v : Visit) (path : List Step) → Keeps o kept past
    → path_to (o.graph v.key.decision) (steps v.key past) v.step.at_node ≡ Some path → begun (kept v.key) v.step.at_node ≡ Some (vector_of path)
comes_with o past kept v path keeps is =
    ap (λ (h : Option Half). begun h v.step.at_node) (keeps v.key)
    ∙ begun_path (o.graph v.key.decision) (steps v.key past) v.step.at_node
    ∙ ap (option_map vector_of) is

-- one that does not follow comes with none
pub comes_without : (o : Facts) (past : List Visit) (kept : Key → Option Half) (v : Visit) → Keeps o kept past → (Follows o past v → ⊥) → begun (kept v.key) v.step.at_node ≡ None
comes_without o past kept v keeps off =
    ap (λ (h : Option Half). begun h v.step.at_node) (keeps v.key)
    ∙ begun_path (o.graph v.key.decision) (steps v.key past) v.step.at_node
    ∙ ap (option_map vector_of) (by_path (path_to (o.graph v.key.decision) (steps v.key past) v.step.at_node) refl)
  where
    by_path : (found : Option (List Step)) → path_to (o.graph v.key.decision) (steps v.key past) v.step.at_node ≡ found → path_to (o.graph v.key.decision) (steps v.key past) v.step.at_node ≡ None
    by_path None is = is
    by_path (Some path) is = absurd (off (reached_follows o past v path is))

-- what one visit that follows does
pub record Turn (o : Facts) (past : List Visit) (kept : Key → Option Half) (v : Visit) : Type 0 where
  pub vector : Vector
  pub begins : begun (kept v.key) v.step.at_node ≡ Some vector
  pub completes : over_by (next_in (o.graph v.key.decision) v.step.at_node v.step.value) (with_step vector v.step) ≡ completed o past v
  pub keeps : Keeps o (put_half kept v.key (half_by (next_in (o.graph v.key.decision) v.step.at_node v.step.value) (with_step vector v.step))) (v ∷ past)

pub turn : (o : Facts) (past : List Visit) (kept : Key → Option Half) (v : Visit) → Orderly o past → Keeps o kept past → Follows o past v → Turn o past kept v
turn o past kept v orderly keeps follows =
    let reached = path_there (o.graph v.key.decision) (steps v.key past) v.step.at_node (orderly v.key) follows in
    with_path reached.path reached.is
  where
    over_is : (x : Next) (path : List Step) → over_by x (vector_of (v.step ∷ path)) ≡ vector_by x v.step (Some path)
    over_is (node j) path = refl
    over_is (leaf outcome) path = refl

    with_path : (path : List Step) → path_to (o.graph v.key.decision) (steps v.key past) v.step.at_node ≡ Some path → Turn o past kept v
    with_path path is = record {
      vector = vector_of path;
      begins = comes_with o past kept v path keeps is;
      completes = over_is (next_in (o.graph v.key.decision) v.step.at_node v.step.value) path
          ∙ ap (vector_by (next_in (o.graph v.key.decision) v.step.at_node v.step.value) v.step) (sym is);
      keeps = λ k. by_key k (same_key k v.key) refl;
    }
      where
        half : Option Half
        half = half_by (next_in (o.graph v.key.decision) v.step.at_node v.step.value) (vector_of (v.step ∷ path))

        by_key : (k : Key) (b : Bool) → same_key k v.key ≡ b
            → cond b (half_by (next_in (o.graph v.key.decision) v.step.at_node v.step.value) (vector_of (v.step ∷ path))) (kept k)
            ≡ half_of (o.graph k.decision) (cond b (v.step ∷ steps k past) (steps k past))
        by_key k true same =
            subst (λ (l : Key). half_by (next_in (o.graph v.key.decision) v.step.at_node v.step.value) (vector_of (v.step ∷ path)) ≡ half_of (o.graph l.decision) (v.step ∷ steps l past))
            (sym (same_key_true k v.key same))
            (ap (half_after (next_in (o.graph v.key.decision) v.step.at_node v.step.value) v.step) (sym is))
        by_key k false same = keeps k

-- the replay of visits that follow
pub replay_is : (o : Facts) (vs past : List Visit) (kept : Key → Option Half) (count : ℕ) → Orderly o past → Keeps o kept past → AllFollow o past vs
    → replay_from o kept count vs ≡ record { events = done_of o past vs; broken = None }
replay_is o [] past kept count orderly keeps all = refl
replay_is o (v ∷ vs) past kept count orderly keeps all =
    let now = turn o past kept v orderly keeps all.0 in
    rw (now.begins) (rw (
      replay_is o vs (v ∷ past)
          (put_half kept v.key (half_by (next_in (o.graph v.key.decision) v.step.at_node v.step.value) (with_step now.vector v.step)))
          (count + 1) (orderly_more o past v orderly all.0) now.keeps all.1,
      now.completes,
    ) refl)

-- the replay of visits of which one is the first that does not follow
pub breaks_there : (o : Facts) (earlier : List Visit) (v : Visit) (later past : List Visit) (kept : Key → Option Half) (count : ℕ) → Orderly o past → Keeps o kept past
    → AllFollow o past earlier → (Follows o (onto earlier past) v → ⊥) → (replay_from o kept count (earlier ++ (v ∷ later))).broken ≡ Some (count + length earlier)
breaks_there o [] v later past kept count orderly keeps all off = rw (comes_without o past kept v keeps off) (ap Some (omega arith))
breaks_there o (w ∷ earlier) v later past kept count orderly keeps all off =
    let now = turn o past kept w orderly keeps all.0 in
    rw (now.begins) (breaks_there o earlier v later (w ∷ past)
    (put_half kept w.key (half_by (next_in (o.graph w.key.decision) w.step.at_node w.step.value) (with_step now.vector w.step)))
    (count + 1) (orderly_more o past w orderly all.0) now.keeps all.1 off ∙ ap Some (omega arith))
