-- What is kept of each key after visits that all follow is enough for the next visit.
use Rattle.std.proofs.Common.{◌≡◌, ⊎_elim, ◌↔◌, List, [], ◌∷◌, ◌++◌, Option, Some, None, sym, subst, ◌∙◌}
use Rattle.cov_base.specs.declared.event.Vector.{Vector}
use Rattle.cov_base.specs.Graph.{next_in}
use Rattle.transcript.specs.Facts.{Facts}
use Rattle.transcript.specs.Visit.{Key, Visit, onto}
use Rattle.transcript.specs.Reading.{Follows, AllFollow}
use Rattle.transcript.specs.Computed.{completed}
use Rattle.transcript.specs.Replay.{Half, Keeps, begun, with_step, half_by, over_by, put_half}
use Rattle.transcript.proofs.Paths.{some_one}
use Rattle.transcript.proofs.Joined.{onto_append}
use Rattle.transcript.proofs.Orderly.{Orderly, orderly_none, orderly_more}
use Rattle.transcript.proofs.Replays.{comes_without, turn}
use Rattle.transcript.proofs.Broken.{follows_or_not}

pub orderly_onto : (o : Facts) (vs past : List Visit) → Orderly o past → AllFollow o past vs → Orderly o (onto vs past)
orderly_onto o [] past orderly all = orderly
orderly_onto o (v ∷ vs) past orderly all = orderly_onto o vs (v ∷ past) (orderly_more o past v orderly all.0) all.1

-- a visit that comes with a vector follows
follows_by : (o : Facts) (past : List Visit) (kept : Key → Option Half) (v : Visit) (vector : Vector) → Orderly o past → Keeps o kept past
    → begun (kept v.key) v.step.at_node ≡ Some vector → Follows o past v
follows_by o past kept v vector orderly keeps comes =
    ⊎_elim (λ follows. follows)
    (λ off. let none : None ≡ Some vector = sym (comes_without o past kept v keeps off) ∙ comes in absurd (cc none))
    (follows_or_not o past v orderly)

-- the turn of a visit that comes with this vector
record TurnWith (o : Facts) (past : List Visit) (kept : Key → Option Half) (v : Visit) (vector : Vector) : Type 0 where
  pub completes : over_by (next_in (o.graph v.key.decision) v.step.at_node v.step.value) (with_step vector v.step) ≡ completed o past v
  pub keeps : Keeps o (put_half kept v.key (half_by (next_in (o.graph v.key.decision) v.step.at_node v.step.value) (with_step vector v.step))) (v ∷ past)

turn_with : (o : Facts) (past : List Visit) (kept : Key → Option Half) (v : Visit) (vector : Vector) → Orderly o past → Keeps o kept past
    → begun (kept v.key) v.step.at_node ≡ Some vector → TurnWith o past kept v vector
turn_with o past kept v vector orderly keeps comes =
    let now = turn o past kept v orderly keeps (follows_by o past kept v vector orderly keeps comes) in
    let same : now.vector ≡ vector = some_one now.vector vector (sym now.begins ∙ comes) in
    subst (TurnWith o past kept v) same (record { completes = now.completes; keeps = now.keeps })

pub kept_follows : (o : Facts) (vs : List Visit) (kept : Key → Option Half) (v : Visit) → AllFollow o [] vs → Keeps o kept (onto vs [])
    → Follows o (onto vs []) v ↔ ((vector : Vector) × (begun (kept v.key) v.step.at_node ≡ Some vector))
kept_follows o vs kept v all keeps =
    let orderly = orderly_onto o vs [] (orderly_none o) all in (
      λ follows. let now = turn o (onto vs []) kept v orderly keeps follows in (now.vector, now.begins),
      λ comes. follows_by o (onto vs []) kept v comes.0 orderly keeps comes.1,
    )

pub kept_completes : (o : Facts) (vs : List Visit) (kept : Key → Option Half) (v : Visit) (vector : Vector) → AllFollow o [] vs → Keeps o kept (onto vs [])
    → begun (kept v.key) v.step.at_node ≡ Some vector
    → over_by (next_in (o.graph v.key.decision) v.step.at_node v.step.value) (with_step vector v.step) ≡ completed o (onto vs []) v
kept_completes o vs kept v vector all keeps comes =
    (turn_with o (onto vs []) kept v vector (orderly_onto o vs [] (orderly_none o) all) keeps comes).completes

pub kept_keeps : (o : Facts) (vs : List Visit) (kept : Key → Option Half) (v : Visit) (vector : Vector) → AllFollow o [] vs → Keeps o kept (onto vs [])
    → begun (kept v.key) v.step.at_node ≡ Some vector
    → Keeps o (put_half kept v.key (half_by (next_in (o.graph v.key.decision) v.step.at_node v.step.value) (with_step vector v.step))) (onto (vs ++ v ∷ []) [])
kept_keeps o vs kept v vector all keeps comes =
    let now = turn_with o (onto vs []) kept v vector (orderly_onto o vs [] (orderly_none o) all) keeps comes in
    subst (λ (past : List Visit). Keeps o (put_half kept v.key (half_by (next_in (o.graph v.key.decision) v.step.at_node v.step.value) (with_step vector v.step))) past)
    (sym (onto_append vs (v ∷ []) [])) now.keeps
