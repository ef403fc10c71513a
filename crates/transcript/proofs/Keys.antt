-- When two keys are the same, and the steps of a key.
use Rattle.std.proofs.Common.{◌≡◌, Bool, true, false, ◌&&◌, List, ◌∷◌, eqb, refl, eqb-true, eq-eqb}
use Rattle.transcript.specs.Visit.{Key, Visit, same_key, steps}

and_both : (a b : Bool) → (a && b) ≡ true → (a ≡ true) × (b ≡ true)
and_both true b is = (refl, is)
and_both false b is = absurd (cc is)

pub same_key_true : (k l : Key) → same_key k l ≡ true → k ≡ l
same_key_true k l is =
    let parts = and_both (eqb k.decision.0 l.decision.0) (eqb k.instance.0 l.instance.0 && eqb k.x8 l.x8) is in
    let rest = and_both (eqb k.instance.0 l.instance.0) (eqb k.x8 l.x8) parts.1 in
    let decisions : k.decision.0 ≡ l.decision.0 = eqb-true k.decision.0 l.decision.0 parts.0 in
    let instances : k.instance.0 ≡ l.instance.0 = eqb-true k.instance.0 l.instance.0 rest.0 in
    let pointers : k.x8 ≡ l.x8 = eqb-true k.x8 l.x8 rest.1 in
    λ i. record { decision = record { 0 = decisions i }; instance = record { 0 = instances i }; x8 = pointers i }

pub same_key_self : (k : Key) → same_key k k ≡ true
same_key_self k =
    rw (eq-eqb k.decision.0 k.decision.0 refl, eq-eqb k.instance.0 k.instance.0 refl, eq-eqb k.x8 k.x8 refl) refl

-- a visit's own step is the latest of its key
pub own_step : (v : Visit) (past : List Visit) → steps v.key (v ∷ past) ≡ v.step ∷ steps v.key past
own_step v past = rw (same_key_self v.key) refl
