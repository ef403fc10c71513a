-- Outcomes that vectors give, as a test and as a fact.
use Rattle.std.proofs.Common.{◌≡◌, Bool, true, false, List, [], ◌∷◌, ◌||◌, ◌&&◌, ◌==◌, ◌↔◌, IsTrue, refl, sym, inl, inr, ◌⊎◌, eqb-true, eq-eqb}
use Rattle.cov_base.specs.declared.event.Event.{Event}
use Rattle.cov_base.specs.declared.event.Event.TheVariants.{Start, Done}
use Rattle.cov_base.specs.declared.event.Vector.{Vector}
use Rattle.cov_base.specs.declared.position.StmtId.{StmtId}
use Rattle.cov_base.specs.Expr.{Expr}
use Rattle.cov_base.specs.Marks.{marks, same, outcome}
use Rattle.decision_meaning.specs.Verdict.{IsStarted, Gives, GivesBoth}
use Rattle.annotated_report.specs.Verdicts.{gives, is_covered, is_started, starts_of}

same_from : (a b : Bool) → same a b ≡ true → a ≡ b
same_from true b h = sym h
same_from false true h = cc
same_from false false h = refl

same_itself : (a b : Bool) → a ≡ b → same a b ≡ true
same_itself true b h = sym h
same_itself false true h = cc
same_itself false false h = refl

either : (a b : Bool) → (a || b) ≡ true → (a ≡ true) ⊎ (b ≡ true)
either true b h = inl refl
either false b h = inr h

or_left : (a b : Bool) → a ≡ true → (a || b) ≡ true
or_left true b h = refl
or_left false b h = cc

or_right : (a b : Bool) → b ≡ true → (a || b) ≡ true
or_right true b h = refl
or_right false b h = h

to_gives : (e : Expr) (value : Bool) (vectors : List Vector) → gives e value vectors ≡ true → Gives e vectors value
to_gives e value [] h = cc
to_gives e value (v ∷ vs) h =
    elim (either (same (outcome e (marks v)) value) (gives e value vs) h) [
      | inl here ↦ inl (same_from (outcome e (marks v)) value here)
      | inr there ↦ inr (to_gives e value vs there)
    ]

from_gives : (e : Expr) (value : Bool) (vectors : List Vector) → Gives e vectors value → gives e value vectors ≡ true
from_gives e value [] h = absurd h
from_gives e value (v ∷ vs) h =
    elim h [
      | inl here ↦ or_left (same (outcome e (marks v)) value) (gives e value vs) (same_itself (outcome e (marks v)) value here)
      | inr there ↦ or_right (same (outcome e (marks v)) value) (gives e value vs) (from_gives e value vs there)
    ]

both : (a b : Bool) → (a ≡ true → b ≡ true) → (b ≡ true → a ≡ true) → a ≡ b
both true b f g = sym (f refl)
both false true f g = g refl
both false false f g = refl

pub gives_is : (b : Bool) (e : Expr) (value : Bool) (vectors : List Vector) → (IsTrue b ↔ Gives e vectors value) → b ≡ gives e value vectors
gives_is b e value vectors h =
    both b (gives e value vectors) (λ t. from_gives e value vectors (h.0 t)) (λ t. h.1 (to_gives e value vectors t))

pub gives_law : (e : Expr) (vectors : List Vector) (given : Bool) → IsTrue (gives e given vectors) ↔ Gives e vectors given
gives_law e vectors given = (to_gives e given vectors, from_gives e given vectors)

first_of : (a b : Bool) → (a && b) ≡ true → a ≡ true
first_of true b h = refl
first_of false b h = h

second_of : (a b : Bool) → (a && b) ≡ true → b ≡ true
second_of true b h = h
second_of false b h = absurd (cc h)

and_both : (a b : Bool) → a ≡ true → b ≡ true → (a && b) ≡ true
and_both true b h l = l
and_both false b h l = h

pub covered_law : (e : Expr) (vectors : List Vector) → IsTrue (is_covered e vectors) ↔ GivesBoth e vectors
covered_law e vectors = (
  λ h.
      let to_false : Gives e vectors false = to_gives e false vectors (second_of (gives e true vectors) (gives e false vectors) h) in
      let to_true : Gives e vectors true = to_gives e true vectors (first_of (gives e true vectors) (gives e false vectors) h) in
      (to_false, to_true),
  λ g. and_both (gives e true vectors) (gives e false vectors) (from_gives e true vectors g.1) (from_gives e false vectors g.0),
)

to_started : (events : List Event) (s : StmtId) → is_started events s.0 ≡ true → IsStarted (starts_of events) s
to_started [] s h = absurd (cc h)
to_started (Start t i ∷ events) s h =
    elim (either (t.0 == s.0) (is_started events s.0) h) [
      | inl here ↦ inl (let same : t.0 ≡ s.0 = eqb-true t.0 s.0 here in λ j. record { 0 = same j })
      | inr there ↦ inr (to_started events s there)
    ]
to_started (Done d i v ∷ events) s h = to_started events s h

from_started : (events : List Event) (s : StmtId) → IsStarted (starts_of events) s → is_started events s.0 ≡ true
from_started [] s h = absurd h
from_started (Start t i ∷ events) s h =
    elim h [
      | inl here ↦ or_left (t.0 == s.0) (is_started events s.0) (eq-eqb t.0 s.0 (λ j. (here j).0))
      | inr there ↦ or_right (t.0 == s.0) (is_started events s.0) (from_started events s there)
    ]
from_started (Done d i v ∷ events) s h = from_started events s h

pub started_law : (events : List Event) (s : StmtId) → IsTrue (is_started events s.0) ↔ IsStarted (starts_of events) s
started_law events s = (to_started events s, from_started events s)
