-- How a construct is judged: its parts first, in the order of the text, and then its own case of the rules. What was
-- judged is kept as a tree of reports, so that a refusal always stands at the first token of a construct that fails its
-- case while its parts pass theirs.
use Rattle.std.specs.Prelude.{◌≡◌, Bool, true, false, ◌&&◌, Option, Some, None, Result, Ok, Err, refl}
use Rattle.cov_base.specs.declared.position.Pos.{Pos}

mutual
  -- what was seen of a construct: the place of its first token, whether it passes its own case, and the constructs that
  -- stand directly in it
  pub data Report : Type 0 where
    report : Pos → Bool → Reports → Report

  pub data Reports : Type 0 where
    no_reports : Reports
    also : Report → Reports → Reports

-- whether a construct passes its case, and whether several do
abbrev pub passes : Report → Bool
passes (report p b rs) = b

abbrev pub all_pass : Reports → Bool
all_pass no_reports = true
all_pass (also r rs) = passes r && all_pass rs

-- one of several
pub data Among (r : Report) : Reports → Type 0 where
  here : {rs : Reports} → Among r (also r rs)
  behind : {s : Report} {rs : Reports} → Among r rs → Among r (also s rs)

-- A construct fails its case while its parts pass theirs, and this is the place of its first token: the construct
-- itself, or one within it.
pub data Offends : Report → Pos → Type 0 where
  itself : {p : Pos} {rs : Reports} → all_pass rs ≡ true → Offends (report p false rs) p
  within : {p q : Pos} {b : Bool} {r : Report} {rs : Reports} → Among r rs → Offends r q → Offends (report p b rs) q

-- one of several offends there, or has such a construct in it
pub data SomeOffends (rs : Reports) (p : Pos) : Type 0 where
  one_offends : {r : Report} → Among r rs → Offends r p → SomeOffends rs p

-- an answer is what the report says: a construct that passes has a value, and one that fails has the place of one that
-- offends
abbrev pub Agrees : {A : Type 0} → Result A Pos → Report → Type 0
Agrees (Ok x) r = passes r ≡ true
Agrees (Err p) r = (passes r ≡ false) × Offends r p

-- what a construct comes to: its value, or the place of a refusal
pub record Judgement (A : Type 0) : Type 0 where
  pub answer : Result A Pos
  pub looked_at : Report
  pub law : Agrees answer looked_at

-- what the parts of a construct and its own rule come to: a part is refused, or the construct's own rule is broken, or
-- all passes
pub data Outcome (B : Type 0) : Type 0 where
  refused_in : Pos → Outcome B
  broken : Outcome B
  passed : B → Outcome B

abbrev pub Follows : {B : Type 0} → Outcome B → Reports → Type 0
Follows (refused_in p) rs = (all_pass rs ≡ false) × SomeOffends rs p
Follows broken rs = all_pass rs ≡ true
Follows (passed x) rs = all_pass rs ≡ true

-- the case of a construct: its parts, and last its own rule. There is no other way to put plans together, so a rule is
-- never asked where a part is refused.
pub record Plan (B : Type 0) : Type 0 where
  pub outcome : Outcome B
  pub reports : Reports
  pub law : Follows outcome reports

abbrev pub outcome_after : {A B : Type 0} → Result A Pos → (A → Plan B) → Outcome B
outcome_after (Ok x) k = (k x).outcome
outcome_after (Err p) k = refused_in p

abbrev pub reports_after : {A B : Type 0} → Result A Pos → (A → Plan B) → Reports
reports_after (Ok x) k = (k x).reports
reports_after (Err p) k = no_reports

front_passes : (a b : Bool) → a ≡ true → b ≡ true → (a && b) ≡ true
front_passes true b g h = h
front_passes false b g h = g

front_fails : (a b : Bool) → a ≡ false → (a && b) ≡ false
front_fails true b g = cc
front_fails false b g = refl

others_fail : (a b : Bool) → b ≡ false → (a && b) ≡ false
others_fail true b h = h
others_fail false b h = refl

behind_first : {r : Report} {rs : Reports} {p : Pos} → SomeOffends rs p → SomeOffends (also r rs) p
behind_first (one_offends a o) = one_offends (behind a) o

-- what follows a part that passes
then_follows : {B : Type 0} (o : Outcome B) (r : Report) (rs : Reports) → passes r ≡ true → Follows o rs
    → Follows o (also r rs)
then_follows (refused_in p) r rs h f = (others_fail (passes r) (all_pass rs) f.0, behind_first f.1)
then_follows broken r rs h f = front_passes (passes r) (all_pass rs) h f
then_follows (passed x) r rs h f = front_passes (passes r) (all_pass rs) h f

pub after_part : {A B : Type 0} (answer : Result A Pos) (r : Report) → Agrees answer r → (k : A → Plan B)
    → Follows (outcome_after answer k) (also r (reports_after answer k))
after_part (Ok x) r law k = then_follows (k x).outcome r (k x).reports law (k x).law
after_part (Err p) r law k = (front_fails (passes r) true law.0, one_offends here law.1)

-- a part, and what comes behind it
infixl 20 ◌>>=◌
abbrev pub ◌>>=◌ : {A B : Type 0} → Judgement A → (A → Plan B) → Plan B
j >>= k = record {
  outcome = outcome_after j.answer k;
  reports = also j.looked_at (reports_after j.answer k);
  law = after_part j.answer j.looked_at j.law k;
}

-- the construct's own rule, which comes last: what it gives, or None where it is broken
abbrev pub ruled : {B : Type 0} → Option B → Outcome B
ruled None = broken
ruled (Some x) = passed x

pub ruled_follows : {B : Type 0} (o : Option B) → Follows (ruled o) no_reports
ruled_follows None = refl
ruled_follows (Some x) = refl

abbrev pub rule : {B : Type 0} → Option B → Plan B
rule o = record { outcome = ruled o; reports = no_reports; law = ruled_follows o }

-- a construct whose first token stands at this place
abbrev pub is_passed : {B : Type 0} → Outcome B → Bool
is_passed (refused_in p) = false
is_passed broken = false
is_passed (passed x) = true

abbrev pub answer_at : {B : Type 0} → Pos → Outcome B → Result B Pos
answer_at p (refused_in q) = Err q
answer_at p broken = Err p
answer_at p (passed x) = Ok x

within_some : {b : Bool} {rs : Reports} {q : Pos} (p : Pos) → SomeOffends rs q → Offends (report p b rs) q
within_some p (one_offends a o) = within a o

pub construct_agrees : {B : Type 0} (p : Pos) (o : Outcome B) (rs : Reports) → Follows o rs
    → Agrees (answer_at p o) (report p (is_passed o) rs)
construct_agrees p (refused_in q) rs f = (refl, within_some p f.1)
construct_agrees p broken rs f = (refl, itself f)
construct_agrees p (passed x) rs f = refl

abbrev pub construct : {B : Type 0} → Pos → Plan B → Judgement B
construct p plan = record {
  answer = answer_at p plan.outcome;
  looked_at = report p (is_passed plan.outcome) plan.reports;
  law = construct_agrees p plan.outcome plan.reports plan.law;
}
