-- Parts and attributes of what names denote.
use Rattle.std.proofs.Common.{◌≡◌, ℕ, Bool, true, false, List, None, option_map, Result, Err, if◌then◌else◌, refl, sym, ap, subst}
use Rattle.cov_base.specs.declared.position.Pos.{Pos}
use Rattle.cov_base.specs.declared.failure.Failure.{Failure}
use Rattle.ada_rules.specs.Plan.{rule, answer_at}
use Rattle.ada_rules.specs.Environment.{typed_rule, State, given, Env}
use Rattle.ada_rules.specs.Denoted as rules
use Rattle.ada_rules.specs.Denoted.{a_thing, is_attribute, attribute_of}
use Rattle.ada_rules.specs.Expressions.{selection, attribution}
use Rattle.ada_entities.specs.declared.fault.Refusal.{Refusal}
use Rattle.ada_entities.specs.Answers.{refusal, Refuses, refused_at, Answers}
use Rattle.ada_entities.specs.EntityViews.{Tables}
use Rattle.ada_phrases.specs.declared.names.Denoted.{Denoted}
use Rattle.ada_phrases.specs.declared.names.Denoted.TheVariants as denoted
use Rattle.ada_phrases.specs.DenotedView.{denotes}
use Rattle.ada_phrases.proofs.Parts.{answers_as}

pub no_attribute : (env : Env) (s : State) (d : rules.Denoted) (name : List ℕ) (p : Pos) (f : Failure Refusal) → is_attribute name ≡ false → f ≡ refusal p
    → Refuses (answer_at p (attribution env s d name).outcome) f
no_attribute env s d name p f h e =
    subst (λ x. Refuses (answer_at p (attribution env s d name).outcome) x) (sym e)
    (refused_at (ap (λ b. answer_at p (if b then typed_rule env.step (given a_thing s) (option_map (λ x. given x s) (attribute_of name d)) else rule None).outcome) h))

pub some_attribute : (env : Env) (s : State) (d : rules.Denoted) (name : List ℕ) (p : Pos) → is_attribute name ≡ true
    → answer_at p (attribution env s d name).outcome ≡ answer_at p (typed_rule env.step (given a_thing s) (option_map (λ x. given x s) (attribute_of name d))).outcome
some_attribute env s d name p h =
    ap (λ b. answer_at p (if b then typed_rule env.step (given a_thing s) (option_map (λ x. given x s) (attribute_of name d)) else rule None).outcome) h

-- an attribute that stands under a rule on names and one on types
pub attribute_is : (k : Tables) (env : Env) (s : State) (d : rules.Denoted) (name : List ℕ) (p : Pos) (b : Bool) (answer r : Result Denoted (Failure Refusal))
    → b ≡ is_attribute name → r ≡ (if b then answer else Err (refusal p))
    → Answers (λ x. given (denotes k x) s) (answer_at p (typed_rule env.step (given a_thing s) (option_map (λ x. given x s) (attribute_of name d))).outcome) answer
    → Answers (λ x. given (denotes k x) s) (answer_at p (attribution env s d name).outcome) r
attribute_is k env s d name p true answer r e is h =
    subst (λ y. Answers (λ x. given (denotes k x) s) (answer_at p (attribution env s d name).outcome) y) (sym is)
    (answers_as (λ x. given (denotes k x) s) _ _ answer (some_attribute env s d name p (sym e)) h)
attribute_is k env s d name p false answer r e is h =
    subst (λ y. Answers (λ x. given (denotes k x) s) (answer_at p (attribution env s d name).outcome) y) (sym is)
    (no_attribute env s d name p (refusal p) (sym e) refl)

pub other_selection : (k : Tables) (env : Env) (s : State) (d : Denoted) (name : List ℕ) (p : Pos) → ((n : ℕ) → d ≡ denoted.Unit n → ⊥) → (d ≡ denoted.TestIo → ⊥)
    → ((v : _) → d ≡ denoted.Variable v → ⊥)
    → answer_at p (selection env s (denotes k d) name).outcome ≡ answer_at p (typed_rule env.step (given a_thing s) (option_map (λ x. given x s) None)).outcome
other_selection k env s (denoted.Mark i t) name p a b c = refl
other_selection k env s (denoted.Value x) name p a b c = refl
other_selection k env s (denoted.Variable v) name p a b c = absurd (c v refl)
other_selection k env s (denoted.Routine r) name p a b c = refl
other_selection k env s (denoted.Call r actuals) name p a b c = refl
other_selection k env s (denoted.Exception e) name p a b c = refl
other_selection k env s (denoted.Unit n) name p a b c = absurd (a n refl)
other_selection k env s denoted.TestIo name p a b c = absurd (b refl)
other_selection k env s denoted.Thing name p a b c = refl
