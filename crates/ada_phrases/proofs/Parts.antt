-- How an answer of a part is one of the whole.
use Rattle.std.proofs.Common.{◌≡◌, ℕ, ◌+◌, ◌<◌, ◌≤◌, length, get_or, drop, List, [], ◌∷◌, Option, Some, None, option_map, Result, Ok, Err, IfOk, refl, sym, ap, ◌∙◌, subst}
use Rattle.std.proofs.lemmas.List.{at_drop_all, at_drop_more}
use Rattle.cov_base.specs.declared.position.Pos.{Pos}
use Rattle.cov_base.specs.declared.failure.Failure.{Failure}
use Rattle.ada_rules.specs.Plan.{Plan, outcome_after, answer_at}
use Rattle.ada_rules.specs.Environment as rules
use Rattle.ada_rules.specs.Environment.{State, Given, given, typed_rule}
use Rattle.ada_entities.specs.declared.fault.Refusal.{Refusal}
use Rattle.ada_entities.specs.Answers.{refusal, Refuses, refused_at, no_memory, Answers}
use Rattle.ada_phrases.specs.declared.scope.Step.{Step}
use Rattle.ada_phrases.specs.declared.scope.Step.TheVariants as step
use Rattle.ada_phrases.specs.Scopes.{step_of}
use Rattle.ada_phrases.specs.Answers.{typed_answer, IsTypedFound, along}
use Rattle.ada_phrases.specs.Pairs.{Pairs}

-- the whole comes to what is behind its part, where this passes
pub passes_on : {A B : Type 0} (p : Pos) (part : Result A Pos) (k : A → Plan B) (x : A) → part ≡ Ok x
    → answer_at p (outcome_after part k) ≡ answer_at p (k x).outcome
passes_on p part k x h = ap (λ r. answer_at p (outcome_after r k)) h

-- and is refused where its part is
pub in_part : {A B : Type 0} (p : Pos) (part : Result A Pos) (k : A → Plan B) (f : Failure Refusal) → Refuses part f
    → Refuses (answer_at p (outcome_after part k)) f
in_part p part k f (refused_at h) = refused_at (ap (λ r. answer_at p (outcome_after r k)) h)
in_part p part k f no_memory = no_memory

-- the same answer in other words
pub refused_as : {A : Type 0} (r s : Result A Pos) (f : Failure Refusal) → r ≡ s → Refuses s f → Refuses r f
refused_as r s f e h = subst (λ x. Refuses x f) (sym e) h

pub answers_as : {A B : Type 0} (view : A → B) (r s : Result B Pos) (o : Result A (Failure Refusal)) → r ≡ s → Answers view s o
    → Answers view r o
answers_as view r s o e h = subst (λ x. Answers view x o) (sym e) h

-- what a rule on types gives
pub by_type : {A B : Type 0} (view : A → B) (n : State) (st : rules.Step) (own : Step) (p : Pos) (anything : A) (found : Option A) (b : B) (o : Option B)
    → st ≡ step_of own → view anything ≡ b → option_map view found ≡ o
    → Answers (λ x. given (view x) n) (answer_at p (typed_rule st (given b n) (option_map (λ x. given x n) o)).outcome) (typed_answer own p anything found)
by_type {A = A} view n st own p anything found b o s e h =
    subst (λ t. Answers (λ x. given (view x) n) (answer_at p (typed_rule t (given b n) (option_map (λ x. given x n) o)).outcome) (typed_answer own p anything found)) (sym s)
    (subst (λ y. Answers (λ x. given (view x) n) (answer_at p (typed_rule (step_of own) (given b n) (option_map (λ x. given x n) y)).outcome) (typed_answer own p anything found)) h
    (typed own found))
  where
    typed : (own : Step) (found : Option A)
        → Answers (λ x. given (view x) n) (answer_at p (typed_rule (step_of own) (given b n) (option_map (λ x. given x n) (option_map view found))).outcome) (typed_answer own p anything found)
    typed step.Naming found = ap (λ x. Ok (given x n)) (sym e)
    typed step.Typing None = refused_at refl
    typed step.Typing (Some x) = refl

pub gives_typed : {A B : Type 0} (view : A → B) (n : State) (st : rules.Step) (own : Step) (p : Pos) (anything : A) (found : Option A) (b : B) (o : Option B)
    (r : Result A (Failure Refusal)) → st ≡ step_of own → view anything ≡ b → option_map view found ≡ o → r ≡ typed_answer own p anything found
    → Answers (λ x. given (view x) n) (answer_at p (typed_rule st (given b n) (option_map (λ x. given x n) o)).outcome) r
gives_typed view n st own p anything found b o r s e h is =
    subst (λ x. Answers (λ x. given (view x) n) (answer_at p (typed_rule st (given b n) (option_map (λ x. given x n) o)).outcome) x) (sym is)
    (by_type view n st own p anything found b o s e h)

pub gives_found : {A B E : Type 0} (view : A → B) (n : State) (st : rules.Step) (own : Step) (p : Pos) (anything : A) (found : Result (Option A) E) (b : B) (o : Option B)
    (r : Result A (Failure Refusal)) → st ≡ step_of own → view anything ≡ b → IfOk found (λ x. option_map view x ≡ o) → IsTypedFound own p anything found r
    → Answers (λ x. given (view x) n) (answer_at p (typed_rule st (given b n) (option_map (λ x. given x n) o)).outcome) r
gives_found view n st own p anything (Ok x) b o r s e h is = gives_typed view n st own p anything x b o r s e h is
gives_found view n st own p anything (Err f) b o r s e h is =
    subst (λ y. Answers (λ x. given (view x) n) (answer_at p (typed_rule st (given b n) (option_map (λ x. given x n) o)).outcome) y) (sym is) no_memory

pub ok_then : {A E : Type 0} (P Q : A → Type 0) (r : Result A E) → ((x : A) → P x → Q x) → IfOk r P → IfOk r Q
ok_then P Q (Ok x) f h = f x h
ok_then P Q (Err e) f h = tt

-- constructs that grow to the right: one turn, and the end
along_refused : {A X : Type 0} (p : Pos) (f : A → X → Plan A) (q : Pos) (xs : List X) → along p f (Err q) xs ≡ Err q
along_refused p f q [] = refl
along_refused p f q (x ∷ xs) = along_refused p f q xs

module _ {A X : Type 0} (p : Pos) (f : A → X → Plan A) (a : A) (xs : List X) (i : ℕ) (x : X) where
  turn : i < length xs → x ≡ get_or xs i x → along p f (Ok a) (drop i xs) ≡ along p f (answer_at p (f a x).outcome) (drop (i + 1) xs)
  turn h e = at_drop_more (λ ys. along p f (Ok a) ys) xs i x h ∙ ap (λ y. along p f (Ok a) (y ∷ drop (i + 1) xs)) (sym e)

  pub turn_passes : (b : A) → i < length xs → x ≡ get_or xs i x → answer_at p (f a x).outcome ≡ Ok b
      → along p f (Ok a) (drop i xs) ≡ along p f (Ok b) (drop (i + 1) xs)
  turn_passes b h e ok = turn h e ∙ ap (λ r. along p f r (drop (i + 1) xs)) ok

  pub turn_refuses : (fault : Failure Refusal) → i < length xs → x ≡ get_or xs i x → Refuses (answer_at p (f a x).outcome) fault
      → Refuses (along p f (Ok a) (drop i xs)) fault
  turn_refuses fault h e (refused_at {p = q} r) =
      refused_at (turn h e ∙ (ap (λ r. along p f r (drop (i + 1) xs)) r ∙ along_refused p f q (drop (i + 1) xs)))
  turn_refuses fault h e no_memory = no_memory

pub all_turned : {A X : Type 0} (p : Pos) (f : A → X → Plan A) (a : A) (xs : List X) (i : ℕ) → length xs ≤ i → along p f (Ok a) (drop i xs) ≡ Ok a
all_turned p f a xs i h = at_drop_all (λ ys. along p f (Ok a) ys) xs i h

-- a part with the answer of the part behind it
module _ {A B E : Type 0} (a : A) where
  pub pair_second : (P : B → Type 0) (r : Result B E) (z : A × B) → Pairs a r (Ok z) → IfOk r P → P z.1
  pair_second P (Ok b) z is h = subst P (sym (ap (λ z. z.1) is)) h
  pair_second P (Err f) z is h = absurd is

  pub pair_first : (r : Result B E) (z : A × B) → Pairs a r (Ok z) → z.0 ≡ a
  pair_first (Ok b) z is = ap (λ z. z.0) is
  pair_first (Err f) z is = absurd is

-- what stands to what the rules say of that part
module _ {A B C : Type 0} (a : A) (view : B → C) (s : Result C Pos) where
  pub pair_passes : (r : Result B (Failure Refusal)) (z : A × B) → Pairs a r (Ok z) → Answers view s r → s ≡ Ok (view z.1)
  pair_passes (Ok b) z is h = h ∙ ap (λ z. Ok (view z.1)) (sym is)
  pair_passes (Err f) z is h = absurd is

  pub pair_refuses : (r : Result B (Failure Refusal)) (g : Failure Refusal) → Pairs a r (Err g) → Answers view s r → Refuses s g
  pair_refuses (Ok b) g is h = absurd is
  pair_refuses (Err f) g is h = subst (λ f. Refuses s f) (sym is) h

pub ruleset parts = (no_memory)
