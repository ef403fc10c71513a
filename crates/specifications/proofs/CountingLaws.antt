-- The actuals of an instance, one behind the other, and their count.
use Rattle.std.proofs.Common.{◌≡◌, ℕ, ◌+◌, ◌<◌, ◌≤◌, nat_eq, nat_lt, Bool, true, false, List, [], ◌∷◌, ◌++◌, length, map, drop, get_or, slice_get, Option, Some, None, option_map, Result, Ok, Err, ⊎_elim, refl, sym, ap, ◌∙◌, subst, arith}
use Rattle.std.proofs.lemmas.Bool.{eq-eqb, le-ltb, lt-ltb, ltb-false, ltb-true, ne_eqb}
use Rattle.std.proofs.lemmas.List.{drop_all, map-append}
use Rattle.std.proofs.lemmas.Option.{none-some, slice_get_cases, slice_get_within}
use Rattle.cov_base.specs.declared.failure.Failure.{Failure}
use Rattle.cov_base.specs.declared.position.Pos.{Pos}
use Rattle.ada_syntax.specs.Tree.{Expr, expr_pos}
use Rattle.ada_rules.specs.Plan.{◌>>=◌, rule, construct, outcome_after, answer_at}
use Rattle.ada_rules.specs.Entities as rules
use Rattle.ada_rules.specs.Entities.{Actual, Region}
use Rattle.ada_rules.specs.Environment.{Step, naming, typing, typed_rule, State, Given, given, Env}
use Rattle.ada_rules.specs.Instances.{actual_plan, any_plan, actuals_judged}
use Rattle.ada_entities.specs.declared.fault.Refusal.{Refusal}
use Rattle.ada_entities.specs.Answers.{Refuses, refused_at, no_memory}
use Rattle.ada_phrases.proofs.Parts.{passes_on, in_part}
use Rattle.specifications.specs.Passing.{plan_for, kept, counted_rule}
use Rattle.specifications.proofs.Comparing.{item_there, item_read, no_item}

abbrev Actuals : Type 0
Actuals = Result (Given (List Actual)) Pos

-- the step of types refuses actuals that no formal is there for, when all were looked at
abbrev pub spoiled : Step → Pos → Actuals → Actuals
spoiled st p r = answer_at p (outcome_after r (λ rest. typed_rule st rest None))

abbrev pub closing : Step → Pos → Bool → Actuals → Actuals
closing st p true r = spoiled st p r
closing st p false r = r

spoiled_twice : (st : Step) (p : Pos) (r : Actuals) → spoiled st p (spoiled st p r) ≡ spoiled st p r
spoiled_twice naming p (Ok g) = refl
spoiled_twice naming p (Err q) = refl
spoiled_twice typing p (Ok g) = refl
spoiled_twice typing p (Err q) = refl

closing_spoiled : (st : Step) (p : Pos) (b : Bool) (r : Actuals) → closing st p b (spoiled st p r) ≡ spoiled st p r
closing_spoiled st p true r = spoiled_twice st p r
closing_spoiled st p false r = refl

closing_refused : (st : Step) (p : Pos) (b : Bool) (r : Actuals) (f : Failure Refusal) → Refuses r f → Refuses (closing st p b r) f
closing_refused st p true r f (refused_at h) = refused_at (ap (spoiled st p) h)
closing_refused st p true r f no_memory = no_memory
closing_refused st p false r f h = h

handed_on : (p : Pos) (r : Actuals) → answer_at p (outcome_after r (λ rest. rule (Some rest))) ≡ r
handed_on p (Ok g) = refl
handed_on p (Err q) = refl

-- what is left of the actuals behind so many
module _ (env : Env) (p : Pos) (n : ℕ) (fs : Region) (xs : List Expr) where
  abbrev pub left : State → List Actual → ℕ → Actuals
  left s before i = (actuals_judged env s p n before (drop i fs) (drop i xs)).answer

  abbrev pub whole : State → List Actual → ℕ → Actuals
  whole s before i = closing env.step p (nat_lt (length fs) i) (left s before i)

  pub from_start : (s : State) (before : List Actual) → whole s before 0 ≡ (actuals_judged env s p n before fs xs).answer
  from_start s before = ap (λ b. closing env.step p b (left s before 0)) (le-ltb (length fs) 0 (omega arith))

  module _ (s : State) (before : List Actual) (i : ℕ) (x : Expr) (h : i < length xs) (is : x ≡ get_or xs i x) where
    abbrev matched : List ℕ × rules.Entity → Actuals
    matched f = answer_at p (outcome_after (construct (expr_pos x) (actual_plan env s n before f.1 x)).answer
        (λ a. actuals_judged env a.next p n (before ++ a.value ∷ []) (drop (i + 1) fs) (drop (i + 1) xs) >>= (λ rest. rule (Some rest))))

    abbrev surplus : Actuals
    surplus = answer_at p (outcome_after (construct (expr_pos x) (any_plan env s x)).answer
        (λ a. actuals_judged env a.next p n before [] (drop (i + 1) xs) >>= (λ rest. typed_rule env.step rest None)))

    left_matched : (f : List ℕ × rules.Entity) → slice_get fs i ≡ Some f → left s before i ≡ matched f
    left_matched f e = λ z. (actuals_judged env s p n before (item_there fs i f e z) (item_read xs i x h is z)).answer

    left_surplus : slice_get fs i ≡ None → left s before i ≡ surplus
    left_surplus e = λ z. (actuals_judged env s p n before (no_item fs i e z) (item_read xs i x h is z)).answer

    abbrev judged_for : Option (List ℕ × rules.Entity) → Result (Given Actual) Pos
    judged_for o = answer_at (expr_pos x) (plan_for env s n before (option_map (λ f. f.1) o) x).outcome

    refused_by : (o : Option (List ℕ × rules.Entity)) → slice_get fs i ≡ o → (fault : Failure Refusal) → Refuses (judged_for o) fault → Refuses (left s before i) fault
    refused_by None e fault r =
        subst (λ y. Refuses y fault) (sym (left_surplus e))
        (in_part p (construct (expr_pos x) (any_plan env s x)).answer _ fault r)
    refused_by (Some f) e fault r =
        subst (λ y. Refuses y fault) (sym (left_matched f e))
        (in_part p (construct (expr_pos x) (actual_plan env s n before f.1 x)).answer _ fault r)

    pub turn_refused : (o : Option rules.Entity) → option_map (λ (f : List ℕ × rules.Entity). f.1) (slice_get fs i) ≡ o → (fault : Failure Refusal)
        → Refuses (answer_at (expr_pos x) (plan_for env s n before o x).outcome) fault → Refuses (whole s before i) fault
    turn_refused o e fault r =
        closing_refused env.step p (nat_lt (length fs) i) (left s before i) fault
        (refused_by (slice_get fs i) refl fault
        (subst (λ q. Refuses (answer_at (expr_pos x) (plan_for env s n before q x).outcome) fault) (sym e) r))

    passes_by : (o : Option (List ℕ × rules.Entity)) → slice_get fs i ≡ o → (a : Given Actual) → judged_for o ≡ Ok a
        → whole s before i ≡ whole a.next (kept (option_map (λ (f : List ℕ × rules.Entity). f.1) o) before a.value) (i + 1)
    passes_by None e a r =
        let past : length fs ≤ i = none_past fs i e in
        ap (closing env.step p (nat_lt (length fs) i)) (left_surplus e ∙ passes_on p (construct (expr_pos x) (any_plan env s x)).answer _ a r)
        ∙ closing_spoiled env.step p (nat_lt (length fs) i) (actuals_judged env a.next p n before [] (drop (i + 1) xs)).answer
        ∙ (λ z. spoiled env.step p (actuals_judged env a.next p n before (sym (drop_all (i + 1) fs (omega (arith, past))) z) (drop (i + 1) xs)).answer)
        ∙ ap (λ b. closing env.step p b (left a.next before (i + 1))) (sym (lt-ltb (length fs) (i + 1) (omega (arith, past))))
      where
        none_past : (fs : Region) (i : ℕ) → slice_get fs i ≡ None → length fs ≤ i
        none_past fs i e = ⊎_elim (λ q. absurd (none-some _ (sym e ∙ q.2))) (λ q. q.0) (slice_get_cases fs i).1
    passes_by (Some f) e a r =
        let there : i < length fs = slice_get_within fs i f e in
        ap (λ b. closing env.step p b (left s before i)) (le-ltb (length fs) i (omega (arith, there)))
        ∙ left_matched f e
        ∙ passes_on p (construct (expr_pos x) (actual_plan env s n before f.1 x)).answer _ a r
        ∙ handed_on p (left a.next (before ++ a.value ∷ []) (i + 1))
        ∙ ap (λ b. closing env.step p b (left a.next (before ++ a.value ∷ []) (i + 1))) (sym (le-ltb (length fs) (i + 1) (omega (arith, there))))

    pub turn_passes : (o : Option rules.Entity) → option_map (λ (f : List ℕ × rules.Entity). f.1) (slice_get fs i) ≡ o → (a : Given Actual)
        → answer_at (expr_pos x) (plan_for env s n before o x).outcome ≡ Ok a → whole s before i ≡ whole a.next (kept o before a.value) (i + 1)
    turn_passes o e a r =
        passes_by (slice_get fs i) refl a (ap (λ q. answer_at (expr_pos x) (plan_for env s n before q x).outcome) e ∙ r)
        ∙ ap (λ q. whole a.next (kept q before a.value) (i + 1)) e

  -- where none is left
  abbrev told : State → List Actual → Actuals
  told s before = counted_rule env.step p (nat_eq (length fs) (length xs)) (given before s)

  spoiled_end : (st : Step) (g : Given (List Actual)) → spoiled st p (Ok g) ≡ counted_rule st p false g
  spoiled_end naming g = refl
  spoiled_end typing g = refl

  passed_end : (st : Step) (g : Given (List Actual)) → Ok g ≡ counted_rule st p true g
  passed_end naming g = refl
  passed_end typing g = refl

  module _ (s : State) (before : List Actual) (i : ℕ) (e : i ≡ length xs) where
    past : length xs ≤ i
    past = omega (arith, e)

    too_few : (f : List ℕ × rules.Entity) → slice_get fs i ≡ Some f → whole s before i ≡ told s before
    too_few f h =
        let there : i < length fs = slice_get_within fs i f h in
        ap (λ b. closing env.step p b (left s before i)) (le-ltb (length fs) i (omega (arith, there)))
        ∙ (λ z. (actuals_judged env s p n before (item_there fs i f h z) (drop_all i xs past z)).answer)
        ∙ ap (λ b. counted_rule env.step p b (given before s)) (sym (ne_eqb (length fs) (length xs) (λ same. omega (arith, there, e, same))))

    no_more : length fs ≤ i → left s before i ≡ Ok (given before s)
    no_more h = λ z. (actuals_judged env s p n before (drop_all i fs h z) (drop_all i xs past z)).answer

    enough : length fs ≤ i → (b : Bool) → nat_lt (length fs) i ≡ b → whole s before i ≡ told s before
    enough h true less =
        (λ z. closing env.step p (less z) (no_more h z))
        ∙ spoiled_end env.step (given before s)
        ∙ ap (λ b. counted_rule env.step p b (given before s))
        (sym (ne_eqb (length fs) (length xs) (λ same. omega (arith, ltb-true (length fs) i less, e, same))))
    enough h false more =
        (λ z. closing env.step p (more z) (no_more h z))
        ∙ passed_end env.step (given before s)
        ∙ ap (λ b. counted_rule env.step p b (given before s))
        (sym (eq-eqb (length fs) (length xs) (omega (arith, ltb-false (length fs) i more, h, e))))

    pub all_counted : whole s before i ≡ told s before
    all_counted = ⊎_elim (λ q. too_few q.0 q.2) (λ q. enough q.0 (nat_lt (length fs) i) refl) (slice_get_cases fs i).1

-- what is kept, as it is seen
pub kept_seen : {A B F G : Type 0} (view : A → B) (as_seen : F → G) (o : Option F) (xs : List A) (x : A)
    → map view (kept o xs x) ≡ kept (option_map as_seen o) (map view xs) (view x)
kept_seen view as_seen None xs x = refl
kept_seen view as_seen (Some f) xs x = map-append view xs (x ∷ [])
