-- The text depends on which events there are alone.
use Rattle.std.proofs.Common.{◌≡◌, ℕ, Bool, true, false, ◌&&◌, ◌||◌, List, [], ◌∷◌, ◌++◌, Option, Some, None, refl, sym, ap, ◌∙◌, inl, inr, ◌⊎◌, if◌then◌else◌}
use Rattle.std.specs.List.{list_any, cons_option}
use Rattle.cov_base.specs.declared.event.Event.{Event}
use Rattle.cov_base.specs.declared.event.Vector.{Vector}
use Rattle.cov_base.specs.declared.level.Level.{Level}
use Rattle.cov_base.specs.declared.obligations.DecEntry.{DecEntry}
use Rattle.cov_base.specs.declared.obligations.Obligations.{Obligations}
use Rattle.cov_base.specs.Expr.{Expr, size}
use Rattle.cov_base.specs.Marks.{Marks, marks, same, outcome}
use Rattle.cov_base.specs.Lists.{Everywhere}
use Rattle.decision_meaning.specs.Pair.{Pair, IsLeastPair, pair_precedes}
use Rattle.mcdc_verdicts.proofs.Lists.{everywhere-map, everywhere-item}
use Rattle.annotated_report.specs.Findings.{asks_outcomes, asks_pairs, expr_of, one_if, unstarted, started_count, outcome_finding, decision_findings, pair_finding, condition_key, finding_of_condition, unpaired, findings_of, unsatisfied, covered_count, findings}
use Rattle.annotated_report.specs.LeastPair.{kind_of, shown_pair}
use Rattle.annotated_report.specs.Members.{Has, AreWithin, AreAlike}
use Rattle.annotated_report.specs.Order.{in_order}
use Rattle.annotated_report.specs.Report.{judged_totals, totals_text, violations_text, head_text, report_text}
use Rattle.annotated_report.specs.Shown.{line_of_condition, asked_pairs, pair_lines}
use Rattle.annotated_report.specs.Verdicts.{starts, is_started, vector_in, vectors_of, gives, is_covered, lacks, lacks_outcome}
use Rattle.annotated_report.proofs.LeastPairs.{least_pair_is, same_shown_texts, one_text, same_line, same_finding, option_texts, option_text}
use Rattle.annotated_report.proofs.Numbering.{same_found, same_sum}

one_way : (a b : Bool) → (a ≡ true → b ≡ true) → (b ≡ true → a ≡ true) → a ≡ b
one_way true b f g = sym (f refl)
one_way false true f g = g refl
one_way false false f g = refl

either : (a b : Bool) → (a || b) ≡ true → (a ≡ true) ⊎ (b ≡ true)
either true b h = inl refl
either false b h = inr h

or_left : (a b : Bool) → a ≡ true → (a || b) ≡ true
or_left true b h = refl
or_left false b h = cc

or_right : (a b : Bool) → b ≡ true → (a || b) ≡ true
or_right true b h = refl
or_right false b h = h

any_by : {X : Type 0} (p : X → Bool) (xs : List X) (x : X) → Has xs x → p x ≡ true → list_any p xs ≡ true
any_by p [] x h e = absurd h
any_by p (y ∷ ys) x h e =
    elim h [
      | inl same ↦ or_left (p y) (list_any p ys) (ap p same ∙ e)
      | inr there ↦ or_right (p y) (list_any p ys) (any_by p ys x there e)
    ]

any_within : {X : Type 0} (p : X → Bool) (xs ys : List X) → AreWithin xs ys → list_any p xs ≡ true → list_any p ys ≡ true
any_within p [] ys w h = cc
any_within p (x ∷ xs) ys w h =
    elim (either (p x) (list_any p xs) h) [
      | inl here ↦ any_by p ys x (w x (inl refl)) here
      | inr there ↦ any_within p xs ys (λ y k. w y (inr k)) there
    ]

any_same : {X : Type 0} (p : X → Bool) (xs ys : List X) → AreAlike xs ys → list_any p xs ≡ list_any p ys
any_same p xs ys h = one_way (list_any p xs) (list_any p ys) (any_within p xs ys h.0) (any_within p ys xs h.1)

-- ---- vectors of alike events are alike

in_front : (o : Option Vector) (v : Vector) (rest : List Vector) → o ≡ Some v → Has (cons_option o rest) v
in_front None v rest e = cc
in_front (Some w) v rest e = inl (cc)

behind : (o : Option Vector) (v : Vector) (rest : List Vector) → Has rest v → Has (cons_option o rest) v
behind None v rest h = h
behind (Some w) v rest h = inr h

pub taken : (d : ℕ) (ys : List Event) (event : Event) (v : Vector) → Has ys event → vector_in d event ≡ Some v → Has (vectors_of ys d) v
taken d [] event v h e = absurd h
taken d (y ∷ ys) event v h e =
    elim h [
      | inl same ↦ in_front (vector_in d y) v (vectors_of ys d) (ap (vector_in d) same ∙ e)
      | inr there ↦ behind (vector_in d y) v (vectors_of ys d) (taken d ys event v there e)
    ]

split_front : (o : Option Vector) (v : Vector) (rest : List Vector) → Has (cons_option o rest) v → (o ≡ Some v) ⊎ Has rest v
split_front None v rest h = inr h
split_front (Some w) v rest h = elim h [ inl e ↦ inl (ap Some e) | inr there ↦ inr there ]

pub vectors_within : (d : ℕ) (xs ys : List Event) → AreWithin xs ys → AreWithin (vectors_of xs d) (vectors_of ys d)
vectors_within d [] ys w v h = absurd h
vectors_within d (x ∷ xs) ys w v h =
    elim (split_front (vector_in d x) v (vectors_of xs d) h) [
      | inl here ↦ taken d ys x v (w x (inl refl)) here
      | inr there ↦ vectors_within d xs ys (λ y k. w y (inr k)) v there
    ]

pub vectors_alike : (d : ℕ) (xs ys : List Event) → AreAlike xs ys → AreAlike (vectors_of xs d) (vectors_of ys d)
vectors_alike d xs ys h = (vectors_within d xs ys h.0, vectors_within d ys xs h.1)

-- ---- what alike vectors show

pub same_gives : (e : Expr) (value : Bool) (vs ws : List Vector) → AreAlike vs ws → gives e value vs ≡ gives e value ws
same_gives e value vs ws h = any_same (λ v. same (outcome e (marks v)) value) vs ws h

pub same_covered : (e : Expr) (vs ws : List Vector) → AreAlike vs ws → is_covered e vs ≡ is_covered e ws
same_covered e vs ws h =
    ap (λ b. b && gives e false vs) (same_gives e true vs ws h) ∙ ap (λ b. gives e true ws && b) (same_gives e false vs ws h)

same_lacks : (e : Expr) (vs ws : List Vector) → AreAlike vs ws → lacks e vs ≡ lacks e ws
same_lacks e [] [] h = refl
same_lacks e [] (w ∷ ws) h = absurd (h.1 w (inl refl))
same_lacks e (v ∷ vs) [] h = absurd (h.0 v (inl refl))
same_lacks e (v ∷ vs) (w ∷ ws) h =
    ap (λ b. lacks_outcome b (gives e false (v ∷ vs))) (same_gives e true (v ∷ vs) (w ∷ ws) h)
    ∙ ap (λ b. lacks_outcome (gives e true (w ∷ ws)) b) (same_gives e false (v ∷ vs) (w ∷ ws) h)

pub everywhere_within : {X : Type 0} (P : X → Type 0) (xs ys : List X) → AreWithin ys xs → Everywhere P xs → Everywhere P ys
everywhere_within P xs [] w h = tt
everywhere_within P xs (y ∷ ys) w h = (everywhere-item P y xs h (w y (inl refl)), everywhere_within P xs ys (λ z k. w z (inr k)) h)

both_within : (P : Vector → Vector → Type 0) (vs ws : List Vector) → AreWithin ws vs →
    Everywhere (λ v. Everywhere (λ w. P v w) vs) vs → Everywhere (λ v. Everywhere (λ w. P v w) ws) ws
both_within P vs ws w h =
    everywhere_within (λ v. Everywhere (λ x. P v x) ws) vs ws w
    (everywhere-map (λ v. Everywhere (λ x. P v x) vs) (λ v. Everywhere (λ x. P v x) ws) (λ v row. everywhere_within (λ x. P v x) vs ws w row) vs h)

moved : (n : ℕ) (test : Marks → Marks → Bool) (vs ws : List Vector) (a : Option Pair) → AreAlike vs ws → IsLeastPair n test vs a → IsLeastPair n test ws a
moved n test vs ws None h l = both_within (λ v w. test (marks v) (marks w) ≡ false) vs ws h.1 l
moved n test vs ws (Some p) h l = (
  record { has_first = h.0 p.first l.0.has_first; has_second = h.0 p.second l.0.has_second; passes = l.0.passes },
  both_within (λ v w. (test (marks v) (marks w) && pair_precedes n (marks v) (marks w) (marks p.first) (marks p.second)) ≡ false) vs ws h.1 l.1,
)

-- a least pair of vectors tells what the least pair of the same vectors tells that come otherwise
pub shown_texts : (level : Level) (e : Expr) (vs ws : List Vector) (c : ℕ) (a : Option Pair) → AreAlike vs ws →
    IsLeastPair (size e) (kind_of level e c) vs a → option_texts (size e) a ≡ option_texts (size e) (shown_pair level e ws c)
shown_texts level e vs ws c a h l =
    same_shown_texts (size e) (kind_of level e c) ws a (shown_pair level e ws c)
    (moved (size e) (kind_of level e c) vs ws a h l)
    (least_pair_is (size e) (kind_of level e c) ws)

pub same_pairs : (level : Level) (e : Expr) (vs ws : List Vector) (c : ℕ) → AreAlike vs ws →
    option_text (size e) (shown_pair level e vs c) ≡ option_text (size e) (shown_pair level e ws c)
same_pairs level e vs ws c h =
    one_text (size e) (shown_pair level e vs c) (shown_pair level e ws c)
    (shown_texts level e vs ws c (shown_pair level e vs c) h (least_pair_is (size e) (kind_of level e c) vs))

pub same_unpaired : (level : Level) (vs ws : List Vector) (d : ℕ) (entry : DecEntry) → AreAlike vs ws → unpaired level vs d entry ≡ unpaired level ws d entry
same_unpaired level vs ws d entry h =
    let e = expr_of entry in
    same_found (finding_of_condition level vs d entry) (finding_of_condition level ws d entry) 0 entry.conditions
    (λ i m place eq at. ap (λ b. pair_finding b (condition_key d entry m place) (shown_pair level e vs m)) (same_covered e vs ws h)
    ∙ same_finding (size e) (is_covered e ws) (condition_key d entry m place) (shown_pair level e vs m) (shown_pair level e ws m) (same_pairs level e vs ws m h))

pub same_paired : (level : Level) (vs ws : List Vector) (d : ℕ) (entry : DecEntry) → AreAlike vs ws → asked_pairs level vs d entry ≡ asked_pairs level ws d entry
same_paired level vs ws d entry h =
    let e = expr_of entry in
    ap (λ l. if asks_pairs level then l else [])
    (same_found (line_of_condition level vs d entry) (line_of_condition level ws d entry) 0 entry.conditions
    (λ i m place eq at. same_line (size e) (condition_key d entry m place) (shown_pair level e vs m) (shown_pair level e ws m) (same_pairs level e vs ws m h)))

same_findings : (level : Level) (executed : Bool) (vs ws : List Vector) (d : ℕ) (entry : DecEntry) → AreAlike vs ws →
    findings_of level executed vs d entry ≡ findings_of level executed ws d entry
same_findings level executed vs ws d entry h =
    ap (λ m. (if executed then outcome_finding d entry m else []) ++ (if asks_pairs level then unpaired level vs d entry else [])) (same_lacks (expr_of entry) vs ws h)
    ∙ ap (λ l. decision_findings executed ws d entry ++ (if asks_pairs level then l else [])) (same_unpaired level vs ws d entry h)

-- ---- and what alike events show

pub same_started : (xs ys : List Event) → AreAlike xs ys → is_started xs ≡ is_started ys
same_started xs ys h = λ i n. any_same (starts n) xs ys h i

same_unsatisfied : (level : Level) (xs ys : List Event) (decisions : List DecEntry) → AreAlike xs ys →
    unsatisfied level (is_started xs) (vectors_of xs) decisions ≡ unsatisfied level (is_started ys) (vectors_of ys) decisions
same_unsatisfied level xs ys decisions h =
    ap (λ s. unsatisfied level s (vectors_of xs) decisions) (same_started xs ys h)
    ∙ same_found (λ d entry. findings_of level (is_started ys entry.statement.0) (vectors_of xs d) d entry)
    (λ d entry. findings_of level (is_started ys entry.statement.0) (vectors_of ys d) d entry) 0 decisions
    (λ i m entry eq at. same_findings level (is_started ys entry.statement.0) (vectors_of xs m) (vectors_of ys m) m entry (vectors_alike m xs ys h))

pub same_all : (level : Level) (obligations : Obligations) (xs ys : List Event) → AreAlike xs ys → findings level obligations xs ≡ findings level obligations ys
same_all level obligations xs ys h =
    ap (λ s. in_order (λ f. f.key) (unstarted s obligations.statements
    ++ (if asks_outcomes level then unsatisfied level (is_started xs) (vectors_of xs) obligations.decisions else []))) (same_started xs ys h)
    ∙ ap (λ l. in_order (λ f. f.key) (unstarted (is_started ys) obligations.statements ++ (if asks_outcomes level then l else [])))
    (same_unsatisfied level xs ys obligations.decisions h)

same_count : (xs ys : List Event) (decisions : List DecEntry) → AreAlike xs ys → covered_count (vectors_of xs) decisions ≡ covered_count (vectors_of ys) decisions
same_count xs ys decisions h =
    same_sum (λ d entry. one_if (is_covered (expr_of entry) (vectors_of xs d))) (λ d entry. one_if (is_covered (expr_of entry) (vectors_of ys d))) 0 decisions
    (λ i m entry eq at. ap one_if (same_covered (expr_of entry) (vectors_of xs m) (vectors_of ys m) (vectors_alike m xs ys h)))

same_lines : (level : Level) (xs ys : List Event) (decisions : List DecEntry) → AreAlike xs ys → pair_lines level decisions xs ≡ pair_lines level decisions ys
same_lines level xs ys decisions h =
    ap (λ l. in_order (λ line. line.key) l)
    (same_found (λ d entry. asked_pairs level (vectors_of xs d) d entry) (λ d entry. asked_pairs level (vectors_of ys d) d entry) 0 decisions
    (λ i m entry eq at. same_paired level (vectors_of xs m) (vectors_of ys m) m entry (vectors_alike m xs ys h)))

pub same_text : (level : Level) (obligations : Obligations) (traces : ℕ) (xs ys : List Event) (names : List (List ℕ)) → AreAlike xs ys →
    report_text level obligations traces xs names ≡ report_text level obligations traces ys names
same_text level obligations traces xs ys names h =
    ap (λ found. head_text level traces ++ (violations_text names obligations.regions found ++ totals_text level obligations xs names)) (same_all level obligations xs ys h)
    ∙ ap (λ l. head_text level traces ++ (violations_text names obligations.regions (findings level obligations ys) ++ l))
    (ap (λ s. judged_totals level obligations names (started_count s obligations.statements) (covered_count (vectors_of xs) obligations.decisions)
    (pair_lines level obligations.decisions xs)) (same_started xs ys h)
    ∙ ap (λ n. judged_totals level obligations names (started_count (is_started ys) obligations.statements) n (pair_lines level obligations.decisions xs))
    (same_count xs ys obligations.decisions h)
    ∙ ap (λ l. judged_totals level obligations names (started_count (is_started ys) obligations.statements) (covered_count (vectors_of ys) obligations.decisions) l)
    (same_lines level xs ys obligations.decisions h))
