-- The report as JSON tells the least pairs of the vectors of events.
use Rattle.std.proofs.Common.{◌≡◌, ◌↔◌, ℕ, zero, suc, ◌+◌, true, false, List, [], ◌∷◌, length, Option, Some, None, refl, sym, ap, ◌∙◌, slice_get, arith}
use Rattle.std.proofs.lemmas.Bool.{cond-true}
use Rattle.serde_json.specs.Data.{Data}
use Rattle.cov_base.specs.declared.event.Event.{Event}
use Rattle.cov_base.specs.declared.event.Event.TheVariants.{Done}
use Rattle.cov_base.specs.declared.event.Vector.{Vector}
use Rattle.cov_base.specs.declared.level.Level.{Level}
use Rattle.cov_base.specs.declared.level.Level.TheVariants as level
use Rattle.cov_base.specs.declared.obligations.DecEntry.{DecEntry}
use Rattle.cov_base.specs.declared.obligations.Obligations.{Obligations}
use Rattle.cov_base.specs.declared.obligations.Place.{Place}
use Rattle.cov_base.specs.Expr.{size}
use Rattle.cov_base.specs.Lists.{Everywhere}
use Rattle.cov_base.specs.Marks.{marks}
use Rattle.decision_meaning.specs.Pair.{Pair, IsLeastPair}
use Rattle.mcdc_verdicts.proofs.Lists.{everywhere-item}
use Rattle.annotated_report.specs.Findings.{asks_outcomes, asks_pairs, expr_of, findings}
use Rattle.annotated_report.specs.LeastPair.{kind_of, shown_pair}
use Rattle.annotated_report.specs.Numbered.{each_numbered}
use Rattle.annotated_report.specs.Paired.{IsGiven}
use Rattle.annotated_report.specs.Verdicts.{is_started, vectors_of, gives}
use Rattle.annotated_report.proofs.LeastPairs.{least_pair_is}
use Rattle.annotated_report.proofs.PairedEvents.{Among, vectors_given}
use Rattle.json_report.specs.Objects.{condition_object, condition_objects, asked_conditions, vector_values, told_decision, decision_object, decision_objects, asked_decisions, region_objects, statement_objects}
use Rattle.json_report.specs.Pairs.{IsLeastIfAny, TellsLeastPair, TellsConditions, TellsLeastPairs, CarriesLeastPairs}
use Rattle.json_report.specs.Text.{told_report, text_of, json_text}

-- ---- lists with one item for each

pub one_each : {X Y : Type 0} (f : ℕ → X → Y) (n : ℕ) (xs : List X) → length (each_numbered (λ i x. f i x ∷ []) n xs) ≡ length xs
one_each f n [] = refl
one_each f n (x ∷ xs) = ap suc (one_each f (n + 1) xs)

pub item_of : {X Y : Type 0} (f : ℕ → X → Y) (n : ℕ) (xs : List X) (k m : ℕ) (x : X) (y : Y) → m ≡ n + k
    → slice_get xs k ≡ Some x → slice_get (each_numbered (λ i z. f i z ∷ []) n xs) k ≡ Some y → y ≡ f m x
item_of f n [] k m x y is there at = absurd (cc there)
item_of f n (z ∷ xs) zero m x y is there at =
    let same : z ≡ x = cc there in
    let told : f n z ≡ y = cc at in
    let first : n ≡ m = omega (arith, is) in
    sym told ∙ ap (λ i. f i z) first ∙ ap (f m) same
item_of f n (z ∷ xs) (suc k) m x y is there at = item_of f (n + 1) xs k m x y (omega (arith, is)) there at

-- ---- what the events show

least_if_any : (level : Level) (events : List Event) (d : ℕ) (entry : DecEntry) (c : ℕ) (o : Option Pair)
    → IsLeastPair (size (expr_of entry)) (kind_of level (expr_of entry) c) (vectors_of events d) o
    → IsLeastIfAny level (Among events) d entry c o
least_if_any level events d entry c None none = λ v w of_v of_w.
    let test = kind_of level (expr_of entry) c in
    let vectors = vectors_of events d in
    let row = everywhere-item (λ (x : Vector). Everywhere (λ y. test (marks x) (marks y) ≡ false) vectors) v vectors none ((vectors_given events d v).1 of_v) in
    everywhere-item (λ (y : Vector). test (marks v) (marks y) ≡ false) w vectors row ((vectors_given events d w).1 of_w)
least_if_any level events d entry c (Some p) least =
    record { vectors = vectors_of events d; all_given = vectors_given events d; least = least }

tells_condition : (level : Level) (events : List Event) (d : ℕ) (entry : DecEntry) (c : ℕ) (place : Place) (item : Data)
    → item ≡ condition_object (size (expr_of entry)) place (shown_pair level (expr_of entry) (vectors_of events d) c)
    → TellsLeastPair level (Among events) d entry c place item
tells_condition level events d entry c place item is =
    let e = expr_of entry in
    let shown = shown_pair level e (vectors_of events d) c in
    record {
      pair = shown;
      tells = is;
      least = least_if_any level events d entry c shown (least_pair_is (size e) (kind_of level e c) (vectors_of events d));
    }

tells_decision : (level : Level) (events : List Event) (d : ℕ) (entry : DecEntry) (item : Data) → asks_pairs level ≡ true
    → item ≡ decision_object level (vectors_of events d) entry → TellsConditions level (Among events) d entry item
tells_decision level events d entry item asks is =
    let e = expr_of entry in
    let vectors = vectors_of events d in
    let told : List Data = condition_objects level e vectors entry.conditions in
    let all : asked_conditions level e vectors entry.conditions ≡ told = cond-true (asks_pairs level) told [] asks in
    record {
      given_false = gives e false vectors;
      given_true = gives e true vectors;
      conditions = told;
      vectors = vector_values (size e) vectors;
      tells = is ∙ ap (λ (l : List Data). told_decision entry (gives e false vectors) (gives e true vectors) l (vector_values (size e) vectors)) all;
      count = one_each (λ c place. condition_object (size e) place (shown_pair level e vectors c)) 0 entry.conditions;
      each = λ c place item known there.
          tells_condition level events d entry c place item
          (item_of (λ c place. condition_object (size e) place (shown_pair level e vectors c)) 0 entry.conditions c c place item (omega arith) known there);
    }

asks_both : (level : Level) → asks_pairs level ≡ true → asks_outcomes level ≡ true
asks_both level.Stmt asks = absurd (cc asks)
asks_both level.Decision asks = refl
asks_both level.Mcdc asks = refl
asks_both level.UcMcdc asks = refl

pub carries_least_pairs : (level : Level) (obligations : Obligations) (traces : ℕ) (events : List Event) (names : List (List ℕ))
    → asks_pairs level ≡ true
    → CarriesLeastPairs level obligations.decisions (Among events) names (json_text level obligations traces events names)
carries_least_pairs level obligations traces events names asks =
    let decisions : List DecEntry = obligations.decisions in
    let vectors = vectors_of events in
    let told : List Data = decision_objects level vectors decisions in
    let regions : List Data = region_objects (findings level obligations events) obligations.regions in
    let statements : List Data = statement_objects (is_started events) obligations.statements in
    let all : asked_decisions level vectors decisions ≡ told = cond-true (asks_outcomes level) told [] (asks_both level asks) in
    record {
      traces = traces;
      told = told;
      regions = regions;
      statements = statements;
      is = ap (λ (l : List Data). text_of (told_report level traces names l regions statements)) all;
      pairs = record {
        count = one_each (λ d entry. decision_object level (vectors d) entry) 0 decisions;
        each = λ d entry item known there.
            tells_decision level events d entry item asks
            (item_of (λ d entry. decision_object level (vectors d) entry) 0 decisions d d entry item (omega arith) known there);
      };
    }

-- ---- events that are there by another word

module _ (P Q : Event → Type 0) (are : (e : Event) → P e ↔ Q e) where
  given_there : (d : ℕ) (v : Vector) → IsGiven P d v → IsGiven Q d v
  given_there d v given = record { instance = given.instance; there = (are (Done (record { 0 = d }) given.instance v)).0 given.there }

  given_here : (d : ℕ) (v : Vector) → IsGiven Q d v → IsGiven P d v
  given_here d v given = record { instance = given.instance; there = (are (Done (record { 0 = d }) given.instance v)).1 given.there }

  least_there : (level : Level) (d : ℕ) (entry : DecEntry) (c : ℕ) (o : Option Pair) → IsLeastIfAny level P d entry c o → IsLeastIfAny level Q d entry c o
  least_there level d entry c None none = λ v w of_v of_w. none v w (given_here d v of_v) (given_here d w of_w)
  least_there level d entry c (Some pair) least = record {
    vectors = least.vectors;
    all_given = λ v. (λ there. given_there d v ((least.all_given v).0 there), λ given. (least.all_given v).1 (given_here d v given));
    least = least.least;
  }

  conditions_there : (level : Level) (d : ℕ) (entry : DecEntry) (told : Data) → TellsConditions level P d entry told → TellsConditions level Q d entry told
  conditions_there level d entry told tells = record {
    given_false = tells.given_false;
    given_true = tells.given_true;
    conditions = tells.conditions;
    vectors = tells.vectors;
    tells = tells.tells;
    count = tells.count;
    each = λ c place item known there.
        let one = tells.each c place item known there in
        record { pair = one.pair; tells = one.tells; least = least_there level d entry c one.pair one.least };
  }

  -- the events that are there may be said by any word that holds of the same ones
  pub same_pairs_told : (level : Level) (decisions : List DecEntry) (told : List Data)
      → TellsLeastPairs level decisions P told → TellsLeastPairs level decisions Q told
  same_pairs_told level decisions told tells = record {
    count = tells.count;
    each = λ d entry item known there. conditions_there level d entry item (tells.each d entry item known there);
  }

  pub same_pairs_carried : (level : Level) (decisions : List DecEntry) (names : List (List ℕ)) (text : List ℕ)
      → CarriesLeastPairs level decisions P names text → CarriesLeastPairs level decisions Q names text
  same_pairs_carried level decisions names text carries = record {
    traces = carries.traces;
    told = carries.told;
    regions = carries.regions;
    statements = carries.statements;
    is = carries.is;
    pairs = same_pairs_told level decisions carries.told carries.pairs;
  }

-- the same where the events that are there are said by another word
pub carries_pairs : (level : Level) (obligations : Obligations) (traces : ℕ) (events : List Event) (IsThere : Event → Type 0) (names : List (List ℕ))
    → ((e : Event) → Among events e ↔ IsThere e) → asks_pairs level ≡ true
    → CarriesLeastPairs level obligations.decisions IsThere names (json_text level obligations traces events names)
carries_pairs level obligations traces events IsThere names are asks =
    same_pairs_carried (Among events) IsThere are level obligations.decisions names (json_text level obligations traces events names)
    (carries_least_pairs level obligations traces events names asks)
