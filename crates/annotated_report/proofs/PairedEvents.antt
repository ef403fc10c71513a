-- A report ends in the least pairs of the vectors of events.
use Rattle.std.proofs.Common.{◌≡◌, ◌↔◌, inl, inr, ⊎_elim, ℕ, ◌+◌, Bool, true, false, cond, ◌==◌, List, [], ◌∷◌, ◌++◌, Option, Some, None, refl, sym, ap, subst, ◌∙◌, slice_get, eqb-true, eq-eqb, arith, codes, length, if◌then◌else◌}
use Rattle.std.proofs.lemmas.Bool.{cond-true}
use Rattle.std.proofs.lemmas.List.{append_assoc}
use Rattle.std.specs.List.{cons_option}
use Rattle.cov_base.specs.declared.event.Event.{Event}
use Rattle.cov_base.specs.declared.event.Event.TheVariants.{Start, Done}
use Rattle.cov_base.specs.declared.event.Vector.{Vector}
use Rattle.cov_base.specs.declared.level.Level.{Level}
use Rattle.cov_base.specs.declared.obligations.DecEntry.{DecEntry}
use Rattle.cov_base.specs.declared.obligations.Obligations.{Obligations}
use Rattle.cov_base.specs.declared.obligations.Place.{Place}
use Rattle.cov_base.specs.Expr.{size}
use Rattle.cov_base.specs.Marks.{marks}
use Rattle.cov_base.specs.Lists.{Somewhere, Everywhere}
use Rattle.decision_meaning.specs.Pair.{Pair, IsLeastPair}
use Rattle.mcdc_verdicts.proofs.Lists.{everywhere-item}
use Rattle.annotated_report.specs.declared.finding.PairLine.{PairLine}
use Rattle.annotated_report.specs.declared.finding.Subject.{Subject}
use Rattle.annotated_report.specs.declared.finding.Subject.TheVariants.{Statement, Decision, Condition}
use Rattle.annotated_report.specs.Findings.{asks_outcomes, asks_pairs, expr_of, condition_key, findings, started_count, covered_count}
use Rattle.annotated_report.specs.LeastPair.{kind_of, shown_pair}
use Rattle.annotated_report.specs.Paired.{IsGiven, TellsAPair, HaveLines, EndsInPairs}
use Rattle.annotated_report.specs.Report.{head_text, violations_text, total_text, pairs_text, report_text}
use Rattle.annotated_report.specs.Shown.{pair_line, line_of_condition, paired, asked_pairs, all_paired, pair_lines, condition_count}
use Rattle.annotated_report.specs.Verdicts.{is_started, vector_in, vectors_of}
use Rattle.annotated_report.proofs.Alike.{taken}
use Rattle.annotated_report.proofs.LeastPairs.{least_pair_is}
use Rattle.annotated_report.proofs.Listed.{everywhere_numbered, everywhere_ordered, somewhere_numbered, somewhere_ordered, AreOnce, once_pairs, once_ordered, once_numbered}

-- ---- the event that gives a decision a vector

-- an event is one of these
abbrev pub Among : List Event → Event → Type 0
Among events e = Somewhere (λ x. x ≡ e) events

given_later : (d : ℕ) (v : Vector) (e : Event) (events : List Event) → IsGiven (Among events) d v → IsGiven (Among (e ∷ events)) d v
given_later d v e events g = record { instance = g.instance; there = inr g.there }

given_here : (d : ℕ) (v : Vector) (e : Event) (events : List Event) → vector_in d e ≡ Some v → IsGiven (Among (e ∷ events)) d v
given_here d v (Start s i) events gives = absurd (cc gives)
given_here d v (Done n i w) events gives = by_number (n.0 == d) refl gives
  where
    by_number : (b : Bool) → (n.0 == d) ≡ b → cond b (Some w) None ≡ Some v → IsGiven (Among (Done n i w ∷ events)) d v
    by_number false is given = absurd (cc given)
    by_number true is given =
        let same : w ≡ v = cc given in
        let number : n.0 ≡ d = eqb-true n.0 d is in
        record { instance = i; there = inl (λ j. Done (record { 0 = number j }) i (same j)) }

given_somewhere : (d : ℕ) (v : Vector) (events : List Event) → Somewhere (λ x. x ≡ v) (vectors_of events d) → IsGiven (Among events) d v
given_somewhere d v [] there = absurd there
given_somewhere d v (e ∷ events) there =
    by_vector (vector_in d e) (λ w gives is. given_here d v e events (gives ∙ ap (λ x. Some x) is)) (λ rest. given_later d v e events (given_somewhere d v events rest)) there
  where
    by_vector : (o : Option Vector) → ((w : Vector) → o ≡ Some w → w ≡ v → IsGiven (Among (e ∷ events)) d v) → (Somewhere (λ x. x ≡ v) (vectors_of events d) → IsGiven (Among (e ∷ events)) d v)
        → Somewhere (λ x. x ≡ v) (cons_option o (vectors_of events d)) → IsGiven (Among (e ∷ events)) d v
    by_vector None here rest s = rest s
    by_vector (Some w) here rest s = ⊎_elim (λ is. here w refl is) rest s

somewhere_given : (d : ℕ) (v : Vector) (events : List Event) → IsGiven (Among events) d v → Somewhere (λ x. x ≡ v) (vectors_of events d)
somewhere_given d v events given =
    taken d events (Done (record { 0 = d }) given.instance v) v given.there (cond-true (d == d) (Some v) None (eq-eqb d d refl))

-- the vectors of a decision are those that events give it
pub vectors_given : (events : List Event) (d : ℕ) (v : Vector) → Somewhere (λ x. x ≡ v) (vectors_of events d) ↔ IsGiven (Among events) d v
vectors_given events d v = (λ there. given_somewhere d v events there, λ given. somewhere_given d v events given)

-- ---- the lines

clash : (b : Bool) → b ≡ true → b ≡ false → ⊥
clash b is not_so = let h = sym is ∙ not_so in cc

-- which decision, and which of its conditions, a line is of
abbrev decision_number : Subject → ℕ
decision_number (Statement n) = 0
decision_number (Decision n) = n
decision_number (Condition n c) = n

abbrev condition_number : Subject → ℕ
condition_number (Statement n) = 0
condition_number (Decision n) = 0
condition_number (Condition n c) = c

module _ (level : Level) (decisions : List DecEntry) (events : List Event) (IsThere : Event → Type 0) (are : (e : Event) → Among events e ↔ IsThere e) where
  abbrev Tells : PairLine → Type 0
  Tells = TellsAPair level decisions IsThere

  given_there : (d : ℕ) (v : Vector) → IsGiven (Among events) d v → IsGiven IsThere d v
  given_there d v given = record { instance = given.instance; there = (are (Done (record { 0 = d }) given.instance v)).0 given.there }

  given_among : (d : ℕ) (v : Vector) → IsGiven IsThere d v → IsGiven (Among events) d v
  given_among d v given = record { instance = given.instance; there = (are (Done (record { 0 = d }) given.instance v)).1 given.there }

  all_given : (d : ℕ) (v : Vector) → Somewhere (λ x. x ≡ v) (vectors_of events d) ↔ IsGiven IsThere d v
  all_given d v = (
    λ there. given_there d v (given_somewhere d v events there),
    λ given. somewhere_given d v events (given_among d v given),
  )

  condition_tells : (d : ℕ) (entry : DecEntry) (c : ℕ) (place : Place) → slice_get decisions d ≡ Some entry → slice_get entry.conditions c ≡ Some place
      → Everywhere Tells (line_of_condition level (vectors_of events d) d entry c place)
  condition_tells d entry c place known numbered =
      by_pair (shown_pair level (expr_of entry) (vectors_of events d) c) (least_pair_is (size (expr_of entry)) (kind_of level (expr_of entry) c) (vectors_of events d))
    where
      by_pair : (o : Option Pair) → IsLeastPair (size (expr_of entry)) (kind_of level (expr_of entry) c) (vectors_of events d) o
          → Everywhere Tells (pair_line (size (expr_of entry)) (condition_key d entry c place) o)
      by_pair None least = tt
      by_pair (Some p) least = (
        record {
          decision = d;
          entry = entry;
          condition = c;
          place = place;
          pair = p;
          of_decision = known;
          of_condition = numbered;
          stands = refl;
          tells = refl;
          first = (all_given d p.first).0 least.0.has_first;
          second = (all_given d p.second).0 least.0.has_second;
          shows = least.0.passes;
          least = record { vectors = vectors_of events d; all_given = all_given d; least = least };
        },
        tt,
      )

  asked_tell : (d : ℕ) (entry : DecEntry) → slice_get decisions d ≡ Some entry → Everywhere Tells (asked_pairs level (vectors_of events d) d entry)
  asked_tell d entry known =
      by_level (asks_pairs level)
      (everywhere_numbered Tells (line_of_condition level (vectors_of events d) d entry) 0 entry.conditions (λ k place there.
      let same : 0 + k ≡ k = omega arith in
      subst (λ m. Everywhere Tells (line_of_condition level (vectors_of events d) d entry m place)) (sym same) (condition_tells d entry k place known there)))
    where
      by_level : (b : Bool) → Everywhere Tells (paired level (vectors_of events d) d entry) → Everywhere Tells (cond b (paired level (vectors_of events d) d entry) [])
      by_level true all = all
      by_level false all = tt

  -- each line tells a pair of vectors of the events
  pub pairs_told : Everywhere Tells (pair_lines level decisions events)
  pairs_told =
      everywhere_ordered Tells (λ line. line.key) (all_paired level (vectors_of events) decisions)
      (everywhere_numbered Tells (λ d entry. asked_pairs level (vectors_of events d) d entry) 0 decisions (λ k entry there.
      let same : 0 + k ≡ k = omega arith in
      subst (λ m. Everywhere Tells (asked_pairs level (vectors_of events m) m entry)) (sym same) (asked_tell k entry there)))

  -- the condition has a line where two vectors show it to matter
  condition_line : (d : ℕ) (entry : DecEntry) (c : ℕ) (place : Place) (v w : Vector) → IsGiven IsThere d v → IsGiven IsThere d w
      → kind_of level (expr_of entry) c (marks v) (marks w) ≡ true
      → Somewhere (λ (line : PairLine). line.key ≡ condition_key d entry c place) (line_of_condition level (vectors_of events d) d entry c place)
  condition_line d entry c place v w of_v of_w passes =
      by_pair (shown_pair level (expr_of entry) (vectors_of events d) c) (least_pair_is (size (expr_of entry)) (kind_of level (expr_of entry) c) (vectors_of events d))
    where
      by_pair : (o : Option Pair) → IsLeastPair (size (expr_of entry)) (kind_of level (expr_of entry) c) (vectors_of events d) o
          → Somewhere (λ (line : PairLine). line.key ≡ condition_key d entry c place) (pair_line (size (expr_of entry)) (condition_key d entry c place) o)
      by_pair None none =
          let test = kind_of level (expr_of entry) c in
          let vectors = vectors_of events d in
          let row = everywhere-item (λ (x : Vector). Everywhere (λ y. test (marks x) (marks y) ≡ false) vectors) v vectors none ((all_given d v).1 of_v) in
          absurd (clash (test (marks v) (marks w)) passes
          (everywhere-item (λ (y : Vector). test (marks v) (marks y) ≡ false) w vectors row ((all_given d w).1 of_w)))
      by_pair (Some p) least = inl refl

  all_have_lines : asks_pairs level ≡ true → HaveLines level decisions IsThere (pair_lines level decisions events)
  all_have_lines asks = λ d entry c place v w known numbered of_v of_w passes.
      let Is : PairLine → Type 0 = λ line. line.key ≡ condition_key d entry c place in
      let asked : asked_pairs level (vectors_of events d) d entry ≡ paired level (vectors_of events d) d entry =
      cond-true (asks_pairs level) (paired level (vectors_of events d) d entry) [] asks in
      let here : Somewhere Is (paired level (vectors_of events d) d entry) =
      somewhere_numbered Is (line_of_condition level (vectors_of events d) d entry) 0 entry.conditions c c place (omega arith) numbered
      (condition_line d entry c place v w of_v of_w passes) in
      somewhere_ordered Is (λ line. line.key) (all_paired level (vectors_of events) decisions)
      (somewhere_numbered Is (λ d entry. asked_pairs level (vectors_of events d) d entry) 0 decisions d d entry (omega arith) known
      (subst (λ lines. Somewhere Is lines) (sym asked) here))

  -- ---- each condition has one line at most

  line_numbered : (vectors : List Vector) (d : ℕ) (entry : DecEntry) (c : ℕ) (place : Place)
      → Everywhere (λ (line : PairLine). condition_number line.key.subject ≡ c) (line_of_condition level vectors d entry c place)
  line_numbered vectors d entry c place = by_pair (shown_pair level (expr_of entry) vectors c)
    where
      by_pair : (o : Option Pair) → Everywhere (λ (line : PairLine). condition_number line.key.subject ≡ c) (pair_line (size (expr_of entry)) (condition_key d entry c place) o)
      by_pair None = tt
      by_pair (Some p) = (refl, tt)

  line_once : (vectors : List Vector) (d : ℕ) (entry : DecEntry) (c : ℕ) (place : Place) → AreOnce (line_of_condition level vectors d entry c place)
  line_once vectors d entry c place = by_pair (shown_pair level (expr_of entry) vectors c)
    where
      by_pair : (o : Option Pair) → AreOnce (pair_line (size (expr_of entry)) (condition_key d entry c place) o)
      by_pair None = tt
      by_pair (Some p) = (tt, tt)

  line_of_decision : (vectors : List Vector) (d : ℕ) (entry : DecEntry) (c : ℕ) (place : Place)
      → Everywhere (λ (line : PairLine). decision_number line.key.subject ≡ d) (line_of_condition level vectors d entry c place)
  line_of_decision vectors d entry c place = by_pair (shown_pair level (expr_of entry) vectors c)
    where
      by_pair : (o : Option Pair) → Everywhere (λ (line : PairLine). decision_number line.key.subject ≡ d) (pair_line (size (expr_of entry)) (condition_key d entry c place) o)
      by_pair None = tt
      by_pair (Some p) = (refl, tt)

  asked_of_decision : (d : ℕ) (entry : DecEntry) → Everywhere (λ (line : PairLine). decision_number line.key.subject ≡ d) (asked_pairs level (vectors_of events d) d entry)
  asked_of_decision d entry =
      by_level (asks_pairs level)
      (everywhere_numbered (λ (line : PairLine). decision_number line.key.subject ≡ d) (line_of_condition level (vectors_of events d) d entry) 0 entry.conditions
      (λ k place there. line_of_decision (vectors_of events d) d entry (0 + k) place))
    where
      by_level : (b : Bool) → Everywhere (λ (line : PairLine). decision_number line.key.subject ≡ d) (paired level (vectors_of events d) d entry)
          → Everywhere (λ (line : PairLine). decision_number line.key.subject ≡ d) (cond b (paired level (vectors_of events d) d entry) [])
      by_level true all = all
      by_level false all = tt

  asked_once : (d : ℕ) (entry : DecEntry) → AreOnce (asked_pairs level (vectors_of events d) d entry)
  asked_once d entry =
      by_level (asks_pairs level)
      (once_numbered (λ key. condition_number key.subject) (line_of_condition level (vectors_of events d) d entry)
      (λ c place. line_numbered (vectors_of events d) d entry c place) (λ c place. line_once (vectors_of events d) d entry c place) 0 entry.conditions)
    where
      by_level : (b : Bool) → AreOnce (paired level (vectors_of events d) d entry) → AreOnce (cond b (paired level (vectors_of events d) d entry) [])
      by_level true once = once
      by_level false once = tt

  lines_once : AreOnce (pair_lines level decisions events)
  lines_once =
      once_ordered (all_paired level (vectors_of events) decisions)
      (once_numbered (λ key. decision_number key.subject) (λ d entry. asked_pairs level (vectors_of events d) d entry) asked_of_decision asked_once 0 decisions)

-- ---- the end of a report

same : (e : Event) (events : List Event) → Among events e ↔ Among events e
same e events = (λ there. there, λ there. there)

pub pairs_of_events : (level : Level) (decisions : List DecEntry) (events : List Event)
    → Everywhere (TellsAPair level decisions (Among events)) (pair_lines level decisions events)
pairs_of_events level decisions events = pairs_told level decisions events (Among events) (λ e. same e events)

last_of_five : (a b c d e : List ℕ) → a ++ (b ++ (c ++ (d ++ e))) ≡ (a ++ (b ++ (c ++ d))) ++ e
last_of_five a b c d e =
    ap (λ l. a ++ (b ++ l)) (sym (append_assoc c d e)) ∙ ap (λ l. a ++ l) (sym (append_assoc b (c ++ d) e)) ∙ sym (append_assoc a (b ++ (c ++ d)) e)

-- a report at a level that asks for pairs ends in the least ones of the vectors that are there
pub ends_in_pairs : (level : Level) (obligations : Obligations) (traces : ℕ) (events : List Event) (IsThere : Event → Type 0) (names : List (List ℕ))
    → ((e : Event) → Among events e ↔ IsThere e) → asks_pairs level ≡ true
    → EndsInPairs level obligations.decisions IsThere names (report_text level obligations traces events names)
ends_in_pairs level obligations traces events IsThere names are asks =
    let lines = pair_lines level obligations.decisions events in
    let part = pairs_text names (condition_count obligations.decisions) lines in
    let head = head_text level traces in
    let violations = violations_text names obligations.regions (findings level obligations events) in
    let statements = total_text (codes "statements: ") (started_count (is_started events) obligations.statements) (length obligations.statements) in
    let decisions = if asks_outcomes level then total_text (codes "decisions: ") (covered_count (vectors_of events) obligations.decisions) (length obligations.decisions) else [] in
    record {
      before = head ++ (violations ++ (statements ++ decisions));
      lines = lines;
      ends =
          ap (λ l. head ++ (violations ++ (statements ++ (decisions ++ l)))) (cond-true (asks_pairs level) part [] asks)
          ∙ last_of_five head violations statements decisions part;
      each = pairs_told level obligations.decisions events IsThere are;
      all = all_have_lines level obligations.decisions events IsThere are asks;
      once = once_pairs lines (lines_once level obligations.decisions events IsThere are);
    }

pub report_ends_in_pairs : (level : Level) (obligations : Obligations) (traces : ℕ) (events : List Event) (names : List (List ℕ))
    → asks_pairs level ≡ true
    → EndsInPairs level obligations.decisions (Among events) names (report_text level obligations traces events names)
report_ends_in_pairs level obligations traces events names asks =
    ends_in_pairs level obligations traces events (Among events) names (λ e. same e events) asks
