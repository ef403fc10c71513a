-- Places that rise within files are places of statements and of decisions as an object has them.
use Rattle.std.proofs.Common.{◌≡◌, ℕ, ◌<◌, ◌≤◌, ◌&&◌, ◌||◌, cond, Bool, true, false, nat_lt, nat_le, nat_eq, List, [], ◌∷◌, length, map, refl, sym, ap, ◌∙◌, subst, arith, ◌⊎◌, inl, inr}
use Rattle.std.specs.List.{list_all}
use Rattle.std.specs.Ordering.{is_lt, is_le, ordering_then}
use Rattle.std.specs.declared.cmp.Ordering.TheVariants.{Less, Equal, Greater}
use Rattle.std.proofs.lemmas.Bool.Decides.{nat_tests}
use Rattle.ada_meaning.specs.Collected.{Standing, after_if, after_while, after_exit, elsewhere, Decision, condition_places}
use Rattle.ada_meaning.specs.Obligations.{letter_of, statement_entry, decision_entry, condition_entry}
use Rattle.cov_base.specs.TextOrder.{precedes}
use Rattle.ada_meaning.specs.Tree.{Label, shape_of, conditions_of}
use Rattle.legal_programs.specs.InText.{Rise}
use Rattle.program_objects.proofs.DecisionEntries.{AreFew, conditions_many, size_positive}
use Rattle.parsed_texts.specs.Places.{IsInFiles, AreInFiles}
use Rattle.cov_base.specs.declared.obligations.DecEntry.{DecEntry}
use Rattle.cov_base.specs.declared.obligations.Place.{Place}
use Rattle.cov_base.specs.declared.obligations.StmtEntry.{StmtEntry}
use Rattle.cov_base.specs.declared.position.Pos.{Pos}
use Rattle.cov_base.specs.Lists.{Everywhere}
use Rattle.program_objects.specs.Listed.{entry_at}
use Rattle.cov_base.specs.TextOrder.{is_followed, rise}
use Rattle.object_format.specs.Fields.{is_counted, is_statement, statement_key, are_statements, is_letter, is_decision, decision_key, are_decisions}
use Rattle.object_format.specs.Order.{is_below, is_at_most}
use Rattle.spelling.specs.Checks.{rising, rising_after}

both_hold : (a b : Bool) → a ≡ true → b ≡ true → (a && b) ≡ true
both_hold a b p q = rw (p, q) refl

left_holds : (a b : Bool) → (a && b) ≡ true → a ≡ true
left_holds true b both = refl
left_holds false b both = both

right_holds : (a b : Bool) → (a && b) ≡ true → b ≡ true
right_holds true b both = both
right_holds false b both = absurd (let x : ⊥ = cc in x)

-- three numbers each, by the tests of their pairs: less and equal
first_below : (f g l m c d : Bool) → (f || (g && (l || (m && c)))) ≡ true
    → is_lt (ordering_then (cond f Less (cond g Equal Greater)) (ordering_then (cond l Less (cond m Equal Greater)) (ordering_then (cond c Less (cond d Equal Greater)) Equal))) ≡ true
first_below true g l m c d before = refl
first_below false true true m c d before = refl
first_below false true false true true d before = refl
first_below false true false true false d before = absurd (let x : ⊥ = cc in x)
first_below false true false false c d before = absurd (let x : ⊥ = cc in x)
first_below false false l m c d before = absurd (let x : ⊥ = cc in x)

-- a place that comes before another has the lesser key
preceding_is_below : (a b : Pos) → precedes a b ≡ true → is_below (statement_key (entry_at a)) (statement_key (entry_at b)) ≡ true
preceding_is_below a b before =
    first_below (nat_lt a.file b.file) (nat_eq a.file b.file) (nat_lt a.line b.line) (nat_eq a.line b.line) (nat_lt a.col b.col) (nat_eq a.col b.col) before

-- the entries of statements are those of their places
pub entries_at : (ls : List Label) → map statement_entry ls ≡ map entry_at (map (λ (l : Label). l.place) ls)
entries_at [] = refl
entries_at (l ∷ ls) = ap (λ es. statement_entry l ∷ es) (entries_at ls)

abbrev key_rises : StmtEntry → StmtEntry → Bool
key_rises one next = is_below (statement_key one) (statement_key next)

keys_rise_after : (p : Pos) (ps : List Pos) → (is_followed p ps && rise ps) ≡ true → rising_after key_rises (entry_at p) (map entry_at ps) ≡ true
keys_rise_after p [] rises = refl
keys_rise_after p (q ∷ qs) rises =
    both_hold (key_rises (entry_at p) (entry_at q)) (rising_after key_rises (entry_at q) (map entry_at qs))
    (preceding_is_below p q (left_holds (precedes p q) (rise (q ∷ qs)) rises))
    (keys_rise_after q qs (right_holds (precedes p q) (rise (q ∷ qs)) rises))

keys_rise : (ps : List Pos) → rise ps ≡ true → rising key_rises (map entry_at ps) ≡ true
keys_rise [] rises = refl
keys_rise (p ∷ ps) rises = keys_rise_after p ps rises

below_holds : (a b : ℕ) → a < b → nat_lt a b ≡ true
below_holds a b less = grind (arith, nat_tests)

entry_counted : (files : ℕ) (p : Pos) → IsInFiles files p → is_statement files (entry_at p) ≡ true
entry_counted files p within =
    both_hold (nat_lt p.file files) (nat_lt 0 p.line && nat_lt 0 p.col) (below_holds p.file files within.0)
    (both_hold (nat_lt 0 p.line) (nat_lt 0 p.col) (below_holds 0 p.line within.1) (below_holds 0 p.col within.2))

entries_counted : (files : ℕ) (ps : List Pos) → AreInFiles files ps → list_all (is_statement files) (map entry_at ps) ≡ true
entries_counted files [] within = refl
entries_counted files (p ∷ ps) within =
    both_hold (is_statement files (entry_at p)) (list_all (is_statement files) (map entry_at ps)) (entry_counted files p within.0) (entries_counted files ps within.1)

pub places_are_statements : (files : ℕ) (places : List Pos) → rise places ≡ true → AreInFiles files places → are_statements files (map entry_at places) ≡ true
places_are_statements files places rises within =
    both_hold (list_all (is_statement files) (map entry_at places)) (rising key_rises (map entry_at places)) (entries_counted files places within) (keys_rise places rises)

-- decisions

-- two numbers: the first is less, or they are the same, or the second is less
three_ways : (m n : ℕ) → (m < n) ⊎ ((m ≡ n) ⊎ (n < m))
three_ways m n = by (nat_lt m n) refl (nat_lt n m) refl
  where
    by : (b : Bool) → nat_lt m n ≡ b → (c : Bool) → nat_lt n m ≡ c → (m < n) ⊎ ((m ≡ n) ⊎ (n < m))
    by true less c more = inl (grind (arith, nat_tests))
    by false less true more = inr (inr (grind (arith, nat_tests)))
    by false less false more = inr (inl (grind (arith, nat_tests)))

is_less : (m n : ℕ) → m < n → nat_lt m n ≡ true
is_less m n less = grind (arith, nat_tests)

is_same : (m n : ℕ) → m ≡ n → nat_eq m n ≡ true
is_same m n same = grind (arith, nat_tests)

or_holds : (a b : Bool) → b ≡ true → (a || b) ≡ true
or_holds true b holds = refl
or_holds false b holds = holds

neither_holds : (a b : Bool) → (a || b) ≡ false → (a ≡ false) × (b ≡ false)
neither_holds true b none = absurd (let x : ⊥ = cc none in x)
neither_holds false b none = (refl, none)

-- where the second of two keys is not less, by their first numbers and the others, the first is at most as large
one_number : (m n : ℕ) (before others : Bool) → (nat_lt n m || (nat_eq n m && before)) ≡ false → (before ≡ false → others ≡ true) → (nat_lt m n || (nat_eq m n && others)) ≡ true
one_number m n before others none rest = by (three_ways m n)
  where
    by : (m < n) ⊎ ((m ≡ n) ⊎ (n < m)) → (nat_lt m n || (nat_eq m n && others)) ≡ true
    by (inl less) = ap (λ b. b || (nat_eq m n && others)) (is_less m n less)
    by (inr (inl same)) =
        or_holds (nat_lt m n) (nat_eq m n && others)
        (both_hold (nat_eq m n) others (is_same m n same)
        (rest (sym (ap (λ b. b && before) (is_same n m (sym same))) ∙ (neither_holds (nat_lt n m) (nat_eq n m && before) none).1)))
    by (inr (inr more)) = absurd (let x : ⊥ = cc (is_less n m more, (neither_holds (nat_lt n m) (nat_eq n m && before) none).0) in x)

last_number : (m n : ℕ) → nat_lt n m ≡ false → (nat_lt m n || nat_eq m n) ≡ true
last_number m n none = by (three_ways m n)
  where
    by : (m < n) ⊎ ((m ≡ n) ⊎ (n < m)) → (nat_lt m n || nat_eq m n) ≡ true
    by (inl less) = ap (λ b. b || nat_eq m n) (is_less m n less)
    by (inr (inl same)) = or_holds (nat_lt m n) (nat_eq m n) (is_same m n same)
    by (inr (inr more)) = absurd (let x : ⊥ = cc (is_less n m more, none) in x)

first_at_most : (f g l m c d : Bool) → (f || (g && (l || (m && (c || d))))) ≡ true
    → is_le (ordering_then (cond f Less (cond g Equal Greater)) (ordering_then (cond l Less (cond m Equal Greater)) (ordering_then (cond c Less (cond d Equal Greater)) Equal))) ≡ true
first_at_most true g l m c d before = refl
first_at_most false true true m c d before = refl
first_at_most false true false true true d before = refl
first_at_most false true false true false true before = refl
first_at_most false true false true false false before = absurd (let x : ⊥ = cc in x)
first_at_most false true false false c d before = absurd (let x : ⊥ = cc in x)
first_at_most false false l m c d before = absurd (let x : ⊥ = cc in x)

not_behind : (g h : Decision) → precedes h.label.place g.label.place ≡ false → is_at_most (decision_key (decision_entry g)) (decision_key (decision_entry h)) ≡ true
not_behind g h none =
    let a = g.label.place in
    let b = h.label.place in
    first_at_most (nat_lt a.file b.file) (nat_eq a.file b.file) (nat_lt a.line b.line) (nat_eq a.line b.line) (nat_lt a.col b.col) (nat_eq a.col b.col)
    (one_number a.file b.file (nat_lt b.line a.line || (nat_eq b.line a.line && nat_lt b.col a.col)) (nat_lt a.line b.line || (nat_eq a.line b.line && (nat_lt a.col b.col || nat_eq a.col b.col))) none
    (λ later. one_number a.line b.line (nat_lt b.col a.col) (nat_lt a.col b.col || nat_eq a.col b.col) later (last_number a.col b.col)))

abbrev stays_or_rises : DecEntry → DecEntry → Bool
stays_or_rises one next = is_at_most (decision_key one) (decision_key next)

decisions_rise_after : (h : Decision) (hs : List Decision) → Rise (map (λ g. g.label.place) (h ∷ hs)) → rising_after stays_or_rises (decision_entry h) (map decision_entry hs) ≡ true
decisions_rise_after h [] ordered = refl
decisions_rise_after h (g ∷ hs) ordered =
    both_hold (stays_or_rises (decision_entry h) (decision_entry g)) (rising_after stays_or_rises (decision_entry g) (map decision_entry hs))
    (not_behind h g ordered.0) (decisions_rise_after g hs ordered.1)

decisions_rise : (hs : List Decision) → Rise (map (λ h. h.label.place) hs) → rising stays_or_rises (map decision_entry hs) ≡ true
decisions_rise [] ordered = refl
decisions_rise (h ∷ hs) ordered = decisions_rise_after h hs ordered

-- the conditions of each are in the files
abbrev AreConditionsIn : (files : ℕ) → List (List Pos) → Type 0
AreConditionsIn files lists = Everywhere (AreInFiles files) lists

letters : (s : Standing) → is_letter (letter_of s) ≡ true
letters after_if = refl
letters after_while = refl
letters after_exit = refl
letters elsewhere = refl

conditions_counted : (files : ℕ) (ps : List Pos) → AreInFiles files ps → list_all (λ (x : Place). is_counted x.line x.column) (map condition_entry ps) ≡ true
conditions_counted files [] within = refl
conditions_counted files (p ∷ ps) within =
    both_hold (nat_lt 0 p.line && nat_lt 0 p.col) (list_all (λ (x : Place). is_counted x.line x.column) (map condition_entry ps))
    (both_hold (nat_lt 0 p.line) (nat_lt 0 p.col) (below_holds 0 p.line within.0.1) (below_holds 0 p.col within.0.2)) (conditions_counted files ps within.1)

some_and_few : (n : ℕ) → 0 < n → n ≤ 32 → (nat_lt 0 n ≡ true) × (nat_le n 32 ≡ true)
some_and_few n some few = (grind (arith, nat_tests), grind (arith, nat_tests))

decision_counted : (files statements : ℕ) (h : Decision) → conditions_of h.test ≤ 32 → h.statement < statements → IsInFiles files h.label.place → AreInFiles files (condition_places h.test)
    → is_decision files statements (decision_entry h) ≡ true
decision_counted files statements h few held within conditions =
    let p = h.label.place in
    let n = length (decision_entry h).conditions in
    let many = conditions_many h in
    let counted = some_and_few n (omega (arith, many, size_positive (shape_of h.test))) (omega (arith, many, few)) in
    both_hold _ _ (both_hold _ _ (both_hold _ _ (both_hold _ _ (both_hold _ _ (both_hold (nat_lt h.statement statements) (nat_lt p.file files) (below_holds h.statement statements held) (below_holds p.file files within.0))
    (both_hold (nat_lt 0 p.line) (nat_lt 0 p.col) (below_holds 0 p.line within.1) (below_holds 0 p.col within.2)))
    (letters h.standing)) counted.0) counted.1) (conditions_counted files (condition_places h.test) conditions)

decisions_counted : (files statements : ℕ) (hs : List Decision) → AreFew hs → Everywhere (λ h. h.statement < statements) hs
    → AreInFiles files (map (λ h. h.label.place) hs) → AreConditionsIn files (map (λ h. condition_places h.test) hs) → list_all (is_decision files statements) (map decision_entry hs) ≡ true
decisions_counted files statements [] few held within conditions = refl
decisions_counted files statements (h ∷ hs) few held within conditions =
    both_hold (is_decision files statements (decision_entry h)) (list_all (is_decision files statements) (map decision_entry hs))
    (decision_counted files statements h few.0 held.0 within.0 conditions.0) (decisions_counted files statements hs few.1 held.1 within.1 conditions.1)

pub decisions_stand : (files statements : ℕ) (hs : List Decision) (places : List Pos) (conditions : List (List Pos)) → map (λ h. h.label.place) hs ≡ places
    → map (λ h. condition_places h.test) hs ≡ conditions → AreFew hs → Everywhere (λ h. h.statement < statements) hs
    → Rise places → AreInFiles files places → AreConditionsIn files conditions → are_decisions files statements (map decision_entry hs) ≡ true
decisions_stand files statements hs places conditions at with_conditions few held ordered within conditions_within =
    both_hold (list_all (is_decision files statements) (map decision_entry hs)) (rising stays_or_rises (map decision_entry hs))
    (decisions_counted files statements hs few held (subst (λ ps. AreInFiles files ps) (sym at) within)
    (subst (λ lists. AreConditionsIn files lists) (sym with_conditions) conditions_within))
    (decisions_rise hs (subst (λ ps. Rise ps) (sym at) ordered))
