-- The laws of runs, by induction on the budget.
use Rattle.std.proofs.Common.{◌≡◌, ℕ, zero, suc, ◌+◌, ℤ, List, [], ◌∷◌, ◌++◌, length, reverse, slice_get, drop, refl, sym, ap, ◌∙◌, arith, append_assoc}
use Rattle.std.proofs.lemmas.List.{append-nil, reverse-append}
use Rattle.rv_semantics.specs.declared.stepped.Seen.{Seen}
use Rattle.rv_semantics.specs.declared.stepped.Stepped.TheVariants.{Went, Get, Put, End, Trap}
use Rattle.rv_semantics.specs.State.{State, given}
use Rattle.rv_semantics.specs.Step.{Answer, step}
use Rattle.rv_semantics.specs.Run.{Outcome, Run, before, after, runs}
use Rattle.rv_semantics.specs.Run.Outcome.{Ended, Trapped, Cut}
use Rattle.rv_semantics.specs.Past.{Config, Execution, turned, continued, exec, run_of}
use Rattle.rv_semantics.specs.Laws.{IsOver, Begins, StaysOver, HasOneEnding, BeginsLonger, IsCounted, CountsInstructions, CarriesTheRun}

-- where the rest of a run is over, more budget changes nothing

after_stays : (next longer : State → List ℤ → Run) →
    ((s : State) (input : List ℤ) → IsOver (next s input).outcome → longer s input ≡ next s input) →
    (a : Answer) (input : List ℤ) → IsOver (after next a input).outcome →
    after longer a input ≡ after next a input
after_stays next longer same (Went seen, s) input is_over = ap (before (seen ∷ []) []) (same s input is_over)
after_stays next longer same (Get seen, s) input is_over =
    ap (before (seen ∷ []) []) (same (given s (slice_get input 0)) (drop 1 input) is_over)
after_stays next longer same (Put seen word, s) input is_over =
    ap (before (seen ∷ []) (word ∷ [])) (same s input is_over)
after_stays next longer same (End seen number, s) input is_over = refl
after_stays next longer same (Trap pc why, s) input is_over = refl

pub stays_over : StaysOver
unfolding runs
stays_over image zero more s input is_over = absurd is_over
stays_over image (suc n) more s input is_over =
    let e : suc n + more ≡ suc (n + more) = omega arith in
    rw e (after_stays (runs image n) (runs image (n + more)) (stays_over image n more) (step image s) input is_over)

pub one_ending : HasOneEnding
one_ending image n m s input n_over m_over =
    let e : n + m ≡ m + n = omega arith in
    sym (stays_over image n m s input n_over)
    ∙ (ap (λ k. runs image k s input) e ∙ stays_over image m n s input m_over)

-- a run is the beginning of another, in what it shows

abbrev BeginsRun : Run → Run → Type 0
BeginsRun r longer = Begins r.entries longer.entries × Begins r.output longer.output

begins_same : {X : Type 0} (xs : List X) → Begins xs xs
begins_same xs = ([], append-nil xs)

begins_after : {X : Type 0} (front xs ys : List X) → Begins xs ys → Begins (front ++ xs) (front ++ ys)
begins_after front xs ys (rest, is) = (rest, append_assoc front xs rest ∙ ap (λ zs. front ++ zs) is)

after_begins : (next longer : State → List ℤ → Run) →
    ((s : State) (input : List ℤ) → BeginsRun (next s input) (longer s input)) →
    (a : Answer) (input : List ℤ) → BeginsRun (after next a input) (after longer a input)
after_begins next longer begins (Went seen, s) input =
    let (entries, output) = begins s input in
    (begins_after (seen ∷ []) _ _ entries, output)
after_begins next longer begins (Get seen, s) input =
    let (entries, output) = begins (given s (slice_get input 0)) (drop 1 input) in
    (begins_after (seen ∷ []) _ _ entries, output)
after_begins next longer begins (Put seen word, s) input =
    let (entries, output) = begins s input in
    (begins_after (seen ∷ []) _ _ entries, begins_after (word ∷ []) _ _ output)
after_begins next longer begins (End seen number, s) input = (begins_same _, begins_same _)
after_begins next longer begins (Trap pc why, s) input = (begins_same _, begins_same _)

pub begins_longer : BeginsLonger
unfolding runs
begins_longer image zero more s input = ((_, refl), (_, refl))
begins_longer image (suc n) more s input =
    let e : suc n + more ≡ suc (n + more) = omega arith in
    rw e (after_begins (runs image n) (runs image (n + more)) (begins_longer image n more) (step image s) input)

-- how many instructions are executed

counted_more : (budget count : ℕ) (outcome : Outcome) →
    IsCounted budget count outcome → IsCounted (suc budget) (suc count) outcome
counted_more budget count (Ended number) counted = (omega arith, omega arith)
counted_more budget count (Trapped pc why) counted = omega arith
counted_more budget count Cut counted = omega arith

after_counts : (n : ℕ) (next : State → List ℤ → Run) →
    ((s : State) (input : List ℤ) → IsCounted n (length (next s input).entries) (next s input).outcome) →
    (a : Answer) (input : List ℤ) →
    IsCounted (suc n) (length (after next a input).entries) (after next a input).outcome
after_counts n next counted (Went seen, s) input = counted_more n _ (next s input).outcome (counted s input)
after_counts n next counted (Get seen, s) input =
    let s' = given s (slice_get input 0) in
    let rest = drop 1 input in
    counted_more n _ (next s' rest).outcome (counted s' rest)
after_counts n next counted (Put seen word, s) input = counted_more n _ (next s input).outcome (counted s input)
after_counts n next counted (End seen number, s) input = (omega arith, omega arith)
after_counts n next counted (Trap pc why, s) input = omega arith

pub counts_instructions : CountsInstructions
unfolding runs
counts_instructions image zero s input = refl
counts_instructions image (suc n) s input =
    after_counts n (runs image n) (counts_instructions image n) (step image s) input

-- a machine that carries its past

abbrev the_run : List Seen → List ℤ → Outcome → Run
the_run entries output outcome = record { entries = entries; output = output; outcome = outcome }

run_alike : (es fs : List Seen) (os ps : List ℤ) (outcome : Outcome) → es ≡ fs → os ≡ ps →
    the_run es os outcome ≡ the_run fs ps outcome
run_alike es fs os ps outcome e o = λ i. record { entries = e i; output = o i; outcome = outcome }

latest_last : (seen : Seen) (past entries : List Seen) →
    reverse (seen ∷ past) ++ entries ≡ reverse past ++ (seen ∷ entries)
latest_last seen past entries =
    ap (λ es. es ++ entries) (reverse-append (seen ∷ []) past) ∙ append_assoc (reverse past) (seen ∷ []) entries

seen_first : (seen : Seen) (past : List Seen) (output : List ℤ) (run : Run) →
    before (reverse (seen ∷ past)) output run ≡ before (reverse past) output (before (seen ∷ []) [] run)
seen_first seen past output run =
    run_alike _ _ _ _ run.outcome (latest_last seen past run.entries) refl

put_first : (seen : Seen) (past : List Seen) (output : List ℤ) (word : ℤ) (run : Run) →
    before (reverse (seen ∷ past)) (output ++ word ∷ []) run ≡
    before (reverse past) output (before (seen ∷ []) (word ∷ []) run)
put_first seen past output word run =
    run_alike _ _ _ _ run.outcome (latest_last seen past run.entries) (append_assoc output (word ∷ []) run.output)

turned_carries : (next : Config → Execution) (later : State → List ℤ → Run) →
    ((c : Config) → run_of (next c) ≡ before (reverse c.past) c.output (later c.state c.input)) →
    (a : Answer) (c : Config) →
    run_of (continued next (turned a c)) ≡ before (reverse c.past) c.output (after later a c.input)
turned_carries next later carries (Went seen, s) c =
    carries (record { state = s; input = c.input; output = c.output; past = seen ∷ c.past })
    ∙ seen_first seen c.past c.output (later s c.input)
turned_carries next later carries (Get seen, s) c =
    let s' = given s (slice_get c.input 0) in
    let rest = drop 1 c.input in
    carries (record { state = s'; input = rest; output = c.output; past = seen ∷ c.past })
    ∙ seen_first seen c.past c.output (later s' rest)
turned_carries next later carries (Put seen word, s) c =
    carries (record { state = s; input = c.input; output = c.output ++ word ∷ []; past = seen ∷ c.past })
    ∙ put_first seen c.past c.output word (later s c.input)
turned_carries next later carries (End seen number, s) c =
    run_alike _ _ _ _ (Ended number) (reverse-append (seen ∷ []) c.past) (sym (append-nil c.output))
turned_carries next later carries (Trap pc why, s) c =
    run_alike _ _ _ _ (Trapped pc why) (sym (append-nil (reverse c.past))) (sym (append-nil c.output))

pub carries_the_run : CarriesTheRun
unfolding exec runs
carries_the_run image zero c =
    run_alike _ _ _ _ Cut (sym (append-nil (reverse c.past))) (sym (append-nil c.output))
carries_the_run image (suc n) c =
    turned_carries (exec image n) (runs image n) (carries_the_run image n) (step image c.state) c
