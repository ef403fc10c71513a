-- The transcript of a run, by induction on the budget.
use Rattle.std.proofs.Common.{◌≡◌, ℕ, zero, suc, ◌+◌, ◌-◌, ◌*◌, ◌/◌, ◌%◌, ◌^◌, ◌<◌, ◌≤◌, Bool, true, false, cond, not, ◌||◌, nat_lt, nat_eq, List, [], ◌∷◌, length, Option, Some, None, is_some, slice_get, drop, refl, sym, ap, subst, ◌∙◌, arith, ℤ, option_and_then, ltb-false, eqb-true, mod-eq_of_lt}
use Rattle.std.proofs.lemmas.Option.{slice_get_within}
use Rattle.rv_isa.specs.declared.instr.Instr.{Instr}
use Rattle.rv_isa.specs.Decoding.{instr_of}
use Rattle.rv_semantics.specs.declared.stepped.Seen.{Seen}
use Rattle.rv_semantics.specs.declared.stepped.TrapWhy.{TrapWhy}
use Rattle.rv_semantics.specs.declared.stepped.TrapWhy.TheVariants.{Outside, BadWord}
use Rattle.rv_semantics.specs.declared.stepped.Stepped.TheVariants.{Went, Get, Put, End, Trap}
use Rattle.rv_semantics.specs.Layout.{text_start, text_word}
use Rattle.rv_semantics.specs.State.{Image, State, given}
use Rattle.rv_semantics.specs.Step.{Answer, next_pc, fetched, decoded, act, step}
use Rattle.rv_semantics.specs.Run.{Run, before, after, runs}
use Rattle.rv_semantics.specs.Run.Outcome.{Ended, Trapped}
use Rattle.transcript.specs.Facts.{Facts}
use Rattle.transcript.specs.Pieces.{Piece, lengthened, open_after, left_open, GoesOn, RunsOnFrom}
use Rattle.transcript.specs.Trace.{HasEdges}
use Rattle.rv_isa.specs.Control.{is_branch, is_transfer, holds}
use Rattle.object_facts.specs.Held.{instruction_at, AreHeld}
use Rattle.object_facts.proofs.Steps.{GoesOn as StepsOn, Shows, acts_so}

-- what is promised of a run that goes on with an open piece
pub record IsGood (o : Facts) (p : Option Piece) (r : Run) : Type 0 where
  pub runs_on : RunsOnFrom o p r.entries
  pub edges : HasEdges o r.entries
  pub ended : (number : ℕ) → r.outcome ≡ Ended number → left_open o p r.entries ≡ None

-- the piece that is open after an instruction goes on with the next one
next_goes_on : (o : Facts) (p : Option Piece) (pc next : ℕ) (t : Bool) → (t ≡ false → next ≡ pc + 4) → GoesOn (cond t None (Some (lengthened p pc))) next
next_goes_on o p pc next true on = tt
next_goes_on o None pc next false on = on refl
next_goes_on o (Some q) pc next false on = on refl

-- an instruction before a good run
with_entry : (o : Facts) (p : Option Piece) (seen : Seen) (output : List ℤ) (r : Run) → GoesOn p seen.pc → seen.pc % 4 ≡ 0 → is_some seen.edge ≡ o.branches seen.pc
    → IsGood o (open_after o p seen.pc) r → IsGood o p (before (seen ∷ []) output r)
with_entry o p seen output r goes aligned edge good =
    record { runs_on = (goes, aligned, good.runs_on); edges = (edge, good.edges); ended = good.ended }

-- a good run after an instruction that shows what it should
onward : (o : Facts) (p : Option Piece) (s s' : State) (t b : Bool) (seen : Seen) (output : List ℤ) (r : Run) → o.transfers s.pc ≡ t → o.branches s.pc ≡ b → s.pc % 4 ≡ 0
    → next_pc s ≡ s.pc + 4 → GoesOn p s.pc → StepsOn t b s s' seen → ((q : Option Piece) → GoesOn q s'.pc → IsGood o q r) → IsGood o p (before (seen ∷ []) output r)
onward o p s s' t b seen output r transfers branches aligned on goes shows good =
    with_entry o p seen output r (subst (GoesOn p) (sym shows.stands) goes) (subst (λ (pc : ℕ). pc % 4 ≡ 0) (sym shows.stands) aligned)
    (shows.edge ∙ sym branches ∙ ap o.branches (sym shows.stands))
    (good (open_after o p seen.pc) (subst (λ (pc : ℕ). GoesOn (open_after o p pc) s'.pc) (sym shows.stands)
    (subst (λ (c : Bool). GoesOn (cond c None (Some (lengthened p s.pc))) s'.pc) (sym transfers) (next_goes_on o p s.pc s'.pc t (λ off. shows.next off ∙ on)))))

same_pc : (s : State) (word : Option ℤ) → s.pc ≡ (given s word).pc
unfolding given
same_pc s None = refl
same_pc s (Some word) = refl

after_good : (o : Facts) (p : Option Piece) (s : State) (input : List ℤ) (t b : Bool) → o.transfers s.pc ≡ t → o.branches s.pc ≡ b → s.pc % 4 ≡ 0 → next_pc s ≡ s.pc + 4
    → GoesOn p s.pc → (next : State → List ℤ → Run) → ((s' : State) (input' : List ℤ) (q : Option Piece) → GoesOn q s'.pc → IsGood o q (next s' input'))
    → (answer : Answer) → Shows t b s answer → IsGood o p (after next answer input)
after_good o p s input t b transfers branches aligned on goes next good (Went seen, s') shows =
    onward o p s s' t b seen [] (next s' input) transfers branches aligned on goes shows (good s' input)
after_good o p s input t b transfers branches aligned on goes next good (Get seen, s') shows =
    onward o p s s' t b seen [] (next (given s' (slice_get input 0)) (drop 1 input)) transfers branches aligned on goes shows
    (λ q here. good (given s' (slice_get input 0)) (drop 1 input) q (subst (GoesOn q) (same_pc s' (slice_get input 0)) here))
after_good o p s input t b transfers branches aligned on goes next good (Put seen word, s') shows =
    onward o p s s' t b seen (word ∷ []) (next s' input) transfers branches aligned on goes shows (good s' input)
after_good o p s input t b transfers branches aligned on goes next good (End seen number, s') shows =
    let moves : o.transfers seen.pc ≡ true = ap o.transfers shows.0 ∙ transfers ∙ shows.2 in
    record {
      runs_on = (subst (GoesOn p) (sym shows.0) goes, subst (λ (pc : ℕ). pc % 4 ≡ 0) (sym shows.0) aligned, tt);
      edges = (shows.1 ∙ sym branches ∙ ap o.branches (sym shows.0), tt);
      ended = λ n is. ap (λ (c : Bool). cond c None (Some (lengthened p seen.pc))) moves;
    }
after_good o p s input t b transfers branches aligned on goes next good (Trap pc why, s') shows =
    record { runs_on = tt; edges = tt; ended = λ n is. absurd (cc is) }

-- a step that traps before an instruction is found
traps_good : (o : Facts) (p : Option Piece) (pc : ℕ) (why : TrapWhy) → IsGood o p (record { entries = []; output = []; outcome = Trapped pc why })
traps_good o p pc why = record { runs_on = tt; edges = tt; ended = λ n is. absurd (cc is) }

-- where a text has a word
pub record HasWord (text : List ℕ) (pc : ℕ) : Type 0 where
  pub aligned : pc % 4 ≡ 0
  pub within : pc < text_start + 4 * length text

word_there : (text : List ℕ) (pc word : ℕ) → text_word text pc ≡ Some word → HasWord text pc
word_there text pc word is = by_place (nat_lt pc text_start) refl (nat_eq (pc % 4) 0) refl is
  where
    by_place : (a : Bool) → nat_lt pc text_start ≡ a → (b : Bool) → nat_eq (pc % 4) 0 ≡ b
        → option_and_then (λ place. slice_get text place) (cond (a || not b) None (Some ((pc - text_start) / 4))) ≡ Some word → HasWord text pc
    by_place true first b second e = absurd (cc e)
    by_place false first false second e = absurd (cc e)
    by_place false first true second e =
        let from : text_start ≤ pc = ltb-false pc text_start first in
        let multiple : pc % 4 ≡ 0 = eqb-true (pc % 4) 0 second in
        let place : (pc - text_start) / 4 < length text = slice_get_within text ((pc - text_start) / 4) word e in
        record { aligned = multiple; within = omega (arith, from, multiple, place) }

good_run : (o : Facts) (image : Image) → AreHeld o image → (n : ℕ) (s : State) (input : List ℤ) (p : Option Piece) → GoesOn p s.pc → IsGood o p (runs image n s input)
unfolding runs step
good_run o image held zero s input p goes = record { runs_on = tt; edges = tt; ended = λ n is. absurd (cc is) }
good_run o image held (suc n) s input p goes =
    by_word (runs image n) (good_run o image held n) (text_word image.text s.pc) refl
  where
    by_instr : (next : State → List ℤ → Run) → ((s' : State) (input' : List ℤ) (q : Option Piece) → GoesOn q s'.pc → IsGood o q (next s' input'))
        → (word : ℕ) → text_word image.text s.pc ≡ Some word → (found : Option Instr) → instr_of word ≡ found → IsGood o p (after next (decoded image s found) input)
    by_instr next good word there None is = traps_good o p s.pc BadWord
    by_instr next good word there (Some i) is =
        let has = word_there image.text s.pc word there in
        let here : instruction_at image s.pc ≡ Some i = ap (option_and_then instr_of) there ∙ is in
        let below : s.pc + 4 < 2 ^ 32 = omega (arith, has.within, held.fits) in
        let on : next_pc s ≡ s.pc + 4 = mod-eq_of_lt below in
        after_good o p s input (is_transfer i) (is_branch i) (held.transfers s.pc ∙ ap (holds is_transfer) here) (held.branches s.pc ∙ ap (holds is_branch) here) has.aligned on goes
        next good (act image s i) (acts_so image s i)

    by_word : (next : State → List ℤ → Run) → ((s' : State) (input' : List ℤ) (q : Option Piece) → GoesOn q s'.pc → IsGood o q (next s' input'))
        → (found : Option ℕ) → text_word image.text s.pc ≡ found → IsGood o p (after next (fetched image s found) input)
    by_word next good None there = traps_good o p s.pc Outside
    by_word next good (Some word) there = by_instr next good word there (instr_of word) refl

pub runs_good : (o : Facts) (image : Image) (n : ℕ) (s : State) (input : List ℤ) → AreHeld o image → IsGood o None (runs image n s input)
runs_good o image n s input held = good_run o image held n s input None tt
