-- Executed instructions stand in the text, and beginnings of transcripts are transcripts.
use Rattle.std.proofs.Common.{◌≡◌, ◌⊎◌, inl, inr, ⊎_elim, ℕ, zero, suc, Bool, true, Option, Some, None, is_some, List, [], ◌∷◌, ◌++◌, refl, sym, ap, subst, ◌∙◌, ℤ, option_and_then, slice_get, drop}
use Rattle.rv_isa.specs.declared.instr.Instr.{Instr}
use Rattle.rv_isa.specs.declared.instr.Instr.TheVariants.{Upper, Jal, Jalr, Branch, Load, Store, Immediate, Shift, Register, Fence, Ecall, Ebreak}
use Rattle.rv_isa.specs.Decoding.{instr_of}
use Rattle.decision_map.specs.Kinds.{kind_of_instr, kind_in, kinds_of_text}
use Rattle.rv_semantics.specs.declared.stepped.Seen.{Seen}
use Rattle.rv_semantics.specs.declared.stepped.Stepped.TheVariants.{Went, Get, Put, End, Trap}
use Rattle.rv_semantics.specs.Layout.{text_word}
use Rattle.rv_semantics.specs.State.{Image, State, given}
use Rattle.rv_semantics.specs.Step.{Answer, fetched, decoded, act, step}
use Rattle.rv_semantics.specs.Run.{Run, after, runs}
use Rattle.rv_semantics.specs.Run.Outcome.{Ended}
use Rattle.cov_base.specs.Lists.{Everywhere}
use Rattle.object_format.specs.declared.object.Object.{Object}
use Rattle.object_format.specs.Checked.{IsSound}
use Rattle.rv_isa.specs.Control.{is_branch, is_transfer}
use Rattle.object_facts.proofs.Steps.{Shows, acts_so}
use Rattle.object_facts.proofs.Runs.{runs_good}
use Rattle.transcript.specs.Pieces.{IsEnded}
use Rattle.transcript.proofs.Joined.{runs_append}
use Rattle.object_facts.specs.Object.{facts_of, ArePlaced, IsTranscript}
use Rattle.rv_machine.specs.Objects.{object_image, object_start, object_run}
use Rattle.object_facts.proofs.Fair.{held}
use Rattle.object_facts.proofs.Words.{kind_there}
use Rattle.object_facts.specs.Kinds.{is_executable}

-- the word at an address of a text can be executed
abbrev Executable : List ℕ → ℕ → Type 0
Executable text pc = is_executable (kind_in (kinds_of_text text) pc) ≡ true

-- an instruction can be executed, or it is a breakpoint
executable : (i : Instr) → (is_executable (kind_of_instr (Some i)) ≡ true) ⊎ (i ≡ Ebreak)
executable (Upper op rd imm) = inl refl
executable (Jal rd halves) = inl refl
executable (Jalr rd rs1 imm) = inl refl
executable (Branch op rs1 rs2 halves) = inl refl
executable (Load op rd rs1 imm) = inl refl
executable (Store op rs1 rs2 imm) = inl refl
executable (Immediate op rd rs1 imm) = inl refl
executable (Shift op rd rs1 by) = inl refl
executable (Register op rd rs1 rs2) = inl refl
executable (Fence rd rs1 imm) = inl refl
executable Ecall = inl refl
executable Ebreak = inr refl

after_placed : (image : Image) (s : State) (input : List ℤ) (t b : Bool) → Executable image.text s.pc → (next : State → List ℤ → Run)
    → ((s' : State) (input' : List ℤ) → ArePlaced image.text (next s' input').entries) → (answer : Answer) → Shows t b s answer
    → ArePlaced image.text (after next answer input).entries
after_placed image s input t b here next rest (Went seen, s') shows =
    (subst (Executable image.text) (sym shows.stands) here, rest s' input)
after_placed image s input t b here next rest (Get seen, s') shows =
    (subst (Executable image.text) (sym shows.stands) here, rest (given s' (slice_get input 0)) (drop 1 input))
after_placed image s input t b here next rest (Put seen word, s') shows =
    (subst (Executable image.text) (sym shows.stands) here, rest s' input)
after_placed image s input t b here next rest (End seen number, s') shows =
    (subst (Executable image.text) (sym shows.0) here, tt)
after_placed image s input t b here next rest (Trap pc why, s') shows = tt

break_placed : (image : Image) (s : State) (input : List ℤ) (next : State → List ℤ → Run) → ArePlaced image.text (after next (act image s Ebreak) input).entries
unfolding act
break_placed image s input next = tt

run_placed : (image : Image) (n : ℕ) (s : State) (input : List ℤ) → ArePlaced image.text (runs image n s input).entries
unfolding runs step
run_placed image zero s input = tt
run_placed image (suc n) s input = by_word (runs image n) (run_placed image n) (text_word image.text s.pc) refl
  where
    by_instr : (next : State → List ℤ → Run) → ((s' : State) (input' : List ℤ) → ArePlaced image.text (next s' input').entries)
        → (word : ℕ) → text_word image.text s.pc ≡ Some word → (found : Option Instr) → instr_of word ≡ found
        → ArePlaced image.text (after next (decoded image s found) input).entries
    by_instr next rest word there None is = tt
    by_instr next rest word there (Some i) is = ⊎_elim
        (λ can. after_placed image s input (is_transfer i) (is_branch i)
        (ap is_executable (kind_there image.text s.pc ∙ ap kind_of_instr (ap (option_and_then instr_of) there ∙ is)) ∙ can)
        next rest (act image s i) (acts_so image s i))
        (λ breaks. subst (λ (j : Instr). ArePlaced image.text (after next (act image s j) input).entries) (sym breaks) (break_placed image s input next))
        (executable i)

    by_word : (next : State → List ℤ → Run) → ((s' : State) (input' : List ℤ) → ArePlaced image.text (next s' input').entries)
        → (found : Option ℕ) → text_word image.text s.pc ≡ found → ArePlaced image.text (after next (fetched image s found) input).entries
    by_word next rest None there = tt
    by_word next rest (Some word) there = by_instr next rest word there (instr_of word) refl

pub run_transcript : (o : Object) (budget : ℕ) (input : List ℤ) → IsSound o → IsTranscript o (object_run o budget input).entries
run_transcript o budget input sound =
    let good = runs_good (facts_of o) (object_image o) budget (object_start o) input (held o sound) in
    record { runs_on = good.runs_on; edges = good.edges; placed = run_placed (object_image o) budget (object_start o) input }

pub run_ended : (o : Object) (budget : ℕ) (input : List ℤ) (number : ℕ) → IsSound o → (object_run o budget input).outcome ≡ Ended number
    → IsEnded (facts_of o) (object_run o budget input).entries
run_ended o budget input number sound is =
    (runs_good (facts_of o) (object_image o) budget (object_start o) input (held o sound)).ended number is

beginning : {X : Type 0} (P : X → Type 0) (xs ys : List X) → Everywhere P (xs ++ ys) → Everywhere P xs
beginning P [] ys all = tt
beginning P (x ∷ xs) ys all = (all.0, beginning P xs ys all.1)

pub transcript_begins : (o : Object) (xs ys : List Seen) → IsTranscript o (xs ++ ys) → IsTranscript o xs
transcript_begins o xs ys all = record {
  runs_on = ((runs_append (facts_of o) xs ys None).0 all.runs_on).0;
  edges = beginning (λ (s : Seen). is_some s.edge ≡ (facts_of o).branches s.pc) xs ys all.edges;
  placed = beginning (λ (s : Seen). Executable o.text s.pc) xs ys all.placed;
}
