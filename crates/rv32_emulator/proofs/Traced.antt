-- What a run that ended leaves is enough for its trace.
use Rattle.std.proofs.Common.{◌≡◌, ℕ, ◌≤◌, List, length, sym, subst, arith}
use Rattle.std.specs.Prelude.{ℤ, zero, suc, slice_get, drop}
use Rattle.object_facts.proofs.Placed.{run_ended}
use Rattle.object_facts.specs.Object.{facts_of}
use Rattle.object_format.specs.Checked.{IsSound}
use Rattle.object_format.specs.declared.object.Object.{Object}
use Rattle.rv_machine.specs.Objects.{object_image, object_start, object_run}
use Rattle.rv_semantics.specs.declared.stepped.Seen.{Seen}
use Rattle.rv_semantics.specs.declared.stepped.Stepped.TheVariants.{Went, Get, Put, End, Trap}
use Rattle.rv_semantics.specs.Run.{Run, after, runs}
use Rattle.rv_semantics.specs.Run.Outcome.{Ended}
use Rattle.rv_semantics.specs.State.{Image, State, given}
use Rattle.rv_semantics.specs.Step.{Answer, step}
use Rattle.trace_record.proofs.Histories.{short_history}
use Rattle.trace_record.specs.Recorded.{Recorded, Records}
use Rattle.transcript.specs.Pieces.{IsEnded}
use Rattle.rv32_emulator.specs.Ran.{HoldsAll}

-- the recorder holds a transcript whose last instruction is a control transfer
pub holds_ended : (o : Object) (budget : ℕ) (input : List ℤ) (number : ℕ) (r : Recorded) (first out : List ℤ) → IsSound o → r.object ≡ o
    → (object_run o budget input).outcome ≡ Ended number → HoldsAll (object_run o budget input) r first out
    → (ss : List Seen) × Records r ss × IsEnded (facts_of r.object) ss
holds_ended o budget input number r first out sound same ended all = (
  (object_run o budget input).entries,
  all.recorded,
  subst (λ (x : Object). IsEnded (facts_of x) (object_run o budget input).entries) (sym same) (run_ended o budget input number sound ended),
)

short_after : (n : ℕ) (next : State → List ℤ → Run) → ((s : State) (input : List ℤ) → length (next s input).entries ≤ n) → (answer : Answer) (input : List ℤ)
    → length (after next answer input).entries ≤ suc n
short_after n next short (Went seen, s) input = omega (arith, short s input)
short_after n next short (Get seen, s) input = omega (arith, short (given s (slice_get input 0)) (drop 1 input))
short_after n next short (Put seen word, s) input = omega (arith, short s input)
short_after n next short (End seen number, s) input = omega arith
short_after n next short (Trap pc why, s) input = omega arith

-- a run executes at most as many instructions as its budget has
pub short_run : (image : Image) (budget : ℕ) (s : State) (input : List ℤ) → length (runs image budget s input).entries ≤ budget
unfolding runs
short_run image zero s input = omega arith
short_run image (suc budget) s input = short_after budget (runs image budget) (short_run image budget) (step image s) input

-- its history is no longer than the budget
pub holds_short : (o : Object) (budget : ℕ) (input : List ℤ) (r : Recorded) (first out : List ℤ) → HoldsAll (object_run o budget input) r first out
    → length r.history ≤ budget
holds_short o budget input r first out all =
    omega (arith, short_run (object_image o) budget (object_start o) input, short_history r (object_run o budget input).entries all.recorded)
