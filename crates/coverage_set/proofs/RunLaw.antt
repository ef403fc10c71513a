-- What the trace file of a run says.
use Rattle.std.proofs.Common.{◌≡◌, ◌↔◌, ℕ, ℤ, Bool, true, false, List, [], ◌∷◌, map, Option, None, refl, sym, ap, subst, ◌∙◌}
use Rattle.cov_base.specs.declared.event.Event.{Event}
use Rattle.object_facts.proofs.Fair.{fair}
use Rattle.object_facts.proofs.Placed.{run_transcript, run_ended}
use Rattle.object_facts.specs.Object.{facts_of}
use Rattle.object_format.specs.Checked.{IsSound}
use Rattle.object_format.specs.declared.object.Object.{Object}
use Rattle.rv_machine.specs.Objects.{object_run}
use Rattle.rv_semantics.specs.Run.Outcome.{Ended}
use Rattle.trace_format.specs.Trace.{closed_by}
use Rattle.trace_record.specs.Recorded.{entry_of}
use Rattle.trace_record.specs.Written.{block_in, traced}
use Rattle.transcript.proofs.SaidLaw.{said_law}
use Rattle.transcript.specs.Pieces.{Piece}
use Rattle.transcript.specs.Reading.{Tells, IsDisciplined}
use Rattle.transcript.specs.Trace.{Block, Branched, Trace, trace_of, Says}
use Rattle.vector_rebuild.specs.Entries.{block_of, branched_of, trace_in}

-- a block is what its file says
same_block : (b : Block) → block_of (block_in b) ≡ b
same_block b = by_flags b.taken b.not_taken
  where
    by_flags : (t n : Bool) → block_of (block_in (record { start = b.start; last = b.last; taken = t; not_taken = n })) ≡ record { start = b.start; last = b.last; taken = t; not_taken = n }
    by_flags true true = refl
    by_flags true false = refl
    by_flags false true = refl
    by_flags false false = refl

same_blocks : (bs : List Block) → map block_of (map block_in bs) ≡ bs
same_blocks [] = refl
same_blocks (b ∷ bs) = ap (λ (x : Block). x ∷ map block_of (map block_in bs)) (same_block b) ∙ ap (λ (xs : List Block). b ∷ xs) (same_blocks bs)

-- and so is a branch
same_branch : (b : Branched) → branched_of (entry_of b) ≡ b
same_branch b = by_edge b.taken
  where
    by_edge : (t : Bool) → branched_of (entry_of (record { address = b.address; x8 = b.x8; taken = t })) ≡ record { address = b.address; x8 = b.x8; taken = t }
    by_edge true = refl
    by_edge false = refl

pub same_branches : (bs : List Branched) → map branched_of (map entry_of bs) ≡ bs
same_branches [] = refl
same_branches (b ∷ bs) = ap (λ (x : Branched). x ∷ map branched_of (map entry_of bs)) (same_branch b) ∙ ap (λ (xs : List Branched). b ∷ xs) (same_branches bs)

-- of a run that ended, the file holds the whole trace
abbrev as_trace : List Block → Option Piece → List Branched → Trace
as_trace blocks tail history = record { blocks = blocks; tail = tail; history = history }

whole : (blocks : List Block) (tail : Option Piece) (history : List Branched) → tail ≡ None
    → as_trace (map block_of (map block_in blocks)) None (map branched_of (map entry_of history)) ≡ as_trace blocks tail history
whole blocks tail history none =
    ap (λ (bs : List Block). as_trace bs None (map branched_of (map entry_of history))) (same_blocks blocks)
    ∙ ap (λ (hs : List Branched). as_trace blocks None hs) (same_branches history)
    ∙ ap (λ (t : Option Piece). as_trace blocks t history) (sym none)

pub run_law : (o : Object) (budget : ℕ) (input : List ℤ) (ending : ℕ) (closing : List ℕ) (e : Event) → IsSound o
    → (object_run o budget input).outcome ≡ Ended ending → IsDisciplined (facts_of o) (object_run o budget input).entries
    → Says (facts_of o) (trace_in (closed_by (traced o (object_run o budget input).entries ending) closing)) e ↔ Tells (facts_of o) (object_run o budget input).entries e
run_law o budget input ending closing e sound over disciplined =
    let ss = (object_run o budget input).entries in
    let t = trace_of (facts_of o) ss in
    let transcript = run_transcript o budget input sound in
    let same = whole t.blocks t.tail t.history (run_ended o budget input ending sound over) in
    subst (λ (x : Trace). Says (facts_of o) x e ↔ Tells (facts_of o) ss e) (sym same) (said_law (facts_of o) ss e (fair o sound) transcript.runs_on disciplined)
