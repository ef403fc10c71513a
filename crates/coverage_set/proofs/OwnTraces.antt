-- The trace of an object's own run fits the object, and its history is disciplined where the run is.
use Rattle.std.proofs.Common.{◌≡◌, inl, inr, ⊎_elim, ℕ, ◌+◌, ◌≤◌, ℤ, Bool, true, false, not, cond, ◌==◌, ◌&&◌, ◌||◌, nat_le, eqb, eq-eqb, List, [], ◌∷◌, ◌++◌, map, find, filter_map, length, bytes_eq, Option, Some, None, option_map, refl, sym, ap, subst, ◌∙◌}
use Rattle.std.proofs.lemmas.Bool.{le-leb}
use Rattle.std.proofs.lemmas.Bool.Decides.{eqb_tells}
use Rattle.std.proofs.lemmas.Slice.Eq.{bytes_eq-Decides}
use Rattle.std.specs.List.{cons_option, list_all, list_any, position_from}
use Rattle.std.specs.Option.{option_or}
use Rattle.decision_map.specs.Blocks.{is_number, is_block, has_its_flags, first_unlike, shows_edge, shows_entry}
use Rattle.decision_map.specs.Fits.{not_a_block, wrong_edge, wrong_address, not_flat, fault_of}
use Rattle.decision_map.specs.Kinds.{has_edges, kind_in, kinds_of_text}
use Rattle.decision_map.specs.Roles.{needs_history}
use Rattle.decision_map.specs.declared.fault.FitFault.{FitFault}
use Rattle.decision_map.specs.declared.fault.FitFault.TheVariants.{Foreign, Ending, NotABlock, Edge, HistoryAddress, HistoryNotFlat}
use Rattle.decision_map.specs.declared.kind.WordKind.TheVariants.{HistoryBranch}
use Rattle.cov_base.specs.Marks.{same}
use Rattle.cov_base.specs.Lists.{Somewhere, Everywhere}
use Rattle.object_facts.proofs.Agreed.{transfers_agree, kept_agree}
use Rattle.object_facts.proofs.Placed.{run_transcript}
use Rattle.object_facts.proofs.Words.{branch_kind, kind_there}
use Rattle.object_facts.specs.Kinds.{ends_piece}
use Rattle.object_facts.specs.Object.{facts_of, IsTranscript}
use Rattle.object_format.specs.Checked.{IsSound}
use Rattle.object_format.specs.declared.object.Object.{Object}
use Rattle.object_facts.specs.Held.{instruction_at}
use Rattle.rv_machine.specs.Objects.{object_image, object_start, object_run}
use Rattle.rv_semantics.specs.declared.stepped.Seen.{Seen}
use Rattle.rv_semantics.specs.Run.Outcome.{Ended}
use Rattle.trace_format.specs.Trace.{closed_by}
use Rattle.trace_format.specs.declared.trace.Block.{Block}
use Rattle.trace_format.specs.declared.trace.HistoryEntry.{HistoryEntry}
use Rattle.trace_record.proofs.Ends.{end_of_piece}
use Rattle.trace_record.specs.Marks.{bits}
use Rattle.trace_record.specs.Recorded.{entry_of}
use Rattle.trace_record.specs.Written.{block_in, traced}
use Rattle.transcript.proofs.Blocks.{last_there}
use Rattle.transcript.proofs.Fits.{history_follows, blocks_flagged}
use Rattle.transcript.proofs.Flags.{Took, true_took}
use Rattle.transcript.proofs.Lists.{at_one}
use Rattle.transcript.proofs.Sets.{in_set, to_set}
use Rattle.transcript.specs.Pieces.{Piece, closed, set_of}
use Rattle.transcript.specs.Reading.{AllFollow, IsDisciplined}
use Rattle.transcript.specs.Trace.{Block as Executed, Branched, took, block_of, branched_by, kept_of, trace_of, visits_in}
use Rattle.vector_rebuild.specs.Rebuilt.{visits_of}
use Rattle.coverage_set.proofs.Endings.{ends_within}
use Rattle.coverage_set.proofs.RunLaw.{same_branches}

-- ---- lists

-- where each item passes a test, none is found that fails it
none_found : {X : Type 0} (test : X → Bool) (xs : List X) → Everywhere (λ x. test x ≡ true) xs → find (λ x. not (test x)) xs ≡ None
none_found test [] all = refl
none_found test (x ∷ xs) all =
    ap (λ (b : Bool). cond (not b) (Some x) (find (λ y. not (test y)) xs)) all.0 ∙ none_found test xs all.1

no_place : {X : Type 0} (test : X → Bool) (xs : List X) (at : ℕ) → Everywhere (λ x. test x ≡ true) xs → position_from (λ x. not (test x)) at xs ≡ None
no_place test [] at all = refl
no_place test (x ∷ xs) at all =
    ap (λ (b : Bool). cond (not b) (Some at) (position_from (λ y. not (test y)) (at + 1) xs)) all.0 ∙ no_place test xs (at + 1) all.1

-- what holds of each member holds everywhere
each_member : {X : Type 0} (P : X → Type 0) (xs : List X) → ((x : X) → Somewhere (λ y. y ≡ x) xs → P x) → Everywhere P xs
each_member P [] each = tt
each_member P (x ∷ xs) each = (each x (inl refl), each_member P xs (λ y there. each y (inr there)))

-- ---- the object and the ending

same_bytes : (xs : List ℕ) → bytes_eq xs xs ≡ true
same_bytes xs = (bytes_eq-Decides xs xs).1 refl

-- a run ends with 0, or with the number of an exception of its object
pub own_ending : (o : Object) (budget : ℕ) (input : List ℤ) (ending : ℕ) → (object_run o budget input).outcome ≡ Ended ending
    → ending ≤ length o.obligations.exceptions
own_ending o budget input ending over = ends_within (object_image o) budget (object_start o) input ending over

-- ---- blocks

-- a block as the file has it, of a piece of a transcript
abbrev in_file : List Seen → Piece → Block
in_file ss p = block_in (block_of ss p)

abbrev blocks_in : List Seen → List Piece → List Block
blocks_in ss ps = map block_in (map (block_of ss) ps)

of_pieces : (P : Block → Type 0) (ss : List Seen) (ps : List Piece) → Everywhere (λ p. P (in_file ss p)) ps → Everywhere P (blocks_in ss ps)
of_pieces P ss [] all = tt
of_pieces P ss (p ∷ ps) all = (all.0, of_pieces P ss ps all.1)

own_blocks : (o : Object) (ss : List Seen) → IsTranscript o ss
    → Everywhere (λ (b : Block). is_block (kinds_of_text o.text) b ≡ true) (blocks_in ss (set_of (closed (facts_of o) ss)))
own_blocks o ss transcript =
    let ps = closed (facts_of o) ss in
    of_pieces (λ (b : Block). is_block (kinds_of_text o.text) b ≡ true) ss (set_of ps)
    (each_member (λ (p : Piece). is_block (kinds_of_text o.text) (in_file ss p) ≡ true) (set_of ps) (λ p there.
    ap (λ (found : Option ℕ). is_number found p.last) (end_of_piece o ss transcript p (in_set (λ (q : Piece). q ≡ p) ps there))
    ∙ eq-eqb p.last p.last refl))

-- ---- flags

-- flags tell whether there are any
any_flag : (t n : Bool) → same (not (bits t n false == 0)) (t || n) ≡ true
any_flag true true = refl
any_flag true false = refl
any_flag false true = refl
any_flag false false = refl

-- two blocks with one end have the same flags
one_end : (ss : List Seen) (q p : Piece) → (not (eqb q.last p.last) || eqb (in_file ss q).flags (in_file ss p).flags) ≡ true
one_end ss q p =
    elim (eqb_tells q.last p.last) [
      | inl there ↦
          ap (λ (b : Bool). not b || eqb (in_file ss q).flags (in_file ss p).flags) there.0
          ∙ eq-eqb (in_file ss q).flags (in_file ss p).flags (ap (λ (pc : ℕ). bits (took ss pc true) (took ss pc false) false) there.1)
      | inr other ↦ ap (λ (b : Bool). not b || eqb (in_file ss q).flags (in_file ss p).flags) other.0
    ]

all_agree : (ss : List Seen) (qs : List Piece) (p : Piece)
    → list_all (λ (e : Block). not (e.last == p.last) || (e.flags == (in_file ss p).flags)) (blocks_in ss qs) ≡ true
all_agree ss [] p = refl
all_agree ss (q ∷ qs) p =
    ap (λ (b : Bool). b && list_all (λ (e : Block). not (e.last == p.last) || (e.flags == (in_file ss p).flags)) (blocks_in ss qs)) (one_end ss q p)
    ∙ all_agree ss qs p

with_last : (ss : List Seen) (qs : List Piece) (p : Piece) → blocks_in ss qs ++ in_file ss p ∷ [] ≡ blocks_in ss (qs ++ p ∷ [])
with_last ss [] p = refl
with_last ss (q ∷ qs) p = ap (λ (bs : List Block). in_file ss q ∷ bs) (with_last ss qs p)

edges_there : (o : Object) (pc : ℕ) → (facts_of o).branches pc ≡ has_edges (kind_in (kinds_of_text o.text) pc)
edges_there o pc = branch_kind (instruction_at (object_image o) pc) ∙ ap has_edges (sym (kind_there o.text pc))

own_flags : (o : Object) (ss : List Seen) (qs ps : List Piece)
    → Everywhere (λ (b : Executed). (b.taken || b.not_taken) ≡ (facts_of o).branches b.last) (map (block_of ss) ps)
    → first_unlike (kinds_of_text o.text) (blocks_in ss qs) (blocks_in ss ps) ≡ None
own_flags o ss qs [] all = refl
own_flags o ss qs (p ∷ ps) all =
    let kinds = kinds_of_text o.text in
    let t : Bool = took ss p.last true in
    let n : Bool = took ss p.last false in
    let edges : same (not (bits t n false == 0)) (has_edges (kind_in kinds p.last)) ≡ true =
    ap (same (not (bits t n false == 0))) (sym (all.0 ∙ edges_there o p.last)) ∙ any_flag t n in
    let here : has_its_flags kinds (blocks_in ss qs) (in_file ss p) ≡ true =
    ap (λ (b : Bool). b && list_all (λ (e : Block). not (e.last == p.last) || (e.flags == (in_file ss p).flags)) (blocks_in ss qs)) edges
    ∙ all_agree ss qs p in
    ap (λ (b : Bool). cond b (first_unlike kinds (blocks_in ss qs ++ in_file ss p ∷ []) (blocks_in ss ps)) (Some (in_file ss p))) here
    ∙ ap (λ (es : List Block). first_unlike kinds es (blocks_in ss ps)) (with_last ss qs p)
    ∙ own_flags o ss (qs ++ p ∷ []) ps all.1

-- ---- history

-- an executed branch as the history of the file has it
abbrev kept_in_file : Seen → Bool → HistoryEntry
kept_in_file s taken = entry_of (record { address = s.pc; x8 = s.x8; taken = taken })

-- what holds of each executed branch that is kept holds of each entry
each_entry : (o : Object) (P : HistoryEntry → Type 0) (ss : List Seen)
    → ((s : Seen) → Somewhere (λ x. x ≡ s) ss → (taken : Bool) → s.edge ≡ Some taken → needs_history o s.pc ≡ true → P (kept_in_file s taken))
    → Everywhere P (map entry_of (filter_map (kept_of (facts_of o)) ss))
each_entry o P [] each = tt
each_entry o P (s ∷ ss) each =
    let rest = filter_map (kept_of (facts_of o)) ss in
    subst (λ (kept : Option Branched). Everywhere P (map entry_of (cons_option kept rest))) (sym (kept_agree o s))
    (by_needed (needs_history o s.pc) refl s.edge refl rest (each_entry o P ss (λ x there. each x (inr there))))
  where
    by_needed : (b : Bool) → needs_history o s.pc ≡ b → (edge : Option Bool) → s.edge ≡ edge → (rest : List Branched) → Everywhere P (map entry_of rest)
        → Everywhere P (map entry_of (cons_option (cond b (branched_by s.pc s.x8 edge) None) rest))
    by_needed true needed None is rest later = later
    by_needed true needed (Some taken) is rest later = (each s (inl refl) taken is needed, later)
    by_needed false needed edge is rest later = later

-- flags show the edge that they have
edge_shown : (taken t n : Bool) → cond taken t n ≡ true → shows_edge (bits t n false) (cond taken 1 0) ≡ true
edge_shown true true true is = refl
edge_shown true true false is = refl
edge_shown true false n is = absurd (cc is)
edge_shown false true true is = refl
edge_shown false false true is = refl
edge_shown false t false is = absurd (cc is)

took_either : (ss : List Seen) (pc : ℕ) (taken : Bool) → took ss pc taken ≡ true → cond taken (took ss pc true) (took ss pc false) ≡ true
took_either ss pc true is = is
took_either ss pc false is = is

entry_shown : (ss : List Seen) (s : Seen) (taken : Bool) → took ss s.pc taken ≡ true → (ps : List Piece) → Somewhere (λ (p : Piece). p.last ≡ s.pc) ps
    → list_any (shows_entry (kept_in_file s taken)) (blocks_in ss ps) ≡ true
entry_shown ss s taken is [] there = absurd there
entry_shown ss s taken is (p ∷ ps) there =
    let rest : Bool = list_any (shows_entry (kept_in_file s taken)) (blocks_in ss ps) in
    ⊎_elim
    (λ here.
    let edge : shows_edge (in_file ss p).flags (cond taken 1 0) ≡ true =
    edge_shown taken (took ss p.last true) (took ss p.last false)
    (took_either ss p.last taken (ap (λ (pc : ℕ). took ss pc taken) here ∙ is)) in
    ap (λ (b : Bool). (b && shows_edge (in_file ss p).flags (cond taken 1 0)) || rest) (eq-eqb p.last s.pc here)
    ∙ ap (λ (b : Bool). b || rest) edge)
    (λ later. or_true (shows_entry (kept_in_file s taken) (in_file ss p)) rest (entry_shown ss s taken is ps later))
    there
  where
    or_true : (a b : Bool) → b ≡ true → (a || b) ≡ true
    or_true true b is = refl
    or_true false b is = is

-- a branch that is kept ends a piece
kept_ends : (o : Object) (pc : ℕ) → IsSound o → needs_history o pc ≡ true → (facts_of o).transfers pc ≡ true
kept_ends o pc sound needed =
    sym (transfers_agree o pc sound)
    ∙ ap (λ (b : Bool). ends_piece (cond b HistoryBranch (kind_in (kinds_of_text o.text) pc))) needed

own_entries : (o : Object) (ss : List Seen) → IsSound o
    → Everywhere (λ (h : HistoryEntry). list_any (shows_entry h) (blocks_in ss (set_of (closed (facts_of o) ss))) ≡ true) (map entry_of (trace_of (facts_of o) ss).history)
own_entries o ss sound =
    let blocks = blocks_in ss (set_of (closed (facts_of o) ss)) in
    each_entry o (λ (h : HistoryEntry). list_any (shows_entry h) blocks ≡ true) ss (λ s there taken edge needed.
    let executed : Somewhere (λ (x : Seen). x.pc ≡ s.pc) ss = at_one (λ (x : Seen). x.pc ≡ s.pc) ss s refl there in
    let ended : Somewhere (λ (p : Piece). p.last ≡ s.pc) (closed (facts_of o) ss) = last_there (facts_of o) s.pc (kept_ends o s.pc sound needed) ss None executed in
    entry_shown ss s taken
    (true_took ss s.pc taken (at_one (Took s.pc taken) ss s (record { address = refl; edge = edge }) there))
    (set_of (closed (facts_of o) ss)) (to_set (λ (p : Piece). p.last ≡ s.pc) (closed (facts_of o) ss) ended))

own_addresses : (o : Object) (ss : List Seen)
    → Everywhere (λ (h : HistoryEntry). needs_history o h.address ≡ true) (map entry_of (trace_of (facts_of o) ss).history)
own_addresses o ss = each_entry o (λ (h : HistoryEntry). needs_history o h.address ≡ true) ss (λ s there taken edge needed. needed)

-- ---- all checks

-- no fault in the first of two checks, and none in the rest
past : (a b : Option FitFault) → a ≡ None → b ≡ None → option_or a b ≡ None
past a b first second = ap (λ (x : Option FitFault). option_or x b) first ∙ second

-- the trace of a transcript of an object fits it, with an ending of the object's
pub transcript_fits : (o : Object) (ss : List Seen) (ending : ℕ) (closing : List ℕ) → IsSound o → IsTranscript o ss → ending ≤ length o.obligations.exceptions
    → fault_of o (closed_by (traced o ss ending) closing) ≡ None
transcript_fits o ss ending closing sound transcript within =
    let kinds = kinds_of_text o.text in
    let ps = set_of (closed (facts_of o) ss) in
    let blocks : List Block = blocks_in ss ps in
    let history : List HistoryEntry = map entry_of (trace_of (facts_of o) ss).history in
    let own : cond (bytes_eq o.closing o.closing) None (Some (Foreign o.closing o.closing)) ≡ None =
    ap (λ (b : Bool). cond b None (Some (Foreign o.closing o.closing))) (same_bytes o.closing) in
    let ends : cond (nat_le ending (length o.obligations.exceptions)) None (Some Ending) ≡ None =
    ap (λ (b : Bool). cond b None (Some Ending)) (le-leb ending (length o.obligations.exceptions) within) in
    let text : not_a_block kinds blocks ≡ None =
    ap (option_map (λ (b : Block). NotABlock b.start)) (none_found (is_block kinds) blocks (own_blocks o ss transcript)) in
    let edges : wrong_edge kinds blocks ≡ None =
    ap (option_map (λ (b : Block). Edge b.start)) (own_flags o ss [] ps (blocks_flagged (facts_of o) ss transcript.edges)) in
    let addresses : wrong_address (needs_history o) history ≡ None =
    ap (option_map HistoryAddress) (no_place (λ (h : HistoryEntry). needs_history o h.address) history 0 (own_addresses o ss)) in
    let flat : not_flat blocks history ≡ None =
    ap (option_map HistoryNotFlat) (no_place (λ (h : HistoryEntry). list_any (shows_entry h) blocks) history 0 (own_entries o ss sound)) in
    past _ _ own (past _ _ ends (past _ _ text (past _ _ edges (past _ _ addresses flat))))

pub own_fits : (o : Object) (budget : ℕ) (input : List ℤ) (ending : ℕ) (closing : List ℕ) → IsSound o
    → (object_run o budget input).outcome ≡ Ended ending
    → fault_of o (closed_by (traced o (object_run o budget input).entries ending) closing) ≡ None
own_fits o budget input ending closing sound over =
    transcript_fits o (object_run o budget input).entries ending closing sound (run_transcript o budget input sound) (own_ending o budget input ending over)

-- each entry of the history follows where the transcript is disciplined
pub own_follows : (o : Object) (ss : List Seen) (ending : ℕ) (closing : List ℕ) → IsDisciplined (facts_of o) ss
    → AllFollow (facts_of o) [] (visits_of (facts_of o) (closed_by (traced o ss ending) closing).history)
own_follows o ss ending closing disciplined =
    let history : List Branched = (trace_of (facts_of o) ss).history in
    subst (λ (bs : List Branched). AllFollow (facts_of o) [] (visits_in (facts_of o) bs)) (sym (same_branches history)) (history_follows (facts_of o) ss disciplined)
