-- What a recorder holds once it saw one more instruction.
use Rattle.std.proofs.Common.{◌≡◌, ℕ, ◌<◌, Bool, true, false, cond, ◌==◌, ◌||◌, List, [], ◌∷◌, ◌++◌, map, filter_map, length, slice_index_or, Option, Some, None, refl, sym, ap, subst, ◌∙◌}
use Rattle.std.specs.List.{cons_option}
use Rattle.std.proofs.lemmas.List.{map-append}
use Rattle.std.proofs.lemmas.List.Elements.{filter_map-append}
use Rattle.decision_map.specs.Kinds.{address_of}
use Rattle.decision_map.specs.Roles.{needs_history, kind_at}
use Rattle.object_format.specs.declared.object.Object.{Object}
use Rattle.object_facts.proofs.Agreed.{transfers_agree, kept_agree}
use Rattle.object_facts.specs.Kinds.{ends_piece}
use Rattle.object_facts.specs.Object.{facts_of, IsTranscript}
use Rattle.rv_semantics.specs.declared.stepped.Seen.{Seen}
use Rattle.trace_format.specs.declared.trace.HistoryEntry.{HistoryEntry}
use Rattle.transcript.proofs.Joined.{closed_append, open_append, took_append}
use Rattle.transcript.specs.Pieces.{Piece, lengthened, closed_from, closed, left_open}
use Rattle.transcript.specs.Trace.{Branched, took, branched_by, kept_of}
use Rattle.trace_record.specs.declared.mark.Mark.{Mark}
use Rattle.trace_record.specs.Marks.{bits, starts_at, mark_of, with_bit, with_edge}
use Rattle.trace_record.specs.Recorded.{entry_of, kept_entries, Records}
use Rattle.trace_record.proofs.Bits.{equal_bits, edge_bits, start_bits, starts_append, starts_none}

-- marks are changed at each place so
abbrev pub AreChanged : (change : ℕ → ℕ → ℕ) → (before after : List Mark) → Type 0
AreChanged change before after =
    (place : ℕ) (d : Mark) → place < length before → (slice_index_or after place d).0 ≡ change (address_of place) (slice_index_or before place d).0

-- what an instruction adds to the history
abbrev pub added : Object → Seen → List HistoryEntry
added o s = kept_entries (cond (needs_history o s.pc) (branched_by s.pc s.x8 s.edge) None)

one_kept : (kept : Option Branched) → map entry_of (cons_option kept []) ≡ kept_entries kept
one_kept None = refl
one_kept (Some b) = refl

history_more : (o : Object) (s : Seen) (ss : List Seen) (history : List HistoryEntry) → history ≡ map entry_of (filter_map (kept_of (facts_of o)) ss)
    → history ++ added o s ≡ map entry_of (filter_map (kept_of (facts_of o)) (ss ++ s ∷ []))
history_more o s ss history is =
    let one : added o s ≡ map entry_of (filter_map (kept_of (facts_of o)) (s ∷ [])) =
    sym (one_kept (kept_of (facts_of o) s) ∙ ap kept_entries (kept_agree o s)) in
    ap (λ (hs : List HistoryEntry). hs ++ added o s) is
    ∙ ap (λ (hs : List HistoryEntry). map entry_of (filter_map (kept_of (facts_of o)) ss) ++ hs) one
    ∙ sym (map-append entry_of (filter_map (kept_of (facts_of o)) ss) (filter_map (kept_of (facts_of o)) (s ∷ [])))
    ∙ ap (map entry_of) (sym (filter_map-append (kept_of (facts_of o)) ss (s ∷ [])))

module _ (o : Object) (s : Seen) (ss : List Seen) where
  -- the pieces that end with the instruction
  ended_pieces : (t : Bool) → (facts_of o).transfers s.pc ≡ t
      → closed_from (facts_of o) (left_open (facts_of o) None ss) (s ∷ []) ≡ cond t (lengthened (left_open (facts_of o) None ss) s.pc ∷ []) []
  ended_pieces t is = ap (λ (b : Bool). cond b (lengthened (left_open (facts_of o) None ss) s.pc ∷ []) []) is

  starts_more : (t : Bool) → (facts_of o).transfers s.pc ≡ t → (pc : ℕ)
      → starts_at (closed (facts_of o) (ss ++ s ∷ [])) pc
      ≡ starts_at (closed (facts_of o) ss ++ cond t (lengthened (left_open (facts_of o) None ss) s.pc ∷ []) []) pc
  starts_more t is pc =
      ap (λ (ps : List Piece). starts_at ps pc)
      (closed_append (facts_of o) ss (s ∷ []) None ∙ ap (λ (ps : List Piece). closed (facts_of o) ss ++ ps) (ended_pieces t is))

  -- the mark of a word after the instruction's edge
  edged_mark : (pc old : ℕ) → old ≡ mark_of (facts_of o) ss pc
      → with_edge (s.pc == pc) s.edge old ≡ bits (took (ss ++ s ∷ []) pc true) (took (ss ++ s ∷ []) pc false) (starts_at (closed (facts_of o) ss) pc)
  edged_mark pc old is =
      ap (with_edge (s.pc == pc) s.edge) is
      ∙ edge_bits (s.pc == pc) s.edge (took ss pc true) (took ss pc false) (starts_at (closed (facts_of o) ss) pc)
      ∙ equal_bits _ _ (starts_at (closed (facts_of o) ss) pc) (took (ss ++ s ∷ []) pc true) (took (ss ++ s ∷ []) pc false) (starts_at (closed (facts_of o) ss) pc)
      (sym (took_append ss (s ∷ []) pc true)) (sym (took_append ss (s ∷ []) pc false)) refl

  open_mark : (facts_of o).transfers s.pc ≡ false → (pc old : ℕ) → old ≡ mark_of (facts_of o) ss pc
      → with_edge (s.pc == pc) s.edge old ≡ mark_of (facts_of o) (ss ++ s ∷ []) pc
  open_mark on pc old is =
      edged_mark pc old is
      ∙ equal_bits (took (ss ++ s ∷ []) pc true) (took (ss ++ s ∷ []) pc false) (starts_at (closed (facts_of o) ss) pc)
      (took (ss ++ s ∷ []) pc true) (took (ss ++ s ∷ []) pc false) (starts_at (closed (facts_of o) (ss ++ s ∷ [])) pc)
      refl refl (sym (starts_more false on pc ∙ starts_none (closed (facts_of o) ss) pc))

  ended_mark : (facts_of o).transfers s.pc ≡ true → (start : ℕ) → start ≡ (lengthened (left_open (facts_of o) None ss) s.pc).start
      → (pc old : ℕ) → old ≡ mark_of (facts_of o) ss pc
      → with_bit (start == pc) 4 (with_edge (s.pc == pc) s.edge old) ≡ mark_of (facts_of o) (ss ++ s ∷ []) pc
  ended_mark ends start starts pc old is =
      let piece = lengthened (left_open (facts_of o) None ss) s.pc in
      ap (with_bit (start == pc) 4) (edged_mark pc old is)
      ∙ start_bits (start == pc) (took (ss ++ s ∷ []) pc true) (took (ss ++ s ∷ []) pc false) (starts_at (closed (facts_of o) ss) pc)
      ∙ equal_bits (took (ss ++ s ∷ []) pc true) (took (ss ++ s ∷ []) pc false) (starts_at (closed (facts_of o) ss) pc || ((start == pc) || false))
      (took (ss ++ s ∷ []) pc true) (took (ss ++ s ∷ []) pc false) (starts_at (closed (facts_of o) (ss ++ s ∷ [])) pc)
      refl refl
      (ap (λ (n : ℕ). starts_at (closed (facts_of o) ss) pc || ((n == pc) || false)) starts
      ∙ sym (starts_more true ends pc ∙ starts_append (closed (facts_of o) ss) (piece ∷ []) pc))

-- an instruction that goes on, and is no control transfer
pub seen_open : (o : Object) (s : Seen) (marks edged : List Mark) (p : Option Piece) (history kept : List HistoryEntry) (start : ℕ)
    → start ≡ (lengthened p s.pc).start → ends_piece (kind_at o s.pc) ≡ false
    → length edged ≡ length marks → AreChanged (λ pc old. with_edge (s.pc == pc) s.edge old) marks edged
    → kept ≡ history ++ added o s
    → (ss : List Seen) → Records (record { object = o; marks = marks; open_piece = p; history = history }) ss → IsTranscript o (ss ++ s ∷ [])
    → Records (record { object = o; marks = edged; open_piece = Some (record { start = start; last = s.pc }); history = kept }) (ss ++ s ∷ [])
seen_open o s marks edged p history kept start starts on long changed more ss records transcript =
    let goes : (facts_of o).transfers s.pc ≡ false = sym (transfers_agree o s.pc records.object) ∙ on in
    record {
      object = records.object;
      transcript = transcript;
      long = long ∙ records.long;
      marks = λ place d within.
          let inside : place < length marks = subst (λ (n : ℕ). place < n) long within in
          changed place d inside ∙ open_mark o s ss goes (address_of place) (slice_index_or marks place d).0 (records.marks place d inside);
      open_piece =
          ap (λ (n : ℕ). Some (record { start = n; last = s.pc })) (starts ∙ ap (λ (q : Option Piece). (lengthened q s.pc).start) records.open_piece)
          ∙ by_piece (left_open (facts_of o) None ss) goes
          ∙ sym (open_append (facts_of o) ss (s ∷ []) None);
      history = more ∙ history_more o s ss history records.history;
    }
  where
    by_piece : (q : Option Piece) → (facts_of o).transfers s.pc ≡ false
        → Some (record { start = (lengthened q s.pc).start; last = s.pc }) ≡ left_open (facts_of o) q (s ∷ [])
    by_piece None goes = sym (ap (λ (b : Bool). cond b None (Some (lengthened None s.pc))) goes)
    by_piece (Some r) goes = sym (ap (λ (b : Bool). cond b None (Some (lengthened (Some r) s.pc))) goes)

-- an instruction that goes on, and is a control transfer
pub seen_end : (o : Object) (s : Seen) (marks edged started : List Mark) (p : Option Piece) (history kept : List HistoryEntry) (start : ℕ)
    → start ≡ (lengthened p s.pc).start → ends_piece (kind_at o s.pc) ≡ true
    → length edged ≡ length marks → AreChanged (λ pc old. with_edge (s.pc == pc) s.edge old) marks edged
    → length started ≡ length edged → AreChanged (λ pc old. with_bit (start == pc) 4 old) edged started
    → kept ≡ history ++ added o s
    → (ss : List Seen) → Records (record { object = o; marks = marks; open_piece = p; history = history }) ss → IsTranscript o (ss ++ s ∷ [])
    → Records (record { object = o; marks = started; open_piece = None; history = kept }) (ss ++ s ∷ [])
seen_end o s marks edged started p history kept start starts on long changed long' changed' more ss records transcript =
    let ends : (facts_of o).transfers s.pc ≡ true = sym (transfers_agree o s.pc records.object) ∙ on in
    let begins : start ≡ (lengthened (left_open (facts_of o) None ss) s.pc).start =
    starts ∙ ap (λ (q : Option Piece). (lengthened q s.pc).start) records.open_piece in
    record {
      object = records.object;
      transcript = transcript;
      long = long' ∙ long ∙ records.long;
      marks = λ place d within.
          let within' : place < length edged = subst (λ (n : ℕ). place < n) long' within in
          let inside : place < length marks = subst (λ (n : ℕ). place < n) long within' in
          changed' place d within'
          ∙ ap (with_bit (start == address_of place) 4) (changed place d inside)
          ∙ ended_mark o s ss ends start begins (address_of place) (slice_index_or marks place d).0 (records.marks place d inside);
      open_piece =
          sym (open_append (facts_of o) ss (s ∷ []) None
          ∙ ap (λ (b : Bool). cond b None (Some (lengthened (left_open (facts_of o) None ss) s.pc))) ends);
      history = more ∙ history_more o s ss history records.history;
    }
