-- The blocks that marks show are those of the transcript.
use Rattle.std.proofs.Common.{◌≡◌, inl, inr, ℕ, ◌+◌, ◌*◌, ◌<◌, Bool, true, false, cond, ◌==◌, List, [], ◌∷◌, map, length, get_or, bit_and, Option, Some, None, option_map, option_and_then, unwrap_or, slice_get, refl, sym, ap, subst, ◌∙◌}
use Rattle.std.proofs.lemmas.List.{length-map}
use Rattle.std.proofs.lemmas.Option.{unwrap_or-slice_get}
use Rattle.decision_map.specs.Blocks.{block_end}
use Rattle.decision_map.specs.Kinds.{kind_of_word, kinds_of_text}
use Rattle.cov_base.specs.Lists.{Somewhere, Everywhere}
use Rattle.object_facts.proofs.Words.{one_place}
use Rattle.object_facts.specs.Object.{facts_of}
use Rattle.rv_semantics.specs.declared.stepped.Seen.{Seen}
use Rattle.trace_format.specs.declared.trace.Block.{Block}
use Rattle.transcript.proofs.Sets.{rise_by_starts, is_set, in_set}
use Rattle.transcript.specs.Pieces.{Piece, closed, set_of}
use Rattle.transcript.specs.Trace.{took, block_of, trace_of}
use Rattle.trace_record.specs.Marks.{bits, starts_at, mark_of}
use Rattle.trace_record.specs.Recorded.{Recorded, Records}
use Rattle.trace_record.specs.Written.{no_mark, mark_at, edges_of, is_start, block_in, blocks_from}
use Rattle.trace_record.proofs.Ends.{of_member, start_stands, last_stands, end_of_piece}
use Rattle.trace_record.proofs.Starts.{is_start_bits, edges_bits, piece_to, shown, filled, blocks_are_shown, shown_rise, all_shown, to_shown, started, starts_there}

-- what a mark and an end say of a piece
piece_found : (b : Bool) (end : Option ℕ) (pc : ℕ) (x : Piece) → cond b (option_map (piece_to pc) end) None ≡ Some x
    → (b ≡ true) × (last : ℕ) × (end ≡ Some last) × (piece_to pc last ≡ x)
piece_found true None pc x is = absurd (cc is)
piece_found true (Some last) pc x is = let one : piece_to pc last ≡ x = cc is in (refl, last, refl, one)
piece_found false end pc x is = absurd (cc is)

one_some : (a b : ℕ) → Some a ≡ Some b → a ≡ b
one_some a b is = cc is

module _ (r : Recorded) (ss : List Seen) (records : Records r ss) where
  ended : List Piece
  ended = closed (facts_of r.object) ss

  mark_is : (k pc : ℕ) → k < length r.marks → pc ≡ 65536 + 4 * k → (get_or r.marks k no_mark).0 ≡ mark_of (facts_of r.object) ss pc
  mark_is k pc within at = records.marks k no_mark within ∙ ap (mark_of (facts_of r.object) ss) (sym at)

  start_is : (k pc : ℕ) → k < length r.marks → pc ≡ 65536 + 4 * k → is_start (get_or r.marks k no_mark) ≡ starts_at (closed (facts_of r.object) ss) pc
  start_is k pc within at =
      ap (λ (m : ℕ). bit_and m 4 == 4) (mark_is k pc within at)
      ∙ is_start_bits (took ss pc true) (took ss pc false) (starts_at (closed (facts_of r.object) ss) pc)

  words : length r.marks ≡ length (kinds_of_text r.object.text)
  words = records.long ∙ sym (length-map r.object.text kind_of_word)

  member_shown : (p : Piece) → Somewhere (λ q. q ≡ p) (closed (facts_of r.object) ss) → Somewhere (λ q. q ≡ p) (shown r.object 65536 r.marks)
  member_shown p there =
      let stands = start_stands r.object ss records.transcript p there in
      let k : ℕ = stands.0 in
      let within : k < length r.marks = subst (λ (n : ℕ). k < n) (sym words) stands.1.within in
      let starts : is_start (get_or r.marks k no_mark) ≡ true = start_is k p.start within stands.1.address ∙ starts_there (closed (facts_of r.object) ss) p there in
      to_shown r.object p 65536 r.marks k p.start within stands.1.address
      (ap (λ (b : Bool). cond b (option_map (piece_to p.start) (block_end (kinds_of_text r.object.text) p.start)) None) starts
      ∙ ap (option_map (piece_to p.start)) (end_of_piece r.object ss records.transcript p there))

  shown_member : (x : Piece) → Somewhere (λ q. q ≡ x) (shown r.object 65536 r.marks) → Somewhere (λ q. q ≡ x) (closed (facts_of r.object) ss)
  shown_member x there =
      of_member (λ (y : Piece). Somewhere (λ q. q ≡ y) (closed (facts_of r.object) ss)) (shown r.object 65536 r.marks) x
      (all_shown r.object (λ (y : Piece). Somewhere (λ q. q ≡ y) (closed (facts_of r.object) ss)) 65536 r.marks (λ k pc y within at is.
      let found = piece_found (is_start (get_or r.marks k no_mark)) (block_end (kinds_of_text r.object.text) pc) pc y is in
      let one = started (closed (facts_of r.object) ss) pc (sym (start_is k pc within at) ∙ found.0) in
      let last : Some one.0.last ≡ Some found.1 =
      sym (end_of_piece r.object ss records.transcript one.0 one.2) ∙ ap (block_end (kinds_of_text r.object.text)) one.1 ∙ found.2 in
      let same : one.0 ≡ y =
      (λ i. record { start = one.1 i; last = one_some one.0.last found.1 last i }) ∙ found.3 in
      subst (λ (z : Piece). Somewhere (λ q. q ≡ z) (closed (facts_of r.object) ss)) same one.2))
      there

  pieces_are : shown r.object 65536 r.marks ≡ set_of (closed (facts_of r.object) ss)
  pieces_are =
      is_set (shown r.object 65536 r.marks) (closed (facts_of r.object) ss)
      (rise_by_starts (shown r.object 65536 r.marks) (shown_rise r.object 65536 r.marks).1)
      (λ x. (shown_member x, member_shown x))

  flags_are : (p : Piece) → Somewhere (λ q. q ≡ p) (closed (facts_of r.object) ss) → filled r.marks p ≡ block_in (block_of ss p)
  flags_are p there =
      let stands = last_stands r.object ss records.transcript p there in
      let k : ℕ = stands.0 in
      let within : k < length r.marks = subst (λ (n : ℕ). k < n) (sym words) stands.1.within in
      let mark : mark_at r.marks p.last ≡ get_or r.marks k no_mark =
      ap (λ (found : Option ℕ). unwrap_or (option_and_then (slice_get r.marks) found) no_mark) (sym (one_place p.last) ∙ stands.1.is)
      ∙ unwrap_or-slice_get r.marks k no_mark in
      let flags : edges_of (mark_at r.marks p.last) ≡ bits (took ss p.last true) (took ss p.last false) false =
      ap edges_of mark ∙ ap (λ (m : ℕ). bit_and m 3) (mark_is k p.last within stands.1.address)
      ∙ edges_bits (took ss p.last true) (took ss p.last false) (starts_at (closed (facts_of r.object) ss) p.last) in
      ap (λ (n : ℕ). record { start = p.start; last = p.last; flags = n }) flags

  all_flags : (ps : List Piece) → Everywhere (λ p. Somewhere (λ q. q ≡ p) (closed (facts_of r.object) ss)) ps
      → map (filled r.marks) ps ≡ map block_in (map (block_of ss) ps)
  all_flags [] all = refl
  all_flags (p ∷ ps) all =
      ap (λ (b : Block). b ∷ map (filled r.marks) ps) (flags_are p all.0)
      ∙ ap (λ (bs : List Block). block_in (block_of ss p) ∷ bs) (all_flags ps all.1)

  members : (qs ps : List Piece) → ((p : Piece) → Somewhere (λ q. q ≡ p) ps → Somewhere (λ q. q ≡ p) qs) → Everywhere (λ p. Somewhere (λ q. q ≡ p) qs) ps
  members qs [] each = tt
  members qs (p ∷ ps) each = (each p (inl refl), members qs ps (λ x there. each x (inr there)))

  pub blocks_are : blocks_from r.object r.marks 65536 r.marks ≡ map block_in (trace_of (facts_of r.object) ss).blocks
  blocks_are =
      let ps = closed (facts_of r.object) ss in
      blocks_are_shown r.object r.marks 65536 r.marks
      ∙ ap (map (filled r.marks)) pieces_are
      ∙ all_flags (set_of ps) (members ps (set_of ps) (λ p there. in_set (λ (q : Piece). q ≡ p) ps there))
