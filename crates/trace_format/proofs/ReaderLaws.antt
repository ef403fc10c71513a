-- How a reader goes on in the bytes of a trace file.
use Rattle.std.proofs.Common.{◌≡◌, ℕ, zero, suc, ◌+◌, ◌-◌, ◌*◌, ◌<◌, ◌≤◌, ◌^◌, min, List, [], ◌∷◌, ◌++◌, length, take, drop, None, Result, Ok, Err, refl, sym, ap, subst, ◌∙◌, append_assoc, arith}
use Rattle.std.specs.Prelude.{map}
use Rattle.std.proofs.Math.Nat.{mul-suc, mul-zero}
use Rattle.std.proofs.lemmas.List.{length-drop, length-take, take_all, map-append, append-nil, drop-drop, length-append}
use Rattle.sha2.specs.Sha256.{sha256}
use Rattle.cov_base.specs.declared.failure.Failure.{Failure}
use Rattle.cov_base.specs.declared.failure.Failure.TheVariants.{Fault, WantOfMemory}
use Rattle.spelling.specs.declared.fault.LayerFault.{LayerFault}
use Rattle.spelling.specs.declared.fault.LayerFault.TheVariants.{Short}
use Rattle.spelling.specs.Checks.{first_failing}
use Rattle.spelling.specs.Entries.{values}
use Rattle.spelling.specs.Fixed.{number_value}
use Rattle.spelling.proofs.EntryLists.{length-values}
use Rattle.trace_format.specs.declared.stream.Stream.{Stream}
use Rattle.trace_format.specs.declared.trace.Block.{Block}
use Rattle.trace_format.specs.declared.trace.HistoryEntry.{HistoryEntry}
use Rattle.trace_format.specs.declared.fault.TraceFault.{TraceFault}
use Rattle.trace_format.specs.declared.fault.TraceFault.TheVariants as faults
use Rattle.trace_format.specs.declared.entry.Entry.{Entry}
use Rattle.trace_format.specs.declared.entry.Entry.TheVariants as entries
use Rattle.trace_format.specs.declared.entry.ReaderFault.{ReaderFault}
use Rattle.trace_format.specs.declared.entry.ReaderFault.TheVariants as reader_faults
use Rattle.trace_format.specs.declared.reader.TraceReader.{TraceReader}
use Rattle.trace_format.specs.Trace.{TraceFile, closed_by}
use Rattle.trace_format.specs.Formats.{block_value, history_value}
use Rattle.trace_format.specs.Checks.{in_order, has_known_flags, has_known_edge, layer_fault, ◌>>=◌, ordered, trace_of, unless}
use Rattle.trace_format.specs.Places.{block_count, first_blocks, history_count, first_history, closing_place, trace_at, closing_of, heading, IsHead}
use Rattle.trace_format.specs.Stream.{StandsAt}
use Rattle.trace_format.specs.Watch.{Watched}
use Rattle.trace_format.specs.Reader.{block_given, history_given, entries_to, IsCause, SawBlocks, InHead, InBlocks, InHistory, IsRead, Takes, verdict_of, GaveBlocks, GaveHistory}
use Rattle.trace_format.proofs.PlacesLaws.{at_place, ends_in_blocks, ends_in_history, closed_wrong, closed_right}
use Rattle.trace_format.proofs.HeadLaws.{head_found, head_fault}

-- ---- bytes that were taken

pub took_short : (into bytes : List ℕ) (taken room got : ℕ) → take got into ≡ take room (drop taken bytes) → got < room → got ≤ length into → length bytes < taken + room
took_short into bytes taken room got e less within =
    let one : length (take got into) ≡ min got (length into) = length-take got into in
    let two : length (take room (drop taken bytes)) ≡ min room (length bytes - taken) = length-take room (drop taken bytes) ∙ ap (min room) (length-drop taken bytes) in
    omega (arith, one, two, ap length e, less, within)

pub took_all : (s : Stream) (into bytes : List ℕ) (taken room got : ℕ) → StandsAt s bytes (taken + got) → take got into ≡ take room (drop taken bytes) → room ≤ got → got ≤ length into → length into ≡ room
    → (into ≡ take room (drop taken bytes)) × (taken + room ≤ length bytes) × StandsAt s bytes (taken + room)
took_all s into bytes taken room got st e enough within len =
    let all : got ≡ room = omega (arith, enough, within, len) in
    (sym (take_all got into (omega (arith, enough, len))) ∙ e, omega (arith, all, st.taken_is, st.fetched, st.within, st.reach), subst (λ (n : ℕ). StandsAt s bytes (taken + n)) all st)

-- where the file ended too early, that is what the whole fails
pub cause_of : (s : Stream) (into bytes : List ℕ) (taken room : ℕ) (failure : Failure ReaderFault) → Takes (Err failure) s into bytes taken room
    → (length bytes < taken + room → trace_of bytes ≡ Err (layer_fault Short)) → IsCause bytes failure
cause_of s into bytes taken room (Fault reader_faults.Read) takes short = tt
cause_of s into bytes taken room (Fault (reader_faults.Trace fault)) takes short = subst (λ (f : TraceFault). trace_of bytes ≡ Err f) (sym takes.0) (short takes.1)
cause_of s into bytes taken room WantOfMemory takes short = tt

-- ---- entries, one more

values_more : {X : Type 0} (value : List ℕ → X) (size k : ℕ) (bytes : List ℕ) → values value size (suc k) bytes ≡ values value size k bytes ++ value (take size (drop (size * k) bytes)) ∷ []
values_more value size zero bytes = rw mul-zero refl
values_more {X = X} value size (suc k) bytes =
    let next : drop (size * k) (drop size bytes) ≡ drop (size * suc k) bytes = drop-drop (size * k) size bytes ∙ ap (λ (n : ℕ). drop n bytes) (omega (arith, mul-suc size k)) in
    ap (λ (xs : List X). value (take size bytes) ∷ xs) (values_more value size k (drop size bytes) ∙ ap (λ (r : List ℕ). values value size k (drop size bytes) ++ value (take size r) ∷ []) next)

blocks_more : (bytes : List ℕ) (k : ℕ) → first_blocks bytes (suc k) ≡ first_blocks bytes k ++ block_value (take 9 (drop (48 + 9 * k) bytes)) ∷ []
blocks_more bytes k = values_more block_value 9 k (drop 48 bytes) ∙ ap (λ (r : List ℕ). first_blocks bytes k ++ block_value (take 9 r) ∷ []) (at_place (9 * k) 48 (48 + 9 * k) bytes (omega arith))

history_more : (bytes : List ℕ) (k : ℕ) → first_history bytes (suc k) ≡ first_history bytes k ++ history_value (take 9 (drop (52 + 9 * block_count bytes + 9 * k) bytes)) ∷ []
history_more bytes k =
    values_more history_value 9 k (drop (52 + 9 * block_count bytes) bytes)
    ∙ ap (λ (r : List ℕ). first_history bytes k ++ history_value (take 9 r) ∷ []) (at_place (9 * k) (52 + 9 * block_count bytes) (52 + 9 * block_count bytes + 9 * k) bytes (omega arith))

block_added : (object : List ℕ) (ending : ℕ) (bs : List Block) (b : Block) → entries_to object ending bs [] ++ block_given b ∷ [] ≡ entries_to object ending (bs ++ b ∷ []) []
block_added object ending bs b =
    ap (λ (xs : List Entry). entries.Head object ending ∷ xs)
    (ap (λ (xs : List Entry). xs ++ block_given b ∷ []) (append-nil (map block_given bs)) ∙ sym (map-append block_given bs (b ∷ [])) ∙ sym (append-nil (map block_given (bs ++ b ∷ []))))

history_added : (object : List ℕ) (ending : ℕ) (bs : List Block) (hs : List HistoryEntry) (h : HistoryEntry) → entries_to object ending bs hs ++ history_given h ∷ [] ≡ entries_to object ending bs (hs ++ h ∷ [])
history_added object ending bs hs h =
    ap (λ (xs : List Entry). entries.Head object ending ∷ xs)
    (append_assoc (map block_given bs) (map history_given hs) (history_given h ∷ []) ∙ ap (λ (xs : List Entry). map block_given bs ++ xs) (sym (map-append history_given hs (h ∷ []))))

-- ---- blocks

pub block_short : (r : TraceReader) (bytes : List ℕ) (given : List Entry) (left : ℕ) (b : InBlocks r bytes given (left + 1)) → length bytes < 48 + 9 * b.passed + 9 → trace_of bytes ≡ Err (layer_fault Short)
block_short r bytes given left b short = ends_in_blocks bytes b.head.opens (omega (arith, b.count, short))

pub block_next : (old new : TraceReader) (bytes : List ℕ) (given : List Entry) (left : ℕ) (piece : List ℕ) (block : Block) (b : InBlocks old bytes given (left + 1))
    → piece ≡ take 9 (drop (48 + 9 * b.passed) bytes) → StandsAt new.stream bytes (48 + 9 * b.passed + 9) → block ≡ block_value piece → new.head ≡ old.head → new.edges ≡ old.edges
    → ((seen : List Block) → Watched in_order old.order.before old.order.at old.order.failing seen → length seen < 2 ^ 32 - 1 → Watched in_order new.order.before new.order.at new.order.failing (seen ++ block ∷ []))
    → ((seen : List Block) → Watched has_known_flags old.flags.before old.flags.at old.flags.failing seen → length seen < 2 ^ 32 - 1 → Watched has_known_flags new.flags.before new.flags.at new.flags.failing (seen ++ block ∷ []))
    → InBlocks new bytes (given ++ block_given block ∷ []) left
block_next old new bytes given left piece block b piece_is stands block_is head edges order flags =
    let few : length (first_blocks bytes b.passed) < 2 ^ 32 - 1 = omega (arith, length-values block_value 9 b.passed (drop 48 bytes), b.count, b.few) in
    let more : first_blocks bytes b.passed ++ block ∷ [] ≡ first_blocks bytes (suc b.passed) =
    ap (λ (x : Block). first_blocks bytes b.passed ++ x ∷ []) (block_is ∙ ap block_value piece_is) ∙ sym (blocks_more bytes b.passed) in
    let place : 48 + 9 * b.passed + 9 ≡ 48 + 9 * suc b.passed = omega (arith, mul-suc 9 b.passed) in
    record {
      passed = suc b.passed;
      count = omega (arith, b.count);
      few = b.few;
      head = rw head b.head;
      stands = subst (λ (n : ℕ). StandsAt new.stream bytes n) place stands;
      blocks = record {
        order = subst (λ (xs : List Block). Watched in_order new.order.before new.order.at new.order.failing xs) more (order (first_blocks bytes b.passed) b.blocks.order few);
        flags = subst (λ (xs : List Block). Watched has_known_flags new.flags.before new.flags.at new.flags.failing xs) more (flags (first_blocks bytes b.passed) b.blocks.flags few);
      };
      edges = rw edges b.edges;
      gave = rw head (ap (λ (xs : List Entry). xs ++ block_given block ∷ []) b.gave ∙ block_added old.head.object old.head.ending (first_blocks bytes b.passed) block ∙ ap (λ (xs : List Block). entries_to old.head.object old.head.ending xs []) more);
    }

-- ---- the history

pub word_short : (r : TraceReader) (bytes : List ℕ) (given : List Entry) (b : InBlocks r bytes given 0) → length bytes < 48 + 9 * b.passed + 4 → trace_of bytes ≡ Err (layer_fault Short)
word_short r bytes given b short = ends_in_blocks bytes b.head.opens (omega (arith, b.count, short))

pub history_begins : (old new : TraceReader) (bytes : List ℕ) (given : List Entry) (word : List ℕ) (left : ℕ) (b : InBlocks old bytes given 0)
    → word ≡ take 4 (drop (48 + 9 * b.passed) bytes) → StandsAt new.stream bytes (48 + 9 * b.passed + 4) → left ≡ number_value word → left < 2 ^ 32
    → new.head ≡ old.head → new.order ≡ old.order → new.flags ≡ old.flags → new.edges ≡ old.edges → InHistory new bytes given left
unfolding history_count
history_begins old new bytes given word left b word_is stands left_is small head order flags edges =
    let all : b.passed ≡ block_count bytes = omega (arith, b.count) in
    let count : left ≡ history_count bytes = left_is ∙ ap number_value word_is ∙ ap (λ (k : ℕ). number_value (take 4 (drop (48 + 9 * k) bytes))) all in
    let place : 48 + 9 * b.passed + 4 ≡ 52 + 9 * block_count bytes + 9 * 0 = omega (arith, all) in
    let saw : SawBlocks new (first_blocks bytes b.passed) = record { order = rw order b.blocks.order; flags = rw flags b.blocks.flags } in
    record {
      passed = 0;
      count = omega (arith, count);
      few = b.few;
      short = omega (arith, count, small);
      head = rw head b.head;
      stands = subst (λ (n : ℕ). StandsAt new.stream bytes n) place stands;
      blocks = subst (λ (k : ℕ). SawBlocks new (first_blocks bytes k)) all saw;
      edges = rw edges b.edges;
      gave = rw head (subst (λ (k : ℕ). given ≡ entries_to old.head.object old.head.ending (first_blocks bytes k) []) all b.gave);
    }

pub history_short : (r : TraceReader) (bytes : List ℕ) (given : List Entry) (left : ℕ) (h : InHistory r bytes given (left + 1)) → length bytes < 52 + 9 * block_count bytes + 9 * h.passed + 9
    → trace_of bytes ≡ Err (layer_fault Short)
history_short r bytes given left h short = ends_in_history bytes h.head.opens (omega (arith, h.stands.taken_is, h.stands.fetched, h.stands.reach, h.stands.within)) (omega (arith, h.count, short))

pub history_next : (old new : TraceReader) (bytes : List ℕ) (given : List Entry) (left : ℕ) (piece : List ℕ) (entry : HistoryEntry) (h : InHistory old bytes given (left + 1))
    → piece ≡ take 9 (drop (52 + 9 * block_count bytes + 9 * h.passed) bytes) → StandsAt new.stream bytes (52 + 9 * block_count bytes + 9 * h.passed + 9) → entry ≡ history_value piece
    → new.head ≡ old.head → new.order ≡ old.order → new.flags ≡ old.flags
    → ((seen : List HistoryEntry) → Watched has_known_edge old.edges.before old.edges.at old.edges.failing seen → length seen < 2 ^ 32 - 1 → Watched has_known_edge new.edges.before new.edges.at new.edges.failing (seen ++ entry ∷ []))
    → InHistory new bytes (given ++ history_given entry ∷ []) left
history_next old new bytes given left piece entry h piece_is stands entry_is head order flags edges =
    let few : length (first_history bytes h.passed) < 2 ^ 32 - 1 = omega (arith, length-values history_value 9 h.passed (drop (52 + 9 * block_count bytes) bytes), h.count, h.short) in
    let more : first_history bytes h.passed ++ entry ∷ [] ≡ first_history bytes (suc h.passed) =
    ap (λ (x : HistoryEntry). first_history bytes h.passed ++ x ∷ []) (entry_is ∙ ap history_value piece_is) ∙ sym (history_more bytes h.passed) in
    let place : 52 + 9 * block_count bytes + 9 * h.passed + 9 ≡ 52 + 9 * block_count bytes + 9 * suc h.passed = omega (arith, mul-suc 9 h.passed) in
    let blocks : List Block = first_blocks bytes (block_count bytes) in
    record {
      passed = suc h.passed;
      count = omega (arith, h.count);
      few = h.few;
      short = h.short;
      head = rw head h.head;
      stands = subst (λ (n : ℕ). StandsAt new.stream bytes n) place stands;
      blocks = record { order = rw order h.blocks.order; flags = rw flags h.blocks.flags };
      edges = subst (λ (xs : List HistoryEntry). Watched has_known_edge new.edges.before new.edges.at new.edges.failing xs) more (edges (first_history bytes h.passed) h.edges few);
      gave = rw head (ap (λ (xs : List Entry). xs ++ history_given entry ∷ []) h.gave ∙ history_added old.head.object old.head.ending blocks (first_history bytes h.passed) entry
          ∙ ap (λ (xs : List HistoryEntry). entries_to old.head.object old.head.ending blocks xs) more);
    }

-- ---- the end

abbrev tail_place : (r : TraceReader) (bytes : List ℕ) (given : List Entry) → InHistory r bytes given 0 → ℕ
tail_place r bytes given h = 52 + 9 * block_count bytes + 9 * h.passed

same_closing : (r : TraceReader) (bytes : List ℕ) (given : List Entry) (tail wanted : List ℕ) (h : InHistory r bytes given 0) → tail ≡ take 33 (drop (52 + 9 * block_count bytes + 9 * h.passed) bytes)
    → wanted ≡ sha256 (take (52 + 9 * block_count bytes + 9 * h.passed) bytes)
    → closing_of (take 33 (drop (closing_place bytes) bytes)) (sha256 (take (closing_place bytes) bytes)) ≡ closing_of tail wanted
same_closing r bytes given tail wanted h tail_is wanted_is =
    let place : closing_place bytes ≡ 52 + 9 * block_count bytes + 9 * h.passed = omega (arith, h.count) in
    ap (λ (k : ℕ). closing_of (take 33 (drop k bytes)) (sha256 (take k bytes))) place ∙ rw (tail_is, wanted_is) refl

long_enough : (r : TraceReader) (bytes : List ℕ) (given : List Entry) (h : InHistory r bytes given 0) → closing_place bytes ≤ length bytes
long_enough r bytes given h = omega (arith, h.count, h.stands.taken_is, h.stands.fetched, h.stands.reach, h.stands.within)

pub close_wrong : (r : TraceReader) (bytes : List ℕ) (given : List Entry) (tail wanted : List ℕ) (fault : LayerFault) (h : InHistory r bytes given 0) → tail ≡ take 33 (drop (52 + 9 * block_count bytes + 9 * h.passed) bytes)
    → wanted ≡ sha256 (take (52 + 9 * block_count bytes + 9 * h.passed) bytes) → closing_of tail wanted ≡ Err fault → trace_of bytes ≡ Err (layer_fault fault)
close_wrong r bytes given tail wanted fault h tail_is wanted_is e = closed_wrong bytes fault h.head.opens (long_enough r bytes given h) (same_closing r bytes given tail wanted h tail_is wanted_is ∙ e)

close_right : (r : TraceReader) (bytes : List ℕ) (given : List Entry) (tail wanted digest : List ℕ) (h : InHistory r bytes given 0) → tail ≡ take 33 (drop (52 + 9 * block_count bytes + 9 * h.passed) bytes)
    → wanted ≡ sha256 (take (52 + 9 * block_count bytes + 9 * h.passed) bytes) → closing_of tail wanted ≡ Ok digest → trace_of bytes ≡ ordered (closed_by (trace_at bytes) digest)
close_right r bytes given tail wanted digest h tail_is wanted_is e = closed_right bytes digest h.head.opens (long_enough r bytes given h) (same_closing r bytes given tail wanted h tail_is wanted_is ∙ e)

abbrev wrong : {A : Type 0} → TraceFault → Result A TraceFault
wrong fault = Err fault

chain_fails : (a b c : Result (Unit {0}) TraceFault) (t : TraceFile) (fault : TraceFault) → (a >>= λ x. b >>= λ y. c) ≡ Err fault → (a >>= λ x. b >>= λ y. c >>= λ z. Ok t) ≡ Err fault
chain_fails (Err f) b c t fault e = let same : f ≡ fault = cc in ap (λ (x : TraceFault). wrong {A = TraceFile} x) same
chain_fails (Ok x) (Err f) c t fault e = let same : f ≡ fault = cc in ap (λ (x : TraceFault). wrong {A = TraceFile} x) same
chain_fails (Ok x) (Ok y) (Err f) t fault e = let same : f ≡ fault = cc in ap (λ (x : TraceFault). wrong {A = TraceFile} x) same
chain_fails (Ok x) (Ok y) (Ok z) t fault e = absurd cc

chain_passes : (a b c : Result (Unit {0}) TraceFault) (t : TraceFile) (u : Unit {0}) → (a >>= λ x. b >>= λ y. c) ≡ Ok u → (a >>= λ x. b >>= λ y. c >>= λ z. Ok t) ≡ Ok t
chain_passes (Err f) b c t u e = absurd cc
chain_passes (Ok x) (Err f) c t u e = absurd cc
chain_passes (Ok x) (Ok y) (Err f) t u e = absurd cc
chain_passes (Ok x) (Ok y) (Ok z) t u e = refl

abbrev checked : TraceFile → Result (Unit {0}) TraceFault
checked t = verdict_of (first_failing in_order None 0 t.blocks) (first_failing has_known_flags None 0 t.blocks) (first_failing has_known_edge None 0 t.history)

ordered_fails : (t : TraceFile) (fault : TraceFault) → checked t ≡ Err fault → ordered t ≡ Err fault
ordered_fails t fault e = chain_fails (unless (first_failing in_order None 0 t.blocks) faults.Order) (unless (first_failing has_known_flags None 0 t.blocks) faults.Flag) (unless (first_failing has_known_edge None 0 t.history) faults.Flag) t fault e

ordered_passes : (t : TraceFile) (u : Unit {0}) → checked t ≡ Ok u → ordered t ≡ Ok t
ordered_passes t u e = chain_passes (unless (first_failing in_order None 0 t.blocks) faults.Order) (unless (first_failing has_known_flags None 0 t.blocks) faults.Flag) (unless (first_failing has_known_edge None 0 t.history) faults.Flag) t u e

-- what was kept of the checks is what they give of all entries
kept_checks : (r : TraceReader) (bytes : List ℕ) (given : List Entry) (digest : List ℕ) (h : InHistory r bytes given 0) → checked (closed_by (trace_at bytes) digest) ≡ verdict_of r.order.failing r.flags.failing r.edges.failing
kept_checks r bytes given digest h =
    let all : h.passed ≡ history_count bytes = omega (arith, h.count) in
    let edge : r.edges.failing ≡ first_failing has_known_edge None 0 (first_history bytes (history_count bytes)) = h.edges.first ∙ ap (λ (k : ℕ). first_failing has_known_edge None 0 (first_history bytes k)) all in
    rw (h.blocks.order.first, h.blocks.flags.first, edge) refl

pub close_failing : (r : TraceReader) (bytes : List ℕ) (given : List Entry) (tail wanted digest : List ℕ) (fault : TraceFault) (h : InHistory r bytes given 0) → tail ≡ take 33 (drop (52 + 9 * block_count bytes + 9 * h.passed) bytes)
    → wanted ≡ sha256 (take (52 + 9 * block_count bytes + 9 * h.passed) bytes) → closing_of tail wanted ≡ Ok digest → verdict_of r.order.failing r.flags.failing r.edges.failing ≡ Err fault → trace_of bytes ≡ Err fault
close_failing r bytes given tail wanted digest fault h tail_is wanted_is e verdict =
    close_right r bytes given tail wanted digest h tail_is wanted_is e ∙ ordered_fails (closed_by (trace_at bytes) digest) fault (kept_checks r bytes given digest h ∙ verdict)

pub close_passed : (r : TraceReader) (bytes : List ℕ) (given : List Entry) (tail wanted digest : List ℕ) (u : Unit {0}) (h : InHistory r bytes given 0) → tail ≡ take 33 (drop (52 + 9 * block_count bytes + 9 * h.passed) bytes)
    → wanted ≡ sha256 (take (52 + 9 * block_count bytes + 9 * h.passed) bytes) → closing_of tail wanted ≡ Ok digest → verdict_of r.order.failing r.flags.failing r.edges.failing ≡ Ok u → IsRead bytes (given ++ entries.Close digest ∷ [])
close_passed r bytes given tail wanted digest u h tail_is wanted_is e verdict =
    let all : h.passed ≡ history_count bytes = omega (arith, h.count) in
    let gave : given ≡ entries_to (take 32 (drop 8 bytes)) (number_value (take 4 (drop 40 bytes))) (first_blocks bytes (block_count bytes)) (first_history bytes (history_count bytes)) = h.gave ∙ rw (h.head.object, h.head.ending, all) refl in
    record {
      file = closed_by (trace_at bytes) digest;
      passed = close_right r bytes given tail wanted digest h tail_is wanted_is e ∙ ordered_passes (closed_by (trace_at bytes) digest) u (kept_checks r bytes given digest h ∙ verdict);
      gave = ap (λ (xs : List Entry). xs ++ entries.Close digest ∷ []) gave;
    }

-- ---- the front

pub front_wrong : (into bytes : List ℕ) (got : ℕ) (fault : LayerFault) → take got into ≡ take 48 (drop 0 bytes) → heading (take got into) ≡ Err fault → trace_of bytes ≡ Err (layer_fault fault)
front_wrong into bytes got fault e wrong = head_fault bytes fault (ap heading (sym e) ∙ wrong)

pub front_right : (r : TraceReader) (into bytes : List ℕ) (got : ℕ) → take got into ≡ take 48 (drop 0 bytes) → heading (take got into) ≡ Ok r.head → got ≤ 48 → length into ≡ 48 → r.head.blocks < 2 ^ 32 → StandsAt r.stream bytes (0 + got)
    → SawBlocks r [] → Watched has_known_edge r.edges.before r.edges.at r.edges.failing [] → InHead r bytes []
front_right r into bytes got e right most len few stands blocks edges =
    let head : IsHead bytes r.head = head_found bytes r.head (ap heading (sym e) ∙ right) in
    let one : length (take got into) ≡ min got (length into) = length-take got into in
    let two : length (take 48 bytes) ≡ min 48 (length bytes) = length-take 48 bytes in
    let place : 0 + got ≡ 48 = omega (arith, one, two, ap length e, most, len, head.opens.long) in
    record {
      head = head;
      few = omega (arith, few, head.blocks);
      stands = subst (λ (n : ℕ). StandsAt r.stream bytes n) place stands;
      blocks = blocks;
      edges = edges;
      gave = refl;
    }

-- the head is given, and all blocks are left
pub head_given : (old new : TraceReader) (bytes : List ℕ) (given : List Entry) → InHead old bytes given → new.stream ≡ old.stream → new.head ≡ old.head → new.order ≡ old.order → new.flags ≡ old.flags → new.edges ≡ old.edges
    → InBlocks new bytes (given ++ entries.Head old.head.object old.head.ending ∷ []) old.head.blocks
head_given old new bytes given h stream head order flags edges = record {
  passed = 0;
  count = omega (arith, h.head.blocks);
  few = h.few;
  head = rw head h.head;
  stands = rw stream (subst (λ (n : ℕ). StandsAt old.stream bytes n) forty_eight h.stands);
  blocks = record { order = rw order h.blocks.order; flags = rw flags h.blocks.flags };
  edges = rw edges h.edges;
  gave = rw (h.gave, head) refl;
}
  where
    forty_eight : 48 ≡ 48 + 9 * 0
    forty_eight = refl

-- ---- what was given, whatever the files hold

pub gave_block : (given : List Entry) (left : ℕ) (block : Block) → GaveBlocks given (left + 1) → GaveBlocks (given ++ block_given block ∷ []) left
gave_block given left block g = record {
  object = g.object;
  ending = g.ending;
  blocks = g.blocks ++ block ∷ [];
  gave = ap (λ (xs : List Entry). xs ++ block_given block ∷ []) g.gave ∙ block_added g.object g.ending g.blocks block;
  few = omega (arith, g.few, length-append g.blocks (block ∷ []));
}

pub gave_history : (given : List Entry) (left : ℕ) (entry : HistoryEntry) → GaveHistory given (left + 1) → GaveHistory (given ++ history_given entry ∷ []) left
gave_history given left entry g = record {
  object = g.object;
  ending = g.ending;
  blocks = g.blocks;
  history = g.history ++ entry ∷ [];
  gave = ap (λ (xs : List Entry). xs ++ history_given entry ∷ []) g.gave ∙ history_added g.object g.ending g.blocks g.history entry;
  few = g.few;
  short = omega (arith, g.short, length-append g.history (entry ∷ []));
}
