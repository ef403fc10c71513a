-- The trace of a transcript passes the checks of its format.
use Rattle.std.proofs.Common.{◌≡◌, ℕ, suc, ◌+◌, ◌<◌, ◌≤◌, ◌%◌, Bool, true, false, cond, ◌==◌, ◌&&◌, nat_le, eq-eqb, lt-ltb, List, [], ◌∷◌, map, length, Option, Some, None, option_map, refl, ap, ◌∙◌, arith}
use Rattle.std.specs.List.{cons_option}
use Rattle.std.proofs.lemmas.Bool.{le-leb}
use Rattle.decision_map.proofs.Sound.{mappable}
use Rattle.decision_map.specs.Blocks.{block_end}
use Rattle.decision_map.specs.Kinds.{kinds_of_text}
use Rattle.cov_base.specs.Lists.{Everywhere}
use Rattle.object_format.specs.declared.object.Object.{Object}
use Rattle.object_facts.specs.Object.{facts_of, IsTranscript}
use Rattle.rv_semantics.specs.declared.stepped.Seen.{Seen}
use Rattle.spelling.specs.Checks.{first_failing}
use Rattle.trace_format.specs.Checks.{in_order, starts_above, has_known_flags, has_known_edge, Passes}
use Rattle.trace_format.specs.declared.trace.Block.{Block}
use Rattle.trace_format.specs.declared.trace.HistoryEntry.{HistoryEntry}
use Rattle.transcript.proofs.Fits.{set_of_text, blocks_rise}
use Rattle.transcript.specs.Facts.{Facts}
use Rattle.transcript.specs.Pieces.{Piece, closed, set_of, IsPieceOf, StartsRise}
use Rattle.transcript.specs.Trace.{Block as Executed, Branched, block_of, trace_of}
use Rattle.trace_record.specs.declared.mark.Mark.{Mark}
use Rattle.trace_record.specs.Marks.{bits}
use Rattle.trace_record.specs.Recorded.{Recorded, entry_of, Records}
use Rattle.trace_record.specs.Written.{is_start, block_in, block_to, blocks_from, traced}
use Rattle.trace_record.proofs.Written.{blocks_are}

-- the block before stands before these pieces
abbrev Above : Option Block → List Piece → Type 0
Above None ps = Unit {0}
Above (Some b) ps = Everywhere (λ q. b.start < q.start) ps

above_is : (before : Option Block) (p : Piece) (ps : List Piece) → Above before (p ∷ ps) → starts_above before p.start ≡ true
above_is None p ps above = refl
above_is (Some b) p ps above = lt-ltb b.start p.start above.0

all_four : (a b c d : Bool) → a ≡ true → b ≡ true → c ≡ true → d ≡ true → (a && b && c && d) ≡ true
all_four true true true true first second third fourth = refl
all_four true true true false first second third fourth = absurd (cc fourth)
all_four true true false d first second third fourth = absurd (cc third)
all_four true false c d first second third fourth = absurd (cc second)
all_four false b c d first second third fourth = absurd (cc first)

ordered : (o : Facts) (ss : List Seen) (ps : List Piece) (before : Option Block) (place : ℕ) → Everywhere (IsPieceOf o) ps → StartsRise ps → Above before ps
    → first_failing in_order before place (map block_in (map (block_of ss) ps)) ≡ None
ordered o ss [] before place pieces rise above = refl
ordered o ss (p ∷ ps) before place pieces rise above =
    let here : in_order before (block_in (block_of ss p)) ≡ true =
    all_four (p.start % 4 == 0) (p.last % 4 == 0) (nat_le p.start p.last) (starts_above before p.start)
    (eq-eqb (p.start % 4) 0 pieces.0.start_aligned) (eq-eqb (p.last % 4) 0 pieces.0.last_aligned)
    (le-leb p.start p.last pieces.0.forward) (above_is before p ps above) in
    ap (λ (b : Bool). cond b (first_failing in_order (Some (block_in (block_of ss p))) (place + 1) (map block_in (map (block_of ss) ps))) (Some place)) here
    ∙ ordered o ss ps (Some (block_in (block_of ss p))) (place + 1) pieces.1 rise.1 rise.0

few_flags : (t n : Bool) → nat_le (bits t n false) 3 ≡ true
few_flags true true = refl
few_flags true false = refl
few_flags false true = refl
few_flags false false = refl

known_flags : (bs : List Executed) (before : Option Block) (place : ℕ) → first_failing has_known_flags before place (map block_in bs) ≡ None
known_flags [] before place = refl
known_flags (b ∷ bs) before place =
    ap (λ (c : Bool). cond c (first_failing has_known_flags (Some (block_in b)) (place + 1) (map block_in bs)) (Some place)) (few_flags b.taken b.not_taken)
    ∙ known_flags bs (Some (block_in b)) (place + 1)

one_edge : (taken : Bool) → nat_le (cond taken 1 0) 1 ≡ true
one_edge true = refl
one_edge false = refl

known_edges : (bs : List Branched) (before : Option HistoryEntry) (place : ℕ) → first_failing has_known_edge before place (map entry_of bs) ≡ None
known_edges [] before place = refl
known_edges (b ∷ bs) before place =
    ap (λ (c : Bool). cond c (first_failing has_known_edge (Some (entry_of b)) (place + 1) (map entry_of bs)) (Some place)) (one_edge b.taken)
    ∙ known_edges bs (Some (entry_of b)) (place + 1)

pub passes_traced : (o : Object) (ss : List Seen) (ending : ℕ) → IsTranscript o ss → Passes (traced o ss ending)
passes_traced o ss ending transcript = record {
  order = ordered (facts_of o) ss (set_of (closed (facts_of o) ss)) None 0
      (set_of_text (facts_of o) ss transcript.runs_on) (blocks_rise (facts_of o) ss transcript.runs_on) tt;
  flags = known_flags (trace_of (facts_of o) ss).blocks None 0;
  edges = known_edges (trace_of (facts_of o) ss).history None 0;
}

-- the trace that is made of what a recorder holds
pub made_trace : (r : Recorded) (ss : List Seen) → Records r ss → (ending : ℕ) (object : List ℕ) (blocks : List Block) (history : List HistoryEntry)
    → object ≡ r.object.closing → blocks ≡ blocks_from r.object r.marks 65536 r.marks → history ≡ r.history
    → record { object = object; ending = ending; blocks = blocks; history = history } ≡ traced r.object ss ending
made_trace r ss records ending object blocks history first second third =
    let all_blocks : blocks ≡ map block_in (trace_of (facts_of r.object) ss).blocks = second ∙ blocks_are r ss records in
    let all_history : history ≡ map entry_of (trace_of (facts_of r.object) ss).history = third ∙ records.history in
    λ i. record { object = first i; ending = ending; blocks = all_blocks i; history = all_history i }

no_longer : (o : Object) (marks : List Mark) (start : ℕ) (ms : List Mark) → length (blocks_from o marks start ms) ≤ length ms
no_longer o marks start [] = omega arith
no_longer o marks start (m ∷ ms) =
    by_mark (is_start m) (block_end (kinds_of_text o.text) start) (blocks_from o marks (start + 4) ms) (no_longer o marks (start + 4) ms)
  where
    by_mark : (b : Bool) (end : Option ℕ) (bs : List Block) → length bs ≤ length ms
        → length (cons_option (cond b (option_map (block_to marks start) end) None) bs) ≤ suc (length ms)
    by_mark true None bs rest = omega (arith, rest)
    by_mark true (Some last) bs rest = omega (arith, rest)
    by_mark false end bs rest = omega (arith, rest)

pub few_blocks : (r : Recorded) (ss : List Seen) → Records r ss → length (blocks_from r.object r.marks 65536 r.marks) < 4294967296
few_blocks r ss records =
    let few = (mappable r.object records.object.field records.object.decision records.object.role).few in
    let long = no_longer r.object r.marks 65536 r.marks in
    omega (arith, few, long, records.long)
