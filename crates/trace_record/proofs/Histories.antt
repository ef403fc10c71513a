-- A history has at most an entry for each executed instruction.
use Rattle.std.proofs.Common.{◌≡◌, suc, ◌≤◌, List, [], ◌∷◌, filter_map, length, Option, Some, None, ap, ◌∙◌, arith}
use Rattle.std.specs.List.{cons_option}
use Rattle.std.proofs.lemmas.List.{length-map}
use Rattle.object_facts.specs.Object.{facts_of}
use Rattle.rv_semantics.specs.declared.stepped.Seen.{Seen}
use Rattle.trace_format.specs.declared.trace.HistoryEntry.{HistoryEntry}
use Rattle.transcript.specs.Facts.{Facts}
use Rattle.transcript.specs.Trace.{Branched, kept_of}
use Rattle.trace_record.specs.Recorded.{Recorded, entry_of, Records}

few_kept : (o : Facts) (ss : List Seen) → length (filter_map (kept_of o) ss) ≤ length ss
few_kept o [] = omega arith
few_kept o (s ∷ ss) = by_kept (kept_of o s) (filter_map (kept_of o) ss) (few_kept o ss)
  where
    by_kept : (kept : Option Branched) (bs : List Branched) → length bs ≤ length ss → length (cons_option kept bs) ≤ suc (length ss)
    by_kept None bs rest = omega (arith, rest)
    by_kept (Some b) bs rest = omega (arith, rest)

pub short_history : (r : Recorded) (ss : List Seen) → Records r ss → length r.history ≤ length ss
short_history r ss records =
    let kept : List Branched = filter_map (kept_of (facts_of r.object)) ss in
    let long : length r.history ≡ length kept =
    ap (λ (hs : List HistoryEntry). length hs) records.history ∙ length-map kept entry_of in
    omega (arith, long, few_kept (facts_of r.object) ss)
