use Rattle.std.proofs.Common.{◌≡◌, ◌≤◌, ◌++◌, ◌∷◌, [], length, drop, map, slice_index_or}
use Rattle.serde_json.specs.View.{view}
use Rattle.annotated_report.specs.Numbered.{each_numbered}
use Rattle.json_report.specs.Objects.{region_object}
use Rattle.json_report.proofs.regions.counted_values.Given as goal

-- the objects so far, and those of the regions that are left
abbrev pub invariant-loop-n : goal.invariant-loop-n
invariant-loop-n l = record {
  within : l.n ≤ length l.regions;
  rest : map view l.values.items ++ each_numbered (λ n region. region_object (slice_index_or l.counts n 0) region ∷ []) l.n (drop l.n l.regions)
      ≡ each_numbered (λ n region. region_object (slice_index_or l.counts n 0) region ∷ []) 0 l.regions;
}
