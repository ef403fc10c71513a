-- What a trace that passes says of its entries.
use Rattle.std.proofs.Common.{◌≡◌, ℕ, ◌%◌, ◌<◌, ◌≤◌, Bool, true, false, Some, None, refl, arith}
use Rattle.std.specs.Prelude.{◌&&◌, ◌==◌, nat_le, slice_get}
use Rattle.std.proofs.lemmas.Bool.{eqb-true, leb-true, ltb-true}
use Rattle.spelling.specs.Checks.{behind}
use Rattle.spelling.proofs.Passing.{passes_each, each_above}
use Rattle.trace_format.specs.declared.trace.Block.{Block}
use Rattle.trace_format.specs.declared.trace.HistoryEntry.{HistoryEntry}
use Rattle.trace_format.specs.declared.trace.Trace.{Trace}
use Rattle.trace_format.specs.Checks.{starts_above, in_order, has_known_flags, has_known_edge, Passes, IsWellPlaced}

both : (x y : Bool) → (x && y) ≡ true → (x ≡ true) × (y ≡ true)
both true y e = (refl, e)
both false y e = absurd cc

pub block_passes : (t : Trace) (at : ℕ) (b : Block) → Passes t → slice_get t.blocks at ≡ Some b → IsWellPlaced b
block_passes t at b passes e =
    let order = passes_each in_order None 0 t.blocks passes.order at b e in
    let flags = passes_each has_known_flags None 0 t.blocks passes.flags at b e in
    let last_two = both _ (starts_above (behind None t.blocks at) b.start) order in
    let first_two = both _ (nat_le b.start b.last) last_two.0 in
    let aligned = both (b.start % 4 == 0) (b.last % 4 == 0) first_two.0 in
    record {
      start_aligned = eqb-true (b.start % 4) 0 aligned.0;
      last_aligned = eqb-true (b.last % 4) 0 aligned.1;
      ends_after = leb-true b.start b.last first_two.1;
      flags_known = leb-true b.flags 3 flags;
    }

above : (a b : Block) → in_order (Some a) b ≡ true → a.start < b.start
above a b e = ltb-true a.start b.start (both _ (starts_above (Some a) b.start) e).1

pub blocks_rise : (t : Trace) (i j : ℕ) (a b : Block) → Passes t → i < j → slice_get t.blocks i ≡ Some a → slice_get t.blocks j ≡ Some b → a.start < b.start
blocks_rise t i j a b passes lt e f =
    each_above in_order (λ x y. x.start < y.start) above (λ x y z p q. omega (arith, p, q)) None 0 t.blocks passes.order i j a b lt e f

pub entry_passes : (t : Trace) (at : ℕ) (h : HistoryEntry) → Passes t → slice_get t.history at ≡ Some h → h.edge ≤ 1
entry_passes t at h passes e = leb-true h.edge 1 (passes_each has_known_edge None 0 t.history passes.edges at h e)
