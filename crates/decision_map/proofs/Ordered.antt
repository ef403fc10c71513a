-- Blocks that pass the trace's own check of order.
use Rattle.std.proofs.Common.{◌≡◌, ℕ, suc, zero, ◌+◌, ◌%◌, ◌<◌, Bool, true, false, ◌&&◌, cond, List, [], ◌∷◌, length, get_or, Option, Some, None, refl, eqb, eqb-true, arith}
use Rattle.std.proofs.Math.Dec.{leb, ltb}
use Rattle.std.proofs.lemmas.Bool.{and_parts, ltb-true}
use Rattle.spelling.specs.Checks.{first_failing}
use Rattle.trace_format.specs.declared.trace.Block.{Block}
use Rattle.trace_format.specs.Checks.{in_order, starts_above}
use Rattle.decision_map.specs.Blocks.{AreOrdered}

step_by : (before : Option Block) (b : Block) (bs : List Block) (at : ℕ) (t : Bool) → in_order before b ≡ t
    → cond t (first_failing in_order (Some b) (at + 1) bs) (Some at) ≡ None
    → (in_order before b ≡ true) × (first_failing in_order (Some b) (at + 1) bs ≡ None)
step_by before b bs at true is none = (is, none)
step_by before b bs at false is none = cc

-- the first block passes, and those behind it do
step : (before : Option Block) (b : Block) (bs : List Block) (at : ℕ) → first_failing in_order before at (b ∷ bs) ≡ None
    → (in_order before b ≡ true) × (first_failing in_order (Some b) (at + 1) bs ≡ None)
step before b bs at none = step_by before b bs at (in_order before b) refl none

-- what the check says of a block: a multiple of 4, and above the one before
aligned_here : (before : Option Block) (b : Block) → in_order before b ≡ true → b.start % 4 ≡ 0
aligned_here before b is =
    let whole = and_parts ((eqb (b.start % 4) 0 && eqb (b.last % 4) 0) && leb b.start b.last) (starts_above before b.start) is in
    let first = and_parts (eqb (b.start % 4) 0 && eqb (b.last % 4) 0) (leb b.start b.last) whole.0 in
    eqb-true (b.start % 4) 0 (and_parts (eqb (b.start % 4) 0) (eqb (b.last % 4) 0) first.0).0

above_here : (before b : Block) → in_order (Some before) b ≡ true → before.start < b.start
above_here before b is =
    ltb-true before.start b.start (and_parts ((eqb (b.start % 4) 0 && eqb (b.last % 4) 0) && leb b.start b.last) (ltb before.start b.start) is).1

aligned : (before : Option Block) (at : ℕ) (bs : List Block) → first_failing in_order before at bs ≡ None
    → (i : ℕ) (d : Block) → i < length bs → (get_or bs i d).start % 4 ≡ 0
aligned before at [] none i d within = absurd (omega arith)
aligned before at (b ∷ bs) none zero d within = aligned_here before b (step before b bs at none).0
aligned before at (b ∷ bs) none (suc i) d within = aligned (Some b) (at + 1) bs (step before b bs at none).1 i d (omega arith)

above : (before : Block) (at : ℕ) (bs : List Block) → first_failing in_order (Some before) at bs ≡ None
    → (i : ℕ) (d : Block) → i < length bs → before.start < (get_or bs i d).start
above before at [] none i d within = absurd (omega arith)
above before at (b ∷ bs) none zero d within = above_here before b (step (Some before) b bs at none).0
above before at (b ∷ bs) none (suc i) d within =
    omega (arith, above_here before b (step (Some before) b bs at none).0, above b (at + 1) bs (step (Some before) b bs at none).1 i d (omega arith))

rise : (before : Option Block) (at : ℕ) (bs : List Block) → first_failing in_order before at bs ≡ None
    → (i j : ℕ) (d : Block) → i < j → j < length bs → (get_or bs i d).start < (get_or bs j d).start
rise before at [] none i j d before_j within = absurd (omega arith)
rise before at (b ∷ bs) none i zero d before_j within = absurd (omega arith)
rise before at (b ∷ bs) none zero (suc j) d before_j within = above b (at + 1) bs (step before b bs at none).1 j d (omega arith)
rise before at (b ∷ bs) none (suc i) (suc j) d before_j within = rise (Some b) (at + 1) bs (step before b bs at none).1 i j d (omega arith) (omega arith)

pub ordered_law : (bs : List Block) → first_failing in_order None 0 bs ≡ None → AreOrdered bs
ordered_law bs none = record { rise = rise None 0 bs none; aligned = aligned None 0 bs none }
