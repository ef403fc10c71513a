-- When a statement and its code end alike.
use Rattle.std.specs.Prelude.{◌≡◌, ℕ, ℤ, Option, Bool, true}
use Rattle.ada_meaning.specs.State.{World, Outcome, Gives, Raises, OutOfFuel}
use Rattle.ada_meaning.specs.Statements.{Flow, goes_on, leaves, returns}
use Rattle.kernel_ir.specs.World.{Ended, Ends, Exits, Returns, Cut}
use Rattle.kernel_ir.specs.World as kernel
use Rattle.statement_code.specs.Frames.{Observed}

-- both go on, in states that are related so, or leave a loop that they stand in; both return, with a result; both raise an exception, or are
-- cut off
abbrev pub Step : (Back : Option ℤ → World → kernel.World → Type 0) → (looping : Bool) → (Stop : ℕ → World → kernel.World → Type 0) → (After : World → kernel.World → Type 0)
    → Outcome Flow → Ended → Type 0
Step Back looping Stop After (Gives goes_on w) (Ends v) = After w v
Step Back looping Stop After (Gives leaves w) (Exits v) = (looping ≡ true) × After w v
Step Back looping Stop After (Gives (returns r) w) (Returns v) = Back r w v
Step Back looping Stop After (Raises e w) (kernel.Raises f v) = (f ≡ e) × Stop e w v
Step Back looping Stop After (OutOfFuel w) (Cut v) = Observed 0 w.seen v.seen
Step Back looping Stop After r o = ⊥
