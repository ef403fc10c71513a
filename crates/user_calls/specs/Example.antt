-- An example of which runs a file is of.
use Rattle.std.specs.Prelude.{◌≡◌, ◌≢◌, ℕ, ℤ, List, [], ◌∷◌, Some}
use Rattle.command_words.specs.Task.{Consolidate}
use Rattle.commands.specs.declared.status.Status.TheVariants.{Done}
use Rattle.user_calls.specs.Calls.{ACall, RanOn, IsOfRuns}

-- the call consolidated these files under this name, and is done
abbrev pub Consolidated : (object : List ℕ) → ACall → (name : List ℕ) → (names : List (List ℕ)) → Type 0
Consolidated object c name names = (c.task ≡ Some (Consolidate object name names)) × (c.status ≡ Done)

-- Two runs, their traces consolidated, and that file consolidated with the first trace: the last file is of the first
-- run, the second, and the first again.
unfoldable pub ThreeRunsInOneFile : Type 0
ThreeRunsInOneFile =
    (object one two both all : List ℕ) (x y : List ℤ) (a b c d : ACall) → one ≢ two → one ≢ both
    → RanOn object a one (x ∷ []) → RanOn object b two (y ∷ [])
    → Consolidated object c both (one ∷ two ∷ []) → Consolidated object d all (both ∷ one ∷ [])
    → IsOfRuns object (d ∷ c ∷ b ∷ a ∷ []) all (x ∷ y ∷ x ∷ [])
