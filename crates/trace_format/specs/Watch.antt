-- A check that is made as the entries of a list come.
use Rattle.std.specs.Prelude.{◌≡◌, ℕ, Bool, List, length, Option, Some, None, if◌then◌else◌}
use Rattle.spelling.specs.Checks.{first_failing, behind}

-- the place that failed first, after one entry more
abbrev pub kept : Option ℕ → Bool → ℕ → Option ℕ
kept (Some first) passes at = Some first
kept None passes at = if passes then None else Some at

-- after these entries: the last of them, how many there are, and the place of the first that fails
pub record Watched {X : Type 0} (passes : Option X → X → Bool) (before : Option X) (at : ℕ) (failing : Option ℕ) (seen : List X) : Type 0 where
  pub before_is : before ≡ behind None seen (length seen)
  pub count : at ≡ length seen
  pub first : failing ≡ first_failing passes None 0 seen
