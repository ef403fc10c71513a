-- Numbers of words that are counted up to one past the largest limit.
use Rattle.std.specs.Prelude.{ℕ, ◌+◌, nat_lt, Option, Some, None, if◌then◌else◌}

abbrev pub word_cap : ℕ
word_cap = 262145

abbrev pub capped : ℕ → ℕ
capped n = if nat_lt word_cap n then word_cap else n

-- so many words and more, where they are no more than this
abbrev pub counted_on : (most before words : ℕ) → Option ℕ
counted_on most before words = if nat_lt most (before + words) then None else Some (before + words)
