use Rattle.std.specs.Prelude.{ℕ, ◌+◌, List, length, take, drop, Option, Some, None, nat_le, if◌then◌else◌}
use Rattle.std.specs.Int.{w32, from_le_bytes}

-- the number that four bytes spell from a place on, the least significant byte first; none where fewer than four stand there
abbrev pub number_at : List ℕ → ℕ → Option ℕ
number_at bytes at = if nat_le (at + 4) (length bytes) then Some (from_le_bytes w32 (take 4 (drop at bytes))) else None
