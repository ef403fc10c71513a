-- Where a file that is fetched a part at a time stands.
use Rattle.std.specs.Prelude.{◌≡◌, ℕ, ◌+◌, ◌<◌, ◌≤◌, ◌⊎◌, Bool, true, false, List, length, take, drop, Option, None, Some, IsSomeAnd}
use Rattle.sha2.specs.Hashers.{Holds256}
use Rattle.cov_io.specs.Outside.{Held, Holds}
use Rattle.trace_format.specs.declared.stream.Stream.{Stream}

-- the files tell what they hold, and this name has these bytes
abbrev pub AreTold : Option Held → List ℕ → List ℕ → Type 0
AreTold held name bytes = IsSomeAnd held (Holds name bytes)

-- so many of the bytes were taken. The part that was fetched begins at start, and what stands before it was hashed
pub record StandsAt (s : Stream) (bytes : List ℕ) (taken : ℕ) : Type 0 where
  pub start : ℕ
  pub hashed : Holds256 s.hasher (take start bytes)
  pub part : s.part.items ≡ take (length s.part.items) (drop start bytes)
  pub fetched : s.fetched ≡ start + length s.part.items
  pub reach : s.fetched ≤ length bytes
  pub taken_is : taken ≡ start + s.at
  pub within : s.at ≤ length s.part.items

-- whether there were as many bytes as there was room for in the part in memory: then they were taken, and else none
abbrev pub TookAhead : Bool → Stream → (into bytes : List ℕ) → (taken room : ℕ) → Type 0
TookAhead true s into bytes taken room = (into ≡ take room (drop taken bytes)) × StandsAt s bytes (taken + room)
TookAhead false s into bytes taken room = StandsAt s bytes taken

-- how many were taken
abbrev pub count_of : Option ℕ → ℕ
count_of None = 0
count_of (Some b) = 1

-- a byte stands next in the part in memory, or all bytes were taken
abbrev pub HasNext : Stream → List ℕ → ℕ → Type 0
HasNext s bytes taken = (s.at < length s.part.items) ⊎ (length bytes ≤ taken)
