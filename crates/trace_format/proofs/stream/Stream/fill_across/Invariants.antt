-- The bytes taken so far stand at the front of what is filled.
use Rattle.std.proofs.Common.{◌≡◌, ℕ, ◌+◌, ◌^◌, ◌<◌, List, length, take, drop, string_bytes}
use Rattle.trace_format.specs.Stream.{AreTold, StandsAt}
use Rattle.trace_format.proofs.stream.Stream.fill_across.Given as goal

abbrev pub invariant-loop-place : goal.invariant-loop-place
invariant-loop-place g l =
    ((bytes : List ℕ) (taken : ℕ) → AreTold (g.F.Files.held l.fn.files) (string_bytes l.fn.self.name) bytes → StandsAt l.fn.self bytes taken → taken < 2 ^ 40 → length l.fn.into < 2 ^ 16
    → (take l.place l.into ≡ take l.place (drop taken bytes)) × StandsAt l.self bytes (taken + l.place))
    × (length l.into ≡ length l.fn.into)
    × (string_bytes l.self.name ≡ string_bytes l.fn.self.name)
    × (g.F.Files.held l.files ≡ g.F.Files.held l.fn.files)
    × (g.F.Files.reads_failed l.files ≡ g.F.Files.reads_failed l.fn.files)
    × (g.F.Files.writes_failed l.files ≡ g.F.Files.writes_failed l.fn.files)
