use Rattle.std.proofs.Common.{◌≡◌, ℕ, ◌+◌, ◌-◌, ◌&&◌, nat_le, nat_lt, slice_index, if◌then◌else◌}
use Rattle.rv_machine.specs.Machine.{word_of}
use Rattle.rv_machine.proofs.words.Words.place.Given as goal

-- the words up to i are placed, and the rest of the memory is as it was
abbrev pub invariant-loop-i : goal.invariant-loop-i
invariant-loop-i l = record {
  placed : (k : ℕ) → word_of l.self k ≡
      (if nat_le l.first k && nat_lt k (l.first + l.i)
      then slice_index l.words (k - l.first)
      else word_of l.fn.self k);
}
