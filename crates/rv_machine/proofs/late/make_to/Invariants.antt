use Rattle.std.proofs.Common.{◌≡◌, ℕ, ◌-◌, ◌≤◌, vec_len, vec_capacity, slice_index}
use Rattle.rv_machine.proofs.late.make_to.Given as goal

-- the words that are made so far are read as before
abbrev pub invariant-loop-words : goal.invariant-loop-words
invariant-loop-words l = record {
  room : vec_capacity l.fn.words ≤ vec_capacity l.words;
  behind : vec_len l.words ≤ l.count;
  same : (k : ℕ) → slice_index l.words.items k ≡ slice_index l.fn.words.items k;
}

abbrev pub decreases-loop-words : goal.decreases-loop-words
decreases-loop-words l = l.count - vec_len l.words
