use Rattle.std.proofs.Common.{◌≡◌, ◌++◌, ◌≤◌, length, drop}
use Rattle.std.specs.List.{flat_map}
use Rattle.commands.specs.RunLines.{put_line}
use Rattle.commands.proofs.run_lines.put_lines.Given as goal

-- the lines so far, and those of the words that are left, are all lines
abbrev pub invariant-loop-word : goal.invariant-loop-word
invariant-loop-word l = record {
  within : l.word-index ≤ length l.words;
  lines : l.text.items ++ flat_map put_line (drop l.word-index l.words) ≡ flat_map put_line l.words;
}
