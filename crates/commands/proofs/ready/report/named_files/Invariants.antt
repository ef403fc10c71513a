use Rattle.std.proofs.Common.{◌≡◌, map, take}
use Rattle.commands.proofs.ready.report.named_files.Given as goal

-- the names so far
abbrev pub invariant-loop-entry : goal.invariant-loop-entry
invariant-loop-entry l = map (λ file. file.name) l.files.items ≡ map (λ entry. entry.name) (take l.entry-index l.entries)
