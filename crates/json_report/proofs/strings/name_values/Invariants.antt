use Rattle.std.proofs.Common.{◌≡◌, ◌≤◌, ◌++◌, length, drop, map}
use Rattle.serde_json.specs.Data.{string}
use Rattle.serde_json.specs.View.{view}
use Rattle.json_report.proofs.strings.name_values.Given as goal

-- the names so far, and those of the files that are left
abbrev pub invariant-loop-file : goal.invariant-loop-file
invariant-loop-file l = record {
  within : l.file-index ≤ length l.files;
  rest : map view l.values.items ++ map string (map (λ file. file.name) (drop l.file-index l.files)) ≡ map string (map (λ file. file.name) l.files);
}
