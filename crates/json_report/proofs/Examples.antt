-- The definitions at worked examples.
use Rattle.std.proofs.Common.{◌≡◌, ℕ, [], ◌∷◌, codes, refl}
use lib.Utf8.{encode}
use Rattle.cov_base.specs.Expression.{expression_of}
use Rattle.std.specs.Fmt.{digits}
use Rattle.serde_json.specs.Data.{string}
use Rattle.serde_json.specs.Written.{compact_text}
use Rattle.serde_json.proofs.OnLiterals.{serde_json_on_literals}
use Rattle.cov_base.specs.declared.event.Event.{Event}
use Rattle.cov_base.specs.declared.event.Event.TheVariants.{Start}
use Rattle.cov_base.specs.declared.event.Vector.{Vector}
use Rattle.cov_base.specs.declared.level.Level.TheVariants as level
use Rattle.cov_base.specs.declared.obligations.DecEntry.{DecEntry}
use Rattle.cov_base.specs.declared.obligations.Obligations.{Obligations}
use Rattle.cov_base.specs.declared.obligations.Region.{Region}
use Rattle.cov_base.specs.declared.obligations.StmtEntry.{StmtEntry}
use Rattle.annotated_report.specs.declared.finding.Finding.{Finding}
use Rattle.annotated_report.specs.declared.finding.Missing.TheVariants.{Execution}
use Rattle.annotated_report.specs.declared.finding.Subject.TheVariants.{Statement}
use Rattle.annotated_report.specs.Findings.{finding, key_at}
use Rattle.json_report.specs.Objects.{vector_values, decision_object, region_object, region_objects}
use Rattle.json_report.specs.Text.{json_text}

-- ---- a procedure with a statement behind its return

abbrev statement_at : ℕ → StmtEntry
statement_at line = record { file = 0; line = line; column = 4 }

abbrev three_statements : Obligations
three_statements = record {
  statements = statement_at 4 ∷ statement_at 5 ∷ statement_at 6 ∷ [];
  decisions = [];
  regions = [];
  instances = [];
  exceptions = [];
}

abbrev start : ℕ → Event
start n = Start (record { 0 = n }) (record { 0 = 0 })

the_last_is_not_covered : json_text level.Stmt three_statements 1 (start 0 ∷ start 1 ∷ []) (codes "p1.adb" ∷ [])
    ≡ codes "{\"decisions\":[],\"files\":[\"p1.adb\"],\"level\":\"stmt\",\"regions\":[],\"statements\":[{\"column\":4,\"covered\":true,\"file\":0,\"line\":4},{\"column\":4,\"covered\":true,\"file\":0,\"line\":5},{\"column\":4,\"covered\":false,\"file\":0,\"line\":6}],\"traces\":1}\n"
unfolding serde_json_on_literals digits
the_last_is_not_covered = refl

-- ---- (A and then B) or else C

abbrev vector : ℕ → ℕ → Vector
vector seen value = record { seen = seen; value = value }

abbrev two_or_one : DecEntry
two_or_one = record {
  statement = record { 0 = 0 };
  file = 0;
  line = 3;
  column = 7;
  letter = record { 0 = 73 };
  expression = record { postfix = 0 ∷ 1 ∷ 33 ∷ 2 ∷ 34 ∷ [] };
  conditions = [];
}

one_outcome : compact_text (decision_object level.Decision (vector 7 5 ∷ []) two_or_one)
    ≡ codes "{\"column\":7,\"conditions\":[],\"false\":false,\"file\":0,\"letter\":\"I\",\"line\":3,\"true\":true,\"vectors\":[\"TFT\"]}"
unfolding serde_json_on_literals digits encode expression_of
one_outcome = refl

in_order_and_once : vector_values 3 (vector 3 3 ∷ vector 7 5 ∷ vector 5 0 ∷ vector 7 5 ∷ [])
    ≡ string (codes "F-F") ∷ string (codes "TFT") ∷ string (codes "TT-") ∷ []
in_order_and_once = refl

-- ---- a finding in two regions

abbrev region_from : ℕ → Region
region_from line = record { file = 0; from_line = line; from_column = 1; to_line = 9; to_column = 1; why = codes "so" }

abbrev found_at : ℕ → Finding
found_at line = finding (key_at 0 line 4 (Statement 0)) Execution

the_first_counts : region_objects (found_at 5 ∷ found_at 3 ∷ []) (region_from 4 ∷ region_from 2 ∷ [])
    ≡ region_object 1 (region_from 4) ∷ region_object 1 (region_from 2) ∷ []
the_first_counts = refl
