-- When an object is that of sources.
use Rattle.std.specs.Prelude.{◌≡◌, ◌↔◌, ℕ, ◌+◌, ◌*◌, ◌≤◌, List, length, map}
use Rattle.std.specs.Str.{str_to_ascii_lowercase}
use Rattle.ada_meaning.specs.Obligations.{obligations_of}
use Rattle.ada_meaning.specs.Program.{Program}
use Rattle.generic_expand.specs.Limits.{node_count}
use Rattle.program_objects.specs.Behaves.{Behaves, EndsInTime}
use Rattle.program_objects.specs.Exemptions.{exempt_regions}
use Rattle.program_objects.specs.Legal.{entries_for, IsLegal}
use Rattle.cov_base.specs.declared.obligations.SourceFile.{SourceFile}
use Rattle.cov_base.specs.Lists.{Somewhere}
use Rattle.line_table.specs.declared.roles.Role.{Role}
use Rattle.line_table.specs.declared.rows.Row.{Row}
use Rattle.object_format.specs.declared.object.FileEntry.{FileEntry}
use Rattle.object_format.specs.declared.object.Object.{Object}
use Rattle.object_format.specs.Read.{IsObject}
use Rattle.sha2.specs.Sha256.{sha256}
use Rattle.statement_code.specs.Own.{IsStatementIn, IsConditionIn}

-- how an object names a source
abbrev pub entry_of_file : SourceFile → FileEntry
entry_of_file f = record { name = f.name; sha256 = sha256 f.bytes }

-- the row is of this statement, in this instance
abbrev pub IsRowOf : (statement instance : ℕ) → Row → Type 0
IsRowOf statement instance r = (r.statement.0 ≡ statement) × (r.instance.0 ≡ instance)

-- the role is of this condition, in this instance
abbrev pub IsRoleOf : (decision condition instance : ℕ) → Role → Type 0
IsRoleOf decision condition instance r =
    (r.kind.0 ≡ 2) × (r.decision.0 ≡ decision) × (r.condition.0 ≡ condition) × (r.instance.0 ≡ instance)

-- Each statement of a program has a row and each condition a branch in every instance in which it stands, and there is no other row and no
-- other condition branch.
pub record HasItsMarks (p : Program) (o : Object) : Type 0 where
  pub rows : (statement instance : ℕ) → Somewhere (IsRowOf statement instance) o.rows ↔ IsStatementIn p instance statement
  pub roles : (decision condition instance : ℕ) → Somewhere (IsRoleOf decision condition instance) o.roles ↔ IsConditionIn p instance decision condition

-- The object is that of a legal program: it passes the checks, names the sources with their digests, has the program's
-- obligations and the sources' exempt regions, marks each obligation, and on every input does what the program means.
pub record IsObjectOf (files : List SourceFile) (main : List ℕ) (p : Program) (o : Object) : Type 0 where
  pub legal : IsLegal files main p
  pub checked : IsObject o
  pub sources : o.files ≡ map entry_of_file files
  pub obligations : o.obligations ≡ obligations_of p (exempt_regions files)
  pub marks : HasItsMarks p o
  pub behaves : Behaves p o

-- The object is cheap: where the program's execution ends, its runs end in time, and its text takes at most 240 bytes for each node of the
-- expanded program and 4,096 beside. There a generic counts once for each of its instances.
pub record IsCheap (files : List SourceFile) (main : List ℕ) (p : Program) (o : Object) : Type 0 where
  pub legal : IsLegal files main p
  pub in_time : EndsInTime p o
  pub small : 4 * length o.text ≤ 240 * node_count (entries_for legal.units (str_to_ascii_lowercase main)) + 4096
