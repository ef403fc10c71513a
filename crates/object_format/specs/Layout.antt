-- How the parts of an object stand in its file.
use Rattle.std.specs.Prelude.{ℕ, List, length}
use Rattle.cov_base.specs.declared.obligations.DecEntry.{DecEntry}
use Rattle.cov_base.specs.declared.obligations.InstanceEntry.{InstanceEntry}
use Rattle.cov_base.specs.declared.obligations.Obligations.{Obligations}
use Rattle.cov_base.specs.declared.obligations.Place.{Place}
use Rattle.cov_base.specs.declared.obligations.Region.{Region}
use Rattle.cov_base.specs.declared.obligations.StmtEntry.{StmtEntry}
use Rattle.line_table.specs.declared.roles.Role.{Role}
use Rattle.line_table.specs.declared.rows.Row.{Row}
use Rattle.object_format.specs.declared.object.FileEntry.{FileEntry}
use Rattle.object_format.specs.declared.parts.Parts.{Parts}
use Rattle.spelling.specs.Format.{Format, number, byte, bytes_of, string, digest, then_by, ◌&◌, seen_as, many, list_of}

-- ---- the entries

-- a file: its name, and the SHA-256 of its bytes
abbrev pub file_entry : Format FileEntry
file_entry = seen_as (string & digest) (λ p. record { name = p.0; sha256 = p.1 }) (λ f. (f.name, f.sha256))

-- a place in the sources: file, line and column
abbrev pub position : Format (ℕ × (ℕ × ℕ))
position = number & number & number

-- an instance: its name, file, line and column
abbrev pub instance_entry : Format InstanceEntry
instance_entry = seen_as (string & position)
    (λ p. record { name = p.0; file = p.1.0; line = p.1.1.0; column = p.1.1.1 })
    (λ i. (i.name, (i.file, (i.line, i.column))))

-- a statement: file, line and column
abbrev pub statement_entry : Format StmtEntry
statement_entry = seen_as position
    (λ p. record { file = p.0; line = p.1.0; column = p.1.1 })
    (λ s. (s.file, (s.line, s.column)))

-- where a condition begins: line and column
abbrev pub place : Format Place
place = seen_as (number & number) (λ p. record { line = p.0; column = p.1 }) (λ p. (p.line, p.column))

-- the bytes of an expression and the places of its conditions, behind a byte for the number of places and one for
-- the number of bytes
abbrev pub conditions : Format (List ℕ × List Place)
conditions = seen_as (then_by (byte & byte) (λ n. bytes_of n.1 & many place n.0)) (λ p. p.1)
    (λ x. ((length x.1, length x.0), x))

-- where a decision stands: its statement and file, its line, column and letter
abbrev pub decision_head : Format (ℕ × (ℕ × (ℕ × (ℕ × ℕ))))
decision_head = number & number & number & number & byte

-- a decision: where it stands, its expression and its conditions
abbrev pub decision_entry : Format DecEntry
decision_entry = seen_as (decision_head & conditions)
    (λ p. record {
      statement = record { 0 = p.0.0 };
      file = p.0.1.0;
      line = p.0.1.1.0;
      column = p.0.1.1.1.0;
      letter = record { 0 = p.0.1.1.1.1 };
      expression = record { postfix = p.1.0 };
      conditions = p.1.1;
    })
    (λ d. ((d.statement.0, (d.file, (d.line, (d.column, d.letter.0)))), (d.expression.postfix, d.conditions)))

-- a region: its file, the lines and columns from which and to which it reaches, and why
abbrev pub region : Format Region
region = seen_as (number & number & number & number & number & string)
    (λ p. record {
      file = p.0;
      from_line = p.1.0;
      from_column = p.1.1.0;
      to_line = p.1.1.1.0;
      to_column = p.1.1.1.1.0;
      why = p.1.1.1.1.1;
    })
    (λ r. (r.file, (r.from_line, (r.from_column, (r.to_line, (r.to_column, r.why))))))

-- a row: address, statement and instance
abbrev pub row : Format Row
row = seen_as (number & number & number)
    (λ p. record { address = p.0; statement = record { 0 = p.1.0 }; instance = record { 0 = p.1.1 } })
    (λ r. (r.address, (r.statement.0, r.instance.0)))

-- a role: address, kind, and what the branch evaluates: decision, condition, the value when it is taken, and instance
abbrev pub role : Format Role
role = seen_as (number & byte & number & byte & byte & number)
    (λ p. record {
      address = p.0;
      kind = record { 0 = p.1.0 };
      decision = record { 0 = p.1.1.0 };
      condition = record { 0 = p.1.1.1.0 };
      value = p.1.1.1.1.0;
      instance = record { 0 = p.1.1.1.1.1 };
    })
    (λ r. (r.address, (r.kind.0, (r.decision.0, (r.condition.0, (r.value, r.instance.0))))))

-- ---- the parts

-- an address, and words: the entry and the text, or where the data stands and the data
unfoldable pub segment : Format (ℕ × List ℕ)
segment = number & list_of number

-- statements, decisions and regions
unfoldable pub listed : Format (List StmtEntry × (List DecEntry × List Region))
listed = list_of statement_entry & list_of decision_entry & list_of region

-- what coverage has to show: instances, exceptions, statements, decisions and regions
unfoldable pub obligations : Format Obligations
obligations = seen_as (list_of instance_entry & list_of string & listed)
    (λ p. record {
      statements = p.1.1.0;
      decisions = p.1.1.1.0;
      regions = p.1.1.1.1;
      instances = p.0;
      exceptions = p.1.0;
    })
    (λ o. (o.instances, (o.exceptions, (o.statements, (o.decisions, o.regions)))))

-- what coverage has to show, rows and roles
unfoldable pub to_cover : Format (Obligations × (List Row × List Role))
to_cover = obligations & list_of row & list_of role

-- all parts: entry and text, data, files, what coverage has to show, rows and roles
unfoldable pub parts : Format Parts
parts = seen_as (segment & segment & list_of file_entry & to_cover)
    (λ p. record {
      entry = p.0.0;
      text = p.0.1;
      init_at = p.1.0.0;
      init = p.1.0.1;
      files = p.1.1.0;
      obligations = p.1.1.1.0;
      rows = p.1.1.1.1.0;
      roles = p.1.1.1.1.1;
    })
    (λ o. ((o.entry, o.text), ((o.init_at, o.init), (o.files, (o.obligations, (o.rows, o.roles))))))
