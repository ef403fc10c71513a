-- What each part of an object has to be by itself.
use Rattle.std.specs.Prelude.{ℕ, ◌+◌, ◌*◌, ◌%◌, Bool, false, ◌&&◌, ◌||◌, ◌==◌, List, [], ◌∷◌, length, Option, Some, None, slice_get, nat_le, nat_lt, bytes_eq, codes}
use Rattle.std.specs.Str.{is_utf8}
use Rattle.std.specs.List.{list_all}
use Rattle.cov_base.specs.declared.obligations.DecEntry.{DecEntry}
use Rattle.cov_base.specs.declared.obligations.InstanceEntry.{InstanceEntry}
use Rattle.cov_base.specs.declared.obligations.Obligations.{Obligations}
use Rattle.cov_base.specs.declared.obligations.Region.{Region}
use Rattle.cov_base.specs.declared.obligations.StmtEntry.{StmtEntry}
use Rattle.line_table.specs.declared.roles.Role.{Role}
use Rattle.line_table.specs.declared.rows.Row.{Row}
use Rattle.object_format.specs.declared.object.FileEntry.{FileEntry}
use Rattle.object_format.specs.declared.object.Object.{Object}
use Rattle.object_format.specs.Order.{is_below, is_at_most}
use Rattle.spelling.specs.Checks.{rising}
use Rattle.object_format.specs.Text.{text_end, is_in_text}

-- text has 1 to 4194304 words, the entry is in it, data stands behind it, and all is within memory
abbrev pub is_placed : Object → Bool
is_placed o =
    nat_lt 0 (length o.text) && nat_le (length o.text) 4194304 && is_in_text o.text o.entry
    && (o.init_at % 4 == 0) && nat_le (text_end o.text) o.init_at && nat_le (o.init_at + 4 * length o.init) 0x2000000

-- 1 to 64 files, whose names are UTF-8
abbrev pub are_files : List FileEntry → Bool
are_files files = nat_lt 0 (length files) && nat_le (length files) 64 && list_all (λ f. is_utf8 f.name) files

-- lines and columns count from 1
abbrev pub is_counted : ℕ → ℕ → Bool
is_counted line column = nat_lt 0 line && nat_lt 0 column

-- number 0 is all that stands in no generic: it has no name and no place
abbrev pub is_outside_generics : InstanceEntry → Bool
is_outside_generics i = (length i.name == 0) && (i.file == 0) && (i.line == 0) && (i.column == 0)

-- an instance of a generic has a name, and a place in a file
abbrev pub is_instance : ℕ → InstanceEntry → Bool
is_instance files i = is_utf8 i.name && nat_lt i.file files && is_counted i.line i.column

-- number 0, and at most 64 instances
abbrev pub are_instances : ℕ → List InstanceEntry → Bool
are_instances files [] = false
are_instances files (outside ∷ instances) =
    is_outside_generics outside && nat_le (length instances) 64 && list_all (is_instance files) instances

-- the names of the language's own exceptions
abbrev pub are_predefined : List ℕ → List ℕ → List ℕ → List ℕ → Bool
are_predefined a b c d =
    bytes_eq a (codes "constraint_error") && bytes_eq b (codes "program_error")
    && bytes_eq c (codes "storage_error") && bytes_eq d (codes "test_io.end_error")

-- the language's own exceptions, and then those that are declared, at most 4294967294 in all
abbrev pub are_exceptions : List (List ℕ) → Bool
are_exceptions (a ∷ b ∷ c ∷ d ∷ declared) =
    are_predefined a b c d && nat_le (length declared) 4294967290 && list_all is_utf8 declared
are_exceptions [] = false
are_exceptions (a ∷ []) = false
are_exceptions (a ∷ b ∷ []) = false
are_exceptions (a ∷ b ∷ c ∷ []) = false

-- a statement has its place in a file
abbrev pub is_statement : ℕ → StmtEntry → Bool
is_statement files s = nat_lt s.file files && is_counted s.line s.column

-- statements are in order of file, line and column
abbrev pub statement_key : StmtEntry → List ℕ
statement_key s = s.file ∷ s.line ∷ s.column ∷ []

-- no two statements have the same place
abbrev pub are_statements : ℕ → List StmtEntry → Bool
are_statements files statements =
    list_all (is_statement files) statements
    && rising (λ one next. is_below (statement_key one) (statement_key next)) statements

-- I, W, E or X
abbrev pub is_letter : ℕ → Bool
is_letter letter = (letter == 73) || (letter == 87) || (letter == 69) || (letter == 88)

-- a decision stands in a statement, and has 1 to 32 conditions
abbrev pub is_decision : (files statements : ℕ) → DecEntry → Bool
is_decision files statements d =
    nat_lt d.statement.0 statements && nat_lt d.file files && is_counted d.line d.column && is_letter d.letter.0
    && nat_lt 0 (length d.conditions) && nat_le (length d.conditions) 32 && list_all (λ p. is_counted p.line p.column) d.conditions

-- decisions are in order of file, line and column
abbrev pub decision_key : DecEntry → List ℕ
decision_key d = d.file ∷ d.line ∷ d.column ∷ []

-- decisions may begin at one place
abbrev pub are_decisions : (files statements : ℕ) → List DecEntry → Bool
are_decisions files statements decisions =
    list_all (is_decision files statements) decisions
    && rising (λ one next. is_at_most (decision_key one) (decision_key next)) decisions

-- a region has two places in one file, and a reason
abbrev pub is_region : ℕ → Region → Bool
is_region files r =
    nat_lt r.file files && is_counted r.from_line r.from_column && is_counted r.to_line r.to_column && is_utf8 r.why

-- regions are in order of file, of where they begin, and of where they end
abbrev pub region_key : Region → List ℕ
region_key r = r.file ∷ r.from_line ∷ r.from_column ∷ r.to_line ∷ r.to_column ∷ []

-- in another file, or the later one begins behind the end of the earlier one
abbrev pub is_clear_of : Region → Region → Bool
is_clear_of one next =
    is_below (one.file ∷ one.to_line ∷ one.to_column ∷ []) (next.file ∷ next.from_line ∷ next.from_column ∷ [])

-- no two regions of a file have a point in common
abbrev pub are_regions : ℕ → List Region → Bool
are_regions files regions =
    list_all (is_region files) regions
    && rising (λ one next. is_below (region_key one) (region_key next) && is_clear_of one next) regions

-- the numbers of a row are those of a statement and an instance
abbrev pub is_row : (statements instances : ℕ) → Row → Bool
is_row statements instances row = nat_lt row.statement.0 statements && nat_lt row.instance.0 instances

-- how many conditions a decision has: none where there is no such decision
abbrev pub condition_count : Option DecEntry → ℕ
condition_count None = 0
condition_count (Some d) = length d.conditions

-- kind 2: a condition, its instance, and the value with which the branch is taken
abbrev pub is_condition_role : List DecEntry → ℕ → Role → Bool
is_condition_role decisions instances role =
    (role.kind.0 == 2) && nat_lt role.condition.0 (condition_count (slice_get decisions role.decision.0))
    && nat_le role.value 1 && nat_lt role.instance.0 instances

-- kind 0, a check, or 1, structure: the numbers are zeros
abbrev pub is_other_role : Role → Bool
is_other_role role =
    nat_lt role.kind.0 2 && (role.decision.0 == 0) && (role.condition.0 == 0) && (role.value == 0) && (role.instance.0 == 0)

-- the role is of one of the three kinds
abbrev pub is_role : List DecEntry → ℕ → Role → Bool
is_role decisions instances role = is_other_role role || is_condition_role decisions instances role

-- the check `field` of what coverage has to show
abbrev pub are_obliged : ℕ → Obligations → Bool
are_obliged files o =
    are_instances files o.instances && are_exceptions o.exceptions && are_statements files o.statements
    && are_decisions files (length o.statements) o.decisions && are_regions files o.regions

-- the check `field`
abbrev pub passes_field : Object → Bool
passes_field o =
    is_placed o && are_files o.files && are_obliged (length o.files) o.obligations
    && list_all (is_row (length o.obligations.statements) (length o.obligations.instances)) o.rows
    && list_all (is_role o.obligations.decisions (length o.obligations.instances)) o.roles
