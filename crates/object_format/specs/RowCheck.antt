-- Rows that fit the text.
use Rattle.std.specs.Prelude.{◌≡◌, ◌≢◌, ℕ, Bool, true, List, map, nat_lt, AllPairs}
use Rattle.std.specs.List.{list_all}
use Rattle.line_table.specs.declared.rows.Row.{Row}
use Rattle.object_format.specs.declared.object.Object.{Object}
use Rattle.spelling.specs.Checks.{rising}
use Rattle.object_format.specs.Text.{is_in_text}

-- what a row says that its instruction starts: a statement, in an instance
abbrev pub start_of : Row → ℕ × ℕ
start_of row = (row.statement.0, row.instance.0)

-- the row is at an instruction of the text
abbrev pub is_in : List ℕ → Row → Bool
is_in text row = is_in_text text row.address

-- the check `row`: each row is at an instruction, their addresses rise, and no start has two rows
pub record PassesRow (o : Object) : Type 0 where
  pub placed : list_all (is_in o.text) o.rows ≡ true
  pub rising : rising (λ one next. nat_lt one.address next.address) o.rows ≡ true
  pub once : AllPairs (λ one next. one ≢ next) (map start_of o.rows)
