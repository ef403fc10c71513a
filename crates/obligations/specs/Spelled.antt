-- How the expression of a decision is spelled on one walk over it: its bytes in postfix form, the places of its conditions, and the decisions
-- that are nested in these, so far.
use Rattle.std.specs.Prelude.{ℕ, Bool, List, [], ◌∷◌, ◌++◌, length}
use Rattle.cov_base.specs.declared.position.Pos.{Pos}
use Rattle.cov_base.specs.declared.obligations.DecEntry.{DecEntry}
use Rattle.cov_base.specs.declared.obligations.Place.{Place}
use Rattle.cov_base.specs.Expr.{operator_byte}
use Rattle.ada_meaning.specs.Collected.{Decision, in_expr}
use Rattle.ada_meaning.specs.Obligations.{condition_entry}
use Rattle.ada_meaning.specs.Tree.{Label, Test, condition, negation, operator}
use Rattle.obligations.specs.Entries.{Entries, no_entry, joined, of_nested}

pub record Spelled : Type 0 where
  pub postfix : List ℕ
  pub conditions : List Place
  pub nested : Entries

abbrev pub nothing_spelled : Spelled
nothing_spelled = record { postfix = []; conditions = []; nested = no_entry }

-- the byte of an operator
abbrev pub with_byte : ℕ → Spelled → Spelled
with_byte byte s = record { postfix = s.postfix ++ byte ∷ []; conditions = s.conditions; nested = s.nested }

-- the number of the next condition, and its place
abbrev pub with_condition : Pos → Spelled → Spelled
with_condition at s = record {
  postfix = s.postfix ++ length s.conditions ∷ [];
  conditions = s.conditions ++ condition_entry at ∷ [];
  nested = s.nested;
}

-- decisions that are nested in it
abbrev pub with_nested : List Decision → Spelled → Spelled
with_nested hs s = record { postfix = s.postfix; conditions = s.conditions; nested = joined s.nested (of_nested hs) }

-- a test, whose decision the statement with this number holds: operands before their operator
abbrev pub with_test : (statement : ℕ) → Test → Spelled → Spelled
with_test statement (condition at e) s = with_nested (in_expr statement e) (with_condition at s)
with_test statement (negation t) s = with_byte 32 (with_test statement t s)
with_test statement (operator neutral t u) s = with_byte (operator_byte neutral) (with_test statement u (with_test statement t s))

-- the operands of a short-circuit control form right of the first one, each with the byte of the form behind it
abbrev pub with_others : (statement : ℕ) → (neutral : Bool) → List Test → Spelled → Spelled
with_others statement neutral [] s = s
with_others statement neutral (t ∷ ts) s = with_others statement neutral ts (with_byte (operator_byte neutral) (with_test statement t s))

-- the entry of a decision with this letter, whose expression is spelled
abbrev pub entry_of : (letter statement : ℕ) → Label → Spelled → DecEntry
entry_of letter statement l s = record {
  statement = record { 0 = statement };
  file = l.place.file;
  line = l.place.line;
  column = l.place.col;
  letter = record { 0 = letter };
  expression = record { postfix = s.postfix };
  conditions = s.conditions;
}
