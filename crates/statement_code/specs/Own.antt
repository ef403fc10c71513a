-- Which statement obligations and conditions a program has, by instance, and how often code marks them.
use Rattle.std.specs.Prelude.{◌≡◌, ℕ, ◌<◌, ◌≤◌, nat_eq, ◌&&◌, Bool, List, sum_by, if◌then◌else◌}
use Rattle.cov_base.specs.Lists.{Somewhere}
use Rattle.ada_meaning.specs.Bodies.{IsBody}
use Rattle.ada_meaning.specs.Collected.{block_labels, in_block}
use Rattle.ada_meaning.specs.Program.{Program}
use Rattle.ada_meaning.specs.Tree as tree
use Rattle.kernel_ir.specs.Obligations.{Row, Condition}
use Rattle.statement_code.specs.Kernels.{text_at}

module _ (p : Program) where
  -- a statement obligation with this number stands in a body that the program has in an instance
  pub record IsStatementIn (inst number : ℕ) : Type 0 where
    pub subprogram : ℕ
    pub stands : IsBody p (record { instance = inst; subprogram = subprogram })
    pub among : Somewhere (λ l. l.number ≡ number) (block_labels (text_at p.subprograms subprogram))

  -- so does a decision with this number that has a condition at this place
  pub record IsConditionIn (inst decision place : ℕ) : Type 0 where
    pub subprogram : ℕ
    pub stands : IsBody p (record { instance = inst; subprogram = subprogram })
    pub among : Somewhere (λ h. (h.label.number ≡ decision) × (place < tree.conditions_of h.test)) (in_block (text_at p.subprograms subprogram))

-- 1 where it is so
abbrev pub one_if : Bool → ℕ
one_if b = if b then 1 else 0

-- how often a statement in an instance is among rows
abbrev pub is_row : (inst number : ℕ) → Row → Bool
is_row inst number r = nat_eq r.instance.0 inst && nat_eq r.statement.0 number

abbrev pub row_times : (inst number : ℕ) → List Row → ℕ
row_times inst number rs = sum_by (λ r. one_if (is_row inst number r)) rs

-- how often a condition in an instance is among conditions
abbrev pub is_condition : (inst decision place : ℕ) → Condition → Bool
is_condition inst decision place c = nat_eq c.instance.0 inst && (nat_eq c.decision.0 decision && nat_eq c.at_node place)

abbrev pub condition_times : (inst decision place : ℕ) → List Condition → ℕ
condition_times inst decision place cs = sum_by (λ c. one_if (is_condition inst decision place c)) cs

-- Each statement obligation of the program has one row in each instance in which it stands, and each condition is evaluated at one node; no
-- other row or condition is there.
pub record MarksOnce (p : Program) (rows : List Row) (conditions : List Condition) : Type 0 where
  pub row_once : (inst number : ℕ) → IsStatementIn p inst number → row_times inst number rows ≡ 1
  pub row_own : (inst number : ℕ) → 1 ≤ row_times inst number rows → IsStatementIn p inst number
  pub condition_once : (inst decision place : ℕ) → IsConditionIn p inst decision place → condition_times inst decision place conditions ≡ 1
  pub condition_own : (inst decision place : ℕ) → 1 ≤ condition_times inst decision place conditions → IsConditionIn p inst decision place
