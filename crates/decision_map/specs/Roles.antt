-- The conditional branches of an object: which condition each decides, and whether its executions are kept.
use Rattle.std.specs.Prelude.{◌≡◌, ℕ, ◌≤◌, ◌<◌, Bool, false, not, ◌==◌, find, All, AllPairs, length, Option, Some, None, option_and_then, if◌then◌else◌}
use Rattle.std.specs.Option.{option_map_or}
use Rattle.cov_base.specs.Expr.{Expr, IsPostfixOf}
use Rattle.cov_base.specs.declared.obligations.DecEntry.{DecEntry}
use Rattle.cov_base.specs.Graph.{IsTree}
use Rattle.line_table.specs.declared.roles.Role.{Role}
use Rattle.object_format.specs.declared.object.Object.{Object}
use Rattle.decision_map.specs.declared.condition.Condition.{Condition}
use Rattle.decision_map.specs.declared.kind.WordKind.{WordKind}
use Rattle.decision_map.specs.declared.kind.WordKind.TheVariants.{Branch, HistoryBranch}
use Rattle.decision_map.specs.Kinds.{kind_in, kinds_of_text}
use Rattle.decision_map.specs.Decisions.{graph_at, is_tree_at}

-- the condition that a role names: none for a check, and none for structure
abbrev pub condition_of : Role → Option Condition
condition_of role =
    if role.kind.0 == 2 then Some (record {
      decision = role.decision;
      condition = role.condition;
      when_taken = role.value == 1;
      instance = role.instance;
    }) else None

-- the condition that the branch at an address decides
abbrev pub condition_at : Object → ℕ → Option Condition
condition_at o pc = option_and_then condition_of (find (λ role. role.address == pc) o.roles)

-- whether each execution of the word at an address is kept: it is the branch of a condition of a decision whose graph is no tree
abbrev pub needs_history : Object → ℕ → Bool
needs_history o pc = option_map_or (λ (c : Condition). not (is_tree_at o c.decision.0)) (condition_at o pc) false

-- the same in full: the branch at an address is that of a condition of a decision whose graph is no tree
pub record NeedsHistory (o : Object) (pc : ℕ) : Type 0 where
  pub condition : Condition
  pub decides : condition_at o pc ≡ Some condition
  pub no_tree : ¬ (IsTree (graph_at o condition.decision.0))

-- the kind of the word at an address
abbrev pub kind_at : Object → ℕ → WordKind
kind_at o pc = if needs_history o pc then HistoryBranch else kind_in (kinds_of_text o.text) pc

-- what a map needs of its object
pub record IsMappable (o : Object) : Type 0 where
  -- addresses fit a word
  pub few : length o.text ≤ 4194304
  -- the addresses of roles rise, and are those of conditional branches
  pub rise : AllPairs (λ (first next : Role). first.address < next.address) o.roles
  pub branches : All (λ (role : Role). kind_in (kinds_of_text o.text) role.address ≡ Branch) o.roles
  -- the bytes of each decision spell an expression
  pub spelled : All (λ (entry : DecEntry). (e : Expr) × IsPostfixOf entry.expression.postfix e) o.obligations.decisions
