-- The conditions that a checked object's roles name are those of its decisions.
use Rattle.std.proofs.Common.{◌≡◌, ℕ, suc, zero, ◌+◌, ◌<◌, ◌≤◌, Bool, true, false, cond, nat_lt, ◌==◌, List, [], ◌∷◌, length, find, Some, None, refl, ap, ◌∙◌, eqb-true, arith, option_and_then, slice_get}
use Rattle.std.specs.List.{list_all, AllByRecursion}
use Rattle.std.proofs.lemmas.Bool.{and_parts, ltb-true}
use Rattle.std.proofs.lemmas.List.{length-append}
use Rattle.cov_base.specs.declared.obligations.DecEntry.{DecEntry}
use Rattle.decision_map.proofs.Needed.{graph_of_spelled}
use Rattle.decision_map.specs.declared.condition.Condition.{Condition}
use Rattle.decision_map.specs.Decisions.{graph_at}
use Rattle.decision_map.specs.Roles.{condition_of, condition_at}
use Rattle.cov_base.specs.Expr.{Expr, condition, negation, operator, size}
use Rattle.cov_base.specs.Graph.{Next, node, nodes, graph}
use Rattle.line_table.specs.declared.roles.Role.{Role}
use Rattle.object_format.specs.Checked.{IsSound}
use Rattle.object_format.specs.Decisions.{AreExpression}
use Rattle.object_format.specs.Fields.{condition_count, is_role, is_condition_role}
use Rattle.object_format.specs.declared.object.Object.{Object}

-- a graph has a node for each condition
pub nodes_length : (e : Expr) (n : ℕ) (t f : Next) → length (nodes e n t f) ≡ size e
nodes_length condition n t f = refl
nodes_length (negation e) n t f = nodes_length e n f t
nodes_length (operator true left right) n t f =
    length-append (nodes left n (node (n + size left)) f) (nodes right (n + size left) t f)
    ∙ (omega (arith, nodes_length left n (node (n + size left)) f, nodes_length right (n + size left) t f))
nodes_length (operator false left right) n t f =
    length-append (nodes left n t (node (n + size left))) (nodes right (n + size left) t f)
    ∙ (omega (arith, nodes_length left n t (node (n + size left)), nodes_length right (n + size left) t f))

-- a condition is one of a decision of the object
pub record IsKnown (o : Object) (c : Condition) : Type 0 where
  pub decision : c.decision.0 < length o.obligations.decisions
  pub node : c.condition.0 < length (graph_at o c.decision.0)
  pub few : length (graph_at o c.decision.0) ≤ 32

-- a decision that has this entry
of_entry : (o : Object) (c : Condition) (decisions : List DecEntry) (d : ℕ)
    → AllByRecursion (λ (e : DecEntry). AreExpression e.expression.postfix (length e.conditions)) decisions
    → c.condition.0 < condition_count (slice_get decisions d)
    → (entry : DecEntry) × (slice_get decisions d ≡ Some entry) × (d < length decisions)
    × AreExpression entry.expression.postfix (length entry.conditions) × (c.condition.0 < length entry.conditions)
of_entry o c [] d passes within = absurd (omega arith)
of_entry o c (entry ∷ rest) zero passes within = (entry, refl, omega arith, passes.0, within)
of_entry o c (entry ∷ rest) (suc d) passes within =
    let later = of_entry o c rest d passes.1 within in
    (later.0, later.1, omega (arith, later.2), later.3, later.4)

known_by : (o : Object) (c : Condition) → IsSound o → c.condition.0 < condition_count (slice_get o.obligations.decisions c.decision.0) → IsKnown o c
known_by o c sound within =
    let found = of_entry o c o.obligations.decisions c.decision.0 sound.decision within in
    let e = found.3.0 in
    let graph_is : graph_at o c.decision.0 ≡ graph e = graph_of_spelled o c.decision.0 found.0 e found.1 found.3.1 in
    let long : length (graph_at o c.decision.0) ≡ size e = ap length graph_is ∙ nodes_length e 0 _ _ in
    record {
      decision = found.2;
      node = omega (arith, long, found.3.2, found.4);
      few = omega (arith, long, found.3.1.fits);
    }

-- the role of a condition names one that its decision has
named_role : (decisions : List DecEntry) (instances : ℕ) (role : Role) (c : Condition) → is_role decisions instances role ≡ true
    → condition_of role ≡ Some c → c.condition.0 < condition_count (slice_get decisions c.decision.0)
named_role decisions instances role c passes named = by_kind (role.kind.0 == 2) refl named
  where
    by_kind : (b : Bool) → (role.kind.0 == 2) ≡ b
        → cond b (Some (record { decision = role.decision; condition = role.condition; when_taken = role.value == 1; instance = role.instance })) None ≡ Some c
        → c.condition.0 < condition_count (slice_get decisions c.decision.0)
    by_kind false same is = absurd (cc is)
    by_kind true same is =
        let lower : nat_lt role.kind.0 2 ≡ false = rw (eqb-true role.kind.0 2 same) refl in
        let condition_passes : is_condition_role decisions instances role ≡ true = rw lower at passes in
        let number : role.condition ≡ c.condition = cc is in
        let of_decision : role.decision ≡ c.decision = cc is in
        rw (← number, ← of_decision)
        (ltb-true role.condition.0 (condition_count (slice_get decisions role.decision.0)) (and_parts _ _ (and_parts _ _ (and_parts _ _ condition_passes).0).0).1)

named_from : (decisions : List DecEntry) (instances : ℕ) (roles : List Role) (pc : ℕ) (c : Condition) → list_all (is_role decisions instances) roles ≡ true
    → option_and_then condition_of (find (λ (role : Role). role.address == pc) roles) ≡ Some c
    → c.condition.0 < condition_count (slice_get decisions c.decision.0)
named_from decisions instances [] pc c passes found = absurd (cc found)
named_from decisions instances (role ∷ roles) pc c passes found =
    let parts = and_parts (is_role decisions instances role) (list_all (is_role decisions instances) roles) passes in
    by_address (role.address == pc) parts.0 (named_from decisions instances roles pc c parts.1) found
  where
    by_address : (b : Bool) → is_role decisions instances role ≡ true
        → (option_and_then condition_of (find (λ (other : Role). other.address == pc) roles) ≡ Some c → c.condition.0 < condition_count (slice_get decisions c.decision.0))
        → option_and_then condition_of (cond b (Some role) (find (λ (other : Role). other.address == pc) roles)) ≡ Some c
        → c.condition.0 < condition_count (slice_get decisions c.decision.0)
    by_address true here rest is = named_role decisions instances role c here is
    by_address false here rest is = rest is

-- the condition of a branch of a checked object is one of its decision
pub known : (o : Object) (pc : ℕ) (c : Condition) → IsSound o → condition_at o pc ≡ Some c → IsKnown o c
known o pc c sound is =
    known_by o c sound (named_from o.obligations.decisions (length o.obligations.instances) o.roles pc c
    (and_parts _ _ sound.field).1 is)
