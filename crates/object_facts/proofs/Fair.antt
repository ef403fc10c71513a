-- The facts of a checked object are fair.
use Rattle.std.proofs.Common.{◌≡◌, ℕ, suc, zero, ◌<◌, ◌%◌, Bool, true, false, cond, ◌==◌, List, [], ◌∷◌, length, get_or, find, Some, refl, sym, ap, subst, ◌∙◌, eqb-true, arith, option_and_then, option_map}
use Rattle.std.specs.List.{list_all}
use Rattle.std.proofs.lemmas.Bool.{and_parts}
use Rattle.decision_map.proofs.Sound.{mappable}
use Rattle.decision_map.proofs.Trees.{tree_law}
use Rattle.decision_map.specs.declared.kind.WordKind.TheVariants.{Branch}
use Rattle.decision_map.specs.Decisions.{expression_at, graph_at}
use Rattle.decision_map.specs.Kinds.{has_edges, kind_in, kinds_of_text}
use Rattle.decision_map.specs.Roles.{condition_of as decided_of}
use Rattle.line_table.specs.declared.roles.Role.{Role}
use Rattle.line_table.specs.declared.rows.Row.{Row as Line}
use Rattle.object_format.specs.declared.object.Object.{Object}
use Rattle.object_format.specs.Checked.{IsSound}
use Rattle.object_format.specs.RowCheck.{is_in}
use Rattle.object_facts.specs.Held.{instruction_at, AreHeld}
use Rattle.transcript.specs.Facts.{Row, Condition, AreFair}
use Rattle.object_facts.specs.Object.{row_of, condition_of, facts_of}
use Rattle.rv_machine.specs.Objects.{object_image}
use Rattle.object_facts.proofs.Words.{branch_kind, branch_transfers, kind_there}

-- a row stands at a multiple of 4
row_aligned : (text : List ℕ) (lines : List Line) (pc : ℕ) (r : Row) → list_all (is_in text) lines ≡ true
    → option_map row_of (find (λ (line : Line). line.address == pc) lines) ≡ Some r → pc % 4 ≡ 0
row_aligned text [] pc r placed found = absurd (cc found)
row_aligned text (line ∷ lines) pc r placed found =
    let parts = and_parts (is_in text line) (list_all (is_in text) lines) placed in
    by_address (line.address == pc) refl parts.0 (row_aligned text lines pc r parts.1) found
  where
    by_address : (b : Bool) → (line.address == pc) ≡ b → is_in text line ≡ true
        → (option_map row_of (find (λ (other : Line). other.address == pc) lines) ≡ Some r → pc % 4 ≡ 0)
        → option_map row_of (cond b (Some line) (find (λ (other : Line). other.address == pc) lines)) ≡ Some r → pc % 4 ≡ 0
    by_address true same here rest is =
        let multiple : line.address % 4 ≡ 0 = eqb-true (line.address % 4) 0 (and_parts _ _ (and_parts _ _ here).0).0 in
        subst (λ (a : ℕ). a % 4 ≡ 0) (eqb-true line.address pc same) multiple
    by_address false same here rest is = rest is

-- the branch of a condition is a conditional branch
role_branches : (text : List ℕ) (roles : List Role) (pc : ℕ) (c : Condition)
    → ((k : ℕ) (d : Role) → k < length roles → kind_in (kinds_of_text text) (get_or roles k d).address ≡ Branch)
    → option_map condition_of (option_and_then decided_of (find (λ (role : Role). role.address == pc) roles)) ≡ Some c
    → kind_in (kinds_of_text text) pc ≡ Branch
role_branches text [] pc c each found = absurd (cc found)
role_branches text (role ∷ roles) pc c each found =
    by_address (role.address == pc) refl (role_branches text roles pc c (λ k d within. each (suc k) d (omega arith))) found
  where
    by_address : (b : Bool) → (role.address == pc) ≡ b
        → (option_map condition_of (option_and_then decided_of (find (λ (other : Role). other.address == pc) roles)) ≡ Some c → kind_in (kinds_of_text text) pc ≡ Branch)
        → option_map condition_of (option_and_then decided_of (cond b (Some role) (find (λ (other : Role). other.address == pc) roles))) ≡ Some c
        → kind_in (kinds_of_text text) pc ≡ Branch
    by_address true same rest is = subst (λ (a : ℕ). kind_in (kinds_of_text text) a ≡ Branch) (eqb-true role.address pc same) (each zero role (omega arith))
    by_address false same rest is = rest is

pub condition_branches : (o : Object) → IsSound o → (pc : ℕ) (c : Condition) → (facts_of o).condition pc ≡ Some c → (facts_of o).branches pc ≡ true
condition_branches o sound pc c found =
    let kind = role_branches o.text o.roles pc c (mappable o sound.field sound.decision sound.role).branches found in
    branch_kind (instruction_at (object_image o) pc) ∙ ap has_edges (sym (kind_there o.text pc) ∙ kind)

pub fair : (o : Object) → IsSound o → AreFair (facts_of o)
fair o sound = record {
  graphs = λ d. (expression_at o d.0, refl);
  trees = λ d is. (tree_law (graph_at o d.0)).0 is;
  rows = λ pc r found. row_aligned o.text o.rows pc r sound.row.placed found;
  conditions = λ pc c found. condition_branches o sound pc c found;
  branches = λ pc is. branch_transfers (instruction_at (object_image o) pc) is;
}

pub held : (o : Object) → IsSound o → AreHeld (facts_of o) (object_image o)
held o sound =
    let few = (mappable o sound.field sound.decision sound.role).few in
    record { transfers = λ pc. refl; branches = λ pc. refl; fits = omega (arith, few) }
