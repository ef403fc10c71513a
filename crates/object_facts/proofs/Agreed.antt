-- What a map says of an object's words is what the facts say.
use Rattle.std.proofs.Common.{◌≡◌, ℕ, Bool, true, false, cond, not, Option, Some, None, refl, sym, ap, ◌∙◌, option_map}
use Rattle.std.specs.Option.{option_map_or}
use Rattle.decision_map.specs.declared.condition.Condition.{Condition as Decided}
use Rattle.decision_map.specs.declared.kind.WordKind.TheVariants.{HistoryBranch}
use Rattle.decision_map.specs.Decisions.{is_tree_at}
use Rattle.decision_map.specs.Kinds.{has_edges, kind_in, kinds_of_text}
use Rattle.decision_map.specs.Roles.{condition_at, needs_history, kind_at}
use Rattle.object_format.specs.declared.object.Object.{Object}
use Rattle.object_format.specs.Checked.{IsSound}
use Rattle.object_facts.specs.Held.{instruction_at}
use Rattle.rv_semantics.specs.declared.stepped.Seen.{Seen}
use Rattle.transcript.specs.Trace.{Branched, branched_by, kept_at, kept_of}
use Rattle.object_facts.specs.Kinds.{ends_piece}
use Rattle.object_facts.specs.Object.{condition_of, facts_of}
use Rattle.rv_machine.specs.Objects.{object_image}
use Rattle.object_facts.proofs.Fair.{condition_branches}
use Rattle.object_facts.proofs.Words.{branch_kind, transfer_kind, branch_transfers, kind_there}

-- a history is needed only for a condition
needed : (f : Decided → Bool) (found : Option Decided) → option_map_or f found false ≡ true → (c : Decided) × (found ≡ Some c)
needed f None is = absurd (cc is)
needed f (Some c) is = (c, refl)

-- a branch whose history is needed is a conditional branch
needed_branches : (o : Object) (pc : ℕ) → IsSound o → needs_history o pc ≡ true → (facts_of o).branches pc ≡ true
needed_branches o pc sound is =
    let c = needed (λ (d : Decided). not (is_tree_at o d.decision.0)) (condition_at o pc) is in
    condition_branches o sound pc (condition_of c.0) (ap (option_map condition_of) c.1)

pub edges_agree : (o : Object) (pc : ℕ) → IsSound o → has_edges (kind_at o pc) ≡ (facts_of o).branches pc
edges_agree o pc sound = by_needed (needs_history o pc) refl
  where
    by_needed : (b : Bool) → needs_history o pc ≡ b → has_edges (cond b HistoryBranch (kind_in (kinds_of_text o.text) pc)) ≡ (facts_of o).branches pc
    by_needed true is = sym (needed_branches o pc sound is)
    by_needed false is = ap has_edges (kind_there o.text pc) ∙ sym (branch_kind (instruction_at (object_image o) pc))

pub transfers_agree : (o : Object) (pc : ℕ) → IsSound o → ends_piece (kind_at o pc) ≡ (facts_of o).transfers pc
transfers_agree o pc sound = by_needed (needs_history o pc) refl
  where
    by_needed : (b : Bool) → needs_history o pc ≡ b → ends_piece (cond b HistoryBranch (kind_in (kinds_of_text o.text) pc)) ≡ (facts_of o).transfers pc
    by_needed true is = sym (branch_transfers (instruction_at (object_image o) pc) (needed_branches o pc sound is))
    by_needed false is = ap ends_piece (kind_there o.text pc) ∙ sym (transfer_kind (instruction_at (object_image o) pc))

pub kept_agree : (o : Object) (s : Seen) → kept_of (facts_of o) s ≡ cond (needs_history o s.pc) (branched_by s.pc s.x8 s.edge) None
kept_agree o s = by_condition (condition_at o s.pc)
  where
    by_tree : (b : Bool) (kept : Option Branched) → cond b None kept ≡ cond (not b) kept None
    by_tree true kept = refl
    by_tree false kept = refl

    by_condition : (found : Option Decided) → kept_at (facts_of o) (option_map condition_of found) s
        ≡ cond (option_map_or (λ (c : Decided). not (is_tree_at o c.decision.0)) found false) (branched_by s.pc s.x8 s.edge) None
    by_condition None = refl
    by_condition (Some c) = by_tree (is_tree_at o c.decision.0) (branched_by s.pc s.x8 s.edge)
