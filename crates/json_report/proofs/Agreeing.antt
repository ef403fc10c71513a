-- What is told by what the code keeps is what is told by the events.
use Rattle.std.proofs.Common.{◌≡◌, ℕ, ◌+◌, ◌<◌, Bool, List, [], ◌∷◌, length, slice_get, Some, ap, arith}
use Rattle.std.proofs.lemmas.Option.{slice_get_within}
use Rattle.cov_base.specs.declared.event.Vector.{Vector}
use Rattle.cov_base.specs.declared.level.Level.{Level}
use Rattle.cov_base.specs.declared.obligations.DecEntry.{DecEntry}
use Rattle.cov_base.specs.declared.obligations.StmtEntry.{StmtEntry}
use Rattle.annotated_report.proofs.Numbering.{same_found}
use Rattle.annotated_report.proofs.Same.{AgreeBelow}
use Rattle.json_report.specs.Objects.{statement_object, statement_objects, decision_object, decision_objects}

within : {X : Type 0} (xs : List X) (i m : ℕ) (x : X) → m ≡ 0 + i → slice_get xs i ≡ Some x → m < length xs
within xs i m x e at = let h = slice_get_within xs i x at in omega arith

pub same_statements : (f g : ℕ → Bool) (entries : List StmtEntry) → AgreeBelow (length entries) f g → statement_objects f entries ≡ statement_objects g entries
same_statements f g entries h =
    same_found (λ n entry. statement_object (f n) entry ∷ []) (λ n entry. statement_object (g n) entry ∷ []) 0 entries
    (λ i m x e at. ap (λ (s : Bool). statement_object s x ∷ []) (h m (within entries i m x e at)))

pub same_decisions : (level : Level) (f g : ℕ → List Vector) (entries : List DecEntry) → AgreeBelow (length entries) f g
    → decision_objects level f entries ≡ decision_objects level g entries
same_decisions level f g entries h =
    same_found (λ d entry. decision_object level (f d) entry ∷ []) (λ d entry. decision_object level (g d) entry ∷ []) 0 entries
    (λ i m x e at. ap (λ (v : List Vector). decision_object level v x ∷ []) (h m (within entries i m x e at)))
