-- How the code of statements is put together of its pieces.
use Rattle.std.proofs.Common.{◌≡◌, ℕ, true, false, List, [], ◌∷◌, refl, sym, ap, ◌∙◌}
use Rattle.ada_meaning.specs.Tree as tree
use Rattle.ada_tree.specs.declared.statement.Direction.{Direction}
use Rattle.ada_tree.specs.declared.statement.Direction.TheVariants as direction
use Rattle.ada_tree.specs.declared.statement.Handler.{Handler}
use Rattle.ada_tree.specs.View.{handlers_of, is_filled, is_reversed}
use Rattle.kernel_ir.specs.declared.simple.Simple.TheVariants as op
use Rattle.kernel_ir.specs.Sequence.{joined}
use Rattle.kernel_ir.specs.Tree.{catch, Code, no_op}
use Rattle.statement_code.specs.Flows.{counted_code, range_code}
use Rattle.statement_code.specs.Statements.{guarded_code}
use Rattle.statement_code.specs.Values.{single, one}
use Rattle.lower.specs.declared.context.BodyContext.{BodyContext}
use Rattle.lower.specs.Stated.{step_of, turn_end, exchange_by, range_by, own_start_for, held_for, stated_for}
use Rattle.lower.proofs.Building.{three_put}
use Rattle.lower.proofs.Pieces.{false_is_not}

-- the bounds of a reverse loop
pub exchanged : (f l k : ℕ) (d : Direction) → (d ≡ direction.Rising → ⊥)
    → joined (one (op.Move k f)) (joined (one (op.Move f l)) (one (op.Move l k))) ≡ exchange_by f l k (is_reversed d)
exchanged f l k direction.Rising other = absurd (other refl)
exchanged f l k direction.Falling other = refl

-- a loop over a range, by the code of a turn
range_is : (h k d : ℕ) (r : Direction) (body : Code) → range_by h k (is_reversed r) (counted_code h k d (step_of r) body) ≡ range_code h k d (is_reversed r) body
range_is h k d direction.Rising body = refl
range_is h k d direction.Falling body = refl

pub range_put : (h k d : ℕ) (r : Direction) (body w x y z : Code) → w ≡ no_op → x ≡ joined w (one (op.Move d h)) → y ≡ joined x body
    → z ≡ joined y (turn_end h k (step_of r)) → range_by h k (is_reversed r) z ≡ range_code h k d (is_reversed r) body
range_put h k d r body w x y z none moved stated ended =
    ap (range_by h k (is_reversed r)) (three_put w x y z (one (op.Move d h)) body (turn_end h k (step_of r)) moved stated ended
    ∙ ap (λ a. joined a (joined (one (op.Move d h)) (joined body (turn_end h k (step_of r))))) none)
    ∙ range_is h k d r body

-- statements without handlers, and with them
pub unguarded : (hs : List Handler) (a b : Code) (k : ℕ) → is_filled hs ≡ false → a ≡ guarded_code (handlers_of hs) a k b
unguarded [] a b k bare = refl
unguarded (h ∷ hs) a b k bare = absurd (false_is_not (sym bare))

pub guarded : (hs : List Handler) (a b : Code) (k : ℕ) → is_filled hs ≡ true → single (catch a k b) ≡ guarded_code (handlers_of hs) a k b
guarded [] a b k filled = absurd (false_is_not filled)
guarded (h ∷ hs) a b k filled = refl

-- the start of a statement, and what it does when it has started
pub started : (c : BodyContext) (k t : ℕ) (s : tree.Stmt) → joined (own_start_for c s) (held_for c k t s) ≡ stated_for c k t s
started c k t (tree.null_statement l) = refl
started c k t (tree.assignment l o parts v) = refl
started c k t (tree.procedure_call l callee actuals) = refl
started c k t (tree.if_statement l bs) = refl
started c k t (tree.case_statement l e choices) = refl
started c k t (tree.bare_loop l ss) = refl
started c k t (tree.while_loop l d u ss) = refl
started c k t (tree.for_loop l d reversed ts ss) = refl
started c k t (tree.exit_statement l) = refl
started c k t (tree.exit_when l d u) = refl
started c k t (tree.return_statement l) = refl
started c k t (tree.return_value l r e) = refl
started c k t (tree.raise_statement l x) = refl
started c k t (tree.raise_again l) = refl
started c k t (tree.block_statement b) = refl
