-- How the code of a body is put together of its pieces.
use Rattle.std.proofs.Common.{◌≡◌, ℕ, ◌+◌, ◌<◌, drop, get_or, map, List, length, refl, sym, ap, ◌∙◌}
use Rattle.std.proofs.lemmas.List.{at_drop_more}
use Rattle.ada_meaning.specs.Resolved.{ResolvedParameter}
use Rattle.ada_tree.specs.declared.program.Mode.{Mode}
use Rattle.ada_tree.specs.declared.program.Mode.TheVariants as mode
use Rattle.ada_tree.specs.Programs.{mode_of}
use Rattle.kernel_ir.proofs.Joining.{joined_assoc}
use Rattle.kernel_ir.specs.Sequence.{joined}
use Rattle.kernel_ir.specs.Tree.{Code, no_op}
use Rattle.statement_code.specs.Bodies.{scalar_parameter}
use Rattle.lower.specs.declared.context.BodyContext.{BodyContext}
use Rattle.lower.specs.Entered.{all_entered_for, entered_for}

-- a scalar parameter that is not of mode out has its argument
pub given_already : (i : ℕ) (m : Mode) (a : Code) → (m ≡ mode.Out → ⊥) → no_op ≡ scalar_parameter i (mode_of m) a
given_already i mode.In a other = refl
given_already i mode.Out a other = absurd (other refl)
given_already i mode.InOut a other = refl

-- one more parameter
pub one_entered : {X : Type 0} (c : BodyContext) (f : X → ResolvedParameter) (k i n : ℕ) (xs : List X) (d x : X) (old new : Code) → i < length xs → x ≡ get_or xs i d → n ≡ i
    → new ≡ joined old (entered_for c k n (f x)) → joined new (all_entered_for c k (i + 1) (map f (drop (i + 1) xs))) ≡ joined old (all_entered_for c k i (map f (drop i xs)))
one_entered c f k i n xs d x old new less is at put =
    ap (λ y. joined y (all_entered_for c k (i + 1) (map f (drop (i + 1) xs)))) (put ∙ (λ s. joined old (entered_for c k (at s) (f (is s)))))
    ∙ joined_assoc old (entered_for c k i (f (get_or xs i d))) (all_entered_for c k (i + 1) (map f (drop (i + 1) xs)))
    ∙ ap (joined old) (sym (at_drop_more (λ ys. all_entered_for c k i (map f ys)) xs i d less))
