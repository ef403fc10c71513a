-- What the words of instances add up to.
use Rattle.std.proofs.Common.{◌≡◌, ℕ, zero, suc, ◌+◌, Some, option_and_then, sym, ap, ◌∙◌, arith}
use Rattle.ada_meaning.specs.Program.{Program}
use Rattle.ada_resolved.specs.Library.{instance_size, with_instances}
use Rattle.ada_resolved.specs.Sizes.{with_component}

-- the words of the next instance, and those of the rest
pub next_instance : (p : Program) (words more n m i : ℕ) → n ≡ m + 1 → with_component words (instance_size p i) ≡ Some more
    → with_instances p more m (i + 1) ≡ with_instances p words n i
next_instance p words more zero m i e is = absurd (omega (arith, e))
next_instance p words more (suc n) m i e is =
    ap (λ k. with_instances p more k (i + 1)) (omega (arith, e))
    ∙ ap (λ x. option_and_then (λ w. with_instances p w n (i + 1)) x) (sym is)
