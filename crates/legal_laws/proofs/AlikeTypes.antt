-- Types that are alike: each is like itself, either is like the other, and what is like one is like the other too.
use Rattle.std.proofs.Common.{◌≡◌, true, false, refl, sym, ap, ◌∙◌, subst}
use Rattle.std.proofs.lemmas.Bool.{false≢true}
use Rattle.ada_meaning.specs.Program.{Program}
use Rattle.ada_meaning.specs.Resolved.{shape_in}
use Rattle.ada_meaning.specs.Types.{Range}
use Rattle.ada_rules.specs.Types.{AdaType, integer_type, enumeration, formal_type, array_type, record_type, is_scalar, type_in_tree}
use Rattle.legal_laws.specs.Known.{AreAlikeTypes}

-- a composite type has no constraints
pub unconstrained : (t : AdaType) (r s : Range) → is_scalar t ≡ false → type_in_tree t r ≡ type_in_tree t s
unconstrained (integer_type i) r s h = absurd (false≢true (sym h))
unconstrained (enumeration i n) r s h = absurd (false≢true (sym h))
unconstrained (formal_type i k b) r s h = absurd (false≢true (sym h))
unconstrained (array_type i x c) r s h = refl
unconstrained (record_type i fs) r s h = refl

module _ (p : Program) where
  pub alike_same : (t : AdaType) → AreAlikeTypes p t t
  alike_same t = record { scalar = refl; shape = λ h inst r s. ap (shape_in p inst) (unconstrained t r s h) }

  pub alike_equal : (t u : AdaType) → t ≡ u → AreAlikeTypes p t u
  alike_equal t u e = subst (AreAlikeTypes p t) e (alike_same t)

  pub alike_scalars : (t u : AdaType) → is_scalar t ≡ true → is_scalar u ≡ true → AreAlikeTypes p t u
  alike_scalars t u h k = record { scalar = h ∙ sym k; shape = λ e inst r s. absurd (false≢true (sym e ∙ h)) }

  pub alike_turned : (t u : AdaType) → AreAlikeTypes p t u → AreAlikeTypes p u t
  alike_turned t u h = record { scalar = sym h.scalar; shape = λ e inst r s. sym (h.shape (h.scalar ∙ e) inst s r) }

  pub alike_both : (t u v : AdaType) → AreAlikeTypes p t u → AreAlikeTypes p u v → AreAlikeTypes p t v
  alike_both t u v h k = record {
    scalar = h.scalar ∙ k.scalar;
    shape = λ e inst r s. h.shape e inst r s ∙ k.shape (sym h.scalar ∙ e) inst s s;
  }
