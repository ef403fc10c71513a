-- Objects that begin with those of parameters, one after another.
use Rattle.std.proofs.Common.{◌≡◌, ℕ, zero, suc, ◌+◌, ◌<◌, ◌≤◌, true, false, ◌&&◌, List, [], ◌∷◌, drop, length, get_or, sym, ap, ◌∙◌, arith}
use Rattle.std.proofs.lemmas.List.{at_drop_all, at_drop_more, nil_from_length}
use Rattle.ada_tree.specs.declared.program.Parameter.{Parameter}
use Rattle.ada_tree.specs.declared.types.Subtype.{Subtype}
use Rattle.named_types.specs.Same.{same_subtype, begin_with}

-- no parameter is left
pub ended : (qs : List Parameter) (left : List Subtype) (i : ℕ) → length qs ≤ i → true ≡ begin_with (drop i qs) left
ended qs left i past = sym (at_drop_all (λ rest. begin_with rest left) qs i past)

-- no object is left for the next one
pub none_left : (qs : List Parameter) (left : List Subtype) (i : ℕ) → i < length qs → length left ≡ 0
    → false ≡ begin_with (drop i qs) left
none_left [] left i less none = absurd (below_none i less)
  where
    below_none : (k : ℕ) → k < 0 → ⊥
    below_none k l = omega (arith, l)
none_left (q ∷ qs) left zero less none = sym (ap (λ ts. begin_with (q ∷ qs) ts) (nil_from_length left none))
none_left (q ∷ qs) left (suc i) less none = none_left qs left i (omega (arith, less)) none

module _ (qs : List Parameter) (object : Subtype) (behind left : List Subtype) (d : Parameter) (i : ℕ) (less : i < length qs)
    (is : left ≡ object ∷ behind) where
  next : begin_with (drop i qs) left ≡ (same_subtype (get_or qs i d).subtype object && begin_with (drop (i + 1) qs) behind)
  next =
      at_drop_more (λ rest. begin_with rest left) qs i d less
      ∙ ap (λ ts. begin_with (get_or qs i d ∷ drop (i + 1) qs) ts) is

  -- the next one is another's
  pub others : same_subtype (get_or qs i d).subtype object ≡ false → false ≡ begin_with (drop i qs) left
  others h = sym (next ∙ ap (λ b. b && begin_with (drop (i + 1) qs) behind) h)

  -- or it is that of the parameter
  pub goes_on : same_subtype (get_or qs i d).subtype object ≡ true → begin_with (drop (i + 1) qs) behind ≡ begin_with (drop i qs) left
  goes_on h = sym (next ∙ ap (λ b. b && begin_with (drop (i + 1) qs) behind) h)
