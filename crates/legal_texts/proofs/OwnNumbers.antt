-- Two instances have no number in common.
use Rattle.std.proofs.Common.{◌≡◌, ◌<◌, ℕ, zero, suc, true, List, Some, slice_get, refl, ap, inl, inr, arith}
use Rattle.std.specs.Prelude.{◌⊎◌}
use Rattle.ada_syntax.specs.declared.unit.Unit.{Unit as LibraryUnit}
use Rattle.ada_rules.specs.Library.{is_instance, instance_number}
use Rattle.legal_instances.proofs.InstanceNumbers.{IsInstanceAt, number_less}

less_or_same : (m n : ℕ) → (m ≡ n) ⊎ ((m < n) ⊎ (n < m))
less_or_same zero zero = inl refl
less_or_same zero (suc n) = inr (inl (omega (arith)))
less_or_same (suc m) zero = inr (inr (omega (arith)))
less_or_same (suc m) (suc n) = of_rest (less_or_same m n)
  where
    of_rest : (m ≡ n) ⊎ ((m < n) ⊎ (n < m)) → (suc m ≡ suc n) ⊎ ((suc m < suc n) ⊎ (suc n < suc m))
    of_rest (inl e) = inl (ap suc e)
    of_rest (inr (inl l)) = inr (inl (omega (arith, l)))
    of_rest (inr (inr l)) = inr (inr (omega (arith, l)))

not_both : (x y : ℕ) → x ≡ y → (x < y) ⊎ (y < x) → ⊥
not_both x y e (inl l) = omega (arith, e, l)
not_both x y e (inr l) = omega (arith, e, l)

pub own_numbers : (us : List LibraryUnit) (m n : ℕ) (a b : LibraryUnit) → slice_get us m ≡ Some a → slice_get us n ≡ Some b → is_instance a.item ≡ true
    → is_instance b.item ≡ true → instance_number m us ≡ instance_number n us → m ≡ n
own_numbers us m n a b at_m at_n is_m is_n same = of_order (less_or_same m n)
  where
    first : IsInstanceAt us m
    first = record { unit = a; there = at_m; is = is_m }

    second : IsInstanceAt us n
    second = record { unit = b; there = at_n; is = is_n }

    of_order : (m ≡ n) ⊎ ((m < n) ⊎ (n < m)) → m ≡ n
    of_order (inl e) = e
    of_order (inr (inl l)) = absurd (not_both (instance_number m us) (instance_number n us) same (inl (number_less us m n l first second)))
    of_order (inr (inr l)) = absurd (not_both (instance_number m us) (instance_number n us) same (inr (number_less us n m l second first)))
