-- The numbers of instances.
use Rattle.std.proofs.Common.{◌≡◌, ℕ, zero, suc, ◌+◌, Bool, true, false, List, [], ◌∷◌, if◌then◌else◌, refl, arith}
use Rattle.ada_syntax.specs.declared.unit.Unit.{Unit as LibraryUnit}
use Rattle.ada_rules.specs.Library.{is_instance, instance_number}
use Rattle.ada_library.specs.InstanceNumbering.{next_number, next_behind, numbers_from, number_at}

-- counted from any number on
counted : (b : Bool) (k x m : ℕ) → x + 1 ≡ (if b then k + 1 else k) + m → x + 1 ≡ k + (if b then m + 1 else m)
counted true k x m h = omega (arith, h)
counted false k x m h = h

counted_from : (k : ℕ) (us : List LibraryUnit) (n : ℕ) → number_at (numbers_from k us) (next_behind k us) n + 1 ≡ k + instance_number n us
counted_from k [] n = refl
counted_from k (u ∷ us) zero = refl
counted_from k (u ∷ us) (suc n) =
    let next = next_number k u.item in
    counted (is_instance u.item) k (number_at (numbers_from next us) (next_behind next us) n) (instance_number n us) (counted_from next us n)

pub numbered_instances : (us : List LibraryUnit) (n : ℕ) → number_at (numbers_from 1 us) (next_behind 1 us) n ≡ instance_number n us
numbered_instances us n =
    let x = number_at (numbers_from 1 us) (next_behind 1 us) n in
    let from_one : x + 1 ≡ 1 + instance_number n us = counted_from 1 us n in
    omega (arith, from_one)
