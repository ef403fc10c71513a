-- Objects that are numbered in the order of the text have numbers of their own.
use Rattle.std.proofs.Common.{◌≡◌, ◌<◌, ℕ, zero, suc, length, sym, subst, arith}
use Rattle.cov_base.specs.Lists.{Everywhere}
use Rattle.ada_meaning.specs.Objects.{AreDistinct, objects_of}
use Rattle.ada_meaning.specs.Obligations.{numbers}
use Rattle.ada_meaning.specs.Program.{Subprogram}

not_itself : (m n : ℕ) → m < n → m ≡ n → ⊥
not_itself m n less e = omega (arith, less, e)

all_above : (m n k : ℕ) → m < n → Everywhere (λ y. m ≡ y → ⊥) (numbers n k)
all_above m n zero less = tt
all_above m n (suc k) less = (not_itself m n less, all_above m (suc n) k (omega (arith, less)))

pub numbers_distinct : (n k : ℕ) → AreDistinct (numbers n k)
numbers_distinct n zero = tt
numbers_distinct n (suc k) = (all_above n (suc n) k (omega (arith)), numbers_distinct (suc n) k)

pub objects_distinct : (s : Subprogram) → objects_of s ≡ numbers 0 (length s.objects) → AreDistinct (objects_of s)
objects_distinct s numbered = subst AreDistinct (sym numbered) (numbers_distinct 0 (length s.objects))
