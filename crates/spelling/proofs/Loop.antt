-- Reading values one after another, as a loop does.
use Rattle.std.proofs.Common.{◌≡◌, ℕ, suc, ◌-◌, ◌+◌, ◌≤◌, ◌<◌, List, [], ◌∷◌, ◌++◌, Option, Some, None, refl, sym, ap, ◌∙◌, append_assoc, arith}
use Rattle.std.proofs.lemmas.List.{append-nil}
use Rattle.cov_base.specs.declared.failure.Failure.{Failure}
use Rattle.cov_base.specs.declared.failure.Failure.TheVariants.{Fault, WantOfMemory}
use Rattle.spelling.specs.declared.fault.Short.{Short}
use Rattle.spelling.specs.Format.{◌>>=◌, read_many}
use Rattle.spelling.specs.Outcome.{Misses}

-- what was read before, and what is still read
abbrev pub with_front : {X : Type 0} → List X → Option (List X × List ℕ) → Option (List X × List ℕ)
with_front front read = read >>= λ x. Some (front ++ x.0, x.1)

regroup : {X : Type 0} (front : List X) (x : X) (read : Option (List X × List ℕ)) → with_front front (read >>= λ y. Some (x ∷ y.0, y.1)) ≡ with_front (front ++ x ∷ []) read
regroup {X = X} front x (Some y) = ap (λ (xs : List X). let p : Option (List X × List ℕ) = Some (xs, y.1) in p) (simp append_assoc)
regroup front x None = refl

pub goes_on : {X : Type 0} (read : List ℕ → Option (X × List ℕ)) (front : List X) (count i : ℕ) (bytes : List ℕ) (x : X) (after : List ℕ) (total : Option (List X × List ℕ)) → i < count → read bytes ≡ Some (x, after)
    → with_front front (read_many read (count - i) bytes) ≡ total → with_front (front ++ x ∷ []) (read_many read (count - (i + 1)) after) ≡ total
goes_on read front count i bytes x after total lt h so_far =
    let k : count - i ≡ suc (count - (i + 1)) = omega arith in
    let one : with_front front (read_many read (count - i) bytes) ≡ with_front (front ++ x ∷ []) (read_many read (count - (i + 1)) after) = rw (k, h) (regroup front x (read_many read (count - (i + 1)) after)) in
    sym one ∙ so_far

pub ends : {X : Type 0} (read : List ℕ → Option (X × List ℕ)) (e : Failure Short) (front : List X) (count i : ℕ) (bytes : List ℕ) (total : Option (List X × List ℕ)) → i < count → Misses e (read bytes)
    → with_front front (read_many read (count - i) bytes) ≡ total → Misses e total
ends read WantOfMemory front count i bytes total lt h so_far = tt
ends {X = X} read (Fault short) front count i bytes total lt h so_far =
    let k : count - i ≡ suc (count - (i + 1)) = omega arith in
    let one : with_front front (read_many read (count - i) bytes) ≡ None = rw (k, h) refl in
    sym so_far ∙ one

pub is_done : {X : Type 0} (read : List ℕ → Option (X × List ℕ)) (front : List X) (count i : ℕ) (bytes : List ℕ) (total : Option (List X × List ℕ)) → count ≤ i → with_front front (read_many read (count - i) bytes) ≡ total → total ≡ Some (front, bytes)
is_done {X = X} read front count i bytes total le so_far =
    let k : count - i ≡ 0 = omega arith in
    let one : with_front front (read_many read (count - i) bytes) ≡ Some (front, bytes) = rw k (ap (λ (xs : List X). let p : Option (List X × List ℕ) = Some (xs, bytes) in p) (append-nil front)) in
    sym so_far ∙ one
