-- Lists of values of a fixed number of bytes.
use Rattle.std.proofs.Common.{◌≡◌, ℕ, zero, suc, ◌+◌, ◌*◌, ◌<◌, ◌≤◌, true, false, cond, ltb, List, ◌∷◌, length, take, drop, Option, Some, None, refl, sym, ap, ◌∙◌, arith, inl, inr}
use Rattle.std.specs.Prelude.{slice_get}
use Rattle.std.proofs.Math.Nat.{mul-suc, mul-zero, mul-le-mul_left}
use Rattle.std.proofs.lemmas.Bool.{cases_lt, le-ltb, lt-ltb}
use Rattle.std.proofs.lemmas.List.{length-drop, take-take, drop-take, drop-drop}
use Rattle.spelling.specs.Format.{Format, read_many}
use Rattle.spelling.specs.Entries.{values, IsFixed}
use Rattle.spelling.specs.Fixed.{long_reads, short_reads}

abbrev some : {A : Type 0} → A → Option A
some x = Some x

pub length-values : {X : Type 0} (value : List ℕ → X) (size n : ℕ) (bytes : List ℕ) → length (values value size n bytes) ≡ n
length-values value size zero bytes = refl
length-values value size (suc n) bytes = ap suc (length-values value size n (drop size bytes))

-- the value at a place is spelled by the piece at that place
pub get-values : {X : Type 0} (value : List ℕ → X) (size n at : ℕ) (bytes : List ℕ) → at < n → slice_get (values value size n bytes) at ≡ Some (value (take size (drop (size * at) bytes)))
get-values value size zero at bytes lt = absurd (omega (arith, lt))
get-values value size (suc n) zero bytes lt = rw mul-zero refl
get-values value size (suc n) (suc at) bytes lt =
    let next : drop (size * at) (drop size bytes) ≡ drop (size * suc at) bytes = drop-drop (size * at) size bytes ∙ ap (λ (k : ℕ). drop k bytes) (omega (arith, mul-suc size at)) in
    get-values value size n at (drop size bytes) (omega arith) ∙ ap (λ (x : List ℕ). some (value (take size x))) next

-- the pieces of a front that holds them all are the same
values-take : {X : Type 0} (value : List ℕ → X) (size n : ℕ) (bytes : List ℕ) → values value size n (take (size * n) bytes) ≡ values value size n bytes
values-take value size zero bytes = refl
values-take value size (suc n) bytes =
    let k : size * suc n ≡ size + size * n = omega (arith, mul-suc size n) in
    rw (k, take-take size (size + size * n) bytes (omega arith), drop-take size (size * n) bytes) (ap (λ xs. value (take size bytes) ∷ xs) (values-take value size n (drop size bytes)))

abbrev listed : {X : Type 0} → List X → List ℕ → Option (List X × List ℕ)
listed xs rest = Some (xs, rest)

-- to read so many values is to test for the length of all
pub many_fixed : {X : Type 0} (f : Format X) (size : ℕ) (value : List ℕ → X) → IsFixed f size value
    → (n : ℕ) (bytes : List ℕ) → read_many f.read n bytes ≡ cond (ltb (length bytes) (size * n)) None (listed (values value size n bytes) (drop (size * n) bytes))
many_fixed f size value fixed zero bytes =
    let test : ltb (length bytes) 0 ≡ false = le-ltb _ _ (omega arith) in
    rw (mul-zero, test) refl
many_fixed f size value fixed (suc n) bytes =
    let k : size * suc n ≡ size + size * n = omega (arith, mul-suc size n) in
    elim (cases_lt (length bytes) size) [
      | inl short ↦
          let test : ltb (length bytes) (size * suc n) ≡ true = lt-ltb _ _ (omega arith) in
          rw (short_reads f size value fixed bytes short, test) refl
      | inr long ↦
          let rest = many_fixed f size value fixed n (drop size bytes) in
          elim (cases_lt (length bytes) (size + size * n)) [
            | inl short ↦
                let test : ltb (length bytes) (size * suc n) ≡ true = lt-ltb _ _ (omega arith) in
                let inner : ltb (length (drop size bytes)) (size * n) ≡ true = lt-ltb _ _ (omega (arith, length-drop size bytes)) in
                rw (long_reads f size value fixed bytes long, rest, inner, test) refl
            | inr enough ↦
                let test : ltb (length bytes) (size * suc n) ≡ false = le-ltb _ _ (omega arith) in
                let inner : ltb (length (drop size bytes)) (size * n) ≡ false = le-ltb _ _ (omega (arith, length-drop size bytes)) in
                rw (long_reads f size value fixed bytes long, rest, inner, test, drop-drop (size * n) size bytes, k) refl
          ]
    ]

-- so many values, in the bytes that they take
pub many_front : {X : Type 0} (f : Format X) (size : ℕ) (value : List ℕ → X) → IsFixed f size value
    → (n : ℕ) (bytes : List ℕ) → size * n ≤ length bytes → read_many f.read n bytes ≡ Some (values value size n (take (size * n) bytes), drop (size * n) bytes)
many_front f size value fixed n bytes long =
    let test : ltb (length bytes) (size * n) ≡ false = le-ltb _ _ long in
    many_fixed f size value fixed n bytes ∙ rw (test, values-take value size n bytes) refl

-- too few bytes for so many values
pub many_short : {X : Type 0} (f : Format X) (size : ℕ) (value : List ℕ → X) → IsFixed f size value
    → (n : ℕ) (bytes : List ℕ) → length bytes < size * n → read_many f.read n bytes ≡ None
many_short f size value fixed n bytes short =
    let test : ltb (length bytes) (size * n) ≡ true = lt-ltb _ _ short in
    many_fixed f size value fixed n bytes ∙ rw test refl

-- the piece at a place lies within the bytes of all
pub piece_within : {X : Type 0} (value : List ℕ → X) (size n at step : ℕ) (bytes : List ℕ) (xs : List X) → values value size n bytes ≡ xs → at < length xs → length bytes ≡ size * n → step ≡ size → step * at + step ≤ length bytes
piece_within value size n at step bytes xs is lt len e =
    let below : at < n = omega (arith, length-values value size n bytes, ap length is) in
    let more : size * suc at ≤ size * n = mul-le-mul_left size (omega arith) in
    rw e (omega (arith, mul-suc size at))

-- the value of that piece stands there
pub value_at : {X : Type 0} (value : List ℕ → X) (size n at step : ℕ) (bytes piece rest : List ℕ) (xs : List X) (x : X) → values value size n bytes ≡ xs → at < length xs → step ≡ size
    → rest ≡ drop (step * at) bytes → piece ≡ take step rest → x ≡ value piece → slice_get xs at ≡ Some x
value_at {X = X} value size n at step bytes piece rest xs x is lt e rest_is piece_is x_is =
    let below : at < n = omega (arith, length-values value size n bytes, ap length is) in
    let there : slice_get xs at ≡ some (value (take size (drop (size * at) bytes))) = ap (λ (ys : List X). slice_get ys at) (sym is) ∙ get-values value size n at bytes below in
    let same : piece ≡ take size (drop (size * at) bytes) = piece_is ∙ rw (rest_is, e) refl in
    there ∙ ap some (ap value (sym same) ∙ sym x_is)
