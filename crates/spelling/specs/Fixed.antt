-- Which formats take a fixed number of bytes, for each way to build one.
use Rattle.std.proofs.Common.{◌≡◌, ℕ, suc, ◌+◌, ◌<◌, ◌≤◌, true, false, cond, ltb, List, [], ◌∷◌, length, take, drop, Option, Some, None, refl, ◌∙◌, arith, inl, inr}
use Rattle.std.specs.Int.{w32, w64, from_le_bytes}
use Rattle.std.proofs.lemmas.Bool.{cases_lt, le-ltb, lt-ltb}
use Rattle.std.proofs.lemmas.List.{length-drop, take-take, drop-take, drop-drop}
use Rattle.spelling.specs.Format.{Format, digest, byte, number, read_word, read_long_word, long_number, ◌&◌, seen_as}
use Rattle.spelling.specs.Entries.{IsFixed}

-- the number that four bytes spell
abbrev pub number_value : List ℕ → ℕ
number_value bytes = from_le_bytes w32 bytes

-- the number that eight bytes spell
abbrev pub long_number_value : List ℕ → ℕ
long_number_value bytes = from_le_bytes w64 bytes

-- the number that a byte spells
abbrev pub byte_value : List ℕ → ℕ
byte_value [] = 0
byte_value (b ∷ bytes) = b

pub number_fixed : IsFixed number 4 number_value
unfolding read_word
number_fixed = record { reads = λ bytes. refl }

pub long_number_fixed : IsFixed long_number 8 long_number_value
unfolding read_long_word
long_number_fixed = record { reads = λ bytes. refl }

-- the digest that 32 bytes are
abbrev pub digest_value : List ℕ → List ℕ
digest_value bytes = bytes

pub digest_fixed : IsFixed digest 32 digest_value
digest_fixed = record { reads = λ bytes. refl }

byte_reads : (bytes : List ℕ) → byte.read bytes ≡ cond (ltb (length bytes) 1) None (Some (byte_value (take 1 bytes), drop 1 bytes))
byte_reads [] = refl
byte_reads (b ∷ bytes) =
    let long : ltb (suc (length bytes)) 1 ≡ false = le-ltb _ _ (omega arith) in
    rw long refl

pub byte_fixed : IsFixed byte 1 byte_value
byte_fixed = record { reads = byte_reads }

abbrev some : {A : Type 0} → A → Option A
some x = Some x

-- what stands in a fixed number of bytes is read where they are there
pub long_reads : {X : Type 0} (f : Format X) (size : ℕ) (value : List ℕ → X) → IsFixed f size value → (bytes : List ℕ) → size ≤ length bytes → f.read bytes ≡ Some (value (take size bytes), drop size bytes)
long_reads f size value fixed bytes long =
    let test : ltb (length bytes) size ≡ false = le-ltb _ _ long in
    fixed.reads bytes ∙ rw test refl

pub short_reads : {X : Type 0} (f : Format X) (size : ℕ) (value : List ℕ → X) → IsFixed f size value → (bytes : List ℕ) → length bytes < size → f.read bytes ≡ None
short_reads f size value fixed bytes short =
    let test : ltb (length bytes) size ≡ true = lt-ltb _ _ short in
    fixed.reads bytes ∙ rw test refl

-- two values, each of a fixed number of bytes
abbrev pub both_values : {X Y : Type 0} → ℕ → (List ℕ → X) → (List ℕ → Y) → List ℕ → X × Y
both_values size v w bytes = (v (take size bytes), w (drop size bytes))

abbrev both : {X Y : Type 0} → X → Y → List ℕ → Option ((X × Y) × List ℕ)
both x y rest = Some ((x, y), rest)

and_reads : {X Y : Type 0} (f : Format X) (g : Format Y) (a b : ℕ) (v : List ℕ → X) (w : List ℕ → Y) → IsFixed f a v → IsFixed g b w
    → (bytes : List ℕ) → (f & g).read bytes ≡ cond (ltb (length bytes) (a + b)) None (both (v (take a (take (a + b) bytes))) (w (drop a (take (a + b) bytes))) (drop (a + b) bytes))
and_reads f g a b v w f-fixed g-fixed bytes =
    elim (cases_lt (length bytes) a) [
      | inl short ↦
          let test : ltb (length bytes) (a + b) ≡ true = lt-ltb _ _ (omega arith) in
          rw (short_reads f a v f-fixed bytes short, test) refl
      | inr long ↦
          elim (cases_lt (length bytes) (a + b)) [
            | inl short ↦
                let test : ltb (length bytes) (a + b) ≡ true = lt-ltb _ _ short in
                rw (long_reads f a v f-fixed bytes long, short_reads g b w g-fixed (drop a bytes) (omega (arith, length-drop a bytes)), test) refl
            | inr enough ↦
                let test : ltb (length bytes) (a + b) ≡ false = le-ltb _ _ enough in
                rw (long_reads f a v f-fixed bytes long, long_reads g b w g-fixed (drop a bytes) (omega (arith, length-drop a bytes)), test, take-take a (a + b) bytes (omega arith), drop-take a b bytes, drop-drop b a bytes) refl
          ]
    ]

pub and_fixed : {X Y : Type 0} (f : Format X) (g : Format Y) (a b : ℕ) (v : List ℕ → X) (w : List ℕ → Y) → IsFixed f a v → IsFixed g b w → IsFixed (f & g) (a + b) (both_values a v w)
and_fixed f g a b v w f-fixed g-fixed = record { reads = and_reads f g a b v w f-fixed g-fixed }

seen_reads : {X Y : Type 0} (f : Format X) (to : X → Y) (from : Y → X) (size : ℕ) (v : List ℕ → X) → IsFixed f size v
    → (bytes : List ℕ) → (seen_as f to from).read bytes ≡ cond (ltb (length bytes) size) None (some (to (v (take size bytes)), drop size bytes))
seen_reads f to from size v fixed bytes =
    elim (cases_lt (length bytes) size) [
      | inl short ↦
          let test : ltb (length bytes) size ≡ true = lt-ltb _ _ short in
          rw (short_reads f size v fixed bytes short, test) refl
      | inr long ↦
          let test : ltb (length bytes) size ≡ false = le-ltb _ _ long in
          rw (long_reads f size v fixed bytes long, test) refl
    ]

pub seen_as_fixed : {X Y : Type 0} (f : Format X) (to : X → Y) (from : Y → X) (size : ℕ) (v : List ℕ → X) → IsFixed f size v → IsFixed (seen_as f to from) size (λ bytes. to (v bytes))
seen_as_fixed f to from size v fixed = record { reads = seen_reads f to from size v fixed }
