-- Formats: how values stand in bytes. A format is built of smaller ones, and says at once how a value is
-- spelled, how it is read back, and which values have a spelling.
use Rattle.std.specs.Prelude.{◌≡◌, ℕ, zero, suc, ◌<◌, ◌^◌, List, [], ◌∷◌, ◌++◌, length, take, drop, Option, Some, None, nat_lt, if◌then◌else◌}
use Rattle.std.specs.List.{flat_map, AllByRecursion}
use Rattle.std.specs.Int.{w32, w64, to_le_bytes, from_le_bytes}

-- how the values of a type stand in bytes
pub record Format (X : Type 0) : Type 1 where
  -- the bytes of a value
  pub spell : X → List ℕ
  -- the value that stands first in the bytes, and what follows it; none where the bytes end too early
  pub read : List ℕ → Option (X × List ℕ)
  -- which values have a spelling
  pub Fits : X → Type 0

-- reading goes on with what was read, and ends where nothing was
infixl 10 ◌>>=◌
abbrev pub ◌>>=◌ : {A B : Type 0} → Option A → (A → Option B) → Option B
(Some x) >>= f = f x
None >>= f = None

-- ---- the smallest formats

-- the first n bytes, and those after them
abbrev pub front : ℕ → List ℕ → Option (List ℕ × List ℕ)
front n bytes = if nat_lt (length bytes) n then None else Some (take n bytes, drop n bytes)

-- n bytes as they are
abbrev pub bytes_of : ℕ → Format (List ℕ)
bytes_of n = record { spell = λ xs. xs; read = front n; Fits = λ xs. length xs ≡ n }

-- a SHA-256 digest
abbrev pub digest : Format (List ℕ)
digest = bytes_of 32

-- the first byte, and those after it
abbrev pub read_byte : List ℕ → Option (ℕ × List ℕ)
read_byte [] = None
read_byte (b ∷ rest) = Some (b, rest)

-- a number of one byte
abbrev pub byte : Format ℕ
byte = record { spell = λ b. b ∷ []; read = read_byte; Fits = λ b. b < 256 }

-- four bytes, the least significant first
unfoldable pub word : ℕ → List ℕ
word n = to_le_bytes w32 n

-- the number that stands in the first four bytes
unfoldable pub read_word : List ℕ → Option (ℕ × List ℕ)
read_word bytes = if nat_lt (length bytes) 4 then None else Some (from_le_bytes w32 (take 4 bytes), drop 4 bytes)

-- a number of four bytes
abbrev pub number : Format ℕ
number = record { spell = word; read = read_word; Fits = λ n. n < 2 ^ 32 }

-- eight bytes, the least significant first
unfoldable pub long_word : ℕ → List ℕ
long_word n = to_le_bytes w64 n

-- the number that stands in the first eight bytes
unfoldable pub read_long_word : List ℕ → Option (ℕ × List ℕ)
read_long_word bytes = if nat_lt (length bytes) 8 then None else Some (from_le_bytes w64 (take 8 bytes), drop 8 bytes)

-- a number of eight bytes
abbrev pub long_number : Format ℕ
long_number = record { spell = long_word; read = read_long_word; Fits = λ n. n < 2 ^ 64 }

-- ---- formats made of others

-- a value, and then one whose format the first may tell
abbrev pub then_by : {X Y : Type 0} → Format X → (X → Format Y) → Format (X × Y)
then_by f g = record {
  spell = λ p. f.spell p.0 ++ (g p.0).spell p.1;
  read = λ bytes. f.read bytes >>= λ x. (g x.0).read x.1 >>= λ y. Some ((x.0, y.0), y.1);
  Fits = λ p. f.Fits p.0 × (g p.0).Fits p.1;
}

-- one value, and then another
infixr 20 ◌&◌
abbrev pub ◌&◌ : {X Y : Type 0} → Format X → Format Y → Format (X × Y)
f & g = then_by f (λ _. g)

-- the same bytes, for values of another type
abbrev pub seen_as : {X Y : Type 0} → Format X → (X → Y) → (Y → X) → Format Y
seen_as f to from = record {
  spell = λ y. f.spell (from y);
  read = λ bytes. f.read bytes >>= λ x. Some (to x.0, x.1);
  Fits = λ y. f.Fits (from y);
}

-- so many values, one after another
abbrev pub read_many : {X : Type 0} → (List ℕ → Option (X × List ℕ)) → ℕ → List ℕ → Option (List X × List ℕ)
read_many read zero bytes = Some ([], bytes)
read_many read (suc n) bytes = read bytes >>= λ first. read_many read n first.1 >>= λ others. Some (first.0 ∷ others.0, others.1)

abbrev pub many : {X : Type 0} → Format X → ℕ → Format (List X)
many f n = record { spell = flat_map f.spell; read = read_many f.read n; Fits = λ xs. (length xs ≡ n) × AllByRecursion f.Fits xs }

-- what stands behind its count
abbrev pub counted : {X : Type 0} → Format ℕ → (ℕ → Format (List X)) → Format (List X)
counted count f = seen_as (then_by count f) (λ p. p.1) (λ xs. (length xs, xs))

-- a list: its count in four bytes, and its values
abbrev pub list_of : {X : Type 0} → Format X → Format (List X)
list_of f = counted number (many f)

-- a list whose count takes eight bytes
abbrev pub long_list_of : {X : Type 0} → Format X → Format (List X)
long_list_of f = counted long_number (many f)

-- a text: its length in four bytes, and its bytes
abbrev pub string : Format (List ℕ)
string = counted number bytes_of
