-- The layers that all files share: a magic and a version in front of what they hold, and behind it the
-- SHA-256 of all bytes before.
use Rattle.std.specs.Prelude.{◌≡◌, ℕ, ◌-◌, ◌<◌, ◌^◌, Bool, true, List, ◌++◌, length, take, drop, Option, Some, None, Result, Ok, Err, nat_lt, ◌==◌, bytes_eq, if◌then◌else◌}
use Rattle.sha2.specs.Sha256.{sha256}
use Rattle.spelling.specs.declared.fault.LayerFault.{LayerFault}
use Rattle.spelling.specs.declared.fault.LayerFault.TheVariants.{Short, Magic, Version, Long, Damaged}
use Rattle.spelling.specs.Format.{Format, word, read_word}

-- the checks go on with what was answered, and end at the first that fails
infixl 10 ◌>>=◌
abbrev pub ◌>>=◌ : {A B : Type 0} → Result A LayerFault → (A → Result B LayerFault) → Result B LayerFault
(Ok x) >>= f = f x
(Err fault) >>= f = Err fault

-- what was read, or `short`
abbrev pub or_short : {A : Type 0} → Option A → Result A LayerFault
or_short (Some x) = Ok x
or_short None = Err Short

-- what a file holds between its version and its digest, with both
pub record File (X : Type 0) : Type 0 where
  pub version : ℕ
  pub content : X
  pub closing : List ℕ

-- ---- how a file is spelled

-- the bytes, and behind them their SHA-256
abbrev pub sealed : List ℕ → List ℕ
sealed bytes = bytes ++ sha256 bytes

-- a file up to its digest
abbrev pub unsealed : {X : Type 0} → List ℕ → ℕ → Format X → X → List ℕ
unsealed magic version f x = magic ++ (word version ++ f.spell x)

-- a whole file
abbrev pub file : {X : Type 0} → List ℕ → ℕ → Format X → X → List ℕ
file magic version f x = sealed (unsealed magic version f x)

-- the version is known, the content has a spelling, and the digest is that of the bytes before it
pub record IsFile {X : Type 0} (magic : List ℕ) (known : ℕ → Bool) (format : ℕ → Format X) (f : File X) : Type 0 where
  pub version_known : known f.version ≡ true
  pub version_fits : f.version < 2 ^ 32
  pub fits : (format f.version).Fits f.content
  pub closing : f.closing ≡ sha256 (unsealed magic f.version (format f.version) f.content)

-- ---- how a file is read

-- the version, and what follows it: `short` under 8 bytes, then `magic`
abbrev pub open_file : List ℕ → List ℕ → Result (ℕ × List ℕ) LayerFault
open_file magic bytes = if nat_lt (length bytes) 8 then Err Short
    else (if bytes_eq (take 4 bytes) magic then or_short (read_word (drop 4 bytes)) else Err Magic)

-- a test that has to hold, or this fault
abbrev pub when : Bool → LayerFault → Result (Unit {0}) LayerFault
when test fault = if test then Ok tt else Err fault

-- the digest, where it is what is left: `short` under its 32 bytes, then `long`, then `damaged`
abbrev pub close_file : List ℕ → List ℕ → Result (List ℕ) LayerFault
close_file bytes rest = if nat_lt (length rest) 32 then Err Short
    else (if nat_lt 32 (length rest) then Err Long
    else (if bytes_eq rest (sha256 (take (length bytes - 32) bytes)) then Ok rest else Err Damaged))

-- the whole of a file, each version by its format
abbrev pub layers : {X : Type 0} → List ℕ → (ℕ → Bool) → (ℕ → Format X) → List ℕ → Result (File X) LayerFault
layers magic known format bytes = do
  opened ← open_file magic bytes
  is_known ← when (known opened.0) Version
  read ← or_short ((format opened.0).read opened.1)
  closing ← close_file bytes read.1
  Ok (record { version = opened.0; content = read.0; closing = closing })

-- the whole of a file that has one version
abbrev pub single : {X : Type 0} → List ℕ → ℕ → Format X → List ℕ → Result (File X) LayerFault
single magic version f = layers magic (λ v. v == version) (λ _. f)

-- content and digest as the file of a version
abbrev pub of_version : {X : Type 0} → ℕ → X × List ℕ → File X
of_version version x = record { version = version; content = x.0; closing = x.1 }
