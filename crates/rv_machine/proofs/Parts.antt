-- Memory in parts, each made up to the last word that was stored to.
use Rattle.std.proofs.Common.{◌≡◌, ℕ, zero, suc, ◌+◌, ◌-◌, ◌^◌, ◌<◌, ◌≤◌, ◌&&◌, nat_lt, nat_le, List, [], ◌∷◌, ◌++◌, length, slice_index, slice_set, refl, ap, ◌∙◌, arith, if◌then◌else◌}
use Rattle.std.proofs.lemmas.Bool.Decides.{nat_tests}
use Rattle.std.proofs.lemmas.Grind.{common_steps}
use Rattle.rv_semantics.specs.State.{at}
use Rattle.rv_machine.specs.Machine.{Parts, word_of, top_first}

-- the parts of a memory
abbrev pub parts : (below middle top : List ℕ) → Parts
parts below middle top = record { below = below; middle = middle; top = top }

-- a zero behind the others is read there already
pub zero_behind : (words : List ℕ) (k : ℕ) → slice_index (words ++ 0 ∷ []) k ≡ slice_index words k
zero_behind [] zero = refl
zero_behind [] (suc k) = refl
zero_behind (w ∷ words) zero = refl
zero_behind (w ∷ words) (suc k) = zero_behind words k

-- a word that is put behind words that were made up to its place
pub put_one : (old made : List ℕ) (place word : ℕ) → length made ≡ place →
    ((k : ℕ) → slice_index made k ≡ slice_index old k) →
    (k : ℕ) → slice_index (made ++ word ∷ []) k ≡ at (slice_index old) place word k
put_one old made place word all same k =
    behind made place word all k ∙ ap (λ (f : ℕ → ℕ). at f place word k) (λ i j. same j i)
  where
    moved : (f g : ℕ → ℕ) (place word k : ℕ) → g k ≡ f (suc k) →
        at g place word k ≡ at f (suc place) word (suc k)
    moved f g place word k e = grind (arith, nat_tests)

    behind : (made : List ℕ) (place word : ℕ) → length made ≡ place →
        (k : ℕ) → slice_index (made ++ word ∷ []) k ≡ at (slice_index made) place word k
    behind [] place word all zero = grind (arith, nat_tests)
    behind [] place word all (suc k) = grind (arith, nat_tests)
    behind (w ∷ made) zero word all k = omega arith
    behind (w ∷ made) (suc place) word all zero = grind (arith, nat_tests)
    behind (w ∷ made) (suc place) word all (suc k) =
        behind made place word (omega arith) k
        ∙ moved (slice_index (w ∷ made)) (slice_index made) place word k refl

-- a word that is set in a list
pub set_one : (words : List ℕ) (place word : ℕ) → place < length words →
    (k : ℕ) → slice_index (slice_set words place word) k ≡ at (slice_index words) place word k
set_one words place word within k = grind (arith, nat_tests, common_steps)

-- a word that is stored in one of the parts is stored in the memory
pub below_stored : (old new : List ℕ) (middle top : List ℕ) (place word : ℕ) → place < 2 ^ 22 →
    ((k : ℕ) → slice_index new k ≡ at (slice_index old) place word k) →
    (k : ℕ) → word_of (parts new middle top) k ≡ at (word_of (parts old middle top)) place word k
below_stored old new middle top place word within stored k =
    let is = stored k in grind (arith, nat_tests)

pub middle_stored : (old new : List ℕ) (below top : List ℕ) (place word : ℕ) →
    2 ^ 22 ≤ place → place < top_first →
    ((k : ℕ) → slice_index new k ≡ at (slice_index old) (place - 2 ^ 22) word k) →
    (k : ℕ) → word_of (parts below new top) k ≡ at (word_of (parts below old top)) place word k
middle_stored old new below top place word from within stored k =
    let is = stored (k - 2 ^ 22) in grind (arith, nat_tests)

pub top_stored : (old new : List ℕ) (below middle : List ℕ) (place word : ℕ) →
    top_first ≤ place → place < 2 ^ 23 →
    ((k : ℕ) → slice_index new k ≡ at (slice_index old) (2 ^ 23 - 1 - place) word k) →
    (k : ℕ) → word_of (parts below middle new) k ≡ at (word_of (parts below middle old)) place word k
top_stored old new below middle place word from within stored k =
    let is = stored (2 ^ 23 - 1 - k) in grind (arith, nat_tests)

-- one more word is placed
pub placed_more : (old known new : ℕ → ℕ) (first i : ℕ) (words : List ℕ) →
    ((k : ℕ) → known k ≡ (if nat_le first k && nat_lt k (first + i) then slice_index words (k - first) else old k)) →
    ((k : ℕ) → new k ≡ at known (first + i) (slice_index words i) k) →
    (k : ℕ) → new k ≡ (if nat_le first k && nat_lt k (first + (i + 1)) then slice_index words (k - first) else old k)
placed_more old known new first i words were stored k =
    stored k ∙ (ap (λ (f : ℕ → ℕ). at f (first + i) (slice_index words i) k) (λ j m. were m j) ∙ more k)
  where
    more : (k : ℕ) →
        at (λ m. if nat_le first m && nat_lt m (first + i) then slice_index words (m - first) else old m)
        (first + i) (slice_index words i) k
        ≡ (if nat_le first k && nat_lt k (first + (i + 1)) then slice_index words (k - first) else old k)
    more k = grind (arith, nat_tests)
