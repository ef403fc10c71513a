-- Units of the library level, one after another.
use Rattle.std.proofs.Common.{◌≡◌, ℕ, ◌+◌, ◌≤◌, ◌<◌, Bool, true, false, nat_lt, List, ◌∷◌, Option, Some, None, refl, sym, ap, ◌∙◌, arith, if◌then◌else◌}
use Rattle.std.specs.Prelude.{nat_le, unwrap_or}
use Rattle.std.proofs.lemmas.Bool.Decides.{nat_tests}
use Rattle.std.proofs.lemmas.Option.{none-some}
use Rattle.cov_base.specs.declared.position.Pos.{Pos}
use Rattle.ada_syntax.specs.declared.unit.Unit.{Unit as LibraryUnit}
use Rattle.ada_rules.specs.Environment.{World, UnitWords, interface_of}
use Rattle.ada_rules.specs.Limits.{words_by, first_unit, most_words_of_library}
use Rattle.word_limits.specs.Capped.{word_cap, capped, counted_on}
use Rattle.word_limits.proofs.CapLaws.{Is, itself, past, is}

abbrev within : Bool → ℕ → Option ℕ
within b n = if b then None else Some n

-- a count that goes on with the words counted up to the cap goes on with all of them
goes_on : (before n w next : ℕ) → w ≡ capped n → counted_on most_words_of_library before w ≡ Some next
    → (nat_le (before + n) most_words_of_library ≡ true) × (before + n ≡ next)
goes_on before n w next e h = by_test (nat_lt most_words_of_library (before + w)) refl (is n) h where
  by_test : (b : Bool) → nat_lt most_words_of_library (before + w) ≡ b → Is n → within b (before + w) ≡ Some next
      → (nat_le (before + n) most_words_of_library ≡ true) × (before + n ≡ next)
  by_test true t i h = absurd (none-some next h)
  by_test false t (itself f k) h =
      let same : w ≡ n = e ∙ f in
      let all : before + w ≡ next = ap (λ o. unwrap_or o 0) h in
      let small : before + w ≤ most_words_of_library = grind (arith, nat_tests) in
      let few : before + n ≤ most_words_of_library = omega (arith, small, same) in
      (grind (arith, nat_tests), omega (arith, same, all))
  by_test false t (past f k) h =
      let same : w ≡ word_cap = e ∙ f in
      let small : before + w ≤ most_words_of_library = grind (arith, nat_tests) in
      absurd (omega (arith, small, same))

-- and one that is passed with them is passed
passes : (before n w : ℕ) → w ≡ capped n → counted_on most_words_of_library before w ≡ None → nat_le (before + n) most_words_of_library ≡ false
passes before n w e h = by_test (nat_lt most_words_of_library (before + w)) refl (is n) h where
  by_test : (b : Bool) → nat_lt most_words_of_library (before + w) ≡ b → Is n → within b (before + w) ≡ None → nat_le (before + n) most_words_of_library ≡ false
  by_test false t i h = absurd (none-some (before + w) (sym h))
  by_test true t (itself f k) h =
      let same : w ≡ n = e ∙ f in
      let more : most_words_of_library < before + w = grind (arith, nat_tests) in
      let much : most_words_of_library < before + n = omega (arith, more, same) in
      grind (arith, nat_tests)
  by_test true t (past f k) h =
      let much : most_words_of_library < before + n = omega (arith, k) in
      grind (arith, nat_tests)

module _ (w : World) (us : List UnitWords) (n before more : ℕ) (u : LibraryUnit) (rest : List LibraryUnit) where
  abbrev words : ℕ
  words = words_by w.instances n (interface_of w n) us

  abbrev going : Bool → ℕ → Option Pos
  going b next = if b then first_unit w us (n + 1) next rest else Some u.pos

  pub unit_fits : (all : ℕ) → more ≡ capped words → counted_on most_words_of_library before more ≡ Some all
      → first_unit w us (n + 1) all rest ≡ first_unit w us n before (u ∷ rest)
  unit_fits all e h =
      let fits = goes_on before words more all e h in
      λ z. going (sym fits.0 z) (sym fits.1 z)

  pub unit_passes : more ≡ capped words → counted_on most_words_of_library before more ≡ None → Some u.pos ≡ first_unit w us n before (u ∷ rest)
  unit_passes e h = ap (λ b. going b (before + words)) (sym (passes before words more e h))
