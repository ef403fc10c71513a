-- A source has at most one token more than it has bytes, since its tokens stand one after the other.
use Rattle.std.proofs.Common.{◌≡◌, ℕ, zero, suc, ◌+◌, ◌<◌, ◌≤◌, ◌⊎◌, inl, inr, ⊎_elim, Bool, true, false, List, [], ◌∷◌, length, take, refl, subst, arith}
use Rattle.std.specs.Prelude.{◌==◌, if◌then◌else◌}
use Rattle.std.specs.List.{AllPairs, AllByRecursion}
use Rattle.std.proofs.lemmas.List.Elements.{recursion_from_All}
use Rattle.cov_base.specs.declared.position.Pos.{Pos}
use Rattle.ada_lexer.specs.declared.token.Token.{Token}
use Rattle.ada_lexer.specs.Tokens.{IsTokenOf, IsBefore, AreTokensOf, place_at, place_after, place_behind}
use Rattle.expression_parser.specs.Reading.{Tokens}
use Rattle.parsed_texts.proofs.Files.{all_behind, pairs_behind}

-- a place that stands at another or behind it, in one file
abbrev From : Pos → Pos → Type 0
From p q = (p.line < q.line) ⊎ ((p.line ≡ q.line) × (p.col ≤ q.col))

never_back : (p q : Pos) → From p q → IsBefore q p → ⊥
never_back p q first second =
    ⊎_elim
    (λ l. ⊎_elim (λ m. absurd (omega (arith, l, m))) (λ s. absurd (omega (arith, l, s.0))) second)
    (λ t. ⊎_elim (λ m. absurd (omega (arith, t.0, m))) (λ s. absurd (omega (arith, t.1, s.1))) second)
    first

then_from : (p q r : Pos) → From p q → From q r → From p r
then_from p q r first second =
    ⊎_elim
    (λ l. ⊎_elim (λ m. inl (omega (arith, l, m))) (λ s. inl (omega (arith, l, s.0))) second)
    (λ t. ⊎_elim (λ m. inl (omega (arith, t.0, m))) (λ s. inr (omega (arith, t.0, s.0), omega (arith, t.1, s.1))) second)
    first

by_byte : (p : Pos) (b : Bool) → From p (if b then record p { line = p.line + 1; col = 1 } else record p { col = p.col + 1 })
by_byte p true = inl (omega arith)
by_byte p false = inr (refl, omega arith)

goes_on : (p : Pos) (bytes : List ℕ) → From p (place_after p bytes)
goes_on p [] = inr (refl, omega arith)
goes_on p (b ∷ bytes) = then_from p (place_behind p b) (place_after (place_behind p b) bytes) (by_byte p (b == 10)) (goes_on (place_behind p b) bytes)

-- of two offsets the earlier place has the lower one, which is that of a byte
room : (source : List ℕ) (p : Pos) (a b : ℕ) → IsBefore (place_after p (take a source)) (place_after p (take b source)) → (a < b) × (a < length source)
room [] p zero zero h = absurd (never_back p p (goes_on p []) h)
room [] p zero (suc b) h = absurd (never_back p p (goes_on p []) h)
room [] p (suc a) zero h = absurd (never_back p p (goes_on p []) h)
room [] p (suc a) (suc b) h = absurd (never_back p p (goes_on p []) h)
room (s ∷ ss) p zero zero h = absurd (never_back p p (goes_on p []) h)
room (s ∷ ss) p zero (suc b) h = (omega arith, omega arith)
room (s ∷ ss) p (suc a) zero h = absurd (never_back p (place_after (place_behind p s) (take a ss)) (goes_on p (s ∷ take a ss)) h)
room (s ∷ ss) p (suc a) (suc b) h = let less = room ss (place_behind p s) a b h in (omega (arith, less.0), omega (arith, less.1))

module _ (n : ℕ) (source : List ℕ) where
  apart : (t u : Token) → IsTokenOf n source t → IsTokenOf n source u → IsBefore t.pos u.pos → (t.from < u.from) × (t.from < length source)
  apart t u is at h =
      room source (record { file = n; line = 1; col = 1 }) t.from u.from
      (subst (λ q. IsBefore (place_at n source t.from) q) at.place (subst (λ p. IsBefore p u.pos) is.place h))

  from_one : (t u : Token) (us : Tokens) → IsTokenOf n source t → AllByRecursion (IsTokenOf n source) (u ∷ us) → AllPairs (λ (a b : Token). IsBefore a.pos b.pos) (t ∷ u ∷ us)
      → t.from + length (u ∷ us) ≤ length source
  from_one t u [] is each h =
      let less = apart t u is each.0 (recursion_from_All (λ (v : Token). IsBefore t.pos v.pos) (u ∷ []) (all_behind n source t (u ∷ []) h)).0 in
      omega (arith, less.1)
  from_one t u (v ∷ vs) is each h =
      let less = apart t u is each.0 (recursion_from_All (λ (w : Token). IsBefore t.pos w.pos) (u ∷ v ∷ vs) (all_behind n source t (u ∷ v ∷ vs) h)).0 in
      let more = from_one u v vs each.0 each.1 (pairs_behind n source t (u ∷ v ∷ vs) h) in
      omega (arith, less.0, more)

  few : (ts : Tokens) → AllByRecursion (IsTokenOf n source) ts → AllPairs (λ (a b : Token). IsBefore a.pos b.pos) ts → length ts ≤ length source + 1
  few [] each h = omega arith
  few (t ∷ []) each h = omega arith
  few (t ∷ u ∷ us) each h = let more = from_one t u us each.0 each.1 h in omega (arith, more)

pub few_tokens : (n : ℕ) (source : List ℕ) (ts : Tokens) → AreTokensOf n source ts → length ts ≤ length source + 1
few_tokens n source ts h = few n source ts (recursion_from_All (IsTokenOf n source) ts h.each) h.places
