-- Places in the order of the text.
use Rattle.std.proofs.Common.{◌≡◌, ◌<◌, ◌⊎◌, inl, inr, ⊎_elim, Bool, true, false, ◌&&◌, ◌||◌, refl, arith, nat_eq, nat_lt}
use Rattle.std.proofs.lemmas.Bool.Decides.{nat_tests}
use Rattle.cov_base.specs.declared.position.Pos.{Pos}
use Rattle.cov_base.specs.TextOrder.{precedes}

-- the order, in words
abbrev pub Earlier : Pos → Pos → Type 0
Earlier a b = (a.file < b.file) ⊎ ((a.file ≡ b.file) × ((a.line < b.line) ⊎ ((a.line ≡ b.line) × (a.col < b.col))))

is_earlier : (a b : Pos) → precedes a b ≡ true → Earlier a b
is_earlier a b is = by_file (nat_lt a.file b.file) refl (nat_eq a.file b.file) refl (nat_lt a.line b.line) refl (nat_eq a.line b.line) refl (nat_lt a.col b.col) refl is
  where
    by_file : (f : Bool) → nat_lt a.file b.file ≡ f → (g : Bool) → nat_eq a.file b.file ≡ g → (l : Bool) → nat_lt a.line b.line ≡ l → (m : Bool) →
        nat_eq a.line b.line ≡ m → (c : Bool) → nat_lt a.col b.col ≡ c → (f || (g && (l || (m && c)))) ≡ true → Earlier a b
    by_file true f g sg l sl m sm c sc e = inl (grind (arith, nat_tests))
    by_file false f true sg true sl m sm c sc e = inr (grind (arith, nat_tests), inl (grind (arith, nat_tests)))
    by_file false f true sg false sl true sm true sc e = inr (grind (arith, nat_tests), inr (grind (arith, nat_tests), grind (arith, nat_tests)))
    by_file false f true sg false sl true sm false sc e = absurd (cc e)
    by_file false f true sg false sl false sm c sc e = absurd (cc e)
    by_file false f false sg l sl m sm c sc e = absurd (cc e)

pub earlier_precedes : (a b : Pos) → Earlier a b → precedes a b ≡ true
earlier_precedes a b is =
    ⊎_elim
    (λ file. grind (arith, nat_tests))
    (λ rest. ⊎_elim (λ line. let same = rest.0 in grind (arith, nat_tests)) (λ last. let same = rest.0 in let line = last.0 in let col = last.1 in grind (arith, nat_tests)) rest.1)
    is

one_way : (a b : Pos) → Earlier a b → Earlier b a → ⊥
one_way a b first second =
    ⊎_elim
    (λ f. ⊎_elim (λ g. absurd (omega (arith, f, g))) (λ r. absurd (omega (arith, f, r.0))) second)
    (λ q. ⊎_elim
    (λ g. absurd (omega (arith, q.0, g)))
    (λ r. ⊎_elim
    (λ l. ⊎_elim (λ m. absurd (omega (arith, l, m))) (λ s. absurd (omega (arith, l, s.0))) r.1)
    (λ t. ⊎_elim (λ m. absurd (omega (arith, t.0, m))) (λ s. absurd (omega (arith, t.1, s.1))) r.1)
    q.1)
    second)
    first

falsely : (b : Bool) → (b ≡ true → ⊥) → b ≡ false
falsely true h = absurd (h refl)
falsely false h = refl

pub not_back : (a b : Pos) → precedes a b ≡ true → precedes b a ≡ false
not_back a b is = falsely (precedes b a) (λ h. one_way a b (is_earlier a b is) (is_earlier b a h))

pub never_itself : (a : Pos) → precedes a a ≡ false
never_itself a = falsely (precedes a a) (λ h. one_way a a (is_earlier a a h) (is_earlier a a h))
