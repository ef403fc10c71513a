-- Where no limit is passed, types keep to theirs in each instance in which they are looked at, and no place of a limit was noted.
use Rattle.std.proofs.Common.{◌≡◌, ◌≤◌, ◌+◌, ℕ, nat_le, Bool, true, false, if◌then◌else◌, List, [], ◌∷◌, Option, Some, None, refl, sym, ◌∙◌, subst, arith, inl, inr}
use Rattle.std.proofs.lemmas.Bool.Decides.{nat_tests}
use Rattle.cov_base.specs.TextOrder.{precedes}
use Rattle.cov_base.specs.Lists.{Everywhere, Somewhere}
use Rattle.cov_base.specs.declared.position.Pos.{Pos}
use Rattle.ada_rules.specs.Environment.{Words, Declares}
use Rattle.ada_rules.specs.Limits.{words_in, first_beyond, first_in_some, beyond, earlier_of, first_declared, first_place, most_words_of_type}
use Rattle.ada_rules.specs.Statics.{Facts, places_of}
use Rattle.legal_laws.specs.Served.{AreLimited}

some_is_none : {X : Type 0} {x : X} → Some x ≡ None → ⊥
some_is_none e = cc

-- the earlier of two places is none where both are
either_place : (p q : Pos) (b : Bool) → (if b then Some q else Some p) ≡ None → ⊥
either_place p q true h = some_is_none h
either_place p q false h = some_is_none h

pub both_none : (a b : Option Pos) → earlier_of a b ≡ None → (a ≡ None) × (b ≡ None)
both_none None b h = (refl, h)
both_none (Some p) None h = absurd (some_is_none h)
both_none (Some p) (Some q) h = absurd (either_place p q (precedes q p) h)

pub no_place : (ps : List Pos) → first_place ps ≡ None → ps ≡ []
no_place [] h = refl
no_place (p ∷ ps) h = absurd (some_is_none (both_none (Some p) (first_place ps) h).0)

module _ (facts : List Facts) (most : ℕ) where
  earlier_is : (i : ℕ) (is : List ℕ) (ws : List Words) (a b : Option Pos) → first_beyond facts most i 0 ws ≡ a → first_in_some facts most is ws ≡ b
      → first_in_some facts most (i ∷ is) ws ≡ earlier_of a b
  earlier_is i is ws None b e f = rw (e, f) refl
  earlier_is i is ws (Some p) None e f = rw (e, f) refl
  earlier_is i is ws (Some p) (Some q) e f = rw (e, f) refl

  beyond_in : (i : ℕ) (is : List ℕ) (ws : List Words) (inst : ℕ) → (first_in_some facts most is ws ≡ None → Somewhere (λ j. j ≡ inst) is → first_beyond facts most inst 0 ws ≡ None)
      → (first_beyond facts most i 0 ws ≡ None) × (first_in_some facts most is ws ≡ None) → Somewhere (λ j. j ≡ inst) (i ∷ is) → first_beyond facts most inst 0 ws ≡ None
  beyond_in i is ws inst rest both (inl e) = subst (λ j. first_beyond facts most j 0 ws ≡ None) e both.0
  beyond_in i is ws inst rest both (inr e) = rest both.1 e

  none_beyond : (is : List ℕ) (ws : List Words) (inst : ℕ) → first_in_some facts most is ws ≡ None → Somewhere (λ j. j ≡ inst) is
      → first_beyond facts most inst 0 ws ≡ None
  none_beyond [] ws inst h there = absurd there
  none_beyond (i ∷ is) ws inst h there =
      beyond_in i is ws inst (none_beyond is ws inst)
      (both_none (first_beyond facts most i 0 ws) (first_in_some facts most is ws) (sym (earlier_is i is ws _ _ refl refl) ∙ h)) there

  fits_if : (b : Bool) (x : ℕ) (w : Words) (more : Option Pos) → nat_le x most ≡ b → (if b then more else Some w.place) ≡ None → (x ≤ most) × (more ≡ None)
  fits_if true x w more e h = (grind (arith, nat_tests, e), h)
  fits_if false x w more e h = absurd (some_is_none h)

  all_fit : (inst before : ℕ) (ws : List Words) → first_beyond facts most inst before ws ≡ None → Everywhere (λ w. words_in facts inst w.subtype ≤ most) ws
  all_fit inst before [] h = tt
  all_fit inst before (w ∷ ws) h =
      let this = fits_if (nat_le (before + words_in facts inst w.subtype) most) (before + words_in facts inst w.subtype) w
      (first_beyond facts most inst (before + words_in facts inst w.subtype) ws) refl h in
      let few = this.0 in
      (omega (arith, few), all_fit inst (before + words_in facts inst w.subtype) ws this.1)

pub are_limited : (facts : List Facts) (generic : Option ℕ) (inst : ℕ) (ds : List Declares) → first_declared facts most_words_of_type ds ≡ None
    → Somewhere (λ j. j ≡ inst) (places_of facts generic) → AreLimited facts inst generic ds
are_limited facts generic inst [] h there = tt
are_limited facts generic inst (d ∷ ds) h there =
    let both = both_none (beyond facts most_words_of_type d) (first_declared facts most_words_of_type ds) h in (
      λ same. all_fit facts most_words_of_type inst 0 d.words
          (none_beyond facts most_words_of_type (places_of facts d.generic) d.words inst both.0 (subst (λ o. Somewhere (λ j. j ≡ inst) (places_of facts o)) (sym same) there)),
      are_limited facts generic inst ds both.1 there,
    )
