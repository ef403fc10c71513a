-- Memory that has the initial words of each object has them all: filling them in changes nothing there.
use Rattle.std.proofs.Common.{◌≡◌, ℕ, zero, suc, ◌+◌, ◌-◌, ◌<◌, ◌≤◌, nat_eq, inl, inr, ℤ, Bool, true, false, List, [], ◌∷◌, length, Option, None, Some, slice_get, option_map, refl, sym, ap, subst, ◌∙◌, arith}
use Rattle.std.specs.Prelude.{if◌then◌else◌, unwrap_or}
use Rattle.std.proofs.lemmas.Bool.{eqb-true, eq-eqb}
use Rattle.cov_base.specs.Lists.{Somewhere}
use Rattle.ada_meaning.specs.Bodies.{StandsIn}
use Rattle.ada_meaning.specs.Program.{LibraryObject, Instance, Program}
use Rattle.ada_meaning.specs.Resolved.{shape_in}
use Rattle.kernel_ir.proofs.Memories.{filled_at, filled_other}
use Rattle.kernel_ir.specs.Simple.{filled}
use Rattle.kernel_ir.specs.World.{Memory}
use Rattle.statement_code.specs.Initial.{initial_content, in_each, in_all_of, with_words, HasWordsAt, HasInitialWords}
use Rattle.statement_code.proofs.Sets.{in_or_behind}

module _ (memory : Memory) (c : ℕ) where
  -- a memory is as this one at a word
  abbrev Alike : Memory → Type 0
  Alike m = m c ≡ memory c

  none_within : (ys : List ℤ) (n : ℕ) → slice_get ys n ≡ None → n < length ys → ⊥
  none_within [] n is lt = omega (arith, lt)
  none_within (y ∷ ys) zero is lt = cc is
  none_within (y ∷ ys) (suc n) is lt = none_within ys n is (omega (arith, lt))

  fill_gives : (xs : List ℤ) (a : ℕ) (m : Memory) → HasWordsAt xs a memory → a ≤ c → c < a + length xs → Alike (filled xs a m)
  fill_gives xs a m has le lt = by_item (slice_get xs (c - a)) refl
    where
      at : a + (c - a) ≡ c
      at = omega (arith, le)

      by_item : (o : Option ℤ) → slice_get xs (c - a) ≡ o → Alike (filled xs a m)
      by_item (Some x) is = subst (λ d. filled xs a m d ≡ memory d) at (filled_at xs a (c - a) x m is ∙ sym (has (c - a) x is))
      by_item None is = absurd (none_within xs (c - a) is (omega (arith, le, lt)))

  fill_keeps : (xs : List ℤ) (a : ℕ) (m : Memory) → HasWordsAt xs a memory → Alike m → Alike (filled xs a m)
  fill_keeps xs a m has alike =
      in_or_behind (Alike (filled xs a m)) c a (λ lt. filled_other xs a c m (inl lt) ∙ alike)
      (λ le. in_or_behind (Alike (filled xs a m)) c (a + length xs) (λ lt. fill_gives xs a m has le lt) (λ past. filled_other xs a c m (inr past) ∙ alike))

  module _ (p : Program) (address_of : (inst declaration : ℕ) → ℕ) where
    abbrev content : LibraryObject → ℕ → List ℤ
    content o inst = (initial_content p inst (shape_in p inst o.subtype) o.initial).words

    abbrev fills : LibraryObject → ℕ → Memory → Memory
    fills o inst = filled (content o inst) (address_of inst o.declaration)

    abbrev Has : LibraryObject → ℕ → Type 0
    Has o inst = HasWordsAt (content o inst) (address_of inst o.declaration) memory

    record IsInside (o : LibraryObject) (inst : ℕ) : Type 0 where
      low : address_of inst o.declaration ≤ c
      high : c < address_of inst o.declaration + length (content o inst)

    abbrev Behind : (m : ℕ) → List Instance → Type 0
    Behind m is = (n : ℕ) → slice_get p.instances (m + n) ≡ slice_get is n

    later : (m : ℕ) (i : Instance) (is : List Instance) → Behind m (i ∷ is) → Behind (suc m) is
    later m i is behind n = ap (slice_get p.instances) (let e : suc m + n ≡ m + suc n = omega arith in e) ∙ behind (suc n)

    stands : (g m : ℕ) (i : Instance) (is : List Instance) → Behind m (i ∷ is) → nat_eq i.generic g ≡ true → StandsIn p (Some g) (suc m)
    stands g m i is behind is_one =
        ap (λ k. option_map (λ x. x.generic) (slice_get p.instances k)) (let e : m ≡ m + 0 = omega arith in e)
        ∙ ap (λ o. option_map (λ x. x.generic) o) (behind 0) ∙ ap Some (eqb-true i.generic g is_one)

    each_keeps : (o : LibraryObject) (g m : ℕ) (is : List Instance) → Behind m is → ((inst : ℕ) → StandsIn p (Some g) inst → Has o inst) → (mem : Memory) → Alike mem
        → Alike (in_each g is (suc m) (fills o) mem)
    each_keeps o g m [] behind has mem alike = alike
    each_keeps o g m (i ∷ is) behind has mem alike = by_test (nat_eq i.generic g) refl (λ x h. each_keeps o g (suc m) is (later m i is behind) has x h)
      where
        by_test : (b : Bool) → nat_eq i.generic g ≡ b → ((x : Memory) → Alike x → Alike (in_each g is (suc (suc m)) (fills o) x))
            → Alike (in_each g is (suc (suc m)) (fills o) (if b then fills o (suc m) mem else mem))
        by_test true is_one more =
            more (fills o (suc m) mem) (fill_keeps (content o (suc m)) (address_of (suc m) o.declaration) mem (has (suc m) (stands g m i is behind is_one)) alike)
        by_test false is_other more = more mem alike

    each_gives : (o : LibraryObject) (g m k : ℕ) (is : List Instance) → Behind m is → ((inst : ℕ) → StandsIn p (Some g) inst → Has o inst)
        → option_map (λ x. x.generic) (slice_get is k) ≡ Some g → IsInside o (suc m + k) → (mem : Memory) → Alike (in_each g is (suc m) (fills o) mem)
    each_gives o g m k [] behind has there inside mem = absurd (let x : ⊥ = cc there in x)
    each_gives o g m zero (i ∷ is) behind has there inside mem =
        by_test (nat_eq i.generic g) refl
      where
        is_one : nat_eq i.generic g ≡ true
        is_one = eq-eqb i.generic g (ap (λ o. unwrap_or o g) there)

        here : suc m + 0 ≡ suc m
        here = omega arith

        within : IsInside o (suc m)
        within = subst (IsInside o) here inside

        by_test : (b : Bool) → nat_eq i.generic g ≡ b → Alike (in_each g is (suc (suc m)) (fills o) (if b then fills o (suc m) mem else mem))
        by_test true e =
            each_keeps o g (suc m) is (later m i is behind) has (fills o (suc m) mem)
            (fill_gives (content o (suc m)) (address_of (suc m) o.declaration) mem (has (suc m) (stands g m i is behind e)) within.low within.high)
        by_test false e = absurd (let x : ⊥ = cc (sym e ∙ is_one) in x)
    each_gives o g m (suc k) (i ∷ is) behind has there inside mem =
        each_gives o g (suc m) k is (later m i is behind) has there (subst (IsInside o) (let e : suc m + suc k ≡ suc (suc m) + k = omega arith in e) inside)
        (if nat_eq i.generic g then fills o (suc m) mem else mem)

    abbrev from_zero : Behind 0 p.instances
    from_zero = λ n. ap (slice_get p.instances) (let e : 0 + n ≡ n = omega arith in e)

    all_keep : (o : LibraryObject) (g : Option ℕ) → ((inst : ℕ) → StandsIn p g inst → Has o inst) → (mem : Memory) → Alike mem → Alike (in_all_of g p.instances (fills o) mem)
    all_keep o None has mem alike = fill_keeps (content o 0) (address_of 0 o.declaration) mem (has 0 refl) alike
    all_keep o (Some g) has mem alike = each_keeps o g 0 p.instances from_zero has mem alike

    all_give : (o : LibraryObject) (g : Option ℕ) (inst : ℕ) → ((i : ℕ) → StandsIn p g i → Has o i) → StandsIn p g inst → IsInside o inst → (mem : Memory)
        → Alike (in_all_of g p.instances (fills o) mem)
    all_give o None inst has there inside mem =
        let here = subst (IsInside o) there inside in fill_gives (content o 0) (address_of 0 o.declaration) mem (has 0 refl) here.low here.high
    all_give o (Some g) zero has there inside mem = absurd there
    all_give o (Some g) (suc i) has there inside mem = each_gives o g 0 i p.instances from_zero has there (subst (IsInside o) (let e : suc i ≡ suc 0 + i = omega arith in e) inside) mem

    objects_keep : (os : List LibraryObject) → HasInitialWords p address_of memory os → (mem : Memory) → Alike mem → Alike (with_words p address_of os mem)
    objects_keep [] has mem alike = alike
    objects_keep (o ∷ os) has mem alike = objects_keep os has.1 (in_all_of o.generic p.instances (fills o) mem) (all_keep o o.generic has.0 mem alike)

    pub objects_give : (os : List LibraryObject) (o : LibraryObject) (inst : ℕ) → HasInitialWords p address_of memory os → Somewhere (λ x. x ≡ o) os → StandsIn p o.generic inst
        → address_of inst o.declaration ≤ c → c < address_of inst o.declaration + length (content o inst) → (mem : Memory) → Alike (with_words p address_of os mem)
    objects_give [] o inst has there stand low high mem = absurd there
    objects_give (x ∷ os) o inst has (inl is) stand low high mem =
        objects_keep os has.1 (in_all_of x.generic p.instances (fills x) mem)
        (all_give x x.generic inst has.0 (subst (λ y. StandsIn p y.generic inst) (sym is) stand) (subst (λ y. IsInside y inst) (sym is) (record { low = low; high = high })) mem)
    objects_give (x ∷ os) o inst has (inr there) stand low high mem =
        objects_give os o inst has.1 there stand low high (in_all_of x.generic p.instances (fills x) mem)
