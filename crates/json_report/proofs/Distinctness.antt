-- The distinct vectors depend on which vectors there are alone.
use Rattle.std.proofs.Common.{◌≡◌, ℕ, zero, suc, ◌+◌, ◌<◌, ◌≤◌, true, false, List, [], ◌∷◌, ◌++◌, map, length, take, drop, slice_get, Some, nat_lt, refl, sym, ap, ◌∙◌, subst, inl, inr, arith}
use Rattle.std.proofs.lemmas.Bool.{cases_Bool, cond-true, cond-false}
use Rattle.std.proofs.lemmas.Bool.Decides.{nat_tests}
use Rattle.std.proofs.lemmas.List.{take_all, drop_all}
use Rattle.serde_json.specs.Data.{Data, string}
use Rattle.cov_base.specs.declared.event.Vector.{Vector}
use Rattle.cov_base.specs.Lists.{Everywhere, Somewhere}
use Rattle.cov_base.specs.Marks.{marks, precedes}
use Rattle.mcdc_verdicts.proofs.Lists.{everywhere-map}
use Rattle.mcdc_verdicts.proofs.Ordering.{key_from, by_keys}
use Rattle.annotated_report.specs.Members.{Has, AreWithin, AreAlike}
use Rattle.annotated_report.specs.Shown.{vector_text}
use Rattle.annotated_report.proofs.LeastPairs.{same_text}
use Rattle.json_report.specs.Distinct.{Rises, in_front, added, all_added, distinct}
use Rattle.json_report.specs.Objects.{vector_values}
use Rattle.json_report.proofs.Added.{added_everywhere}

-- the number that the marks of a vector spell
abbrev key : ℕ → Vector → ℕ
key n v = key_from 0 n (marks v)

less_of : (a b : ℕ) → nat_lt a b ≡ true → a < b
less_of a b h = grind (arith, nat_tests)

not_less_of : (a b : ℕ) → nat_lt a b ≡ false → a < b → ⊥
not_less_of a b h l = grind (arith, nat_tests)

before : (n : ℕ) (v w : Vector) → precedes n (marks v) (marks w) ≡ true → key n v < key n w
before n v w h = less_of (key n v) (key n w) (sym (by_keys 0 n (marks v) (marks w)) ∙ h)

not_before : (n : ℕ) (v w : Vector) → precedes n (marks v) (marks w) ≡ false → key n v < key n w → ⊥
not_before n v w h = not_less_of (key n v) (key n w) (sym (by_keys 0 n (marks v) (marks w)) ∙ h)

neither : (n : ℕ) (v w : Vector) → precedes n (marks v) (marks w) ≡ false → precedes n (marks w) (marks v) ≡ false → key n v ≡ key n w
neither n v w h l =
    let a = not_before n v w h in
    let b = not_before n w v l in
    grind (arith, a, b)

itself_not : (a b : ℕ) → a ≡ b → nat_lt a b ≡ false
itself_not a b e = grind (arith, nat_tests)

-- vectors with one number have one text
text_of : (n : ℕ) (v w : Vector) → key n v ≡ key n w → vector_text n v ≡ vector_text n w
text_of n v w e =
    same_text n 0 (marks v) (marks w) (by_keys 0 n (marks v) (marks w) ∙ itself_not (key n v) (key n w) e)
    (by_keys 0 n (marks w) (marks v) ∙ itself_not (key n w) (key n v) (sym e))

-- each comes before those that follow
abbrev RiseByKeys : ℕ → List Vector → Type 0
RiseByKeys n [] = Unit {0}
RiseByKeys n (v ∷ vs) = Everywhere (λ w. key n v < key n w) vs × RiseByKeys n vs

smaller : (a b c : ℕ) → a < b → b < c → a < c
smaller a b c h l = omega arith

rises_added : (n : ℕ) (v : Vector) (ws : List Vector) → RiseByKeys n ws → RiseByKeys n (added n v ws)
rises_added n v [] h = (tt, tt)
rises_added n v (w ∷ ws) h =
    elim (cases_Bool (precedes n (marks w) (marks v))) [
      | inl first ↦ subst (RiseByKeys n) (sym (cond-true _ (w ∷ added n v ws) (in_front n v (w ∷ ws)) first))
          (added_everywhere (λ x. key n w < key n x) n v ws (before n w v first) h.0, rises_added n v ws h.1)
      | inr other ↦ subst (RiseByKeys n) (sym (cond-false _ (w ∷ added n v ws) (in_front n v (w ∷ ws)) other))
          (elim (cases_Bool (precedes n (marks v) (marks w))) [
            | inl sooner ↦
                let less = before n v w sooner in
                subst (RiseByKeys n) (sym (cond-true _ (v ∷ w ∷ ws) (w ∷ ws) sooner))
                ((less, everywhere-map (λ x. key n w < key n x) (λ x. key n v < key n x) (λ x l. smaller (key n v) (key n w) (key n x) less l) ws h.0), h)
            | inr same ↦ subst (RiseByKeys n) (sym (cond-false _ (v ∷ w ∷ ws) (w ∷ ws) same)) h
          ])
    ]

-- ---- the same by the order of vectors

less_is : (a b : ℕ) → a < b → nat_lt a b ≡ true
less_is a b l = grind (arith, nat_tests)

after : (n : ℕ) (v w : Vector) → key n v < key n w → precedes n (marks v) (marks w) ≡ true
after n v w l = by_keys 0 n (marks v) (marks w) ∙ less_is (key n v) (key n w) l

to_keys : (n : ℕ) (vs : List Vector) → Rises n vs → RiseByKeys n vs
to_keys n [] h = tt
to_keys n (v ∷ vs) h =
    (everywhere-map (λ w. precedes n (marks v) (marks w) ≡ true) (λ w. key n v < key n w) (λ w is. before n v w is) vs h.0, to_keys n vs h.1)

of_keys : (n : ℕ) (vs : List Vector) → RiseByKeys n vs → Rises n vs
of_keys n [] h = tt
of_keys n (v ∷ vs) h =
    (everywhere-map (λ w. key n v < key n w) (λ w. precedes n (marks v) (marks w) ≡ true) (λ w l. after n v w l) vs h.0, of_keys n vs h.1)

-- vectors that rise still do once one is added
pub rises_more : (n : ℕ) (v : Vector) (ws kept : List Vector) → Rises n ws → kept ≡ added n v ws → Rises n kept
rises_more n v ws kept h is = subst (Rises n) (sym is) (of_keys n (added n v ws) (rises_added n v ws (to_keys n ws h)))

-- ---- a vector behind the last one

through : (n : ℕ) (a b c : Vector) → precedes n (marks a) (marks b) ≡ true → precedes n (marks b) (marks c) ≡ true → precedes n (marks a) (marks c) ≡ true
through n a b c h l = after n a c (smaller (key n a) (key n b) (key n c) (before n a b h) (before n b c l))

all_before : (n : ℕ) (v last : Vector) (ws : List Vector) (i : ℕ) → i + 1 ≡ length ws → slice_get ws i ≡ Some last → Rises n ws
    → precedes n (marks last) (marks v) ≡ true → Everywhere (λ w. precedes n (marks w) (marks v) ≡ true) ws
all_before n v last [] i end there rises is = absurd (cc there)
all_before n v last (w ∷ []) zero end there rises is =
    let same : w ≡ last = cc there in
    (subst (λ x. precedes n (marks x) (marks v) ≡ true) (sym same) is, tt)
all_before n v last (w ∷ []) (suc i) end there rises is = absurd (cc there)
all_before n v last (w ∷ x ∷ ws) zero end there rises is = absurd (let bad : ⊥ = omega (arith, end) in bad)
all_before n v last (w ∷ x ∷ ws) (suc i) end there rises is =
    let rest = all_before n v last (x ∷ ws) i (omega (arith, end)) there rises.1 is in
    (through n w x v rises.0.0 rest.0, rest)

comes_last : (n : ℕ) (v : Vector) (ws : List Vector) → Everywhere (λ w. precedes n (marks w) (marks v) ≡ true) ws → added n v ws ≡ ws ++ v ∷ []
comes_last n v [] all = refl
comes_last n v (w ∷ ws) all =
    cond-true (precedes n (marks w) (marks v)) (w ∷ added n v ws) (in_front n v (w ∷ ws)) all.0 ∙ ap (λ l. w ∷ l) (comes_last n v ws all.1)

-- a vector that the last one comes before finds its place behind all of them
pub placed_last : (n : ℕ) (v last : Vector) (ws : List Vector) (i count : ℕ) → i + 1 ≡ length ws → slice_get ws i ≡ Some last → Rises n ws
    → precedes n (marks last) (marks v) ≡ true → count ≡ length ws → added n v ws ≡ take count ws ++ in_front n v (drop count ws)
placed_last n v last ws i count end there rises is all =
    let enough : length ws ≤ count = omega (arith, all) in
    comes_last n v ws (all_before n v last ws i end there rises is)
    ∙ sym (ap (λ l. l ++ in_front n v (drop count ws)) (take_all count ws enough) ∙ ap (λ l. ws ++ in_front n v l) (drop_all count ws enough))

rises_all : (n : ℕ) (kept vs : List Vector) → RiseByKeys n kept → RiseByKeys n (all_added n kept vs)
rises_all n kept [] h = h
rises_all n kept (v ∷ vs) h = rises_all n (added n v kept) vs (rises_added n v kept h)

-- ---- which numbers there are

abbrev HasKey : ℕ → List Vector → ℕ → Type 0
HasKey n vs k = Somewhere (λ v. key n v ≡ k) vs

has_new : (n : ℕ) (v : Vector) (ws : List Vector) → HasKey n (added n v ws) (key n v)
has_new n v [] = inl refl
has_new n v (w ∷ ws) =
    let At : List Vector → Type 0 = λ l. HasKey n l (key n v) in
    elim (cases_Bool (precedes n (marks w) (marks v))) [
      | inl first ↦ subst At (sym (cond-true _ (w ∷ added n v ws) (in_front n v (w ∷ ws)) first)) (inr (has_new n v ws))
      | inr other ↦ subst At (sym (cond-false _ (w ∷ added n v ws) (in_front n v (w ∷ ws)) other))
          (elim (cases_Bool (precedes n (marks v) (marks w))) [
            | inl sooner ↦ subst At (sym (cond-true _ (v ∷ w ∷ ws) (w ∷ ws) sooner)) (inl refl)
            | inr same ↦ subst At (sym (cond-false _ (v ∷ w ∷ ws) (w ∷ ws) same)) (inl (neither n w v other same))
          ])
    ]

has_old : (n : ℕ) (v : Vector) (ws : List Vector) (k : ℕ) → HasKey n ws k → HasKey n (added n v ws) k
has_old n v [] k h = absurd h
has_old n v (w ∷ ws) k h =
    let At : List Vector → Type 0 = λ l. HasKey n l k in
    elim (cases_Bool (precedes n (marks w) (marks v))) [
      | inl first ↦ subst At (sym (cond-true _ (w ∷ added n v ws) (in_front n v (w ∷ ws)) first))
          (elim h [ inl here ↦ inl here | inr there ↦ inr (has_old n v ws k there) ])
      | inr other ↦ subst At (sym (cond-false _ (w ∷ added n v ws) (in_front n v (w ∷ ws)) other))
          (elim (cases_Bool (precedes n (marks v) (marks w))) [
            | inl sooner ↦ subst At (sym (cond-true _ (v ∷ w ∷ ws) (w ∷ ws) sooner)) (inr h)
            | inr same ↦ subst At (sym (cond-false _ (v ∷ w ∷ ws) (w ∷ ws) same)) h
          ])
    ]

all_kept : (n : ℕ) (kept vs : List Vector) (k : ℕ) → HasKey n kept k → HasKey n (all_added n kept vs) k
all_kept n kept [] k h = h
all_kept n kept (v ∷ vs) k h = all_kept n (added n v kept) vs k (has_old n v kept k h)

all_new : (n : ℕ) (kept vs : List Vector) (v : Vector) → Has vs v → HasKey n (all_added n kept vs) (key n v)
all_new n kept [] v h = absurd h
all_new n kept (w ∷ vs) v h =
    elim h [
      | inl is ↦ subst (λ x. HasKey n (all_added n (added n w kept) vs) (key n x)) is (all_kept n (added n w kept) vs (key n w) (has_new n w kept))
      | inr there ↦ all_new n (added n w kept) vs v there
    ]

-- what holds of all that are added, and of those before, holds of all
all_everywhere : (P : Vector → Type 0) (n : ℕ) (kept vs : List Vector) → Everywhere P kept → Everywhere P vs → Everywhere P (all_added n kept vs)
all_everywhere P n kept [] h l = h
all_everywhere P n kept (v ∷ vs) h l = all_everywhere P n (added n v kept) vs (added_everywhere P n v kept l.0 h) l.1

-- ---- two such lists with the same numbers

at_key : (n k : ℕ) (P : ℕ → Type 0) (vs : List Vector) → Everywhere (λ v. P (key n v)) vs → HasKey n vs k → P k
at_key n k P [] all h = absurd h
at_key n k P (v ∷ vs) all h = elim h [ inl is ↦ subst P is all.0 | inr there ↦ at_key n k P vs all.1 there ]

first_same : (n : ℕ) (x y : Vector) (xs ys : List Vector) → RiseByKeys n (x ∷ xs) → RiseByKeys n (y ∷ ys)
    → HasKey n (y ∷ ys) (key n x) → HasKey n (x ∷ xs) (key n y) → key n x ≡ key n y
first_same n x y xs ys h l f g =
    elim f [
      | inl is ↦ sym is
      | inr there ↦
          let less : key n y < key n x = at_key n (key n x) (λ k. key n y < k) ys l.0 there in
          elim g [
            | inl is ↦ is
            | inr other ↦
                let more : key n x < key n y = at_key n (key n y) (λ k. key n x < k) xs h.0 other in
                absurd (let bad : ⊥ = omega (arith, less, more) in bad)
          ]
    ]

behind : (n k : ℕ) (x y : Vector) (ys : List Vector) → key n x < k → key n x ≡ key n y → HasKey n (y ∷ ys) k → HasKey n ys k
behind n k x y ys less same h =
    elim h [ inl is ↦ absurd (let bad : ⊥ = omega (arith, less, same, is) in bad) | inr there ↦ there ]

same_texts : (n : ℕ) (xs ys : List Vector) → RiseByKeys n xs → RiseByKeys n ys → ((k : ℕ) → HasKey n xs k → HasKey n ys k) → ((k : ℕ) → HasKey n ys k → HasKey n xs k)
    → map (λ v. string (vector_text n v)) xs ≡ map (λ v. string (vector_text n v)) ys
same_texts n [] [] h l f g = refl
same_texts n [] (y ∷ ys) h l f g = absurd (g (key n y) (inl refl))
same_texts n (x ∷ xs) [] h l f g = absurd (f (key n x) (inl refl))
same_texts n (x ∷ xs) (y ∷ ys) h l f g =
    let same = first_same n x y xs ys h l (f (key n x) (inl refl)) (g (key n y) (inl refl)) in
    ap (λ (text : List ℕ). string text ∷ map (λ v. string (vector_text n v)) xs) (text_of n x y same)
    ∙ ap (λ (texts : List Data). string (vector_text n y) ∷ texts)
    (same_texts n xs ys h.1 l.1
    (λ k there. behind n k x y ys (at_key n k (λ m. key n x < m) xs h.0 there) same (f k (inr there)))
    (λ k there. behind n k y x xs (at_key n k (λ m. key n y < m) ys l.0 there) (sym same) (g k (inr there))))

all_in : (n : ℕ) (vs ws : List Vector) → AreWithin vs ws → Everywhere (λ v. HasKey n (distinct n ws) (key n v)) vs
all_in n [] ws h = tt
all_in n (v ∷ vs) ws h = (all_new n [] ws v (h v (inl refl)), all_in n vs ws (λ x k. h x (inr k)))

keys_within : (n : ℕ) (vs ws : List Vector) → AreWithin vs ws → (k : ℕ) → HasKey n (distinct n vs) k → HasKey n (distinct n ws) k
keys_within n vs ws h k there =
    at_key n k (HasKey n (distinct n ws)) (distinct n vs)
    (all_everywhere (λ v. HasKey n (distinct n ws) (key n v)) n [] vs tt (all_in n vs ws h)) there

-- vectors that are alike have the same distinct texts
pub same_vectors : (n : ℕ) (vs ws : List Vector) → AreAlike vs ws → vector_values n vs ≡ vector_values n ws
same_vectors n vs ws h =
    same_texts n (distinct n vs) (distinct n ws) (rises_all n [] vs tt) (rises_all n [] ws tt) (keys_within n vs ws h.0) (keys_within n ws vs h.1)
