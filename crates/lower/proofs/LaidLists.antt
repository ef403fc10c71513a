-- Lists that grow at their ends, and what stands among them.
use Rattle.std.proofs.Common.{◌≡◌, ◌⊎◌, inl, inr, ℕ, zero, suc, ◌+◌, ◌<◌, nat_eq, Bool, true, false, ◌&&◌, List, [], ◌∷◌, ◌++◌, length, None, Some, slice_get, refl, sym, ap, subst, ◌∙◌, arith}
use Rattle.std.specs.Prelude.{if◌then◌else◌}
use Rattle.std.proofs.lemmas.Bool.{eqb-true, eq-eqb, false≢true}
use Rattle.std.proofs.lemmas.Option.{none-some}
use Rattle.cov_base.specs.Lists.{Everywhere}
use Rattle.kernel_ir.specs.declared.kernel.Layout.{Layout}
use Rattle.kernel_ir.specs.Layouts.{Content, content_of, contents_after}
use Rattle.kernel_ir.specs.Limits.{LayoutFits, LayoutsFit}
use Rattle.storage_layout.specs.declared.layouts.LaidType.{LaidType}
use Rattle.storage_layout.specs.declared.layouts.LaidType.TheVariants.{First, Composite}
use Rattle.storage_layout.specs.Layouts.{is_layout_of, layouts_before}

pub get_front : {X : Type 0} (xs ys : List X) (k : ℕ) (x : X) → slice_get xs k ≡ Some x → slice_get (xs ++ ys) k ≡ Some x
get_front [] ys k x there = absurd (none-some x there)
get_front (y ∷ xs) ys zero x there = there
get_front (y ∷ xs) ys (suc k) x there = get_front xs ys k x there

pub get_last : {X : Type 0} (xs : List X) (x : X) → slice_get (xs ++ x ∷ []) (length xs) ≡ Some x
get_last [] x = refl
get_last (y ∷ xs) x = get_last xs x

-- an item of a list with one more is one of the list, or the last
pub get_either : {X : Type 0} (xs : List X) (y : X) (k : ℕ) (x : X) → slice_get (xs ++ y ∷ []) k ≡ Some x
    → (slice_get xs k ≡ Some x) ⊎ ((k ≡ length xs) × (y ≡ x))
get_either [] y zero x there = inr (refl, let e : y ≡ x = cc there in e)
get_either [] y (suc k) x there = absurd (none-some x there)
get_either (z ∷ xs) y zero x there = inl there
get_either (z ∷ xs) y (suc k) x there = elim (get_either xs y k x there) [ inl h ↦ inl h | inr h ↦ inr (ap suc h.0, h.1) ]

pub none_within : {X : Type 0} (xs : List X) (k : ℕ) → k < length xs → slice_get xs k ≡ None → ⊥
none_within [] k less none = omega (arith, less)
none_within (x ∷ xs) zero less none = none-some x (sym none)
none_within (x ∷ xs) (suc k) less none = none_within xs k (omega (arith, less)) none

pub everywhere_last : {X : Type 0} (P : X → Type 0) (xs : List X) (x : X) → Everywhere P xs → P x → Everywhere P (xs ++ x ∷ [])
everywhere_last P [] x all last = (last, tt)
everywhere_last P (y ∷ xs) x all last = (all.0, everywhere_last P xs x all.1 last)

pub first_ones : {X : Type 0} (P : X → Type 0) (xs : List X) (x : X) → Everywhere P (xs ++ x ∷ []) → Everywhere P xs × P x
first_ones P [] x all = (tt, all.0)
first_ones P (y ∷ xs) x all = let rest = first_ones P xs x all.1 in ((all.0, rest.0), rest.1)

pub fit_last : (n m : ℕ) (ls : List Layout) (l : Layout) → m ≡ n + length ls → LayoutsFit n ls → LayoutFits m l → LayoutsFit n (ls ++ l ∷ [])
fit_last n m [] l is fit last = (subst (λ k. LayoutFits k l) (omega (arith, is)) last, tt)
fit_last n m (k ∷ ls) l is fit last = (fit.0, fit_last (suc n) m ls l (omega (arith, is)) fit.1 last)

pub contents_last : (known : List Content) (ls : List Layout) (l : Layout)
    → contents_after known (ls ++ l ∷ []) ≡ contents_after known ls ++ content_of (contents_after known ls) l ∷ []
contents_last known [] l = refl
contents_last known (k ∷ ls) l = contents_last (known ++ content_of known k ∷ []) ls l

-- the layout of a type is found
both : (a b : Bool) → (a && b) ≡ true → (a ≡ true) × (b ≡ true)
both true true is = (refl, refl)
both true false is = absurd (false≢true is)
both false true is = absurd (false≢true is)
both false false is = absurd (false≢true is)

is_that : (i n : ℕ) (t : LaidType) → is_layout_of i n t ≡ true → t ≡ Composite i n
is_that i n (First x) is = absurd (false≢true is)
is_that i n (Composite j m) is =
    let e = both (nat_eq j i) (nat_eq m n) is in
    let a : j ≡ i = eqb-true j i e.0 in
    let b : m ≡ n = eqb-true m n e.1 in
    λ s. Composite (a s) (b s)

is_itself : (i n : ℕ) → is_layout_of i n (Composite i n) ≡ true
is_itself i n = λ s. eq-eqb i i refl s && eq-eqb n n refl s

pub found : (laid : List LaidType) (i n x : ℕ) → slice_get laid x ≡ Some (Composite i n) → slice_get laid (layouts_before i n laid) ≡ Some (Composite i n)
found [] i n x there = absurd (none-some (Composite i n) there)
found (t ∷ ts) i n zero there =
    let e : t ≡ Composite i n = cc there in
    ap (λ (b : Bool). slice_get (t ∷ ts) (if b then zero else suc (layouts_before i n ts))) (ap (is_layout_of i n) e ∙ is_itself i n) ∙ there
found (t ∷ ts) i n (suc x) there = by_test (found ts i n x there) (is_layout_of i n t) refl
  where
    by_test : slice_get ts (layouts_before i n ts) ≡ Some (Composite i n) → (b : Bool) → is_layout_of i n t ≡ b
        → slice_get (t ∷ ts) (if b then zero else suc (layouts_before i n ts)) ≡ Some (Composite i n)
    by_test later true e = ap Some (is_that i n t e)
    by_test later false e = later
