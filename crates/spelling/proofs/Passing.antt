-- What it says of each entry that none fails.
use Rattle.std.proofs.Common.{◌≡◌, ℕ, zero, suc, ◌+◌, ◌<◌, Bool, true, false, cond, List, [], ◌∷◌, Option, Some, None, refl, ap, subst, ◌∙◌, arith}
use Rattle.std.specs.Prelude.{slice_get}
use Rattle.spelling.specs.Checks.{first_failing, behind}

abbrev some : {A : Type 0} → A → Option A
some x = Some x

some_is : {A : Type 0} (x y : A) → some x ≡ some y → x ≡ y
some_is x y e = cc

-- a test that passed, and what is left to look at
passed : (b : Bool) (rest : Option ℕ) (at : ℕ) → cond b rest (Some at) ≡ None → (b ≡ true) × (rest ≡ None)
passed true rest at e = (refl, e)
passed false rest at e = absurd cc

-- each entry passes behind the one before it
pub passes_each : {X : Type 0} (passes : Option X → X → Bool) (before : Option X) (at : ℕ) (xs : List X) → first_failing passes before at xs ≡ None
    → (i : ℕ) (x : X) → slice_get xs i ≡ Some x → passes (behind before xs i) x ≡ true
passes_each passes before at [] none i x e = absurd cc
passes_each passes before at (y ∷ ys) none zero x e =
    let p = passed (passes before y) (first_failing passes (Some y) (at + 1) ys) at none in
    ap (passes before) (some_is x y (let back : some x ≡ some y = cc in back)) ∙ p.0
passes_each passes before at (y ∷ ys) none (suc i) x e =
    let p = passed (passes before y) (first_failing passes (Some y) (at + 1) ys) at none in
    passes_each passes (Some y) (at + 1) ys p.1 i x e

-- where to pass is to stand above the entry before, all that follow stand above it
pub above_all : {X : Type 0} (passes : Option X → X → Bool) (Below : X → X → Type 0) → ((a b : X) → passes (Some a) b ≡ true → Below a b) → ((a b c : X) → Below a b → Below b c → Below a c)
    → (a : X) (at : ℕ) (ys : List X) → first_failing passes (Some a) at ys ≡ None → (j : ℕ) (b : X) → slice_get ys j ≡ Some b → Below a b
above_all passes Below step trans a at [] none j b e = absurd cc
above_all passes Below step trans a at (y ∷ ys) none zero b e =
    let p = passed (passes (Some a) y) (first_failing passes (Some y) (at + 1) ys) at none in
    subst (λ z. Below a z) (some_is y b e) (step a y p.0)
above_all passes Below step trans a at (y ∷ ys) none (suc j) b e =
    let p = passed (passes (Some a) y) (first_failing passes (Some y) (at + 1) ys) at none in
    trans a y b (step a y p.0) (above_all passes Below step trans y (at + 1) ys p.1 j b e)

-- and of two entries the later one stands above the earlier
pub each_above : {X : Type 0} (passes : Option X → X → Bool) (Below : X → X → Type 0) → ((a b : X) → passes (Some a) b ≡ true → Below a b) → ((a b c : X) → Below a b → Below b c → Below a c)
    → (before : Option X) (at : ℕ) (xs : List X) → first_failing passes before at xs ≡ None → (i j : ℕ) (a b : X) → i < j → slice_get xs i ≡ Some a → slice_get xs j ≡ Some b → Below a b
each_above passes Below step trans before at [] none i j a b lt e f = absurd cc
each_above passes Below step trans before at (y ∷ ys) none i zero a b lt e f = absurd (omega (arith, lt))
each_above passes Below step trans before at (y ∷ ys) none zero (suc j) a b lt e f =
    let p = passed (passes before y) (first_failing passes (Some y) (at + 1) ys) at none in
    subst (λ z. Below z b) (some_is y a e) (above_all passes Below step trans y (at + 1) ys p.1 j b f)
each_above passes Below step trans before at (y ∷ ys) none (suc i) (suc j) a b lt e f =
    let p = passed (passes before y) (first_failing passes (Some y) (at + 1) ys) at none in
    each_above passes Below step trans (Some y) (at + 1) ys p.1 i j a b (omega (arith, lt)) e f
