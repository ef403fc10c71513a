-- Looking for the first entry that fails, as a loop does.
use Rattle.std.proofs.Common.{◌≡◌, ℕ, ◌+◌, ◌<◌, Bool, true, false, List, ◌∷◌, length, drop, Option, Some, refl, sym, ap, ◌∙◌, add-one}
use Rattle.std.specs.Prelude.{slice_get}
use Rattle.std.proofs.Math.Seq.{drop-cons}
use Rattle.std.proofs.lemmas.Option.{slice_get_within, get_or_from_slice_get}
use Rattle.spelling.specs.Checks.{first_failing}

-- the list from a place on begins with the entry that stands there
rest_at : {X : Type 0} (xs : List X) (at : ℕ) (x : X) → slice_get xs at ≡ Some x → drop at xs ≡ x ∷ drop (at + 1) xs
rest_at {X = X} xs at x e =
    let lt : at < length xs = slice_get_within xs at x e in
    drop-cons xs at x lt ∙ rw (get_or_from_slice_get xs at x x e, add-one) refl

pub fails_here : {X : Type 0} (passes : Option X → X → Bool) (before : Option X) (xs : List X) (at : ℕ) (x : X) (total : Option ℕ) → slice_get xs at ≡ Some x → passes before x ≡ false
    → first_failing passes before at (drop at xs) ≡ total → total ≡ Some at
fails_here {X = X} passes before xs at x total e fails so_far =
    sym so_far ∙ ap (first_failing passes before at) (rest_at xs at x e) ∙ rw fails refl

pub goes_by : {X : Type 0} (passes : Option X → X → Bool) (before : Option X) (xs : List X) (at : ℕ) (x : X) (total : Option ℕ) → slice_get xs at ≡ Some x → passes before x ≡ true
    → first_failing passes before at (drop at xs) ≡ total → first_failing passes (Some x) (at + 1) (drop (at + 1) xs) ≡ total
goes_by {X = X} passes before xs at x total e does so_far =
    let one : first_failing passes before at (drop at xs) ≡ first_failing passes (Some x) (at + 1) (drop (at + 1) xs) = ap (first_failing passes before at) (rest_at xs at x e) ∙ rw does refl in
    sym one ∙ so_far
