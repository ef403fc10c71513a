-- Code that is put behind code.
use Rattle.std.proofs.Common.{◌≡◌, ℕ, ◌+◌, ◌<◌, ◌≤◌, drop, get_or, List, [], ◌∷◌, length, Result, Ok, Err, OnOk, sym, ap, ◌∙◌}
use Rattle.std.proofs.lemmas.List.{at_drop_more, at_drop_all}
use Rattle.kernel_ir.proofs.Joining.{joined_nothing, joined_assoc}
use Rattle.kernel_ir.specs.Sequence.{joined}
use Rattle.kernel_ir.specs.Tree.{Code, no_op}

-- two pieces, one after the other
pub two_put : (a b c x y : Code) → b ≡ joined a x → c ≡ joined b y → c ≡ joined a (joined x y)
two_put a b c x y first second = second ∙ ap (λ z. joined z y) first ∙ joined_assoc a x y

-- three pieces
pub three_put : (a b c d x y z : Code) → b ≡ joined a x → c ≡ joined b y → d ≡ joined c z → d ≡ joined a (joined x (joined y z))
three_put a b c d x y z first second third = two_put a b d x (joined y z) first (two_put b c d y z second third)

-- two pieces, where the second one may not fit in memory
pub then_put : {A E : Type 0} (r : Result A E) (a b c x y : Code) → b ≡ joined a x → OnOk r (c ≡ joined b y) → OnOk r (c ≡ joined a (joined x y))
then_put (Ok u) a b c x y first second = two_put a b c x y first second
then_put (Err e) a b c x y first second = tt

-- the code of the items of a list, one after another: of one more item, and where none is left
pub one_more : {X : Type 0} (F : List X → Code) (f : X → Code) → ((x : X) (xs : List X) → F (x ∷ xs) ≡ joined (f x) (F xs))
    → (xs : List X) (i : ℕ) (d x : X) (a c : Code) → i < length xs → x ≡ get_or xs i d → c ≡ joined a (f x) → joined c (F (drop (i + 1) xs)) ≡ joined a (F (drop i xs))
one_more F f step xs i d x a c lt is put =
    ap (λ z. joined z (F (drop (i + 1) xs))) (put ∙ ap (λ y. joined a (f y)) is) ∙ joined_assoc a (f (get_or xs i d)) (F (drop (i + 1) xs))
    ∙ ap (joined a) (sym (step (get_or xs i d) (drop (i + 1) xs)) ∙ sym (at_drop_more F xs i d lt))

pub none_left : {X : Type 0} (F : List X → Code) → F [] ≡ no_op → (xs : List X) (i : ℕ) (a c : Code) → length xs ≤ i → joined a (F (drop i xs)) ≡ c → a ≡ c
none_left F empty xs i a c all whole = sym (joined_nothing a) ∙ ap (joined a) (sym (at_drop_all F xs i all ∙ empty)) ∙ whole
