-- Lists that grow by what each item of another list gives.
use Rattle.std.proofs.Common.{◌≡◌, ℕ, ◌+◌, ◌<◌, ◌≤◌, List, [], ◌∷◌, ◌++◌, length, get_or, drop, sym, ap, ◌∙◌}
use Rattle.std.proofs.lemmas.List.{append_assoc, append-nil, at_drop_more, at_drop_all}

-- one more item, and where none is left
pub one_grown : {X Y : Type 0} (F : List X → List Y) (f : X → List Y) → ((x : X) (xs : List X) → F (x ∷ xs) ≡ f x ++ F xs)
    → (xs : List X) (i : ℕ) (d x : X) (a c : List Y) → i < length xs → x ≡ get_or xs i d → c ≡ a ++ f x → c ++ F (drop (i + 1) xs) ≡ a ++ F (drop i xs)
one_grown F f step xs i d x a c lt is grown =
    ap (λ z. z ++ F (drop (i + 1) xs)) (grown ∙ ap (λ y. a ++ f y) is) ∙ append_assoc a (f (get_or xs i d)) (F (drop (i + 1) xs))
    ∙ ap (λ z. a ++ z) (sym (step (get_or xs i d) (drop (i + 1) xs)) ∙ sym (at_drop_more F xs i d lt))

pub none_grown : {X Y : Type 0} (F : List X → List Y) → F [] ≡ [] → (xs : List X) (i : ℕ) (a c : List Y) → length xs ≤ i → a ++ F (drop i xs) ≡ c → a ≡ c
none_grown F empty xs i a c all whole = sym (append-nil a) ∙ ap (λ z. a ++ z) (sym (at_drop_all F xs i all ∙ empty)) ∙ whole
