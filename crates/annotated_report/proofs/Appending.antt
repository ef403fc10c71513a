-- Texts that are appended one after another.
use Rattle.std.proofs.Common.{◌≡◌, ℕ, ◌+◌, Bool, true, false, cond, List, [], ◌∷◌, ◌++◌, drop, filter, sym, ap, ◌∙◌, if◌then◌else◌}
use Rattle.std.proofs.lemmas.List.{append_assoc}

-- what follows a first part
pub begun : (old first more rest : List ℕ) → more ≡ old ++ first → more ++ rest ≡ old ++ (first ++ rest)
begun old first more rest is = ap (λ l. l ++ rest) is ∙ append_assoc old first rest

chosen : {X : Type 0} (b : Bool) (x : X) (old rest : List X) → (old ++ (if b then x ∷ [] else [])) ++ rest ≡ old ++ cond b (x ∷ rest) rest
chosen true x old rest = append_assoc old (x ∷ []) rest
chosen false x old rest = append_assoc old [] rest

-- one more item, if it passes, and those among what is left
pub select_more : {X : Type 0} (p : X → Bool) (xs : List X) (i : ℕ) (x : X) (old more all : List X) → drop i xs ≡ x ∷ drop (i + 1) xs
    → more ≡ old ++ (if p x then x ∷ [] else []) → old ++ filter p (drop i xs) ≡ all → more ++ filter p (drop (i + 1) xs) ≡ all
select_more p xs i x old more all next is whole =
    ap (λ l. l ++ filter p (drop (i + 1) xs)) is ∙ chosen (p x) x old (filter p (drop (i + 1) xs))
    ∙ ap (λ l. old ++ filter p l) (sym next) ∙ whole

-- what was appended in three pieces
pub in_three : (old one two new a b c : List ℕ) → one ≡ old ++ a → two ≡ one ++ b → new ≡ two ++ c → new ≡ old ++ (a ++ (b ++ c))
in_three old one two new a b c p q r =
    r ∙ ap (λ l. l ++ c) (q ∙ ap (λ l. l ++ b) p) ∙ append_assoc (old ++ a) b c ∙ append_assoc old a (b ++ c)
