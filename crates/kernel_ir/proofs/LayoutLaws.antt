-- Layouts keep their contents when others come behind them.
use Rattle.std.proofs.Common.{◌≡◌, ℕ, zero, suc, ◌+◌, ◌<◌, List, [], ◌∷◌, ◌++◌, length, arith, refl, ap, ◌∙◌, slice_get}
use Rattle.std.proofs.lemmas.List.{length-append}
use Rattle.kernel_ir.specs.declared.kernel.Layout.{Layout}
use Rattle.kernel_ir.specs.Layouts.{Content, content_or_none, content_at, content_of, contents_after, content_in}

-- a list that begins with another
get_front : {X : Type 0} (xs ys : List X) (k : ℕ) → k < length xs → slice_get (xs ++ ys) k ≡ slice_get xs k
get_front [] ys k h = absurd (omega (arith, h))
get_front (x ∷ xs) ys zero h = refl
get_front (x ∷ xs) ys (suc k) h = get_front xs ys k (omega (arith, h))

get_behind : {X : Type 0} (xs ys : List X) → slice_get (xs ++ ys) (length xs) ≡ slice_get ys 0
get_behind [] ys = refl
get_behind (x ∷ xs) ys = get_behind xs ys

contents_in_parts : (known : List Content) (ls more : List Layout) → contents_after known (ls ++ more) ≡ contents_after (contents_after known ls) more
contents_in_parts known [] more = refl
contents_in_parts known (l ∷ ls) more = contents_in_parts (known ++ content_of known l ∷ []) ls more

contents_length : (known : List Content) (ls : List Layout) → length (contents_after known ls) ≡ length known + length ls
contents_length known [] = omega arith
contents_length known (l ∷ ls) = omega (arith, contents_length (known ++ content_of known l ∷ []) ls, length-append known (content_of known l ∷ []))

known_stay : (known : List Content) (ls : List Layout) (k : ℕ) → k < length known → content_at (contents_after known ls) k ≡ content_at known k
known_stay known [] k h = refl
known_stay known (l ∷ ls) k h =
    known_stay (known ++ content_of known l ∷ []) ls k (omega (arith, h, length-append known (content_of known l ∷ [])))
    ∙ ap content_or_none (get_front known (content_of known l ∷ []) k h)

pub content_stays : (ls more : List Layout) (k : ℕ) → k < length ls → content_in (ls ++ more) k ≡ content_in ls k
content_stays ls more k h =
    ap (λ cs. content_at cs k) (contents_in_parts [] ls more) ∙ known_stay (contents_after [] ls) more k (omega (arith, h, contents_length [] ls))

pub content_behind : (ls : List Layout) (l : Layout) → content_in (ls ++ l ∷ []) (length ls) ≡ content_of (contents_after [] ls) l
content_behind ls l =
    let known : List Content = contents_after [] ls in
    let there : length ls ≡ length known = omega (arith, contents_length [] ls) in
    ap (λ cs. content_at cs (length ls)) (contents_in_parts [] ls (l ∷ []))
    ∙ (ap (content_at (known ++ content_of known l ∷ [])) there ∙ ap content_or_none (get_behind known (content_of known l ∷ [])))
