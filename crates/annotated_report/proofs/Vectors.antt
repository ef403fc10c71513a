-- The letters of a vector, one after another.
use Rattle.std.proofs.Common.{◌≡◌, ℕ, suc, ◌+◌, ◌-◌, ◌<◌, List, [], ◌∷◌, ◌++◌, sym, ap, ◌∙◌, arith}
use Rattle.std.proofs.lemmas.List.{append_assoc}
use Rattle.cov_base.specs.Marks.{Marks, rank}
use Rattle.annotated_report.specs.Shown.{letter_of, vector_from}

turn : (n c : ℕ) (v : Marks) → c < n → vector_from c (n - c) v ≡ letter_of (rank v c) ∷ vector_from (c + 1) (n - (c + 1)) v
turn n c v h =
    let e : n - c ≡ suc (n - (c + 1)) = omega arith in
    let f : suc c ≡ c + 1 = omega arith in
    ap (λ k. vector_from c k v) e ∙ ap (λ d. letter_of (rank v c) ∷ vector_from d (n - (c + 1)) v) f

pub letters_more : (n c : ℕ) (v : Marks) (old more all : List ℕ) → c < n → more ≡ old ++ letter_of (rank v c) ∷ [] →
    old ++ vector_from c (n - c) v ≡ all → more ++ vector_from (c + 1) (n - (c + 1)) v ≡ all
letters_more n c v old more all h is whole =
    ap (λ l. l ++ vector_from (c + 1) (n - (c + 1)) v) is
    ∙ append_assoc old (letter_of (rank v c) ∷ []) (vector_from (c + 1) (n - (c + 1)) v)
    ∙ ap (λ l. old ++ l) (sym (turn n c v h)) ∙ whole
