-- One more instance of the library level.
use Rattle.std.proofs.Common.{◌≡◌, ℕ, zero, suc, ◌+◌, List, [], ◌∷◌, ◌++◌, length, ap, ◌∙◌, arith}
use Rattle.std.proofs.lemmas.List.{append_assoc, length-append}
use Rattle.ada_tree.specs.declared.program.Program.{Program}
use Rattle.ada_tree.specs.declared.types.TypeDeclaration.{TypeDeclaration}
use Rattle.storage_layout.specs.declared.library.LibraryPlace.{LibraryPlace}
use Rattle.storage_layout.specs.Layouts.{Layouts, with_type_in, with_type_in_all}
use Rattle.storage_layout.specs.Library.{places_from, all_words_in, places_of_instances, words_of_instances}

pub next_words : (p : Program) (n m i : ℕ) (words more : List ℕ) → n ≡ m + 1 → more ≡ words ++ all_words_in p i p.objects
    → more ++ words_of_instances p m (i + 1) ≡ words ++ words_of_instances p n i
next_words p zero m i words more e is = absurd (omega (arith, e))
next_words p (suc n) m i words more e is =
    ap (λ k. more ++ words_of_instances p k (i + 1)) (omega (arith, e))
    ∙ ap (λ w. w ++ words_of_instances p n (i + 1)) is
    ∙ append_assoc words (all_words_in p i p.objects) (words_of_instances p n (i + 1))

pub next_places : (p : Program) (n m i : ℕ) (words more : List ℕ) (one : List LibraryPlace) (places other : List (List LibraryPlace)) → n ≡ m + 1
    → more ≡ words ++ all_words_in p i p.objects → one ≡ places_from p i (length words) p.objects → other ≡ places ++ one ∷ []
    → other ++ places_of_instances p m (i + 1) (length more) ≡ places ++ places_of_instances p n i (length words)
next_places p zero m i words more one places other e is made all = absurd (omega (arith, e))
next_places p (suc n) m i words more one places other e is made all =
    let behind : ℕ → List (List LibraryPlace) = λ k. places_of_instances p n (i + 1) k in
    ap (λ k. other ++ places_of_instances p k (i + 1) (length more)) (omega (arith, e))
    ∙ ap (λ k. other ++ behind k) (ap length is ∙ length-append words (all_words_in p i p.objects))
    ∙ ap (λ o. o ++ behind (length words + length (all_words_in p i p.objects))) all
    ∙ append_assoc places (one ∷ []) (behind (length words + length (all_words_in p i p.objects)))
    ∙ ap (λ o. places ++ o ∷ behind (length words + length (all_words_in p i p.objects))) made

-- one more instance of a type
pub next_type : (p : Program) (n m i number : ℕ) (t : TypeDeclaration) (ls more : Layouts) → n ≡ m + 1 → more ≡ with_type_in p i number t ls
    → with_type_in_all p m (i + 1) number t more ≡ with_type_in_all p n i number t ls
next_type p zero m i number t ls more e is = absurd (omega (arith, e))
next_type p (suc n) m i number t ls more e is =
    let same : m ≡ n = omega (arith, e) in
    ap (λ (k : ℕ). with_type_in_all p k (i + 1) number t more) same ∙ ap (λ (l : Layouts). with_type_in_all p n (i + 1) number t l) is
