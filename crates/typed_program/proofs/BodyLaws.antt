-- Entries of bodies, one behind the other.
use Rattle.std.proofs.Common.{◌≡◌, ℕ, ◌+◌, ◌<◌, ◌≤◌, List, [], ◌∷◌, ◌++◌, map, length, drop, get_or, refl, sym, ap, ◌∙◌}
use Rattle.std.proofs.lemmas.List.{append_assoc, append-nil, at_drop_all, at_drop_more, map-append}
use Rattle.ada_syntax.specs.declared.unit.BodyItem.{BodyItem}
use Rattle.ada_syntax.specs.declared.unit.BodyItem.TheVariants.{Declared, Body}
use Rattle.ada_syntax.specs.declared.unit.Unit.{Unit as LibraryUnit}
use Rattle.ada_tree.specs.declared.program.BodyEntry.{BodyEntry}
use Rattle.program_weights.specs.BodyEntries.{body_entry}
use Rattle.program_weights.specs.BodyTexts.{bodies_among, bodies_of_item, bodies_in}

-- the entries that items have
abbrev pub entered_among : List BodyItem → List BodyEntry
entered_among xs = map body_entry (bodies_among xs)

abbrev pub entered_in : List LibraryUnit → List BodyEntry
entered_in us = map body_entry (bodies_in us)

-- where a loop stands: the entries so far, and those of what is left
module _ {X : Type 0} (F : List X → List BodyEntry) (f : X → List BodyEntry) (empty : F [] ≡ []) (step : (x : X) (xs : List X) → F (x ∷ xs) ≡ f x ++ F xs) where
  pub entered_more : (xs : List X) (i : ℕ) (x : X) (es new whole : List BodyEntry) → i < length xs → x ≡ get_or xs i x → new ≡ es ++ f x
      → es ++ F (drop i xs) ≡ whole → new ++ F (drop (i + 1) xs) ≡ whole
  entered_more xs i x es new whole less is pushed so =
      ap (λ ys. ys ++ F (drop (i + 1) xs)) pushed
      ∙ (append_assoc es (f x) (F (drop (i + 1) xs))
      ∙ (ap (λ ys. es ++ ys) (sym (step x (drop (i + 1) xs)))
      ∙ (ap (λ y. es ++ F (y ∷ drop (i + 1) xs)) is
      ∙ (sym (at_drop_more (λ ys. es ++ F ys) xs i x less) ∙ so))))

  pub all_entered : (xs : List X) (i : ℕ) (es whole : List BodyEntry) → length xs ≤ i → es ++ F (drop i xs) ≡ whole → es ≡ whole
  all_entered xs i es whole none so =
      sym (append-nil es)
      ∙ (ap (λ ys. es ++ ys) (sym empty)
      ∙ (sym (at_drop_all (λ ys. es ++ F ys) xs i none) ∙ so))

pub among_step : (x : BodyItem) (xs : List BodyItem) → entered_among (x ∷ xs) ≡ entered_among (x ∷ []) ++ entered_among xs
among_step (Body b) xs = refl
among_step (Declared i) xs = refl

pub in_step : (u : LibraryUnit) (us : List LibraryUnit) → entered_in (u ∷ us) ≡ map body_entry (bodies_of_item u.item) ++ entered_in us
in_step u us = map-append body_entry (bodies_of_item u.item) (bodies_in us)
