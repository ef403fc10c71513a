-- What units name, by any table in which names lead to the same units.
use Rattle.std.proofs.Common.{◌≡◌, ℕ, List, [], ◌∷◌, Option, Some, None, if◌then◌else◌, refl, sym, ap, ◌∙◌}
use Rattle.ada_syntax.specs.declared.name.Identifier.{Identifier}
use Rattle.ada_syntax.specs.declared.unit.Unit.{Unit as LibraryUnit}
use Rattle.ada_rules.specs.Entities.{key}
use Rattle.ada_rules.specs.Library.{is_package_body, unit_named, clause_names, numbers_named, edges_of, graph_of}

abbrev with_number : Option ℕ → List ℕ → List ℕ
with_number None ns = ns
with_number (Some n) ns = n ∷ ns

module _ (names : List (List ℕ × ℕ)) (i : Identifier) (is : List Identifier) where
  first_by : (o : Option ℕ) → unit_named names (key i) ≡ o → numbers_named names (i ∷ is) ≡ with_number o (numbers_named names is)
  first_by None h = rw h refl
  first_by (Some n) h = rw h refl

  first_named : numbers_named names (i ∷ is) ≡ with_number (unit_named names (key i)) (numbers_named names is)
  first_named = first_by (unit_named names (key i)) refl

-- tables that lead to the same units
module _ (a b : List (List ℕ × ℕ)) (alike : (name : List ℕ) → unit_named a name ≡ unit_named b name) where
  numbers_alike : (is : List Identifier) → numbers_named a is ≡ numbers_named b is
  numbers_alike [] = refl
  numbers_alike (i ∷ is) =
      first_named a i is ∙ ((λ z. with_number (alike (key i) z) (numbers_alike is z)) ∙ sym (first_named b i is))

  edges_alike : (u : LibraryUnit) → edges_of a u ≡ edges_of b u
  edges_alike u = ap (λ ns. if is_package_body u.item then [] else ns) (numbers_alike (clause_names u.withs))

  pub graph_alike : (us : List LibraryUnit) → graph_of a us ≡ graph_of b us
  graph_alike [] = refl
  graph_alike (u ∷ us) = λ z. edges_alike u z ∷ graph_alike us z
