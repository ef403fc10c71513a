-- Types that are named in each instance of a generic, and types that are built one after another.
use Rattle.std.proofs.Common.{◌≡◌, ℕ, ◌+◌, ◌<◌, ◌≤◌, nat_eq, Bool, true, false, not, ◌&&◌, ◌||◌, if◌then◌else◌, List, ◌∷◌, drop, map, length, get_or, refl, sym, ap, ◌∙◌}
use Rattle.std.specs.List.{list_all}
use Rattle.std.proofs.lemmas.List.{at_drop_all, at_drop_more}
use Rattle.ada_meaning.specs.Bodies.{instances_from}
use Rattle.ada_tree.specs.Programs.{instance_of}
use Rattle.ada_tree.specs.declared.program.Instance.{Instance}
use Rattle.ada_tree.specs.declared.program.Program.{Program}
use Rattle.ada_tree.specs.declared.types.Subtype.{Subtype}
use Rattle.ada_tree.specs.declared.types.TypeDeclaration.{TypeDeclaration}
use Rattle.lower.specs.Standing.{components_of}
use Rattle.named_types.specs.Named.{are_named, are_named_by, are_built}

module _ (p : Program) (g below : ℕ) (ts : List Subtype) where
  -- in all of these instances, the first of which has the number n
  abbrev pub named_from : ℕ → List Instance → Bool
  named_from n is = list_all (λ i. are_named p i below ts) (instances_from g n (map instance_of is))

  first_of_all : (b : Bool) (n : ℕ) (rest : List ℕ) → list_all (λ i. are_named p i below ts) (if b then n ∷ rest else rest)
      ≡ ((not b || are_named p n below ts) && list_all (λ i. are_named p i below ts) rest)
  first_of_all true n rest = refl
  first_of_all false n rest = refl

  pub next_instance : (is : List Instance) (n i : ℕ) (d : Instance) → i < length is → d ≡ get_or is i d → named_from n (drop i is)
      ≡ ((not (nat_eq d.generic g) || are_named p n below ts) && named_from (n + 1) (drop (i + 1) is))
  next_instance is n i d less at =
      at_drop_more (named_from n) is i d less
      ∙ ap (λ (x : Instance). named_from n (x ∷ drop (i + 1) is)) (sym at)
      ∙ first_of_all (nat_eq d.generic g) n (instances_from g (n + 1) (map instance_of (drop (i + 1) is)))

  pub no_instance_left : (is : List Instance) (n i : ℕ) → length is ≤ i → true ≡ named_from n (drop i is)
  no_instance_left is n i past = sym (at_drop_all (named_from n) is i past)

module _ (p : Program) where
  pub next_type : (ts : List TypeDeclaration) (i : ℕ) (d : TypeDeclaration) → i < length ts → d ≡ get_or ts i d → are_built p i (drop i ts)
      ≡ (are_named_by p d.generic i (components_of d.definition) && are_built p (i + 1) (drop (i + 1) ts))
  next_type ts i d less at =
      at_drop_more (are_built p i) ts i d less ∙ ap (λ (x : TypeDeclaration). are_built p i (x ∷ drop (i + 1) ts)) (sym at)

  pub no_type_left : (ts : List TypeDeclaration) (i : ℕ) → length ts ≤ i → true ≡ are_built p i (drop i ts)
  no_type_left ts i past = sym (at_drop_all (are_built p i) ts i past)

pub fails : (a b : Bool) {c : Bool} → c ≡ (a && b) → a ≡ false → false ≡ c
fails a b e h = sym (e ∙ ap (λ x. x && b) h)

pub passes : (a b : Bool) {c : Bool} → c ≡ (a && b) → a ≡ true → b ≡ c
passes a b e h = sym (e ∙ ap (λ x. x && b) h)
