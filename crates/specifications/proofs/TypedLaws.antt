-- Parameters as the typed program has them, one behind the other.
use Rattle.std.proofs.Common.{◌≡◌, ℕ, ◌+◌, ◌<◌, ◌≤◌, List, [], ◌∷◌, ◌++◌, length, drop, get_or, sym, ap, ◌∙◌}
use Rattle.std.proofs.lemmas.List.{at_drop_all, at_drop_more, map_push, append_assoc, append-nil}
use Rattle.ada_meaning.specs.Types.{here}
use Rattle.ada_tree.specs.Programs.{parameter_of, mode_of}
use Rattle.ada_tree.specs.declared.program.Parameter.{Parameter as TreeParameter}
use Rattle.ada_tree.specs.declared.types.Subtype.{Subtype}
use Rattle.ada_rules.specs.Subprograms.{typed_parameters}
use Rattle.ada_entities.specs.declared.routines.Parameter.{Parameter}
use Rattle.ada_entities.specs.EntityViews.{Tables}
use Rattle.specifications.specs.Profiles.{parameters_of}
use Rattle.program_walk.specs.States.{types_in}
use Rattle.program_walk.specs.Trees.{IsTree}
use Rattle.specifications.specs.Typed.{parameters_there}

module _ (k : Tables) (qs : List Parameter) (j : ℕ) where
  pub turn_typed : (q : Parameter) (done new : List TreeParameter) (n m : ℕ) (x : Subtype) → j < length qs → q ≡ get_or qs j q → m ≡ n + 1
      → IsTree k q.subtype x → new ≡ done ++ record { number = n; mode = q.mode; subtype = x } ∷ []
      → parameters_there k new ++ typed_parameters m (parameters_of k here (drop (j + 1) qs))
      ≡ parameters_there k done ++ typed_parameters n (parameters_of k here (drop j qs))
  turn_typed q done new n m x less e more tree added =
      let p : TreeParameter = record { number = n; mode = q.mode; subtype = x } in
      let rest = drop (j + 1) qs in
      (λ z. parameters_there k (added z) ++ typed_parameters (more z) (parameters_of k here rest))
      ∙ (ap (λ ps. ps ++ typed_parameters (n + 1) (parameters_of k here rest)) (map_push (parameter_of (types_in k)) done p)
      ∙ (append_assoc (parameters_there k done) (parameter_of (types_in k) p ∷ []) (typed_parameters (n + 1) (parameters_of k here rest))
      ∙ ((λ z. parameters_there k done
      ++ (record { declaration = n; mode = mode_of q.mode; subtype = tree z } ∷ typed_parameters (n + 1) (parameters_of k here rest)))
      ∙ ap (λ ps. parameters_there k done ++ ps)
      (sym (at_drop_more (λ xs. typed_parameters n (parameters_of k here xs)) qs j q less
      ∙ ap (λ y. typed_parameters n (parameters_of k here (y ∷ rest))) (sym e))))))

  pub all_typed : (done : List TreeParameter) (n : ℕ) → length qs ≤ j
      → parameters_there k done ++ typed_parameters n (parameters_of k here (drop j qs)) ≡ parameters_there k done
  all_typed done n none =
      ap (λ ps. parameters_there k done ++ ps) (at_drop_all (λ xs. typed_parameters n (parameters_of k here xs)) qs j none)
      ∙ append-nil (parameters_there k done)
