-- Parameters that are declared one by one, of the rules' definitions.
use Rattle.std.proofs.Common.{◌≡◌, ℕ, ◌+◌, ◌<◌, ◌≤◌, nat_eq, List, [], ◌∷◌, ◌++◌, length, drop, get_or, sym, ap, ◌∙◌}
use Rattle.std.proofs.lemmas.List.{at_drop_all, at_drop_more, map_push, append_assoc, append-nil}
use Rattle.ada_syntax.specs.declared.name.Identifier.{Identifier}
use Rattle.ada_meaning.specs.Program as program
use Rattle.ada_meaning.specs.Types.{here}
use Rattle.ada_rules.specs.Types.{AdaSubtype}
use Rattle.ada_rules.specs.Entities.{key, Region, redefined}
use Rattle.ada_rules.specs.Environment.{State, exceeded}
use Rattle.ada_rules.specs.Subprograms.{parameter_entity, parameters_for, parameter_objects, most_parameters, limited}
use Rattle.ada_entities.specs.EntityViews.{Tables}
use Rattle.ada_entities.specs.declared.routines.Parameter.{Parameter}
use Rattle.specifications.specs.Profiles.{parameter_seen, parameters_of}
use Rattle.specifications.specs.declared.objects.ParameterForm.{ParameterForm}
use Rattle.specifications.specs.Objects.{mode_in_form, mark_in_form}

module _ (is : List Identifier) (j : ℕ) (i : Identifier) (less : j < length is) (e : i ≡ get_or is j i) where
  -- what is done with the next name of a list
  next_name : {B : Type 0} (f : List Identifier → B) → f (drop j is) ≡ f (i ∷ drop (j + 1) is)
  next_name f = at_drop_more f is j i less ∙ ap (λ x. f (x ∷ drop (j + 1) is)) (sym e)

  pub turn_object : (m : program.Mode) (t : AdaSubtype) (n l : ℕ) (region new : Region) → l ≡ n + 1
      → new ≡ redefined (key i) (parameter_entity n m t) region
      → parameter_objects m t n region (drop j is) ≡ parameter_objects m t l new (drop (j + 1) is)
  turn_object m t n l region new counts h =
      next_name (parameter_objects m t n region) ∙ (λ z. parameter_objects m t (sym counts z) (sym h z) (drop (j + 1) is))

  pub turn_limit : (n l : ℕ) (s new : State) → l ≡ n + 1 → new ≡ exceeded (nat_eq n most_parameters) i.pos s
      → limited n (drop j is) s ≡ limited l (drop (j + 1) is) new
  turn_limit n l s new counts h =
      next_name (λ xs. limited n xs s) ∙ (λ z. limited (sym counts z) (drop (j + 1) is) (sym h z))

  pub turn_named : (k : Tables) (f : ParameterForm) (done new : List Parameter) (name : List ℕ) → name ≡ key i
      → new ≡ done ++ record { name = name; mode = f.mode; mark = f.marked.identity; subtype = f.marked.subtype } ∷ []
      → parameters_of k here new ++ parameters_for (mode_in_form f) (mark_in_form k f) (drop (j + 1) is)
      ≡ parameters_of k here done ++ parameters_for (mode_in_form f) (mark_in_form k f) (drop j is)
  turn_named k f done new name named added =
      let m = mode_in_form f in
      let t = mark_in_form k f in
      let rest = drop (j + 1) is in
      let q : Parameter = record { name = key i; mode = f.mode; mark = f.marked.identity; subtype = f.marked.subtype } in
      (λ z. parameters_of k here (added z) ++ parameters_for m t rest)
      ∙ ((λ z. parameters_of k here (done ++ record { name = named z; mode = f.mode; mark = f.marked.identity; subtype = f.marked.subtype } ∷ [])
      ++ parameters_for m t rest)
      ∙ (ap (λ qs. qs ++ parameters_for m t rest) (map_push (parameter_seen k here) done q)
      ∙ (append_assoc (parameters_of k here done) (parameter_seen k here q ∷ []) (parameters_for m t rest)
      ∙ ap (λ qs. parameters_of k here done ++ qs) (sym (next_name (parameters_for m t))))))

-- where no name is left
module _ (is : List Identifier) (j : ℕ) (none : length is ≤ j) where
  pub all_objects : (m : program.Mode) (t : AdaSubtype) (n : ℕ) (region : Region) → parameter_objects m t n region (drop j is) ≡ region
  all_objects m t n region = at_drop_all (parameter_objects m t n region) is j none

  pub all_limited : (n : ℕ) (s : State) → limited n (drop j is) s ≡ s
  all_limited n s = at_drop_all (λ xs. limited n xs s) is j none

  pub all_named : (k : Tables) (f : ParameterForm) (done : List Parameter)
      → parameters_of k here done ++ parameters_for (mode_in_form f) (mark_in_form k f) (drop j is) ≡ parameters_of k here done
  all_named k f done =
      ap (λ qs. parameters_of k here done ++ qs) (at_drop_all (parameters_for (mode_in_form f) (mark_in_form k f)) is j none)
      ∙ append-nil (parameters_of k here done)
