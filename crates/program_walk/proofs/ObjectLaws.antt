-- Objects and exceptions that are declared one by one, of the rules' definitions.
use Rattle.std.proofs.Common.{◌≡◌, ℕ, ◌+◌, ◌<◌, ◌≤◌, List, [], ◌∷◌, length, drop, get_or, Option, sym, ap, ◌∙◌, arith}
use Rattle.std.proofs.lemmas.List.{at_drop_all, at_drop_more}
use Rattle.ada_syntax.specs.declared.declaration.Constancy.{Constancy}
use Rattle.ada_syntax.specs.declared.name.Identifier.{Identifier}
use Rattle.ada_meaning.specs.Program as program
use Rattle.ada_meaning.specs.Tree as tree
use Rattle.ada_meaning.specs.Types.{Static}
use Rattle.ada_rules.specs.Types.{AdaSubtype, subtype_in_tree}
use Rattle.ada_rules.specs.Entities.{key, raisable, Region, redefined}
use Rattle.ada_rules.specs.Environment.{State, Env, owner_of}
use Rattle.ada_rules.specs.Declarations.{object_entity, word_of, local_objects, counted, with_objects, library_entities, library_objects, library_words, with_library_objects, exception_declared, exceptions_from}
use Rattle.program_walk.specs.Objects.{one_object, one_library_object}

module _ (is : List Identifier) (j : ℕ) (i : Identifier) (less : j < length is) (e : i ≡ get_or is j i) where
  -- what is done with the next name of a list
  next_name : {B : Type 0} (f : List Identifier → B) → f (drop j is) ≡ f (i ∷ drop (j + 1) is)
  next_name f = at_drop_more f is j i less ∙ ap (λ x. f (x ∷ drop (j + 1) is)) (sym e)

  -- objects of a subprogram
  pub turn_local : (c : Constancy) (t : AdaSubtype) (known : Option Static) (n m : ℕ) (region new : Region) → m ≡ n + 1
      → new ≡ redefined (key i) (object_entity (tree.local_object n) c t known) region
      → local_objects c t known n region (drop j is) ≡ local_objects c t known m new (drop (j + 1) is)
  turn_local c t known n m region new counts h =
      next_name (local_objects c t known n region) ∙ (λ z. local_objects c t known (sym counts z) (sym h z) (drop (j + 1) is))

  one_counted : (t : AdaSubtype) (xs : List Identifier) (s : State) → with_objects t (i ∷ xs) s ≡ with_objects t xs (one_object t i s)
  one_counted t xs s =
      let e : s.objects + length (i ∷ xs) ≡ s.objects + 1 + length xs = omega arith in
      λ z. record s { objects = e z; words = counted t xs (word_of t i ∷ s.words) }

  pub turn_counted : (t : AdaSubtype) (s n : State) → n ≡ one_object t i s → with_objects t (drop j is) s ≡ with_objects t (drop (j + 1) is) n
  turn_counted t s n h =
      next_name (λ xs. with_objects t xs s) ∙ (one_counted t (drop (j + 1) is) s ∙ ap (with_objects t (drop (j + 1) is)) (sym h))

  -- and of the library level
  pub turn_library : (env : Env) (c : Constancy) (t : AdaSubtype) (known : Option Static) (n m : ℕ) (region new : Region) → m ≡ n + 1
      → new ≡ redefined (key i) (object_entity (tree.library_object (owner_of env) n) c t known) region
      → library_entities env c t known n region (drop j is) ≡ library_entities env c t known m new (drop (j + 1) is)
  turn_library env c t known n m region new counts h =
      next_name (library_entities env c t known n region) ∙ (λ z. library_entities env c t known (sym counts z) (sym h z) (drop (j + 1) is))

  one_found : (env : Env) (t : AdaSubtype) (v : program.Initial) (xs : List Identifier) (s : State)
      → with_library_objects env t v (i ∷ xs) s ≡ with_library_objects env t v xs (one_library_object env t v s)
  one_found env t v xs s =
      let e : s.library_objects + length (i ∷ xs) ≡ s.library_objects + 1 + length xs = omega arith in
      λ z. record s {
        library_objects = e z;
        objects_declared = library_objects env t v (s.library_objects + 1) xs
            (record { declaration = s.library_objects; generic = env.generic; subtype = subtype_in_tree t; initial = v } ∷ s.objects_declared);
        library_words = library_words t xs (subtype_in_tree t ∷ s.library_words);
      }

  pub turn_found : (env : Env) (t : AdaSubtype) (v : program.Initial) (s n : State) → n ≡ one_library_object env t v s
      → with_library_objects env t v (drop j is) s ≡ with_library_objects env t v (drop (j + 1) is) n
  turn_found env t v s n h =
      next_name (λ xs. with_library_objects env t v xs s)
      ∙ (one_found env t v (drop (j + 1) is) s ∙ ap (with_library_objects env t v (drop (j + 1) is)) (sym h))

  -- exceptions
  pub turn_exception : (env : Env) (s n : State) (region new : Region) → n ≡ exception_declared env i s
      → new ≡ redefined (key i) (raisable (tree.declared (owner_of env) s.exceptions)) region
      → exceptions_from env s region (drop j is) ≡ exceptions_from env n new (drop (j + 1) is)
  turn_exception env s n region new h g =
      next_name (exceptions_from env s region) ∙ (λ z. exceptions_from env (sym h z) (sym g z) (drop (j + 1) is))

-- where no name is left
module _ (is : List Identifier) (j : ℕ) (none : length is ≤ j) where
  pub all_locals : (c : Constancy) (t : AdaSubtype) (known : Option Static) (n : ℕ) (region : Region) → local_objects c t known n region (drop j is) ≡ region
  all_locals c t known n region = at_drop_all (local_objects c t known n region) is j none

  no_objects : (t : AdaSubtype) (s : State) → with_objects t [] s ≡ s
  no_objects t s = let e : s.objects + length {A = Identifier} [] ≡ s.objects = omega arith in λ z. record s { objects = e z }

  pub all_counted : (t : AdaSubtype) (s : State) → with_objects t (drop j is) s ≡ s
  all_counted t s = at_drop_all (λ xs. with_objects t xs s) is j none ∙ no_objects t s

  pub all_library : (env : Env) (c : Constancy) (t : AdaSubtype) (known : Option Static) (n : ℕ) (region : Region)
      → library_entities env c t known n region (drop j is) ≡ region
  all_library env c t known n region = at_drop_all (library_entities env c t known n region) is j none

  none_found : (env : Env) (t : AdaSubtype) (v : program.Initial) (s : State) → with_library_objects env t v [] s ≡ s
  none_found env t v s = let e : s.library_objects + length {A = Identifier} [] ≡ s.library_objects = omega arith in λ z. record s { library_objects = e z }

  pub all_found : (env : Env) (t : AdaSubtype) (v : program.Initial) (s : State) → with_library_objects env t v (drop j is) s ≡ s
  all_found env t v s = at_drop_all (λ xs. with_library_objects env t v xs s) is j none ∙ none_found env t v s

  pub all_exceptions : (env : Env) (s : State) (region : Region) → exceptions_from env s region (drop j is) ≡ record { region = region; next = s; made = [] }
  all_exceptions env s region = at_drop_all (exceptions_from env s region) is j none
