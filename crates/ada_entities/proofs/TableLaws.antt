-- A table of composite types that grows, and what its numbers lead to.
use Rattle.std.proofs.Common.{◌≡◌, ◌≢◌, ℕ, zero, suc, ◌+◌, nat_lt, Bool, true, false, if◌then◌else◌, List, [], ◌∷◌, ◌++◌, length, map, replicate, set, is_some, Option, Some, None, option_map, slice_get, unwrap_or, refl, sym, ap, ◌∙◌, subst, arith, length-append, true≢false}
use Rattle.std.proofs.lemmas.Bool.{and_parts, and_from}
use Rattle.std.proofs.lemmas.List.{map-set, get_or-set_same, get_or-set_other}
use Rattle.std.proofs.lemmas.Option.{slice_get-map, slice_get_within, unwrap_or-slice_get}
use Rattle.ada_rules.specs.ada_meaning.specs.Types.{Owner, here, of_instance}
use Rattle.ada_tree.specs.View.{owner_of}
use Rattle.ada_rules.specs.Entities.{Actual}
use Rattle.ada_entities.specs.declared.types.AdaType.{AdaType as CodeType}
use Rattle.ada_entities.specs.declared.types.AdaType.TheVariants as code
use Rattle.ada_entities.specs.declared.composite.Component.{Component}
use Rattle.ada_entities.specs.declared.composite.Definition.TheVariants as definition
use Rattle.ada_entities.specs.declared.composite.Definition.{Definition}
use Rattle.ada_entities.specs.declared.types.ScalarType.{ScalarType}
use Rattle.ada_entities.specs.Views.{Shape, made_at, is_made, given_of, is_known_owner, is_known}
use Rattle.ada_entities.specs.Tables.{shape_of, tables_with, shapes_behind, instances_of, tables_of, are_known, is_earlier, are_earlier, is_vacant, no_tables, with_shape, with_instance}
use Rattle.ada_entities.proofs.Agreement.{shape_agrees, KeepMade, more_instances}

pub shapes_length : (actuals : List (Option (List Actual))) (ss : List Shape) (ds : List Definition)
    → length (shapes_behind actuals ss ds) ≡ length ss + length ds
shapes_length actuals ss [] = omega arith
shapes_length actuals ss (d ∷ ds) =
    let s = shape_of (tables_with actuals ss) d in
    omega (arith, shapes_length actuals (ss ++ s ∷ []) ds, length-append ss (s ∷ []))

-- one more definition
shapes_push : (actuals : List (Option (List Actual))) (ss : List Shape) (ds : List Definition) (d : Definition)
    → shapes_behind actuals ss (ds ++ d ∷ []) ≡ shapes_behind actuals ss ds ++ shape_of (tables_with actuals (shapes_behind actuals ss ds)) d ∷ []
shapes_push actuals ss [] d = refl
shapes_push actuals ss (e ∷ ds) d = shapes_push actuals (ss ++ shape_of (tables_with actuals ss) e ∷ []) ds d

pub added : (given : List (Option (List (Option ScalarType)))) (ds : List Definition) (d : Definition)
    → tables_of given (ds ++ d ∷ []) ≡ with_shape (tables_of given ds) (shape_of (tables_of given ds) d)
added given ds d = ap (tables_with (instances_of given)) (shapes_push (instances_of given) [] ds d)

pub earlier_push : (m : ℕ → Bool) (n : ℕ) (ds : List Definition) (d : Definition) (at : ℕ) → at ≡ n + length ds
    → are_earlier m n ds ≡ true → is_earlier m at d ≡ true → are_earlier m n (ds ++ d ∷ []) ≡ true
earlier_push m n [] d at e h g =
    let same : at ≡ n = omega (arith, e) in
    and_from (is_earlier m n d) true (subst (λ x. is_earlier m x d ≡ true) same g) refl
earlier_push m n (x ∷ ds) d at e h g =
    let p = and_parts (is_earlier m n x) (are_earlier m (n + 1) ds) h in
    let same : at ≡ n + 1 + length ds = omega (arith, e) in
    and_from (is_earlier m n x) (are_earlier m (n + 1) (ds ++ d ∷ [])) p.0 (earlier_push m (n + 1) ds d at same p.1 g)

-- places at which no instance was made
none_made : (n : ℕ) → instances_of (replicate n None) ≡ replicate n None
none_made zero = refl
none_made (suc n) = ap (λ xs. None ∷ xs) (none_made n)

pub nothing_there : (given : List (Option (List (Option ScalarType)))) (ds : List Definition) (n m : ℕ)
    → given ≡ Some [] ∷ replicate n None → ds ≡ [] → n ≡ m → tables_of given ds ≡ no_tables m
nothing_there given ds n m is empty same =
    (λ z. tables_of (is z) (empty z)) ∙ (ap (λ xs. tables_with (Some [] ∷ xs) []) (none_made n) ∙ ap no_tables same)

-- another instance, where those that were made stay what they were
shapes_keep : (actuals others : List (Option (List Actual))) (made : ℕ → Bool) → KeepMade made actuals others
    → (ss : List Shape) (ds : List Definition) (n : ℕ) → n ≡ length ss → are_earlier made n ds ≡ true
    → shapes_behind others ss ds ≡ shapes_behind actuals ss ds
shapes_keep actuals others made keeps ss [] n e h = refl
shapes_keep actuals others made keeps ss (d ∷ ds) n e h =
    let s = shape_of (tables_with actuals ss) d in
    let p = and_parts (is_earlier made n d) (are_earlier made (n + 1) ds) h in
    let same = shape_agrees (more_instances n made actuals others ss keeps) d p.0 in
    let next : n + 1 ≡ length (ss ++ s ∷ []) = omega (arith, e, length-append ss (s ∷ [])) in
    ap (λ t. shapes_behind others (ss ++ t ∷ []) ds) (sym same) ∙ shapes_keep actuals others made keeps (ss ++ s ∷ []) ds (n + 1) next p.1

-- a place that is vacant is that of no instance that was made
module _ {A : Type 0} (xs : List (Option A)) (n : ℕ) (vacant : slice_get xs n ≡ Some None) (x : A) where
  vacant_here : made_at xs n ≡ None
  vacant_here = ap (λ o. unwrap_or o None) vacant

  pub others_keep : (i : ℕ) → is_made xs i ≡ true → made_at xs i ≡ made_at (set xs n (Some x)) i
  others_keep i h =
      let other : i ≢ n = λ same. true≢false (sym h ∙ ap is_some (ap (made_at xs) same ∙ vacant_here)) in
      unwrap_or-slice_get xs i None ∙ (sym (get_or-set_other xs n i (Some x) None other) ∙ sym (unwrap_or-slice_get (set xs n (Some x)) i None))

  pub made_now : made_at (set xs n (Some x)) n ≡ Some x
  made_now = unwrap_or-slice_get (set xs n (Some x)) n None ∙ get_or-set_same xs n (Some x) None (slice_get_within xs n None vacant)

vacant_is : {A : Type 0} (o : Option (Option A)) → is_vacant o ≡ true → o ≡ Some None
vacant_is None h = absurd (true≢false (sym h))
vacant_is (Some None) h = refl
vacant_is (Some (Some x)) h = absurd (true≢false (sym h))

-- where the code found it so
pub found_vacant : {A : Type 0} (xs ys : List (Option A)) (n : ℕ) (b : Bool) → ys ≡ xs → b ≡ is_vacant (slice_get ys n) → b ≡ true
    → slice_get xs n ≡ Some None
found_vacant xs ys n b same is h = vacant_is (slice_get xs n) (ap (λ zs. is_vacant (slice_get zs n)) (sym same) ∙ (sym is ∙ h))

-- what is there of instances, as the rules have them
pub vacant_of : {A B : Type 0} (f : A → B) (xs : List (Option A)) (n : ℕ) → slice_get xs n ≡ Some None → slice_get (map (option_map f) xs) n ≡ Some None
vacant_of f xs n h = slice_get-map (option_map f) xs n ∙ ap (λ o. option_map (option_map f) o) h

pub is_made_of : {A B : Type 0} (f : A → B) (xs : List (Option A)) (i : ℕ) → is_made (map (option_map f) xs) i ≡ is_made xs i
is_made_of f xs i = ap (λ o. is_some (unwrap_or o None)) (slice_get-map (option_map f) xs i) ∙ by_place (slice_get xs i) where
  by_place : (o : Option (Option _)) → is_some (unwrap_or (option_map (option_map f) o) None) ≡ is_some (unwrap_or o None)
  by_place None = refl
  by_place (Some None) = refl
  by_place (Some (Some x)) = refl

pub instance_added : (given : List (Option (List (Option ScalarType)))) (n : ℕ) (g : List (Option ScalarType)) (ds : List Definition)
    → slice_get given n ≡ Some None → are_earlier (is_made given) 0 ds ≡ true
    → tables_of (set given n (Some g)) ds ≡ with_instance (tables_of given ds) n (map given_of g)
instance_added given n g ds vacant h =
    let f : List (Option ScalarType) → List Actual = map given_of in
    let more = map-set (option_map f) given n (Some g) in
    let keeps : KeepMade (is_made given) (instances_of given) (set (instances_of given) n (Some (f g))) =
    λ i made. others_keep (instances_of given) n (vacant_of f given n vacant) (f g) i (is_made_of f given i ∙ made) in
    ap (λ actuals. tables_with actuals (shapes_behind actuals [] ds)) more
    ∙ ap (tables_with (set (instances_of given) n (Some (f g))))
    (shapes_keep (instances_of given) (set (instances_of given) n (Some (f g))) (is_made given) keeps [] ds 0 refl h)

-- what leads to instances that were made does so where there are more
module _ (made more : ℕ → Bool) (grows : (i : ℕ) → made i ≡ true → more i ≡ true) where
  known_owner : (o : Owner) → is_known_owner made o ≡ true → is_known_owner more o ≡ true
  known_owner here h = refl
  known_owner (of_instance i) h = grows i h

  known_type : (n : ℕ) (t : CodeType) → is_known n made t ≡ true → is_known n more t ≡ true
  known_type n (code.Scalar t) h = refl
  known_type n (code.Composite c) h =
      let p = and_parts (nat_lt c.number n) (is_known_owner made (owner_of c.seen)) h in
      and_from (nat_lt c.number n) (is_known_owner more (owner_of c.seen)) p.0 (known_owner (owner_of c.seen) p.1)

  known_components : (n : ℕ) (cs : List Component) → are_known n made cs ≡ true → are_known n more cs ≡ true
  known_components n [] h = refl
  known_components n (c ∷ cs) h =
      let p = and_parts (is_known n made c.subtype.of) (are_known n made cs) h in
      and_from (is_known n more c.subtype.of) (are_known n more cs) (known_type n c.subtype.of p.0) (known_components n cs p.1)

  known_definition : (n : ℕ) (d : Definition) → is_earlier made n d ≡ true → is_earlier more n d ≡ true
  known_definition n (definition.Array x c) h =
      let p = and_parts (is_known n made x.of) (is_known n made c.of) h in
      and_from (is_known n more x.of) (is_known n more c.of) (known_type n x.of p.0) (known_type n c.of p.1)
  known_definition n (definition.Record cs) h = known_components n cs h

  pub known_definitions : (n : ℕ) (ds : List Definition) → are_earlier made n ds ≡ true → are_earlier more n ds ≡ true
  known_definitions n [] h = refl
  known_definitions n (d ∷ ds) h =
      let p = and_parts (is_earlier made n d) (are_earlier made (n + 1) ds) h in
      and_from (is_earlier more n d) (are_earlier more (n + 1) ds) (known_definition n d p.0) (known_definitions (n + 1) ds p.1)

-- definitions stay earlier where another instance is made
pub earlier_made : {A : Type 0} (xs : List (Option A)) (n : ℕ) (x : A) (ds : List Definition) → slice_get xs n ≡ Some None
    → are_earlier (is_made xs) 0 ds ≡ true → are_earlier (is_made (set xs n (Some x))) 0 ds ≡ true
earlier_made xs n x ds vacant h =
    known_definitions (is_made xs) (is_made (set xs n (Some x)))
    (λ i made. sym (ap is_some (others_keep xs n vacant x i made)) ∙ made) 0 ds h

-- whether or not there was memory for one more
pub earlier_pushed : (b : Bool) (m : ℕ → Bool) (n at : ℕ) (ds new : List Definition) (d : Definition) → new ≡ (if b then ds ++ d ∷ [] else ds)
    → at ≡ n + length ds → are_earlier m n ds ≡ true → is_earlier m at d ≡ true → are_earlier m n new ≡ true
earlier_pushed true m n at ds new d e same h g = subst (λ xs. are_earlier m n xs ≡ true) (sym e) (earlier_push m n ds d at same h g)
earlier_pushed false m n at ds new d e same h g = subst (λ xs. are_earlier m n xs ≡ true) (sym e) h
