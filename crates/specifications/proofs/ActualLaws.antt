-- What instances give for formal types.
use Rattle.std.proofs.Common.{◌≡◌, ℕ, List, map, Option, Some, None, option_map, unwrap_or, slice_get, refl, sym, ap, ◌∙◌}
use Rattle.std.proofs.lemmas.Option.{slice_get-map}
use Rattle.ada_meaning.specs.Types.{Owner, here, of_instance, Range}
use Rattle.ada_tree.specs.View.{owner_of}
use Rattle.ada_rules.specs.Types.{Identity, AdaType, of_type, Kind, universal, kind_of, identity_of, is_integer, fits, same_identity}
use Rattle.ada_rules.specs.Entities.{Actual, type_actual, given_type, type_seen}
use Rattle.ada_entities.specs.declared.types.ScalarType.{ScalarType}
use Rattle.ada_entities.specs.declared.types.ScalarType.TheVariants as scalar
use Rattle.ada_entities.specs.declared.types.Composite.{Composite}
use Rattle.ada_entities.specs.Views as views
use Rattle.ada_entities.specs.Views.{Shape, array_shape, record_shape, shaped, TypeTables, shape_at, type_by, composite_of, scalar_type_of}

-- a type is given whatever its values are
pub given_whatever : (t : ScalarType) (r s : Range)
    → given_type (Some (type_actual (of_type (scalar_type_of t) r))) ≡ given_type (Some (type_actual (of_type (scalar_type_of t) s)))
given_whatever (scalar.Integer i) r s = refl
given_whatever (scalar.Enumeration i n) r s = refl
given_whatever (scalar.Formal i place kind) r s = refl

-- lists that give the same, one by one
one_given : {A : Type 0} (f : A → Actual) (o : Option A)
    → given_type (option_map f o) ≡ unwrap_or (option_map (λ x. given_type (Some (f x))) o) (given_type None)
one_given f None = refl
one_given f (Some x) = refl

given_there : {A : Type 0} (f : A → Actual) (xs : List A) (place : ℕ)
    → given_type (slice_get (map f xs) place) ≡ unwrap_or (slice_get (map (λ x. given_type (Some (f x))) xs) place) (given_type None)
given_there f xs place =
    ap given_type (slice_get-map f xs place)
    ∙ one_given f (slice_get xs place)
    ∙ ap (λ o. unwrap_or o (given_type None)) (sym (slice_get-map (λ x. given_type (Some (f x))) xs place))

pub give_same : {A B : Type 0} (f : A → Actual) (g : B → Actual) (xs : List A) (ys : List B)
    → map (λ y. given_type (Some (g y))) ys ≡ map (λ x. given_type (Some (f x))) xs
    → (place : ℕ) → given_type (slice_get (map f xs) place) ≡ given_type (slice_get (map g ys) place)
give_same f g xs ys h place =
    given_there f xs place
    ∙ ap (λ ts. unwrap_or (slice_get ts place) (given_type None)) (sym h)
    ∙ sym (given_there g ys place)

-- what fits a type is told by which it is
fits_at : (t u : AdaType) → identity_of t ≡ identity_of u → is_integer t ≡ is_integer u → (x : Kind) → fits t x ≡ fits u x
fits_at t u e f universal = f
fits_at t u e f (kind_of w) = ap (λ i. same_identity i (identity_of w)) e

pub fits_same : (t u : AdaType) → identity_of t ≡ identity_of u → is_integer t ≡ is_integer u → fits t ≡ fits u
fits_same t u e f = λ z x. fits_at t u e f x z

-- which type a composite one is does not depend on what the instance has
apart_by : (k : TypeTables) (o : Owner) (i : Identity) (s : Shape) (n : ℕ) (xs ys : List Actual)
    → identity_of (type_seen n xs (type_by k o (shaped i s))) ≡ identity_of (type_seen n ys (type_by k o (shaped i s)))
apart_by k here i (array_shape x c) n xs ys = refl
apart_by k here i (record_shape fs) n xs ys = refl
apart_by k (of_instance m) i (array_shape x c) n xs ys = refl
apart_by k (of_instance m) i (record_shape fs) n xs ys = refl

pub composite_apart : (k : TypeTables) (c : Composite) (n : ℕ) (xs ys : List Actual)
    → identity_of (type_seen n xs (composite_of k c)) ≡ identity_of (type_seen n ys (composite_of k c))
composite_apart k c n xs ys = apart_by k (owner_of c.seen) (views.identity_of c.identity) (shape_at k c.number) n xs ys
