-- A type that leads only to what is there is the same in each table that has as much of it.
use Rattle.std.proofs.Common.{◌≡◌, ℕ, ◌<◌, nat_lt, Bool, true, Option, List, [], ◌∷◌, ◌++◌, length, slice_get, unwrap_or, refl, sym, ap, ◌∙◌}
use Rattle.std.proofs.lemmas.Bool.{and_parts, ltb-true}
use Rattle.std.proofs.lemmas.List.{get_or_append_left}
use Rattle.std.proofs.lemmas.Option.{unwrap_or-slice_get}
use Rattle.ada_rules.specs.ada_meaning.specs.Types.{Owner, here, of_instance}
use Rattle.ada_tree.specs.View.{owner_of, scalar_range_of}
use Rattle.ada_rules.specs.Types.{AdaType, of_type, no_field, and_field}
use Rattle.ada_rules.specs.Entities.{Actual, type_seen}
use Rattle.ada_entities.specs.declared.types.AdaType.{AdaType as CodeType}
use Rattle.ada_entities.specs.declared.types.AdaType.TheVariants as code
use Rattle.ada_entities.specs.declared.types.Subtype.{Subtype}
use Rattle.ada_entities.specs.declared.composite.Component.{Component}
use Rattle.ada_entities.specs.declared.composite.Definition.{Definition}
use Rattle.ada_entities.specs.declared.composite.Definition.TheVariants as definition
use Rattle.ada_entities.specs.Views.{Shape, array_shape, record_shape, shaped, TypeTables, made_at, actuals_of, shape_at, identity_of, type_by, type_of, subtype_of, is_known_owner, is_known}
use Rattle.ada_entities.specs.Tables.{fields_of, shape_of, tables_with, are_known, is_earlier}

pub record Agree (n : ℕ) (made : ℕ → Bool) (k l : TypeTables) : Type 0 where
  pub shapes : (j : ℕ) → j < n → shape_at k j ≡ shape_at l j
  pub instances : (i : ℕ) → made i ≡ true → actuals_of k i ≡ actuals_of l i

owner_agrees : {n : ℕ} {made : ℕ → Bool} {k l : TypeTables} → Agree n made k l → (o : Owner) → is_known_owner made o ≡ true → (t : AdaType)
    → type_by k o t ≡ type_by l o t
owner_agrees a here h t = refl
owner_agrees a (of_instance i) h t = ap (λ actuals. type_seen i actuals t) (a.instances i h)

pub type_agrees : {n : ℕ} {m : ℕ → Bool} {k l : TypeTables} → Agree n m k l → (t : CodeType) → is_known n m t ≡ true → type_of k t ≡ type_of l t
type_agrees a (code.Scalar t) h = refl
type_agrees {n} {m} {k} {l} a (code.Composite c) h =
    let p = and_parts (nat_lt c.number n) (is_known_owner m (owner_of c.seen)) h in
    owner_agrees a (owner_of c.seen) p.1 (shaped (identity_of c.identity) (shape_at k c.number))
    ∙ ap (λ s. type_by l (owner_of c.seen) (shaped (identity_of c.identity) s)) (a.shapes c.number (ltb-true c.number n p.0))

pub subtype_agrees : {n : ℕ} {m : ℕ → Bool} {k l : TypeTables} → Agree n m k l → (t : Subtype) → is_known n m t.of ≡ true → subtype_of k t ≡ subtype_of l t
subtype_agrees a t h = ap (λ u. of_type u (scalar_range_of t.range)) (type_agrees a t.of h)

fields_agree : {n : ℕ} {m : ℕ → Bool} {k l : TypeTables} → Agree n m k l → (cs : List Component) → are_known n m cs ≡ true → fields_of k cs ≡ fields_of l cs
fields_agree a [] h = refl
fields_agree {n} {m} a (c ∷ cs) h =
    let p = and_parts (is_known n m c.subtype.of) (are_known n m cs) h in
    λ z. and_field c.name (subtype_agrees a c.subtype p.0 z) (fields_agree a cs p.1 z)

pub shape_agrees : {n : ℕ} {m : ℕ → Bool} {k l : TypeTables} → Agree n m k l → (d : Definition) → is_earlier m n d ≡ true → shape_of k d ≡ shape_of l d
shape_agrees {n} {m} a (definition.Array x c) h =
    let p = and_parts (is_known n m x.of) (is_known n m c.of) h in
    λ z. array_shape (subtype_agrees a x p.0 z) (subtype_agrees a c p.1 z)
shape_agrees a (definition.Record cs) h = ap record_shape (fields_agree a cs h)

-- tables with more behind
at_front : {A : Type 0} (xs ys : List A) (d : A) (i : ℕ) → i < length xs → unwrap_or (slice_get xs i) d ≡ unwrap_or (slice_get (xs ++ ys) i) d
at_front xs ys d i h =
    unwrap_or-slice_get xs i d ∙ (sym (get_or_append_left xs ys d i h) ∙ sym (unwrap_or-slice_get (xs ++ ys) i d))

pub more_shapes : (actuals : List (Option (List Actual))) (made : ℕ → Bool) (ss ts : List Shape)
    → Agree (length ss) made (tables_with actuals ss) (tables_with actuals (ss ++ ts))
more_shapes actuals made ss ts = record { shapes = λ j h. at_front ss ts (record_shape no_field) j h; instances = λ i h. refl }

-- instances that have the same, of those that were made
abbrev pub KeepMade : (made : ℕ → Bool) (xs ys : List (Option (List Actual))) → Type 0
KeepMade made xs ys = (i : ℕ) → made i ≡ true → made_at xs i ≡ made_at ys i

pub more_instances : (n : ℕ) (made : ℕ → Bool) (actuals others : List (Option (List Actual))) (ss : List Shape) → KeepMade made actuals others
    → Agree n made (tables_with actuals ss) (tables_with others ss)
more_instances n made actuals others ss keeps = record { shapes = λ j h. refl; instances = λ i h. ap (λ o. unwrap_or o []) (keeps i h) }
