-- What the test of named types says.
use Rattle.std.proofs.Common.{inl, inr, ◌≡◌, ℕ, ℤ, zero, suc, nat_eq, nat_lt, ◌+◌, ◌<◌, Bool, true, false, ◌&&◌, List, [], ◌∷◌, map, length, take, Option, Some, None, slice_get, option_map, refl, sym, ap, subst, arith, eqb-true}
use Rattle.std.proofs.lemmas.Bool.{false≢true}
use Rattle.std.specs.Ordering.{int_eq}
use Rattle.std.proofs.lemmas.Bool.Decides.{Decides-int_eq, Decides-ltb}
use Rattle.std.specs.List.{list_all}
use Rattle.std.specs.Option.{IfSome}
use Rattle.std.specs.Prelude.{unwrap_or}
use Rattle.cov_base.specs.Lists.{Everywhere, Somewhere}
use Rattle.ada_meaning.specs.Bodies.{StandsIn, instances_of}
use Rattle.ada_meaning.specs.Resolved.{owner_in}
use Rattle.ada_meaning.proofs.BodyLaws.{instances_listed}
use Rattle.ada_tree.specs.Programs.{program_of, instance_of}
use Rattle.ada_tree.specs.View.{owner_of}
use Rattle.ada_tree.specs.declared.program.Instance.{Instance}
use Rattle.ada_tree.specs.declared.program.Parameter.{Parameter}
use Rattle.ada_tree.specs.declared.program.Program.{Program}
use Rattle.ada_tree.specs.declared.program.Subprogram.{Subprogram}
use Rattle.ada_tree.specs.declared.types.Owner.{Owner}
use Rattle.ada_tree.specs.declared.types.Owner.TheVariants as owner
use Rattle.ada_tree.specs.declared.types.Range.{Range}
use Rattle.ada_tree.specs.declared.types.ScalarRange.{ScalarRange}
use Rattle.ada_tree.specs.declared.types.ScalarRange.TheVariants as range
use Rattle.ada_tree.specs.declared.types.StaticValue.{StaticValue}
use Rattle.ada_tree.specs.declared.types.StaticValue.TheVariants as value
use Rattle.ada_tree.specs.declared.types.Subtype.{Subtype}
use Rattle.ada_tree.specs.declared.types.Subtype.TheVariants as subtype
use Rattle.ada_tree.specs.declared.types.TypeDeclaration.{TypeDeclaration}
use Rattle.lower.specs.Standing.{IsNamed, components_of, AreTypesNamed}
use Rattle.named_types.specs.Same.{same_owner, same_value, same_bounds, same_range, same_subtype, begin_with}
use Rattle.named_types.specs.Named.{is_one_of, stands_in, type_stands_in, is_named, are_named, are_named_by, are_built, has_named_objects, are_types_named}

int_eq_is : (x y : ℤ) → int_eq x y ≡ true → x ≡ y
int_eq_is x y h = (Decides-int_eq x y).0 h

nat_lt_is : (m n : ℕ) → nat_lt m n ≡ true → m < n
nat_lt_is m n h = (Decides-ltb m n).0 h

none_some : {X : Type 0} {x : X} → None ≡ Some x → ⊥
none_some {X} {x} e = subst (λ (o : Option X). IfNone o) e tt
  where
    IfNone : Option X → Type 0
    IfNone None = Unit {0}
    IfNone (Some y) = ⊥

-- both of two tests
both_of : (a b : Bool) → (a && b) ≡ true → (a ≡ true) × (b ≡ true)
both_of true b h = (refl, h)
both_of false b h = absurd (false≢true h)

each_of : {X : Type 0} (f : X → Bool) (xs : List X) → list_all f xs ≡ true → Everywhere (λ x. f x ≡ true) xs
each_of f [] h = tt
each_of f (x ∷ xs) h = let e = both_of (f x) (list_all f xs) h in (e.0, each_of f xs e.1)

each_at : {X : Type 0} (P : X → Type 0) (xs : List X) (n : ℕ) (x : X) → Everywhere P xs → slice_get xs n ≡ Some x → P x
each_at P [] zero x h at = absurd (none_some at)
each_at P [] (suc n) x h at = absurd (none_some at)
each_at P (y ∷ ys) zero x h at = subst P (ap (λ o. unwrap_or o y) at) h.0
each_at P (y ∷ ys) (suc n) x h at = each_at P ys n x h.1 at

each_some : {X : Type 0} (P : X → Type 0) (xs : List X) (x : X) → Everywhere P xs → Somewhere (λ y. y ≡ x) xs → P x
each_some P [] x h s = absurd s
each_some P (y ∷ ys) x h (inl e) = subst P e h.0
each_some P (y ∷ ys) x h (inr s) = each_some P ys x h.1 s

each_so : {X : Type 0} (P Q : X → Type 0) → ((x : X) → P x → Q x) → (xs : List X) → Everywhere P xs → Everywhere Q xs
each_so P Q f [] h = tt
each_so P Q f (x ∷ xs) h = (f x h.0, each_so P Q f xs h.1)

-- ---- subtypes that are one
owner_is : (a b : Owner) → same_owner a b ≡ true → a ≡ b
owner_is owner.Here owner.Here h = refl
owner_is owner.Here (owner.Instance j) h = absurd (false≢true h)
owner_is (owner.Instance i) owner.Here h = absurd (false≢true h)
owner_is (owner.Instance i) (owner.Instance j) h = ap owner.Instance (eqb-true i j h)

value_is : (a b : StaticValue) → same_value a b ≡ true → a ≡ b
value_is (value.Number x) (value.Number y) h = ap value.Number (int_eq_is x y h)
value_is (value.Number x) (value.Formal l) h = absurd (false≢true h)
value_is (value.Number x) (value.Constant l) h = absurd (false≢true h)
value_is (value.Formal k) (value.Number y) h = absurd (false≢true h)
value_is (value.Formal k) (value.Formal l) h = ap value.Formal (eqb-true k l h)
value_is (value.Formal k) (value.Constant l) h = absurd (false≢true h)
value_is (value.Constant k) (value.Number y) h = absurd (false≢true h)
value_is (value.Constant k) (value.Formal l) h = absurd (false≢true h)
value_is (value.Constant k) (value.Constant l) h = ap value.Constant (eqb-true k l h)

bounds_are : (r s : Range) → same_bounds r s ≡ true → r ≡ s
bounds_are r s h =
    let e = both_of _ _ h in
    λ i. record { first = int_eq_is r.first s.first e.0 i; last = int_eq_is r.last s.last e.1 i }

range_is : (r s : ScalarRange) → same_range r s ≡ true → r ≡ s
range_is (range.Known r) (range.Known s) h = ap range.Known (bounds_are r s h)
range_is (range.Known r) (range.Between q c d) h = absurd (false≢true h)
range_is (range.Known r) (range.Formal q l) h = absurd (false≢true h)
range_is (range.Between o a b) (range.Known s) h = absurd (false≢true h)
range_is (range.Between o a b) (range.Between q c d) h =
    let e = both_of (same_owner o q && same_value a c) (same_value b d) h in
    let f = both_of (same_owner o q) (same_value a c) e.0 in
    λ i. range.Between (owner_is o q f.0 i) (value_is a c f.1 i) (value_is b d e.1 i)
range_is (range.Between o a b) (range.Formal q l) h = absurd (false≢true h)
range_is (range.Formal o k) (range.Known s) h = absurd (false≢true h)
range_is (range.Formal o k) (range.Between q c d) h = absurd (false≢true h)
range_is (range.Formal o k) (range.Formal q l) h =
    let e = both_of (same_owner o q) (nat_eq k l) h in
    λ i. range.Formal (owner_is o q e.0 i) (eqb-true k l e.1 i)

pub subtype_is : (t u : Subtype) → same_subtype t u ≡ true → t ≡ u
subtype_is (subtype.Scalar r) (subtype.Scalar s) h = ap subtype.Scalar (range_is r s h)
subtype_is (subtype.Scalar r) (subtype.Composite q m) h = absurd (false≢true h)
subtype_is (subtype.Composite o n) (subtype.Scalar s) h = absurd (false≢true h)
subtype_is (subtype.Composite o n) (subtype.Composite q m) h =
    let e = both_of (same_owner o q) (nat_eq n m) h in
    λ i. subtype.Composite (owner_is o q e.0 i) (eqb-true n m e.1 i)

parameters_begin : (qs : List Parameter) (ts : List Subtype) → begin_with qs ts ≡ true → map (λ q. q.subtype) qs ≡ take (length qs) ts
parameters_begin [] ts h = sym (take_none ts)
  where
    take_none : (us : List Subtype) → take 0 us ≡ []
    take_none [] = refl
    take_none (u ∷ us) = refl
parameters_begin (q ∷ qs) [] h = absurd (false≢true h)
parameters_begin (q ∷ qs) (t ∷ ts) h =
    let e = both_of (same_subtype q.subtype t) (begin_with qs ts) h in
    λ i. subtype_is q.subtype t e.0 i ∷ parameters_begin qs ts e.1 i

-- ---- where types stand
module _ (p : Program) where
  of_generic : (g : ℕ) (is : List Instance) (k : ℕ) → is_one_of g (slice_get is k) ≡ true
      → option_map (λ x. x.generic) (slice_get (map instance_of is) k) ≡ Some g
  of_generic g [] zero h = absurd (false≢true h)
  of_generic g [] (suc k) h = absurd (false≢true h)
  of_generic g (i ∷ is) zero h = ap Some (eqb-true i.generic g h)
  of_generic g (i ∷ is) (suc k) h = of_generic g is k h

  stands : (g : Option ℕ) (inst : ℕ) → stands_in p g inst ≡ true → StandsIn (program_of p) g inst
  stands None inst h = eqb-true inst 0 h
  stands (Some g) zero h = absurd (false≢true h)
  stands (Some g) (suc i) h = of_generic g p.instances i h

  type_stands : (o : Option TypeDeclaration) (inst : ℕ) → type_stands_in p o inst ≡ true
      → IfSome o (λ t. StandsIn (program_of p) t.generic inst)
  type_stands None inst h = tt
  type_stands (Some t) inst h = stands t.generic inst h

  named : (inst below : ℕ) (t : Subtype) → is_named p inst below t ≡ true → IsNamed p inst below t
  named inst below (subtype.Scalar r) h = tt
  named inst below (subtype.Composite o n) h =
      let e = both_of (nat_lt n below) (type_stands_in p (slice_get p.types n) (owner_in inst (owner_of o))) h in
      (nat_lt_is n below e.0, type_stands (slice_get p.types n) (owner_in inst (owner_of o)) e.1)

  named_by : (g : Option ℕ) (below : ℕ) (ts : List Subtype) → are_named_by p g below ts ≡ true → (inst : ℕ)
      → StandsIn (program_of p) g inst → Everywhere (IsNamed p inst below) ts
  named_by g below ts h inst st =
      each_so (λ t. is_named p inst below t ≡ true) (IsNamed p inst below) (named inst below) ts
      (each_of (is_named p inst below) ts
      (each_some (λ i. are_named p i below ts ≡ true) (instances_of g (map instance_of p.instances)) inst
      (each_of (λ i. are_named p i below ts) (instances_of g (map instance_of p.instances)) h)
      (instances_listed (program_of p) g inst st)))

  built : (m : ℕ) (ts : List TypeDeclaration) → are_built p m ts ≡ true → (k inst : ℕ) (t : TypeDeclaration) → slice_get ts k ≡ Some t
      → StandsIn (program_of p) t.generic inst → Everywhere (IsNamed p inst (m + k)) (components_of t.definition)
  built m [] h zero inst t at st = absurd (none_some at)
  built m [] h (suc k) inst t at st = absurd (none_some at)
  built m (u ∷ us) h zero inst t at st =
      let e = both_of (are_named_by p u.generic m (components_of u.definition)) (are_built p (m + 1) us) h in
      let is : u ≡ t = ap (λ o. unwrap_or o u) at in
      let none : m ≡ m + 0 = omega arith in
      subst (λ n. Everywhere (IsNamed p inst n) (components_of t.definition)) none
      (named_by t.generic m (components_of t.definition)
      (subst (λ (v : TypeDeclaration). are_named_by p v.generic m (components_of v.definition) ≡ true) is e.0) inst st)
  built m (u ∷ us) h (suc k) inst t at st =
      let e = both_of (are_named_by p u.generic m (components_of u.definition)) (are_built p (m + 1) us) h in
      let more : (m + 1) + k ≡ m + suc k = omega arith in
      subst (λ n. Everywhere (IsNamed p inst n) (components_of t.definition)) more (built (m + 1) us e.1 k inst t at st)

  pub types_named : are_types_named p ≡ true → AreTypesNamed p
  types_named h =
      let e = both_of (are_built p 0 p.types) (list_all (has_named_objects p) p.subprograms) h in
      let each = each_of (has_named_objects p) p.subprograms e.1 in
      let parts : (m : ℕ) (s : Subprogram) → slice_get p.subprograms m ≡ Some s → (are_named_by p s.generic (length p.types) s.objects ≡ true) × (begin_with s.parameters s.objects ≡ true)
      = λ m s at. both_of (are_named_by p s.generic (length p.types) s.objects) (begin_with s.parameters s.objects)
      (each_at (λ s. has_named_objects p s ≡ true) p.subprograms m s each at) in
      record {
        types = λ n inst t at st. let none : 0 + n ≡ n = omega arith in
            subst (λ k. Everywhere (IsNamed p inst k) (components_of t.definition)) none (built 0 p.types e.0 n inst t at st);
        objects = λ m inst s at st. named_by s.generic (length p.types) s.objects (parts m s at).0 inst st;
        parameters = λ m s at. parameters_begin s.parameters s.objects (parts m s at).1;
      }
