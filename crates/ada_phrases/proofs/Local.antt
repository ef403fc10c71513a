-- Attributes, calls and actuals: the checker finds what the rules say.
use Rattle.std.proofs.Common.{◌≡◌, ℕ, ◌+◌, ◌≤◌, nat_eq, Bool, true, false, List, [], ◌∷◌, ◌++◌, length, map, reverse, Option, Some, None, option_map, if◌then◌else◌, IsTrue, sum_by, Box, Global, refl, sym, ap, ◌∙◌, arith}
use Rattle.std.specs.Option.{option_and_then}
use Rattle.std.proofs.lemmas.Bool.{false≢true}
use Rattle.std.proofs.lemmas.List.{reverse-append}
use Rattle.std.proofs.lemmas.List.Sums.{sum_by-cons}
use Rattle.cov_base.specs.declared.position.Pos.{Pos}
use Rattle.ada_meaning.specs.Tree as tree
use Rattle.ada_meaning.specs.Types.{Owner, here, of_instance, Range}
use Rattle.ada_syntax.specs.TreeView.{expr_at, has_operators}
use Rattle.ada_syntax.specs.declared.expr.Expr.{Expr}
use Rattle.ada_syntax.specs.declared.expr.ExprKind.{ExprKind}
use Rattle.ada_syntax.specs.declared.expr.ExprKind.TheVariants as kind
use Rattle.ada_syntax.specs.declared.expr.LogicalOperator.{LogicalOperator}
use Rattle.ada_syntax.specs.declared.expr.UnaryOperator.{UnaryOperator}
use Rattle.ada_tree.specs.declared.expr.Actual.{Actual}
use Rattle.ada_tree.specs.View.{with_actual, actuals_of, with_tests, is_filled}
use Rattle.ada_tree.proofs.Chains.{tests_size}
use Rattle.ada_rules.specs.Types.{Identity, AdaType, integer_type, enumeration, formal_type, array_type, record_type, AdaSubtype, type_in, kind_of}
use Rattle.ada_rules.specs.Statics.{Spans}
use Rattle.ada_rules.specs.Entities.{Parameter, Routine, Variable, parameter_seen}
use Rattle.ada_rules.specs.Denoted as rules
use Rattle.ada_rules.specs.Expressions.{is_circuit}
use Rattle.ada_entities.specs.declared.routines.Parameter.{Parameter as CodeParameter}
use Rattle.ada_entities.specs.RoutineViews.{parameter_of}
use Rattle.ada_entities.specs.Views.{Shape, array_shape, record_shape, shaped, TypeTables, actuals_of as given_in, type_by, subtype_by}
use Rattle.ada_entities.specs.Tables.{array_parts}
use Rattle.ada_entities.specs.EntityViews.{Tables, routine_by}
use Rattle.ada_judged.specs.declared.judged.Judged.{Judged}
use Rattle.ada_judged.specs.JudgedView.{judged_of, conversion_to}
use Rattle.ada_phrases.specs.Attributes.{extent_in}
use Rattle.ada_phrases.specs.Actuals.{in_front, with_actuals, left_of, parameter_as}
use Rattle.ada_phrases.specs.Applied.{only, where_single}
use Rattle.ada_phrases.specs.declared.names.Denoted.{Denoted}
use Rattle.ada_phrases.specs.declared.names.Denoted.TheVariants as denoted
use Rattle.ada_phrases.specs.DenotedView.{denotes}
use Rattle.ada_phrases.specs.Routines.{parameter_by}
use Rattle.ada_phrases.proofs.Walks.{operations_circuit}

-- a type by its kind
pub composite_attribute : (name : List ℕ) (k : TypeTables) (o : Owner) (i : Identity) (s : Shape) (r : Range)
    → extent_in name (array_parts (type_by k o (shaped i s))) ≡ rules.attribute_of_type name (type_by k o (shaped i s)) r
composite_attribute name k here i (array_shape x c) r = refl
composite_attribute name k here i (record_shape fs) r = refl
composite_attribute name k (of_instance n) i (array_shape x c) r = refl
composite_attribute name k (of_instance n) i (record_shape fs) r = refl

pub object_extent : (name : List ℕ) (t : AdaType) → extent_in name (array_parts t) ≡ rules.attribute_of_object name t
object_extent name (integer_type i) = refl
object_extent name (enumeration i n) = refl
object_extent name (formal_type i k b) = refl
object_extent name (array_type i x c) = refl
object_extent name (record_type i fs) = refl

-- a conversion
mapped_if : {A B : Type 0} (b : Bool) (f : A → B) (x : A) → option_map f (if b then Some x else None) ≡ (if b then Some (f x) else None)
mapped_if true f x = refl
mapped_if false f x = refl

pub conversion_is : (t : AdaSubtype) (x : rules.Judged) → option_map rules.a_value (conversion_to t x) ≡ rules.conversion_of t x
conversion_is t x = mapped_if (rules.converts (type_in t) x.kind) rules.a_value _

-- a call
pub called_law : (r : Routine) (actuals : tree.Actuals) (result : Option Parameter) (o : Option (AdaSubtype × Spans))
    → o ≡ option_map (λ q. (q.subtype, r.values)) result
    → rules.called r actuals result
    ≡ option_map (λ x. rules.valued (tree.call r.callee actuals) (kind_of (type_in x.0)) None (Some x.1)) o
called_law r actuals None o h = sym (ap (option_map (λ x. rules.valued (tree.call r.callee actuals) (kind_of (type_in x.0)) None (Some x.1))) h)
called_law r actuals (Some q) o h = sym (ap (option_map (λ x. rules.valued (tree.call r.callee actuals) (kind_of (type_in x.0)) None (Some x.1))) h)

no_length : {A B : Type 0} (f : A → B) (xs : List A) → length xs ≡ 0 → nat_eq (length (map f xs)) 0 ≡ true
no_length f [] h = refl
no_length f (x ∷ xs) h = absurd (omega arith)

pub bare_routine : (k : Tables) (o : Owner) (r : Routine) → length r.parameters ≡ 0 → nat_eq (length (routine_by k o r).parameters) 0 ≡ true
bare_routine k here r h = ap (λ n. nat_eq n 0) h
bare_routine k (of_instance n) r h = no_length _ r.parameters h

pub mapped_length : {A B : Type 0} (f : A → B) (xs : List A) (ys : List B) → map f xs ≡ ys → length xs ≡ 0 → length ys ≡ 0
mapped_length f [] ys e h = sym (ap length e)
mapped_length f (x ∷ xs) ys e h = absurd (omega arith)

pub none_bare : {A : Type 0} (r : Routine) (o : Option A) → nat_eq (length r.parameters) 0 ≡ true → o ≡ rules.called_bare r o
none_bare r o h = sym (ap (λ b. if b then o else None) h)

-- parameters as they are seen
pub parameter_subtype : (k : Tables) (o : Owner) (q : Parameter) → (parameter_by k o q).subtype ≡ subtype_by k.types o q.subtype
parameter_subtype k here q = refl
parameter_subtype k (of_instance n) q = refl

pub parameter_mode : (k : Tables) (o : Owner) (q : Parameter) → (parameter_by k o q).mode ≡ q.mode
parameter_mode k here q = refl
parameter_mode k (of_instance n) q = refl

-- one actual in front of others
combine : (f : tree.Actuals → Option tree.Actuals) (x : Option Actual) (r : Option tree.Actuals) → ((rest : tree.Actuals) → in_front x rest ≡ f rest)
    → option_and_then f r ≡ option_and_then (λ a. option_map (λ rest. with_actual a rest) r) x
combine f None None h = refl
combine f (Some a) None h = refl
combine f None (Some rest) h = sym (h rest)
combine f (Some a) (Some rest) h = sym (h rest)

pub next_actual : (k : Tables) (q : Parameter) (qs : List Parameter) (old new : List Judged) (v : Judged) (x : Option Actual) → old ≡ new ++ v ∷ []
    → ((rest : tree.Actuals) → in_front x rest ≡ rules.passed_as q.mode q (judged_of k v) rest)
    → rules.actuals_for (q ∷ qs) (left_of k old)
    ≡ option_and_then (λ a. option_map (λ rest. with_actual a rest) (rules.actuals_for qs (left_of k new))) x
next_actual k q qs old new v x e h =
    ap (λ xs. rules.actuals_for (q ∷ qs) (map (judged_of k) xs)) (ap reverse e ∙ reverse-append new (v ∷ []))
    ∙ combine (rules.passed_as q.mode q (judged_of k v)) x (rules.actuals_for qs (left_of k new)) h

-- actuals behind others
pub with_more : (more : List Actual) (a : Actual) (rest : tree.Actuals) → with_actuals (more ++ a ∷ []) rest ≡ with_actuals more (with_actual a rest)
with_more [] a rest = refl
with_more (b ∷ more) a rest = ap (with_actual b) (with_more more a rest)

pub mapped_more : (more : List Actual) (a : Actual) (r : Option tree.Actuals)
    → option_map (with_actuals more) (option_map (λ rest. with_actual a rest) r) ≡ option_map (with_actuals (more ++ a ∷ [])) r
mapped_more more a None = refl
mapped_more more a (Some rest) = ap (λ x. Some x) (sym (with_more more a rest))

pub with_none : (more : List Actual) → with_actuals more tree.no_actual ≡ actuals_of more
with_none [] = refl
with_none (a ∷ more) = ap (with_actual a) (with_none more)

pub none_before : (r : Option tree.Actuals) → r ≡ option_map (with_actuals []) r
none_before None = refl
none_before (Some x) = refl

-- a kind of expression that is no decision
pub other_circuit : (p : Pos) (k : ExprKind) → IsTrue (has_operators k) → ((e : Box Expr Global) → k ≡ kind.Parenthesized e → ⊥)
    → ((op : UnaryOperator) (e : Box Expr Global) → k ≡ kind.Unary op e → ⊥)
    → ((op : LogicalOperator) (e : Box Expr Global) (es : _) → k ≡ kind.Logical op e es → ⊥) → false ≡ is_circuit (expr_at p k)
other_circuit p (kind.Numeral n) h a b c = refl
other_circuit p (kind.Name n) h a b c = refl
other_circuit p (kind.Parenthesized e) h a b c = absurd (a e refl)
other_circuit p (kind.Unary op e) h a b c = absurd (b op e refl)
other_circuit p (kind.Product e os) h a b c = operations_circuit p e.value os.items h
other_circuit p (kind.Sum e os) h a b c = operations_circuit p e.value os.items h
other_circuit p (kind.Relation x op y) h a b c = refl
other_circuit p (kind.Logical op e es) h a b c = absurd (c op e es refl)

-- conditions of a test
pub conditions_along : (n : Bool) (t : tree.Test) (us : List tree.Test)
    → tree.conditions_of (with_tests n t us) ≡ tree.conditions_of t + sum_by tree.conditions_of us
conditions_along n t [] = omega arith
conditions_along n t (u ∷ us) = omega (arith, conditions_along n (tree.operator n t u) us, sum_by-cons tree.conditions_of u us)

-- the parameters of a subprogram as they are seen
mapped_twice : {A B C : Type 0} (f : A → B) (g : B → C) (xs : List A) → map (λ x. g (f x)) xs ≡ map g (map f xs)
mapped_twice f g [] = refl
mapped_twice f g (x ∷ xs) = ap (λ ys. g (f x) ∷ ys) (mapped_twice f g xs)

pub seen_parameters : (k : Tables) (o : Owner) (ps : List CodeParameter) (r : Routine) → map (parameter_of k.types) ps ≡ r.parameters
    → map (parameter_as k o) ps ≡ (routine_by k o r).parameters
seen_parameters k here ps r h = h
seen_parameters k (of_instance n) ps r h =
    mapped_twice (parameter_of k.types) (parameter_seen n (given_in k.types n)) ps ∙ ap (map (parameter_seen n (given_in k.types n))) h

-- where just one expression is wanted
pub single_mark : (i : Identity) (t : AdaSubtype) (xs : List rules.Judged) → where_single (rules.conversion_of t) (only xs) ≡ rules.applied_to (rules.a_mark i t) xs
single_mark i t [] = refl
single_mark i t (x ∷ []) = refl
single_mark i t (x ∷ (y ∷ xs)) = refl

pub single_index : (v : Variable) (xs : List rules.Judged)
    → where_single (rules.element_of v (type_in v.subtype)) (only xs) ≡ rules.applied_to (rules.a_variable v) xs
single_index v [] = refl
single_index v (x ∷ []) = refl
single_index v (x ∷ (y ∷ xs)) = refl

pub other_applied : (k : Tables) (d : Denoted) (xs : List rules.Judged) → ((i : _) (t : _) → d ≡ denoted.Mark i t → ⊥) → ((v : _) → d ≡ denoted.Variable v → ⊥)
    → ((r : _) → d ≡ denoted.Routine r → ⊥) → None ≡ rules.applied_to (denotes k d) xs
other_applied k (denoted.Mark i t) xs a b c = absurd (a i t refl)
other_applied k (denoted.Variable v) xs a b c = absurd (b v refl)
other_applied k (denoted.Routine r) xs a b c = absurd (c r refl)
other_applied k (denoted.Value v) [] a b c = refl
other_applied k (denoted.Value v) (x ∷ []) a b c = refl
other_applied k (denoted.Value v) (x ∷ (y ∷ xs)) a b c = refl
other_applied k (denoted.Call r actuals) [] a b c = refl
other_applied k (denoted.Call r actuals) (x ∷ []) a b c = refl
other_applied k (denoted.Call r actuals) (x ∷ (y ∷ xs)) a b c = refl
other_applied k (denoted.Exception e) [] a b c = refl
other_applied k (denoted.Exception e) (x ∷ []) a b c = refl
other_applied k (denoted.Exception e) (x ∷ (y ∷ xs)) a b c = refl
other_applied k (denoted.Unit n) [] a b c = refl
other_applied k (denoted.Unit n) (x ∷ []) a b c = refl
other_applied k (denoted.Unit n) (x ∷ (y ∷ xs)) a b c = refl
other_applied k denoted.TestIo [] a b c = refl
other_applied k denoted.TestIo (x ∷ []) a b c = refl
other_applied k denoted.TestIo (x ∷ (y ∷ xs)) a b c = refl
other_applied k denoted.Thing [] a b c = refl
other_applied k denoted.Thing (x ∷ []) a b c = refl
other_applied k denoted.Thing (x ∷ (y ∷ xs)) a b c = refl

-- no expression is left
pub empty_left : (k : Tables) (xs : List Judged) → length xs ≡ 0 → rules.actuals_for [] (left_of k xs) ≡ Some tree.no_actual
empty_left k [] h = refl
empty_left k (x ∷ xs) h = absurd (omega arith)

pub filled_tests : (us : List tree.Test) → is_filled us ≡ true → 1 ≤ tests_size us
filled_tests [] h = absurd (false≢true h)
filled_tests (u ∷ us) h = omega arith
