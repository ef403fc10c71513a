-- Declarations keep marks told by their identities; and a body that conforms to a declaration has its parameters and its result.
use Rattle.std.proofs.Common.{◌≡◌, ◌≤◌, ◌+◌, ℕ, nat_eq, Bool, true, false, if◌then◌else◌, List, [], ◌∷◌, ◌++◌, Option, Some, None, option_map, IfSome, IfOk, refl, sym, ap, ◌∙◌, arith}
use Rattle.std.specs.Prelude.{◌&&◌}
use Rattle.std.proofs.lemmas.Bool.{eqb-true, eq-eqb, false≢true}
use Rattle.cov_base.specs.Lists.{Everywhere}
use Rattle.cov_base.specs.declared.position.Pos.{Pos}
use Rattle.ada_syntax.specs.declared.declaration.Constancy.{Constancy}
use Rattle.ada_syntax.specs.declared.declaration.Declaration.{Declaration}
use Rattle.ada_syntax.specs.declared.declaration.DeclarationKind.{DeclarationKind}
use Rattle.ada_syntax.specs.declared.declaration.DeclarationKind.TheVariants as declares
use Rattle.ada_syntax.specs.declared.declaration.Initial.{Initial}
use Rattle.ada_syntax.specs.declared.declaration.TypeDefinition.{TypeDefinition}
use Rattle.ada_syntax.specs.declared.declaration.TypeDefinition.TheVariants as definition
use Rattle.ada_syntax.specs.declared.name.Identifier.{Identifier}
use Rattle.ada_meaning.specs.Program.{in_mode, out_mode, in_out_mode}
use Rattle.ada_meaning.specs.Program as program
use Rattle.ada_meaning.specs.Tree as tree
use Rattle.ada_meaning.specs.Types.{Owner, here, of_instance, Static}
use Rattle.ada_rules.specs.Plan.{Plan, Outcome, refused_in, broken, passed, ◌>>=◌, rule}
use Rattle.ada_meaning.specs.Program.{Program}
use Rattle.ada_meaning.specs.Shape.{group, no_shape}
use Rattle.legal_laws.proofs.Leading.{LeadsOn, declaration_leads}
use Rattle.legal_laws.proofs.Passing.{weaker_ok}
use Rattle.ada_rules.specs.Types.{Identity, integer, natural, positive, boolean, declared_in, same_owner, same_identity, AdaType, integer_type, array_type, record_type, AdaSubtype, of_type, base, is_integral, subtype_in_tree}
use Rattle.ada_rules.specs.Entities.{key, same_name, Parameter, Routine, Entity, hidden, mark, routine, raisable, Region, is_new, redefined}
use Rattle.ada_rules.specs.Environment.{typed_rule, State, Given, given, Env, with_local, opened, owner_of, new_identity, one_type_more, with_name, hide, hide_all}
use Rattle.ada_rules.specs.Declarations.{bounded, index_of, indicated, fields_of, Defined, literals, enumerated, unchanged, defined, new_value, library_value, Declared, may_be_bare, one_name, object_entity, local_objects, local_bare, local_set, library_entities, library_declared, no_library_value, objects_declared, exception_declared, exceptions_from, type_counted, type_declared, subtype_declared, kind_declared, declared}
use Rattle.ada_rules.specs.Subprograms.{Profile, same_mode, same_mark, same_parameter, same_parameters, same_result, conforms, typed_parameters}
use Rattle.legal_laws.specs.Kept.{OnlyStatics}
use Rattle.legal_laws.proofs.KeptStatics.{indicated_keeps, defined_keeps}
use Rattle.legal_laws.proofs.Passing.{IfPassed, if_test, answered, ruled_so, part_so, both_ok, typed_either, any_answer, every_end, every_so, some_so, both_true}
use Rattle.legal_texts.specs.Told.{Table, IsTold, IsToldEntity, IsToldRegion, IsOpen, TellsMore, TellsOn, IsAsDeclared}

-- identities
owner_is : (o q : Owner) → same_owner o q ≡ true → o ≡ q
owner_is here here h = refl
owner_is (of_instance i) (of_instance j) h = ap of_instance (eqb-true i j h)
owner_is here (of_instance j) h = absurd (false≢true h)
owner_is (of_instance i) here h = absurd (false≢true h)

identity_is : (i j : Identity) → same_identity i j ≡ true → i ≡ j
identity_is integer integer h = refl
identity_is natural natural h = refl
identity_is positive positive h = refl
identity_is boolean boolean h = refl
identity_is (declared_in o u n) (declared_in q v m) h =
    let last = both_true (same_owner o q && nat_eq u v) (nat_eq n m) h in
    let first = both_true (same_owner o q) (nat_eq u v) last.0 in
    λ i. declared_in (owner_is o q first.0 i) (eqb-true u v first.1 i) (eqb-true n m last.1 i)
identity_is i j h = absurd (false≢true h)

-- with one mark more
abbrev with_mark : Table → Identity → AdaSubtype → Table
with_mark table i t = λ j. if same_identity i j then Some t else table j

owner_same : (o : Owner) → same_owner o o ≡ true
owner_same here = refl
owner_same (of_instance i) = eq-eqb i i refl

declared_same : (o : Owner) (u n : ℕ) → same_identity (declared_in o u n) (declared_in o u n) ≡ true
declared_same o u n = λ i. (owner_same o i && eq-eqb u u refl i) && eq-eqb n n refl i

module _ (table : Table) (o : Owner) (u n : ℕ) (t : AdaSubtype) (new : table (declared_in o u n) ≡ None) where
  abbrev now : Table
  now = with_mark table (declared_in o u n) t

  tells_new : now (declared_in o u n) ≡ Some t
  tells_new = ap (λ b. if b then Some t else table (declared_in o u n)) (declared_same o u n)

  tells_more : TellsMore table now
  tells_more j s h = by_test (same_identity (declared_in o u n) j) refl
    where
      by_test : (b : Bool) → same_identity (declared_in o u n) j ≡ b → (if b then Some t else table j) ≡ Some s
      by_test true e = absurd (cc (sym new ∙ (ap table (identity_is (declared_in o u n) j e) ∙ h)))
      by_test false e = h

  still_open : (k : ℕ) → n + 1 ≤ k → table (declared_in o u k) ≡ None → now (declared_in o u k) ≡ None
  still_open k less none = by_test (same_identity (declared_in o u n) (declared_in o u k)) refl
    where
      by_test : (b : Bool) → same_identity (declared_in o u n) (declared_in o u k) ≡ b → (if b then Some t else table (declared_in o u k)) ≡ None
      by_test true e =
          let same = eqb-true n k (both_true (same_owner o o && nat_eq u u) (nat_eq n k) e).1 in absurd (never same)
        where
          never : n ≡ k → ⊥
          never s = omega (arith, less, s)
      by_test false e = none

  tells_others : (j : Identity) → (j ≡ declared_in o u n → ⊥) → now j ≡ table j
  tells_others j other = by_test (same_identity (declared_in o u n) j) refl
    where
      by_test : (b : Bool) → same_identity (declared_in o u n) j ≡ b → (if b then Some t else table j) ≡ table j
      by_test true e = absurd (other (sym (identity_is (declared_in o u n) j e)))
      by_test false e = refl

-- a table that tells more tells of the same regions
told_more : (table more : Table) → TellsMore table more → (q : Parameter) → IsTold table q → IsTold more q
told_more table more so q h = record { identity = h.identity; is = h.is; names = so h.identity q.subtype h.names }

entity_more : (table more : Table) → TellsMore table more → (x : Entity) → IsToldEntity table x → IsToldEntity more x
entity_more table more so (mark i t) h = so i t h
entity_more table more so (routine r) h =
    (every_so (IsTold table) (IsTold more) r.parameters (told_more table more so) h.0, some_so (IsTold table) (IsTold more) r.result (told_more table more so) h.1)
entity_more table more so x h = tt

pub region_more : (table more : Table) → TellsMore table more → (region : Region) → IsToldRegion table region → IsToldRegion more region
region_more table more so region h = every_so (λ e. IsToldEntity table e.1) (λ e. IsToldEntity more e.1) region (λ e k. entity_more table more so e.1 k) h

-- a body that conforms
mode_is : (a b : program.Mode) → same_mode a b ≡ true → a ≡ b
mode_is in_mode in_mode h = refl
mode_is out_mode out_mode h = refl
mode_is in_out_mode in_out_mode h = refl
mode_is in_mode out_mode h = absurd (false≢true h)
mode_is in_mode in_out_mode h = absurd (false≢true h)
mode_is out_mode in_mode h = absurd (false≢true h)
mode_is out_mode in_out_mode h = absurd (false≢true h)
mode_is in_out_mode in_mode h = absurd (false≢true h)
mode_is in_out_mode out_mode h = absurd (false≢true h)

abbrev some_or : {X : Type 0} → X → Option X → X
some_or x None = x
some_or x (Some y) = y

module _ (table : Table) where
  subtype_is : (a b : Parameter) → IsTold table a → IsTold table b → same_mark a.mark b.mark ≡ true → a.subtype ≡ b.subtype
  subtype_is a b h k same =
      let marks : same_mark (Some h.identity) (Some k.identity) ≡ true = (λ i. same_mark (sym h.is i) (sym k.is i)) ∙ same in
      ap (some_or a.subtype) (sym h.names ∙ (ap table (identity_is h.identity k.identity marks) ∙ k.names))

  parameters_are : (n : ℕ) (rs bs : List Parameter) → Everywhere (IsTold table) rs → Everywhere (IsTold table) bs → same_parameters rs bs ≡ true
      → typed_parameters n rs ≡ typed_parameters n bs
  parameters_are n [] [] h k same = refl
  parameters_are n [] (b ∷ bs) h k same = absurd (false≢true same)
  parameters_are n (a ∷ rs) [] h k same = absurd (false≢true same)
  parameters_are n (a ∷ rs) (b ∷ bs) h k same =
      let both = both_true (same_parameter a b) (same_parameters rs bs) same in
      let one = both_true (same_name a.name b.name && same_mode a.mode b.mode) (same_mark a.mark b.mark) both.0 in
      let mode = mode_is a.mode b.mode (both_true (same_name a.name b.name) (same_mode a.mode b.mode) one.0).1 in
      let subtype = subtype_is a b h.0 k.0 one.1 in
      let rest = parameters_are (n + 1) rs bs h.1 k.1 both.1 in
      λ i. record { declaration = n; mode = mode i; subtype = subtype_in_tree (subtype i) } ∷ rest i

  result_is : (a b : Option Parameter) → IfSome a (IsTold table) → IfSome b (IsTold table) → same_result a b ≡ true
      → option_map (λ r. r.subtype) a ≡ option_map (λ r. r.subtype) b
  result_is None None h k same = refl
  result_is None (Some b) h k same = absurd (false≢true same)
  result_is (Some a) None h k same = absurd (false≢true same)
  result_is (Some a) (Some b) h k same = ap Some (subtype_is a b h k same)

  pub conforming_is : (r : Routine) (q : Profile) → IsToldEntity table (routine r) → Everywhere (IsTold table) q.parameters → IfSome q.result (IsTold table)
      → conforms q (Some (routine r)) ≡ true → IsAsDeclared r q
  conforming_is r q told parameters result same =
      let both = both_true (same_parameters r.parameters q.parameters) (same_result r.result q.result) same in
      record {
        parameters = λ n. parameters_are n r.parameters q.parameters told.0 parameters both.0;
        result = result_is r.result q.result told.1 result both.1;
      }

  -- regions
  hidden_told : (region : Region) (i : Identifier) → IsToldRegion table region → IfOk (hide region i).answer (IsToldRegion table)
  hidden_told region i all =
      answered (IsToldRegion table) i.pos (rule (with_name region i hidden)).outcome
      (ruled_so (IsToldRegion table) (with_name region i hidden)
      (if_test (IsToldRegion table) (is_new region i) (Some (region ++ (key i, hidden) ∷ [])) (λ b. every_end (λ e. IsToldEntity table e.1) region (key i, hidden) all tt)))

  all_hidden_told : (q : Pos) (region : Region) (is : List Identifier) → IsToldRegion table region → IfOk (hide_all q region is).answer (IsToldRegion table)
  all_hidden_told q region [] all = all
  all_hidden_told q region (i ∷ is) all =
      answered (IsToldRegion table) q _
      (part_so (IsToldRegion table) (IsToldRegion table) (hide region i).answer (λ r. hide_all q r is >>= (λ rs. rule (Some rs))) (hidden_told region i all)
      (λ r h. part_so (IsToldRegion table) (IsToldRegion table) (hide_all q r is).answer (λ rs. rule (Some rs)) (all_hidden_told q r is h) (λ rs k. k)))

  redefined_if : (b : Bool) (e : List ℕ × Entity) (x : Entity) (es more : Region) → IsToldEntity table x → IsToldRegion table (e ∷ es) → IsToldRegion table more
      → IsToldRegion table (if b then (e.0, x) ∷ es else e ∷ more)
  redefined_if true e x es more h all rest = (h, all.1)
  redefined_if false e x es more h all rest = (all.0, rest)

  pub redefined_told : (name : List ℕ) (x : Entity) (region : Region) → IsToldEntity table x → IsToldRegion table region → IsToldRegion table (redefined name x region)
  redefined_told name x [] h all = tt
  redefined_told name x (e ∷ es) h all =
      redefined_if (same_name name e.0) e x es (redefined name x es) h all (redefined_told name x es h all.1)

  literals_told : (t : AdaType) (n : ℕ) (region : Region) (is : List Identifier) → IsToldRegion table region → IsToldRegion table (literals t n region is)
  literals_told t n region [] all = all
  literals_told t n region (i ∷ is) all = literals_told t (n + 1) _ is (redefined_told (key i) _ region tt all)

  abbrev DefinedTold : Given Defined → Type 0
  DefinedTold x = IsToldRegion table x.value.region

  defined_told : (env : Env) (s : State) (q : Pos) (i : Identity) (d : TypeDefinition) → IsToldRegion table env.local → IfOk (defined env s q i d).answer DefinedTold
  defined_told env s q i (definition.Integer b) all =
      answered DefinedTold q _
      (part_so (λ r. Unit {0}) DefinedTold (bounded env s is_integral base b).answer
      (λ r. rule (Some (unchanged env.local (of_type (integer_type i) r.value) r.next))) (any_answer (bounded env s is_integral base b).answer) (λ r u. all))
  defined_told env s q i (definition.Enumeration names) all =
      answered DefinedTold q _
      (part_so (IsToldRegion table) DefinedTold (hide_all q env.local names).answer (λ region. rule (Some (given (enumerated i region names) s)))
      (all_hidden_told q env.local names all) (λ region h. literals_told _ 0 region names h))
  defined_told env s q i (definition.Array r c) all =
      answered DefinedTold q _
      (part_so (λ x. Unit {0}) DefinedTold (index_of env s r).answer
      (λ x. indicated env x.next c >>= (λ t. rule (Some (unchanged env.local (of_type (array_type i x.value t.value) base) t.next))))
      (any_answer (index_of env s r).answer)
      (λ x u. part_so (λ t. Unit {0}) DefinedTold (indicated env x.next c).answer
      (λ t. rule (Some (unchanged env.local (of_type (array_type i x.value t.value) base) t.next))) (any_answer (indicated env x.next c).answer) (λ t v. all)))
  defined_told env s q i (definition.Record cs) all =
      answered DefinedTold q _
      (part_so (λ x. Unit {0}) DefinedTold (fields_of (opened env) s q cs).answer
      (λ fs. rule (Some (unchanged env.local (of_type (record_type i fs.value) base) fs.next))) (any_answer (fields_of (opened env) s q cs).answer) (λ fs u. all))

  local_told : (c : Constancy) (t : AdaSubtype) (k : Option Static) (n : ℕ) (region : Region) (is : List Identifier) → IsToldRegion table region
      → IsToldRegion table (local_objects c t k n region is)
  local_told c t k n region [] all = all
  local_told c t k n region (i ∷ is) all = local_told c t k (n + 1) _ is (redefined_told (key i) (object_entity (tree.local_object n) c t k) region tt all)

  library_told : (env : Env) (c : Constancy) (t : AdaSubtype) (k : Option Static) (n : ℕ) (region : Region) (is : List Identifier) → IsToldRegion table region
      → IsToldRegion table (library_entities env c t k n region is)
  library_told env c t k n region [] all = all
  library_told env c t k n region (i ∷ is) all =
      library_told env c t k (n + 1) _ is (redefined_told (key i) (object_entity (tree.library_object (owner_of env) n) c t k) region tt all)

  abbrev RegionTold : Declared → Type 0
  RegionTold x = IsToldRegion table x.region

  exceptions_told : (env : Env) (s : State) (region : Region) (is : List Identifier) → IsToldRegion table region → RegionTold (exceptions_from env s region is)
  exceptions_told env s region [] all = all
  exceptions_told env s region (i ∷ is) all =
      exceptions_told env (exception_declared env i s) _ is (redefined_told (key i) (raisable (tree.declared (owner_of env) s.exceptions)) region tt all)

  either_plan : {B : Type 0} (P : B → Type 0) (b : Bool) (x y : Plan B) → IfPassed x.outcome P → IfPassed y.outcome P → IfPassed (if b then x else y).outcome P
  either_plan P true x y h k = h
  either_plan P false x y h k = k

  mapped_any : {A B : Type 0} (P : B → Type 0) (x : Option A) (y : B) → P y → IfSome (option_map (λ u. y) x) P
  mapped_any P None y h = tt
  mapped_any P (Some u) y h = h

  objects_told : (env : Env) (q : Pos) (c : Constancy) (region : Region) (is : List Identifier) (t : Given AdaSubtype) (i : Option Initial) → IsToldRegion table region
      → IfPassed (objects_declared env q c region is t i).outcome RegionTold
  objects_told env q c region is t None all =
      let library = library_told env c t.value _ _ region is all in
      let bare = local_told c t.value None t.next.objects region is all in
      either_plan RegionTold env.is_library
      (typed_rule env.step (library_declared env c region is t.value no_library_value t.next)
      (option_map (λ u. library_declared env c region is t.value no_library_value t.next) (may_be_bare c)))
      (typed_rule env.step (local_bare c region is t) (option_map (λ u. local_bare c region is t) (may_be_bare c)))
      (typed_either RegionTold env.step _ _ library (mapped_any RegionTold (may_be_bare c) _ library))
      (typed_either RegionTold env.step _ _ bare (mapped_any RegionTold (may_be_bare c) _ bare))
  objects_told env q c region is t (Some i) all =
      either_plan RegionTold env.is_library
      (library_value (with_local env region) t.next q t.value i >>= (λ v. typed_rule env.step (library_declared env c region is t.value v.value v.next)
      (option_map (λ u. library_declared env c region is t.value v.value v.next) (one_name is))))
      (new_value (with_local env region) t.next q t.value i >>= (λ v. typed_rule env.step (local_set env q c region is t.value v)
      (option_map (λ u. local_set env q c region is t.value v) (one_name is))))
      (part_so (λ v. Unit {0}) RegionTold (library_value (with_local env region) t.next q t.value i).answer
      (λ v. typed_rule env.step (library_declared env c region is t.value v.value v.next)
      (option_map (λ u. library_declared env c region is t.value v.value v.next) (one_name is)))
      (any_answer (library_value (with_local env region) t.next q t.value i).answer)
      (λ v u. let made = library_told env c t.value _ _ region is all in
      typed_either RegionTold env.step _ _ made (mapped_any RegionTold (one_name is) _ made)))
      (part_so (λ v. Unit {0}) RegionTold (new_value (with_local env region) t.next q t.value i).answer
      (λ v. typed_rule env.step (local_set env q c region is t.value v) (option_map (λ u. local_set env q c region is t.value v) (one_name is)))
      (any_answer (new_value (with_local env region) t.next q t.value i).answer)
      (λ v u. let made = local_told c t.value _ _ region is all in
      typed_either RegionTold env.step _ _ made (mapped_any RegionTold (one_name is) _ made)))

passed_weaker : {A : Type 0} (P Q : A → Type 0) (o : Outcome A) → IfPassed o P → ((x : A) → P x → Q x) → IfPassed o Q
passed_weaker P Q (refused_in p) h f = tt
passed_weaker P Q broken h f = tt
passed_weaker P Q (passed x) h f = f x h

-- how numbers of types rise hangs on no program
pub no_program : Program
no_program = record { subprograms = []; main = 0; objects = []; constants = []; instances = []; declared = []; exceptions = [] }

-- declarations of types and subtypes
module _ (table : Table) (env : Env) (s : State) (open_here : IsOpen table env s) where
  abbrev Tells : Declared → Type 0
  Tells x = TellsOn table env x

  pub mark_told : (i : Identifier) (t : AdaSubtype) (region : Region) (n : State) → n.types ≡ s.types + 1 → IsToldRegion table region
      → TellsOn table env (record { region = redefined (key i) (mark (new_identity env s) t) region; next = n; made = [] })
  mark_told i t region n more all =
      let none = open_here s.types (omega (arith)) in
      let now = with_mark table (new_identity env s) t in
      let so = tells_more table (owner_of env) env.unit_number s.types t none in
      record {
        table = now;
        more = so;
        others = λ j other. tells_others table (owner_of env) env.unit_number s.types t none j (other s.types);
        region = redefined_told now (key i) (mark (new_identity env s) t) region (tells_new table (owner_of env) env.unit_number s.types t none) (region_more table now so region all);
        is_open = λ k less.
            let above : s.types + 1 ≤ k = omega (arith, less, more) in
            still_open table (owner_of env) env.unit_number s.types t none k above (open_here k (omega (arith, above)));
      }

  as_before : (x : Declared) → s.types ≤ x.next.types → IsToldRegion table x.region → Tells x
  as_before x rise all = record { table = table; more = λ i t h. h; others = λ i other. refl; region = all; is_open = λ k less. open_here k (omega (arith, rise, less)) }

  abbrev IfRisen : Declared → Type 0
  IfRisen x = s.types ≤ x.next.types → Tells x

  objects_tell : (q : Pos) (c : Constancy) (region : Region) (is : List Identifier) (t : Given AdaSubtype) (i : Option Initial) → IsToldRegion table region
      → IfPassed (objects_declared env q c region is t i).outcome IfRisen
  objects_tell q c region is t i all =
      passed_weaker (RegionTold table) IfRisen (objects_declared env q c region is t i).outcome (objects_told table env q c region is t i all) (λ x h rise. as_before x rise h)

  kind_tells : (q : Pos) (d : DeclarationKind) → IsToldRegion table env.local → IfPassed (kind_declared env s q d).outcome IfRisen
  kind_tells q (declares.Type i d) all =
      part_so (IsToldRegion table) IfRisen (hide env.local i).answer
      (λ region. defined (with_local env region) (one_type_more s) q (new_identity env s) d >>= (λ x. rule (Some (type_declared env q i (new_identity env s) x))))
      (hidden_told table env.local i all)
      (λ region h. part_so (λ x. DefinedTold table x × OnlyStatics (one_type_more s) x.next) IfRisen
      (defined (with_local env region) (one_type_more s) q (new_identity env s) d).answer (λ x. rule (Some (type_declared env q i (new_identity env s) x)))
      (both_ok (DefinedTold table) (λ x. OnlyStatics (one_type_more s) x.next) (defined (with_local env region) (one_type_more s) q (new_identity env s) d).answer
      (defined_told table (with_local env region) (one_type_more s) q (new_identity env s) d h)
      (defined_keeps (with_local env region) (one_type_more s) q (new_identity env s) d))
      (λ x k rise. mark_told i x.value.subtype x.value.region (type_counted env q x.value.subtype x.next) (ap (λ y. y.types) k.1) k.0))
  kind_tells q (declares.Subtype i t) all =
      part_so (IsToldRegion table) IfRisen (hide env.local i).answer
      (λ region. indicated (with_local env region) (one_type_more s) t >>= (λ x. rule (Some (subtype_declared i region (new_identity env s) x))))
      (hidden_told table env.local i all)
      (λ region h. part_so (λ x. OnlyStatics (one_type_more s) x.next) IfRisen (indicated (with_local env region) (one_type_more s) t).answer
      (λ x. rule (Some (subtype_declared i region (new_identity env s) x))) (indicated_keeps (with_local env region) (one_type_more s) t)
      (λ x k rise. mark_told i x.value region x.next (ap (λ y. y.types) k) h))
  kind_tells q (declares.Object is c t i) all =
      part_so (IsToldRegion table) IfRisen (hide_all q env.local is).answer
      (λ region. indicated (with_local env region) s t >>= (λ x. objects_declared env q c region is x i)) (all_hidden_told table q env.local is all)
      (λ region h. part_so (λ x. Unit {0}) IfRisen (indicated (with_local env region) s t).answer (λ x. objects_declared env q c region is x i)
      (any_answer (indicated (with_local env region) s t).answer) (λ x u. objects_tell q c region is x i h))
  kind_tells q (declares.Exception is) all =
      part_so (IsToldRegion table) IfRisen (hide_all q env.local is).answer (λ region. rule (Some (exceptions_from env s region is)))
      (all_hidden_told table q env.local is all) (λ region h rise. as_before (exceptions_from env s region is) rise (exceptions_told table env s region is h))
  kind_tells q (declares.Pragma a) all = λ rise. as_before (record { region = env.local; next = s; made = [] }) rise all

  -- a declaration keeps marks told by their identities
  pub declaration_tells : (d : Declaration) → IsToldRegion table env.local → IfOk (declared env s d).answer Tells
  declaration_tells d all =
      weaker_ok (λ x. IfRisen x × LeadsOn no_program [] tt 0 (λ o. group no_shape) env.generic s x) Tells (declared env s d).answer
      (both_ok IfRisen (LeadsOn no_program [] tt 0 (λ o. group no_shape) env.generic s) (declared env s d).answer
      (answered IfRisen d.pos (kind_declared env s d.pos d.kind).outcome (kind_tells d.pos d.kind all))
      (declaration_leads no_program [] tt 0 (λ o. group no_shape) env s d))
      (λ x h. h.0 h.1.rise)
