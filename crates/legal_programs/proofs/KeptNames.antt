-- A subprogram with its body stays what it is behind declarations, and is not declared again.
use Rattle.std.proofs.Common.{◌≡◌, sym, ap, ◌∙◌, ◌+◌, ℕ, Bool, true, false, if◌then◌else◌, List, [], ◌∷◌, ◌++◌, Option, Some, None, option_map, IfSome, IfOk, refl}
use Rattle.std.specs.Prelude.{is_none}
use Rattle.std.proofs.lemmas.Bool.{false≢true}
use Rattle.cov_base.specs.Lists.{Everywhere}
use Rattle.cov_base.specs.declared.position.Pos.{Pos}
use Rattle.ada_syntax.specs.declared.declaration.Constancy.{Constancy}
use Rattle.ada_syntax.specs.declared.declaration.Declaration.{Declaration}
use Rattle.ada_syntax.specs.declared.declaration.DeclarationKind.{DeclarationKind}
use Rattle.ada_syntax.specs.declared.declaration.DeclarationKind.TheVariants as declares
use Rattle.ada_syntax.specs.declared.declaration.Initial.{Initial}
use Rattle.ada_syntax.specs.declared.declaration.TypeDefinition.{TypeDefinition}
use Rattle.ada_syntax.specs.declared.declaration.TypeDefinition.TheVariants as definition
use Rattle.ada_syntax.specs.declared.name.Identifier.{Identifier}
use Rattle.ada_meaning.specs.Tree as tree
use Rattle.ada_meaning.specs.Types.{Static}
use Rattle.ada_rules.specs.Plan.{Plan, ◌>>=◌, rule}
use Rattle.ada_rules.specs.Types.{Identity, AdaType, integer_type, array_type, record_type, AdaSubtype, of_type, base, is_integral}
use Rattle.ada_rules.specs.Entities.{key, same_name, Entity, hidden, raisable, Region, entity_of, is_new, redefined}
use Rattle.ada_rules.specs.Environment.{typed_rule, State, Given, given, Env, with_local, opened, owner_of, new_identity, one_type_more, with_name, hide, hide_all}
use Rattle.ada_rules.specs.Declarations.{bounded, index_of, indicated, fields_of, Defined, literals, enumerated, unchanged, defined, new_value, library_value, Declared, may_be_bare, one_name, object_entity, local_objects, local_bare, local_set, library_entities, library_declared, no_library_value, objects_declared, exception_declared, exceptions_from, type_declared, subtype_declared, kind_declared, declared}
use Rattle.legal_laws.proofs.Passing.{IfPassed, if_test, answered, ruled_so, part_so, typed_either, any_answer}
use Rattle.legal_programs.proofs.MainUnit.{name_is}

module _ (m : List ℕ) (kept : Entity) where
  -- a name denotes this here, and others are not its own
  abbrev pub Has : Region → Type 0
  Has region = entity_of m region ≡ Some kept

  abbrev pub Apart : Identifier → Type 0
  Apart i = same_name m (key i) ≡ false

  in_front_if : (c : Bool) (y : Entity) (o r : Option Entity) → (o ≡ Some kept → r ≡ Some kept) → (if c then Some y else o) ≡ Some kept → (if c then Some y else r) ≡ Some kept
  in_front_if true y o r rest h = h
  in_front_if false y o r rest h = rest h

  pub in_front : (region es : Region) → Has region → Has (region ++ es)
  in_front [] es h = absurd (none_is_some h)
    where
      none_is_some : None ≡ Some kept → ⊥
      none_is_some e = cc
  in_front (e ∷ region) es h = in_front_if (same_name m e.0) e.1 (entity_of m region) (entity_of m (region ++ es)) (in_front region es) h

  pub not_same : (b : Bool) → (b ≡ true → ⊥) → b ≡ false
  not_same true h = absurd (h refl)
  not_same false h = refl

  apart_new : (region : Region) (i : Identifier) → Has region → is_new region i ≡ true → Apart i
  apart_new region i h new =
      not_same (same_name m (key i))
      (λ e. false≢true (sym (ap is_none (ap (λ n. entity_of n region) (sym (name_is m (key i) e)) ∙ h)) ∙ new))

  pub hidden_has : (region : Region) (i : Identifier) → Has region → IfOk (hide region i).answer (λ r. Has r × Apart i)
  hidden_has region i h =
      answered (λ r. Has r × Apart i) i.pos (rule (with_name region i hidden)).outcome
      (ruled_so (λ r. Has r × Apart i) (with_name region i hidden)
      (if_test (λ r. Has r × Apart i) (is_new region i) (Some (region ++ (key i, hidden) ∷ []))
      (λ e. (in_front region ((key i, hidden) ∷ []) h, apart_new region i h e))))

  all_hidden_has : (q : Pos) (region : Region) (is : List Identifier) → Has region → IfOk (hide_all q region is).answer (λ r. Has r × Everywhere Apart is)
  all_hidden_has q region [] h = (h, tt)
  all_hidden_has q region (i ∷ is) h =
      answered (λ r. Has r × Everywhere Apart (i ∷ is)) q _
      (part_so (λ r. Has r × Apart i) (λ r. Has r × Everywhere Apart (i ∷ is)) (hide region i).answer (λ r. hide_all q r is >>= (λ rs. rule (Some rs))) (hidden_has region i h)
      (λ r k. part_so (λ rs. Has rs × Everywhere Apart is) (λ rs. Has rs × Everywhere Apart (i ∷ is)) (hide_all q r is).answer (λ rs. rule (Some rs)) (all_hidden_has q r is k.0)
      (λ rs l. (l.0, (k.1, l.1)))))

  redefined_if : (b c : Bool) (e : List ℕ × Entity) (y : Entity) (es more : Region) → same_name m e.0 ≡ c → (b ≡ true → c ≡ false) → Has (e ∷ es) → (Has es → Has more)
      → Has (if b then (e.0, y) ∷ es else e ∷ more)
  redefined_if true true e y es more f g h rest = absurd (false≢true (sym (g refl)))
  redefined_if true false e y es more f g h rest =
      ap (λ d. if d then Some y else entity_of m es) f ∙ (sym (ap (λ d. if d then Some e.1 else entity_of m es) f) ∙ h)
  redefined_if false c e y es more f g h rest = in_front_if (same_name m e.0) e.1 (entity_of m es) (entity_of m more) rest h

  pub redefined_has : (i : Identifier) (y : Entity) (region : Region) → Apart i → Has region → Has (redefined (key i) y region)
  redefined_has i y [] apart h = h
  redefined_has i y (e ∷ es) apart h =
      redefined_if (same_name (key i) e.0) (same_name m e.0) e y es (redefined (key i) y es) refl
      (λ same. ap (same_name m) (sym (name_is (key i) e.0 same)) ∙ apart) h (redefined_has i y es apart)

  literals_has : (t : AdaType) (n : ℕ) (region : Region) (is : List Identifier) → Everywhere Apart is → Has region → Has (literals t n region is)
  literals_has t n region [] apart all = all
  literals_has t n region (i ∷ is) apart all = literals_has t (n + 1) _ is apart.1 (redefined_has i _ region apart.0 all)

  abbrev DefinedHas : Given Defined → Type 0
  DefinedHas x = Has x.value.region

  pub defined_has : (env : Env) (s : State) (q : Pos) (i : Identity) (d : TypeDefinition) → Has env.local → IfOk (defined env s q i d).answer DefinedHas
  defined_has env s q i (definition.Integer b) all =
      answered DefinedHas q _
      (part_so (λ r. Unit {0}) DefinedHas (bounded env s is_integral base b).answer
      (λ r. rule (Some (unchanged env.local (of_type (integer_type i) r.value) r.next))) (any_answer (bounded env s is_integral base b).answer) (λ r u. all))
  defined_has env s q i (definition.Enumeration names) all =
      answered DefinedHas q _
      (part_so (λ r. Has r × Everywhere Apart names) DefinedHas (hide_all q env.local names).answer (λ region. rule (Some (given (enumerated i region names) s)))
      (all_hidden_has q env.local names all) (λ region h. literals_has _ 0 region names h.1 h.0))
  defined_has env s q i (definition.Array r c) all =
      answered DefinedHas q _
      (part_so (λ x. Unit {0}) DefinedHas (index_of env s r).answer
      (λ x. indicated env x.next c >>= (λ t. rule (Some (unchanged env.local (of_type (array_type i x.value t.value) base) t.next))))
      (any_answer (index_of env s r).answer)
      (λ x u. part_so (λ t. Unit {0}) DefinedHas (indicated env x.next c).answer
      (λ t. rule (Some (unchanged env.local (of_type (array_type i x.value t.value) base) t.next))) (any_answer (indicated env x.next c).answer) (λ t v. all)))
  defined_has env s q i (definition.Record cs) all =
      answered DefinedHas q _
      (part_so (λ x. Unit {0}) DefinedHas (fields_of (opened env) s q cs).answer
      (λ fs. rule (Some (unchanged env.local (of_type (record_type i fs.value) base) fs.next))) (any_answer (fields_of (opened env) s q cs).answer) (λ fs u. all))

  abbrev pub RegionHas : Declared → Type 0
  RegionHas x = Has x.region

  local_objects_has : (c : Constancy) (t : AdaSubtype) (k : Option Static) (n : ℕ) (region : Region) (is : List Identifier) → Everywhere Apart is → Has region
      → Has (local_objects c t k n region is)
  local_objects_has c t k n region [] apart all = all
  local_objects_has c t k n region (i ∷ is) apart all =
      local_objects_has c t k (n + 1) _ is apart.1 (redefined_has i (object_entity (tree.local_object n) c t k) region apart.0 all)

  library_entities_has : (env : Env) (c : Constancy) (t : AdaSubtype) (k : Option Static) (n : ℕ) (region : Region) (is : List Identifier) → Everywhere Apart is → Has region
      → Has (library_entities env c t k n region is)
  library_entities_has env c t k n region [] apart all = all
  library_entities_has env c t k n region (i ∷ is) apart all =
      library_entities_has env c t k (n + 1) _ is apart.1 (redefined_has i (object_entity (tree.library_object (owner_of env) n) c t k) region apart.0 all)

  exceptions_has : (env : Env) (s : State) (region : Region) (is : List Identifier) → Everywhere Apart is → Has region → RegionHas (exceptions_from env s region is)
  exceptions_has env s region [] apart all = all
  exceptions_has env s region (i ∷ is) apart all =
      exceptions_has env (exception_declared env i s) _ is apart.1 (redefined_has i (raisable (tree.declared (owner_of env) s.exceptions)) region apart.0 all)

  either_plan : {B : Type 0} (P : B → Type 0) (b : Bool) (x y : Plan B) → IfPassed x.outcome P → IfPassed y.outcome P → IfPassed (if b then x else y).outcome P
  either_plan P true x y h k = h
  either_plan P false x y h k = k

  mapped_any : {A B : Type 0} (P : B → Type 0) (x : Option A) (y : B) → P y → IfSome (option_map (λ u. y) x) P
  mapped_any P None y h = tt
  mapped_any P (Some u) y h = h

  objects_has : (env : Env) (q : Pos) (c : Constancy) (region : Region) (is : List Identifier) (t : Given AdaSubtype) (i : Option Initial) → Everywhere Apart is → Has region
      → IfPassed (objects_declared env q c region is t i).outcome RegionHas
  objects_has env q c region is t None apart all =
      let library = library_entities_has env c t.value _ _ region is apart all in
      let bare = local_objects_has c t.value None t.next.objects region is apart all in
      either_plan RegionHas env.is_library
      (typed_rule env.step (library_declared env c region is t.value no_library_value t.next)
      (option_map (λ u. library_declared env c region is t.value no_library_value t.next) (may_be_bare c)))
      (typed_rule env.step (local_bare c region is t) (option_map (λ u. local_bare c region is t) (may_be_bare c)))
      (typed_either RegionHas env.step _ _ library (mapped_any RegionHas (may_be_bare c) _ library))
      (typed_either RegionHas env.step _ _ bare (mapped_any RegionHas (may_be_bare c) _ bare))
  objects_has env q c region is t (Some i) apart all =
      either_plan RegionHas env.is_library
      (library_value (with_local env region) t.next q t.value i >>= (λ v. typed_rule env.step (library_declared env c region is t.value v.value v.next)
      (option_map (λ u. library_declared env c region is t.value v.value v.next) (one_name is))))
      (new_value (with_local env region) t.next q t.value i >>= (λ v. typed_rule env.step (local_set env q c region is t.value v)
      (option_map (λ u. local_set env q c region is t.value v) (one_name is))))
      (part_so (λ v. Unit {0}) RegionHas (library_value (with_local env region) t.next q t.value i).answer
      (λ v. typed_rule env.step (library_declared env c region is t.value v.value v.next)
      (option_map (λ u. library_declared env c region is t.value v.value v.next) (one_name is)))
      (any_answer (library_value (with_local env region) t.next q t.value i).answer)
      (λ v u. let made = library_entities_has env c t.value _ _ region is apart all in
      typed_either RegionHas env.step _ _ made (mapped_any RegionHas (one_name is) _ made)))
      (part_so (λ v. Unit {0}) RegionHas (new_value (with_local env region) t.next q t.value i).answer
      (λ v. typed_rule env.step (local_set env q c region is t.value v) (option_map (λ u. local_set env q c region is t.value v) (one_name is)))
      (any_answer (new_value (with_local env region) t.next q t.value i).answer)
      (λ v u. let made = local_objects_has c t.value _ _ region is apart all in
      typed_either RegionHas env.step _ _ made (mapped_any RegionHas (one_name is) _ made)))

  kind_has : (env : Env) (s : State) (q : Pos) (d : DeclarationKind) → Has env.local → IfPassed (kind_declared env s q d).outcome RegionHas
  kind_has env s q (declares.Type i d) all =
      part_so (λ r. Has r × Apart i) RegionHas (hide env.local i).answer
      (λ region. defined (with_local env region) (one_type_more s) q (new_identity env s) d >>= (λ x. rule (Some (type_declared env q i (new_identity env s) x))))
      (hidden_has env.local i all)
      (λ region h. part_so DefinedHas RegionHas (defined (with_local env region) (one_type_more s) q (new_identity env s) d).answer
      (λ x. rule (Some (type_declared env q i (new_identity env s) x))) (defined_has (with_local env region) (one_type_more s) q (new_identity env s) d h.0)
      (λ x k. redefined_has i _ x.value.region h.1 k))
  kind_has env s q (declares.Subtype i t) all =
      part_so (λ r. Has r × Apart i) RegionHas (hide env.local i).answer
      (λ region. indicated (with_local env region) (one_type_more s) t >>= (λ x. rule (Some (subtype_declared i region (new_identity env s) x))))
      (hidden_has env.local i all)
      (λ region h. part_so (λ x. Unit {0}) RegionHas (indicated (with_local env region) (one_type_more s) t).answer
      (λ x. rule (Some (subtype_declared i region (new_identity env s) x))) (any_answer (indicated (with_local env region) (one_type_more s) t).answer)
      (λ x u. redefined_has i _ region h.1 h.0))
  kind_has env s q (declares.Object is c t i) all =
      part_so (λ r. Has r × Everywhere Apart is) RegionHas (hide_all q env.local is).answer
      (λ region. indicated (with_local env region) s t >>= (λ x. objects_declared env q c region is x i)) (all_hidden_has q env.local is all)
      (λ region h. part_so (λ x. Unit {0}) RegionHas (indicated (with_local env region) s t).answer (λ x. objects_declared env q c region is x i)
      (any_answer (indicated (with_local env region) s t).answer) (λ x u. objects_has env q c region is x i h.1 h.0))
  kind_has env s q (declares.Exception is) all =
      part_so (λ r. Has r × Everywhere Apart is) RegionHas (hide_all q env.local is).answer (λ region. rule (Some (exceptions_from env s region is)))
      (all_hidden_has q env.local is all) (λ region h. exceptions_has env s region is h.1 h.0)
  kind_has env s q (declares.Pragma a) all = all

  pub declared_has : (env : Env) (s : State) (d : Declaration) → Has env.local → IfOk (declared env s d).answer RegionHas
  declared_has env s d all = answered RegionHas d.pos (kind_declared env s d.pos d.kind).outcome (kind_has env s d.pos d.kind all)
