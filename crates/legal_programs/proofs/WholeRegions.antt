-- Declarations declare whole objects.
use Rattle.std.proofs.Common.{◌+◌, ℕ, Bool, true, false, if◌then◌else◌, List, [], ◌∷◌, ◌++◌, Option, Some, None, option_map, IfSome, IfOk, refl}
use Rattle.cov_base.specs.declared.position.Pos.{Pos}
use Rattle.ada_syntax.specs.declared.declaration.Constancy.{Constancy}
use Rattle.ada_syntax.specs.declared.declaration.Declaration.{Declaration}
use Rattle.ada_syntax.specs.declared.declaration.DeclarationKind.{DeclarationKind}
use Rattle.ada_syntax.specs.declared.declaration.DeclarationKind.TheVariants as declares
use Rattle.ada_syntax.specs.declared.declaration.Initial.{Initial}
use Rattle.ada_syntax.specs.declared.declaration.TypeDefinition.{TypeDefinition}
use Rattle.ada_syntax.specs.declared.declaration.TypeDefinition.TheVariants as definition
use Rattle.ada_syntax.specs.declared.name.Identifier.{Identifier}
use Rattle.ada_meaning.specs.Tree as tree
use Rattle.ada_meaning.specs.Types.{Static}
use Rattle.ada_rules.specs.Plan.{Plan, ◌>>=◌, rule}
use Rattle.ada_rules.specs.Types.{Identity, AdaType, integer_type, array_type, record_type, AdaSubtype, of_type, base, is_integral}
use Rattle.ada_rules.specs.Entities.{key, same_name, Entity, hidden, raisable, Region, is_new, redefined}
use Rattle.ada_rules.specs.Environment.{typed_rule, State, Given, given, Env, with_local, opened, in_loop, in_handler, owner_of, new_identity, one_type_more, with_name, hide, hide_all}
use Rattle.ada_rules.specs.Declarations.{bounded, index_of, indicated, fields_of, Defined, literals, enumerated, unchanged, defined, new_value, library_value, Declared, may_be_bare, one_name, object_entity, local_objects, local_bare, local_set, library_entities, library_declared, no_library_value, objects_declared, exception_declared, exceptions_from, type_declared, subtype_declared, kind_declared, declared}
use Rattle.legal_laws.proofs.Passing.{IfPassed, if_test, answered, ruled_so, part_so, typed_either, any_answer, every_end}
use Rattle.legal_programs.specs.Deciding.{IsWhole, IsWholeRegion, IsWholeEnv}

pub name_added : (region : Region) (i : Identifier) (x : Entity) → IsWholeRegion region → IsWhole x → IfSome (with_name region i x) IsWholeRegion
name_added region i x all h =
    if_test IsWholeRegion (is_new region i) (Some (region ++ (key i, x) ∷ [])) (λ b. every_end (λ e. IsWhole e.1) region (key i, x) all h)

pub hidden_whole : (region : Region) (i : Identifier) → IsWholeRegion region → IfOk (hide region i).answer IsWholeRegion
hidden_whole region i all =
    answered IsWholeRegion i.pos (rule (with_name region i hidden)).outcome (ruled_so IsWholeRegion (with_name region i hidden) (name_added region i hidden all tt))

pub all_hidden_whole : (q : Pos) (region : Region) (is : List Identifier) → IsWholeRegion region → IfOk (hide_all q region is).answer IsWholeRegion
all_hidden_whole q region [] all = all
all_hidden_whole q region (i ∷ is) all =
    answered IsWholeRegion q _
    (part_so IsWholeRegion IsWholeRegion (hide region i).answer (λ r. hide_all q r is >>= (λ rs. rule (Some rs))) (hidden_whole region i all)
    (λ r h. part_so IsWholeRegion IsWholeRegion (hide_all q r is).answer (λ rs. rule (Some rs)) (all_hidden_whole q r is h) (λ rs k. k)))

redefined_if : (b : Bool) (e : List ℕ × Entity) (x : Entity) (es more : Region) → IsWhole x → IsWholeRegion (e ∷ es) → IsWholeRegion more
    → IsWholeRegion (if b then (e.0, x) ∷ es else e ∷ more)
redefined_if true e x es more h all rest = (h, all.1)
redefined_if false e x es more h all rest = (all.0, rest)

pub redefined_whole : (name : List ℕ) (x : Entity) (region : Region) → IsWhole x → IsWholeRegion region → IsWholeRegion (redefined name x region)
redefined_whole name x [] h all = tt
redefined_whole name x (e ∷ es) h all =
    redefined_if (same_name name e.0) e x es (redefined name x es) h all (redefined_whole name x es h all.1)

-- where a construct stands
own_local : (b : Bool) (region own : Region) → IsWholeRegion region → IsWholeRegion own → IsWholeRegion (if b then region else own)
own_local true region own h k = h
own_local false region own h k = k

pub local_whole : (env : Env) (region : Region) → IsWholeEnv env → IsWholeRegion region → IsWholeEnv (with_local env region)
local_whole env region is h =
    record { regions = (h, is.regions.1); own = own_local env.is_library region env.own h is.own; units = is.units; test_io = is.test_io }

pub opened_whole : (env : Env) → IsWholeEnv env → IsWholeEnv (opened env)
opened_whole env is = record { regions = (tt, is.regions); own = is.own; units = is.units; test_io = is.test_io }

pub loop_whole : (env : Env) → IsWholeEnv env → IsWholeEnv (in_loop env)
loop_whole env is = record { regions = is.regions; own = is.own; units = is.units; test_io = is.test_io }

pub handler_whole : (env : Env) → IsWholeEnv env → IsWholeEnv (in_handler env)
handler_whole env is = record { regions = is.regions; own = is.own; units = is.units; test_io = is.test_io }

-- declarations
literals_whole : (t : AdaType) (n : ℕ) (region : Region) (is : List Identifier) → IsWholeRegion region → IsWholeRegion (literals t n region is)
literals_whole t n region [] all = all
literals_whole t n region (i ∷ is) all = literals_whole t (n + 1) _ is (redefined_whole (key i) _ region tt all)

abbrev DefinedWhole : Given Defined → Type 0
DefinedWhole x = IsWholeRegion x.value.region

defined_whole : (env : Env) (s : State) (q : Pos) (i : Identity) (d : TypeDefinition) → IsWholeRegion env.local → IfOk (defined env s q i d).answer DefinedWhole
defined_whole env s q i (definition.Integer b) all =
    answered DefinedWhole q _
    (part_so (λ r. Unit {0}) DefinedWhole (bounded env s is_integral base b).answer
    (λ r. rule (Some (unchanged env.local (of_type (integer_type i) r.value) r.next))) (any_answer (bounded env s is_integral base b).answer) (λ r u. all))
defined_whole env s q i (definition.Enumeration names) all =
    answered DefinedWhole q _
    (part_so IsWholeRegion DefinedWhole (hide_all q env.local names).answer (λ region. rule (Some (given (enumerated i region names) s)))
    (all_hidden_whole q env.local names all) (λ region h. literals_whole _ 0 region names h))
defined_whole env s q i (definition.Array r c) all =
    answered DefinedWhole q _
    (part_so (λ x. Unit {0}) DefinedWhole (index_of env s r).answer
    (λ x. indicated env x.next c >>= (λ t. rule (Some (unchanged env.local (of_type (array_type i x.value t.value) base) t.next))))
    (any_answer (index_of env s r).answer)
    (λ x u. part_so (λ t. Unit {0}) DefinedWhole (indicated env x.next c).answer
    (λ t. rule (Some (unchanged env.local (of_type (array_type i x.value t.value) base) t.next))) (any_answer (indicated env x.next c).answer) (λ t v. all)))
defined_whole env s q i (definition.Record cs) all =
    answered DefinedWhole q _
    (part_so (λ x. Unit {0}) DefinedWhole (fields_of (opened env) s q cs).answer
    (λ fs. rule (Some (unchanged env.local (of_type (record_type i fs.value) base) fs.next))) (any_answer (fields_of (opened env) s q cs).answer) (λ fs u. all))

abbrev pub RegionWhole : Declared → Type 0
RegionWhole x = IsWholeRegion x.region

local_objects_whole : (c : Constancy) (t : AdaSubtype) (k : Option Static) (n : ℕ) (region : Region) (is : List Identifier) → IsWholeRegion region
    → IsWholeRegion (local_objects c t k n region is)
local_objects_whole c t k n region [] all = all
local_objects_whole c t k n region (i ∷ is) all =
    local_objects_whole c t k (n + 1) _ is (redefined_whole (key i) (object_entity (tree.local_object n) c t k) region refl all)

library_entities_whole : (env : Env) (c : Constancy) (t : AdaSubtype) (k : Option Static) (n : ℕ) (region : Region) (is : List Identifier) → IsWholeRegion region
    → IsWholeRegion (library_entities env c t k n region is)
library_entities_whole env c t k n region [] all = all
library_entities_whole env c t k n region (i ∷ is) all =
    library_entities_whole env c t k (n + 1) _ is (redefined_whole (key i) (object_entity (tree.library_object (owner_of env) n) c t k) region refl all)

exceptions_whole : (env : Env) (s : State) (region : Region) (is : List Identifier) → IsWholeRegion region → RegionWhole (exceptions_from env s region is)
exceptions_whole env s region [] all = all
exceptions_whole env s region (i ∷ is) all =
    exceptions_whole env (exception_declared env i s) _ is (redefined_whole (key i) (raisable (tree.declared (owner_of env) s.exceptions)) region tt all)

either_plan : {B : Type 0} (P : B → Type 0) (b : Bool) (x y : Plan B) → IfPassed x.outcome P → IfPassed y.outcome P → IfPassed (if b then x else y).outcome P
either_plan P true x y h k = h
either_plan P false x y h k = k

mapped_any : {A B : Type 0} (P : B → Type 0) (x : Option A) (y : B) → P y → IfSome (option_map (λ u. y) x) P
mapped_any P None y h = tt
mapped_any P (Some u) y h = h

objects_whole : (env : Env) (q : Pos) (c : Constancy) (region : Region) (is : List Identifier) (t : Given AdaSubtype) (i : Option Initial) → IsWholeRegion region
    → IfPassed (objects_declared env q c region is t i).outcome RegionWhole
objects_whole env q c region is t None all =
    let library = library_entities_whole env c t.value _ _ region is all in
    let bare = local_objects_whole c t.value None t.next.objects region is all in
    either_plan RegionWhole env.is_library
    (typed_rule env.step (library_declared env c region is t.value no_library_value t.next)
    (option_map (λ u. library_declared env c region is t.value no_library_value t.next) (may_be_bare c)))
    (typed_rule env.step (local_bare c region is t) (option_map (λ u. local_bare c region is t) (may_be_bare c)))
    (typed_either RegionWhole env.step _ _ library (mapped_any RegionWhole (may_be_bare c) _ library))
    (typed_either RegionWhole env.step _ _ bare (mapped_any RegionWhole (may_be_bare c) _ bare))
objects_whole env q c region is t (Some i) all =
    either_plan RegionWhole env.is_library
    (library_value (with_local env region) t.next q t.value i >>= (λ v. typed_rule env.step (library_declared env c region is t.value v.value v.next)
    (option_map (λ u. library_declared env c region is t.value v.value v.next) (one_name is))))
    (new_value (with_local env region) t.next q t.value i >>= (λ v. typed_rule env.step (local_set env q c region is t.value v)
    (option_map (λ u. local_set env q c region is t.value v) (one_name is))))
    (part_so (λ v. Unit {0}) RegionWhole (library_value (with_local env region) t.next q t.value i).answer
    (λ v. typed_rule env.step (library_declared env c region is t.value v.value v.next)
    (option_map (λ u. library_declared env c region is t.value v.value v.next) (one_name is)))
    (any_answer (library_value (with_local env region) t.next q t.value i).answer)
    (λ v u. let made = library_entities_whole env c t.value _ _ region is all in
    typed_either RegionWhole env.step _ _ made (mapped_any RegionWhole (one_name is) _ made)))
    (part_so (λ v. Unit {0}) RegionWhole (new_value (with_local env region) t.next q t.value i).answer
    (λ v. typed_rule env.step (local_set env q c region is t.value v) (option_map (λ u. local_set env q c region is t.value v) (one_name is)))
    (any_answer (new_value (with_local env region) t.next q t.value i).answer)
    (λ v u. let made = local_objects_whole c t.value _ _ region is all in
    typed_either RegionWhole env.step _ _ made (mapped_any RegionWhole (one_name is) _ made)))

kind_whole : (env : Env) (s : State) (q : Pos) (d : DeclarationKind) → IsWholeRegion env.local → IfPassed (kind_declared env s q d).outcome RegionWhole
kind_whole env s q (declares.Type i d) all =
    part_so IsWholeRegion RegionWhole (hide env.local i).answer
    (λ region. defined (with_local env region) (one_type_more s) q (new_identity env s) d >>= (λ x. rule (Some (type_declared env q i (new_identity env s) x))))
    (hidden_whole env.local i all)
    (λ region h. part_so DefinedWhole RegionWhole (defined (with_local env region) (one_type_more s) q (new_identity env s) d).answer
    (λ x. rule (Some (type_declared env q i (new_identity env s) x))) (defined_whole (with_local env region) (one_type_more s) q (new_identity env s) d h)
    (λ x k. redefined_whole (key i) _ x.value.region tt k))
kind_whole env s q (declares.Subtype i t) all =
    part_so IsWholeRegion RegionWhole (hide env.local i).answer
    (λ region. indicated (with_local env region) (one_type_more s) t >>= (λ x. rule (Some (subtype_declared i region (new_identity env s) x))))
    (hidden_whole env.local i all)
    (λ region h. part_so (λ x. Unit {0}) RegionWhole (indicated (with_local env region) (one_type_more s) t).answer
    (λ x. rule (Some (subtype_declared i region (new_identity env s) x))) (any_answer (indicated (with_local env region) (one_type_more s) t).answer)
    (λ x u. redefined_whole (key i) _ region tt h))
kind_whole env s q (declares.Object is c t i) all =
    part_so IsWholeRegion RegionWhole (hide_all q env.local is).answer
    (λ region. indicated (with_local env region) s t >>= (λ x. objects_declared env q c region is x i)) (all_hidden_whole q env.local is all)
    (λ region h. part_so (λ x. Unit {0}) RegionWhole (indicated (with_local env region) s t).answer (λ x. objects_declared env q c region is x i)
    (any_answer (indicated (with_local env region) s t).answer) (λ x u. objects_whole env q c region is x i h))
kind_whole env s q (declares.Exception is) all =
    part_so IsWholeRegion RegionWhole (hide_all q env.local is).answer (λ region. rule (Some (exceptions_from env s region is)))
    (all_hidden_whole q env.local is all) (λ region h. exceptions_whole env s region is h)
kind_whole env s q (declares.Pragma a) all = all

pub declared_whole : (env : Env) (s : State) (d : Declaration) → IsWholeRegion env.local → IfOk (declared env s d).answer RegionWhole
declared_whole env s d all = answered RegionWhole d.pos (kind_declared env s d.pos d.kind).outcome (kind_whole env s d.pos d.kind all)
