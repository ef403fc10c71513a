-- What a package or a generic declares is its own: types, objects, subprograms and exceptions of its unit and its owner. Formals stand in generics
-- alone, and what an instance shows of its generic is no formal.
use Rattle.std.proofs.Common.{◌≡◌, ◌+◌, ℕ, ℤ, pos, Bool, true, false, if◌then◌else◌, List, [], ◌∷◌, ◌++◌, length, Option, Some, None, option_map, is_some, IfSome, IfOk, refl, sym, ap, ◌∙◌, subst, inl, inr}
use Rattle.std.specs.Prelude.{◌⊎◌}
use Rattle.std.proofs.lemmas.Bool.{false≢true}
use Rattle.cov_base.specs.Lists.{Everywhere}
use Rattle.cov_base.specs.declared.position.Pos.{Pos}
use Rattle.ada_syntax.specs.declared.declaration.Constancy.{Constancy}
use Rattle.ada_syntax.specs.declared.declaration.Declaration.{Declaration}
use Rattle.ada_syntax.specs.declared.declaration.DeclarationKind.{DeclarationKind}
use Rattle.ada_syntax.specs.declared.declaration.DeclarationKind.TheVariants as declares
use Rattle.ada_syntax.specs.declared.declaration.Initial.{Initial}
use Rattle.ada_syntax.specs.declared.declaration.TypeDefinition.{TypeDefinition}
use Rattle.ada_syntax.specs.declared.declaration.TypeDefinition.TheVariants as definition
use Rattle.ada_syntax.specs.declared.name.Identifier.{Identifier}
use Rattle.ada_syntax.specs.declared.unit.Formal.{Formal}
use Rattle.ada_syntax.specs.declared.unit.FormalKind.{FormalKind}
use Rattle.ada_syntax.specs.declared.unit.FormalKind.TheVariants as formal
use Rattle.ada_syntax.specs.declared.unit.PackageItem.{PackageItem}
use Rattle.ada_syntax.specs.declared.unit.PackageItem.TheVariants as part
use Rattle.ada_syntax.specs.declared.unit.Specification.{Specification}
use Rattle.ada_meaning.specs.Tree as tree
use Rattle.ada_meaning.specs.Types.{Owner, here, of_instance, Static, static_formal, formal_range}
use Rattle.ada_rules.specs.Plan.{Plan, ◌>>=◌, rule}
use Rattle.ada_rules.specs.Types.{Identity, declared_in, AdaType, integer_type, enumeration, formal_type, array_type, record_type, identity_of, AdaSubtype, of_type, base, is_integral}
use Rattle.ada_rules.specs.Entities.{key, same_name, Variable, Routine, Entity, hidden, mark, literal, object, formal_object, routine, raisable, component, test_io, unit, Region, entity_of, is_new, shown, redefined}
use Rattle.ada_rules.specs.Environment.{typed_rule, State, Given, given, Env, with_local, opened, owner_of, new_identity, one_type_more, with_name, hide, hide_all}
use Rattle.ada_rules.specs.Expressions.{scalar_mark, unless_formal}
use Rattle.ada_rules.specs.Declarations.{bounded, index_of, indicated, fields_of, Defined, literals, enumerated, unchanged, defined, new_value, library_value, Declared, may_be_bare, one_name, object_entity, local_bare, local_set, library_entities, library_declared, no_library_value, objects_declared, exception_declared, exceptions_from, type_declared, subtype_declared, kind_declared, declared}
use Rattle.ada_rules.specs.Instances.{formal_mark, formal_type_declared, formal_routine, formal_declared, formals_declared}
use Rattle.ada_rules.specs.Subprograms.{Profile, specified, declared_only, body_number, routine_of, subprogram_declared}
use Rattle.ada_rules.specs.Units.{package_item, package_items}
use Rattle.legal_laws.proofs.Passing.{IfPassed, if_map, if_test, answered, ruled_so, part_so, typed_either, any_answer, every_so, every_end}
use Rattle.legal_programs.specs.Closed.{IsClosedObject, IsClosedCallee, IsClosedException, IsLibraryObject, IsNoFormal, IsOfLibrary}
use Rattle.legal_programs.proofs.MainUnit.{name_is, name_same}

-- what this owner declares in this unit
pub record IsIdentityOf (o : Owner) (n : ℕ) (i : Identity) : Type 0 where
  pub number : ℕ
  pub is : i ≡ declared_in o n number

pub record IsObjectOf (o : Owner) (v : Variable) : Type 0 where
  pub number : ℕ
  pub is : v.object ≡ tree.library_object o number
  pub whole : v.parts ≡ tree.whole

pub record IsRoutineOf (o : Owner) (r : Routine) : Type 0 where
  pub number : ℕ
  pub is : r.callee ≡ tree.subprogram o number

pub record IsExceptionOf (o : Owner) (e : tree.ExceptionName) : Type 0 where
  pub number : ℕ
  pub is : e ≡ tree.declared o number

abbrev pub IsDeclaredBy : Owner → ℕ → Entity → Type 0
IsDeclaredBy o n hidden = Unit {0}
IsDeclaredBy o n (mark i t) = IsIdentityOf o n i
IsDeclaredBy o n (literal t x) = IsIdentityOf o n (identity_of t)
IsDeclaredBy o n (object v) = IsObjectOf o v
IsDeclaredBy o n (formal_object t e) = ⊥
IsDeclaredBy o n (routine r) = IsRoutineOf o r
IsDeclaredBy o n (raisable e) = IsExceptionOf o e
IsDeclaredBy o n component = Unit {0}
IsDeclaredBy o n test_io = ⊥
IsDeclaredBy o n (unit m) = ⊥

abbrev pub IsDeclaredHere : Env → Entity → Type 0
IsDeclaredHere env x = IsDeclaredBy (owner_of env) env.unit_number x

-- formals, each with its place
pub record IsFormalType (o : Owner) (n : ℕ) (i : Identity) (t : AdaSubtype) : Type 0 where
  pub identity : IsIdentityOf o n i
  pub place : ℕ
  pub integral : Bool
  pub is : t ≡ of_type (formal_type i place integral) (formal_range place)

pub record IsFormalValue (e : Static) : Type 0 where
  pub place : ℕ
  pub is : e ≡ static_formal place

pub record IsFormalRoutine (r : Routine) : Type 0 where
  pub place : ℕ
  pub is : r.callee ≡ tree.formal_subprogram place

abbrev pub IsFormalBy : Owner → ℕ → Entity → Type 0
IsFormalBy o n hidden = Unit {0}
IsFormalBy o n (mark i t) = IsFormalType o n i t
IsFormalBy o n (literal t x) = ⊥
IsFormalBy o n (object v) = ⊥
IsFormalBy o n (formal_object t e) = IsFormalValue e
IsFormalBy o n (routine r) = IsFormalRoutine r
IsFormalBy o n (raisable e) = ⊥
IsFormalBy o n component = ⊥
IsFormalBy o n test_io = ⊥
IsFormalBy o n (unit m) = ⊥

abbrev pub IsFormalHere : Env → Entity → Type 0
IsFormalHere env x = IsFormalBy (owner_of env) env.unit_number x

abbrev pub AreFormalsHere : Env → Region → Type 0
AreFormalsHere env region = Everywhere (λ e. IsFormalHere env e.1) region

-- both
abbrev pub AreHere : Env → Region → Type 0
AreHere env region = Everywhere (λ e. IsDeclaredHere env e.1 ⊎ IsFormalHere env e.1) region

-- text with these formals: what it declares, and the formals, by their names
abbrev pub IsOfTextBy : Owner → ℕ → Region → List ℕ × Entity → Type 0
IsOfTextBy o n formals e = IsDeclaredBy o n e.1 ⊎ (IsFormalBy o n e.1 × (is_some (entity_of e.0 formals) ≡ true))

abbrev pub AreOfText : Env → Region → Region → Type 0
AreOfText env formals region = Everywhere (IsOfTextBy (owner_of env) env.unit_number formals) region

-- what may be declared, whatever its name
pub record Declares (o : Owner) (n : ℕ) (P : List ℕ × Entity → Type 0) : Type 0 where
  pub nothing : (name : List ℕ) → P (name, hidden)
  pub marks : (name : List ℕ) (k : ℕ) (t : AdaSubtype) → P (name, mark (declared_in o n k) t)
  pub values : (name : List ℕ) (k m : ℕ) (x : ℤ) → P (name, literal (enumeration (declared_in o n k) m) x)
  pub objects : (name : List ℕ) (c : Constancy) (t : AdaSubtype) (known : Option Static) (k : ℕ) → P (name, object_entity (tree.library_object o k) c t known)
  pub exceptions : (name : List ℕ) (k : ℕ) → P (name, raisable (tree.declared o k))
  pub routines : (name : List ℕ) (r : Routine) (k : ℕ) → r.callee ≡ tree.subprogram o k → P (name, routine r)

pub record DeclaresFormals (o : Owner) (n : ℕ) (P : List ℕ × Entity → Type 0) : Type 0 where
  pub nothing : (name : List ℕ) → P (name, hidden)
  pub marks : (name : List ℕ) (j k : ℕ) (b : Bool) → P (name, formal_mark (declared_in o n j) k b)
  pub objects : (name : List ℕ) (t : AdaSubtype) (k : ℕ) → P (name, formal_object t (static_formal k))
  pub routines : (name : List ℕ) (k : ℕ) (q : Profile) → P (name, formal_routine k q)

at_library : {B : Type 0} (P : B → Type 0) (b : Bool) (o r : Plan B) → b ≡ true → IfPassed o.outcome P → IfPassed (if b then o else r).outcome P
at_library P true o r e h = h
at_library P false o r e h = absurd (false≢true e)

mapped_any : {A B : Type 0} (P : B → Type 0) (x : Option A) (y : B) → P y → IfSome (option_map (λ u. y) x) P
mapped_any P None y h = tt
mapped_any P (Some u) y h = h

any_some : {X : Type 0} (o : Option X) → IfSome o (λ n. Unit {0})
any_some None = tt
any_some (Some n) = tt

-- regions of such entities
module _ (P : List ℕ × Entity → Type 0) where
  abbrev Are : Region → Type 0
  Are region = Everywhere P region

  abbrev AllOf : Entity → Type 0
  AllOf x = (name : List ℕ) → P (name, x)

  hidden_are : AllOf hidden → (region : Region) (i : Identifier) → Are region → IfOk (hide region i).answer Are
  hidden_are none region i all =
      answered Are i.pos (rule (with_name region i hidden)).outcome
      (ruled_so Are (with_name region i hidden)
      (if_test Are (is_new region i) (Some (region ++ (key i, hidden) ∷ [])) (λ b. every_end P region (key i, hidden) all (none (key i)))))

  all_hidden_are : AllOf hidden → (q : Pos) (region : Region) (is : List Identifier) → Are region → IfOk (hide_all q region is).answer Are
  all_hidden_are none q region [] all = all
  all_hidden_are none q region (i ∷ is) all =
      answered Are q _
      (part_so Are Are (hide region i).answer (λ r. hide_all q r is >>= (λ rs. rule (Some rs))) (hidden_are none region i all)
      (λ r h. part_so Are Are (hide_all q r is).answer (λ rs. rule (Some rs)) (all_hidden_are none q r is h) (λ rs k. k)))

  redefined_if : (b : Bool) (e : List ℕ × Entity) (x : Entity) (es more : Region) → AllOf x → Are (e ∷ es) → Are more → Are (if b then (e.0, x) ∷ es else e ∷ more)
  redefined_if true e x es more h all rest = (h e.0, all.1)
  redefined_if false e x es more h all rest = (all.0, rest)

  redefined_are : (name : List ℕ) (x : Entity) (region : Region) → AllOf x → Are region → Are (redefined name x region)
  redefined_are name x [] h all = tt
  redefined_are name x (e ∷ es) h all =
      redefined_if (same_name name e.0) e x es (redefined name x es) h all (redefined_are name x es h all.1)

  literals_are : (t : AdaType) → ((x : ℤ) → AllOf (literal t x)) → (n : ℕ) (region : Region) (is : List Identifier) → Are region → Are (literals t n region is)
  literals_are t h n region [] all = all
  literals_are t h n region (i ∷ is) all = literals_are t h (n + 1) _ is (redefined_are (key i) (literal t (pos n)) region (h (pos n)) all)

  abbrev DefinedAre : Given Defined → Type 0
  DefinedAre x = Are x.value.region

  defined_are : AllOf hidden → (env : Env) (s : State) (q : Pos) (i : Identity) (d : TypeDefinition) → ((m : ℕ) (x : ℤ) → AllOf (literal (enumeration i m) x)) → Are env.local
      → IfOk (defined env s q i d).answer DefinedAre
  defined_are none env s q i (definition.Integer b) h all =
      answered DefinedAre q _
      (part_so (λ r. Unit {0}) DefinedAre (bounded env s is_integral base b).answer
      (λ r. rule (Some (unchanged env.local (of_type (integer_type i) r.value) r.next))) (any_answer (bounded env s is_integral base b).answer) (λ r u. all))
  defined_are none env s q i (definition.Enumeration names) h all =
      answered DefinedAre q _
      (part_so Are DefinedAre (hide_all q env.local names).answer (λ region. rule (Some (given (enumerated i region names) s)))
      (all_hidden_are none q env.local names all) (λ region k. literals_are (enumeration i (length names)) (h (length names)) 0 region names k))
  defined_are none env s q i (definition.Array r c) h all =
      answered DefinedAre q _
      (part_so (λ x. Unit {0}) DefinedAre (index_of env s r).answer
      (λ x. indicated env x.next c >>= (λ t. rule (Some (unchanged env.local (of_type (array_type i x.value t.value) base) t.next))))
      (any_answer (index_of env s r).answer)
      (λ x u. part_so (λ t. Unit {0}) DefinedAre (indicated env x.next c).answer
      (λ t. rule (Some (unchanged env.local (of_type (array_type i x.value t.value) base) t.next))) (any_answer (indicated env x.next c).answer) (λ t v. all)))
  defined_are none env s q i (definition.Record cs) h all =
      answered DefinedAre q _
      (part_so (λ x. Unit {0}) DefinedAre (fields_of (opened env) s q cs).answer
      (λ fs. rule (Some (unchanged env.local (of_type (record_type i fs.value) base) fs.next))) (any_answer (fields_of (opened env) s q cs).answer) (λ fs u. all))

  abbrev RegionAre : Declared → Type 0
  RegionAre x = Are x.region

  abbrev ValueAre : Given Region → Type 0
  ValueAre g = Are g.value

  module _ (env : Env) (may : Declares (owner_of env) env.unit_number P) where
    library_are : (c : Constancy) (t : AdaSubtype) (k : Option Static) (n : ℕ) (region : Region) (is : List Identifier) → Are region
        → Are (library_entities env c t k n region is)
    library_are c t k n region [] all = all
    library_are c t k n region (i ∷ is) all =
        library_are c t k (n + 1) _ is
        (redefined_are (key i) (object_entity (tree.library_object (owner_of env) n) c t k) region (λ name. may.objects name c t k n) all)

    exceptions_are : (s : State) (region : Region) (is : List Identifier) → Are region → RegionAre (exceptions_from env s region is)
    exceptions_are s region [] all = all
    exceptions_are s region (i ∷ is) all =
        exceptions_are (exception_declared env i s) _ is
        (redefined_are (key i) (raisable (tree.declared (owner_of env) s.exceptions)) region (λ name. may.exceptions name s.exceptions) all)

    routine_are : (region : Region) (i : Identifier) (awaits : Bool) (q : Profile) → Are region
        → Are (redefined (key i) (routine (routine_of env (key i) awaits q)) region)
    routine_are region i awaits q all =
        redefined_are (key i) (routine (routine_of env (key i) awaits q)) region (λ name. may.routines name (routine_of env (key i) awaits q) _ refl) all

    module _ (library : env.is_library ≡ true) where
      objects_are : (q : Pos) (c : Constancy) (region : Region) (is : List Identifier) (t : Given AdaSubtype) (i : Option Initial) → Are region
          → IfPassed (objects_declared env q c region is t i).outcome RegionAre
      objects_are q c region is t None all =
          let made = library_are c t.value _ _ region is all in
          at_library RegionAre env.is_library
          (typed_rule env.step (library_declared env c region is t.value no_library_value t.next)
          (option_map (λ u. library_declared env c region is t.value no_library_value t.next) (may_be_bare c)))
          (typed_rule env.step (local_bare c region is t) (option_map (λ u. local_bare c region is t) (may_be_bare c))) library
          (typed_either RegionAre env.step _ _ made (mapped_any RegionAre (may_be_bare c) _ made))
      objects_are q c region is t (Some i) all =
          at_library RegionAre env.is_library
          (library_value (with_local env region) t.next q t.value i >>= (λ v. typed_rule env.step (library_declared env c region is t.value v.value v.next)
          (option_map (λ u. library_declared env c region is t.value v.value v.next) (one_name is))))
          (new_value (with_local env region) t.next q t.value i >>= (λ v. typed_rule env.step (local_set env q c region is t.value v)
          (option_map (λ u. local_set env q c region is t.value v) (one_name is)))) library
          (part_so (λ v. Unit {0}) RegionAre (library_value (with_local env region) t.next q t.value i).answer
          (λ v. typed_rule env.step (library_declared env c region is t.value v.value v.next)
          (option_map (λ u. library_declared env c region is t.value v.value v.next) (one_name is)))
          (any_answer (library_value (with_local env region) t.next q t.value i).answer)
          (λ v u. let made = library_are c t.value _ _ region is all in
          typed_either RegionAre env.step _ _ made (mapped_any RegionAre (one_name is) _ made)))

      kind_are : (s : State) (q : Pos) (d : DeclarationKind) → Are env.local → IfPassed (kind_declared env s q d).outcome RegionAre
      kind_are s q (declares.Type i d) all =
          part_so Are RegionAre (hide env.local i).answer
          (λ region. defined (with_local env region) (one_type_more s) q (new_identity env s) d >>= (λ x. rule (Some (type_declared env q i (new_identity env s) x))))
          (hidden_are may.nothing env.local i all)
          (λ region h. part_so DefinedAre RegionAre (defined (with_local env region) (one_type_more s) q (new_identity env s) d).answer
          (λ x. rule (Some (type_declared env q i (new_identity env s) x)))
          (defined_are may.nothing (with_local env region) (one_type_more s) q (new_identity env s) d (λ m x name. may.values name s.types m x) h)
          (λ x k. redefined_are (key i) (mark (new_identity env s) x.value.subtype) x.value.region (λ name. may.marks name s.types x.value.subtype) k))
      kind_are s q (declares.Subtype i t) all =
          part_so Are RegionAre (hide env.local i).answer
          (λ region. indicated (with_local env region) (one_type_more s) t >>= (λ x. rule (Some (subtype_declared i region (new_identity env s) x))))
          (hidden_are may.nothing env.local i all)
          (λ region h. part_so (λ x. Unit {0}) RegionAre (indicated (with_local env region) (one_type_more s) t).answer
          (λ x. rule (Some (subtype_declared i region (new_identity env s) x))) (any_answer (indicated (with_local env region) (one_type_more s) t).answer)
          (λ x u. redefined_are (key i) (mark (new_identity env s) x.value) region (λ name. may.marks name s.types x.value) h))
      kind_are s q (declares.Object is c t i) all =
          part_so Are RegionAre (hide_all q env.local is).answer
          (λ region. indicated (with_local env region) s t >>= (λ x. objects_declared env q c region is x i)) (all_hidden_are may.nothing q env.local is all)
          (λ region h. part_so (λ x. Unit {0}) RegionAre (indicated (with_local env region) s t).answer (λ x. objects_declared env q c region is x i)
          (any_answer (indicated (with_local env region) s t).answer) (λ x u. objects_are q c region is x i h))
      kind_are s q (declares.Exception is) all =
          part_so Are RegionAre (hide_all q env.local is).answer (λ region. rule (Some (exceptions_from env s region is)))
          (all_hidden_are may.nothing q env.local is all) (λ region h. exceptions_are s region is h)
      kind_are s q (declares.Pragma a) all = all

      declared_are : (s : State) (d : Declaration) → Are env.local → IfOk (declared env s d).answer RegionAre
      declared_are s d all = answered RegionAre d.pos (kind_declared env s d.pos d.kind).outcome (kind_are s d.pos d.kind all)

    subprogram_are : (s : State) (x : Specification) → Are env.local → IfOk (subprogram_declared env s x).answer ValueAre
    subprogram_are s x all =
        answered ValueAre x.pos _
        (part_so Are ValueAre (hide env.local x.name).answer
        (λ region. specified (with_local env region) s x
        >>= (λ q. rule (option_map (λ n. given (redefined (key x.name) (routine (routine_of env (key x.name) true q.value)) region) (declared_only s q.next))
        (body_number env.world env.unit_name (key x.name)))))
        (hidden_are may.nothing env.local x.name all)
        (λ region h. part_so (λ q. Unit {0}) ValueAre (specified (with_local env region) s x).answer
        (λ q. rule (option_map (λ n. given (redefined (key x.name) (routine (routine_of env (key x.name) true q.value)) region) (declared_only s q.next))
        (body_number env.world env.unit_name (key x.name))))
        (any_answer (specified (with_local env region) s x).answer)
        (λ q u. ruled_so ValueAre _
        (if_map (λ n. Unit {0}) ValueAre (λ n. given (redefined (key x.name) (routine (routine_of env (key x.name) true q.value)) region) (declared_only s q.next))
        (body_number env.world env.unit_name (key x.name)) (any_some (body_number env.world env.unit_name (key x.name)))
        (λ n v. routine_are region x.name true q.value h)))))

  -- items of packages
  item_are : (env : Env) → Declares (owner_of env) env.unit_number P → env.is_library ≡ true → (s : State) (i : PackageItem) → Are env.local
      → IfPassed (package_item env s i).outcome ValueAre
  item_are env may library s (part.Declaration d) all =
      part_so RegionAre ValueAre (declared env s d).answer (λ x. rule (Some (given x.region x.next))) (declared_are env may library s d all) (λ x h. h)
  item_are env may library s (part.Subprogram x) all =
      part_so ValueAre ValueAre (subprogram_declared env s x).answer (λ r. rule (Some r)) (subprogram_are env may s x all) (λ r h. h)

  pub items_are : (env : Env) → Declares (owner_of env) env.unit_number P → env.is_library ≡ true → (s : State) (p : Pos) (items : List PackageItem) → Are env.local
      → IfOk (package_items env s p items).answer ValueAre
  items_are env may library s p [] all = all
  items_are env may library s p (i ∷ items) all =
      answered ValueAre p _
      (part_so ValueAre ValueAre _ (λ r. package_items (with_local env r.value) r.next p items >>= (λ rest. rule (Some rest)))
      (answered ValueAre p (package_item env s i).outcome (item_are env may library s i all))
      (λ r h. part_so ValueAre ValueAre (package_items (with_local env r.value) r.next p items).answer (λ rest. rule (Some rest))
      (items_are (with_local env r.value) may library r.next p items h) (λ rest k. k)))

  -- formals
  formal_type_are : (env : Env) → DeclaresFormals (owner_of env) env.unit_number P → (s : State) (i : Identifier) (k : ℕ) (integral : Bool) → Are env.local
      → IfPassed (formal_type_declared env s i k integral).outcome ValueAre
  formal_type_are env may s i k integral all =
      part_so Are ValueAre (hide env.local i).answer
      (λ region. rule (Some (given (redefined (key i) (formal_mark (new_identity env s) k integral) region) (one_type_more s))))
      (hidden_are may.nothing env.local i all)
      (λ region h. redefined_are (key i) (formal_mark (new_identity env s) k integral) region (λ name. may.marks name s.types k integral) h)

  formal_are : (env : Env) → DeclaresFormals (owner_of env) env.unit_number P → (s : State) (k : ℕ) (f : FormalKind) → Are env.local
      → IfPassed (formal_declared env s k f).outcome ValueAre
  formal_are env may s k (formal.DiscreteType i) all = formal_type_are env may s i k false all
  formal_are env may s k (formal.IntegerType i) all = formal_type_are env may s i k true all
  formal_are env may s k (formal.Object i m n) all =
      part_so Are ValueAre (hide env.local i).answer
      (λ region. scalar_mark (with_local env region) s n
      >>= (λ t. rule (Some (given (redefined (key i) (formal_object t.value.subtype (static_formal k)) region) t.next))))
      (hidden_are may.nothing env.local i all)
      (λ region h. part_so (λ t. Unit {0}) ValueAre (scalar_mark (with_local env region) s n).answer
      (λ t. rule (Some (given (redefined (key i) (formal_object t.value.subtype (static_formal k)) region) t.next)))
      (any_answer (scalar_mark (with_local env region) s n).answer)
      (λ t u. redefined_are (key i) (formal_object t.value.subtype (static_formal k)) region (λ name. may.objects name t.value.subtype k) h))
  formal_are env may s k (formal.Subprogram x) all =
      part_so Are ValueAre (hide env.local x.name).answer
      (λ region. specified (with_local env region) s x
      >>= (λ q. rule (Some (given (redefined (key x.name) (formal_routine k q.value) region) (declared_only s q.next)))))
      (hidden_are may.nothing env.local x.name all)
      (λ region h. part_so (λ q. Unit {0}) ValueAre (specified (with_local env region) s x).answer
      (λ q. rule (Some (given (redefined (key x.name) (formal_routine k q.value) region) (declared_only s q.next))))
      (any_answer (specified (with_local env region) s x).answer)
      (λ q u. redefined_are (key x.name) (formal_routine k q.value) region (λ name. may.routines name k q.value) h))

  pub formals_are : (env : Env) → DeclaresFormals (owner_of env) env.unit_number P → (s : State) (p : Pos) (k : ℕ) (fs : List Formal) → Are env.local
      → IfOk (formals_declared env s p k fs).answer ValueAre
  formals_are env may s p k [] all = all
  formals_are env may s p k (f ∷ fs) all =
      answered ValueAre p _
      (part_so ValueAre ValueAre _ (λ r. formals_declared (with_local env r.value) r.next p (k + 1) fs >>= (λ rest. rule (Some rest)))
      (answered ValueAre f.pos (formal_declared env s k f.kind).outcome (formal_are env may s k f.kind all))
      (λ r h. part_so ValueAre ValueAre (formals_declared (with_local env r.value) r.next p (k + 1) fs).answer (λ rest. rule (Some rest))
      (formals_are (with_local env r.value) may r.next p (k + 1) fs h) (λ rest l. l)))

here_in_text : (o : Owner) (n : ℕ) (formals : Region) → Declares o n (IsOfTextBy o n formals)
here_in_text o n formals = record {
  nothing = λ name. inl tt;
  marks = λ name k t. inl (record { number = k; is = refl });
  values = λ name k m x. inl (record { number = k; is = refl });
  objects = λ name c t known k. inl (record { number = k; is = refl; whole = refl });
  exceptions = λ name k. inl (record { number = k; is = refl });
  routines = λ name r k e. inl (record { number = k; is = e });
}

formals_here : (o : Owner) (n : ℕ) → DeclaresFormals o n (λ e. IsFormalBy o n e.1)
formals_here o n = record {
  nothing = λ name. tt;
  marks = λ name j k b. record { identity = record { number = j; is = refl }; place = k; integral = b; is = refl };
  objects = λ name t k. record { place = k; is = refl };
  routines = λ name k q. record { place = k; is = refl };
}

pub formals_declare : (env : Env) (s : State) (p : Pos) (k : ℕ) (fs : List Formal) → AreFormalsHere env env.local
    → IfOk (formals_declared env s p k fs).answer (λ g. AreFormalsHere env g.value)
formals_declare env s p k fs all = formals_are (λ e. IsFormalHere env e.1) env (formals_here (owner_of env) env.unit_number) s p k fs all

pub items_of_text : (env : Env) (formals : Region) → env.is_library ≡ true → (s : State) (p : Pos) (items : List PackageItem) → AreOfText env formals env.local
    → IfOk (package_items env s p items).answer (λ g. AreOfText env formals g.value)
items_of_text env formals library s p items all =
    items_are (IsOfTextBy (owner_of env) env.unit_number formals) env (here_in_text (owner_of env) env.unit_number formals) library s p items all

-- formals are of the text with them
name_there : (e : List ℕ × Entity) (es : Region) → is_some (entity_of e.0 (e ∷ es)) ≡ true
name_there e es = ap (λ b. is_some (if b then Some e.1 else entity_of e.0 es)) (name_same e.0)

behind_there : (name : List ℕ) (e : List ℕ × Entity) (es : Region) → is_some (entity_of name es) ≡ true → is_some (entity_of name (e ∷ es)) ≡ true
behind_there name e es h = by_test (same_name name e.0)
  where
    by_test : (b : Bool) → is_some (if b then Some e.1 else entity_of name es) ≡ true
    by_test true = refl
    by_test false = h

with_names : (o : Owner) (n : ℕ) (region : Region) → Everywhere (λ e. IsFormalBy o n e.1) region
    → Everywhere (λ e. IsFormalBy o n e.1 × (is_some (entity_of e.0 region) ≡ true)) region
with_names o n [] h = tt
with_names o n (e ∷ es) h = (
  (h.0, name_there e es),
  every_so (λ f. IsFormalBy o n f.1 × (is_some (entity_of f.0 es) ≡ true)) (λ f. IsFormalBy o n f.1 × (is_some (entity_of f.0 (e ∷ es)) ≡ true)) es
      (λ f k. (k.0, behind_there f.0 e es k.1)) (with_names o n es h.1),
)

pub formals_in_text : (env : Env) (formals : Region) → AreFormalsHere env formals → AreOfText env formals formals
formals_in_text env formals h =
    every_so (λ e. IsFormalHere env e.1 × (is_some (entity_of e.0 formals) ≡ true)) (IsOfTextBy (owner_of env) env.unit_number formals) formals (λ e k. inr k)
    (with_names (owner_of env) env.unit_number formals h)

-- what an instance shows of its generic is declared by it, and is no formal
module _ (o : Owner) (n : ℕ) (formals : Region) (name : List ℕ) where
  abbrev IsFound : Entity → Type 0
  IsFound x = IsDeclaredBy o n x ⊎ (is_some (entity_of name formals) ≡ true)

  found_in : (region : Region) → Everywhere (IsOfTextBy o n formals) region → IfSome (entity_of name region) IsFound
  found_in [] h = tt
  found_in (e ∷ es) h = by_test (same_name name e.0) refl (found_in es h.1)
    where
      one_found : name ≡ e.0 → IsOfTextBy o n formals e → IsFound e.1
      one_found same (inl k) = inl k
      one_found same (inr k) = inr (ap (λ m. is_some (entity_of m formals)) same ∙ k.1)

      by_test : (b : Bool) → same_name name e.0 ≡ b → IfSome (entity_of name es) IsFound → IfSome (if b then Some e.1 else entity_of name es) IsFound
      by_test true same rest = one_found (name_is name e.0 same) h.0
      by_test false same rest = rest

  shown_found : (x : Option Entity) → IfSome x IsFound → IfSome (shown x) IsFound
  shown_found None h = tt
  shown_found (Some hidden) h = tt
  shown_found (Some x) h = h

  unless_found : (x : Option Entity) → IfSome x IsFound → IfSome (unless_formal formals name x) (IsDeclaredBy o n)
  unless_found x h = by_test (is_some (entity_of name formals)) refl x h
    where
      declared_one : (y : Entity) → is_some (entity_of name formals) ≡ false → IsFound y → IsDeclaredBy o n y
      declared_one y none (inl k) = k
      declared_one y none (inr k) = absurd (false≢true (sym none ∙ k))

      by_test : (b : Bool) → is_some (entity_of name formals) ≡ b → (y : Option Entity) → IfSome y IsFound → IfSome (if b then None else y) (IsDeclaredBy o n)
      by_test true same y k = tt
      by_test false same None k = tt
      by_test false same (Some y) k = declared_one y same k

  pub part_declared : (region : Region) → Everywhere (IsOfTextBy o n formals) region
      → IfSome (unless_formal formals name (shown (entity_of name region))) (IsDeclaredBy o n)
  part_declared region h = unless_found (shown (entity_of name region)) (shown_found (entity_of name region) (found_in region h))

-- what is declared is no object of a subprogram and no formal subprogram; what belongs to an instance hangs on no other one
pub declared_of_library : (o : Owner) (n : ℕ) (x : Entity) → IsDeclaredBy o n x → IsOfLibrary x
declared_of_library o n hidden h = tt
declared_of_library o n (mark i t) h = tt
declared_of_library o n (literal t x) h = tt
declared_of_library o n (object v) h = subst IsLibraryObject (sym h.is) tt
declared_of_library o n (formal_object t e) h = tt
declared_of_library o n (routine r) h = subst IsNoFormal (sym h.is) tt
declared_of_library o n (raisable e) h = tt
declared_of_library o n component h = tt
declared_of_library o n test_io h = tt
declared_of_library o n (unit m) h = tt

abbrev pub IsOwnedEntity : Entity → Type 0
IsOwnedEntity (object v) = IsClosedObject v.object
IsOwnedEntity (routine r) = IsClosedCallee r.callee
IsOwnedEntity (raisable e) = IsClosedException e
IsOwnedEntity x = Unit {0}

pub declared_owned : (i n : ℕ) (x : Entity) → IsDeclaredBy (of_instance i) n x → IsOwnedEntity x
declared_owned i n hidden h = tt
declared_owned i n (mark j t) h = tt
declared_owned i n (literal t x) h = tt
declared_owned i n (object v) h = subst IsClosedObject (sym h.is) tt
declared_owned i n (formal_object t e) h = tt
declared_owned i n (routine r) h = subst IsClosedCallee (sym h.is) tt
declared_owned i n (raisable e) h = subst IsClosedException (sym h.is) tt
declared_owned i n component h = tt
declared_owned i n test_io h = tt
declared_owned i n (unit m) h = tt

pub owner_outside : (env : Env) → env.generic ≡ None → owner_of env ≡ of_instance 0
owner_outside env none = ap (λ g. if is_some g then here else of_instance 0) none
