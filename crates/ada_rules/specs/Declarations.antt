-- The cases of declarations of types, subtypes, objects and exceptions (Ada RM 2012, 3.2.2 to 3.8, 11.1), and of what
-- objects are set to.
use Rattle.std.specs.Prelude.{ℕ, ℤ, nat_eq, ◌+◌, pos, ◌-ℤ◌, Bool, true, false, not, List, [], ◌∷◌, ◌++◌, codes, length, Option, Some, None, option_map, unwrap_or, if◌then◌else◌}
use Rattle.cov_base.specs.declared.position.Pos.{Pos}
use Rattle.ada_syntax.specs.Tree.{expr_pos, name_pos}
use Rattle.ada_syntax.specs.declared.declaration.Bounds.{Bounds}
use Rattle.ada_syntax.specs.declared.declaration.Component.{Component}
use Rattle.ada_syntax.specs.declared.declaration.Constancy.{Constancy}
use Rattle.ada_syntax.specs.declared.declaration.Constancy.TheVariants as constancy
use Rattle.ada_syntax.specs.declared.declaration.Declaration.{Declaration}
use Rattle.ada_syntax.specs.declared.declaration.DeclarationKind.{DeclarationKind}
use Rattle.ada_syntax.specs.declared.declaration.DeclarationKind.TheVariants as declares
use Rattle.ada_syntax.specs.declared.declaration.DiscreteRange.{DiscreteRange}
use Rattle.ada_syntax.specs.declared.declaration.DiscreteRange.TheVariants as discrete
use Rattle.ada_syntax.specs.declared.declaration.Initial.{Initial}
use Rattle.ada_syntax.specs.declared.declaration.SubtypeIndication.{SubtypeIndication}
use Rattle.ada_syntax.specs.declared.declaration.TypeDefinition.{TypeDefinition}
use Rattle.ada_syntax.specs.declared.declaration.TypeDefinition.TheVariants as definition
use Rattle.ada_syntax.specs.declared.name.Identifier.{Identifier}
use Rattle.ada_meaning.specs.Program as program
use Rattle.ada_meaning.specs.Tree as tree
use Rattle.ada_meaning.specs.Statics.{within as among}
use Rattle.ada_meaning.specs.Types.{division, Static, static_number, static_operation, Range, between, Subtype}
use Rattle.ada_rules.specs.Plan.{Plan, Judgement, ◌>>=◌, rule, construct}
use Rattle.ada_rules.specs.Types.{Identity, AdaType, integer_type, enumeration, array_type, record_type, AdaSubtype, of_type, Fields, no_field, and_field, type_in, range_in, base, numbers, integer_subtype, is_scalar, Kind, is_integral, is_discrete, fits, common, settled, subtype_in_tree}
use Rattle.ada_rules.specs.Statics.{within, Test, lies_in, in_order, value_in, bounds_in}
use Rattle.ada_rules.specs.Entities.{key, Entity, mark, literal, object, raisable, component, Region, redefined}
use Rattle.ada_rules.specs.Environment.{typed_rule, State, Words, Given, given, map_given, Env, with_local, opened, owner_of, new_identity, one_type_more, demanded, hide, hide_all, statement_label, started}
use Rattle.ada_rules.specs.Denoted.{Judged, expr_of}
use Rattle.ada_rules.specs.Expressions.{itself, judged, Valued, value_named, entered_constant, static_part, Marked, mark_part, scalar_mark}

abbrev pub in_range : Range → Static → Test
in_range r e = lies_in (record { value = e; range = r })

-- two static bounds, the low one not above the high one; the range begins where its low bound does
abbrev pub ordered : Env → Pos → Static → Static → State → Given Range
ordered env p low high s = given (between low high) (demanded env p (in_order low high) s)

abbrev pub bounded : Env → State → (Kind → Bool) → Range → Bounds → Judgement (Given Range)
bounded env s accepts r b = construct (expr_pos b.low) (do
  low ← static_part env s accepts (in_range r) b.low
  high ← static_part env low.next accepts (in_range r) b.high
  rule (Some (ordered env (expr_pos b.low) low.value.value high.value.value high.next)))

-- a subtype indication; a constraint makes a subtype of a scalar one (RM 3.2.2)
abbrev pub constrained : Marked → Given Range → Option (Given AdaSubtype)
constrained m r =
    if is_scalar (type_in m.subtype) then Some (given (of_type (type_in m.subtype) r.value) r.next) else None

abbrev pub constraint_of : Env → Given Marked → Option Bounds → Plan (Given AdaSubtype)
constraint_of env m None = rule (Some (given m.value.subtype m.next))
constraint_of env m (Some b) = do
  r ← bounded env m.next (fits (type_in m.value.subtype)) (range_in m.value.subtype) b
  typed_rule env.step (given m.value.subtype r.next) (constrained m.value r)

abbrev pub indicated : Env → State → SubtypeIndication → Judgement (Given AdaSubtype)
indicated env s i = construct (name_pos i.mark) (do
  m ← mark_part env s i.mark
  constraint_of env m i.constraint)

-- the range of an index: a scalar subtype, or two static bounds of one discrete type (RM 3.6.1)
abbrev pub index_between : Env → Pos → Given Valued → Given Valued → Kind → Given AdaSubtype
index_between env p low high k =
    given (of_type (settled k) (between low.value.value high.value.value)) (demanded env p (in_order low.value.value high.value.value) high.next)

abbrev pub index_of : Env → State → DiscreteRange → Judgement (Given AdaSubtype)
index_of env s (discrete.Mark n) = construct (name_pos n) (do
  m ← scalar_mark env s n
  rule (Some (given m.value.subtype m.next)))
index_of env s (discrete.Bounds b) = construct (expr_pos b.low) (do
  low ← static_part env s is_discrete (in_range base) b.low
  high ← static_part env low.next is_discrete (in_range base) b.high
  typed_rule env.step (given integer_subtype high.next)
      (option_map (index_between env (expr_pos b.low) low high) (common low.value.kind high.value.kind)))

-- the components of a record, each of which hides its names in a region of their own (RM 3.8)
abbrev pub with_fields : List Identifier → AdaSubtype → Fields → Fields
with_fields [] t fs = fs
with_fields (i ∷ is) t fs = and_field (key i) t (with_fields is t fs)

abbrev pub all_as : Entity → Region → List Identifier → Region
all_as x region [] = region
all_as x region (i ∷ is) = all_as x (redefined (key i) x region) is

abbrev pub fields_of : Env → State → Pos → List Component → Judgement (Given Fields)
fields_of env s p [] = construct p (rule (Some (given no_field s)))
fields_of env s p (c ∷ cs) = construct p (do
  names ← hide_all p env.local c.names
  t ← indicated (with_local env names) s c.indication
  fs ← fields_of (with_local env (all_as component names c.names)) t.next p cs
  rule (Some (given (with_fields c.names t.value fs.value) fs.next)))

-- what a type declaration declares: its subtype, and of an enumeration the literals
pub record Defined : Type 0 where
  pub subtype : AdaSubtype
  pub region : Region

abbrev pub literals : AdaType → ℕ → Region → List Identifier → Region
literals t n region [] = region
literals t n region (i ∷ is) = literals t (n + 1) (redefined (key i) (literal t (pos n)) region) is

abbrev pub enumerated : Identity → Region → List Identifier → Defined
enumerated i region names = record {
  subtype = of_type (enumeration i (length names)) (numbers (pos 0) (pos (length names) -ℤ pos 1));
  region = literals (enumeration i (length names)) 0 region names;
}

abbrev pub unchanged : Region → AdaSubtype → State → Given Defined
unchanged region t s = given (record { subtype = t; region = region }) s

-- a type definition at this place, in a region where its name is hidden (RM 3.5.1, 3.5.4, 3.6, 3.8)
abbrev pub defined : Env → State → Pos → Identity → TypeDefinition → Judgement (Given Defined)
defined env s p i (definition.Integer b) = construct p (do
  r ← bounded env s is_integral base b
  rule (Some (unchanged env.local (of_type (integer_type i) r.value) r.next)))
defined env s p i (definition.Enumeration names) = construct p (do
  region ← hide_all p env.local names
  rule (Some (given (enumerated i region names) s)))
defined env s p i (definition.Array r c) = construct p (do
  x ← index_of env s r
  t ← indicated env x.next c
  rule (Some (unchanged env.local (of_type (array_type i x.value t.value) base) t.next)))
defined env s p i (definition.Record cs) = construct p (do
  fs ← fields_of (opened env) s p cs
  rule (Some (unchanged env.local (of_type (record_type i fs.value) base) fs.next)))

-- What an object is set to (RM 3.3.1, 5.2): an expression of its type, or of an array's components within `others`.
abbrev pub value_for : AdaSubtype → List Pos → Judged → Option tree.NewValue
value_for (of_type (array_type i x c) r) (p ∷ ps) e = option_map (tree.others_value (range_in x)) (value_for c ps e)
value_for t (p ∷ ps) e = None
value_for t [] e =
    if not (fits (type_in t) e.kind) then None
    else if is_scalar (type_in t) then Some (tree.scalar_value (range_in t) (expr_of e))
    else option_map (λ v. tree.composite_value (subtype_in_tree t) v.object v.parts) e.variable

abbrev pub any_value : tree.NewValue
any_value = tree.scalar_value base (tree.literal (pos 0))

-- with the static value of the expression, where it stands in no `others`
pub record NewValue : Type 0 where
  pub value : tree.NewValue
  pub known : Option Static

abbrev pub known_of : List Pos → Judged → Option Static
known_of [] x = x.known
known_of (p ∷ ps) x = None

-- That a value is of its object's type is asked of the statement or declaration, which begins at this place, or within
-- `others` of the innermost `others` that stands for the components of an array.
abbrev pub value_place : Pos → AdaSubtype → List Pos → Pos
value_place p (of_type (array_type i x c) r) (q ∷ qs) = value_place q c qs
value_place p t qs = p

-- in the statement or declaration that begins at this place
abbrev pub new_value : Env → State → Pos → AdaSubtype → Initial → Judgement (Given NewValue)
new_value env s p t i = construct (value_place p t i.others) (do
  x ← judged env itself s i.value
  typed_rule env.step (given (record { value = any_value; known = None }) x.next)
      (option_map (λ v. given (record { value = v; known = known_of i.others x.value }) x.next) (value_for t i.others x.value)))

-- the initial value of an object of the library level, which is static (this language's profile)
abbrev pub innermost : AdaSubtype → List Pos → AdaSubtype
innermost (of_type (array_type i x c) r) (p ∷ ps) = innermost c ps
innermost t ps = t

abbrev pub initial_for : AdaSubtype → List Pos → Valued → Option program.Initial
initial_for (of_type (array_type i x c) r) (p ∷ ps) e = option_map program.others_initial (initial_for c ps e)
initial_for t (p ∷ ps) e = None
initial_for t [] e = if fits (type_in t) e.kind then Some (program.static_initial e.value) else None

pub record LibraryValue : Type 0 where
  pub initial : program.Initial
  pub known : Option Static

abbrev pub known_value : List Pos → Valued → Option Static
known_value [] v = Some v.value
known_value (p ∷ ps) v = None

abbrev pub library_value : Env → State → Pos → AdaSubtype → Initial → Judgement (Given LibraryValue)
library_value env s p t i = construct (value_place p t i.others) (do
  x ← static_part env s (λ k. true) (in_range (range_in (innermost t i.others))) i.value
  typed_rule env.step (given (record { initial = program.no_initial; known = None }) x.next)
      (option_map (λ v. given (record { initial = v; known = known_value i.others x.value }) x.next) (initial_for t i.others x.value)))

-- a declaration's result: the region behind it, the state, and of a subprogram or block the declarations of the typed
-- program
pub record Declared : Type 0 where
  pub region : Region
  pub next : State
  pub made : List tree.Declaration

abbrev pub is_variable : Constancy → Bool
is_variable constancy.Variable = true
is_variable constancy.Constant = false

-- a constant has a value, and one name (RM 3.3.1); a list of names has none (this language's profile)
abbrev pub may_be_bare : Constancy → Option Unit
may_be_bare constancy.Variable = Some tt
may_be_bare constancy.Constant = None

abbrev pub one_name : List Identifier → Option Unit
one_name is = if nat_eq (length is) 1 then Some tt else None

-- What is known of the value of a constant with a static initial expression. In the text of a generic it is one of the
-- generic's constants, known by its number.
abbrev pub numbered : Option ℕ → Range → Static → Option Static → State → Given (Option Static)
numbered None r e elsewhere s = given elsewhere s
numbered (Some g) r e elsewhere s =
    let x = value_named g e s in
    map_given (λ v. Some v) (entered_constant g r x.value x.next)

abbrev pub known_constant : Env → Constancy → AdaSubtype → (Static → Option Static) → Option Static → State
    → Given (Option Static)
known_constant env constancy.Constant t elsewhere (Some e) s = numbered env.generic (range_in t) e (elsewhere e) s
known_constant env c t elsewhere k s = given None s

-- One of a subprogram in no generic has no static value where its initial value does not lie in its subtype; then it
-- stands as an expression that has none, so that a static use of it is refused.
abbrev pub without_value : Static
without_value = static_operation division (static_number (pos 0)) (static_number (pos 0))

abbrev pub lying_in : Env → AdaSubtype → Static → Option Static
lying_in env t e = Some (unwrap_or (option_map static_number known) without_value) where
  known : Option ℤ
  known = among (value_in env.world.instances 0 e) (bounds_in env.world.instances 0 (range_in t))

abbrev pub object_entity : tree.Object → Constancy → AdaSubtype → Option Static → Entity
object_entity o c t k = object (record {
  object = o;
  parts = tree.whole;
  subtype = t;
  is_writable = is_variable c;
  is_indexed = false;
  known = k;
  values = within (range_in t);
})

-- objects of a subprogram, in order, with the words that they have
abbrev pub word_of : AdaSubtype → Identifier → Words
word_of t i = record { place = i.pos; subtype = subtype_in_tree t }

abbrev pub local_objects : Constancy → AdaSubtype → Option Static → ℕ → Region → List Identifier → Region
local_objects c t k n region [] = region
local_objects c t k n region (i ∷ is) =
    local_objects c t k (n + 1) (redefined (key i) (object_entity (tree.local_object n) c t k) region) is

abbrev pub counted : AdaSubtype → List Identifier → List Words → List Words
counted t [] ws = ws
counted t (i ∷ is) ws = counted t is (word_of t i ∷ ws)

abbrev pub with_objects : AdaSubtype → List Identifier → State → State
with_objects t is s = record s { objects = s.objects + length is; words = counted t is s.words }

abbrev pub bare_declarations : AdaSubtype → ℕ → List Identifier → List tree.Declaration
bare_declarations t n [] = []
bare_declarations t n (i ∷ is) = tree.without_value n (subtype_in_tree t) ∷ bare_declarations t (n + 1) is

abbrev pub local_bare : Constancy → Region → List Identifier → Given AdaSubtype → Declared
local_bare c region is t = record {
  region = local_objects c t.value None t.next.objects region is;
  next = with_objects t.value is t.next;
  made = bare_declarations t.value t.next.objects is;
}

abbrev pub local_known : Pos → Constancy → Region → List Identifier → AdaSubtype → tree.NewValue → Given (Option Static)
    → Declared
local_known p c region is t v k = record {
  region = local_objects c t k.value k.next.objects region is;
  next = started (with_objects t is k.next);
  made = tree.initialized (statement_label k.next p) k.next.objects v ∷ [];
}

abbrev pub local_set : Env → Pos → Constancy → Region → List Identifier → AdaSubtype → Given NewValue → Declared
local_set env p c region is t v =
    local_known p c region is t v.value.value (known_constant env c t (lying_in env t) v.value.known v.next)

-- objects of the library level
abbrev pub library_entities : Env → Constancy → AdaSubtype → Option Static → ℕ → Region → List Identifier → Region
library_entities env c t k n region [] = region
library_entities env c t k n region (i ∷ is) =
    library_entities env c t k (n + 1) (redefined (key i) (object_entity (tree.library_object (owner_of env) n) c t k) region) is

abbrev pub library_objects : Env → AdaSubtype → program.Initial → ℕ → List Identifier
    → List program.LibraryObject → List program.LibraryObject
library_objects env t v n [] os = os
library_objects env t v n (i ∷ is) os =
    library_objects env t v (n + 1) is (record { declaration = n; generic = env.generic; subtype = subtype_in_tree t; initial = v } ∷ os)

abbrev pub library_words : AdaSubtype → List Identifier → List Subtype → List Subtype
library_words t [] ws = ws
library_words t (i ∷ is) ws = library_words t is (subtype_in_tree t ∷ ws)

abbrev pub with_library_objects : Env → AdaSubtype → program.Initial → List Identifier → State → State
with_library_objects env t v is s = record s {
  library_objects = s.library_objects + length is;
  objects_declared = library_objects env t v s.library_objects is s.objects_declared;
  library_words = library_words t is s.library_words;
}

abbrev pub library_known : Env → Constancy → Region → List Identifier → AdaSubtype → program.Initial
    → Given (Option Static) → Declared
library_known env c region is t v k = record {
  region = library_entities env c t k.value k.next.library_objects region is;
  next = with_library_objects env t v is k.next;
  made = [];
}

-- that the value of a constant lies in its subtype is demanded where it is declared
abbrev pub library_declared : Env → Constancy → Region → List Identifier → AdaSubtype → LibraryValue → State → Declared
library_declared env c region is t v s =
    library_known env c region is t v.initial (known_constant env c t (λ e. Some e) v.known s)

abbrev pub no_library_value : LibraryValue
no_library_value = record { initial = program.no_initial; known = None }

-- where objects of this subtype are set to this, or to nothing
abbrev pub objects_declared : Env → Pos → Constancy → Region → List Identifier → Given AdaSubtype
    → Option Initial → Plan Declared
objects_declared env p c region is t None =
    if env.is_library
    then typed_rule env.step (library_declared env c region is t.value no_library_value t.next)
    (option_map (λ u. library_declared env c region is t.value no_library_value t.next) (may_be_bare c))
    else typed_rule env.step (local_bare c region is t) (option_map (λ u. local_bare c region is t) (may_be_bare c))
objects_declared env p c region is t (Some i) =
    if env.is_library
    then library_value (with_local env region) t.next p t.value i >>= (λ v.
    typed_rule env.step (library_declared env c region is t.value v.value v.next)
    (option_map (λ u. library_declared env c region is t.value v.value v.next) (one_name is)))
    else new_value (with_local env region) t.next p t.value i >>= (λ v.
    typed_rule env.step (local_set env p c region is t.value v) (option_map (λ u. local_set env p c region is t.value v) (one_name is)))

-- exceptions (RM 11.1), with the last part of their full names
abbrev pub exception_name : Env → Identifier → List ℕ
exception_name env i = prefixed env.subprogram_name (key i) where
  prefixed : List ℕ → List ℕ → List ℕ
  prefixed [] name = name
  prefixed (c ∷ cs) name = (c ∷ cs) ++ (codes "." ++ name)

abbrev pub exception_of : Env → Identifier → ℕ → program.ExceptionDeclaration
exception_of env i n = record {
  declaration = n;
  place = i.pos;
  generic = env.generic;
  unit = env.unit_name;
  name = exception_name env i;
}

abbrev pub exception_declared : Env → Identifier → State → State
exception_declared env i s = record s {
  exceptions = s.exceptions + 1;
  exceptions_declared =
      exception_of env i s.exceptions ∷ s.exceptions_declared;
}

abbrev pub exceptions_from : Env → State → Region → List Identifier → Declared
exceptions_from env s region [] = record { region = region; next = s; made = [] }
exceptions_from env s region (i ∷ is) =
    exceptions_from env (exception_declared env i s) (redefined (key i) (raisable (tree.declared (owner_of env) s.exceptions)) region) is

-- a type that may have many words is counted against its limit
abbrev pub type_counted : Env → Pos → AdaSubtype → State → State
type_counted env p t s = record s {
  types_declared =
      record { generic = env.generic; words = record { place = p; subtype = subtype_in_tree t } ∷ [] } ∷ s.types_declared;
}

abbrev pub type_declared : Env → Pos → Identifier → Identity → Given Defined → Declared
type_declared env p i identity d = record {
  region = redefined (key i) (mark identity d.value.subtype) d.value.region;
  next = type_counted env p d.value.subtype d.next;
  made = [];
}

abbrev pub subtype_declared : Identifier → Region → Identity → Given AdaSubtype → Declared
subtype_declared i region identity t = record {
  region = redefined (key i) (mark identity t.value) region;
  next = t.next;
  made = [];
}

-- a declaration that may stand in a subprogram or a block, whose first token stands at this place
abbrev pub kind_declared : Env → State → Pos → DeclarationKind → Plan Declared
kind_declared env s p (declares.Type i d) = do
  region ← hide env.local i
  x ← defined (with_local env region) (one_type_more s) p (new_identity env s) d
  rule (Some (type_declared env p i (new_identity env s) x))
kind_declared env s p (declares.Subtype i t) = do
  region ← hide env.local i
  x ← indicated (with_local env region) (one_type_more s) t
  rule (Some (subtype_declared i region (new_identity env s) x))
kind_declared env s p (declares.Object is c t i) = do
  region ← hide_all p env.local is
  x ← indicated (with_local env region) s t
  objects_declared env p c region is x i
kind_declared env s p (declares.Exception is) = do
  region ← hide_all p env.local is
  rule (Some (exceptions_from env s region is))
kind_declared env s p (declares.Pragma a) = rule (Some (record { region = env.local; next = s; made = [] }))

abbrev pub declared : Env → State → Declaration → Judgement Declared
declared env s d = construct d.pos (kind_declared env s d.pos d.kind)

-- declarations in order, each in the region that those before it leave
abbrev pub all_declared : Env → State → Pos → List Declaration → Judgement Declared
all_declared env s p [] = construct p (rule (Some (record { region = env.local; next = s; made = [] })))
all_declared env s p (d ∷ ds) = construct p (do
  x ← declared env s d
  xs ← all_declared (with_local env x.region) x.next p ds
  rule (Some (record { region = xs.region; next = xs.next; made = x.made ++ xs.made })))
