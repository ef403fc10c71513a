-- What a construct is looked at in: the step, the units of the program, the regions round it, and the counters of the
-- walk.
use Rattle.std.specs.Prelude.{ℕ, ◌+◌, Bool, true, false, List, [], ◌∷◌, ◌++◌, Option, Some, None, is_some, slice_get, unwrap_or, if◌then◌else◌}
use Rattle.cov_base.specs.declared.position.Pos.{Pos}
use Rattle.ada_syntax.specs.declared.name.Identifier.{Identifier}
use Rattle.ada_meaning.specs.Tree.{Label}
use Rattle.ada_meaning.specs.Program.{LibraryObject, GenericConstant, ExceptionDeclaration, Instance, Subprogram}
use Rattle.ada_meaning.specs.Types.{Owner, here, of_instance, Subtype}
use Rattle.ada_rules.specs.Plan.{Plan, Judgement, ◌>>=◌, rule, construct}
use Rattle.ada_rules.specs.Types.{Identity, declared_in, AdaSubtype}
use Rattle.ada_rules.specs.Statics.{Test, Asked, asked, Facts}
use Rattle.ada_rules.specs.Entities.{Standard, key, Entity, hidden, routine, unit, Routine, Region, is_new, Actual}

-- the two steps: the rules on names of all units come before those on types
pub data Step : Type 0 where
  naming : Step
  typing : Step

-- a rule on types; the step of names leaves it open, and goes on with something in place of what it gives
abbrev pub typed_rule : {B : Type 0} → Step → B → Option B → Plan B
typed_rule naming anything o = rule (Some anything)
typed_rule typing anything o = rule o

-- what other units see of a unit
pub data Interface : Type 0 where
  no_interface : Interface
  -- a package: its declarations
  package_interface : Region → Interface
  -- a generic: its formals, and with them its declarations
  generic_interface : (formals : Region) → Region → Interface
  -- an instance: the number of its generic's unit, where it is one, its own number, and what it has for the formals
  instance_interface : Option ℕ → ℕ → List Actual → Interface
  -- a library subprogram
  subprogram_interface : Routine → Interface

-- a body: the package that it stands in, or for a library subprogram itself, and its name
pub record BodyName : Type 0 where
  pub package_name : List ℕ
  pub name : List ℕ

-- What there is: the names before any unit, the library's names and numbers of units, what is seen of each, by its
-- number, what instances have for formals, and the bodies in the order of the text
pub record World : Type 0 where
  pub standard : Standard
  pub names : List (List ℕ × ℕ)
  pub interfaces : List Interface
  pub instances : List Facts
  pub bodies : List BodyName

-- a count of words, for its limit: the object's first token, and its subtype
pub record Words : Type 0 where
  pub place : Pos
  pub subtype : Subtype

-- what a subprogram declares, in the order of the text, in the generic in whose text it stands
pub record Declares : Type 0 where
  pub generic : Option ℕ
  pub words : List Words

-- the objects of the library level that a unit declares: its number, that of its package, and whether it is the text of
-- a generic
pub record UnitWords : Type 0 where
  pub unit : ℕ
  pub package_unit : ℕ
  pub generic : Option ℕ
  pub words : List Subtype

-- The counters of the walk: the next numbers of statements, decisions, objects of the subprogram, objects of the
-- library level, exceptions and types of the unit. And what it has found, the latest first: demands; places where a
-- limit is passed that counts no words; types; the words of the subprogram, of all subprograms, and of the unit's
-- library level; objects, constants of generics, exceptions, instances and subprograms.
pub record State : Type 0 where
  pub statements : ℕ
  pub decisions : ℕ
  pub objects : ℕ
  pub library_objects : ℕ
  pub exceptions : ℕ
  pub types : ℕ
  pub demands : List Asked
  pub excesses : List Pos
  pub types_declared : List Declares
  pub words : List Words
  pub subprogram_words : List Declares
  pub library_words : List Subtype
  pub unit_words : List UnitWords
  pub objects_declared : List LibraryObject
  pub constants_declared : List GenericConstant
  pub exceptions_declared : List ExceptionDeclaration
  pub instances_declared : List Instance
  pub subprograms : List Subprogram

abbrev pub beginning_state : State
beginning_state = record {
  statements = 0;
  decisions = 0;
  objects = 0;
  library_objects = 0;
  exceptions = 0;
  types = 0;
  demands = [];
  excesses = [];
  types_declared = [];
  words = [];
  subprogram_words = [];
  library_words = [];
  unit_words = [];
  objects_declared = [];
  constants_declared = [];
  exceptions_declared = [];
  instances_declared = [];
  subprograms = [];
}

-- what a construct gives, and the state behind it
pub record Given (A : Type 0) : Type 0 where
  pub value : A
  pub next : State

abbrev pub given : {A : Type 0} → A → State → Given A
given x s = record { value = x; next = s }

abbrev pub map_given : {A B : Type 0} → (A → B) → Given A → Given B
map_given f g = record { value = f g.value; next = g.next }

-- what `return` gives: nothing, or a value of a subtype (RM 6.5)
pub data Returning : Type 0 where
  no_result : Returning
  result_of : AdaSubtype → Returning

-- Where a construct stands: the step, the units; the number of its unit, the names of it and of the subprogram; the
-- generic and the package in whose text it is, by the numbers of their units, and what the package has declared so far;
-- the innermost region and those round it; whether it stands among declarations of the library level, in a loop, in a
-- handler; and what `return` gives.
pub record Env : Type 0 where
  pub step : Step
  pub world : World
  pub unit_number : ℕ
  pub unit_name : List ℕ
  pub subprogram_name : List ℕ
  pub generic : Option ℕ
  pub own_package : Option ℕ
  pub own : Region
  pub local : Region
  pub outer : List Region
  pub is_library : Bool
  pub is_looping : Bool
  pub is_handling : Bool
  pub returning : Returning

abbrev pub regions_of : Env → List Region
regions_of env = env.local ∷ env.outer

-- who owns what is declared here
abbrev pub owner_of : Env → Owner
owner_of env = if is_some env.generic then here else of_instance 0

-- here with another innermost region
abbrev pub with_local : Env → Region → Env
with_local env region = record env { local = region; own = if env.is_library then region else env.own }

-- here with a new region inside
abbrev pub opened : Env → Env
opened env = record env { local = []; outer = env.local ∷ env.outer; is_library = false }

abbrev pub in_loop : Env → Env
in_loop env = record env { is_looping = true }

abbrev pub in_handler : Env → Env
in_handler env = record env { is_handling = true }

-- the label of a statement obligation or a decision, whose number is taken
abbrev pub statement_label : State → Pos → Label
statement_label s p = record { number = s.statements; place = p }

abbrev pub started : State → State
started s = record s { statements = s.statements + 1 }

abbrev pub decision_label : State → Pos → Label
decision_label s p = record { number = s.decisions; place = p }

abbrev pub decided : State → State
decided s = record s { decisions = s.decisions + 1 }

-- the identity of a type or subtype that is declared here
abbrev pub new_identity : Env → State → Identity
new_identity env s = declared_in (owner_of env) env.unit_number s.types

abbrev pub one_type_more : State → State
one_type_more s = record s { types = s.types + 1 }

-- with one more demand
abbrev pub demanded : Env → Pos → Test → State → State
demanded env p t s = record s { demands = asked (record { place = p; generic = env.generic; test = t }) ∷ s.demands }

-- where a count passes its limit
abbrev pub exceeded : Bool → Pos → State → State
exceeded b p s = if b then record s { excesses = p ∷ s.excesses } else s

-- A new name in a region: it is hidden from the start of its declaration (RM 8.3). Two declarations of one name in a
-- region are refused.
abbrev pub with_name : Region → Identifier → Entity → Option Region
with_name region i x = if is_new region i then Some (region ++ (key i, x) ∷ []) else None

abbrev pub hide : Region → Identifier → Judgement Region
hide region i = construct i.pos (rule (with_name region i hidden))

-- the names of a list
abbrev pub hide_all : Pos → Region → List Identifier → Judgement Region
hide_all p region [] = construct p (rule (Some region))
hide_all p region (i ∷ is) = construct p (do
  r ← hide region i
  rs ← hide_all p r is
  rule (Some rs))

-- with declarations behind
abbrev pub declare : Region → List ℕ → Entity → Region
declare region name x = region ++ (name, x) ∷ []

-- What a unit of the library is named as by others: a subprogram, or a package, a generic or an instance.
abbrev pub entity_of_interface : ℕ → Interface → Entity
entity_of_interface n (subprogram_interface r) = routine r
entity_of_interface n i = unit n

abbrev pub interface_of : World → ℕ → Interface
interface_of w n = unwrap_or (slice_get w.interfaces n) no_interface

abbrev pub entity_of_unit : World → ℕ → Entity
entity_of_unit w n = entity_of_interface n (interface_of w n)
