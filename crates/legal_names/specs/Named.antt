-- Exceptions and instances with the names and places of the text, where names are words in ASCII.
use Rattle.std.specs.Prelude.{◌≡◌, ◌≤◌, ◌+◌, ◌*◌, List, IsAscii, length}
use Rattle.cov_base.specs.Lists.{Everywhere, Somewhere}
use Rattle.ada_meaning.specs.Program.{ExceptionDeclaration, Instance, Program}
use Rattle.ada_rules.specs.Environment.{Env, State}
use Rattle.ada_syntax.specs.declared.unit.Unit.{Unit as LibraryUnit}
use Rattle.legal_names.specs.Spelled.{longest_word, IsWord}

pub record IsNamed (d : ExceptionDeclaration) : Type 0 where
  pub unit : IsWord d.unit
  pub name : IsAscii d.name
  pub short : length d.name ≤ 2 * longest_word + 1

-- an instance stands where the item of a unit does
pub record IsOfUnits (units : List LibraryUnit) (i : Instance) : Type 0 where
  pub name : IsWord i.name
  pub place : Somewhere (λ u. i.place ≡ u.item_pos) units

-- the exceptions and instances of a program of these units
pub record HasNames (units : List LibraryUnit) (p : Program) : Type 0 where
  pub exceptions : Everywhere IsNamed p.declared
  pub instances : Everywhere (IsOfUnits units) p.instances

-- the names of what stands round a place
abbrev pub IsNamedEnv : Env → Type 0
IsNamedEnv env = IsWord env.unit_name × IsWord env.subprogram_name

abbrev pub AreNamed : State → Type 0
AreNamed s = Everywhere IsNamed s.exceptions_declared

abbrev pub AreOfUnits : List LibraryUnit → State → Type 0
AreOfUnits units s = Everywhere (IsOfUnits units) s.instances_declared

-- a construct of the text adds exceptions with names alone
pub record Keeps (s t : State) : Type 0 where
  pub names : AreNamed s → AreNamed t
  pub instances : t.instances_declared ≡ s.instances_declared

-- a unit adds an instance too, where it is one
pub record KeepsUnits (units : List LibraryUnit) (s t : State) : Type 0 where
  pub names : AreNamed s → AreNamed t
  pub instances : AreOfUnits units s → AreOfUnits units t
