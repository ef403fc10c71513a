-- Marks that are told by their identities: which subtype each names, in a table that grows as types and subtypes are
-- declared (Ada RM 2012, 3.2.1, 3.2.2, 6.3.1).
use Rattle.std.specs.Prelude.{◌≡◌, ◌≤◌, ℕ, Option, Some, None, option_map, IfSome}
use Rattle.cov_base.specs.Lists.{Everywhere}
use Rattle.ada_rules.specs.Declarations.{Declared}
use Rattle.ada_rules.specs.Entities.{Parameter, Routine, Entity, mark, routine, Region}
use Rattle.ada_rules.specs.Environment.{State, Given, Env, owner_of}
use Rattle.ada_rules.specs.Subprograms.{Profile, typed_parameters}
use Rattle.ada_rules.specs.Types.{Identity, declared_in, AdaSubtype}
use Rattle.legal_texts.specs.Marked.{IsMarkedPlace}

abbrev pub Table : Type 0
Table = Identity → Option AdaSubtype

-- a parameter or a result whose mark names its subtype
pub record IsTold (table : Table) (q : Parameter) : Type 0 where
  pub identity : Identity
  pub is : q.mark ≡ Some identity
  pub names : table identity ≡ Some q.subtype

-- marks of regions, and of the parameters and results of subprograms in them
abbrev pub IsToldEntity : Table → Entity → Type 0
IsToldEntity table (mark i t) = table i ≡ Some t
IsToldEntity table (routine r) = Everywhere (IsTold table) r.parameters × IfSome r.result (IsTold table)
IsToldEntity table x = Unit {0}

abbrev pub IsToldRegion : Table → Region → Type 0
IsToldRegion table region = Everywhere (λ e. IsToldEntity table e.1) region

-- the identities that are to come here name nothing yet
abbrev pub IsOpen : Table → Env → State → Type 0
IsOpen table env s = (k : ℕ) → s.types ≤ k → table (declared_in (owner_of env) env.unit_number k) ≡ None

-- a table that tells all that another one tells
abbrev pub TellsMore : Table → Table → Type 0
TellsMore table more = (i : Identity) (t : AdaSubtype) → table i ≡ Some t → more i ≡ Some t

-- and of identities that are not to come here, the same
abbrev pub TellsOthers : Env → Table → Table → Type 0
TellsOthers env table more =
    (i : Identity) → ((k : ℕ) → i ≡ declared_in (owner_of env) env.unit_number k → ⊥) → more i ≡ table i

-- what a declaration leaves behind a table
pub record TellsOn (before : Table) (env : Env) (x : Declared) : Type 0 where
  pub table : Table
  pub more : TellsMore before table
  pub others : TellsOthers env before table
  pub region : IsToldRegion table x.region
  pub is_open : IsOpen table env x.next

-- the profile of a body has the parameters and the result of the declaration that it completes
pub record IsAsDeclared (r : Routine) (q : Profile) : Type 0 where
  pub parameters : (n : ℕ) → typed_parameters n r.parameters ≡ typed_parameters n q.parameters
  pub result : option_map (λ x. x.subtype) r.result ≡ option_map (λ x. x.subtype) q.result

-- where an item of a package stands: all marks that its names may lead to are told
abbrev pub Names : Table → Identity → AdaSubtype → Type 0
Names table i t = table i ≡ Some t

pub record IsToldPlace (table : Table) (env : Env) (s : State) : Type 0 where
  pub place : IsMarkedPlace (Names table) env
  pub local : IsToldRegion table env.local
  pub is_open : IsOpen table env s

-- and what it leaves
pub record TellsBehind (before : Table) (env : Env) (g : Given Region) : Type 0 where
  pub table : Table
  pub more : TellsMore before table
  pub others : TellsOthers env before table
  pub region : IsToldRegion table g.value
  pub is_open : IsOpen table env g.next
