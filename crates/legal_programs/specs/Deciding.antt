-- Decisions are numbered in the order in which they are met, and none has too many conditions where no limit is passed.
use Rattle.std.specs.Prelude.{◌≡◌, ◌≤◌, ◌+◌, ℕ, Bool, true, false, List, [], map, length, IfSome, None}
use Rattle.cov_base.specs.Lists.{Everywhere}
use Rattle.ada_meaning.specs.Collected.{Decision, in_expr, in_parts, in_actuals, in_test}
use Rattle.ada_meaning.specs.Obligations.{numbers}
use Rattle.ada_meaning.specs.Tree as tree
use Rattle.ada_meaning.specs.WellFormed.{most_conditions}
use Rattle.ada_rules.specs.Entities.{Variable, Entity, object, Region}
use Rattle.ada_rules.specs.Environment.{State, Given, Env, regions_of, interface_of}
use Rattle.ada_rules.specs.Denoted.{Form, plain, test_form, Judged, Denoted, a_value, a_variable, a_call}
use Rattle.ada_rules.specs.Expressions.{Role, itself, operand, part_of_interface}

abbrev pub IsNarrow : Decision → Type 0
IsNarrow h = tree.conditions_of h.test ≤ most_conditions

-- these decisions are met between two states
pub record Decides (s : State) (ds : List Decision) (t : State) : Type 0 where
  pub numbered : map (λ h. h.label.number) ds ≡ numbers s.decisions (length ds)
  pub next : t.decisions ≡ s.decisions + length ds
  pub few : t.excesses ≡ [] → (s.excesses ≡ []) × Everywhere IsNarrow ds

-- regions declare whole objects
abbrev pub IsWhole : Entity → Type 0
IsWhole (object v) = v.parts ≡ tree.whole
IsWhole x = Unit {0}

abbrev pub IsWholeRegion : Region → Type 0
IsWholeRegion region = Everywhere (λ e. IsWhole e.1) region

pub record IsWholeEnv (env : Env) : Type 0 where
  pub regions : Everywhere IsWholeRegion (regions_of env)
  pub own : IsWholeRegion env.own
  pub units : (n : ℕ) (name : List ℕ) → IfSome (part_of_interface env.world name (interface_of env.world n)) IsWhole
  pub test_io : IsWholeRegion env.world.standard.test_io_declarations

-- the decisions in what a name or an expression comes to, where this statement holds them
abbrev pub in_form : ℕ → Form → List Decision
in_form k (plain e) = in_expr k e
in_form k (test_form t) = in_test k t

abbrev pub in_denoted : ℕ → Denoted → List Decision
in_denoted k (a_value x) = in_form k x.form
in_denoted k (a_variable v) = in_parts k v.parts
in_denoted k (a_call r actuals) = in_actuals k actuals
in_denoted k d = []

abbrev pub IsPlain : Form → Type 0
IsPlain (plain e) = Unit {0}
IsPlain (test_form t) = ⊥

-- an expression is plain by itself, or where it has no short-circuit control form
abbrev pub IsPlainIn : Role → (circuit : Bool) → Form → Type 0
IsPlainIn itself c f = IsPlain f
IsPlainIn operand false f = IsPlain f
IsPlainIn operand true f = Unit {0}

-- a static value, and a name without an index, hold no decision
pub record IsClearVariable (v : Variable) : Type 0 where
  pub known : IfSome v.known (λ e. (k : ℕ) → in_parts k v.parts ≡ [])
  pub whole : v.is_indexed ≡ false → (k : ℕ) → in_parts k v.parts ≡ []

pub record IsClear (x : Judged) : Type 0 where
  pub known : IfSome x.known (λ e. (k : ℕ) → in_form k x.form ≡ [])
  pub variable : IfSome x.variable (λ v. (k : ℕ) → in_form k x.form ≡ in_parts k v.parts)

abbrev pub IsClearDenoted : Denoted → Type 0
IsClearDenoted (a_value x) = IsClear x × IsPlain x.form
IsClearDenoted (a_variable v) = IsClearVariable v
IsClearDenoted d = Unit {0}

pub record DenotesFrom (s : State) (g : Given Denoted) : Type 0 where
  pub decides : (k : ℕ) → Decides s (in_denoted k g.value) g.next
  pub clear : IsClearDenoted g.value

pub record JudgesFrom (r : Role) (circuit : Bool) (s : State) (g : Given Judged) : Type 0 where
  pub decides : (k : ℕ) → Decides s (in_form k g.value.form) g.next
  pub clear : IsClear g.value
  pub is_plain : IsPlainIn r circuit g.value.form
  pub none : circuit ≡ true → (g.value.known ≡ None) × (g.value.variable ≡ None)
