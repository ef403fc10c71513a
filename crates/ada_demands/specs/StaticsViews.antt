-- What the walk notes of static values, in the state of the rules.
use Rattle.std.specs.Prelude.{◌≡◌, ℕ, List, [], ◌∷◌, map, reverse, Option, Some, None}
use Rattle.cov_base.specs.declared.position.Pos.{Pos}
use Rattle.ada_meaning.specs.Types as type
use Rattle.ada_meaning.specs.Types.{static_operation}
use Rattle.ada_tree.specs.declared.types.Owner.TheVariants as owner
use Rattle.ada_tree.specs.declared.types.Static.{Static}
use Rattle.ada_tree.specs.declared.types.Static.TheVariants as static
use Rattle.ada_tree.specs.declared.types.StaticValue.{StaticValue}
use Rattle.ada_tree.specs.Programs.{constant_of}
use Rattle.ada_tree.specs.View.{operator_of, static_value_of}
use Rattle.ada_rules.specs.Types.{base}
use Rattle.ada_rules.specs.Statics.{Facts, instantiated}
use Rattle.ada_rules.specs.Environment.{State, Given, given, Env, demanded}
use Rattle.ada_rules.specs.Expressions.{entered_constant, value_named, static_known}
use Rattle.ada_judged.specs.ada_entities.specs.EntityViews.{Tables}
use Rattle.ada_judged.specs.declared.static_tree.StaticOperand.{StaticOperand}
use Rattle.ada_demands.specs.declared.demand.Made.{Made}
use Rattle.ada_demands.specs.declared.demand.Test.{Test}
use Rattle.ada_demands.specs.declared.statics.Statics.{Statics}
use Rattle.ada_demands.specs.DemandViews.{test_of, asked_of}

-- a state with these demands and constants of generics
abbrev pub noted : Tables → Statics → State → State
noted k c s =
    record s {
      demands = reverse (map (asked_of k) c.demands.items);
      constants_declared = reverse (map constant_of c.constants);
    }

-- what is a value of its own text already
abbrev pub own_value : Static → Option StaticValue
own_value (static.Value owner.Here v) = Some v
own_value e = None

-- with an instance behind the demands so far
abbrev pub with_instance : (generic instance : ℕ) → State → State
with_instance g n s = record s { demands = instantiated g n ∷ s.demands }

abbrev pub Demands : (old new : Statics) → Pos → Option ℕ → Test → Type 0
Demands old new p generic test =
    (k : Tables) (env : Env) (s : State) → env.generic ≡ generic
    → noted k new s ≡ demanded env p (test_of k test) (noted k old s)

-- an instance that was made
abbrev pub Instantiates : (old new : Statics) → Made → Type 0
Instantiates old new m =
    (k : Tables) (s : State) → noted k new s ≡ with_instance m.generic m.instance (noted k old s)

-- what a rule gives, in whatever state has these counters
abbrev pub Gives : (old new : Statics) → (State → Given type.Static) → StaticValue → Type 0
Gives old new rule v =
    (k : Tables) (s : State) → rule (noted k old s) ≡ given (static_value_of v) (noted k new s)

-- a chain of operators behind a value, in the text of a generic
abbrev pub chain_named : ℕ → Given type.Static → List StaticOperand → Given type.Static
chain_named g x [] = x
chain_named g x (o ∷ os) =
    let y = value_named g o.operand x.next in
    chain_named g (entered_constant g base (static_operation (operator_of o.operator) x.value y.value) y.next) os

abbrev pub GivesChain : (old new : Statics) → ℕ → StaticValue → List StaticOperand → StaticValue → Type 0
GivesChain old new g first os v = Gives old new (λ s. chain_named g (given (static_value_of first) s) os) v

abbrev pub Knows : (old new : Statics) → List Facts → Option ℕ → type.Static → StaticValue → Type 0
Knows old new instances generic e v =
    (k : Tables) (env : Env) (s : State) → env.generic ≡ generic → env.world.instances ≡ instances
    → static_known env e (noted k old s) ≡ given (static_value_of v) (noted k new s)
