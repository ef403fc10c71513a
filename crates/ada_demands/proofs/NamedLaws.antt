-- What is noted of static values, in the state of the rules.
use Rattle.std.proofs.Common.{◌≡◌, ℕ, ◌+◌, ◌<◌, pos, List, [], ◌∷◌, ◌++◌, length, get_or, drop, map, reverse, Option, Some, None, refl, sym, ap, ◌∙◌}
use Rattle.std.specs.Prelude.{unwrap_or}
use Rattle.std.proofs.lemmas.List.{map_push, reverse-append, at_drop_more}
use Rattle.cov_base.specs.declared.position.Pos.{Pos}
use Rattle.ada_meaning.specs.Program.{GenericConstant}
use Rattle.ada_meaning.specs.Statics.{constants_of}
use Rattle.ada_meaning.specs.Types as type
use Rattle.ada_meaning.specs.Types.{static_number, static_constant, static_sign, static_operation}
use Rattle.ada_tree.specs.declared.types.Owner.TheVariants as owner
use Rattle.ada_tree.specs.declared.types.Static.{Static}
use Rattle.ada_tree.specs.declared.types.Static.TheVariants as static
use Rattle.ada_tree.specs.declared.types.StaticValue.{StaticValue}
use Rattle.ada_tree.specs.declared.types.StaticValue.TheVariants as value
use Rattle.ada_tree.specs.View.{operator_of, sign_of, static_of, static_value_of}
use Rattle.ada_judged.specs.declared.static_tree.StaticOperand.{StaticOperand}
use Rattle.ada_judged.specs.StaticView.{with_operand, with_operands}
use Rattle.ada_rules.specs.Types.{base}
use Rattle.ada_rules.specs.Statics.{Facts, value_in, asked}
use Rattle.ada_rules.specs.Environment.{State, Given, given, Env, demanded}
use Rattle.ada_rules.specs.Expressions.{entered_constant, value_named, static_known}
use Rattle.ada_judged.specs.ada_entities.specs.EntityViews.{Tables}
use Rattle.ada_demands.specs.declared.demand.Made.{Made}
use Rattle.ada_demands.specs.declared.demand.Test.{Test}
use Rattle.ada_demands.specs.declared.demand.Asked.{Asked}
use Rattle.ada_demands.specs.declared.demand.Asked.TheVariants as ask
use Rattle.ada_demands.specs.DemandViews.{test_of, asked_of}
use Rattle.ada_demands.specs.StaticsViews.{with_instance, own_value, chain_named}
use Rattle.ada_demands.proofs.ConstantLaws.{as_many_reversed}

-- one more demand
pub demanded_is : (k : Tables) (env : Env) (s : State) (p : Pos) (generic : Option ℕ) (t : Test) (old new : List Asked)
    → new ≡ old ++ ask.Demand (record { pos = p; generic = generic; test = t }) ∷ [] → env.generic ≡ generic
    → record s { demands = reverse (map (asked_of k) new) } ≡ demanded env p (test_of k t) (record s { demands = reverse (map (asked_of k) old) })
demanded_is k env s p generic t old new e h = λ i. record s { demands = latest i }
  where
    latest : reverse (map (asked_of k) new) ≡ asked (record { place = p; generic = env.generic; test = test_of k t }) ∷ reverse (map (asked_of k) old)
    latest =
        ap (λ xs. reverse (map (asked_of k) xs)) e
        ∙ (ap reverse (map_push (asked_of k) old (ask.Demand (record { pos = p; generic = generic; test = t })))
        ∙ (reverse-append (map (asked_of k) old) (asked (record { place = p; generic = generic; test = test_of k t }) ∷ [])
        ∙ ap (λ g. asked (record { place = p; generic = g; test = test_of k t }) ∷ reverse (map (asked_of k) old)) (sym h)))

-- one more instance
pub instantiated_is : (k : Tables) (s : State) (m : Made) (old new : List Asked) → new ≡ old ++ ask.Instantiated m ∷ []
    → record s { demands = reverse (map (asked_of k) new) } ≡ with_instance m.generic m.instance (record s { demands = reverse (map (asked_of k) old) })
instantiated_is k s m old new e =
    ap (λ (xs : List Asked). record s { demands = reverse (map (asked_of k) xs) }) e
    ∙ (λ i. record s {
      demands = (ap reverse (map_push (asked_of k) old (ask.Instantiated m))
          ∙ reverse-append (map (asked_of k) old) (asked_of k (ask.Instantiated m) ∷ [])) i;
    })

-- one more constant
pub entered_is : (s : State) (g : ℕ) (r : type.Range) (e : type.Static) (old new : List GenericConstant) (n : ℕ)
    → n ≡ length (constants_of g old) → new ≡ old ++ record { generic = g; value = e; range = r } ∷ []
    → entered_constant g r e (record s { constants_declared = reverse old }) ≡ given (static_constant n) (record s { constants_declared = reverse new })
entered_is s g r e old new n count added = λ i. given (static_constant (number i)) (record s { constants_declared = latest i })
  where
    number : length (constants_of g (reverse old)) ≡ n
    number = as_many_reversed g old ∙ sym count

    latest : record { generic = g; value = e; range = r } ∷ reverse old ≡ reverse new
    latest = sym (ap reverse added ∙ reverse-append old (record { generic = g; value = e; range = r } ∷ []))

pub value_stays : (g : ℕ) (v : StaticValue) (s : State) → value_named g (static_value_of v) s ≡ given (static_value_of v) s
value_stays g (value.Number x) s = refl
value_stays g (value.Formal k) s = refl
value_stays g (value.Constant k) s = refl

-- what is a value of its own text, and what is none
pub own_named : (g : ℕ) (e : Static) (v : StaticValue) (s : State) → own_value e ≡ Some v → value_named g (static_of e) s ≡ given (static_value_of v) s
own_named g (static.Value owner.Here w) v s h = let same : w ≡ v = cc in ap (λ x. value_named g (static_value_of x) s) same ∙ value_stays g v s
own_named g (static.Value (owner.Instance i) w) v s h = cc
own_named g (static.First r) v s h = cc
own_named g (static.Last r) v s h = cc
own_named g (static.Length r) v s h = cc
own_named g (static.Signed o w) v s h = cc
own_named g (static.Operation o a b) v s h = cc

pub other_named : (g : ℕ) (e : Static) (s : State) → own_value e ≡ None → value_named g (static_of e) s ≡ entered_constant g base (static_of e) s
other_named g (static.Value owner.Here w) s h = cc
other_named g (static.Value (owner.Instance i) w) s h = refl
other_named g (static.First r) s h = refl
other_named g (static.Last r) s h = refl
other_named g (static.Length r) s h = refl
other_named g (static.Signed o w) s h = ap (λ x. entered_constant g base (static_sign (sign_of o) x.value) x.next) (value_stays g w s)
other_named g (static.Operation o a b) s h =
    ap (λ x. entered_constant g base (static_operation (operator_of o) x.value (value_named g (static_value_of b) x.next).value) (value_named g (static_value_of b) x.next).next)
    (value_stays g a s)
    ∙ ap (λ y. entered_constant g base (static_operation (operator_of o) (static_value_of a) y.value) y.next) (value_stays g b s)

pub chain_is : (g : ℕ) (e : type.Static) (os : List StaticOperand) (s : State) → value_named g (with_operands e os) s ≡ chain_named g (value_named g e s) os
chain_is g e [] s = refl
chain_is g e (o ∷ os) s = chain_is g (with_operand e o) os s

-- one operator more
abbrev turn : ℕ → Given type.Static → StaticOperand → Given type.Static
turn g x o =
    let y = value_named g o.operand x.next in
    entered_constant g base (static_operation (operator_of o.operator) x.value y.value) y.next

pub named_step : (g : ℕ) (os : List StaticOperand) (i : ℕ) (o : StaticOperand) (v u w : type.Static) (r s t : State) → i < length os → o ≡ get_or os i o
    → value_named g o.operand r ≡ given u s → entered_constant g base (static_operation (operator_of o.operator) v u) s ≡ given w t
    → chain_named g (given w t) (drop (i + 1) os) ≡ chain_named g (given v r) (drop i os)
named_step g os i o v u w r s t less item right whole =
    sym (at_drop_more (chain_named g (given v r)) os i o less
    ∙ ap (λ x. chain_named g x (drop (i + 1) os))
    (ap (turn g (given v r)) (sym item)
    ∙ (ap (λ y. entered_constant g base (static_operation (operator_of o.operator) v y.value) y.next) right ∙ whole)))

-- in no generic
pub known_alone : (env : Env) (instances : List Facts) (e : type.Static) (s : State) → env.generic ≡ None → env.world.instances ≡ instances
    → static_known env e s ≡ given (static_number (unwrap_or (value_in instances 0 e) (pos 0))) s
known_alone env instances e s h i =
    λ z. static_known (record env { generic = h z; world = record env.world { instances = i z } }) e s

pub known_in : (env : Env) (g : ℕ) (e : type.Static) (s : State) → env.generic ≡ Some g → static_known env e s ≡ value_named g e s
known_in env g e s h = λ z. static_known (record env { generic = h z }) e s
