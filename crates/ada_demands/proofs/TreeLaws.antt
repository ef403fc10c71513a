-- Chains of operators: how large they are, and what they come to.
use Rattle.std.proofs.Common.{◌≡◌, ℕ, zero, suc, ◌+◌, ◌<◌, ◌≤◌, ℤ, List, [], ◌∷◌, length, get_or, drop, Option, refl, sym, ap, ◌∙◌, arith}
use Rattle.std.specs.Option.{option_and_then}
use Rattle.std.proofs.lemmas.List.{at_drop_more}
use Rattle.ada_meaning.specs.Resolved.{owner_in}
use Rattle.ada_meaning.specs.Statics.{InstanceValues, computed, static_value}
use Rattle.ada_meaning.specs.Types as type
use Rattle.ada_meaning.specs.Types.{Static}
use Rattle.ada_tree.specs.declared.types.Owner.{Owner}
use Rattle.ada_tree.specs.declared.types.Owner.TheVariants as owner
use Rattle.ada_tree.specs.View.{operator_of, owner_of, static_by}
use Rattle.ada_judged.specs.declared.static_tree.StaticOperand.{StaticOperand}
use Rattle.ada_judged.specs.StaticView.{with_operand, with_operands, static_size}
use Rattle.ada_rules.specs.Statics.{Facts, value_in}
use Rattle.ada_demands.specs.TreeValues.{operated_by, operated}

-- how large the operands of a chain are
abbrev pub operands_size : List StaticOperand → ℕ
operands_size [] = 0
operands_size (o ∷ os) = static_size o.operand + operands_size os + 1

pub chain_size : (e : Static) (os : List StaticOperand) → static_size (with_operands e os) ≡ static_size e + operands_size os
chain_size e [] = omega arith
chain_size e (o ∷ os) = omega (arith, chain_size (with_operand e o) os)

pub operand_within : (os : List StaticOperand) (i : ℕ) (d : StaticOperand) → i < length os → static_size (get_or os i d).operand + 1 ≤ operands_size os
operand_within [] i d h = absurd (omega arith)
operand_within (o ∷ os) zero d h = omega arith
operand_within (o ∷ os) (suc i) d h = omega (arith, operand_within os i d (omega arith))

pub static_positive : (e : Static) → 1 ≤ static_size e
static_positive (type.static_number x) = omega arith
static_positive (type.static_formal k) = omega arith
static_positive (type.static_constant k) = omega arith
static_positive (type.static_first r) = omega arith
static_positive (type.static_last r) = omega arith
static_positive (type.static_length r) = omega arith
static_positive (type.static_sign s e) = omega arith
static_positive (type.static_operation o e f) = omega arith
static_positive (type.static_of i e) = omega arith

pub chain_value : (instances : List Facts) (n : ℕ) (e : Static) (os : List StaticOperand)
    → value_in instances n (with_operands e os) ≡ operated instances n (value_in instances n e) os
chain_value instances n e [] = refl
chain_value instances n e (o ∷ os) = chain_value instances n (with_operand e o) os

-- one operator more
pub chain_step : (instances : List Facts) (n : ℕ) (os : List StaticOperand) (i : ℕ) (o : StaticOperand) (x y z : Option ℤ) → i < length os
    → o ≡ get_or os i o → y ≡ value_in instances n o.operand
    → z ≡ option_and_then (λ a. option_and_then (computed (operator_of o.operator) a) y) x
    → operated instances n z (drop (i + 1) os) ≡ operated instances n x (drop i os)
chain_step instances n os i o x y z less item right is =
    ap (λ w. operated instances n w (drop (i + 1) os))
    (is ∙ (ap (λ w. option_and_then (λ a. option_and_then (computed (operator_of o.operator) a) w) x) right
    ∙ ap (λ p. option_and_then (operated_by instances n p) x) item))
    ∙ sym (at_drop_more (operated instances n x) os i o less)

-- values in their own text, and in that of an instance
pub value_by : (v : InstanceValues) (n : ℕ) (o : Owner) (e : Static) → static_value v n (static_by o e) ≡ static_value v (owner_in n (owner_of o)) e
value_by v n owner.Here e = refl
value_by v n (owner.Instance i) e = refl
