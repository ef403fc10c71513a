-- What is known of the values of constants, of the rules' definitions.
use Rattle.std.proofs.Common.{◌≡◌, ℕ, List, Option, Some, None, option_map, refl, sym, ap, ◌∙◌}
use Rattle.std.specs.Prelude.{unwrap_or, ℤ}
use Rattle.ada_syntax.specs.declared.declaration.Constancy.TheVariants as constancy
use Rattle.ada_meaning.specs.Types.{Static, Range, static_number}
use Rattle.ada_meaning.specs.Statics.{within}
use Rattle.ada_tree.specs.declared.types.StaticValue.{StaticValue}
use Rattle.ada_tree.specs.declared.types.StaticValue.TheVariants as value
use Rattle.ada_tree.specs.View.{static_value_of}
use Rattle.ada_rules.specs.Types.{AdaSubtype, range_in}
use Rattle.ada_rules.specs.Statics.{Facts, bounds_in, value_in}
use Rattle.ada_rules.specs.Environment.{State, Given, given, map_given, Env}
use Rattle.ada_rules.specs.Expressions.{entered_constant, value_named}
use Rattle.ada_rules.specs.Declarations.{numbered, known_constant, lying_in, without_value}
use Rattle.ada_entities.specs.EntityViews.{value_or}
use Rattle.program_walk.specs.ada_demands.proofs.NamedLaws.{value_stays}

-- a constant of a generic by its number
pub numbered_as : (g : ℕ) (r : Range) (e v w : Static) (known : Option Static) (s n m : State) → value_named g e s ≡ given v n
    → entered_constant g r v n ≡ given w m → numbered (Some g) r e known s ≡ given (Some w) m
numbered_as g r e v w known s n m named entered =
    ap (λ (x : Given Static). map_given (λ y. Some y) (entered_constant g r x.value x.next)) named
    ∙ ap (map_given (λ y. Some y)) entered

pub numbered_here : (g : ℕ) (r : Range) (v : StaticValue) (w : Static) (known : Option Static) (s m : State)
    → entered_constant g r (static_value_of v) s ≡ given w m → numbered (Some g) r (static_value_of v) known s ≡ given (Some w) m
numbered_here g r v w known s m entered =
    numbered_as g r (static_value_of v) (static_value_of v) w known s s m (value_stays g v s) entered

-- a value that lies in a subtype, or none
lying_value : (o : Option ℤ) → unwrap_or (option_map static_number o) without_value ≡ value_or (option_map value.Number o)
lying_value None = refl
lying_value (Some x) = refl

pub lying_is : (env : Env) (instances : List Facts) (t : AdaSubtype) (r : Range) (e : Static) (o : Option ℤ) → env.world.instances ≡ instances
    → range_in t ≡ r → o ≡ within (value_in instances 0 e) (bounds_in instances 0 r)
    → lying_in env t e ≡ Some (value_or (option_map value.Number o))
lying_is env instances t r e o world range is =
    (λ z. Some (unwrap_or (option_map static_number (within (value_in (world z) 0 e) (bounds_in (world z) 0 (range z)))) without_value))
    ∙ (ap (λ x. Some (unwrap_or (option_map static_number x) without_value)) (sym is) ∙ ap Some (lying_value o))

-- what is known in no generic
pub numbered_nowhere : (r : Range) (e : Static) (known : Option Static) (s : State) (generic : Option ℕ) → generic ≡ None
    → numbered generic r e known s ≡ given known s
numbered_nowhere r e known s generic h = ap (λ g. numbered g r e known s) h

-- a constant with a static value, and what else there is
pub constant_known : (env : Env) (t : AdaSubtype) (r : Range) (elsewhere : Static → Option Static) (generic : Option ℕ) (e : Static) (s : State) (g : Given (Option Static))
    → env.generic ≡ generic → range_in t ≡ r → numbered generic r e (elsewhere e) s ≡ g
    → known_constant env constancy.Constant t elsewhere (Some e) s ≡ g
constant_known env t r elsewhere generic e s g h range is = (λ z. numbered (h z) (range z) e (elsewhere e) s) ∙ is
