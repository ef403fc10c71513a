-- A demand that is made before a value is named, or behind it.
use Rattle.std.proofs.Common.{◌≡◌, ℕ, ◌∷◌, Option, Some, None, refl, sym, ap, ◌∙◌}
use Rattle.cov_base.specs.declared.position.Pos.{Pos}
use Rattle.ada_meaning.specs.Types.{Static, static_number, static_formal, static_constant, static_first, static_last, static_length, static_sign, static_operation, static_of}
use Rattle.ada_rules.specs.Types.{base}
use Rattle.ada_rules.specs.Statics.{Test, Asked, asked}
use Rattle.ada_rules.specs.Environment.{State, Given, given, Env, demanded}
use Rattle.ada_rules.specs.Expressions.{entered_constant, value_named, static_known}
use Rattle.ada_demands.proofs.NamedLaws.{known_alone, known_in}

abbrev asking : Asked → State → State
asking a s = record s { demands = a ∷ s.demands }

abbrev behind : Asked → Given Static → Given Static
behind a g = given g.value (asking a g.next)

named_asking : (g : ℕ) (e : Static) (a : Asked) (s : State) → value_named g e (asking a s) ≡ behind a (value_named g e s)
named_asking g (static_number x) a s = refl
named_asking g (static_formal n) a s = refl
named_asking g (static_constant n) a s = refl
named_asking g (static_first r) a s = refl
named_asking g (static_last r) a s = refl
named_asking g (static_length r) a s = refl
named_asking g (static_sign op e) a s =
    ap (λ x. entered_constant g base (static_sign op x.value) x.next) (named_asking g e a s)
named_asking g (static_operation op e f) a s =
    ap (λ (x : Given Static). let y = value_named g f x.next in entered_constant g base (static_operation op x.value y.value) y.next) (named_asking g e a s)
    ∙ ap (λ (y : Given Static). entered_constant g base (static_operation op (value_named g e s).value y.value) y.next) (named_asking g f a (value_named g e s).next)
named_asking g (static_of i e) a s = refl

pub known_behind : (env : Env) (e : Static) (p : Pos) (t : Test) (s n : State) (v : Static) (generic : Option ℕ) → env.generic ≡ generic
    → static_known env e s ≡ given v n → static_known env e (demanded env p t s) ≡ given v (demanded env p t n)
known_behind env e p t s n v None g h =
    known_alone env env.world.instances e (demanded env p t s) g refl
    ∙ ap (λ (x : Given Static). given x.value (demanded env p t x.next)) (sym (known_alone env env.world.instances e s g refl) ∙ h)
known_behind env e p t s n v (Some i) g h =
    known_in env i e (demanded env p t s) g
    ∙ (named_asking i e (asked (record { place = p; generic = env.generic; test = t })) s
    ∙ ap (λ (x : Given Static). given x.value (demanded env p t x.next)) (sym (known_in env i e s g) ∙ h))
