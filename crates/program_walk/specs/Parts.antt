-- Expressions that have to be static, as the checker keeps them.
use Rattle.std.specs.Prelude.{◌≡◌, Bool, true, Option, Some, None, Result, if◌then◌else◌}
use Rattle.std.specs.Option.{option_and_then}
use Rattle.cov_base.specs.declared.position.Pos.{Pos}
use Rattle.cov_base.specs.declared.failure.Failure.{Failure}
use Rattle.ada_meaning.specs.Types.{Static}
use Rattle.ada_tree.specs.View.{static_value_of, scalar_range_of}
use Rattle.ada_rules.specs.Plan.{ruled, answer_at}
use Rattle.ada_rules.specs.Types.{Kind, is_integral, is_discrete, fits}
use Rattle.ada_rules.specs.Statics.{Test, lies_in, chosen_in}
use Rattle.ada_rules.specs.Environment.{State, Given, given, map_given, Env, demanded}
use Rattle.ada_rules.specs.Expressions as rules
use Rattle.ada_rules.specs.Expressions.{static_known}
use Rattle.ada_entities.specs.declared.fault.Refusal.{Refusal}
use Rattle.ada_entities.specs.Answers.{Answers}
use Rattle.ada_entities.specs.Views.{TypeTables, type_of}
use Rattle.ada_entities.specs.EntityViews.{Tables, values_of}
use Rattle.ada_phrases.specs.ada_judged.specs.declared.kind.Kind.{Kind as CodeKind}
use Rattle.ada_phrases.specs.ada_judged.specs.Views.{kind_of}
use Rattle.ada_demands.specs.declared.statics.Statics.{Statics}
use Rattle.ada_demands.specs.StaticsViews.{noted}
use Rattle.program_walk.specs.declared.asks.Accepted.{Accepted}
use Rattle.program_walk.specs.declared.asks.Accepted.TheVariants as accepted
use Rattle.program_walk.specs.declared.asks.Asks.{Asks}
use Rattle.program_walk.specs.declared.asks.Asks.TheVariants as asked
use Rattle.program_walk.specs.declared.part.Valued.{Valued}
use Rattle.program_walk.specs.declared.place.Place.{Place}

abbrev pub accepts_of : TypeTables → Accepted → Kind → Bool
accepts_of k accepted.Any x = true
accepts_of k accepted.Integral x = is_integral x
accepts_of k accepted.Discrete x = is_discrete x
accepts_of k (accepted.Fitting t) x = fits (type_of k t) x

abbrev pub asks_of : Tables → Asks → Static → Test
asks_of k (asked.Within r) e = lies_in (record { value = e; range = scalar_range_of r })
asks_of k (asked.Among v) e = chosen_in e (values_of k v)

abbrev pub valued_of : Tables → Valued → rules.Valued
valued_of k v = record { value = static_value_of v.value; kind = kind_of k.types v.kind }

-- the value of an expression with its demand, where its type is accepted
abbrev pub demanded_value : Env → State → Pos → Bool → Kind → (Static → Test) → Static → Option (Given rules.Valued)
demanded_value env s p is_accepted x test e =
    if is_accepted
    then Some (map_given (λ v. record { value = v; kind = x }) (static_known env e (demanded env p (test e) s)))
    else None

abbrev pub IsDemanded : Place → (old new : Statics) → Pos → Accepted → Asks → CodeKind → Option Static → Result Valued (Failure Refusal)
    → Type 0
IsDemanded place old new p a q x known result =
    (k : Tables) (env : Env) (s : State) → env.generic ≡ place.generic → env.world.instances ≡ place.instances.now
    → Answers (λ v. given (valued_of k v) (noted k new s))
    (answer_at p (ruled (option_and_then (demanded_value env (noted k old s) p (accepts_of k.types a (kind_of k.types x)) (kind_of k.types x)
    (asks_of k q)) known))) result
