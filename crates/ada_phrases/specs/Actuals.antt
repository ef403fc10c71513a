-- Actual parameters, as the checker finds them. Each is a step of the list that they are: the actual, and those
-- behind it.
use Rattle.std.specs.Prelude.{◌≡◌, List, [], ◌∷◌, map, reverse, Option, Some, None, option_map, if◌then◌else◌}
use Rattle.std.specs.Option.{option_and_then}
use Rattle.std.specs.declared.alloc.Global.{Global}
use Rattle.std.specs.declared.vec.Vec.{Vec}
use Rattle.ada_meaning.specs.Tree as tree
use Rattle.ada_meaning.specs.Types.{Owner}
use Rattle.ada_tree.specs.declared.expr.Actual.{Actual}
use Rattle.ada_tree.specs.declared.program.Mode.{Mode}
use Rattle.ada_tree.specs.View.{with_actual, actuals_of}
use Rattle.ada_tree.specs.Programs.{mode_of}
use Rattle.ada_rules.specs.Types.{is_scalar}
use Rattle.ada_rules.specs.Entities as entities
use Rattle.ada_rules.specs.Denoted as rules
use Rattle.ada_entities.specs.declared.routines.Parameter.{Parameter}
use Rattle.ada_entities.specs.declared.types.AdaType.{AdaType}
use Rattle.ada_entities.specs.declared.types.Subtype.{Subtype}
use Rattle.ada_entities.specs.Views.{TypeTables, type_of, subtype_of}
use Rattle.ada_entities.specs.EntityViews.{Tables}
use Rattle.ada_entities.specs.RoutineViews.{parameter_of}
use Rattle.ada_judged.specs.declared.judged.Form.{Form}
use Rattle.ada_judged.specs.declared.judged.Judged.{Judged}
use Rattle.ada_judged.specs.declared.judged.Variable.{Variable}
use Rattle.ada_judged.specs.JudgedView.{variable_of, variable_in, form_of, judged_of}
use Rattle.ada_phrases.specs.Routines.{parameter_by}

-- an actual with those behind it, where there is one
abbrev pub in_front : Option Actual → tree.Actuals → Option tree.Actuals
in_front o rest = option_map (λ a. with_actual a rest) o

-- actuals, and those behind them
abbrev pub with_actuals : List Actual → tree.Actuals → tree.Actuals
with_actuals [] rest = rest
with_actuals (a ∷ more) rest = with_actual a (with_actuals more rest)

-- a parameter with this subtype
abbrev pub HasSubtype : Tables → entities.Parameter → Subtype → Type 0
HasSubtype k q t = q.subtype ≡ subtype_of k.types t

abbrev pub IsByName : Subtype → Variable → Option Actual → Type 0
IsByName t v o =
    (k : Tables) (q : entities.Parameter) (rest : tree.Actuals) → HasSubtype k q t → in_front o rest
    ≡ rules.by_name q rest (variable_of k v)

abbrev pub IsByObject : Subtype → Form → Option Actual → Type 0
IsByObject t f o =
    (k : Tables) (q : entities.Parameter) (rest : tree.Actuals) → HasSubtype k q t
    → in_front o rest ≡ option_and_then (rules.by_name q rest) (variable_in k f)

abbrev pub IsPassedByName : Subtype → Judged → Option Actual → Type 0
IsPassedByName t x o =
    (k : Tables) (q : entities.Parameter) (rest : tree.Actuals) → HasSubtype k q t
    → in_front o rest
    ≡ (if (judged_of k x).is_name then option_and_then (rules.by_name q rest) (judged_of k x).variable else None)

abbrev pub IsComposite : Form → Option Actual → Type 0
IsComposite f o =
    (k : Tables) (rest : tree.Actuals) → in_front o rest
    ≡ option_map (λ v. tree.by_composite v.object v.parts rest) (variable_in k f)

abbrev pub IsRead : AdaType → Form → Option Actual → Type 0
IsRead of f o =
    (k : Tables) (rest : tree.Actuals) → in_front o rest
    ≡ (if is_scalar (type_of k.types of) then Some (tree.by_expression (rules.expr_of_form (form_of f)) rest)
    else option_map (λ v. tree.by_composite v.object v.parts rest) (variable_in k f))

abbrev pub IsByValue : Subtype → Judged → Option Actual → Type 0
IsByValue t x o =
    (k : Tables) (q : entities.Parameter) (rest : tree.Actuals) → HasSubtype k q t → in_front o rest
    ≡ rules.by_value q (judged_of k x) rest

abbrev pub IsPassed : Mode → Subtype → Judged → Option Actual → Type 0
IsPassed m t x o =
    (k : Tables) (q : entities.Parameter) (rest : tree.Actuals) → HasSubtype k q t
    → in_front o rest ≡ rules.passed_as (mode_of m) q (judged_of k x) rest

-- the expressions that are left, of which the next one stands last
abbrev pub left_of : Tables → List Judged → List rules.Judged
left_of k xs = map (judged_of k) (reverse xs)

abbrev pub parameter_as : Tables → Owner → Parameter → entities.Parameter
parameter_as k o q = parameter_by k o (parameter_of k.types q)

abbrev pub IsNext : TypeTables → Parameter → Owner → (old new : List Judged) → Option Actual → Type 0
IsNext types q o old new x =
    (k : Tables) (qs : List entities.Parameter) → k.types ≡ types
    → rules.actuals_for (parameter_as k o q ∷ qs) (left_of k old)
    ≡ option_and_then (λ a. option_map (λ rest. with_actual a rest) (rules.actuals_for qs (left_of k new))) x

abbrev pub AreActuals : TypeTables → List Parameter → Owner → List Judged → Option (Vec Actual Global) → Type 0
AreActuals types qs o xs r =
    (k : Tables) → k.types ≡ types
    → option_map (λ v. actuals_of v.items) r ≡ rules.actuals_for (map (parameter_as k o) qs) (map (judged_of k) xs)
