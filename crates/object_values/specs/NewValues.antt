-- What objects are set to, in both steps.
use Rattle.std.specs.Prelude.{◌≡◌, List, [], ◌∷◌, Option, None, option_map, Result}
use Rattle.cov_base.specs.declared.position.Pos.{Pos}
use Rattle.cov_base.specs.declared.failure.Failure.{Failure}
use Rattle.ada_meaning.specs.Tree as tree
use Rattle.ada_meaning.specs.Types.{Static}
use Rattle.ada_tree.specs.declared.statement.NewValue.{NewValue as TreeValue}
use Rattle.ada_rules.specs.Plan.{ruled, answer_at}
use Rattle.ada_rules.specs.Environment.{State, given, Env}
use Rattle.ada_rules.specs.Denoted as rules
use Rattle.ada_rules.specs.Declarations as declarations
use Rattle.ada_rules.specs.Declarations.{known_of, value_place}
use Rattle.ada_syntax.specs.declared.declaration.Initial.{Initial}
use Rattle.ada_entities.specs.declared.fault.Refusal.{Refusal}
use Rattle.ada_entities.specs.Answers.{Answers}
use Rattle.ada_entities.specs.declared.types.Subtype.{Subtype}
use Rattle.ada_entities.specs.Views.{subtype_of}
use Rattle.ada_entities.specs.EntityViews.{Tables}
use Rattle.ada_judged.specs.declared.judged.Form.{Form}
use Rattle.ada_judged.specs.declared.judged.Judged.{Judged}
use Rattle.ada_judged.specs.declared.kind.Kind.{Kind}
use Rattle.ada_judged.specs.Views.{kind_of}
use Rattle.ada_judged.specs.JudgedView.{form_of, variable_in, judged_of}
use Rattle.program_walk.specs.ada_phrases.specs.declared.decisions.Decisions.{Decisions}
use Rattle.program_walk.specs.ada_phrases.specs.Answers.{counted}
use Rattle.program_walk.specs.declared.site.Site.{Site}
use Rattle.program_walk.specs.declared.symbols.Symbols.{Symbols}
use Rattle.program_walk.specs.Sites.{StandsAt}
use Rattle.program_walk.specs.SymbolViews.{Begins, IsKnown}
use Rattle.object_values.specs.Values.{value_in}
use Rattle.object_values.specs.declared.initial.NewValue.{NewValue}

abbrev pub new_value_of : Tables → NewValue → declarations.NewValue
new_value_of k v = record { value = value_in k.types v.value; known = v.known }

-- the static value of an expression, where it stands in no `others`
abbrev pub known_for : List Pos → Option Static → Option Static
known_for [] known = known
known_for (p ∷ ps) known = None

-- an expression of the rules that is of this kind, and has this form
pub record Is (k : Tables) (x : Kind) (f : Form) (e : rules.Judged) : Type 0 where
  pub kind : e.kind ≡ kind_of k.types x
  pub form : e.form ≡ form_of f
  pub variable : e.variable ≡ variable_in k f

abbrev pub IsValueFor : Symbols → Subtype → List Pos → Kind → Form → Option TreeValue → Type 0
IsValueFor symbols t others x f o =
    IsKnown symbols → (k : Tables) → Begins symbols k → (e : rules.Judged) → Is k x f e
    → option_map (value_in k.types) o ≡ declarations.value_for (subtype_of k.types t) others e

-- in the step of types
abbrev pub IsTypedValue : Symbols → Subtype → Pos → List Pos → Judged → Result NewValue (Failure Refusal) → Type 0
IsTypedValue symbols t p others x result =
    IsKnown symbols → (k : Tables) → Begins symbols k → (n : State)
    → Answers (λ v. given (new_value_of k v) n)
    (answer_at (value_place p (subtype_of k.types t) others) (ruled (option_map (λ v. given (record { value = v; known = known_of others (judged_of k x) }) n)
    (declarations.value_for (subtype_of k.types t) others (judged_of k x))))) result

-- in both steps, in a statement or declaration that begins at this place, from these decisions to those
abbrev pub IsNewValue : Site → (old new : Decisions) → Pos → Subtype → Initial → Result NewValue (Failure Refusal)
    → Type 0
IsNewValue site old new p t i result =
    (k : Tables) (env : Env) (s : State) → StandsAt site k env
    → Answers (λ v. given (new_value_of k v) (counted new s))
    (declarations.new_value env (counted old s) p (subtype_of k.types t) i).answer result
