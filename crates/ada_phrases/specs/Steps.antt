-- The parts of names and expressions that grow to the right, one by one.
use Rattle.std.specs.Prelude.{ℕ, List, map, Option, option_map, Result, Ok, Err}
use Rattle.std.specs.declared.alloc.Global.{Global}
use Rattle.std.specs.declared.vec.Vec.{Vec}
use Rattle.cov_base.specs.declared.position.Pos.{Pos}
use Rattle.cov_base.specs.declared.failure.Failure.{Failure}
use Rattle.ada_syntax.specs.Tree as source
use Rattle.ada_syntax.specs.TreeView.{exprs_of}
use Rattle.ada_syntax.specs.declared.expr.LogicalOperator.{LogicalOperator}
use Rattle.ada_syntax.specs.declared.expr.Operand.{Operand}
use Rattle.ada_syntax.specs.declared.name.Suffix.{Suffix}
use Rattle.ada_syntax.specs.declared.name.Suffix.TheVariants as suffix
use Rattle.ada_meaning.specs.Tree as tree
use Rattle.ada_rules.specs.Plan.{Plan, ◌>>=◌, answer_at}
use Rattle.ada_rules.specs.Entities.{key}
use Rattle.ada_rules.specs.Environment.{Step, typed_rule, State, Given, given, Env}
use Rattle.ada_rules.specs.Denoted as rules
use Rattle.ada_rules.specs.Denoted.{a_thing, applied_to, binary_of}
use Rattle.ada_rules.specs.Expressions.{itself, operand, named, selection, attribution, typed_as, judged, all_judged}
use Rattle.ada_entities.specs.declared.entity.Entity.{Entity}
use Rattle.ada_entities.specs.declared.fault.Refusal.{Refusal}
use Rattle.ada_entities.specs.Answers.{Answers}
use Rattle.ada_entities.specs.EntityViews.{Tables, entity_of}
use Rattle.ada_judged.specs.declared.judged.Judged.{Judged}
use Rattle.ada_judged.specs.JudgedView.{judged_of}
use Rattle.ada_phrases.specs.declared.names.Denoted.{Denoted}
use Rattle.ada_phrases.specs.declared.scope.Scope.{Scope}
use Rattle.ada_phrases.specs.Scopes.{StandsIn}
use Rattle.ada_phrases.specs.DenotedView.{denotes}
use Rattle.ada_phrases.specs.Closing.{closing_in}

-- one more operand of an operator with two
abbrev pub operand_in : Env → Pos → Given rules.Judged → Operand → Plan (Given rules.Judged)
operand_in env p x o = judged env itself x.next o.operand >>= (λ y. typed_as env y.next (binary_of p
    o.operator x.value y.value))

-- one more operand of a logical operator
abbrev pub joined_in : Env → Pos → LogicalOperator → Given rules.Judged → source.Expr → Plan (Given rules.Judged)
joined_in env p op x e = judged env operand x.next e >>= (λ y. typed_as env y.next (rules.joined p op x.value y.value))

-- one more part of a name
abbrev pub applied_in : Env → Pos → Given rules.Denoted → source.Exprs → Plan (Given rules.Denoted)
applied_in env p d es =
    all_judged env d.next p es
    >>= (λ xs. typed_rule env.step (given a_thing xs.next) (option_map (λ x. given x xs.next) (applied_to
    d.value xs.value)))

abbrev pub suffix_in : Env → Pos → Given rules.Denoted → Suffix → Plan (Given rules.Denoted)
suffix_in env p d (suffix.Selected i) = selection env d.next d.value (key i)
suffix_in env p d (suffix.Attribute i) = attribution env d.next d.value (key i)
suffix_in env p d (suffix.Applied es) = applied_in env p d (exprs_of es.items)

-- a decision that is closed, where all its operands pass
abbrev pub finished : Step → Option tree.Label → Pos → Result (Given rules.Judged) Pos → Result (Given rules.Judged) Pos
finished step l p (Ok g) = Ok (closing_in step l p g)
finished step l p (Err q) = Err q

-- a name at this place that denotes an entity
abbrev pub IsNamed : Pos → Option Entity → Result Denoted (Failure Refusal) → Type 0
IsNamed p x result =
    (k : Tables) (s : State)
    → Answers (λ d. given (denotes k d) s) (answer_at p (named s (option_map (entity_of k) x)).outcome) result

-- a part or an attribute of what a name at this place denotes
abbrev pub IsSelected : Scope → Pos → (prefix : Denoted) → List ℕ → Result Denoted (Failure Refusal) → Type 0
IsSelected scope p prefix name result =
    (k : Tables) (env : Env) (s : State) → StandsIn scope k env
    → Answers (λ d. given (denotes k d) s) (answer_at p (selection env s (denotes k prefix) name).outcome) result

abbrev pub IsAttributed : Scope → Pos → (prefix : Denoted) → List ℕ → Result Denoted (Failure Refusal) → Type 0
IsAttributed scope p prefix name result =
    (k : Tables) (env : Env) (s : State) → StandsIn scope k env
    → Answers (λ d. given (denotes k d) s) (answer_at p (attribution env s (denotes k prefix) name).outcome) result

-- expressions, one by one
abbrev pub all_judged_of : Tables → Vec Judged Global → List rules.Judged
all_judged_of k xs = map (judged_of k) xs.items
