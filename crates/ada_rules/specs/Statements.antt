-- The cases of statements (Ada RM 2012, 5, 6.4, 6.5, 11.2, 11.3).
use Rattle.std.specs.Prelude.{ℕ, nat_eq, ◌+◌, pos, Bool, true, false, not, ◌&&◌, ◌||◌, List, [], ◌∷◌, ◌++◌, length, Option, Some, None, option_map, is_none, unwrap_or, if◌then◌else◌}
use Rattle.std.specs.Option.{option_and_then}
use Rattle.cov_base.specs.declared.position.Pos.{Pos}
use Rattle.ada_syntax.specs.Tree as source
use Rattle.ada_syntax.specs.Tree.{expr_pos, name_pos}
use Rattle.ada_syntax.specs.StatementTree as text
use Rattle.ada_syntax.specs.declared.declaration.Declaration.{Declaration}
use Rattle.ada_syntax.specs.declared.declaration.DiscreteRange.{DiscreteRange}
use Rattle.ada_syntax.specs.declared.declaration.DiscreteRange.TheVariants as discrete
use Rattle.ada_syntax.specs.declared.statement.Choice.{Choice}
use Rattle.ada_syntax.specs.declared.statement.Choice.TheVariants as choice
use Rattle.ada_syntax.specs.declared.statement.Direction.{Direction}
use Rattle.ada_syntax.specs.declared.statement.Direction.TheVariants as direction
use Rattle.ada_syntax.specs.declared.statement.ExceptionChoice.{ExceptionChoice}
use Rattle.ada_syntax.specs.declared.statement.ExceptionChoice.TheVariants as taken
use Rattle.ada_syntax.specs.declared.statement.LoopScheme.TheVariants as scheme
use Rattle.ada_meaning.specs.Tree as tree
use Rattle.ada_meaning.specs.Types.{Static}
use Rattle.ada_rules.specs.Plan.{Plan, Judgement, ◌>>=◌, rule, construct}
use Rattle.ada_rules.specs.Types.{AdaType, AdaSubtype, of_type, type_in, range_in, base, integer_subtype, Kind, is_discrete, fits, common, settled, subtype_in_tree}
use Rattle.ada_rules.specs.Statics.{Spans, within, between_static, Test, chosen_in, in_order, covers}
use Rattle.ada_rules.specs.Entities.{key, Variable, Routine, Entity, object, type_values}
use Rattle.ada_rules.specs.Environment.{typed_rule, Returning, no_result, result_of, State, Given, given, Env, with_local, opened, in_loop, in_handler, demanded, hide, statement_label, started}
use Rattle.ada_rules.specs.Denoted.{Judged, expr_of, Denoted, a_variable, a_routine, a_call, an_exception, called_bare}
use Rattle.ada_rules.specs.Expressions.{itself, denoted, judged, decision, static_part, scalar_mark}
use Rattle.ada_rules.specs.Declarations.{new_value, all_declared}

abbrev pub stmts_of : List tree.Stmt → tree.Stmts
stmts_of [] = tree.no_statement
stmts_of (x ∷ xs) = tree.and_statement x (stmts_of xs)

-- a statement of the typed program
abbrev pub one : tree.Stmt → State → Given (List tree.Stmt)
one x s = given (x ∷ []) s

-- the target of an assignment: a variable (RM 5.2)
abbrev pub any_variable : Variable
any_variable = record {
  object = tree.local_object 0;
  parts = tree.whole;
  subtype = integer_subtype;
  is_writable = true;
  is_indexed = false;
  known = None;
  values = within base;
}

abbrev pub writable : Denoted → Option Variable
writable (a_variable v) = if v.is_writable then Some v else None
writable d = None

abbrev pub target : Env → State → source.Name → Judgement (Given Variable)
target env s n = construct (name_pos n) (do
  d ← denoted env s n
  typed_rule env.step (given any_variable d.next) (option_map (λ v. given v d.next) (writable d.value)))

-- a call of a procedure (RM 6.4)
abbrev pub procedure_called : tree.Label → Routine → tree.Actuals → Option tree.Stmt
procedure_called l r actuals = if is_none r.result then Some (tree.procedure_call l r.callee actuals) else None

abbrev pub call_of : tree.Label → Denoted → Option tree.Stmt
call_of l (a_routine r) = called_bare r (procedure_called l r tree.no_actual)
call_of l (a_call r actuals) = procedure_called l r actuals
call_of l d = None

-- a branch of an if statement (RM 5.3)
pub record Chosen : Type 0 where
  pub label : tree.Label
  pub test : tree.Test
  pub statements : List tree.Stmt

abbrev pub branches_of : List Chosen → List tree.Stmt → tree.Branches
branches_of [] other = tree.else_part (stmts_of other)
branches_of (c ∷ cs) other = tree.branch c.label c.test (stmts_of c.statements) (branches_of cs other)

-- the selector of a case statement: its values are those of its subtype, where it is an object, a call or a conversion
-- (RM 5.4)
pub record Selector : Type 0 where
  pub expr : tree.Expr
  pub type : AdaType
  pub values : Spans

abbrev pub any_selector : Selector
any_selector = record { expr = tree.literal (pos 0); type = type_in integer_subtype; values = within base }

abbrev pub selector_of : Judged → Option Selector
selector_of x =
    if is_discrete x.kind
    then Some (record { expr = expr_of x; type = settled x.kind; values = unwrap_or x.values (type_values (settled x.kind)) })
    else None

abbrev pub selector : Env → State → source.Expr → Judgement (Given Selector)
selector env s e = construct (expr_pos e) (do
  x ← judged env itself s e
  typed_rule env.step (given any_selector x.next) (option_map (λ y. given y x.next) (selector_of x.value)))

-- a choice: static, and among the values that are named (RM 5.4)
abbrev pub among : Spans → Static → Test
among values e = chosen_in e values

abbrev pub chosen : Env → State → Selector → Choice → Judgement (Given tree.Choice)
chosen env s x (choice.Value e) = construct (expr_pos e) (do
  v ← static_part env s (fits x.type) (among x.values) e
  rule (Some (given (tree.value_choice v.value.value) v.next)))
chosen env s x (choice.Range b) = construct (expr_pos b.low) (do
  low ← static_part env s (fits x.type) (among x.values) b.low
  high ← static_part env low.next (fits x.type) (among x.values) b.high
  rule (Some (given (tree.range_choice low.value.value high.value.value)
      (demanded env (expr_pos b.low) (in_order low.value.value high.value.value) high.next))))
chosen env s x (choice.Others p) = construct p (rule (Some (given tree.other_values s)))

abbrev pub all_chosen : Env → State → Selector → Pos → List Choice → Judgement (Given (List tree.Choice))
all_chosen env s x p [] = construct p (rule (Some (given [] s)))
all_chosen env s x p (c ∷ cs) = construct p (do
  d ← chosen env s x c
  ds ← all_chosen env d.next x p cs
  rule (Some (given (d.value ∷ ds.value) ds.next)))

-- an alternative of a case statement
pub record Arm : Type 0 where
  pub choices : List tree.Choice
  pub statements : List tree.Stmt

abbrev pub alternatives_of : List Arm → tree.Alternatives
alternatives_of [] = tree.no_alternative
alternatives_of (a ∷ rest) = tree.alternative a.choices (stmts_of a.statements) (alternatives_of rest)

abbrev pub is_others : tree.Choice → Bool
is_others tree.other_values = true
is_others c = false

abbrev pub has_others : List tree.Choice → Bool
has_others [] = false
has_others (c ∷ cs) = is_others c || has_others cs

abbrev pub choices_in : List Arm → List tree.Choice
choices_in [] = []
choices_in (a ∷ rest) = a.choices ++ choices_in rest

-- `others` stands alone in the last alternative (RM 5.4)
abbrev pub ends_with_others : List Arm → Bool
ends_with_others [] = true
ends_with_others (a ∷ []) = not (has_others a.choices) || nat_eq (length a.choices) 1
ends_with_others (a ∷ rest) = not (has_others a.choices) && ends_with_others rest

abbrev pub case_of : Env → State → Pos → Selector → Given (List Arm) → Option (Given (List tree.Stmt))
case_of env before p x arms =
    if ends_with_others arms.value
    then Some (one (tree.case_statement (statement_label before p) x.expr (alternatives_of arms.value))
    (demanded env p (covers x.values (has_others (choices_in arms.value)) (choices_in arms.value)) arms.next))
    else None

-- the range of a loop parameter, its subtype, and the values that a case on it names (RM 5.5)
pub record Turns : Type 0 where
  pub over : tree.LoopRange
  pub subtype : AdaSubtype
  pub values : Spans

abbrev pub any_turns : Turns
any_turns = record { over = tree.over_subtype base; subtype = integer_subtype; values = within base }

abbrev pub values_between : Option Static → Option Static → AdaType → Spans
values_between (Some a) (Some b) t = between_static a b (type_values t)
values_between a b t = type_values t

abbrev pub turns_between : Judged → Judged → Kind → Option Turns
turns_between x y k =
    if is_discrete k
    then Some (record {
      over = tree.over_bounds (expr_of x) (expr_of y);
      subtype = of_type (settled k) base;
      values = values_between x.known y.known (settled k);
    })
    else None

abbrev pub turns_over : AdaSubtype → Turns
turns_over t = record { over = tree.over_subtype (range_in t); subtype = t; values = within (range_in t) }

abbrev pub turned : Env → State → DiscreteRange → Judgement (Given Turns)
turned env s (discrete.Mark n) = construct (name_pos n) (do
  m ← scalar_mark env s n
  rule (Some (given (turns_over m.value.subtype) m.next)))
turned env s (discrete.Bounds b) = construct (expr_pos b.low) (do
  x ← judged env itself s b.low
  y ← judged env itself x.next b.high
  typed_rule env.step (given any_turns y.next)
      (option_map (λ t. given t y.next) (option_and_then (turns_between x.value y.value) (common x.value.kind y.value.kind))))

abbrev pub loop_parameter : ℕ → Turns → Entity
loop_parameter n t = object (record {
  object = tree.local_object n;
  parts = tree.whole;
  subtype = t.subtype;
  is_writable = false;
  is_indexed = false;
  known = None;
  values = t.values;
})

-- a loop parameter has one word
abbrev pub one_object_more : Pos → AdaSubtype → State → State
one_object_more p t s =
    record s { objects = s.objects + 1; words = record { place = p; subtype = subtype_in_tree t } ∷ s.words }

abbrev pub is_reverse : Direction → Bool
is_reverse direction.Forward = false
is_reverse direction.Reverse = true

-- `return` gives what the subprogram returns (RM 6.5)
abbrev pub returned : tree.Label → Returning → Option tree.Stmt
returned l no_result = Some (tree.return_statement l)
returned l (result_of t) = None

abbrev pub returned_value : tree.Label → Judged → Returning → Option tree.Stmt
returned_value l x no_result = None
returned_value l x (result_of t) =
    if fits (type_in t) x.kind then Some (tree.return_value l (range_in t) (expr_of x)) else None

-- an exception by name (RM 11.2, 11.3)
abbrev pub exception_of : Denoted → Option tree.ExceptionName
exception_of (an_exception e) = Some e
exception_of d = None

abbrev pub where_allowed : {A : Type 0} → Bool → A → Option A
where_allowed b x = if b then Some x else None

-- a choice of a handler; `others` stands alone in the last one (RM 11.2)
abbrev pub caught : Env → State → Bool → ExceptionChoice → Judgement (Given tree.ExceptionChoice)
caught env s may_be_others (taken.Named n) = construct (name_pos n) (do
  d ← denoted env s n
  typed_rule env.step (given tree.other_exceptions d.next) (option_map (λ e. given (tree.named_exception e) d.next) (exception_of d.value)))
caught env s may_be_others (taken.Others p) = construct p
    (typed_rule env.step (given tree.other_exceptions s) (where_allowed may_be_others (given tree.other_exceptions s)))

abbrev pub all_caught : Env → State → Bool → Pos → List ExceptionChoice → Judgement (Given (List tree.ExceptionChoice))
all_caught env s may_be_others p [] = construct p (rule (Some (given [] s)))
all_caught env s may_be_others p (c ∷ cs) = construct p (do
  d ← caught env s may_be_others c
  ds ← all_caught env d.next may_be_others p cs
  rule (Some (given (d.value ∷ ds.value) ds.next)))

abbrev pub is_last : text.Handlers → Bool
is_last text.no_handlers = true
is_last (text.handler cs ss hs) = false

abbrev pub declarations_in : Option (List Declaration) → List Declaration
declarations_in None = []
declarations_in (Some ds) = ds

-- the statements and the handlers of a body or a block
pub record Frame : Type 0 where
  pub statements : List tree.Stmt
  pub handlers : tree.Handlers

abbrev pub block_of : List tree.Declaration → Frame → tree.Block
block_of ds f = tree.block ds (stmts_of f.statements) f.handlers

-- a rule on types that a statement has to pass
abbrev pub typed_stmt : Env → tree.Label → State → Option tree.Stmt → Plan (Given (List tree.Stmt))
typed_stmt env l s o = typed_rule env.step (one (tree.null_statement l) s) (option_map (λ x. one x s) o)

abbrev mutual
  -- a statement (RM 5.1)
  pub stated : Env → State → text.Statement → Judgement (Given (List tree.Stmt))
  stated env s (text.null p) = construct p (rule (Some (one (tree.null_statement (statement_label s p)) (started s))))
  stated env s (text.assignment p n i) = construct p (do
    v ← target env (started s) n
    x ← new_value env v.next p v.value.subtype i
    rule (Some (one (tree.assignment (statement_label s p) v.value.object v.value.parts x.value.value) x.next)))
  stated env s (text.call p n) = construct p (do
    d ← denoted env (started s) n
    typed_stmt env (statement_label s p) d.next (call_of (statement_label s p) d.value))
  stated env s (text.exemption p a) = construct p (rule (Some (given [] s)))
  stated env s (text.conditional p e ss bs es) = construct p (do
    t ← decision env (started s) p e
    xs ← all_stated env t.next p ss
    ys ← branched env xs.next p bs
    zs ← all_stated env ys.next p es
    rule (Some (one (tree.if_statement (statement_label s p)
        (tree.branch t.value.0 t.value.1 (stmts_of xs.value) (branches_of ys.value zs.value))) zs.next)))
  stated env s (text.case_of p e alternatives) = construct p (do
    x ← selector env (started s) e
    arms ← all_arms env x.next x.value p alternatives
    typed_rule env.step (one (tree.null_statement (statement_label s p)) arms.next) (case_of env s p x.value arms))
  stated env s (text.repeat p scheme.Forever ss) = construct p (do
    xs ← all_stated (in_loop env) (started s) p ss
    rule (Some (one (tree.bare_loop (statement_label s p) (stmts_of xs.value)) xs.next)))
  stated env s (text.repeat p (scheme.While e) ss) = construct p (do
    t ← decision env (started s) p e
    xs ← all_stated (in_loop env) t.next p ss
    rule (Some (one (tree.while_loop (statement_label s p) t.value.0 t.value.1 (stmts_of xs.value)) xs.next)))
  stated env s (text.repeat p (scheme.For i d r) ss) = construct p (do
    region ← hide [] i
    t ← turned (with_local (opened env) region) (started s) r
    xs ← all_stated (in_loop (with_local (opened env) ((key i, loop_parameter t.next.objects t.value) ∷ [])))
        (one_object_more p t.value.subtype t.next) p ss
    rule (Some (one (tree.for_loop (statement_label s p) t.next.objects (is_reverse d) t.value.over (stmts_of xs.value)) xs.next)))
  stated env s (text.exit p None) = construct p
      (typed_stmt env (statement_label s p) (started s) (where_allowed env.is_looping (tree.exit_statement (statement_label s p))))
  stated env s (text.exit p (Some e)) = construct p (do
    t ← decision env (started s) p e
    typed_stmt env (statement_label s p) t.next (where_allowed env.is_looping (tree.exit_when (statement_label s p) t.value.0 t.value.1)))
  stated env s (text.returns p None) = construct p
      (typed_stmt env (statement_label s p) (started s) (returned (statement_label s p) env.returning))
  stated env s (text.returns p (Some e)) = construct p (do
    x ← judged env itself (started s) e
    typed_stmt env (statement_label s p) x.next (returned_value (statement_label s p) x.value env.returning))
  stated env s (text.raise p None) = construct p
      (typed_stmt env (statement_label s p) (started s) (where_allowed env.is_handling (tree.raise_again (statement_label s p))))
  stated env s (text.raise p (Some n)) = construct p (do
    d ← denoted env (started s) n
    typed_stmt env (statement_label s p) d.next (option_map (tree.raise_statement (statement_label s p)) (exception_of d.value)))
  stated env s (text.block p ds h) = construct p (do
    x ← all_declared (opened env) s p (declarations_in ds)
    f ← all_handled (with_local (opened env) x.region) x.next p h
    rule (Some (one (tree.block_statement (block_of x.made f.value)) f.next)))

  -- statements in order
  pub all_stated : Env → State → Pos → text.Statements → Judgement (Given (List tree.Stmt))
  all_stated env s p text.no_statements = construct p (rule (Some (given [] s)))
  all_stated env s p (text.then_also x xs) = construct p (do
    y ← stated env s x
    ys ← all_stated env y.next p xs
    rule (Some (given (y.value ++ ys.value) ys.next)))

  -- `elsif` and what follows it (RM 5.3)
  pub branched : Env → State → Pos → text.Branches → Judgement (Given (List Chosen))
  branched env s p text.no_branches = construct p (rule (Some (given [] s)))
  branched env s p (text.branch e ss bs) = construct p (do
    t ← decision env s p e
    xs ← all_stated env t.next p ss
    ys ← branched env xs.next p bs
    rule (Some (given (record { label = t.value.0; test = t.value.1; statements = xs.value } ∷ ys.value) ys.next)))

  -- the alternatives of a case statement (RM 5.4)
  pub all_arms : Env → State → Selector → Pos → text.Alternatives → Judgement (Given (List Arm))
  all_arms env s x p text.no_alternatives = construct p (rule (Some (given [] s)))
  all_arms env s x p (text.alternative cs ss rest) = construct p (do
    ds ← all_chosen env s x p cs
    xs ← all_stated env ds.next p ss
    ys ← all_arms env xs.next x p rest
    rule (Some (given (record { choices = ds.value; statements = xs.value } ∷ ys.value) ys.next)))

  -- handlers (RM 11.2)
  pub all_handlers : Env → State → Pos → text.Handlers → Judgement (Given tree.Handlers)
  all_handlers env s p text.no_handlers = construct p (rule (Some (given tree.no_handler s)))
  all_handlers env s p (text.handler cs ss hs) = construct p (do
    ds ← all_caught env s (is_last hs && nat_eq (length cs) 1) p cs
    xs ← all_stated (in_handler env) ds.next p ss
    ys ← all_handlers env xs.next p hs
    rule (Some (given (tree.handler ds.value (stmts_of xs.value) ys.value) ys.next)))

  -- the statements of a body or a block, and their handlers
  pub all_handled : Env → State → Pos → text.Handled → Judgement (Given Frame)
  all_handled env s p (text.handled ss hs) = construct p (do
    xs ← all_stated env s p ss
    ys ← all_handlers env xs.next p hs
    rule (Some (given (record { statements = xs.value; handlers = ys.value }) ys.next)))

abbrev mutual
  -- whether there is a `return` in statements (RM 6.5)
  pub has_return : text.Statement → Bool
  has_return (text.returns p e) = true
  has_return (text.conditional p e ss bs es) = any_return ss || branches_return bs || any_return es
  has_return (text.case_of p e rest) = arms_return rest
  has_return (text.repeat p r ss) = any_return ss
  has_return (text.block p ds h) = frame_returns h
  has_return x = false

  pub any_return : text.Statements → Bool
  any_return text.no_statements = false
  any_return (text.then_also x xs) = has_return x || any_return xs

  pub branches_return : text.Branches → Bool
  branches_return text.no_branches = false
  branches_return (text.branch e ss bs) = any_return ss || branches_return bs

  pub arms_return : text.Alternatives → Bool
  arms_return text.no_alternatives = false
  arms_return (text.alternative cs ss rest) = any_return ss || arms_return rest

  pub handlers_return : text.Handlers → Bool
  handlers_return text.no_handlers = false
  handlers_return (text.handler cs ss hs) = any_return ss || handlers_return hs

  pub frame_returns : text.Handled → Bool
  frame_returns (text.handled ss hs) = any_return ss || handlers_return hs
