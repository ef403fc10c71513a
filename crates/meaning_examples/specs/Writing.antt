-- Short words for the trees of the examples, and for what is observed of an execution.
use Rattle.std.specs.Prelude.{◌≡◌, ℕ, ◌+◌, ◌*◌, ℤ, pos, negsuc, List, [], ◌∷◌, ◌++◌, map, Option, Some, None, reverse}
use Rattle.cov_base.specs.declared.position.Pos.{Pos}
use Rattle.cov_base.specs.declared.event.Event.{Event}
use Rattle.cov_base.specs.declared.event.Event.TheVariants.{Start, Done}
use Rattle.ada_meaning.specs.Types.{Range, between, static_number, Subtype, scalar, array, addition, subtraction, division, equal, less, greater, here}
use Rattle.ada_meaning.specs.Tree.{Label, local_object, test_get, test_put, subprogram, Expr, literal, read, call, operation, relation, whole, Actuals, no_actual, by_expression, by_variable, Test, condition, NewValue, scalar_value, composite_value, others_value, Declaration, initialized, without_value, Stmt, assignment, procedure_call, if_statement, return_value, Stmts, no_statement, and_statement, branch, else_part, Handlers, handler, named_exception, predefined, block}
use Rattle.ada_meaning.specs.Program.{in_mode, Parameter, Subprogram, Program}
use Rattle.ada_meaning.specs.State.{Outcome, Gives, Raises, OutOfFuel}
use Rattle.ada_meaning.specs.Execution.{Ending, by_return, by_exception, exec}

-- a place in the file with this number
abbrev pub in_file : ℕ → ℕ → ℕ → Pos
in_file file line column = record { file = file; line = line; col = column }

-- a place in the first file
abbrev pub place : ℕ → ℕ → Pos
place line column = in_file 0 line column

-- the statement or decision with this number, at a line and a column of the first file
abbrev pub at : ℕ → ℕ → ℕ → Label
at n line column = record { number = n; place = place line column }

abbrev pub integer : Range
integer = between (static_number (negsuc 2147483647)) (static_number (pos 2147483647))

abbrev pub natural : Range
natural = between (static_number (pos 0)) (static_number (pos 2147483647))

abbrev pub positive : Range
positive = between (static_number (pos 1)) (static_number (pos 2147483647))

abbrev pub boolean : Range
boolean = between (static_number (pos 0)) (static_number (pos 1))

abbrev pub number : ℕ → Expr
number n = literal (pos n)

-- a local scalar variable or parameter
abbrev pub var : ℕ → Expr
var d = read (local_object d) whole

abbrev pub plus : Expr → Expr → Expr
plus e f = operation addition e f

abbrev pub minus : Expr → Expr → Expr
minus e f = operation subtraction e f

abbrev pub over : Expr → Expr → Expr
over e f = operation division e f

abbrev pub is_equal : Expr → Expr → Expr
is_equal e f = relation equal e f

abbrev pub is_less : Expr → Expr → Expr
is_less e f = relation less e f

abbrev pub exceeds : Expr → Expr → Expr
exceeds e f = relation greater e f

-- a condition at a line and a column of the first file
abbrev pub asks : ℕ → ℕ → Expr → Test
asks line column e = condition (place line column) e

infixr 5 ◌next◌
abbrev pub ◌next◌ : Stmt → Stmts → Stmts
◌next◌ s ss = and_statement s ss

abbrev pub ended_here : Stmts
ended_here = no_statement

abbrev pub put : Label → Expr → Stmt
put l e = procedure_call l test_put (by_expression e no_actual)

-- Get of a local variable of subtype Integer
abbrev pub get_var : Label → ℕ → Stmt
get_var l d = procedure_call l test_get (by_variable (local_object d) whole integer no_actual)

-- assigns to a local variable of subtype Integer
abbrev pub set_var : Label → ℕ → Expr → Stmt
set_var l d e = assignment l (local_object d) whole (scalar_value integer e)

-- an if statement without elsif and else
abbrev pub if_only : Label → Label → Test → Stmts → Stmt
if_only l d t ss = if_statement l (branch d t ss (else_part no_statement))

-- a return from a function with a result of subtype Boolean
abbrev pub return_truth : Label → Expr → Stmt
return_truth l e = return_value l boolean e

abbrev pub false_value : Expr
false_value = number 0

abbrev pub true_value : Expr
true_value = number 1

-- a local variable of subtype Integer, with and without an initial expression
abbrev pub integer_is : Label → ℕ → Expr → Declaration
integer_is l d e = initialized l d (scalar_value integer e)

abbrev pub some_integer : ℕ → Declaration
some_integer d = without_value d (scalar integer)

-- a handler of one predefined exception
abbrev pub on_exception : ℕ → Stmts → Handlers → Handlers
on_exception e ss hs = handler (named_exception (predefined e) ∷ []) ss hs

-- the subtype of an object that is set to a value when it is declared, and of a declaration's object
abbrev pub subtype_set : NewValue → Subtype
subtype_set (scalar_value r e) = scalar r
subtype_set (composite_value t o parts) = t
subtype_set (others_value r v) = array r (subtype_set v)

abbrev pub declared_subtype : Declaration → Subtype
declared_subtype (initialized l d v) = subtype_set v
declared_subtype (without_value d t) = t

-- a body without objects in its statements
abbrev pub body : List Parameter → List Declaration → Stmts → Handlers → Subprogram
body ps ds ss hs = record {
  generic = None;
  parameters = ps;
  objects = map (λ q. q.subtype) ps ++ map declared_subtype ds;
  body = block ds ss hs;
}

-- one in the text of the generic with this number
abbrev pub generic_body : ℕ → List Parameter → List Declaration → Stmts → Handlers → Subprogram
generic_body g ps ds ss hs = record (body ps ds ss hs) { generic = Some g }

-- a body that declares objects of these subtypes in its statements: those of blocks, and loop parameters
abbrev pub declaring : List Subtype → Subprogram → Subprogram
declaring ts s = record s { objects = s.objects ++ ts }

-- a parameter of mode in and subtype Integer
abbrev pub integer_in : ℕ → Parameter
integer_in d = record { declaration = d; mode = in_mode; subtype = scalar integer }

-- a program without packages: its subprograms, the last of which is the main one
abbrev pub plain : List Subprogram → ℕ → Program
plain ss main = record { subprograms = ss; main = main; objects = []; constants = []; instances = []; declared = []; exceptions = [] }

-- a call of the subprogram with this number, in no generic
abbrev pub calls : ℕ → Actuals → Expr
calls n actuals = call (subprogram here n) actuals

-- the marks of a vector: True, False and not evaluated
pub data Mark : Type 0 where
  T : Mark
  F : Mark
  N : Mark

abbrev pub bits_seen : ℕ → List Mark → ℕ
bits_seen bit [] = 0
bits_seen bit (T ∷ ms) = bit + bits_seen (2 * bit) ms
bits_seen bit (F ∷ ms) = bit + bits_seen (2 * bit) ms
bits_seen bit (N ∷ ms) = bits_seen (2 * bit) ms

abbrev pub bits_true : ℕ → List Mark → ℕ
bits_true bit [] = 0
bits_true bit (T ∷ ms) = bit + bits_true (2 * bit) ms
bits_true bit (F ∷ ms) = bits_true (2 * bit) ms
bits_true bit (N ∷ ms) = bits_true (2 * bit) ms

-- the start of a statement, and the end of a decision's evaluation, in an instance
abbrev pub starts_in : ℕ → ℕ → Event
starts_in inst n = Start (record { 0 = n }) (record { 0 = inst })

abbrev pub gives_in : ℕ → ℕ → List Mark → Event
gives_in inst n ms = Done (record { 0 = n }) (record { 0 = inst }) (record { seen = bits_seen 1 ms; value = bits_true 1 ms })

-- the same in no generic
abbrev pub starts : ℕ → Event
starts n = starts_in 0 n

abbrev pub gives : ℕ → List Mark → Event
gives n ms = gives_in 0 n ms

-- what is observed of an execution beside its cost
pub record Observed : Type 0 where
  pub ending : Ending
  pub output : List ℤ
  pub events : List Event

-- what an outcome shows, in order; none where the fuel ran out
abbrev pub observed : {A : Type 0} → Outcome A → Option Observed
observed (Gives a w) = Some (record { ending = by_return; output = reverse w.seen.output; events = reverse w.seen.events })
observed (Raises e w) = Some (record { ending = by_exception e; output = reverse w.seen.output; events = reverse w.seen.events })
observed (OutOfFuel w) = None

-- under this fuel the execution of a program on an input ends with this ending, this output and these events
abbrev pub Shows : Program → ℕ → List ℤ → Ending → List ℤ → List Event → Type 0
Shows p fuel input ending output events =
    observed (exec p fuel input) ≡ Some (record { ending = ending; output = output; events = events })
