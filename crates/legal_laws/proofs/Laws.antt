-- The laws of the layers, over lists of types and of visible objects.
use Rattle.std.proofs.Common.{◌≡◌, ◌≤◌, ℕ, Bool, true, false, List, length, Some, IfOk, slice_get}
use Rattle.std.specs.Prelude.{unwrap_or}
use Rattle.cov_base.specs.declared.position.Pos.{Pos}
use Rattle.ada_syntax.specs.StatementTree.{Statements}
use Rattle.ada_syntax.specs.declared.declaration.Declaration.{Declaration}
use Rattle.ada_syntax.specs.declared.unit.SubprogramBody.{SubprogramBody}
use Rattle.ada_meaning.specs.Bodies.{StandsIn}
use Rattle.ada_meaning.specs.Declared.{object_shape}
use Rattle.ada_meaning.specs.Program.{Subprogram, Program}
use Rattle.ada_meaning.specs.Shape.{Shape}
use Rattle.ada_meaning.specs.Tree.{Object}
use Rattle.ada_meaning.specs.WellFormed.{AreDeclarations, AreStatements, StartSees, most_parameters}
use Rattle.ada_rules.specs.Declarations.{declared, all_declared}
use Rattle.ada_rules.specs.Entities.{key}
use Rattle.ada_rules.specs.Environment.{Env, State, owner_of, opened}
use Rattle.ada_rules.specs.Statements.{stmts_of, all_stated}
use Rattle.ada_rules.specs.Statics.{Facts}
use Rattle.ada_rules.specs.Subprograms.{body_number, packaged_body}
use Rattle.ada_rules.specs.Types.{AdaType}
use Rattle.ada_rules.specs.Units.{at_unit, subprogram_body}
use Rattle.legal_laws.specs.Known.{IsOneOf}
use Rattle.legal_laws.specs.LibraryLevel.{AreObjects, AreFormed}
use Rattle.legal_laws.specs.Served.{IsFinal, IsFormedBy}
use Rattle.legal_laws.specs.Standing.{Stands, ReturnsAs}
use Rattle.legal_laws.specs.Valued.{AreFactsOf}
use Rattle.legal_laws.specs.Written.{IsWritten, AreWritten, AreStatementTexts, IsBodyText}
use Rattle.legal_laws.proofs.Passing.{weaker_ok}
use Rattle.legal_laws.proofs.KnownDeclarations.{AreAllMade, declarations_known}
use Rattle.legal_laws.proofs.KnownStatements.{all_known}
use Rattle.legal_laws.proofs.LibraryDeclarations.{Made, library_known}
use Rattle.legal_laws.proofs.UnitBodies.{subprogram_known, packaged_known}

pub declarations_law : (p : Program) (facts : List Facts) → AreFactsOf p facts → (inst : ℕ)
    (shape_of : Object → Shape) (types : List AdaType) (seen : List Object) (env : Env) (s : State) (q : Pos) (ds : List Declaration)
    → Stands p inst shape_of (IsOneOf types) (IsOneOf seen) env s → env.is_library ≡ false → AreWritten ds
    → IfOk (all_declared env s q ds).answer
    (λ x. IsFinal facts inst p shape_of env.generic x.next → AreDeclarations p inst shape_of (IsOneOf seen) x.made)
declarations_law p facts all inst shape_of types seen env s q ds st inside written =
    weaker_ok (λ x. IsFinal facts inst p shape_of env.generic x.next → AreAllMade p facts all.0 all.1 inst shape_of (IsOneOf types) (IsOneOf seen) env x)
    (λ x. IsFinal facts inst p shape_of env.generic x.next → AreDeclarations p inst shape_of (IsOneOf seen) x.made) (all_declared env s q ds).answer
    (declarations_known p facts all.0 all.1 inst shape_of (IsOneOf types) (IsOneOf seen) env s q ds st inside written) (λ x h kept. (h kept).made)

pub statements_law : (p : Program) (facts : List Facts) → AreFactsOf p facts → (inst : ℕ)
    (shape_of : Object → Shape) (function : Bool) (types : List AdaType) (seen : List Object) (env : Env) (s : State) (q : Pos) (ss : Statements)
    → Stands p inst shape_of (IsOneOf types) (IsOneOf seen) env s → ReturnsAs p inst (IsOneOf types) function env.returning → AreStatementTexts ss
    → IfOk (all_stated env s q ss).answer (λ g. IsFinal facts inst p shape_of env.generic g.next
    → AreStatements p inst shape_of function (IsOneOf seen) env.is_looping env.is_handling (stmts_of g.value))
statements_law p facts all inst shape_of function types seen env s q ss st returns written =
    all_known p facts all.0 all.1 inst shape_of function (IsOneOf types) (IsOneOf seen) env s q ss st returns written

pub packaged_law : (p : Program) (facts : List Facts) → AreFactsOf p facts → (inst : ℕ) (sub : Subprogram)
    (types : List AdaType) (env : Env) (s : State) (b : SubprogramBody) (n : ℕ)
    → Stands p inst (object_shape p inst sub) (IsOneOf types) (StartSees p inst sub) (opened env) s → IsBodyText b → length sub.parameters ≤ most_parameters
    → slice_get p.subprograms n ≡ Some sub → StandsIn p sub.generic inst
    → unwrap_or (body_number env.world env.unit_name (key b.specification.name)) 0 ≡ n
    → IfOk (packaged_body env s b).answer (λ g. IsFormedBy facts inst p sub env.generic g.next)
packaged_law p facts all inst sub types env s b n st written few is stands number =
    packaged_known p facts all.0 all.1 inst sub (IsOneOf types) env s b written few n st is stands number

pub library_law : (p : Program) (facts : List Facts) → AreFactsOf p facts → (inst : ℕ) (sub : Subprogram)
    (types : List AdaType) (env : Env) (s : State) (b : SubprogramBody)
    → Stands p inst (object_shape p inst sub) (IsOneOf types) (StartSees p inst sub) (opened env) (at_unit s) → IsBodyText b
    → length sub.parameters ≤ most_parameters
    → IfOk (subprogram_body env s b).answer (IsFormedBy facts inst p sub env.generic)
library_law p facts all inst sub types env s b st written few =
    subprogram_known p facts all.0 all.1 inst sub (IsOneOf types) env s b written few st

pub library_declaration_law : (p : Program) (facts : List Facts) → AreFactsOf p facts → (inst : ℕ)
    (shape_of : Object → Shape) (types : List AdaType) (seen : List Object) (env : Env) (s : State) (d : Declaration)
    → Stands p inst shape_of (IsOneOf types) (IsOneOf seen) env s → env.is_library ≡ true → IsWritten d.kind
    → IfOk (declared env s d).answer (λ x. IsFinal facts inst p shape_of env.generic x.next
    → AreObjects p inst env.generic shape_of (IsOneOf seen) (owner_of env) x.next.objects_declared
    → AreFormed p inst env.generic s.objects_declared → AreFormed p inst env.generic x.next.objects_declared)
library_declaration_law p facts all inst shape_of types seen env s d st library written =
    weaker_ok (Made p facts all.0 all.1 inst shape_of (IsOneOf types) (IsOneOf seen) env s st)
    (λ x. IsFinal facts inst p shape_of env.generic x.next → AreObjects p inst env.generic shape_of (IsOneOf seen) (owner_of env) x.next.objects_declared
    → AreFormed p inst env.generic s.objects_declared → AreFormed p inst env.generic x.next.objects_declared)
    (declared env s d).answer (library_known p facts all.0 all.1 inst shape_of (IsOneOf types) (IsOneOf seen) env s st library d written)
    (λ x h kept objects formed. (h kept objects).formed formed)
