-- How specifications, pragmas and local declarations are read, with one token in view.
use Rattle.std.specs.Prelude.{ℕ, suc, Bool, true, false, cond, List, [], ◌∷◌, ◌++◌, Option, Some, None}
use Rattle.cov_base.specs.declared.position.Pos.{Pos}
use Rattle.ada_lexer.specs.declared.token.Token.{Token}
use Rattle.ada_syntax.specs.declared.name.Identifier.{Identifier}
use Rattle.ada_syntax.specs.declared.declaration.Initial.{Initial}
use Rattle.ada_syntax.specs.declared.declaration.SubtypeIndication.{SubtypeIndication}
use Rattle.ada_syntax.specs.declared.declaration.Constancy.{Constancy}
use Rattle.ada_syntax.specs.declared.declaration.Constancy.TheVariants as constancy
use Rattle.ada_syntax.specs.declared.declaration.Declaration.{Declaration}
use Rattle.ada_syntax.specs.declared.declaration.DeclarationKind.{DeclarationKind}
use Rattle.ada_syntax.specs.declared.declaration.DeclarationKind.TheVariants as declares
use Rattle.ada_syntax.specs.declared.declaration.Pragma.{Pragma}
use Rattle.ada_syntax.specs.declared.declaration.Pragma.TheVariants.{ExemptOn, ExemptOff}
use Rattle.ada_syntax.specs.declared.unit.Mode.{Mode}
use Rattle.ada_syntax.specs.declared.unit.Mode.TheVariants as mode
use Rattle.ada_syntax.specs.declared.unit.Parameter.{Parameter}
use Rattle.ada_syntax.specs.declared.unit.Specification.{Specification}
use Rattle.expression_parser.specs.declared.symbol.Symbol.{Symbol}
use Rattle.expression_parser.specs.declared.symbol.Symbol.TheVariants as symbol
use Rattle.expression_parser.specs.declared.extent.Extent.{Extent}
use Rattle.expression_parser.specs.declared.extent.Extent.TheVariants.{Objects, Types, Subprograms, Exceptions, Whole}
use Rattle.expression_parser.specs.Symbols.{identifier_of}
use Rattle.expression_parser.specs.Extents.{opens}
use Rattle.expression_parser.specs.Reading.{Reader, Turn, Refuse, Leave, Take, Look, got, ◌>>=◌, on_token, provided, accept, expect, skip, repeat}
use Rattle.expression_parser.specs.Depth.{at_name}
use Rattle.declaration_parser.specs.Spelling.{annotate, xcov, exempt_on, exempt_off, is_spelled}
use Rattle.declaration_parser.specs.Identifiers.{identifiers_by}
use Rattle.declaration_parser.specs.Specifications.{specified}
use Rattle.declaration_parser.specs.Declarations.{declared}
use Rattle.declaration_parser.specs.SubtypeReading.{initial_by, indication_by, definition_by}

-- modes
abbrev pub in_turn : Symbol → Token → Turn Mode
in_turn symbol.Out t = Take (got mode.InOut)
in_turn _ t = Leave mode.In

abbrev pub mode_turn : Symbol → Token → Turn Mode
mode_turn symbol.In t = Take (on_token (Leave mode.In) in_turn)
mode_turn symbol.Out t = Take (got mode.Out)
mode_turn _ t = Leave mode.Default

abbrev pub mode_by : Reader Mode
mode_by = on_token (Leave mode.Default) mode_turn

-- the identifier of this spelling
abbrev pub word_turn : List ℕ → Symbol → Token → Turn Token
word_turn spelling symbol.Identifier t = accept (is_spelled spelling t) t
word_turn spelling _ t = Refuse

abbrev pub spelled_by : List ℕ → Reader Token
spelled_by spelling = on_token Refuse (word_turn spelling)

abbrev pub skip_word : {A : Type 0} → List ℕ → Reader A → Reader A
skip_word spelling r = spelled_by spelling >>= λ _. r

-- behind Exempt_On and Exempt_Off
abbrev pub on_by : Reader Pragma
on_by = skip symbol.Comma (expect symbol.Text >>= λ t. skip symbol.RightParenthesis (skip symbol.Semicolon (got (ExemptOn t.text))))

abbrev pub off_by : Reader Pragma
off_by = skip symbol.RightParenthesis (skip symbol.Semicolon (got ExemptOff))

abbrev pub exemption_word_turn : Bool → Bool → Turn Pragma
exemption_word_turn true is_off = Take on_by
exemption_word_turn false true = Take off_by
exemption_word_turn false false = Refuse

abbrev pub exemption_turn : Symbol → Token → Turn Pragma
exemption_turn symbol.Identifier t = exemption_word_turn (is_spelled exempt_on t) (is_spelled exempt_off t)
exemption_turn _ t = Refuse

abbrev pub exemption_by : Reader Pragma
exemption_by = on_token Refuse exemption_turn

-- the symbols that begin a local declaration
abbrev pub begins_declaration : Symbol → Bool
begins_declaration symbol.Type = true
begins_declaration symbol.Subtype = true
begins_declaration symbol.Identifier = true
begins_declaration symbol.Pragma = true
begins_declaration _ = false

-- `m` bounds the depth and each list
module _ (x : Extent) (m : ℕ) where
  abbrev pub parameter_by : Reader Parameter
  parameter_by = identifiers_by m >>= λ is. skip symbol.Colon (mode_by >>= λ k. at_name x m >>= λ n. got (record { names = is; mode = k; mark = n }))

  abbrev pub parameters_turn : Symbol → Token → List Parameter → Turn (List Parameter)
  parameters_turn symbol.Semicolon t ps = Take (parameter_by >>= λ p. got (ps ++ p ∷ []))
  parameters_turn _ t ps = Leave ps

  abbrev pub parameters_by : Reader (List Parameter)
  parameters_by = parameter_by >>= λ p. repeat parameters_turn (suc m) (p ∷ [])

  abbrev pub profile_turn : Symbol → Token → Turn (List Parameter)
  profile_turn symbol.LeftParenthesis t = provided (opens x Subprograms) (Take (parameters_by >>= λ ps. skip symbol.RightParenthesis (got ps)))
  profile_turn _ t = Leave []

  -- [params]
  abbrev pub profile_by : Reader (List Parameter)
  profile_by = on_token (Leave []) profile_turn

  -- behind PROCEDURE and FUNCTION, which stand at this place
  abbrev pub procedure_by : Pos → Reader Specification
  procedure_by p = expect symbol.Identifier >>= λ u. profile_by >>= λ ps. got (specified p (identifier_of u) ps None)

  abbrev pub function_by : Pos → Reader Specification
  function_by p = expect symbol.Identifier >>= λ u. profile_by >>= λ ps. skip symbol.Return (at_name x m >>= λ n. got (specified p (identifier_of u) ps (Some n)))

  abbrev pub specification_turn : Symbol → Token → Turn Specification
  specification_turn symbol.Procedure t = Take (procedure_by t.pos)
  specification_turn symbol.Function t = provided (opens x Subprograms) (Take (function_by t.pos))
  specification_turn _ t = Refuse

  abbrev pub specification_by : Reader Specification
  specification_by = on_token Refuse specification_turn

  -- behind PRAGMA
  abbrev pub annotation_by : Reader Pragma
  annotation_by = skip_word annotate (skip symbol.LeftParenthesis (skip_word xcov (skip symbol.Comma exemption_by)))

  abbrev pub pragma_turn : Symbol → Token → Turn Pragma
  pragma_turn symbol.Pragma t = provided (opens x Whole) (Take annotation_by)
  pragma_turn _ t = Refuse

  abbrev pub pragma_by : Reader Pragma
  pragma_by = on_token Refuse pragma_turn

  abbrev pub initial_part_turn : Symbol → Token → Turn (Option Initial)
  initial_part_turn symbol.Becomes t = Take (initial_by x m >>= λ i. got (Some i))
  initial_part_turn _ t = Leave None

  -- [:= init]
  abbrev pub initial_part_by : Reader (Option Initial)
  initial_part_by = on_token (Leave None) initial_part_turn

  -- sub [:= init] ;
  abbrev pub object_type_by : Reader (SubtypeIndication × Option Initial)
  object_type_by = indication_by x m >>= λ s. initial_part_by >>= λ i. skip symbol.Semicolon (got (s, i))

  -- sub [:= init] ; of objects with these names
  abbrev pub object_by : List Identifier → Constancy → Reader DeclarationKind
  object_by is k = indication_by x m >>= λ s. initial_part_by >>= λ i. skip symbol.Semicolon (got (declares.Object is k s i))

  -- what is declared behind these names and a colon
  abbrev pub named_turn : List Identifier → Symbol → Token → Turn DeclarationKind
  named_turn is symbol.Exception t = provided (opens x Exceptions) (Take (skip symbol.Semicolon (got (declares.Exception is))))
  named_turn is symbol.Constant t = Take (object_by is constancy.Constant)
  named_turn is _ t = Look (object_by is constancy.Variable)

  abbrev pub named_rest : List Identifier → Reader DeclarationKind
  named_rest is = on_token Refuse (named_turn is)

  abbrev pub named_by : Reader DeclarationKind
  named_by = identifiers_by m >>= λ is. skip symbol.Colon (named_rest is)

  -- behind TYPE and SUBTYPE
  abbrev pub type_by : Reader DeclarationKind
  type_by = expect symbol.Identifier >>= λ u. skip symbol.Is (definition_by x m >>= λ d. skip symbol.Semicolon (got (declares.Type (identifier_of u) d)))

  abbrev pub subtype_by : Reader DeclarationKind
  subtype_by = expect symbol.Identifier >>= λ u. skip symbol.Is (indication_by x m >>= λ s. skip symbol.Semicolon (got (declares.Subtype (identifier_of u) s)))

  abbrev pub kind_turn : Symbol → Token → Turn DeclarationKind
  kind_turn symbol.Type t = provided (opens x Types) (Take type_by)
  kind_turn symbol.Subtype t = provided (opens x Types) (Take subtype_by)
  kind_turn symbol.Identifier t = provided (opens x Objects) (Look named_by)
  kind_turn symbol.Pragma t = Look (pragma_by >>= λ a. got (declares.Pragma a))
  kind_turn _ t = Refuse

  abbrev pub kind_by : Reader DeclarationKind
  kind_by = on_token Refuse kind_turn

  abbrev pub declaration_by : Reader Declaration
  declaration_by = on_token Refuse (λ found t. Look (kind_by >>= λ k. got (declared t.pos k)))

  abbrev pub declarations_turn : Symbol → Token → List Declaration → Turn (List Declaration)
  declarations_turn found t ds = cond (begins_declaration found) (Look (declaration_by >>= λ d. got (ds ++ d ∷ []))) (Leave ds)

  -- {ldecl}, up to the first token that begins none
  abbrev pub declarations_by : Reader (List Declaration)
  declarations_by = repeat declarations_turn (suc m) []

-- the same, with the depth behind what is known
abbrev pub procedure_at : Extent → Pos → ℕ → Reader Specification
procedure_at x p m = procedure_by x m p

abbrev pub function_at : Extent → Pos → ℕ → Reader Specification
function_at x p m = function_by x m p

abbrev pub object_at : Extent → List Identifier → Constancy → ℕ → Reader DeclarationKind
object_at x is k m = object_by x m is k

abbrev pub named_rest_at : Extent → List Identifier → ℕ → Reader DeclarationKind
named_rest_at x is m = named_rest x m is
