-- How formal parameters of generic packages are read, with one token in view.
use Rattle.std.specs.Prelude.{ℕ, suc, Bool, true, false, cond, List, [], ◌∷◌, ◌++◌}
use Rattle.ada_lexer.specs.declared.token.Token.{Token}
use Rattle.ada_syntax.specs.declared.name.Identifier.{Identifier}
use Rattle.ada_syntax.specs.declared.unit.Mode.{Mode}
use Rattle.ada_syntax.specs.declared.unit.Mode.TheVariants as mode
use Rattle.ada_syntax.specs.declared.unit.Formal.{Formal}
use Rattle.ada_syntax.specs.declared.unit.FormalKind.{FormalKind}
use Rattle.ada_syntax.specs.declared.unit.FormalKind.TheVariants as formal
use Rattle.expression_parser.specs.declared.symbol.Symbol.{Symbol}
use Rattle.expression_parser.specs.declared.symbol.Symbol.TheVariants as symbol
use Rattle.expression_parser.specs.declared.extent.Extent.{Extent}
use Rattle.expression_parser.specs.declared.extent.Extent.TheVariants.{Generics}
use Rattle.expression_parser.specs.Symbols.{identifier_of}
use Rattle.expression_parser.specs.Extents.{opens}
use Rattle.expression_parser.specs.Reading.{Reader, Turn, Refuse, Leave, Take, Look, got, ◌>>=◌, on_token, expect, skip, repeat}
use Rattle.expression_parser.specs.Depth.{at_name}
use Rattle.declaration_parser.specs.Formals.{formed}
use Rattle.declaration_parser.specs.DeclarationReading.{specification_by}
use Rattle.declaration_parser.specs.SubtypeReading.{gated}

abbrev pub formal_mode_turn : Symbol → Token → Turn Mode
formal_mode_turn symbol.In t = Take (got mode.In)
formal_mode_turn _ t = Leave mode.Default

-- [IN]
abbrev pub formal_mode_by : Reader Mode
formal_mode_by = on_token (Leave mode.Default) formal_mode_turn

-- what the type of this name is: ( <> ) ; | RANGE <> ;
abbrev pub formal_type_turn : Identifier → Symbol → Token → Turn FormalKind
formal_type_turn i symbol.LeftParenthesis t = Take (skip symbol.Box (skip symbol.RightParenthesis (skip symbol.Semicolon (got (formal.DiscreteType i)))))
formal_type_turn i symbol.Range t = Take (skip symbol.Box (skip symbol.Semicolon (got (formal.IntegerType i))))
formal_type_turn i _ t = Refuse

abbrev pub formal_type_rest : Identifier → Reader FormalKind
formal_type_rest i = on_token Refuse (formal_type_turn i)

-- behind TYPE
abbrev pub formal_type_by : ℕ → Reader FormalKind
formal_type_by m = expect symbol.Identifier >>= λ u. skip symbol.Is (formal_type_rest (identifier_of u))

-- the symbols that begin a formal
abbrev pub begins_formal : Symbol → Bool
begins_formal symbol.Type = true
begins_formal symbol.Identifier = true
begins_formal symbol.With = true
begins_formal _ = false

-- `m` bounds the depth and each list
module _ (x : Extent) (m : ℕ) where
  abbrev pub formal_object_by : Reader FormalKind
  formal_object_by = expect symbol.Identifier >>= λ t. skip symbol.Colon (formal_mode_by >>= λ k. at_name x m >>= λ n. skip symbol.Semicolon (got (formal.Object (identifier_of t) k n)))

  -- behind WITH
  abbrev pub formal_subprogram_by : Reader FormalKind
  formal_subprogram_by = specification_by x m >>= λ s. skip symbol.Semicolon (got (formal.Subprogram s))

  abbrev pub formal_kind_turn : Symbol → Token → Turn FormalKind
  formal_kind_turn symbol.Type t = Take (formal_type_by m)
  formal_kind_turn symbol.Identifier t = Look formal_object_by
  formal_kind_turn symbol.With t = Take formal_subprogram_by
  formal_kind_turn _ t = Refuse

  abbrev pub formal_form : Reader FormalKind
  formal_form = on_token Refuse formal_kind_turn

  abbrev pub formal_kind_by : Reader FormalKind
  formal_kind_by = gated (opens x Generics) formal_form

  abbrev pub formal_by : Reader Formal
  formal_by = on_token Refuse (λ found t. Look (formal_kind_by >>= λ k. got (formed t.pos k)))

  abbrev pub formals_turn : Symbol → Token → List Formal → Turn (List Formal)
  formals_turn found t fs = cond (begins_formal found) (Look (formal_by >>= λ f. got (fs ++ f ∷ []))) (Leave fs)

  -- {formal}, up to the first token that begins none
  abbrev pub formals_by : Reader (List Formal)
  formals_by = repeat formals_turn (suc m) []
