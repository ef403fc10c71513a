-- The reading of specifications, pragmas and local declarations depends on the tokens up to its place alone.
use Rattle.std.proofs.Common.{ℕ, suc, Bool, true, false, cond, List, [], ◌∷◌, ◌++◌, Some, None}
use Rattle.cov_base.specs.declared.position.Pos.{Pos}
use Rattle.ada_lexer.specs.declared.token.Token.{Token}
use Rattle.ada_syntax.specs.declared.name.Identifier.{Identifier}
use Rattle.ada_syntax.specs.declared.declaration.Constancy.{Constancy}
use Rattle.ada_syntax.specs.declared.declaration.Constancy.TheVariants as constancy
use Rattle.ada_syntax.specs.declared.declaration.Declaration.{Declaration}
use Rattle.ada_syntax.specs.declared.declaration.DeclarationKind.TheVariants as declares
use Rattle.ada_syntax.specs.declared.declaration.Pragma.TheVariants.{ExemptOn, ExemptOff}
use Rattle.ada_syntax.specs.declared.unit.Mode.{Mode}
use Rattle.ada_syntax.specs.declared.unit.Mode.TheVariants as mode
use Rattle.ada_syntax.specs.declared.unit.Parameter.{Parameter}
use Rattle.ada_syntax.specs.declared.unit.Specification.{Specification}
use Rattle.expression_parser.specs.declared.symbol.Symbol.{Symbol}
use Rattle.expression_parser.specs.declared.symbol.Symbol.TheVariants as symbol
use Rattle.expression_parser.specs.declared.extent.Extent.{Extent}
use Rattle.expression_parser.specs.declared.extent.Extent.TheVariants.{Objects, Types, Subprograms, Exceptions, Whole}
use Rattle.expression_parser.specs.Symbols.{identifier_of}
use Rattle.expression_parser.specs.Extents.{opens}
use Rattle.expression_parser.specs.Reading.{Reader, Refuse, Leave, Look, got, ◌>>=◌, accept, expect, skip, repeat}
use Rattle.expression_parser.specs.Depth.{at_name}
use Rattle.declaration_parser.specs.Spelling.{annotate, xcov, exempt_on, exempt_off, is_spelled}
use Rattle.declaration_parser.specs.Identifiers.{identifiers_by}
use Rattle.declaration_parser.specs.SubtypeReading.{initial_by, indication_by, definition_by}
use Rattle.declaration_parser.specs.Specifications.{specified}
use Rattle.declaration_parser.specs.Declarations.{declared}
use Rattle.declaration_parser.specs.DeclarationReading as read
use Rattle.expression_parser.proofs.Agree.{Local, LocalTurn, got_local, on_local, bind_local, expect_local, skip_local, provided_local, repeat_local}
use Rattle.expression_parser.proofs.ExpressionLocal.{then_got, then_closed}
use Rattle.declaration_parser.proofs.ExpressionParts.{at_name_local}
use Rattle.declaration_parser.proofs.IdentifierLaws.{identifiers_local}
use Rattle.declaration_parser.proofs.SubtypeLocal.{initial_by_local, indication_local, definition_local}

in_turn_local : (found : Symbol) (t : Token) → LocalTurn (read.in_turn found t)
in_turn_local symbol.Out t = got_local mode.InOut
in_turn_local _ t = tt

mode_turn_local : (found : Symbol) (t : Token) → LocalTurn (read.mode_turn found t)
mode_turn_local symbol.In t = on_local (Leave mode.In) read.in_turn in_turn_local
mode_turn_local symbol.Out t = got_local mode.Out
mode_turn_local _ t = tt

mode_local : Local read.mode_by
mode_local = on_local (Leave mode.Default) read.mode_turn mode_turn_local

-- words of pragmas
accept_local : (b : Bool) (t : Token) → LocalTurn (accept b t)
accept_local true t = got_local t
accept_local false t = tt

word_turn_local : (spelling : List ℕ) (found : Symbol) (t : Token) → LocalTurn (read.word_turn spelling found t)
word_turn_local spelling symbol.Identifier t = accept_local (is_spelled spelling t) t
word_turn_local spelling _ t = tt

skip_word_local : {A : Type 0} (spelling : List ℕ) (r : Reader A) → Local r → Local (read.skip_word spelling r)
skip_word_local spelling r l = bind_local (read.spelled_by spelling) (λ _. r) (on_local Refuse (read.word_turn spelling) (word_turn_local spelling)) (λ _. l)

on_by_local : Local read.on_by
on_by_local = skip_local symbol.Comma (expect symbol.Text >>= λ t. skip symbol.RightParenthesis (skip symbol.Semicolon (got (ExemptOn t.text))))
    (bind_local (expect symbol.Text) (λ t. skip symbol.RightParenthesis (skip symbol.Semicolon (got (ExemptOn t.text)))) (expect_local symbol.Text)
    (λ t. skip_local symbol.RightParenthesis (skip symbol.Semicolon (got (ExemptOn t.text))) (skip_local symbol.Semicolon (got (ExemptOn t.text)) (got_local (ExemptOn t.text)))))

off_by_local : Local read.off_by
off_by_local = skip_local symbol.RightParenthesis (skip symbol.Semicolon (got ExemptOff)) (skip_local symbol.Semicolon (got ExemptOff) (got_local ExemptOff))

exemption_word_local : (is_on is_off : Bool) → LocalTurn (read.exemption_word_turn is_on is_off)
exemption_word_local true is_off = on_by_local
exemption_word_local false true = off_by_local
exemption_word_local false false = tt

exemption_turn_local : (found : Symbol) (t : Token) → LocalTurn (read.exemption_turn found t)
exemption_turn_local symbol.Identifier t = exemption_word_local (is_spelled exempt_on t) (is_spelled exempt_off t)
exemption_turn_local _ t = tt

exemption_local : Local read.exemption_by
exemption_local = on_local Refuse read.exemption_turn exemption_turn_local

module _ (x : Extent) (m : ℕ) where
  abbrev marked : List Identifier → Mode → Reader Parameter
  marked is k = at_name x m >>= λ n. got (record { names = is; mode = k; mark = n })

  parameter_local : Local (read.parameter_by x m)
  parameter_local = bind_local (identifiers_by m) (λ is. skip symbol.Colon (read.mode_by >>= λ k. marked is k)) (identifiers_local m)
      (λ is. skip_local symbol.Colon (read.mode_by >>= λ k. marked is k)
      (bind_local read.mode_by (λ k. marked is k) mode_local (λ k. then_got (at_name x m) (λ n. record { names = is; mode = k; mark = n }) (at_name_local x m))))

  parameters_turn_local : (found : Symbol) (t : Token) (ps : List Parameter) → LocalTurn (read.parameters_turn x m found t ps)
  parameters_turn_local symbol.Semicolon t ps = then_got (read.parameter_by x m) (λ p. ps ++ p ∷ []) parameter_local
  parameters_turn_local _ t ps = tt

  parameters_local : Local (read.parameters_by x m)
  parameters_local = bind_local (read.parameter_by x m) (λ p. repeat (read.parameters_turn x m) (suc m) (p ∷ [])) parameter_local
      (λ p. repeat_local (read.parameters_turn x m) parameters_turn_local (suc m) (p ∷ []))

  profile_turn_local : (found : Symbol) (t : Token) → LocalTurn (read.profile_turn x m found t)
  profile_turn_local symbol.LeftParenthesis t = provided_local (opens x Subprograms) _ (then_closed (read.parameters_by x m) symbol.RightParenthesis (λ ps. ps) parameters_local)
  profile_turn_local _ t = tt

  profile_local : Local (read.profile_by x m)
  profile_local = on_local (Leave []) (read.profile_turn x m) profile_turn_local

  procedure_local : (p : Pos) → Local (read.procedure_by x m p)
  procedure_local p = bind_local (expect symbol.Identifier) (λ u. read.profile_by x m >>= λ ps. got (specified p (identifier_of u) ps None)) (expect_local symbol.Identifier)
      (λ u. then_got (read.profile_by x m) (λ ps. specified p (identifier_of u) ps None) profile_local)

  abbrev results : Pos → Token → List Parameter → Reader Specification
  results p u ps = at_name x m >>= λ n. got (specified p (identifier_of u) ps (Some n))

  function_local : (p : Pos) → Local (read.function_by x m p)
  function_local p = bind_local (expect symbol.Identifier) (λ u. read.profile_by x m >>= λ ps. skip symbol.Return (results p u ps)) (expect_local symbol.Identifier)
      (λ u. bind_local (read.profile_by x m) (λ ps. skip symbol.Return (results p u ps)) profile_local
      (λ ps. skip_local symbol.Return (results p u ps) (then_got (at_name x m) (λ n. specified p (identifier_of u) ps (Some n)) (at_name_local x m))))

  specification_turn_local : (found : Symbol) (t : Token) → LocalTurn (read.specification_turn x m found t)
  specification_turn_local symbol.Procedure t = procedure_local t.pos
  specification_turn_local symbol.Function t = provided_local (opens x Subprograms) _ (function_local t.pos)
  specification_turn_local _ t = tt

  pub specification_local : Local (read.specification_by x m)
  specification_local = on_local Refuse (read.specification_turn x m) specification_turn_local

  annotation_local : Local (read.annotation_by x m)
  annotation_local = skip_word_local annotate (skip symbol.LeftParenthesis (read.skip_word xcov (skip symbol.Comma read.exemption_by)))
      (skip_local symbol.LeftParenthesis (read.skip_word xcov (skip symbol.Comma read.exemption_by))
      (skip_word_local xcov (skip symbol.Comma read.exemption_by) (skip_local symbol.Comma read.exemption_by exemption_local)))

  pragma_turn_local : (found : Symbol) (t : Token) → LocalTurn (read.pragma_turn x m found t)
  pragma_turn_local symbol.Pragma t = provided_local (opens x Whole) _ annotation_local
  pragma_turn_local _ t = tt

  pub pragma_local : Local (read.pragma_by x m)
  pragma_local = on_local Refuse (read.pragma_turn x m) pragma_turn_local

  initial_part_turn_local : (found : Symbol) (t : Token) → LocalTurn (read.initial_part_turn x m found t)
  initial_part_turn_local symbol.Becomes t = then_got (initial_by x m) (λ i. Some i) (initial_by_local x m)
  initial_part_turn_local _ t = tt

  initial_part_local : Local (read.initial_part_by x m)
  initial_part_local = on_local (Leave None) (read.initial_part_turn x m) initial_part_turn_local

  object_local : (is : List Identifier) (k : Constancy) → Local (read.object_by x m is k)
  object_local is k = bind_local (indication_by x m) (λ s. read.initial_part_by x m >>= λ i. skip symbol.Semicolon (got (declares.Object is k s i))) (indication_local x m)
      (λ s. then_closed (read.initial_part_by x m) symbol.Semicolon (λ i. declares.Object is k s i) initial_part_local)

  named_turn_local : (is : List Identifier) (found : Symbol) (t : Token) → LocalTurn (read.named_turn x m is found t)
  named_turn_local is symbol.Exception t = provided_local (opens x Exceptions) _ (skip_local symbol.Semicolon (got (declares.Exception is)) (got_local (declares.Exception is)))
  named_turn_local is symbol.Constant t = object_local is constancy.Constant
  named_turn_local is _ t = object_local is constancy.Variable

  named_local : Local (read.named_by x m)
  named_local = bind_local (identifiers_by m) (λ is. skip symbol.Colon (read.named_rest x m is)) (identifiers_local m)
      (λ is. skip_local symbol.Colon (read.named_rest x m is) (on_local Refuse (read.named_turn x m is) (named_turn_local is)))

  type_local : Local (read.type_by x m)
  type_local = bind_local (expect symbol.Identifier) (λ u. skip symbol.Is (definition_by x m >>= λ d. skip symbol.Semicolon (got (declares.Type (identifier_of u) d)))) (expect_local symbol.Identifier)
      (λ u. skip_local symbol.Is (definition_by x m >>= λ d. skip symbol.Semicolon (got (declares.Type (identifier_of u) d)))
      (then_closed (definition_by x m) symbol.Semicolon (λ d. declares.Type (identifier_of u) d) (definition_local x m)))

  subtype_local : Local (read.subtype_by x m)
  subtype_local = bind_local (expect symbol.Identifier) (λ u. skip symbol.Is (indication_by x m >>= λ s. skip symbol.Semicolon (got (declares.Subtype (identifier_of u) s)))) (expect_local symbol.Identifier)
      (λ u. skip_local symbol.Is (indication_by x m >>= λ s. skip symbol.Semicolon (got (declares.Subtype (identifier_of u) s)))
      (then_closed (indication_by x m) symbol.Semicolon (λ s. declares.Subtype (identifier_of u) s) (indication_local x m)))

  kind_turn_local : (found : Symbol) (t : Token) → LocalTurn (read.kind_turn x m found t)
  kind_turn_local symbol.Type t = provided_local (opens x Types) _ type_local
  kind_turn_local symbol.Subtype t = provided_local (opens x Types) _ subtype_local
  kind_turn_local symbol.Identifier t = provided_local (opens x Objects) _ named_local
  kind_turn_local symbol.Pragma t = then_got (read.pragma_by x m) (λ a. declares.Pragma a) pragma_local
  kind_turn_local _ t = tt

  kind_local : Local (read.kind_by x m)
  kind_local = on_local Refuse (read.kind_turn x m) kind_turn_local

  pub declaration_local : Local (read.declaration_by x m)
  declaration_local = on_local Refuse (λ found t. Look (read.kind_by x m >>= λ k. got (declared t.pos k))) (λ found t. then_got (read.kind_by x m) (λ k. declared t.pos k) kind_local)

  declarations_turn_local : (b : Bool) (ds : List Declaration) → LocalTurn (cond b (Look (read.declaration_by x m >>= λ d. got (ds ++ d ∷ []))) (Leave ds))
  declarations_turn_local true ds = then_got (read.declaration_by x m) (λ d. ds ++ d ∷ []) declaration_local
  declarations_turn_local false ds = tt

  pub declarations_local : Local (read.declarations_by x m)
  declarations_local = repeat_local (read.declarations_turn x m) (λ found t ds. declarations_turn_local (read.begins_declaration found) ds) (suc m) []
