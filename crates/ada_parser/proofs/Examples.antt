-- Worked examples: what small token lists derive, and how they are read.
use Rattle.std.proofs.Common.{◌≡◌, ℕ, [], ◌∷◌, Some, None, refl}
use Rattle.ada_lexer.specs.declared.token.Lexeme.{Lexeme}
use Rattle.ada_lexer.specs.declared.token.Lexeme.TheVariants as lexeme
use Rattle.ada_lexer.specs.declared.token.Token.{Token}
use Rattle.ada_syntax.specs.Tree.{Expr, numeral, binary, logical, expr_pos}
use Rattle.ada_syntax.specs.StatementTree.{null, handled, no_handlers as no_handler}
use Rattle.ada_syntax.specs.StatementView.{statements_of}
use Rattle.ada_syntax.specs.Nodes.{unit_nodes}
use Rattle.ada_syntax.specs.declared.expr.BinaryOperator.TheVariants.{Multiply, Subtract}
use Rattle.ada_syntax.specs.declared.expr.LogicalOperator.TheVariants.{AndThen}
use Rattle.ada_syntax.specs.declared.unit.Unit.{Unit as LibraryUnit}
use Rattle.ada_syntax.specs.declared.unit.LibraryItem.TheVariants as item
use Rattle.expression_parser.specs.declared.extent.Extent.TheVariants.{StraightLine, Whole}
use Rattle.expression_parser.specs.Symbols.{identifier_of}
use Rattle.expression_parser.specs.Extents.{opens}
use Rattle.expression_parser.specs.Reading.{Tokens, Got, Stuck}
use Rattle.expression_parser.specs.ExpressionReading as read
use Rattle.declaration_parser.specs.NodeTokens.{node_tokens}
use Rattle.declaration_parser.specs.Specifications.{specified, no_parameters, a_procedure}
use Rattle.declaration_parser.specs.Declarations.{no_declarations}
use Rattle.ada_parser.specs.Words.{word, name}
use Rattle.ada_parser.specs.Statements.{a_null, one_statement, a_sequence, no_handlers}
use Rattle.ada_parser.specs.Grammar.{IsFile, bodied, no_withs, an_end_name, an_end, a_body, a_subprogram, a_unit, one_unit}

abbrev at_column : Lexeme → ℕ → Token
at_column l n = record { lexeme = l; pos = record { file = 0; line = 1; col = n }; from = 0; to = 0; text = [] }

-- procedure Z is begin null ; end Z ;
abbrev null_procedure : Tokens
null_procedure =
    at_column lexeme.Procedure 1 ∷ at_column lexeme.Identifier 11 ∷ at_column lexeme.Is 13 ∷ at_column lexeme.Begin 16 ∷ at_column lexeme.Null 22 ∷ at_column lexeme.Semicolon 26 ∷ at_column lexeme.End 28
    ∷ at_column lexeme.Identifier 32 ∷ at_column lexeme.Semicolon 33 ∷ []

abbrev null_unit : LibraryUnit
null_unit = record {
  pos = (at_column lexeme.Procedure 1).pos;
  withs = [];
  item_pos = (at_column lexeme.Procedure 1).pos;
  item =
      item.Subprogram (bodied (specified (at_column lexeme.Procedure 1).pos (identifier_of (at_column lexeme.Identifier 11)) [] None) [] (handled (statements_of (null (at_column lexeme.Null 22).pos ∷ [])) no_handler)
      (Some (identifier_of (at_column lexeme.Identifier 32))));
}

null_is_file : IsFile StraightLine (null_unit ∷ []) null_procedure
null_is_file = one_unit (a_unit no_withs (a_subprogram
    (a_body (a_procedure refl refl no_parameters) (word refl) no_declarations (word refl) (a_sequence (one_statement (a_null refl (word refl))) no_handlers) (an_end (word refl) (an_end_name (name refl)) (word refl)))))

null_has_nodes : node_tokens null_procedure ≡ 7
null_has_nodes = refl

unit_has_nodes : unit_nodes null_unit ≡ 7
unit_has_nodes = refl

abbrev one_at : ℕ → Expr
one_at n = numeral (at_column (lexeme.Numeral 1) n).pos 1

-- 1 - 1 * 1 - 1: products bind first, and sums group to the left
sum_groups : read.expr Whole 9 (at_column (lexeme.Numeral 1) 1 ∷ at_column lexeme.Minus 2 ∷ at_column (lexeme.Numeral 1) 3 ∷ at_column lexeme.Star 4 ∷ at_column (lexeme.Numeral 1) 5 ∷ at_column lexeme.Minus 6 ∷ at_column (lexeme.Numeral 1) 7 ∷ [])
    ≡ Got (binary (expr_pos (one_at 1)) (binary (expr_pos (one_at 1)) (one_at 1) Subtract (binary (expr_pos (one_at 3)) (one_at 3) Multiply (one_at 5))) Subtract (one_at 7)) []
unfolding opens
sum_groups = refl

-- 1 and then 1 and then 1 groups to the left
and_then_groups : read.expr Whole 9
    (at_column (lexeme.Numeral 1) 1 ∷ at_column lexeme.And 3 ∷ at_column lexeme.Then 7 ∷ at_column (lexeme.Numeral 1) 12 ∷ at_column lexeme.And 14 ∷ at_column lexeme.Then 18 ∷ at_column (lexeme.Numeral 1) 23 ∷ [])
    ≡ Got (logical (expr_pos (one_at 1)) (logical (expr_pos (one_at 1)) (one_at 1) AndThen (one_at 12)) AndThen (one_at 23)) []
unfolding opens
and_then_groups = refl

-- 1 and 1 and then 1 is refused at `then`
mixed_is_refused : read.expr Whole 9
    (at_column (lexeme.Numeral 1) 1 ∷ at_column lexeme.And 3 ∷ at_column (lexeme.Numeral 1) 7 ∷ at_column lexeme.And 9 ∷ at_column lexeme.Then 13 ∷ at_column (lexeme.Numeral 1) 18 ∷ [])
    ≡ Stuck (at_column lexeme.Then 13 ∷ at_column (lexeme.Numeral 1) 18 ∷ [])
unfolding opens
mixed_is_refused = refl
