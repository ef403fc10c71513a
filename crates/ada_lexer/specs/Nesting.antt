-- How deep a source nests.
use Rattle.std.specs.Prelude.{◌+◌, ◌-◌, List, [], ◌∷◌, Bool, true, false, ◌||◌, Option, Some, None, if◌then◌else◌, nat_le}
use Rattle.cov_base.specs.declared.position.Pos.{Pos}
use Rattle.ada_lexer.specs.declared.token.Lexeme.{Lexeme}
use Rattle.ada_lexer.specs.declared.token.Lexeme.TheVariants as lexeme
use Rattle.ada_lexer.specs.declared.token.Token.{Token}
use Rattle.ada_lexer.specs.declared.nesting.Depth.{Depth}

-- at the start of a source
abbrev pub no_depth : Depth
no_depth = record { parentheses = 0; constructs = 0; after_end = false }

-- behind a token that closes nothing and opens nothing
abbrev pub level : Depth → Depth
level depth = record depth { after_end = false }

-- behind a word that opens a construct, unless it stands directly after `end`
abbrev pub opened : Depth → Depth
opened depth = record depth { constructs = if depth.after_end then depth.constructs else depth.constructs + 1; after_end = false }

-- behind a lexeme; no depth falls below 0
abbrev pub depth_behind : Depth → Lexeme → Depth
depth_behind depth lexeme.LeftParenthesis = record depth { parentheses = depth.parentheses + 1; after_end = false }
depth_behind depth lexeme.RightParenthesis = record depth { parentheses = depth.parentheses - 1; after_end = false }
depth_behind depth lexeme.If = opened depth
depth_behind depth lexeme.Case = opened depth
depth_behind depth lexeme.Loop = opened depth
depth_behind depth lexeme.Begin = opened depth
depth_behind depth lexeme.Record = opened depth
depth_behind depth lexeme.End = record depth { constructs = depth.constructs - 1; after_end = true }
depth_behind depth _ = level depth

-- more than 64 parentheses or 64 constructs round a place
abbrev pub is_too_deep : Depth → Bool
is_too_deep depth = nat_le 65 depth.parentheses || nat_le 65 depth.constructs

-- the first token, from a depth on, behind which it is too deep
abbrev pub nested_from : Depth → List Token → Option Pos
nested_from depth [] = None
nested_from depth (token ∷ tokens) =
    if is_too_deep (depth_behind depth token.lexeme) then Some token.pos else nested_from (depth_behind depth token.lexeme) tokens

-- the first token of a source behind which it is too deep
abbrev pub nested_of : List Token → Option Pos
nested_of tokens = nested_from no_depth tokens
