-- The formal parameters of generic packages that token lists derive (Ada RM 2012, 12.1, 12.4 to 12.6): the tree stands at the front of
-- the first list, and the second list is what follows it. One case for each production.
use Rattle.std.specs.Prelude.{List, [], ◌∷◌, ◌++◌, IsTrue}
use Rattle.cov_base.specs.declared.position.Pos.{Pos}
use Rattle.ada_lexer.specs.declared.token.Token.{Token}
use Rattle.ada_syntax.specs.Tree.{Name}
use Rattle.ada_syntax.specs.declared.unit.Mode.{Mode}
use Rattle.ada_syntax.specs.declared.unit.Mode.TheVariants as mode
use Rattle.ada_syntax.specs.declared.unit.Specification.{Specification}
use Rattle.ada_syntax.specs.declared.unit.Formal.{Formal}
use Rattle.ada_syntax.specs.declared.unit.FormalKind.{FormalKind}
use Rattle.ada_syntax.specs.declared.unit.FormalKind.TheVariants as formal
use Rattle.expression_parser.specs.declared.symbol.Symbol.TheVariants as symbol
use Rattle.expression_parser.specs.declared.extent.Extent.{Extent}
use Rattle.expression_parser.specs.declared.extent.Extent.TheVariants.{Generics}
use Rattle.expression_parser.specs.Symbols.{Is, identifier_of}
use Rattle.expression_parser.specs.Extents.{opens}
use Rattle.expression_parser.specs.Reading.{Tokens}
use Rattle.expression_parser.specs.Expressions.{IsName}
use Rattle.declaration_parser.specs.Specifications.{IsSpecification}

-- [IN]
pub data IsFormalMode : Mode → Tokens → Tokens → Type 0 where
  no_formal_mode : {ts : Tokens} → IsFormalMode mode.Default ts ts
  formal_in : {t : Token} {rest : Tokens} → Is symbol.In t → IsFormalMode mode.In (t ∷ rest) rest

-- the formal of this form, whose first token stands at this place
abbrev pub formed : Pos → FormalKind → Formal
formed p k = record { pos = p; kind = k }

-- formal = TYPE id IS ( <> ) ; | TYPE id IS RANGE <> ; | id : [IN] name ; | WITH spec ;
pub data IsFormal (x : Extent) : Formal → Tokens → Tokens → Type 0 where
  a_discrete_type : {t u v a b c d : Token} {rest : Tokens} → IsTrue (opens x Generics) → Is symbol.Type t → Is symbol.Identifier u → Is symbol.Is v → Is symbol.LeftParenthesis a → Is symbol.Box b → Is symbol.RightParenthesis c → Is symbol.Semicolon d
      → IsFormal x (formed t.pos (formal.DiscreteType (identifier_of u))) (t ∷ u ∷ v ∷ a ∷ b ∷ c ∷ d ∷ rest) rest
  an_integer_type : {t u v a b c : Token} {rest : Tokens} → IsTrue (opens x Generics) → Is symbol.Type t → Is symbol.Identifier u → Is symbol.Is v → Is symbol.Range a → Is symbol.Box b → Is symbol.Semicolon c
      → IsFormal x (formed t.pos (formal.IntegerType (identifier_of u))) (t ∷ u ∷ v ∷ a ∷ b ∷ c ∷ rest) rest
  a_formal_object : {t u v : Token} {k : Mode} {n : Name} {ts us rest : Tokens} → IsTrue (opens x Generics) → Is symbol.Identifier t → Is symbol.Colon u → IsFormalMode k ts us → IsName x n us (v ∷ rest) → Is symbol.Semicolon v
      → IsFormal x (formed t.pos (formal.Object (identifier_of t) k n)) (t ∷ u ∷ ts) rest
  a_formal_subprogram : {t u : Token} {s : Specification} {ts rest : Tokens} → IsTrue (opens x Generics) → Is symbol.With t → IsSpecification x s ts (u ∷ rest) → Is symbol.Semicolon u
      → IsFormal x (formed t.pos (formal.Subprogram s)) (t ∷ ts) rest

-- {formal}
pub data AreFormals (x : Extent) : List Formal → Tokens → Tokens → Type 0 where
  no_formals : {ts : Tokens} → AreFormals x [] ts ts
  more_formals : {f : Formal} {fs : List Formal} {ts us rest : Tokens} → AreFormals x fs ts us → IsFormal x f us rest → AreFormals x (fs ++ f ∷ []) ts rest
