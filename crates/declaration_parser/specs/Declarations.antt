-- The pragmas and local declarations that token lists derive (Ada RM 2012, 2.8, 3.1, 11.1): the tree stands at the front of the first
-- list, and the second list is what follows it. One case for each production.
use Rattle.std.specs.Prelude.{List, [], ◌∷◌, ◌++◌, Option, Some, None, IsTrue}
use Rattle.cov_base.specs.declared.position.Pos.{Pos}
use Rattle.ada_lexer.specs.declared.token.Token.{Token}
use Rattle.ada_syntax.specs.declared.name.Identifier.{Identifier}
use Rattle.ada_syntax.specs.declared.declaration.SubtypeIndication.{SubtypeIndication}
use Rattle.ada_syntax.specs.declared.declaration.Initial.{Initial}
use Rattle.ada_syntax.specs.declared.declaration.TypeDefinition.{TypeDefinition}
use Rattle.ada_syntax.specs.declared.declaration.Constancy.{Constancy}
use Rattle.ada_syntax.specs.declared.declaration.Constancy.TheVariants as constancy
use Rattle.ada_syntax.specs.declared.declaration.Declaration.{Declaration}
use Rattle.ada_syntax.specs.declared.declaration.DeclarationKind.{DeclarationKind}
use Rattle.ada_syntax.specs.declared.declaration.DeclarationKind.TheVariants as declares
use Rattle.ada_syntax.specs.declared.declaration.Pragma.{Pragma}
use Rattle.ada_syntax.specs.declared.declaration.Pragma.TheVariants.{ExemptOn, ExemptOff}
use Rattle.expression_parser.specs.declared.symbol.Symbol.TheVariants as symbol
use Rattle.expression_parser.specs.declared.extent.Extent.{Extent}
use Rattle.expression_parser.specs.declared.extent.Extent.TheVariants.{Objects, Types, Exceptions, Whole}
use Rattle.expression_parser.specs.Symbols.{Is, identifier_of}
use Rattle.expression_parser.specs.Extents.{opens}
use Rattle.expression_parser.specs.Reading.{Tokens}
use Rattle.declaration_parser.specs.Spelling.{annotate, xcov, exempt_on, exempt_off, IsWord}
use Rattle.declaration_parser.specs.Identifiers.{AreIdentifiers}
use Rattle.declaration_parser.specs.Subtypes.{IsInitial, IsIndication, IsDefinition}

-- what a pragma says behind `Xcov ,`: Exempt_On , string ) ; | Exempt_Off ) ;
pub data IsExemption : Pragma → Tokens → Tokens → Type 0 where
  an_on : {t u v w z : Token} {rest : Tokens} → IsWord exempt_on t → Is symbol.Comma u → Is symbol.Text v → Is symbol.RightParenthesis w → Is symbol.Semicolon z → IsExemption (ExemptOn v.text) (t ∷ u ∷ v ∷ w ∷ z ∷ rest) rest
  an_off : {t u v : Token} {rest : Tokens} → IsWord exempt_off t → Is symbol.RightParenthesis u → Is symbol.Semicolon v → IsExemption ExemptOff (t ∷ u ∷ v ∷ rest) rest

-- pragma = PRAGMA Annotate ( Xcov , Exempt_On , string ) ; | PRAGMA Annotate ( Xcov , Exempt_Off ) ;
pub data IsPragma (x : Extent) : Pragma → Tokens → Tokens → Type 0 where
  a_pragma : {t u v w z : Token} {a : Pragma} {ts rest : Tokens} → IsTrue (opens x Whole) → Is symbol.Pragma t → IsWord annotate u → Is symbol.LeftParenthesis v → IsWord xcov w → Is symbol.Comma z → IsExemption a ts rest
      → IsPragma x a (t ∷ u ∷ v ∷ w ∷ z ∷ ts) rest

-- [CONSTANT]
pub data IsConstancy : Constancy → Tokens → Tokens → Type 0 where
  a_variable : {ts : Tokens} → IsConstancy constancy.Variable ts ts
  a_constant : {t : Token} {rest : Tokens} → Is symbol.Constant t → IsConstancy constancy.Constant (t ∷ rest) rest

-- [:= init]
pub data HasInitial (x : Extent) : Option Initial → Tokens → Tokens → Type 0 where
  no_initial : {ts : Tokens} → HasInitial x None ts ts
  an_initial : {t : Token} {i : Initial} {ts rest : Tokens} → Is symbol.Becomes t → IsInitial x i ts rest → HasInitial x (Some i) (t ∷ ts) rest

-- the declaration of this form, whose first token stands at this place
abbrev pub declared : Pos → DeclarationKind → Declaration
declared p k = record { pos = p; kind = k }

-- ldecl = TYPE id IS typedef ; | SUBTYPE id IS sub ; | id {, id} : [CONSTANT] sub [:= init] ; | id {, id} : EXCEPTION ; | pragma
pub data IsDeclaration (x : Extent) : Declaration → Tokens → Tokens → Type 0 where
  a_type : {t u v w : Token} {d : TypeDefinition} {ts rest : Tokens} → IsTrue (opens x Types) → Is symbol.Type t → Is symbol.Identifier u → Is symbol.Is v → IsDefinition x d ts (w ∷ rest) → Is symbol.Semicolon w
      → IsDeclaration x (declared t.pos (declares.Type (identifier_of u) d)) (t ∷ u ∷ v ∷ ts) rest
  a_subtype : {t u v w : Token} {s : SubtypeIndication} {ts rest : Tokens} → IsTrue (opens x Types) → Is symbol.Subtype t → Is symbol.Identifier u → Is symbol.Is v → IsIndication x s ts (w ∷ rest) → Is symbol.Semicolon w
      → IsDeclaration x (declared t.pos (declares.Subtype (identifier_of u) s)) (t ∷ u ∷ v ∷ ts) rest
  an_object : {t u v : Token} {is : List Identifier} {k : Constancy} {s : SubtypeIndication} {i : Option Initial} {ts us vs ws rest : Tokens} → IsTrue (opens x Objects) → AreIdentifiers is (t ∷ ts) (u ∷ us) → Is symbol.Colon u → IsConstancy k us vs
      → IsIndication x s vs ws → HasInitial x i ws (v ∷ rest) → Is symbol.Semicolon v → IsDeclaration x (declared t.pos (declares.Object is k s i)) (t ∷ ts) rest
  an_exception : {t u v w : Token} {is : List Identifier} {ts rest : Tokens} → IsTrue (opens x Exceptions) → AreIdentifiers is (t ∷ ts) (u ∷ v ∷ w ∷ rest) → Is symbol.Colon u → Is symbol.Exception v → Is symbol.Semicolon w
      → IsDeclaration x (declared t.pos (declares.Exception is)) (t ∷ ts) rest
  an_exemption : {t : Token} {a : Pragma} {ts rest : Tokens} → IsPragma x a (t ∷ ts) rest → IsDeclaration x (declared t.pos (declares.Pragma a)) (t ∷ ts) rest

-- {ldecl}
pub data AreDeclarations (x : Extent) : List Declaration → Tokens → Tokens → Type 0 where
  no_declarations : {ts : Tokens} → AreDeclarations x [] ts ts
  more_declarations : {d : Declaration} {ds : List Declaration} {ts us rest : Tokens} → AreDeclarations x ds ts us → IsDeclaration x d us rest → AreDeclarations x (ds ++ d ∷ []) ts rest
