-- The library units and files that token lists derive (Ada RM 2012, 6.3, 7.1, 7.2, 10.1, 12.1, 12.3): the tree stands at the front of the
-- first list, and the second list is what follows it. One case for each production.
use Rattle.std.specs.Prelude.{List, [], ◌∷◌, ◌++◌, Option, Some, None, IsTrue}
use Rattle.ada_lexer.specs.declared.token.Token.{Token}
use Rattle.ada_syntax.specs.Tree.{Expr}
use Rattle.ada_syntax.specs.StatementTree.{Handled}
use Rattle.ada_syntax.specs.declared.name.Identifier.{Identifier}
use Rattle.ada_syntax.specs.declared.declaration.Declaration.{Declaration}
use Rattle.ada_syntax.specs.declared.unit.Specification.{Specification}
use Rattle.ada_syntax.specs.declared.unit.SubprogramBody.{SubprogramBody}
use Rattle.ada_syntax.specs.declared.unit.PackageItem.{PackageItem}
use Rattle.ada_syntax.specs.declared.unit.PackageItem.TheVariants as package_item
use Rattle.ada_syntax.specs.declared.unit.BodyItem.{BodyItem}
use Rattle.ada_syntax.specs.declared.unit.BodyItem.TheVariants as body_item
use Rattle.ada_syntax.specs.declared.unit.Formal.{Formal}
use Rattle.ada_syntax.specs.declared.unit.LibraryItem.{LibraryItem}
use Rattle.ada_syntax.specs.declared.unit.LibraryItem.TheVariants as item
use Rattle.ada_syntax.specs.declared.unit.WithClause.{WithClause}
use Rattle.ada_syntax.specs.declared.unit.Unit.{Unit as LibraryUnit}
use Rattle.expression_parser.specs.declared.symbol.Symbol.TheVariants as symbol
use Rattle.expression_parser.specs.declared.extent.Extent.{Extent}
use Rattle.expression_parser.specs.declared.extent.Extent.TheVariants.{Subprograms, Generics}
use Rattle.expression_parser.specs.Extents.{opens}
use Rattle.expression_parser.specs.Reading.{Tokens}
use Rattle.expression_parser.specs.Expressions.{AreExprs}
use Rattle.declaration_parser.specs.Identifiers.{AreIdentifiers}
use Rattle.declaration_parser.specs.Specifications.{IsSpecification}
use Rattle.declaration_parser.specs.Declarations.{IsDeclaration, AreDeclarations}
use Rattle.declaration_parser.specs.Formals.{AreFormals}
use Rattle.ada_parser.specs.Words.{Word, Named}
use Rattle.ada_parser.specs.Statements.{IsHandled}

-- WITH id {, id} ;
pub data IsWith : WithClause → Tokens → Tokens → Type 0 where
  a_with : {is : List Identifier} {ts us vs rest : Tokens} → Word symbol.With ts us → AreIdentifiers is us vs → Word symbol.Semicolon vs rest → IsWith (record { names = is }) ts rest

pub data AreWiths : List WithClause → Tokens → Tokens → Type 0 where
  no_withs : {ts : Tokens} → AreWiths [] ts ts
  more_withs : {w : WithClause} {ws : List WithClause} {ts us rest : Tokens} → AreWiths ws ts us → IsWith w us rest → AreWiths (ws ++ w ∷ []) ts rest

-- [id] behind END
pub data IsEndName : Option Identifier → Tokens → Tokens → Type 0 where
  no_end_name : {ts : Tokens} → IsEndName None ts ts
  an_end_name : {i : Identifier} {ts rest : Tokens} → Named i ts rest → IsEndName (Some i) ts rest

-- END [id] ;
pub data IsEnd : Option Identifier → Tokens → Tokens → Type 0 where
  an_end : {n : Option Identifier} {ts us vs rest : Tokens} → Word symbol.End ts us → IsEndName n us vs → Word symbol.Semicolon vs rest → IsEnd n ts rest

-- the body of this specification, with these declarations and statements and this name at its end
abbrev pub bodied : Specification → List Declaration → Handled → Option Identifier → SubprogramBody
bodied s ds h n = record { specification = s; declarations = ds; statements = h; end_name = n }

-- body = spec IS {ldecl} BEGIN stmts [handlers] END [id] ;
pub data IsBody (x : Extent) : SubprogramBody → Tokens → Tokens → Type 0 where
  a_body : {s : Specification} {ds : List Declaration} {h : Handled} {n : Option Identifier} {ts us vs ws zs ys rest : Tokens} → IsSpecification x s ts us → Word symbol.Is us vs → AreDeclarations x ds vs ws → Word symbol.Begin ws zs → IsHandled x h zs ys
      → IsEnd n ys rest → IsBody x (bodied s ds h n) ts rest

-- decl = ldecl | spec ;
pub data IsPackageItem (x : Extent) : PackageItem → Tokens → Tokens → Type 0 where
  a_declaration : {d : Declaration} {ts rest : Tokens} → IsDeclaration x d ts rest → IsPackageItem x (package_item.Declaration d) ts rest
  a_specification : {s : Specification} {ts us rest : Tokens} → IsSpecification x s ts us → Word symbol.Semicolon us rest → IsPackageItem x (package_item.Subprogram s) ts rest

-- {decl}
pub data ArePackageItems (x : Extent) : List PackageItem → Tokens → Tokens → Type 0 where
  no_package_items : {ts : Tokens} → ArePackageItems x [] ts ts
  more_package_items : {i : PackageItem} {is : List PackageItem} {ts us rest : Tokens} → ArePackageItems x is ts us → IsPackageItem x i us rest → ArePackageItems x (is ++ i ∷ []) ts rest

-- decl | body
pub data IsBodyItem (x : Extent) : BodyItem → Tokens → Tokens → Type 0 where
  declared_in_body : {i : PackageItem} {ts rest : Tokens} → IsPackageItem x i ts rest → IsBodyItem x (body_item.Declared i) ts rest
  a_body_in_body : {b : SubprogramBody} {ts rest : Tokens} → IsBody x b ts rest → IsBodyItem x (body_item.Body b) ts rest

-- {decl | body}
pub data AreBodyItems (x : Extent) : List BodyItem → Tokens → Tokens → Type 0 where
  no_body_items : {ts : Tokens} → AreBodyItems x [] ts ts
  more_body_items : {i : BodyItem} {is : List BodyItem} {ts us rest : Tokens} → AreBodyItems x is ts us → IsBodyItem x i us rest → AreBodyItems x (is ++ i ∷ []) ts rest

-- [( expr {, expr} )]
pub data HasActuals (x : Extent) : List Expr → Tokens → Tokens → Type 0 where
  no_actuals : {ts : Tokens} → HasActuals x [] ts ts
  some_actuals : {es : List Expr} {ts us vs rest : Tokens} → Word symbol.LeftParenthesis ts us → AreExprs x es us vs → Word symbol.RightParenthesis vs rest → HasActuals x es ts rest

-- a package, with its formals where it is generic
abbrev pub packaged : Option (List Formal) → Identifier → List PackageItem → Option Identifier → LibraryItem
packaged fs i is n = item.Package (record { formals = fs; name = i; items = is; end_name = n })

abbrev pub package_bodied : Identifier → List BodyItem → Option Identifier → LibraryItem
package_bodied i is n = item.PackageBody (record { name = i; items = is; end_name = n })

abbrev pub instanced : Identifier → Identifier → List Expr → LibraryItem
instanced i g es = item.Instance (record { name = i; generic_name = g; actuals = es })

-- id IS {decl} END [id] ;
pub data IsPackageRest (x : Extent) : Option (List Formal) → LibraryItem → Tokens → Tokens → Type 0 where
  a_package_rest : {fs : Option (List Formal)} {i : Identifier} {is : List PackageItem} {n : Option Identifier} {ts us vs ws rest : Tokens} → Named i ts us → Word symbol.Is us vs → ArePackageItems x is vs ws → IsEnd n ws rest
      → IsPackageRest x fs (packaged fs i is n) ts rest

-- lib
pub data IsItem (x : Extent) : LibraryItem → Tokens → Tokens → Type 0 where
  -- GENERIC {formal} PACKAGE id IS {decl} END [id] ;
  a_generic : {fs : List Formal} {l : LibraryItem} {ts us vs ws rest : Tokens} → IsTrue (opens x Generics) → Word symbol.Generic ts us → AreFormals x fs us vs → Word symbol.Package vs ws → IsPackageRest x (Some fs) l ws rest → IsItem x l ts rest
  -- PACKAGE id IS {decl} END [id] ;
  a_package : {l : LibraryItem} {ts us rest : Tokens} → IsTrue (opens x Subprograms) → Word symbol.Package ts us → IsPackageRest x None l us rest → IsItem x l ts rest
  -- PACKAGE BODY id IS {decl | body} END [id] ;
  a_package_body : {i : Identifier} {is : List BodyItem} {n : Option Identifier} {ts us vs ws zs ys rest : Tokens} → IsTrue (opens x Subprograms) → Word symbol.Package ts us → Word symbol.Body us vs → Named i vs ws → Word symbol.Is ws zs
      → AreBodyItems x is zs ys → IsEnd n ys rest → IsItem x (package_bodied i is n) ts rest
  -- PACKAGE id IS NEW id [( expr {, expr} )] ;
  an_instance : {i g : Identifier} {es : List Expr} {ts us vs ws zs ys bs rest : Tokens} → IsTrue (opens x Subprograms) → IsTrue (opens x Generics) → Word symbol.Package ts us → Named i us vs → Word symbol.Is vs ws → Word symbol.New ws zs
      → Named g zs ys → HasActuals x es ys bs → Word symbol.Semicolon bs rest → IsItem x (instanced i g es) ts rest
  -- body
  a_subprogram : {b : SubprogramBody} {ts rest : Tokens} → IsBody x b ts rest → IsItem x (item.Subprogram b) ts rest

-- unit = {WITH id {, id} ;} lib
pub data IsUnit (x : Extent) : LibraryUnit → Tokens → Tokens → Type 0 where
  a_unit : {t u : Token} {ws : List WithClause} {l : LibraryItem} {ts us rest : Tokens} → AreWiths ws (t ∷ ts) (u ∷ us) → IsItem x l (u ∷ us) rest → IsUnit x (record { pos = t.pos; withs = ws; item_pos = u.pos; item = l }) (t ∷ ts) rest

-- unit {unit}
pub data AreUnits (x : Extent) : List LibraryUnit → Tokens → Tokens → Type 0 where
  one_unit : {u : LibraryUnit} {ts rest : Tokens} → IsUnit x u ts rest → AreUnits x (u ∷ []) ts rest
  more_units : {u : LibraryUnit} {units : List LibraryUnit} {ts us rest : Tokens} → IsTrue (opens x Subprograms) → AreUnits x units ts us → IsUnit x u us rest → AreUnits x (units ++ u ∷ []) ts rest

-- the tokens of a file derive its units
abbrev pub IsFile : Extent → List LibraryUnit → Tokens → Type 0
IsFile x units tokens = AreUnits x units tokens []
