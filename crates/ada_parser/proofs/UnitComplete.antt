-- What derives tokens is read of them.
use Rattle.std.proofs.Common.{◌≡◌, ℕ, suc, ◌<◌, ◌≤◌, Bool, true, false, cond, List, [], ◌∷◌, ◌++◌, length, Option, Some, None, refl, ap, ◌∙◌, subst, arith}
use Rattle.ada_lexer.specs.declared.token.Token.{Token}
use Rattle.ada_syntax.specs.Tree.{Expr}
use Rattle.ada_syntax.specs.StatementTree.{Handled}
use Rattle.ada_syntax.specs.declared.name.Identifier.{Identifier}
use Rattle.ada_syntax.specs.declared.declaration.Declaration.{Declaration}
use Rattle.ada_syntax.specs.declared.unit.Specification.{Specification}
use Rattle.ada_syntax.specs.declared.unit.SubprogramBody.{SubprogramBody}
use Rattle.ada_syntax.specs.declared.unit.PackageItem.{PackageItem}
use Rattle.ada_syntax.specs.declared.unit.PackageItem.TheVariants as package_item
use Rattle.ada_syntax.specs.declared.unit.BodyItem.{BodyItem}
use Rattle.ada_syntax.specs.declared.unit.BodyItem.TheVariants as body_item
use Rattle.ada_syntax.specs.declared.unit.Formal.{Formal}
use Rattle.ada_syntax.specs.declared.unit.LibraryItem.{LibraryItem}
use Rattle.ada_syntax.specs.declared.unit.LibraryItem.TheVariants as item
use Rattle.ada_syntax.specs.declared.unit.WithClause.{WithClause}
use Rattle.ada_syntax.specs.declared.unit.Unit.{Unit as LibraryUnit}
use Rattle.expression_parser.specs.declared.symbol.Symbol.{Symbol}
use Rattle.expression_parser.specs.declared.symbol.Symbol.TheVariants as symbol
use Rattle.expression_parser.specs.declared.extent.Extent.{Extent}
use Rattle.expression_parser.specs.declared.extent.Extent.TheVariants.{Subprograms, Generics}
use Rattle.expression_parser.specs.Symbols.{symbol_of, same, Is, identifier_of}
use Rattle.expression_parser.specs.Extents.{opens}
use Rattle.expression_parser.specs.Reading.{Tokens, Reading, Reader, Got, Turn, Refuse, Leave, Take, Look, got, ◌>>=◌, turned, provided, expect, skip, repeat}
use Rattle.expression_parser.specs.Expressions.{AreExprs}
use Rattle.expression_parser.specs.ExpressionReading as expressions
use Rattle.expression_parser.specs.Depth.{at_exprs}
use Rattle.expression_parser.specs.Shows.{next_is}
use Rattle.expression_parser.proofs.Comes.{ends_at, got_bind, got_then, got_expect, on_symbol, Comes, comes_leave, comes_look}
use Rattle.expression_parser.proofs.ExpressionLengths.{exprs_shorter}
use Rattle.expression_parser.proofs.ExpressionComplete.{complete_exprs, Begins}
use Rattle.declaration_parser.specs.Identifiers.{AreIdentifiers}
use Rattle.declaration_parser.specs.Specifications.{IsSpecification, a_procedure, a_function}
use Rattle.declaration_parser.specs.Declarations.{IsDeclaration, AreDeclarations}
use Rattle.declaration_parser.specs.Formals.{AreFormals}
use Rattle.declaration_parser.specs.DeclarationReading.{begins_declaration, declaration_by}
use Rattle.declaration_parser.specs.FormalReading.{formals_by, begins_formal}
use Rattle.declaration_parser.proofs.IdentifierLaws.{identifiers_shorter, identifiers_complete}
use Rattle.declaration_parser.proofs.DeclarationComplete.{specification_shorter, declaration_shorter, declarations_shorter, specification_complete, declaration_complete, declaration_first}
use Rattle.declaration_parser.proofs.FormalLaws.{formals_shorter, formals_complete}
use Rattle.ada_parser.specs.Words.{Word, word, Named, name}
use Rattle.ada_parser.specs.Lists.{listed_turn}
use Rattle.ada_parser.specs.Statements.{IsHandled}
use Rattle.ada_parser.specs.StatementReading.{pushed}
use Rattle.ada_parser.specs.StatementDepth.{at_handled}
use Rattle.ada_parser.proofs.Below.{complete_below}
use Rattle.ada_parser.proofs.Complete.{got_word, ends_word, next_word, list_take, list_leave, not_first}
use Rattle.ada_parser.proofs.StatementLengths.{word_shorter, identifier_shorter, handled_takes}
use Rattle.ada_parser.proofs.StatementComplete.{at_handled_complete}
use Rattle.ada_parser.specs.Grammar.{IsWith, a_with, AreWiths, no_withs, more_withs, IsEndName, no_end_name, an_end_name, IsEnd, an_end, bodied, IsBody, a_body, IsPackageItem, a_declaration, a_specification, ArePackageItems, no_package_items, more_package_items, IsBodyItem, declared_in_body, a_body_in_body, AreBodyItems, no_body_items, more_body_items, HasActuals, no_actuals, some_actuals, packaged, package_bodied, instanced, IsPackageRest, a_package_rest, IsItem, a_generic, a_package, a_package_body, an_instance, a_subprogram, IsUnit, a_unit, AreUnits, one_unit, more_units, IsFile}
use Rattle.ada_parser.specs.UnitReading as read

-- lengths
with_shorter : {w : WithClause} {ts rest : Tokens} → IsWith w ts rest → length rest < length ts
with_shorter (a_with v l w) = omega (arith, word_shorter v, identifiers_shorter l, word_shorter w)

withs_shorter : {ws : List WithClause} {ts rest : Tokens} → AreWiths ws ts rest → length rest ≤ length ts
withs_shorter no_withs = omega arith
withs_shorter (more_withs l d) = omega (arith, withs_shorter l, with_shorter d)

end_name_shorter : {n : Option Identifier} {ts rest : Tokens} → IsEndName n ts rest → length rest ≤ length ts
end_name_shorter no_end_name = omega arith
end_name_shorter (an_end_name i) = omega (arith, identifier_shorter i)

end_shorter : {n : Option Identifier} {ts rest : Tokens} → IsEnd n ts rest → length rest < length ts
end_shorter (an_end a n b) = omega (arith, word_shorter a, end_name_shorter n, word_shorter b)

module _ (x : Extent) where
  body_shorter : {b : SubprogramBody} {ts rest : Tokens} → IsBody x b ts rest → length rest < length ts
  body_shorter (a_body p w d v h e) = omega (arith, specification_shorter x p, word_shorter w, declarations_shorter x d, word_shorter v, handled_takes x h, end_shorter e)

  package_item_shorter : {i : PackageItem} {ts rest : Tokens} → IsPackageItem x i ts rest → length rest < length ts
  package_item_shorter (a_declaration d) = declaration_shorter x d
  package_item_shorter (a_specification p w) = omega (arith, specification_shorter x p, word_shorter w)

  package_items_shorter : {is : List PackageItem} {ts rest : Tokens} → ArePackageItems x is ts rest → length rest ≤ length ts
  package_items_shorter no_package_items = omega arith
  package_items_shorter (more_package_items l d) = omega (arith, package_items_shorter l, package_item_shorter d)

  body_item_shorter : {i : BodyItem} {ts rest : Tokens} → IsBodyItem x i ts rest → length rest < length ts
  body_item_shorter (declared_in_body d) = package_item_shorter d
  body_item_shorter (a_body_in_body b) = body_shorter b

  body_items_shorter : {is : List BodyItem} {ts rest : Tokens} → AreBodyItems x is ts rest → length rest ≤ length ts
  body_items_shorter no_body_items = omega arith
  body_items_shorter (more_body_items l d) = omega (arith, body_items_shorter l, body_item_shorter d)

  actuals_shorter : {es : List Expr} {ts rest : Tokens} → HasActuals x es ts rest → length rest ≤ length ts
  actuals_shorter no_actuals = omega arith
  actuals_shorter (some_actuals v l w) = omega (arith, word_shorter v, exprs_shorter x l, word_shorter w)

  package_rest_shorter : {fs : Option (List Formal)} {l : LibraryItem} {ts rest : Tokens} → IsPackageRest x fs l ts rest → length rest < length ts
  package_rest_shorter (a_package_rest n w l e) = omega (arith, identifier_shorter n, word_shorter w, package_items_shorter l, end_shorter e)

  item_shorter : {l : LibraryItem} {ts rest : Tokens} → IsItem x l ts rest → length rest < length ts
  item_shorter (a_generic o w l p d) = omega (arith, word_shorter w, formals_shorter x l, word_shorter p, package_rest_shorter d)
  item_shorter (a_package o w d) = omega (arith, word_shorter w, package_rest_shorter d)
  item_shorter (a_package_body o p b n w l e) = omega (arith, word_shorter p, word_shorter b, identifier_shorter n, word_shorter w, body_items_shorter l, end_shorter e)
  item_shorter (an_instance o g p n w k j l v) = omega (arith, word_shorter p, identifier_shorter n, word_shorter w, word_shorter k, identifier_shorter j, actuals_shorter l, word_shorter v)
  item_shorter (a_subprogram d) = body_shorter d

  pub unit_shorter : {u : LibraryUnit} {ts rest : Tokens} → IsUnit x u ts rest → length rest < length ts
  unit_shorter (a_unit l d) = omega (arith, withs_shorter l, item_shorter d)

  pub units_shorter : {us : List LibraryUnit} {ts rest : Tokens} → AreUnits x us ts rest → length rest < length ts
  units_shorter (one_unit d) = unit_shorter d
  units_shorter (more_units o l d) = omega (arith, units_shorter l, unit_shorter d)

-- words
got_named : {A : Type 0} {q : Reading A} {i : Identifier} {ts us : Tokens} (k : Identifier → Reader A) → Named i ts us → k i us ≡ q → (expect symbol.Identifier >>= λ u. k (identifier_of u)) ts ≡ q
got_named k (name {t = t} {rest = rest} i) e = got_bind (λ u. k (identifier_of u)) (got_expect symbol.Identifier t rest i) e

-- the turn of a production that is open
opened : {A : Type 0} {q : Reading A} (b : Bool) (z : Turn A) (t : Token) (us : Tokens) → b ≡ true → turned z t us ≡ q → turned (provided b z) t us ≡ q
opened true z t us h e = e
opened false z t us h e = cc

-- WITH
with_complete : {is : List Identifier} {ts us rest : Tokens} → AreIdentifiers is ts us → Word symbol.Semicolon us rest → (m : ℕ) → length ts ≤ m → read.with_by m ts ≡ Got (record { names = is }) rest
with_complete {is = is} l (word {t = t} {rest = rest} i) m h = got_bind (λ zs. skip symbol.Semicolon (got (record { names = zs }))) (identifiers_complete symbol.Semicolon l i (λ zs. refl) m h) (got_word (got (record { names = is })) (word i) refl)

withs_come : {ws : List WithClause} {ts rest : Tokens} → AreWiths ws ts rest → (m : ℕ) → length ts ≤ m → Comes (listed_turn symbol.With (read.with_by m) pushed) (read.withs_by m ts) ws rest
withs_come (no_withs {ts = ts}) m h = record { turns = suc m; room = omega arith; here = refl }
withs_come (more_withs {rest = rest} l (a_with v d w)) m h = list_take symbol.With (read.with_by m) pushed rest (withs_come l m h) v (with_complete d w m (omega (arith, withs_shorter l, word_shorter v))) (omega (arith, identifiers_shorter d, word_shorter w))

-- END [id] ;
end_name_complete : {n : Option Identifier} {ts us rest : Tokens} → IsEndName n ts us → Word symbol.Semicolon us rest → read.end_name_by ts ≡ Got n us
end_name_complete no_end_name (word {t = t} {rest = rest} i) = on_symbol (Leave None) read.end_name_turn symbol.Semicolon t rest i
end_name_complete (an_end_name (name {t = t} {rest = us} i)) w = on_symbol (Leave None) read.end_name_turn symbol.Identifier t us i

end_complete : {n : Option Identifier} {ts rest : Tokens} → IsEnd n ts rest → read.end_by ts ≡ Got n rest
end_complete (an_end {n = n} a e b) = got_word (read.end_name_by >>= λ z. skip symbol.Semicolon (got z)) a (got_bind (λ z. skip symbol.Semicolon (got z)) (end_name_complete e b) (got_word (got n) b refl))

pub end_word : {n : Option Identifier} {ts rest : Tokens} → IsEnd n ts rest → (us : Tokens) × Word symbol.End ts us
end_word (an_end a e b) = (_, a)

-- the first token of a specification
data Specifies : Tokens → Type 0 where
  with_procedure : {t : Token} {us : Tokens} → Is symbol.Procedure t → Specifies (t ∷ us)
  with_function : {t : Token} {us : Tokens} → Is symbol.Function t → Specifies (t ∷ us)

specification_first : {x : Extent} {s : Specification} {ts rest : Tokens} → IsSpecification x s ts rest → Specifies ts
specification_first (a_procedure i j k) = with_procedure i
specification_first (a_function o i j k l n) = with_function i

body_first : {x : Extent} {b : SubprogramBody} {ts rest : Tokens} → IsBody x b ts rest → Specifies ts
body_first (a_body p w d v h e) = specification_first p

-- an item of a package begins here, or the items end
abbrev starts_item : Symbol → Bool
starts_item s = cond (begins_declaration s) true (cond (read.begins_specification s) true (same s symbol.End))

starts_specification : {ts : Tokens} → Specifies ts → Begins starts_item ts
starts_specification (with_procedure {t = t} {us = us} i) = record { t = t; us = us; here = refl; first = ap starts_item i }
starts_specification (with_function {t = t} {us = us} i) = record { t = t; us = us; here = refl; first = ap starts_item i }

module _ (x : Extent) (m : ℕ) where
  package_item_begins : {i : PackageItem} {ts rest : Tokens} → IsPackageItem x i ts rest → Begins starts_item ts
  package_item_begins (a_declaration d) = let f = declaration_first x m d in record { t = f.t; us = f.us; here = f.here; first = ap (λ b. cond b true (cond (read.begins_specification (symbol_of f.t.lexeme)) true (same (symbol_of f.t.lexeme) symbol.End))) f.first }
  package_item_begins (a_specification p w) = starts_specification (specification_first p)

  package_items_begin : {is : List PackageItem} {ts us : Tokens} → ArePackageItems x is ts us → Begins starts_item us → Begins starts_item ts
  package_items_begin no_package_items b = b
  package_items_begin (more_package_items l d) b = package_items_begin l (package_item_begins d)

  end_begins : {ts us : Tokens} → Word symbol.End ts us → Begins starts_item ts
  end_begins (word {t = t} {rest = us} i) = record { t = t; us = us; here = refl; first = ap starts_item i }

  body_rest_complete : {s : Specification} {ds : List Declaration} {h : Handled} {n : Option Identifier} {ts us vs ws rest : Tokens} → AreDeclarations x ds ts us → Word symbol.Begin us vs → IsHandled x h vs ws → IsEnd n ws rest → length ts ≤ m
      → read.body_rest x m s ts ≡ Got (bodied s ds h n) rest
  body_rest_complete {s} {ds} {h} {n} d v b e l = got_bind (λ zs. skip symbol.Begin (at_handled x m >>= λ z. read.end_by >>= λ k. got (bodied s zs z k))) ((complete_below x m).declarations_complete _ _ _ _ d v l)
      (got_word (at_handled x m >>= λ z. read.end_by >>= λ k. got (bodied s ds z k)) v
      (got_bind (λ z. read.end_by >>= λ k. got (bodied s ds z k)) (at_handled_complete x m b (end_word e).1 (omega (arith, declarations_shorter x d, word_shorter v))) (got_then (λ k. bodied s ds h k) (end_complete e))))

  body_complete : {b : SubprogramBody} {ts rest : Tokens} → IsBody x b ts rest → length ts ≤ m → read.body_by x m ts ≡ Got b rest
  body_complete (a_body {s = s} p w d v b e) h = got_bind (λ z. skip symbol.Is (read.body_rest x m z)) (specification_complete x m p h (ends_word 0 w (omega arith)))
      (got_word (read.body_rest x m s) w (body_rest_complete d v b e (omega (arith, specification_shorter x p, word_shorter w))))

  -- {decl}
  abbrev another : List PackageItem → Reader (List PackageItem)
  another is = read.package_item_by x m >>= λ i. got (is ++ i ∷ [])

  declared_item : {d : Declaration} (t : Token) (us rest : Tokens) → begins_declaration (symbol_of t.lexeme) ≡ true → declaration_by x m (t ∷ us) ≡ Got d rest → read.package_item_by x m (t ∷ us) ≡ Got (package_item.Declaration d) rest
  declared_item t us rest b e = ap (λ z. turned (cond z (Look (read.declared_item_by x m)) (Look (read.subprogram_item_by x m))) t us) b ∙ got_then (λ z. package_item.Declaration z) e

  declared_comes : {q : Reading (List PackageItem)} {is : List PackageItem} {d : Declaration} {us : Tokens} (rest : Tokens) → IsDeclaration x d us rest → length us ≤ m → Comes (read.package_items_turn x m) q is us → Comes (read.package_items_turn x m) q (is ++ package_item.Declaration d ∷ []) rest
  declared_comes {q} {is} {d} {us} rest p h c =
      let f = declaration_first x m p in
      let e = declaration_complete x m p h in
      comes_look (read.package_items_turn x m) f.t f.us rest (another is) (subst (λ z. Comes (read.package_items_turn x m) q is z) f.here c)
      (ap (λ b. cond (cond b true (read.begins_specification (symbol_of f.t.lexeme))) (Look (another is)) (Leave is)) f.first)
      (got_then (λ i. is ++ i ∷ []) (declared_item f.t f.us rest f.first (subst (λ z. declaration_by x m z ≡ Got d rest) f.here e))) (subst (λ z. length rest < length z) f.here (declaration_shorter x p))

  specified_comes : {q : Reading (List PackageItem)} {is : List PackageItem} {i : PackageItem} {us : Tokens} (rest : Tokens) → Specifies us → read.subprogram_item_by x m us ≡ Got i rest → length rest < length us → Comes (read.package_items_turn x m) q is us
      → Comes (read.package_items_turn x m) q (is ++ i ∷ []) rest
  specified_comes {is = is} rest (with_procedure {t = t} {us = us} i) e l c = comes_look (read.package_items_turn x m) t us rest (another is) c (ap (λ z. read.package_items_turn x m z t is) i)
      (got_then (λ i. is ++ i ∷ []) (on_symbol Refuse (read.package_item_turn x m) symbol.Procedure t us i ∙ e)) l
  specified_comes {is = is} rest (with_function {t = t} {us = us} i) e l c = comes_look (read.package_items_turn x m) t us rest (another is) c (ap (λ z. read.package_items_turn x m z t is) i)
      (got_then (λ i. is ++ i ∷ []) (on_symbol Refuse (read.package_item_turn x m) symbol.Function t us i ∙ e)) l

  package_items_come : {is : List PackageItem} {ts rest : Tokens} → ArePackageItems x is ts rest → length ts ≤ m → Comes (read.package_items_turn x m) (read.package_items_by x m ts) is rest
  package_items_come no_package_items h = record { turns = suc m; room = omega arith; here = refl }
  package_items_come (more_package_items {rest = rest} l (a_declaration d)) h = declared_comes rest d (omega (arith, package_items_shorter x l)) (package_items_come l h)
  package_items_come (more_package_items {rest = rest} l (a_specification {s = s} p w)) h = specified_comes rest (specification_first p)
      (got_bind (λ z. skip symbol.Semicolon (got (package_item.Subprogram z))) (specification_complete x m p (omega (arith, package_items_shorter x l)) (ends_word 0 w (omega arith))) (got_word (got (package_item.Subprogram s)) w refl))
      (omega (arith, specification_shorter x p, word_shorter w)) (package_items_come l h)

  package_items_complete : {is : List PackageItem} {ts us vs : Tokens} → ArePackageItems x is ts us → Word symbol.End us vs → length ts ≤ m → read.package_items_by x m ts ≡ Got is us
  package_items_complete {is = is} l (word {t = t} i) h = comes_leave (read.package_items_turn x m) (package_items_come l h) (ap (λ z. read.package_items_turn x m z t is) i)

  -- {decl | body}
  abbrev one_more : List BodyItem → Reader (List BodyItem)
  one_more is = read.body_item_by x m >>= λ i. got (is ++ i ∷ [])

  declared_in_body_item : {d : Declaration} (t : Token) (us rest : Tokens) → begins_declaration (symbol_of t.lexeme) ≡ true → declaration_by x m (t ∷ us) ≡ Got d rest → read.body_item_by x m (t ∷ us) ≡ Got (body_item.Declared (package_item.Declaration d)) rest
  declared_in_body_item t us rest b e = ap (λ z. turned (cond z (Look (read.declared_in_body_by x m)) (Look (read.specified_by x m))) t us) b ∙ got_then (λ z. body_item.Declared (package_item.Declaration z)) e

  declared_in_body_comes : {q : Reading (List BodyItem)} {is : List BodyItem} {d : Declaration} {us : Tokens} (rest : Tokens) → IsDeclaration x d us rest → length us ≤ m → Comes (read.body_items_turn x m) q is us
      → Comes (read.body_items_turn x m) q (is ++ body_item.Declared (package_item.Declaration d) ∷ []) rest
  declared_in_body_comes {q} {is} {d} {us} rest p h c =
      let f = declaration_first x m p in
      let e = declaration_complete x m p h in
      comes_look (read.body_items_turn x m) f.t f.us rest (one_more is) (subst (λ z. Comes (read.body_items_turn x m) q is z) f.here c)
      (ap (λ b. cond (cond b true (read.begins_specification (symbol_of f.t.lexeme))) (Look (one_more is)) (Leave is)) f.first)
      (got_then (λ i. is ++ i ∷ []) (declared_in_body_item f.t f.us rest f.first (subst (λ z. declaration_by x m z ≡ Got d rest) f.here e))) (subst (λ z. length rest < length z) f.here (declaration_shorter x p))

  specified_in_body_comes : {q : Reading (List BodyItem)} {is : List BodyItem} {i : BodyItem} {us : Tokens} (rest : Tokens) → Specifies us → read.specified_by x m us ≡ Got i rest → length rest < length us → Comes (read.body_items_turn x m) q is us
      → Comes (read.body_items_turn x m) q (is ++ i ∷ []) rest
  specified_in_body_comes {is = is} rest (with_procedure {t = t} {us = us} i) e l c = comes_look (read.body_items_turn x m) t us rest (one_more is) c (ap (λ z. read.body_items_turn x m z t is) i)
      (got_then (λ i. is ++ i ∷ []) (on_symbol Refuse (read.body_item_turn x m) symbol.Procedure t us i ∙ e)) l
  specified_in_body_comes {is = is} rest (with_function {t = t} {us = us} i) e l c = comes_look (read.body_items_turn x m) t us rest (one_more is) c (ap (λ z. read.body_items_turn x m z t is) i)
      (got_then (λ i. is ++ i ∷ []) (on_symbol Refuse (read.body_item_turn x m) symbol.Function t us i ∙ e)) l

  semicolon_read : (s : Specification) {us rest : Tokens} → Word symbol.Semicolon us rest → read.specified_rest x m s us ≡ Got (body_item.Declared (package_item.Subprogram s)) rest
  semicolon_read s (word {t = t} {rest = rest} i) = on_symbol Refuse (read.specified_turn x m s) symbol.Semicolon t rest i

  is_read : (s : Specification) {b : SubprogramBody} {us vs : Tokens} (rest : Tokens) → Word symbol.Is us vs → read.body_rest x m s vs ≡ Got b rest → read.specified_rest x m s us ≡ Got (body_item.Body b) rest
  is_read s rest (word {t = t} {rest = vs} i) e = on_symbol Refuse (read.specified_turn x m s) symbol.Is t vs i ∙ got_then (λ b. body_item.Body b) e

  body_items_come : {is : List BodyItem} {ts rest : Tokens} → AreBodyItems x is ts rest → length ts ≤ m → Comes (read.body_items_turn x m) (read.body_items_by x m ts) is rest
  body_items_come no_body_items h = record { turns = suc m; room = omega arith; here = refl }
  body_items_come (more_body_items {rest = rest} l (declared_in_body (a_declaration d))) h = declared_in_body_comes rest d (omega (arith, body_items_shorter x l)) (body_items_come l h)
  body_items_come (more_body_items {rest = rest} l (declared_in_body (a_specification {s = s} p w))) h = specified_in_body_comes rest (specification_first p)
      (got_bind (read.specified_rest x m) (specification_complete x m p (omega (arith, body_items_shorter x l)) (ends_word 0 w (omega arith))) (semicolon_read s w))
      (omega (arith, specification_shorter x p, word_shorter w)) (body_items_come l h)
  body_items_come (more_body_items {rest = rest} l (a_body_in_body (a_body {s = s} p w d v b e))) h = specified_in_body_comes rest (specification_first p)
      (got_bind (read.specified_rest x m) (specification_complete x m p (omega (arith, body_items_shorter x l)) (ends_word 0 w (omega arith)))
      (is_read s rest w (body_rest_complete d v b e (omega (arith, body_items_shorter x l, specification_shorter x p, word_shorter w)))))
      (body_shorter x (a_body p w d v b e)) (body_items_come l h)

  body_items_complete : {is : List BodyItem} {ts us vs : Tokens} → AreBodyItems x is ts us → Word symbol.End us vs → length ts ≤ m → read.body_items_by x m ts ≡ Got is us
  body_items_complete {is = is} l (word {t = t} i) h = comes_leave (read.body_items_turn x m) (body_items_come l h) (ap (λ z. read.body_items_turn x m z t is) i)

  -- actuals
  exprs_complete : {es : List Expr} {ts us vs : Tokens} → AreExprs x es ts us → Word symbol.RightParenthesis us vs → length ts ≤ m → at_exprs x m ts ≡ Got es us
  exprs_complete {es = es} l (word {t = t} {rest = vs} i) h = comes_leave (expressions.comma_turn x (expressions.expr x (suc m)) (suc (suc m))) (complete_exprs x l (suc m) (omega arith) (ends_at 4 symbol.RightParenthesis t vs i (omega arith)))
      (ap (λ z. expressions.comma_turn x (expressions.expr x (suc m)) (suc (suc m)) z t es) i)

  actuals_complete : {es : List Expr} {ts us vs : Tokens} → HasActuals x es ts us → Word symbol.Semicolon us vs → length ts ≤ m → read.actuals_by x m ts ≡ Got es us
  actuals_complete no_actuals (word {t = t} {rest = rest} i) h = on_symbol (Leave []) (read.actuals_turn x m) symbol.Semicolon t rest i
  actuals_complete (some_actuals {es = es} (word {t = t} {rest = us} i) l w) v h = on_symbol (Leave []) (read.actuals_turn x m) symbol.LeftParenthesis t us i
      ∙ got_bind (λ zs. skip symbol.RightParenthesis (got zs)) (exprs_complete l w (omega arith)) (got_word (got es) w refl)

  -- behind IS
  package_rest_complete : {fs : Option (List Formal)} {i : Identifier} {is : List PackageItem} {n : Option Identifier} {ts us rest : Tokens} → ArePackageItems x is ts us → IsEnd n us rest → length ts ≤ m → read.package_rest x m fs i ts ≡ Got (packaged fs i is n) rest
  package_rest_complete {fs} {i} {is} {n} l e h = got_bind (λ zs. read.end_by >>= λ z. got (packaged fs i zs z)) (package_items_complete l (end_word e).1 h) (got_then (λ z. packaged fs i is z) (end_complete e))

  no_new : (i : Identifier) (s : Symbol) (t : Token) → same s symbol.New ≡ false → read.new_turn x m i s t ≡ Look (read.package_rest x m None i)
  no_new i symbol.New t h = cc
  no_new i _ t h = refl

  package_looks : (i : Identifier) {ts : Tokens} → Begins starts_item ts → read.package_or_instance x m i ts ≡ read.package_rest x m None i ts
  package_looks i b = rw b.here (ap (λ z. turned z b.t b.us) (no_new i (symbol_of b.t.lexeme) b.t (not_first b symbol.New refl)))

  instance_read : {i g : Identifier} {es : List Expr} {ts us vs ws rest : Tokens} → opens x Generics ≡ true → Word symbol.New ts us → Named g us vs → HasActuals x es vs ws → Word symbol.Semicolon ws rest → length ts ≤ m → read.package_or_instance x m i ts ≡ Got (instanced i g es) rest
  instance_read {i} {g} {es} o (word {t = t} {rest = us} k) j l v h = on_symbol Refuse (read.new_turn x m i) symbol.New t us k
      ∙ opened (opens x Generics) (Take (read.instance_rest x m i)) t us o
      (got_named (λ z. read.actuals_by x m >>= λ zs. skip symbol.Semicolon (got (instanced i z zs))) j
      (got_bind (λ zs. skip symbol.Semicolon (got (instanced i g zs))) (actuals_complete l v (omega (arith, identifier_shorter j))) (got_word (got (instanced i g es)) v refl)))

  -- behind PACKAGE
  named_package : {q : Reading LibraryItem} {i : Identifier} {ts us vs : Tokens} → Named i ts us → Word symbol.Is us vs → read.package_or_instance x m i vs ≡ q → read.package_by x m ts ≡ q
  named_package (name {t = t} {rest = us} k) w e = on_symbol Refuse (read.package_turn x m) symbol.Identifier t us k
      ∙ got_named (λ z. skip symbol.Is (read.package_or_instance x m z)) (name k) (got_word (read.package_or_instance x m (identifier_of t)) w e)

  package_body_read : {i : Identifier} {is : List BodyItem} {n : Option Identifier} {ts us vs ws zs rest : Tokens} → Word symbol.Body ts us → Named i us vs → Word symbol.Is vs ws → AreBodyItems x is ws zs → IsEnd n zs rest → length ts ≤ m
      → read.package_by x m ts ≡ Got (package_bodied i is n) rest
  package_body_read {i} {is} {n} (word {t = t} {rest = us} k) j w l e h = on_symbol Refuse (read.package_turn x m) symbol.Body t us k
      ∙ got_named (λ z. skip symbol.Is (read.body_items_by x m >>= λ ys. read.end_by >>= λ y. got (package_bodied z ys y))) j
      (got_word (read.body_items_by x m >>= λ ys. read.end_by >>= λ y. got (package_bodied i ys y)) w
      (got_bind (λ ys. read.end_by >>= λ y. got (package_bodied i ys y)) (body_items_complete l (end_word e).1 (omega (arith, identifier_shorter j, word_shorter w))) (got_then (λ y. package_bodied i is y) (end_complete e))))

  subprogram_read : {b : SubprogramBody} {ts : Tokens} (rest : Tokens) → Specifies ts → read.body_by x m ts ≡ Got b rest → read.item_by x m ts ≡ Got (item.Subprogram b) rest
  subprogram_read rest (with_procedure {t = t} {us = us} i) e = on_symbol Refuse (read.item_turn x m) symbol.Procedure t us i ∙ got_then (λ b. item.Subprogram b) e
  subprogram_read rest (with_function {t = t} {us = us} i) e = on_symbol Refuse (read.item_turn x m) symbol.Function t us i ∙ got_then (λ b. item.Subprogram b) e

  formals_before : {fs : List Formal} {ts us vs : Tokens} → AreFormals x fs ts us → Word symbol.Package us vs → length ts ≤ m → formals_by x m ts ≡ Got fs us
  formals_before l (word i) h = formals_complete x m l (ap begins_formal i) h

  generic_read : {fs : List Formal} {l : LibraryItem} {ts us vs rest : Tokens} → AreFormals x fs ts us → Word symbol.Package us vs → IsPackageRest x (Some fs) l vs rest → length ts ≤ m → read.generic_by x m ts ≡ Got l rest
  generic_read {fs = fs} k p (a_package_rest {i = i} n w l e) h =
      got_bind (λ zs. skip symbol.Package (expect symbol.Identifier >>= λ u. skip symbol.Is (read.package_rest x m (Some zs) (identifier_of u)))) (formals_before k p h)
      (got_word (expect symbol.Identifier >>= λ u. skip symbol.Is (read.package_rest x m (Some fs) (identifier_of u))) p
      (got_named (λ z. skip symbol.Is (read.package_rest x m (Some fs) z)) n
      (got_word (read.package_rest x m (Some fs) i) w (package_rest_complete l e (omega (arith, formals_shorter x k, word_shorter p, identifier_shorter n, word_shorter w))))))

  pub item_complete : {l : LibraryItem} {ts rest : Tokens} → IsItem x l ts rest → length ts ≤ m → read.item_by x m ts ≡ Got l rest
  item_complete (a_generic {fs = fs} o (word {t = t} {rest = us} k) l p d) h = on_symbol Refuse (read.item_turn x m) symbol.Generic t us k
      ∙ opened (opens x Generics) (Take (read.generic_by x m)) t us o (generic_read l p d (omega arith))
  item_complete (a_package o (word {t = t} {rest = us} k) (a_package_rest {i = i} n w l e)) h = on_symbol Refuse (read.item_turn x m) symbol.Package t us k
      ∙ opened (opens x Subprograms) (Take (read.package_by x m)) t us o
      (named_package n w (package_looks i (package_items_begin l (end_begins (end_word e).1)) ∙ package_rest_complete l e (omega (arith, identifier_shorter n, word_shorter w))))
  item_complete (a_package_body o (word {t = t} {rest = us} k) b n w l e) h = on_symbol Refuse (read.item_turn x m) symbol.Package t us k
      ∙ opened (opens x Subprograms) (Take (read.package_by x m)) t us o (package_body_read b n w l e (omega arith))
  item_complete (an_instance o g (word {t = t} {rest = us} k) n w v j l z) h = on_symbol Refuse (read.item_turn x m) symbol.Package t us k
      ∙ opened (opens x Subprograms) (Take (read.package_by x m)) t us o (named_package n w (instance_read g v j l z (omega (arith, identifier_shorter n, word_shorter w))))
  item_complete (a_subprogram {rest = rest} d) h = subprogram_read rest (body_first d) (body_complete d h)

  -- units
  no_with : {ts : Tokens} → Specifies ts → next_is (λ z. same z symbol.With) ts ≡ false
  no_with (with_procedure i) = ap (λ z. same z symbol.With) i
  no_with (with_function i) = ap (λ z. same z symbol.With) i

  item_first : {l : LibraryItem} {ts rest : Tokens} → IsItem x l ts rest → next_is (λ z. same z symbol.With) ts ≡ false
  item_first (a_generic o w l p d) = next_word (λ z. same z symbol.With) w refl
  item_first (a_package o w d) = next_word (λ z. same z symbol.With) w refl
  item_first (a_package_body o p b n w l e) = next_word (λ z. same z symbol.With) p refl
  item_first (an_instance o g p n w v j l z) = next_word (λ z. same z symbol.With) p refl
  item_first (a_subprogram d) = no_with (body_first d)

  unit_complete : {u : LibraryUnit} {ts rest : Tokens} → IsUnit x u ts rest → length ts ≤ m → read.unit_by x m ts ≡ Got u rest
  unit_complete (a_unit {t = t} {u = u} {ws = ws} {us = us} l d) h = got_bind (read.unit_item x m t.pos) (list_leave symbol.With (read.with_by m) pushed (withs_come l m h) (item_first d))
      (got_then (λ z. record { pos = t.pos; withs = ws; item_pos = u.pos; item = z }) (item_complete d (omega (arith, withs_shorter l))))

  units_come : {units : List LibraryUnit} {ts rest : Tokens} → AreUnits x units ts rest → length ts ≤ m → Comes (read.units_turn x m) (read.file_by x m ts) units rest
  units_come (one_unit d) h = record {
    turns = suc m;
    room = omega (arith, unit_shorter x d);
    here = got_bind (λ u. repeat (read.units_turn x m) (suc m) (u ∷ [])) (unit_complete d h) refl;
  }
  units_come (more_units {units = units} {us = us} {rest = rest} o l (a_unit {t = t} {ts = vs} ws d)) h =
      comes_look (read.units_turn x m) t vs rest (read.unit_by x m >>= λ u. got (units ++ u ∷ [])) (units_come l h)
      (ap (λ b. provided b (Look (read.unit_by x m >>= λ u. got (units ++ u ∷ [])))) o)
      (got_then (λ u. units ++ u ∷ []) (unit_complete (a_unit ws d) (omega (arith, units_shorter x l)))) (unit_shorter x (a_unit ws d))

  pub file_complete : {units : List LibraryUnit} {ts : Tokens} → IsFile x units ts → length ts ≤ m → read.file_by x m ts ≡ Got units []
  file_complete d h = comes_leave (read.units_turn x m) (units_come d h) tt
