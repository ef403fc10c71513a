-- What is read of a library unit derives the tokens.
use Rattle.std.proofs.Common.{◌≡◌, ℕ, suc, Bool, true, false, cond, List, [], ◌∷◌, ◌++◌, Option, Some, None}
use Rattle.ada_lexer.specs.declared.token.Token.{Token}
use Rattle.ada_syntax.specs.declared.name.Identifier.{Identifier}
use Rattle.ada_syntax.specs.declared.unit.Specification.{Specification}
use Rattle.ada_syntax.specs.declared.unit.BodyItem.TheVariants as body_item
use Rattle.ada_syntax.specs.declared.unit.Formal.{Formal}
use Rattle.ada_syntax.specs.declared.unit.LibraryItem.{LibraryItem}
use Rattle.ada_syntax.specs.declared.unit.LibraryItem.TheVariants as item
use Rattle.ada_syntax.specs.declared.unit.WithClause.{WithClause}
use Rattle.expression_parser.specs.declared.symbol.Symbol.{Symbol}
use Rattle.expression_parser.specs.declared.symbol.Symbol.TheVariants as symbol
use Rattle.expression_parser.specs.declared.extent.Extent.{Extent}
use Rattle.expression_parser.specs.declared.extent.Extent.TheVariants.{Subprograms, Generics}
use Rattle.expression_parser.specs.Symbols.{Is, identifier_of}
use Rattle.expression_parser.specs.Extents.{opens}
use Rattle.expression_parser.specs.Reading.{Tokens, Reader, Refuse, Leave, Look, got, ◌>>=◌}
use Rattle.expression_parser.specs.Expressions.{AreExprs}
use Rattle.expression_parser.specs.ExpressionReading as expressions
use Rattle.expression_parser.specs.Depth.{at_exprs}
use Rattle.expression_parser.proofs.Yields.{Yields, YieldsTurn, bind_yields, provided_yields, repeat_yields}
use Rattle.expression_parser.proofs.ExpressionSound.{exprs_sound, expr_sound}
use Rattle.declaration_parser.specs.Identifiers.{AreIdentifiers, identifiers_by}
use Rattle.declaration_parser.specs.Specifications.{IsSpecification}
use Rattle.declaration_parser.specs.Declarations.{IsDeclaration, AreDeclarations}
use Rattle.declaration_parser.specs.Formals.{AreFormals}
use Rattle.declaration_parser.specs.DeclarationReading.{specification_by, begins_declaration, declaration_by, declarations_by}
use Rattle.declaration_parser.specs.FormalReading.{formals_by}
use Rattle.declaration_parser.proofs.IdentifierLaws.{identifiers_sound}
use Rattle.declaration_parser.proofs.DeclarationSound.{specification_sound, declaration_sound, declarations_sound}
use Rattle.declaration_parser.proofs.FormalLaws.{formals_sound}
use Rattle.ada_parser.specs.Words.{Word, word, Named, name}
use Rattle.ada_parser.specs.StatementReading.{pushed}
use Rattle.ada_parser.proofs.Sound.{Sound, and_then, behind_word, behind_identifier, by_token, rest_by_token, list_sound}
use Rattle.ada_parser.proofs.StatementSound.{at_handled_sound}
use Rattle.ada_parser.specs.Grammar.{IsWith, a_with, AreWiths, no_withs, more_withs, IsEndName, no_end_name, an_end_name, IsEnd, an_end, IsBody, a_body, IsPackageItem, a_declaration, a_specification, ArePackageItems, no_package_items, more_package_items, IsBodyItem, declared_in_body, a_body_in_body, AreBodyItems, no_body_items, more_body_items, HasActuals, no_actuals, some_actuals, packaged, IsPackageRest, a_package_rest, IsItem, a_generic, a_package, a_package_body, an_instance, a_subprogram, IsUnit, a_unit, AreUnits, one_unit, more_units}
use Rattle.ada_parser.specs.UnitReading as read

identifier_lists : (m : ℕ) → Sound (identifiers_by m) AreIdentifiers
identifier_lists m = record { by = identifiers_sound m }

-- behind the word
record WithRest (w : WithClause) (us rest : Tokens) : Type 0 where
  pub by : (ts : Tokens) → Word symbol.With ts us → IsWith w ts rest

with_rests : (m : ℕ) → Sound (read.with_by m) WithRest
with_rests m = record { by = λ us. and_then _ _ us (identifier_lists m) (λ is vs l. behind_word _ symbol.Semicolon _ vs (λ rest v. record { by = λ ts w. a_with w l v })) }

withs_sound : (m : ℕ) → Sound (read.withs_by m) AreWiths
withs_sound m = record { by = λ ts. list_sound symbol.With (read.with_by m) pushed WithRest (λ ws rest. AreWiths ws ts rest) (with_rests m) (λ ws w us vs rest l v r. more_withs l (r.by us v)) (suc m) [] ts no_withs }

end_name_step : (found : Symbol) (t : Token) (us : Tokens) → Is found t → YieldsTurn (λ n rest. IsEndName n (t ∷ us) rest) (read.end_name_turn found t) t us
end_name_step symbol.Identifier t us i = an_end_name (name i)
end_name_step _ t us i = no_end_name

end_name_sound : Sound read.end_name_by IsEndName
end_name_sound = by_token (Leave None) read.end_name_turn IsEndName no_end_name end_name_step

end_sound : Sound read.end_by IsEnd
end_sound = record { by = λ ts. behind_word _ symbol.End _ ts (λ us a. and_then _ _ us end_name_sound (λ n vs e. behind_word _ symbol.Semicolon (got n) vs (λ rest b. an_end a e b))) }

-- one of two readers, and a turn of a loop
either_sound : {A : Type 0} (P : A → Tokens → Type 0) (b : Bool) (r s : Reader A) (t : Token) (us : Tokens) → Yields P (r (t ∷ us)) → Yields P (s (t ∷ us)) → YieldsTurn P (cond b (Look r) (Look s)) t us
either_sound P true r s t us p q = p
either_sound P false r s t us p q = q

module _ {A : Type 0} (r : Reader A) (P : A → Tokens → Tokens → Type 0) (Q : List A → Tokens → Type 0) (rs : Sound r P) (more : (is : List A) (i : A) (ts rest : Tokens) → Q is ts → P i ts rest → Q (is ++ i ∷ []) rest) where
  items_step : (b : Bool) (is : List A) (t : Token) (us : Tokens) → Q is (t ∷ us) → YieldsTurn Q (cond b (Look (r >>= λ i. got (is ++ i ∷ []))) (Leave is)) t us
  items_step true is t us q = and_then _ (λ i. got (is ++ i ∷ [])) (t ∷ us) rs (λ i rest p. more is i (t ∷ us) rest q p)
  items_step false is t us q = q

module _ (x : Extent) (m : ℕ) where
  specifications : Sound (specification_by x m) (IsSpecification x)
  specifications = record { by = specification_sound x m }

  declaration_lists : Sound (declarations_by x m) (AreDeclarations x)
  declaration_lists = record { by = declarations_sound x m }

  single_declarations : Sound (declaration_by x m) (IsDeclaration x)
  single_declarations = record { by = declaration_sound x m }

  formal_lists : Sound (formals_by x m) (AreFormals x)
  formal_lists = record { by = formals_sound x m }

  expression_lists : Sound (at_exprs x m) (AreExprs x)
  expression_lists = record { by = exprs_sound x (expressions.expr x (suc m)) (suc (suc m)) (expr_sound x (suc m)) }

  body_rest_sound : (s : Specification) (ts us vs : Tokens) → IsSpecification x s ts us → Word symbol.Is us vs → Yields (λ b rest. IsBody x b ts rest) (read.body_rest x m s vs)
  body_rest_sound s ts us vs p w = and_then _ _ vs declaration_lists
      (λ ds ws d. behind_word _ symbol.Begin _ ws
      (λ zs v. and_then _ _ zs (at_handled_sound x m)
      (λ h ys b. and_then _ _ ys end_sound (λ n rest e. a_body p w d v b e))))

  body_sound : Sound (read.body_by x m) (IsBody x)
  body_sound = record { by = λ ts. and_then _ _ ts specifications (λ s us p. behind_word _ symbol.Is (read.body_rest x m s) us (λ vs w. body_rest_sound s ts us vs p w)) }

  package_item_sound : Sound (read.package_item_by x m) (IsPackageItem x)
  package_item_sound = by_token Refuse (read.package_item_turn x m) (IsPackageItem x) tt
      (λ found t us i. either_sound (λ k rest. IsPackageItem x k (t ∷ us) rest) (begins_declaration found) (read.declared_item_by x m) (read.subprogram_item_by x m) t us
      (and_then _ _ (t ∷ us) single_declarations (λ d rest p. a_declaration p))
      (and_then _ _ (t ∷ us) specifications (λ s vs p. behind_word _ symbol.Semicolon _ vs (λ rest w. a_specification p w))))

  package_items_sound : Sound (read.package_items_by x m) (ArePackageItems x)
  package_items_sound = record {
    by = λ ts. repeat_yields (λ is rest. ArePackageItems x is ts rest) (read.package_items_turn x m)
        (λ found t is us i l. items_step (read.package_item_by x m) (IsPackageItem x) (λ is rest. ArePackageItems x is ts rest) package_item_sound (λ is i us rest l p. more_package_items l p) (read.begins_item found) is t us l)
        (suc m) [] ts no_package_items;
  }

  specified_step : (s : Specification) (ts : Tokens) (found : Symbol) (t : Token) (us : Tokens) → Is found t → IsSpecification x s ts (t ∷ us) → YieldsTurn (λ b rest. IsBodyItem x b ts rest) (read.specified_turn x m s found t) t us
  specified_step s ts symbol.Semicolon t us i p = declared_in_body (a_specification p (word i))
  specified_step s ts symbol.Is t us i p = bind_yields (λ b rest. IsBody x b ts rest) _ (λ b. got (body_item.Body b)) (read.body_rest x m s) us (body_rest_sound s ts (t ∷ us) us p (word i)) (λ b rest q. a_body_in_body q)
  specified_step s ts _ t us i p = tt

  specified_sound : Sound (read.specified_by x m) (IsBodyItem x)
  specified_sound = record {
    by = λ ts. and_then _ (read.specified_rest x m) ts specifications
        (λ s us p. rest_by_token Refuse (read.specified_turn x m s) (λ b rest. IsBodyItem x b ts rest) (λ vs. IsSpecification x s ts vs) (λ q. tt) (λ found t vs i q. specified_step s ts found t vs i q) us p);
  }

  body_item_sound : Sound (read.body_item_by x m) (IsBodyItem x)
  body_item_sound = by_token Refuse (read.body_item_turn x m) (IsBodyItem x) tt
      (λ found t us i. either_sound (λ k rest. IsBodyItem x k (t ∷ us) rest) (begins_declaration found) (read.declared_in_body_by x m) (read.specified_by x m) t us
      (and_then _ _ (t ∷ us) single_declarations (λ d rest p. declared_in_body (a_declaration p))) (specified_sound.by (t ∷ us)))

  body_items_sound : Sound (read.body_items_by x m) (AreBodyItems x)
  body_items_sound = record {
    by = λ ts. repeat_yields (λ is rest. AreBodyItems x is ts rest) (read.body_items_turn x m)
        (λ found t is us i l. items_step (read.body_item_by x m) (IsBodyItem x) (λ is rest. AreBodyItems x is ts rest) body_item_sound (λ is i us rest l p. more_body_items l p) (read.begins_item found) is t us l)
        (suc m) [] ts no_body_items;
  }

  actuals_step : (found : Symbol) (t : Token) (us : Tokens) → Is found t → YieldsTurn (λ es rest. HasActuals x es (t ∷ us) rest) (read.actuals_turn x m found t) t us
  actuals_step symbol.LeftParenthesis t us i = and_then _ _ us expression_lists (λ es vs l. behind_word _ symbol.RightParenthesis (got es) vs (λ rest w. some_actuals (word i) l w))
  actuals_step _ t us i = no_actuals

  actuals_sound : Sound (read.actuals_by x m) (HasActuals x)
  actuals_sound = by_token (Leave []) (read.actuals_turn x m) (HasActuals x) no_actuals actuals_step

  -- behind a name and IS
  package_rest_sound : (fs : Option (List Formal)) (i : Identifier) (ts us vs : Tokens) (Q : LibraryItem → Tokens → Type 0) → Named i ts us → Word symbol.Is us vs → ((l : LibraryItem) (rest : Tokens) → IsPackageRest x fs l ts rest → Q l rest) → Yields Q (read.package_rest x m fs i vs)
  package_rest_sound fs i ts us vs Q n w f = and_then _ _ vs package_items_sound (λ is ws l. and_then _ _ ws end_sound (λ e rest d. f (packaged fs i is e) rest (a_package_rest n w l d)))

  new_step : (i : Identifier) (ts us vs : Tokens) → opens x Subprograms ≡ true → Word symbol.Package ts us → Named i us vs → (found : Symbol) (t : Token) (zs : Tokens) → Is found t → Word symbol.Is vs (t ∷ zs) → YieldsTurn (λ l rest. IsItem x l ts rest) (read.new_turn x m i found t) t zs
  new_step i ts us vs o p n symbol.New t zs k w = provided_yields (λ l rest. IsItem x l ts rest) (opens x Generics) _ t zs
      (λ g. behind_identifier _ _ zs (λ u ys j. and_then _ _ ys actuals_sound (λ es bs l. behind_word _ symbol.Semicolon _ bs (λ rest v. an_instance o g p n w (word k) j l v))))
  new_step i ts us vs o p n _ t zs k w = package_rest_sound None i us vs (t ∷ zs) _ n w (λ l rest d. a_package o p d)

  package_step : (ts us : Tokens) → opens x Subprograms ≡ true → (found : Symbol) (t : Token) (vs : Tokens) → Is found t → Word symbol.Package ts (t ∷ vs) → YieldsTurn (λ l rest. IsItem x l ts rest) (read.package_turn x m found t) t vs
  package_step ts us o symbol.Body t vs i p = behind_identifier _ _ vs
      (λ u ws n. behind_word _ symbol.Is _ ws (λ zs w. and_then _ _ zs body_items_sound (λ is ys l. and_then _ _ ys end_sound (λ e rest d. a_package_body o p (word i) n w l d))))
  package_step ts us o _ t vs i p = behind_identifier _ _ (t ∷ vs)
      (λ u ws n. behind_word _ symbol.Is (read.package_or_instance x m (identifier_of u)) ws
      (λ zs w. rest_by_token Refuse (read.new_turn x m (identifier_of u)) (λ l rest. IsItem x l ts rest) (λ ys. Word symbol.Is ws ys) (λ q. tt) (λ found k ys j q. new_step (identifier_of u) ts (t ∷ vs) ws o p n found k ys j q) zs w))

  item_step : (found : Symbol) (t : Token) (us : Tokens) → Is found t → YieldsTurn (λ l rest. IsItem x l (t ∷ us) rest) (read.item_turn x m found t) t us
  item_step symbol.Generic t us i = provided_yields (λ l rest. IsItem x l (t ∷ us) rest) (opens x Generics) _ t us
      (λ o. and_then _ _ us formal_lists
      (λ fs vs l. behind_word _ symbol.Package _ vs
      (λ ws p. behind_identifier _ _ ws (λ u zs n. behind_word _ symbol.Is (read.package_rest x m (Some fs) (identifier_of u)) zs (λ ys w. package_rest_sound (Some fs) (identifier_of u) ws zs ys _ n w (λ k rest d. a_generic o (word i) l p d))))))
  item_step symbol.Package t us i = provided_yields (λ l rest. IsItem x l (t ∷ us) rest) (opens x Subprograms) _ t us
      (λ o. rest_by_token Refuse (read.package_turn x m) (λ l rest. IsItem x l (t ∷ us) rest) (λ vs. Word symbol.Package (t ∷ us) vs) (λ q. tt) (λ found k vs j q. package_step (t ∷ us) us o found k vs j q) us (word i))
  item_step _ t us i = and_then _ (λ b. got (item.Subprogram b)) (t ∷ us) body_sound (λ b rest p. a_subprogram p)

  item_sound : Sound (read.item_by x m) (IsItem x)
  item_sound = by_token Refuse (read.item_turn x m) (IsItem x) tt item_step

  unit_sound : Sound (read.unit_by x m) (IsUnit x)
  unit_sound = by_token Refuse (λ found t. Look (read.unit_at x m t.pos)) (IsUnit x) tt
      (λ found t us i. and_then _ (read.unit_item x m t.pos) (t ∷ us) (withs_sound m)
      (λ ws vs l. rest_by_token Refuse (λ found u. Look (read.item_by x m >>= λ k. got (record { pos = t.pos; withs = ws; item_pos = u.pos; item = k }))) (λ v rest. IsUnit x v (t ∷ us) rest) (λ zs. AreWiths ws (t ∷ us) zs) (λ q. tt)
      (λ found u zs j q. and_then _ _ (u ∷ zs) item_sound (λ k rest d. a_unit q d)) vs l))

  pub file_sound : (ts : Tokens) → Yields (λ units rest. AreUnits x units ts rest) (read.file_by x m ts)
  file_sound ts = and_then _ _ ts unit_sound
      (λ u us d. repeat_yields (λ zs rest. AreUnits x zs ts rest) (read.units_turn x m)
      (λ found t zs vs i l. provided_yields (λ ys rest. AreUnits x ys ts rest) (opens x Subprograms) _ t vs (λ o. and_then _ (λ v. got (zs ++ v ∷ [])) (t ∷ vs) unit_sound (λ v rest p. more_units o l p)))
      (suc m) (u ∷ []) us (one_unit d))
