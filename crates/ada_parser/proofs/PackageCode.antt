-- How packages are read, answer by answer.
use Rattle.std.proofs.Common.{◌≡◌, ℕ, ◌<◌, ◌≤◌, true, false, List, [], ◌∷◌, length, Option, Some, None, refl, ap, ◌∙◌, subst, arith}
use Rattle.ada_lexer.specs.declared.token.Token.{Token}
use Rattle.ada_syntax.specs.Tree.{Expr}
use Rattle.ada_syntax.specs.declared.name.Identifier.{Identifier}
use Rattle.ada_syntax.specs.declared.unit.PackageItem.{PackageItem}
use Rattle.ada_syntax.specs.declared.unit.BodyItem.{BodyItem}
use Rattle.ada_syntax.specs.declared.unit.Formal.{Formal}
use Rattle.ada_syntax.specs.declared.unit.LibraryItem.{LibraryItem}
use Rattle.expression_parser.specs.declared.symbol.Symbol.{Symbol}
use Rattle.expression_parser.specs.declared.symbol.Symbol.TheVariants as symbol
use Rattle.expression_parser.specs.declared.extent.Extent.{Extent}
use Rattle.expression_parser.specs.declared.extent.Extent.TheVariants.{Generics}
use Rattle.expression_parser.specs.Symbols.{symbol_of, same, identifier_of}
use Rattle.expression_parser.specs.Extents.{opens}
use Rattle.expression_parser.specs.Reading.{Tokens, Reading, Reader, Got, Stuck, Turn, Refuse, Leave, Take, Look, got, ◌>>=◌, provided, expect, skip}
use Rattle.expression_parser.specs.Depth.{at_exprs}
use Rattle.expression_parser.specs.Shows.{ShowsAs, Reads, Skipped, Identified, after}
use Rattle.expression_parser.proofs.NameCode.{after_some, after_none}
use Rattle.std.specs.Prelude.{Result}
use Rattle.std.specs.Borrow.{Bor}
use Rattle.expression_parser.specs.declared.fault.Fault.{Fault}
use Rattle.declaration_parser.specs.Closing.{Closes}
use Rattle.declaration_parser.specs.FormalReading.{formals_by}
use Rattle.declaration_parser.proofs.Closings.{Within, leads, closes, leads_got, closed_below, within_below, below_behind, read_then, closed}
use Rattle.ada_parser.proofs.Parts.{shown_so}
use Rattle.ada_parser.proofs.Steps.{both, first_fails, word_then, no_word, done, takes, looks, leaves, refuses}
use Rattle.ada_parser.specs.Grammar.{packaged, package_bodied, instanced}
use Rattle.ada_parser.specs.UnitReading as read
use Rattle.ada_parser.specs.UnitDepth as at
use Rattle.ada_parser.proofs.ContextCode.{identified, unidentified}

module _ (x : Extent) where
  -- [( expr {, expr} )]
  abbrev actuals_on : ℕ → Symbol → Token → Turn (List Expr)
  actuals_on = read.actuals_turn x

  abbrev enclosed : ℕ → Reader (List Expr)
  enclosed m = at_exprs x m >>= λ es. skip symbol.RightParenthesis (got es)

  actuals_leave : (m : ℕ) (s : Symbol) (t : Token) → same s symbol.LeftParenthesis ≡ false → actuals_on m s t ≡ Leave []
  actuals_leave m symbol.LeftParenthesis t h = cc
  actuals_leave m _ t h = refl

  pub no_actuals : (ts : Tokens) → after symbol.LeftParenthesis ts ≡ None → Reads (read.actuals_by x) ts (Got [] ts)
  no_actuals [] e = record { by = λ m h. refl }
  no_actuals (t ∷ us) e = leaves (Leave []) actuals_on t us [] (λ m. actuals_leave m (symbol_of t.lexeme) t (after_none symbol.LeftParenthesis t us e).is_not)

  behind_parenthesis : (ts us : Tokens) (q : Reading (List Expr)) → after symbol.LeftParenthesis ts ≡ Some us → Reads enclosed us q → Reads (read.actuals_by x) ts q
  behind_parenthesis ts us q e f = let n = after_some symbol.LeftParenthesis ts us e in rw n.here (takes (Leave []) actuals_on n.t us enclosed (λ m. ap (λ s. actuals_on m s n.t) n.is) f)

  module _ {C : Type 0} (view : C → List Expr) (ts us : Tokens) (p r : Result (C × Bor Tokens) Fault) where
    pub actuals_show : after symbol.LeftParenthesis ts ≡ Some us → ShowsAs view (Reads (at_exprs x) us) p → Within us p → Closes symbol.RightParenthesis p r → ShowsAs view (Reads (read.actuals_by x) ts) r
    actuals_show e h l c = shown_so view (Reads enclosed us) (Reads (read.actuals_by x) ts) r (leads_got view (closed symbol.RightParenthesis (read_then (at_exprs x))) us r (closes view (read_then (at_exprs x)) symbol.RightParenthesis us p r (leads (List Expr) view (at_exprs x) us p h l) c)) (λ q. behind_parenthesis ts us q e)

    pub actuals_within : after symbol.LeftParenthesis ts ≡ Some us → Within us p → Closes symbol.RightParenthesis p r → Within ts r
    actuals_within e l c = within_below ts r (below_behind ts us r (omega (arith, ap length (after_some symbol.LeftParenthesis ts us e).here)) (closed_below symbol.RightParenthesis us p r l c))

  module _ (i : Identifier) where
    -- behind NEW
    abbrev instance_closes : Identifier → ℕ → List Expr → Reader LibraryItem
    instance_closes g m es = skip symbol.Semicolon (got (instanced i g es))

    abbrev after_name : ℕ → Identifier → Reader LibraryItem
    after_name m g = read.actuals_by x m >>= instance_closes g m

    pub instance_read : (ts us vs rest : Tokens) (g : Identifier) (es : List Expr) → Identified ts us g → Reads (read.actuals_by x) us (Got es vs) → length vs ≤ length us → Skipped symbol.Semicolon vs rest → Reads (at.at_instance x i) ts (Got (instanced i g es) rest)
    instance_read ts us vs rest g es n r l w = identified after_name n (both (instance_closes g) r l (word_then (λ m. got (instanced i g es)) w (done (instanced i g es) rest)))

    pub instance_fail : (ts rest : Tokens) → expect symbol.Identifier ts ≡ Stuck rest → Reads (at.at_instance x i) ts (Stuck rest)
    instance_fail ts rest e = unidentified after_name e

    pub instance_actuals_fail : (ts us rest : Tokens) (g : Identifier) → Identified ts us g → Reads (read.actuals_by x) us (Stuck rest) → Reads (at.at_instance x i) ts (Stuck rest)
    instance_actuals_fail ts us rest g n r = identified after_name n (first_fails (instance_closes g) r)

    pub instance_open : (ts us vs rest : Tokens) (g : Identifier) (es : List Expr) → Identified ts us g → Reads (read.actuals_by x) us (Got es vs) → length vs ≤ length us → expect symbol.Semicolon vs ≡ Stuck rest → Reads (at.at_instance x i) ts (Stuck rest)
    instance_open ts us vs rest g es n r l e = identified after_name n (both (instance_closes g) r l (no_word symbol.Semicolon (λ m. got (instanced i g es)) e))

    -- behind IS
    module _ (fs : Option (List Formal)) where
      abbrev package_named : List PackageItem → ℕ → Option Identifier → Reader LibraryItem
      package_named is m n = got (packaged fs i is n)

      abbrev after_items : ℕ → List PackageItem → Reader LibraryItem
      after_items m is = read.end_by >>= package_named is m

      pub package_read : (ts us rest : Tokens) (is : List PackageItem) (n : Option Identifier) → Reads (read.package_items_by x) ts (Got is us) → length us ≤ length ts → Reads at.at_end us (Got n rest) → length rest < length us → Reads (at.at_package x fs i) ts (Got (packaged fs i is n) rest)
      package_read ts us rest is n r l e k = both after_items r l (both (package_named is) e (omega arith) (done (packaged fs i is n) rest))

      pub package_items_fail : (ts rest : Tokens) → Reads (read.package_items_by x) ts (Stuck rest) → Reads (at.at_package x fs i) ts (Stuck rest)
      package_items_fail ts rest r = first_fails after_items r

      pub package_end_fail : (ts us rest : Tokens) (is : List PackageItem) → Reads (read.package_items_by x) ts (Got is us) → length us ≤ length ts → Reads at.at_end us (Stuck rest) → Reads (at.at_package x fs i) ts (Stuck rest)
      package_end_fail ts us rest is r l e = both after_items r l (first_fails (package_named is) e)

    abbrev new_on : ℕ → Symbol → Token → Turn LibraryItem
    new_on m = read.new_turn x m i

    no_new : (m : ℕ) (s : Symbol) (t : Token) → same s symbol.New ≡ false → new_on m s t ≡ Look (at.at_package x None i m)
    no_new m symbol.New t h = cc
    no_new m _ t h = refl

    pub is_package : (ts : Tokens) (q : Reading LibraryItem) → after symbol.New ts ≡ None → Reads (at.at_package x None i) ts q → Reads (at.at_package_or_instance x i) ts q
    is_package [] q e f = record { by = λ m h. f.by m h }
    is_package (t ∷ us) q e f = looks Refuse new_on t us (at.at_package x None i) (λ m. no_new m (symbol_of t.lexeme) t (after_none symbol.New t us e).is_not) f

    pub is_instance : (ts us : Tokens) (q : Reading LibraryItem) → after symbol.New ts ≡ Some us → opens x Generics ≡ true → Reads (at.at_instance x i) us q → Reads (at.at_package_or_instance x i) ts q
    is_instance ts us q e o f =
        let n = after_some symbol.New ts us e in
        rw n.here (takes Refuse new_on n.t us (at.at_instance x i) (λ m. ap (λ s. new_on m s n.t) n.is ∙ ap (λ b. provided b (Take (at.at_instance x i m))) o) f)

    pub instance_closed : (ts us : Tokens) → after symbol.New ts ≡ Some us → opens x Generics ≡ false → Reads (at.at_package_or_instance x i) ts (Stuck ts)
    instance_closed ts us e o =
        let n = after_some symbol.New ts us e in
        rw n.here (refuses Refuse new_on n.t us (λ m. ap (λ s. new_on m s n.t) n.is ∙ ap (λ b. provided b (Take (at.at_instance x i m))) o))

  -- behind BODY
  abbrev body_named : Identifier → List BodyItem → ℕ → Option Identifier → Reader LibraryItem
  body_named i is m n = got (package_bodied i is n)

  abbrev after_body_items : Identifier → ℕ → List BodyItem → Reader LibraryItem
  after_body_items i m is = read.end_by >>= body_named i is m

  abbrev body_after_is : ℕ → Identifier → Reader LibraryItem
  body_after_is m i = read.body_items_by x m >>= after_body_items i m

  abbrev body_after_name : ℕ → Identifier → Reader LibraryItem
  body_after_name m i = skip symbol.Is (body_after_is m i)

  pub package_body_read : (ts us vs ws rest : Tokens) (i : Identifier) (is : List BodyItem) (n : Option Identifier) → Identified ts us i → Skipped symbol.Is us vs → Reads (read.body_items_by x) vs (Got is ws) → length ws ≤ length vs → Reads at.at_end ws (Got n rest) → length rest < length ws
      → Reads (read.package_body_by x) ts (Got (package_bodied i is n) rest)
  package_body_read ts us vs ws rest i is n k w r l e j = identified body_after_name k (word_then (λ m. body_after_is m i) w (both (after_body_items i) r l (both (body_named i is) e (omega arith) (done (package_bodied i is n) rest))))

  pub package_body_fail : (ts rest : Tokens) → expect symbol.Identifier ts ≡ Stuck rest → Reads (read.package_body_by x) ts (Stuck rest)
  package_body_fail ts rest e = unidentified body_after_name e

  pub package_body_no_is : (ts us rest : Tokens) (i : Identifier) → Identified ts us i → expect symbol.Is us ≡ Stuck rest → Reads (read.package_body_by x) ts (Stuck rest)
  package_body_no_is ts us rest i k e = identified body_after_name k (no_word symbol.Is (λ m. body_after_is m i) e)

  pub package_body_items_fail : (ts us vs rest : Tokens) (i : Identifier) → Identified ts us i → Skipped symbol.Is us vs → Reads (read.body_items_by x) vs (Stuck rest) → Reads (read.package_body_by x) ts (Stuck rest)
  package_body_items_fail ts us vs rest i k w r = identified body_after_name k (word_then (λ m. body_after_is m i) w (first_fails (after_body_items i) r))

  pub package_body_end_fail : (ts us vs ws rest : Tokens) (i : Identifier) (is : List BodyItem) → Identified ts us i → Skipped symbol.Is us vs → Reads (read.body_items_by x) vs (Got is ws) → length ws ≤ length vs → Reads at.at_end ws (Stuck rest) → Reads (read.package_body_by x) ts (Stuck rest)
  package_body_end_fail ts us vs ws rest i is k w r l e = identified body_after_name k (word_then (λ m. body_after_is m i) w (both (after_body_items i) r l (first_fails (body_named i is) e)))

  -- behind PACKAGE
  abbrev package_on : ℕ → Symbol → Token → Turn LibraryItem
  package_on = read.package_turn x

  pub is_body : (ts us : Tokens) (q : Reading LibraryItem) → after symbol.Body ts ≡ Some us → Reads (read.package_body_by x) us q → Reads (read.package_by x) ts q
  is_body ts us q e f = let n = after_some symbol.Body ts us e in rw n.here (takes Refuse package_on n.t us (read.package_body_by x) (λ m. ap (λ s. package_on m s n.t) n.is) f)

  no_body : (m : ℕ) (s : Symbol) (t : Token) → same s symbol.Body ≡ false → package_on m s t ≡ Look (read.named_package_by x m)
  no_body m symbol.Body t h = cc
  no_body m _ t h = refl

  is_named : (ts : Tokens) (q : Reading LibraryItem) → after symbol.Body ts ≡ None → Reads (read.named_package_by x) ts q → Reads (read.package_by x) ts q
  is_named [] q e f = record { by = λ m h. f.by m h }
  is_named (t ∷ us) q e f = looks Refuse package_on t us (read.named_package_by x) (λ m. no_body m (symbol_of t.lexeme) t (after_none symbol.Body t us e).is_not) f

  abbrev package_after_name : ℕ → Identifier → Reader LibraryItem
  package_after_name m i = skip symbol.Is (read.package_or_instance x m i)

  pub named_then : (ts us vs : Tokens) (i : Identifier) (q : Reading LibraryItem) → after symbol.Body ts ≡ None → Identified ts us i → Skipped symbol.Is us vs → Reads (at.at_package_or_instance x i) vs q → Reads (read.package_by x) ts q
  named_then ts us vs i q e k w f = is_named ts q e (identified package_after_name k (word_then (at.at_package_or_instance x i) w f))

  pub named_fail : (ts rest : Tokens) → after symbol.Body ts ≡ None → expect symbol.Identifier ts ≡ Stuck rest → Reads (read.package_by x) ts (Stuck rest)
  named_fail ts rest e k = is_named ts _ e (unidentified package_after_name k)

  pub named_no_is : (ts us rest : Tokens) (i : Identifier) → after symbol.Body ts ≡ None → Identified ts us i → expect symbol.Is us ≡ Stuck rest → Reads (read.package_by x) ts (Stuck rest)
  named_no_is ts us rest i e k w = is_named ts _ e (identified package_after_name k (no_word symbol.Is (at.at_package_or_instance x i) w))

  -- behind GENERIC
  abbrev generic_after_name : List Formal → ℕ → Identifier → Reader LibraryItem
  generic_after_name fs m i = skip symbol.Is (read.package_rest x m (Some fs) i)

  abbrev generic_after_package : List Formal → ℕ → Reader LibraryItem
  generic_after_package fs m = expect symbol.Identifier >>= λ u. generic_after_name fs m (identifier_of u)

  abbrev generic_after_formals : ℕ → List Formal → Reader LibraryItem
  generic_after_formals m fs = skip symbol.Package (generic_after_package fs m)

  pub generic_then : (ts us vs ws zs : Tokens) (fs : List Formal) (i : Identifier) (q : Reading LibraryItem) → Reads (formals_by x) ts (Got fs us) → length us ≤ length ts → Skipped symbol.Package us vs → Identified vs ws i → Skipped symbol.Is ws zs → Reads (at.at_package x (Some fs) i) zs q
      → Reads (read.generic_by x) ts q
  generic_then ts us vs ws zs fs i q r l p k w f = both generic_after_formals r l (word_then (generic_after_package fs) p (identified (generic_after_name fs) k (word_then (at.at_package x (Some fs) i) w f)))

  pub generic_at : (gs fs : List Formal) (i : Identifier) (ts : Tokens) (q : Reading LibraryItem) → gs ≡ fs → Reads (at.at_package x (Some gs) i) ts q → Reads (at.at_package x (Some fs) i) ts q
  generic_at gs fs i ts q e f = subst (λ z. Reads (at.at_package x (Some z) i) ts q) e f

  pub generic_fail : (ts rest : Tokens) → Reads (formals_by x) ts (Stuck rest) → Reads (read.generic_by x) ts (Stuck rest)
  generic_fail ts rest r = first_fails generic_after_formals r

  pub generic_no_package : (ts us rest : Tokens) (fs : List Formal) → Reads (formals_by x) ts (Got fs us) → length us ≤ length ts → expect symbol.Package us ≡ Stuck rest → Reads (read.generic_by x) ts (Stuck rest)
  generic_no_package ts us rest fs r l e = both generic_after_formals r l (no_word symbol.Package (generic_after_package fs) e)

  pub generic_no_name : (ts us vs rest : Tokens) (fs : List Formal) → Reads (formals_by x) ts (Got fs us) → length us ≤ length ts → Skipped symbol.Package us vs → expect symbol.Identifier vs ≡ Stuck rest → Reads (read.generic_by x) ts (Stuck rest)
  generic_no_name ts us vs rest fs r l p e = both generic_after_formals r l (word_then (generic_after_package fs) p (unidentified (generic_after_name fs) e))

  pub generic_no_is : (ts us vs ws rest : Tokens) (fs : List Formal) (i : Identifier) → Reads (formals_by x) ts (Got fs us) → length us ≤ length ts → Skipped symbol.Package us vs → Identified vs ws i → expect symbol.Is ws ≡ Stuck rest → Reads (read.generic_by x) ts (Stuck rest)
  generic_no_is ts us vs ws rest fs i r l p k e = both generic_after_formals r l (word_then (generic_after_package fs) p (identified (generic_after_name fs) k (no_word symbol.Is (at.at_package x (Some fs) i) e)))
