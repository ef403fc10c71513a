-- The statements that token lists derive (Ada RM 2012, 5, 6.5, 11.2, 11.3): the tree stands at the front of the first list, and the
-- second list is what follows it. One case for each production.
use Rattle.std.specs.Prelude.{List, [], ◌∷◌, ◌++◌, Option, Some, None, IsTrue}
use Rattle.ada_lexer.specs.declared.token.Token.{Token}
use Rattle.ada_syntax.specs.Tree.{Expr, Name, name_pos}
use Rattle.ada_syntax.specs.StatementTree as tree
use Rattle.ada_syntax.specs.StatementTree.{Statement, Branches, Alternatives, Handlers, Handled}
use Rattle.ada_syntax.specs.StatementView.{statements_of}
use Rattle.ada_syntax.specs.declared.name.Identifier.{Identifier}
use Rattle.ada_syntax.specs.declared.declaration.Declaration.{Declaration}
use Rattle.ada_syntax.specs.declared.declaration.DiscreteRange.{DiscreteRange}
use Rattle.ada_syntax.specs.declared.declaration.Initial.{Initial}
use Rattle.ada_syntax.specs.declared.declaration.Pragma.{Pragma}
use Rattle.ada_syntax.specs.declared.statement.Choice.{Choice}
use Rattle.ada_syntax.specs.declared.statement.Choice.TheVariants as choice
use Rattle.ada_syntax.specs.declared.statement.ExceptionChoice.{ExceptionChoice}
use Rattle.ada_syntax.specs.declared.statement.ExceptionChoice.TheVariants as exception
use Rattle.ada_syntax.specs.declared.statement.LoopScheme.TheVariants.{Forever, While, For}
use Rattle.ada_syntax.specs.declared.statement.Direction.{Direction}
use Rattle.ada_syntax.specs.declared.statement.Direction.TheVariants.{Forward, Reverse}
use Rattle.expression_parser.specs.declared.symbol.Symbol.TheVariants as symbol
use Rattle.expression_parser.specs.declared.extent.Extent.{Extent}
use Rattle.expression_parser.specs.declared.extent.Extent.TheVariants.{Objects, Decisions, Types, Subprograms, Exceptions}
use Rattle.expression_parser.specs.Symbols.{Is}
use Rattle.expression_parser.specs.Extents.{opens}
use Rattle.expression_parser.specs.Reading.{Tokens}
use Rattle.expression_parser.specs.Expressions.{IsExpr, sums, expression, IsName}
use Rattle.declaration_parser.specs.Subtypes.{IsInitial, IsRange}
use Rattle.declaration_parser.specs.Declarations.{IsPragma, AreDeclarations}
use Rattle.ada_parser.specs.Words.{Word, Named, Closes}
use Rattle.ada_parser.specs.Trees.{with_branch, with_alternative, with_handler}

-- choice = simple [.. simple] | OTHERS
pub data IsChoice (x : Extent) : Choice → Tokens → Tokens → Type 0 where
  a_value : {e : Expr} {ts rest : Tokens} → IsExpr x sums e ts rest → IsChoice x (choice.Value e) ts rest
  a_range : {a b : Expr} {ts us vs rest : Tokens} → IsExpr x sums a ts us → Word symbol.DoubleDot us vs → IsExpr x sums b vs rest → IsChoice x (choice.Range (record { low = a; high = b })) ts rest
  other_values : {t : Token} {rest : Tokens} → Is symbol.Others t → IsChoice x (choice.Others t.pos) (t ∷ rest) rest

-- choice {| choice}
pub data AreChoices (x : Extent) : List Choice → Tokens → Tokens → Type 0 where
  one_choice : {c : Choice} {ts rest : Tokens} → IsChoice x c ts rest → AreChoices x (c ∷ []) ts rest
  more_choices : {c : Choice} {cs : List Choice} {ts us vs rest : Tokens} → AreChoices x cs ts us → Word symbol.Bar us vs → IsChoice x c vs rest → AreChoices x (cs ++ c ∷ []) ts rest

-- exch = name | OTHERS
pub data IsException (x : Extent) : ExceptionChoice → Tokens → Tokens → Type 0 where
  a_named : {n : Name} {ts rest : Tokens} → IsName x n ts rest → IsException x (exception.Named n) ts rest
  other_exceptions : {t : Token} {rest : Tokens} → Is symbol.Others t → IsException x (exception.Others t.pos) (t ∷ rest) rest

-- exch {| exch}
pub data AreExceptions (x : Extent) : List ExceptionChoice → Tokens → Tokens → Type 0 where
  one_exception : {c : ExceptionChoice} {ts rest : Tokens} → IsException x c ts rest → AreExceptions x (c ∷ []) ts rest
  more_exceptions : {c : ExceptionChoice} {cs : List ExceptionChoice} {ts us vs rest : Tokens} → AreExceptions x cs ts us → Word symbol.Bar us vs → IsException x c vs rest → AreExceptions x (cs ++ c ∷ []) ts rest

-- [WHEN expr]
pub data HasCondition (x : Extent) : Option Expr → Tokens → Tokens → Type 0 where
  no_condition : {ts : Tokens} → HasCondition x None ts ts
  a_condition : {e : Expr} {ts us rest : Tokens} → Word symbol.When ts us → IsExpr x expression e us rest → HasCondition x (Some e) ts rest

-- [expr] behind RETURN
pub data HasResult (x : Extent) : Option Expr → Tokens → Tokens → Type 0 where
  no_result : {ts : Tokens} → HasResult x None ts ts
  a_result : {e : Expr} {ts rest : Tokens} → IsTrue (opens x Subprograms) → IsExpr x expression e ts rest → HasResult x (Some e) ts rest

-- [name] behind RAISE
pub data HasException (x : Extent) : Option Name → Tokens → Tokens → Type 0 where
  no_exception : {ts : Tokens} → HasException x None ts ts
  an_exception : {n : Name} {ts rest : Tokens} → IsName x n ts rest → HasException x (Some n) ts rest

-- [REVERSE]
pub data IsDirection : Direction → Tokens → Tokens → Type 0 where
  forward : {ts : Tokens} → IsDirection Forward ts ts
  backward : {ts rest : Tokens} → Word symbol.Reverse ts rest → IsDirection Reverse ts rest

mutual
  -- stmt
  pub data IsStatement (x : Extent) : Statement → Tokens → Tokens → Type 0 where
    -- NULL ;
    a_null : {t : Token} {ts rest : Tokens} → Is symbol.Null t → Word symbol.Semicolon ts rest → IsStatement x (tree.null t.pos) (t ∷ ts) rest
    -- name := init ;
    an_assignment : {n : Name} {i : Initial} {ts us vs ws rest : Tokens} → IsTrue (opens x Objects) → IsName x n ts us → Word symbol.Becomes us vs → IsInitial x i vs ws → Word symbol.Semicolon ws rest
        → IsStatement x (tree.assignment (name_pos n) n i) ts rest
    -- name ;
    a_call : {n : Name} {ts us rest : Tokens} → IsName x n ts us → Word symbol.Semicolon us rest → IsStatement x (tree.call (name_pos n) n) ts rest
    -- pragma
    an_exemption : {t : Token} {a : Pragma} {ts rest : Tokens} → IsPragma x a (t ∷ ts) rest → IsStatement x (tree.exemption t.pos a) (t ∷ ts) rest
    -- IF expr THEN stmts {ELSIF expr THEN stmts} [ELSE stmts] END IF ;
    an_if : {t : Token} {e : Expr} {ss es : List Statement} {bs : Branches} {ts us vs ws rest : Tokens} → IsTrue (opens x Decisions) → Is symbol.If t → IsBranch x e ss ts us → AreBranches x bs us vs → HasElse x es vs ws → Closes symbol.If ws rest
        → IsStatement x (tree.conditional t.pos e (statements_of ss) bs (statements_of es)) (t ∷ ts) rest
    -- CASE expr IS alt {alt} END CASE ;
    a_case : {t : Token} {e : Expr} {alts : Alternatives} {ts us vs ws rest : Tokens} → IsTrue (opens x Types) → Is symbol.Case t → IsExpr x expression e ts us → Word symbol.Is us vs → AreAlternatives x alts vs ws → Closes symbol.Case ws rest
        → IsStatement x (tree.case_of t.pos e alts) (t ∷ ts) rest
    -- LOOP stmts END LOOP ;
    an_endless_loop : {t : Token} {ss : List Statement} {ts rest : Tokens} → IsTrue (opens x Decisions) → IsLoop x ss (t ∷ ts) rest → IsStatement x (tree.repeat t.pos Forever (statements_of ss)) (t ∷ ts) rest
    -- WHILE expr LOOP stmts END LOOP ;
    a_while : {t : Token} {e : Expr} {ss : List Statement} {ts us rest : Tokens} → IsTrue (opens x Decisions) → Is symbol.While t → IsExpr x expression e ts us → IsLoop x ss us rest
        → IsStatement x (tree.repeat t.pos (While e) (statements_of ss)) (t ∷ ts) rest
    -- FOR id IN [REVERSE] range LOOP stmts END LOOP ;
    a_for : {t : Token} {i : Identifier} {d : Direction} {r : DiscreteRange} {ss : List Statement} {ts us vs ws zs rest : Tokens} → IsTrue (opens x Types) → Is symbol.For t → Named i ts us → Word symbol.In us vs → IsDirection d vs ws → IsRange x r ws zs
        → IsLoop x ss zs rest → IsStatement x (tree.repeat t.pos (For i d r) (statements_of ss)) (t ∷ ts) rest
    -- EXIT [WHEN expr] ;
    an_exit : {t : Token} {e : Option Expr} {ts us rest : Tokens} → IsTrue (opens x Decisions) → Is symbol.Exit t → HasCondition x e ts us → Word symbol.Semicolon us rest → IsStatement x (tree.exit t.pos e) (t ∷ ts) rest
    -- RETURN [expr] ;
    a_return : {t : Token} {e : Option Expr} {ts us rest : Tokens} → Is symbol.Return t → HasResult x e ts us → Word symbol.Semicolon us rest → IsStatement x (tree.returns t.pos e) (t ∷ ts) rest
    -- RAISE [name] ;
    a_raise : {t : Token} {n : Option Name} {ts us rest : Tokens} → IsTrue (opens x Exceptions) → Is symbol.Raise t → HasException x n ts us → Word symbol.Semicolon us rest → IsStatement x (tree.raise t.pos n) (t ∷ ts) rest
    -- BEGIN stmts [handlers] END ;
    a_block : {t : Token} {h : Handled} {ts us vs rest : Tokens} → IsTrue (opens x Decisions) → Is symbol.Begin t → IsHandled x h ts us → Word symbol.End us vs → Word symbol.Semicolon vs rest → IsStatement x (tree.block t.pos None h) (t ∷ ts) rest
    -- DECLARE {ldecl} BEGIN stmts [handlers] END ;
    a_declaring_block : {t : Token} {ds : List Declaration} {h : Handled} {ts us vs ws zs rest : Tokens} → IsTrue (opens x Decisions) → Is symbol.Declare t → AreDeclarations x ds ts us → Word symbol.Begin us vs → IsHandled x h vs ws → Word symbol.End ws zs
        → Word symbol.Semicolon zs rest → IsStatement x (tree.block t.pos (Some ds) h) (t ∷ ts) rest

  -- stmts = stmt {stmt}
  pub data AreStatements (x : Extent) : List Statement → Tokens → Tokens → Type 0 where
    one_statement : {s : Statement} {ts rest : Tokens} → IsStatement x s ts rest → AreStatements x (s ∷ []) ts rest
    more_statements : {s : Statement} {ss : List Statement} {ts us rest : Tokens} → AreStatements x ss ts us → IsStatement x s us rest → AreStatements x (ss ++ s ∷ []) ts rest

  -- expr THEN stmts
  pub data IsBranch (x : Extent) : Expr → List Statement → Tokens → Tokens → Type 0 where
    a_branch : {e : Expr} {ss : List Statement} {ts us vs rest : Tokens} → IsExpr x expression e ts us → Word symbol.Then us vs → AreStatements x ss vs rest → IsBranch x e ss ts rest

  -- {ELSIF expr THEN stmts}
  pub data AreBranches (x : Extent) : Branches → Tokens → Tokens → Type 0 where
    no_branches : {ts : Tokens} → AreBranches x tree.no_branches ts ts
    more_branches : {bs : Branches} {e : Expr} {ss : List Statement} {ts us vs rest : Tokens} → AreBranches x bs ts us → Word symbol.Elsif us vs → IsBranch x e ss vs rest → AreBranches x (with_branch bs (e, ss)) ts rest

  -- [ELSE stmts]
  pub data HasElse (x : Extent) : List Statement → Tokens → Tokens → Type 0 where
    no_else : {ts : Tokens} → HasElse x [] ts ts
    an_else : {ss : List Statement} {ts us rest : Tokens} → Word symbol.Else ts us → AreStatements x ss us rest → HasElse x ss ts rest

  -- alt = WHEN choice {| choice} => stmts, behind WHEN
  pub data IsAlternative (x : Extent) : List Choice → List Statement → Tokens → Tokens → Type 0 where
    an_alternative : {cs : List Choice} {ss : List Statement} {ts us vs rest : Tokens} → AreChoices x cs ts us → Word symbol.Arrow us vs → AreStatements x ss vs rest → IsAlternative x cs ss ts rest

  -- alt {alt}
  pub data AreAlternatives (x : Extent) : Alternatives → Tokens → Tokens → Type 0 where
    one_alternative : {cs : List Choice} {ss : List Statement} {ts us rest : Tokens} → Word symbol.When ts us → IsAlternative x cs ss us rest → AreAlternatives x (with_alternative tree.no_alternatives (cs, ss)) ts rest
    more_alternatives : {alts : Alternatives} {cs : List Choice} {ss : List Statement} {ts us vs rest : Tokens} → AreAlternatives x alts ts us → Word symbol.When us vs → IsAlternative x cs ss vs rest → AreAlternatives x (with_alternative alts (cs, ss)) ts rest

  -- LOOP stmts END LOOP ;
  pub data IsLoop (x : Extent) : List Statement → Tokens → Tokens → Type 0 where
    a_loop : {ss : List Statement} {ts us vs rest : Tokens} → Word symbol.Loop ts us → AreStatements x ss us vs → Closes symbol.Loop vs rest → IsLoop x ss ts rest

  -- handler = WHEN exch {| exch} => stmts, behind WHEN
  pub data IsHandler (x : Extent) : List ExceptionChoice → List Statement → Tokens → Tokens → Type 0 where
    a_handler : {cs : List ExceptionChoice} {ss : List Statement} {ts us vs rest : Tokens} → AreExceptions x cs ts us → Word symbol.Arrow us vs → AreStatements x ss vs rest → IsHandler x cs ss ts rest

  -- handler {handler}
  pub data AreHandlers (x : Extent) : Handlers → Tokens → Tokens → Type 0 where
    one_handler : {cs : List ExceptionChoice} {ss : List Statement} {ts us rest : Tokens} → Word symbol.When ts us → IsHandler x cs ss us rest → AreHandlers x (with_handler tree.no_handlers (cs, ss)) ts rest
    more_handlers : {hs : Handlers} {cs : List ExceptionChoice} {ss : List Statement} {ts us vs rest : Tokens} → AreHandlers x hs ts us → Word symbol.When us vs → IsHandler x cs ss vs rest → AreHandlers x (with_handler hs (cs, ss)) ts rest

  -- [EXCEPTION handler {handler}]
  pub data HasHandlers (x : Extent) : Handlers → Tokens → Tokens → Type 0 where
    no_handlers : {ts : Tokens} → HasHandlers x tree.no_handlers ts ts
    some_handlers : {hs : Handlers} {ts us rest : Tokens} → IsTrue (opens x Exceptions) → Word symbol.Exception ts us → AreHandlers x hs us rest → HasHandlers x hs ts rest

  -- stmts [handlers]
  pub data IsHandled (x : Extent) : Handled → Tokens → Tokens → Type 0 where
    a_sequence : {ss : List Statement} {hs : Handlers} {ts us rest : Tokens} → AreStatements x ss ts us → HasHandlers x hs us rest → IsHandled x (tree.handled (statements_of ss) hs) ts rest
