-- What is gathered from the bodies of units is read from their tokens, in order.
use Rattle.std.proofs.Common.{◌≡◌, List, [], ◌∷◌, ◌++◌, Option, sym, ap, subst, ◌∙◌, append-nil}
use Rattle.ada_lexer.specs.declared.token.Token.{Token}
use Rattle.ada_syntax.specs.Tree.{Expr, Name, name_pos}
use Rattle.ada_syntax.specs.StatementTree.{Statement, Branches, Alternatives, Handlers, Handled}
use Rattle.ada_syntax.specs.StatementView.{statements_of}
use Rattle.ada_syntax.specs.declared.declaration.Declaration.{Declaration}
use Rattle.ada_syntax.specs.declared.declaration.DiscreteRange.{DiscreteRange}
use Rattle.ada_syntax.specs.declared.declaration.Initial.{Initial}
use Rattle.ada_syntax.specs.declared.statement.Choice.{Choice}
use Rattle.ada_syntax.specs.declared.statement.ExceptionChoice.{ExceptionChoice}
use Rattle.ada_syntax.specs.declared.unit.BodyItem.{BodyItem}
use Rattle.ada_syntax.specs.declared.unit.Formal.{Formal}
use Rattle.ada_syntax.specs.declared.unit.LibraryItem.{LibraryItem}
use Rattle.ada_syntax.specs.declared.unit.SubprogramBody.{SubprogramBody}
use Rattle.ada_syntax.specs.declared.unit.Unit.{Unit as LibraryUnit}
use Rattle.expression_parser.specs.declared.extent.Extent.{Extent}
use Rattle.expression_parser.specs.Reading.{Tokens}
use Rattle.expression_parser.specs.Expressions.{IsExpr, expression, IsName}
use Rattle.expression_parser.specs.Syntax.{Suffix, all, after}
use Rattle.declaration_parser.specs.Subtypes.{IsInitial, a_value, an_aggregate, IsRange}
use Rattle.declaration_parser.specs.Declarations.{IsDeclaration, AreDeclarations, no_declarations, more_declarations}
use Rattle.ada_parser.specs.Words.{word}
use Rattle.ada_parser.specs.Statements.{IsStatement, a_null, an_assignment, a_call, an_exemption, an_if, a_case, an_endless_loop, a_while, a_for, an_exit, a_return, a_raise, a_block, a_declaring_block, AreStatements, one_statement, more_statements, HasCondition, no_condition, a_condition, HasResult, no_result, a_result, IsBranch, a_branch, AreBranches, no_branches, more_branches, HasElse, no_else, an_else, IsAlternative, an_alternative, AreAlternatives, one_alternative, more_alternatives, IsLoop, a_loop, IsHandler, a_handler, AreHandlers, one_handler, more_handlers, HasHandlers, no_handlers, some_handlers, IsHandled, a_sequence}
use Rattle.ada_parser.specs.Grammar.{IsBody, a_body, IsBodyItem, declared_in_body, a_body_in_body, AreBodyItems, no_body_items, more_body_items, IsPackageRest, a_package_rest, IsItem, a_generic, a_package, a_package_body, an_instance, a_subprogram, IsUnit, a_unit, AreUnits, one_unit, more_units}
use Rattle.parsed_texts.proofs.Gathered.{Gathering, of_declarations, of_exit, of_result, of_statement, of_statements, of_branches, of_alternatives, of_handlers, of_handled, of_body, of_body_item, of_body_items, of_item, of_units, declarations_last, statements_last, branches_last, alternatives_last, handlers_last, body_items_last, units_joined}
use Rattle.parsed_texts.proofs.Skips.{through, past_word, past_named, past_closing, past_direction, past_raised, past_statement, past_choices, past_exceptions, past_specification, past_end, past_package_item, past_package_rest, past_generic, past_withs, past_item}

-- What is gathered is read from tokens: `R` relates it to those between two lists.
pub record IsPicked {X : Type 0} (R : List X → Tokens → Tokens → Type 0) (g : Gathering X) : Type 0 where
  pub none : {ts : Tokens} → R [] ts ts
  pub passed : {t : Token} {xs : List X} {ts rest : Tokens} → R xs ts rest → R xs (t ∷ ts) rest
  pub joined : {xs ys : List X} {ts us rest : Tokens} → R xs ts us → R ys us rest → R (xs ++ ys) ts rest
  pub first : {t : Token} {ts : Tokens} → R (g.at_statement t.pos) (t ∷ ts) ts
  pub name : {x : Extent} {n : Name} {ts rest : Tokens} → IsName x n ts rest → R (g.at_statement (name_pos n) ++ g.at_name n) ts rest
  pub value : {x : Extent} {e : Expr} {ts rest : Tokens} → IsExpr x expression e ts rest → R (g.at_value e) ts rest
  pub turns : {x : Extent} {r : DiscreteRange} {ts rest : Tokens} → IsRange x r ts rest → R (g.at_turns r) ts rest
  pub decision : {x : Extent} {e : Expr} {ts rest : Tokens} → IsExpr x expression e ts rest → R (g.at_decision e) ts rest
  pub declaration : {x : Extent} {d : Declaration} {ts rest : Tokens} → IsDeclaration x d ts rest → R (g.at_declaration d) ts rest

module _ {X : Type 0} {R : List X → Tokens → Tokens → Type 0} {g : Gathering X} (k : IsPicked R g) where
  same : {xs ys : List X} {ts rest : Tokens} → xs ≡ ys → R xs ts rest → R ys ts rest
  same {ts = ts} {rest = rest} is p = subst (λ zs. R zs ts rest) is p

  -- tokens before and behind
  past : {xs : List X} {ts us rest : Tokens} → Suffix us ts → R xs us rest → R xs ts rest
  past all q = q
  past (after p) q = k.passed (past p q)

  before : {xs : List X} {ts us rest : Tokens} → R xs ts us → Suffix rest us → R xs ts rest
  before {xs = xs} p q = same (append-nil xs) (k.joined p (past q k.none))

  without : {ts rest : Tokens} → Suffix rest ts → R [] ts rest
  without s = past s k.none

  declarations_picked : {x : Extent} {ds : List Declaration} {ts rest : Tokens} → AreDeclarations x ds ts rest → R (of_declarations g ds) ts rest
  declarations_picked no_declarations = k.none
  declarations_picked (more_declarations {d = d} {ds = ds} l e) = same (sym (declarations_last g ds d)) (k.joined (declarations_picked l) (k.declaration e))

  condition_picked : {x : Extent} {e : Option Expr} {ts rest : Tokens} → HasCondition x e ts rest → R (of_exit g e) ts rest
  condition_picked no_condition = k.none
  condition_picked (a_condition w e) = past (past_word w) (k.decision e)

  result_picked : {x : Extent} {e : Option Expr} {ts rest : Tokens} → HasResult x e ts rest → R (of_result g e) ts rest
  result_picked no_result = k.none
  result_picked (a_result o e) = k.value e

  initial_picked : {x : Extent} {i : Initial} {ts rest : Tokens} → IsInitial x i ts rest → R (g.at_value i.value) ts rest
  initial_picked (a_value e) = k.value e
  initial_picked (an_aggregate o i j k' l m) = k.passed (k.passed (k.passed (before (initial_picked l) (after all))))

  -- the first token of a statement, and what follows it there
  first : {xs : List X} {t : Token} {ts rest : Tokens} → R xs ts rest → R (g.at_statement t.pos ++ xs) (t ∷ ts) rest
  first p = k.joined k.first p

  alone : {t : Token} {ts rest : Tokens} → Suffix rest ts → R (g.at_statement t.pos) (t ∷ ts) rest
  alone s = before k.first s

  mutual
    statement_picked : {x : Extent} {s : Statement} {ts rest : Tokens} → IsStatement x s ts rest → R (of_statement g s) ts rest
    statement_picked (a_null i w) = alone (past_word w)
    statement_picked (an_assignment o n a i b) = k.joined (k.name n) (past (past_word a) (before (initial_picked i) (past_word b)))
    statement_picked (a_call n w) = before (k.name n) (past_word w)
    statement_picked {x} (an_exemption d) = without (past_statement {x = x} (an_exemption d))
    statement_picked (an_if o i b l e c) = first (k.joined (branch_picked b) (k.joined (branches_picked l) (before (else_picked e) (past_closing c))))
    statement_picked (a_case o i d w l c) = first (k.joined (k.value d) (past (past_word w) (before (alternatives_picked l) (past_closing c))))
    statement_picked (an_endless_loop o (a_loop (word i) l c)) = first (before (statements_picked l) (past_closing c))
    statement_picked (a_while o i d l) = first (k.joined (k.decision d) (loop_picked l))
    statement_picked (a_for o i n w d r l) = first (past (past_named n) (past (past_word w) (past (past_direction d) (k.joined (k.turns r) (loop_picked l)))))
    statement_picked (an_exit o i d w) = first (before (condition_picked d) (past_word w))
    statement_picked (a_return i d w) = first (before (result_picked d) (past_word w))
    statement_picked (a_raise o i d w) = alone (through (past_raised d) (past_word w))
    statement_picked (a_block o i h a b) = k.passed (before (handled_picked h) (through (past_word a) (past_word b)))
    statement_picked (a_declaring_block o i d w h a b) =
        k.passed (k.joined (declarations_picked d) (past (past_word w) (before (handled_picked h) (through (past_word a) (past_word b)))))

    statements_picked : {x : Extent} {ss : List Statement} {ts rest : Tokens} → AreStatements x ss ts rest → R (of_statements g (statements_of ss)) ts rest
    statements_picked (one_statement {s = s} d) = same (sym (append-nil (of_statement g s))) (statement_picked d)
    statements_picked (more_statements {s = s} {ss = ss} ds d) = same (sym (statements_last g ss s)) (k.joined (statements_picked ds) (statement_picked d))

    branch_picked : {x : Extent} {e : Expr} {ss : List Statement} {ts rest : Tokens} → IsBranch x e ss ts rest → R (g.at_decision e ++ of_statements g (statements_of ss)) ts rest
    branch_picked (a_branch e w l) = k.joined (k.decision e) (past (past_word w) (statements_picked l))

    branches_picked : {x : Extent} {bs : Branches} {ts rest : Tokens} → AreBranches x bs ts rest → R (of_branches g bs) ts rest
    branches_picked no_branches = k.none
    branches_picked (more_branches {bs = bs} {e = e} {ss = ss} l w b) = same (sym (branches_last g bs e ss)) (k.joined (branches_picked l) (past (past_word w) (branch_picked b)))

    else_picked : {x : Extent} {ss : List Statement} {ts rest : Tokens} → HasElse x ss ts rest → R (of_statements g (statements_of ss)) ts rest
    else_picked no_else = k.none
    else_picked (an_else w l) = past (past_word w) (statements_picked l)

    alternative_picked : {x : Extent} {cs : List Choice} {ss : List Statement} {ts rest : Tokens} → IsAlternative x cs ss ts rest → R (of_statements g (statements_of ss)) ts rest
    alternative_picked (an_alternative c w l) = past (through (past_choices c) (past_word w)) (statements_picked l)

    alternatives_picked : {x : Extent} {alts : Alternatives} {ts rest : Tokens} → AreAlternatives x alts ts rest → R (of_alternatives g alts) ts rest
    alternatives_picked (one_alternative {ss = ss} w a) = same (sym (append-nil (of_statements g (statements_of ss)))) (past (past_word w) (alternative_picked a))
    alternatives_picked (more_alternatives {alts = alts} {cs = cs} {ss = ss} l w a) = same (sym (alternatives_last g alts cs ss)) (k.joined (alternatives_picked l) (past (past_word w) (alternative_picked a)))

    loop_picked : {x : Extent} {ss : List Statement} {ts rest : Tokens} → IsLoop x ss ts rest → R (of_statements g (statements_of ss)) ts rest
    loop_picked (a_loop w l c) = past (past_word w) (before (statements_picked l) (past_closing c))

    handler_picked : {x : Extent} {cs : List ExceptionChoice} {ss : List Statement} {ts rest : Tokens} → IsHandler x cs ss ts rest → R (of_statements g (statements_of ss)) ts rest
    handler_picked (a_handler c w l) = past (through (past_exceptions c) (past_word w)) (statements_picked l)

    handlers_picked : {x : Extent} {hs : Handlers} {ts rest : Tokens} → AreHandlers x hs ts rest → R (of_handlers g hs) ts rest
    handlers_picked (one_handler {ss = ss} w h) = same (sym (append-nil (of_statements g (statements_of ss)))) (past (past_word w) (handler_picked h))
    handlers_picked (more_handlers {hs = hs} {cs = cs} {ss = ss} l w h) = same (sym (handlers_last g hs cs ss)) (k.joined (handlers_picked l) (past (past_word w) (handler_picked h)))

    exception_part_picked : {x : Extent} {hs : Handlers} {ts rest : Tokens} → HasHandlers x hs ts rest → R (of_handlers g hs) ts rest
    exception_part_picked no_handlers = k.none
    exception_part_picked (some_handlers o w l) = past (past_word w) (handlers_picked l)

    handled_picked : {x : Extent} {h : Handled} {ts rest : Tokens} → IsHandled x h ts rest → R (of_handled g h) ts rest
    handled_picked (a_sequence l h) = k.joined (statements_picked l) (exception_part_picked h)

  body_picked : {x : Extent} {b : SubprogramBody} {ts rest : Tokens} → IsBody x b ts rest → R (of_body g b) ts rest
  body_picked (a_body p w d v h e) = past (through (past_specification p) (past_word w)) (k.joined (declarations_picked d) (past (past_word v) (before (handled_picked h) (past_end e))))

  body_item_picked : {x : Extent} {i : BodyItem} {ts rest : Tokens} → IsBodyItem x i ts rest → R (of_body_item g i) ts rest
  body_item_picked (declared_in_body i) = without (past_package_item i)
  body_item_picked (a_body_in_body b) = body_picked b

  body_items_picked : {x : Extent} {is : List BodyItem} {ts rest : Tokens} → AreBodyItems x is ts rest → R (of_body_items g is) ts rest
  body_items_picked no_body_items = k.none
  body_items_picked (more_body_items {i = i} {is = is} l d) = same (sym (body_items_last g is i)) (k.joined (body_items_picked l) (body_item_picked d))

  package_picked : {x : Extent} {fs : Option (List Formal)} {l : LibraryItem} {ts rest : Tokens} → IsPackageRest x fs l ts rest → R (of_item g l) ts rest
  package_picked {x} {fs} (a_package_rest n w l e) = without (past_package_rest {x = x} {fs = fs} (a_package_rest n w l e))

  item_picked : {x : Extent} {l : LibraryItem} {ts rest : Tokens} → IsItem x l ts rest → R (of_item g l) ts rest
  item_picked (a_generic o w fs p d) = past (past_generic w fs p) (package_picked d)
  item_picked (a_package o w d) = past (past_word w) (package_picked d)
  item_picked (a_package_body o p b n w l e) = past (through (past_word p) (through (past_word b) (through (past_named n) (past_word w)))) (before (body_items_picked l) (past_end e))
  item_picked (an_instance o g' p n w k' j l v) = without (past_item (an_instance o g' p n w k' j l v))
  item_picked (a_subprogram b) = body_picked b

  unit_picked : {x : Extent} {u : LibraryUnit} {ts rest : Tokens} → IsUnit x u ts rest → R (of_item g u.item) ts rest
  unit_picked (a_unit ws i) = past (past_withs ws) (item_picked i)

  pub units_picked : {x : Extent} {us : List LibraryUnit} {ts rest : Tokens} → AreUnits x us ts rest → R (of_units g us) ts rest
  units_picked (one_unit {u = u} d) = same (sym (append-nil (of_item g u.item))) (unit_picked d)
  units_picked (more_units {u = u} {units = us} o ds d) =
      same (sym (units_joined g us (u ∷ []) ∙ ap (λ ps. of_units g us ++ ps) (append-nil (of_item g u.item)))) (k.joined (units_picked ds) (unit_picked d))
