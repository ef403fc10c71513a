-- What the grammar ensures of the text beside its trees.
use Rattle.std.proofs.Common.{ℕ, ◌+◌, ◌≤◌, List, [], ◌∷◌, ◌++◌, length, Option, arith}
use Rattle.std.proofs.lemmas.List.{length-append}
use Rattle.cov_base.specs.Lists.{Everywhere}
use Rattle.ada_lexer.specs.declared.token.Token.{Token}
use Rattle.ada_syntax.specs.StatementTree as text
use Rattle.ada_syntax.specs.StatementView.{statements_of}
use Rattle.ada_syntax.specs.Tree.{Expr}
use Rattle.ada_syntax.specs.declared.declaration.Component.{Component}
use Rattle.ada_syntax.specs.declared.declaration.Declaration.{Declaration}
use Rattle.ada_syntax.specs.declared.declaration.TypeDefinition.{TypeDefinition}
use Rattle.ada_syntax.specs.declared.name.Identifier.{Identifier}
use Rattle.ada_syntax.specs.declared.statement.Choice.{Choice}
use Rattle.ada_syntax.specs.declared.statement.ExceptionChoice.{ExceptionChoice}
use Rattle.ada_syntax.specs.declared.unit.BodyItem.{BodyItem}
use Rattle.ada_syntax.specs.declared.unit.Formal.{Formal}
use Rattle.ada_syntax.specs.declared.unit.LibraryItem.{LibraryItem}
use Rattle.ada_syntax.specs.declared.unit.PackageItem.{PackageItem}
use Rattle.ada_syntax.specs.declared.unit.SubprogramBody.{SubprogramBody}
use Rattle.ada_syntax.specs.declared.unit.Unit.{Unit as LibraryUnit}
use Rattle.expression_parser.specs.declared.extent.Extent.{Extent}
use Rattle.expression_parser.specs.Reading.{Tokens}
use Rattle.expression_parser.specs.Symbols.{identifier_of}
use Rattle.expression_parser.specs.Syntax.{Suffix, all, after}
use Rattle.declaration_parser.specs.Identifiers.{AreIdentifiers, one_identifier, more_identifiers}
use Rattle.declaration_parser.specs.Subtypes.{IsComponent, a_component, AreComponents, one_component, more_components, IsDefinition, an_integer, an_enumeration, an_array, a_record}
use Rattle.declaration_parser.specs.Declarations.{IsDeclaration, a_type, a_subtype, an_object, an_exception, an_exemption, AreDeclarations, no_declarations, more_declarations}
use Rattle.ada_parser.specs.Trees.{with_branch, with_alternative, with_handler}
use Rattle.ada_parser.specs.Statements as grammar
use Rattle.ada_parser.specs.Statements.{AreChoices, one_choice, more_choices, AreExceptions, one_exception, more_exceptions, IsStatement, a_null, an_assignment, a_call, an_if, a_case, an_endless_loop, a_while, a_for, an_exit, a_return, a_raise, a_block, a_declaring_block, AreStatements, one_statement, more_statements, IsBranch, a_branch, AreBranches, no_branches, more_branches, HasElse, no_else, an_else, IsAlternative, an_alternative, AreAlternatives, one_alternative, more_alternatives, IsLoop, a_loop, IsHandler, a_handler, AreHandlers, one_handler, more_handlers, HasHandlers, no_handlers, some_handlers, IsHandled, a_sequence}
use Rattle.ada_parser.specs.Grammar.{IsBody, a_body, IsPackageItem, a_declaration, a_specification, ArePackageItems, no_package_items, more_package_items, IsBodyItem, declared_in_body, a_body_in_body, AreBodyItems, no_body_items, more_body_items, IsPackageRest, a_package_rest, IsItem, a_generic, a_package, a_package_body, an_instance, a_subprogram, IsUnit, a_unit, AreUnits, one_unit, more_units}
use Rattle.ada_meaning.specs.WellFormed.{HasChoice}
use Rattle.legal_laws.specs.Written as written
use Rattle.legal_laws.specs.Written.{most_literals, IsWritten, AreWritten, IsStatementText, AreStatementTexts, AreBranchTexts, AreAlternativeTexts, AreHandlerTexts, IsHandledText, IsBodyText}
use Rattle.legal_texts.specs.UnitTexts.{IsPackageItemText, IsBodyItemText, IsItemText, AreUnitTexts}
use Rattle.parsed_texts.specs.Parsed.{AreOfFiles, no_file, and_file}
use Rattle.parsed_texts.proofs.Few.{few_tokens}
use Rattle.parsed_texts.proofs.Files.{everywhere_joined}
use Rattle.parsed_texts.proofs.Skips.{past_word, past_named, past_direction, past_expr, past_range, past_branch, past_branches, past_alternatives, past_handlers, past_statements, past_declarations, past_specification, past_package_items, past_body_items, past_generic, past_withs, past_units, past_choices, past_exceptions}

-- no more tokens than this
record Fit (ts : Tokens) : Type 0 where
  pub few : length ts ≤ most_literals

shorter : {ts us : Tokens} → Suffix us ts → length us ≤ length ts
shorter all = omega arith
shorter (after s) = let less = shorter s in omega (arith, less)

fits : {ts us : Tokens} → Suffix us ts → Fit ts → Fit us
fits s h = let less = shorter s in let few = h.few in record { few = omega (arith, less, few) }

one_fewer : {t : Token} {ts : Tokens} → Fit (t ∷ ts) → Fit ts
one_fewer h = fits (after all) h

-- ---- declarations

some_identifiers : {is : List Identifier} {ts rest : Tokens} → AreIdentifiers is ts rest → 1 ≤ length is
some_identifiers (one_identifier i) = omega arith
some_identifiers (more_identifiers {u = u} {is = is} l i j) = let more = length-append is (identifier_of u ∷ []) in omega (arith, more)

identifiers_shorter : {is : List Identifier} {ts rest : Tokens} → AreIdentifiers is ts rest → length is + length rest ≤ length ts
identifiers_shorter (one_identifier i) = omega arith
identifiers_shorter (more_identifiers {u = u} {is = is} l i j) = let less = identifiers_shorter l in let more = length-append is (identifier_of u ∷ []) in omega (arith, less, more)

choice_last : {C : Type 0} (cs : List C) (c : C) → HasChoice (cs ++ c ∷ [])
choice_last [] c = tt
choice_last (d ∷ cs) c = tt

identifiers_written : {is : List Identifier} {ts rest : Tokens} → AreIdentifiers is ts rest → HasChoice is
identifiers_written (one_identifier i) = tt
identifiers_written (more_identifiers {u = u} {is = is} l i j) = choice_last is (identifier_of u)

component_written : {x : Extent} {c : Component} {ts rest : Tokens} → IsComponent x c ts rest → HasChoice c.names
component_written (a_component is i s j) = identifiers_written is

components_last : (cs : List Component) (c : Component) → written.AreComponents cs → written.AreComponents (cs ++ c ∷ [])
components_last [] c h = absurd h
components_last (d ∷ cs) c h = h

components_written : {x : Extent} {cs : List Component} {ts rest : Tokens} → AreComponents x cs ts rest → written.AreComponents cs
components_written (one_component c) = component_written c
components_written (more_components {c = c} {cs = cs} l d) = components_last cs c (components_written l)

definition_written : {x : Extent} {d : TypeDefinition} {ts rest : Tokens} → IsDefinition x d ts rest → Fit ts → written.IsDefinition d
definition_written (an_integer o i b) h = tt
definition_written (an_enumeration o i is j) h = let less = identifiers_shorter is in let few = h.few in (some_identifiers is, omega (arith, less, few))
definition_written (an_array o i j r k l s) h = tt
definition_written (a_record o i cs j k) h = components_written cs

declaration_written : {x : Extent} {d : Declaration} {ts rest : Tokens} → IsDeclaration x d ts rest → Fit ts → IsWritten d.kind
declaration_written (a_type o i j k d l) h = definition_written d (fits (after (after (after all))) h)
declaration_written (a_subtype o i j k s l) h = tt
declaration_written (an_object o is i k s v j) h = tt
declaration_written (an_exception o is i j k) h = tt
declaration_written (an_exemption a) h = tt

everywhere_last : {X : Type 0} (P : X → Type 0) (xs : List X) (x : X) → Everywhere P xs → P x → Everywhere P (xs ++ x ∷ [])
everywhere_last P xs x h k = everywhere_joined P xs (x ∷ []) h (k, tt)

declarations_written : {x : Extent} {ds : List Declaration} {ts rest : Tokens} → AreDeclarations x ds ts rest → Fit ts → AreWritten ds
declarations_written no_declarations h = tt
declarations_written (more_declarations {d = d} {ds = ds} l e) h =
    everywhere_last (λ (f : Declaration). IsWritten f.kind) ds d (declarations_written l h) (declaration_written e (fits (past_declarations l) h))

-- ---- one more at the end

statements_last : (ss : List text.Statement) (s : text.Statement) → AreStatementTexts (statements_of ss) → IsStatementText s → AreStatementTexts (statements_of (ss ++ s ∷ []))
statements_last [] s h k = (k, tt)
statements_last (r ∷ ss) s h k = (h.0, statements_last ss s h.1 k)

branches_last : (bs : text.Branches) (e : Expr) (ss : List text.Statement) → AreBranchTexts bs → AreStatementTexts (statements_of ss) → AreBranchTexts (with_branch bs (e, ss))
branches_last text.no_branches e ss h k = (k, tt)
branches_last (text.branch d rs bs) e ss h k = (h.0, branches_last bs e ss h.1 k)

alternatives_last : (alts : text.Alternatives) (cs : List Choice) (ss : List text.Statement) → AreAlternativeTexts alts → HasChoice cs → AreStatementTexts (statements_of ss) → AreAlternativeTexts (with_alternative alts (cs, ss))
alternatives_last text.no_alternatives cs ss h c k = (c, (k, tt))
alternatives_last (text.alternative ds rs alts) cs ss h c k = (h.0, (h.1.0, alternatives_last alts cs ss h.1.1 c k))

handlers_last : (hs : text.Handlers) (cs : List ExceptionChoice) (ss : List text.Statement) → AreHandlerTexts hs → HasChoice cs → AreStatementTexts (statements_of ss) → AreHandlerTexts (with_handler hs (cs, ss))
handlers_last text.no_handlers cs ss h c k = (c, (k, tt))
handlers_last (text.handler ds rs hs) cs ss h c k = (h.0, (h.1.0, handlers_last hs cs ss h.1.1 c k))

-- ---- statements

choices_written : {x : Extent} {cs : List Choice} {ts rest : Tokens} → AreChoices x cs ts rest → HasChoice cs
choices_written (one_choice c) = tt
choices_written (more_choices {c = c} {cs = cs} l w d) = choice_last cs c

exceptions_written : {x : Extent} {cs : List ExceptionChoice} {ts rest : Tokens} → AreExceptions x cs ts rest → HasChoice cs
exceptions_written (one_exception c) = tt
exceptions_written (more_exceptions {c = c} {cs = cs} l w d) = choice_last cs c

mutual
  statement_text : {x : Extent} {s : text.Statement} {ts rest : Tokens} → IsStatement x s ts rest → Fit ts → IsStatementText s
  statement_text (a_null i w) h = tt
  statement_text (an_assignment o n a i w) h = tt
  statement_text (a_call n w) h = tt
  statement_text (grammar.an_exemption a) h = tt
  statement_text (an_if o i b l e c) h =
      let first = one_fewer h in
      let second = fits (past_branch b) first in
      (branch_text b first, (branches_text l second, else_text e (fits (past_branches l) second)))
  statement_text (a_case o i e w l c) h = alternatives_text l (fits (past_word w) (fits (past_expr e) (one_fewer h)))
  statement_text (an_endless_loop o l) h = loop_text l h
  statement_text (a_while o i e l) h = loop_text l (fits (past_expr e) (one_fewer h))
  statement_text (a_for o i n w d r l) h = loop_text l (fits (past_range r) (fits (past_direction d) (fits (past_word w) (fits (past_named n) (one_fewer h)))))
  statement_text (an_exit o i e w) h = tt
  statement_text (a_return i e w) h = tt
  statement_text (a_raise o i n w) h = tt
  statement_text (a_block o i d v w) h = (tt, handled_text d (one_fewer h))
  statement_text (a_declaring_block o i d b k v w) h =
      let first = one_fewer h in
      (declarations_written d first, handled_text k (fits (past_word b) (fits (past_declarations d) first)))

  statements_text : {x : Extent} {ss : List text.Statement} {ts rest : Tokens} → AreStatements x ss ts rest → Fit ts → AreStatementTexts (statements_of ss)
  statements_text (one_statement s) h = (statement_text s h, tt)
  statements_text (more_statements {s = s} {ss = ss} l d) h = statements_last ss s (statements_text l h) (statement_text d (fits (past_statements l) h))

  branch_text : {x : Extent} {e : Expr} {ss : List text.Statement} {ts rest : Tokens} → IsBranch x e ss ts rest → Fit ts → AreStatementTexts (statements_of ss)
  branch_text (a_branch e w l) h = statements_text l (fits (past_word w) (fits (past_expr e) h))

  branches_text : {x : Extent} {bs : text.Branches} {ts rest : Tokens} → AreBranches x bs ts rest → Fit ts → AreBranchTexts bs
  branches_text no_branches h = tt
  branches_text (more_branches {bs = bs} {e = e} {ss = ss} l w b) h = branches_last bs e ss (branches_text l h) (branch_text b (fits (past_word w) (fits (past_branches l) h)))

  else_text : {x : Extent} {ss : List text.Statement} {ts rest : Tokens} → HasElse x ss ts rest → Fit ts → AreStatementTexts (statements_of ss)
  else_text no_else h = tt
  else_text (an_else w l) h = statements_text l (fits (past_word w) h)

  alternatives_text : {x : Extent} {alts : text.Alternatives} {ts rest : Tokens} → AreAlternatives x alts ts rest → Fit ts → AreAlternativeTexts alts
  alternatives_text (one_alternative {cs = cs} {ss = ss} w (an_alternative c v l)) h =
      alternatives_last text.no_alternatives cs ss tt (choices_written c) (statements_text l (fits (past_word v) (fits (past_choices c) (fits (past_word w) h))))
  alternatives_text (more_alternatives {alts = alts} {cs = cs} {ss = ss} m w (an_alternative c v l)) h =
      alternatives_last alts cs ss (alternatives_text m h) (choices_written c)
      (statements_text l (fits (past_word v) (fits (past_choices c) (fits (past_word w) (fits (past_alternatives m) h)))))

  loop_text : {x : Extent} {ss : List text.Statement} {ts rest : Tokens} → IsLoop x ss ts rest → Fit ts → AreStatementTexts (statements_of ss)
  loop_text (a_loop w l c) h = statements_text l (fits (past_word w) h)

  handlers_text : {x : Extent} {hs : text.Handlers} {ts rest : Tokens} → AreHandlers x hs ts rest → Fit ts → AreHandlerTexts hs
  handlers_text (one_handler {cs = cs} {ss = ss} w (a_handler c v l)) h =
      handlers_last text.no_handlers cs ss tt (exceptions_written c) (statements_text l (fits (past_word v) (fits (past_exceptions c) (fits (past_word w) h))))
  handlers_text (more_handlers {hs = hs} {cs = cs} {ss = ss} m w (a_handler c v l)) h =
      handlers_last hs cs ss (handlers_text m h) (exceptions_written c)
      (statements_text l (fits (past_word v) (fits (past_exceptions c) (fits (past_word w) (fits (past_handlers m) h)))))

  exception_part_text : {x : Extent} {hs : text.Handlers} {ts rest : Tokens} → HasHandlers x hs ts rest → Fit ts → AreHandlerTexts hs
  exception_part_text no_handlers h = tt
  exception_part_text (some_handlers o w l) h = handlers_text l (fits (past_word w) h)

  handled_text : {x : Extent} {k : text.Handled} {ts rest : Tokens} → IsHandled x k ts rest → Fit ts → IsHandledText k
  handled_text (a_sequence l k) h = (statements_text l h, exception_part_text k (fits (past_statements l) h))

-- ---- units

body_text : {x : Extent} {b : SubprogramBody} {ts rest : Tokens} → IsBody x b ts rest → Fit ts → IsBodyText b
body_text (a_body s w d v k e) h =
    let first = fits (past_word w) (fits (past_specification s) h) in
    (declarations_written d first, handled_text k (fits (past_word v) (fits (past_declarations d) first)))

package_item_text : {x : Extent} {i : PackageItem} {ts rest : Tokens} → IsPackageItem x i ts rest → Fit ts → IsPackageItemText i
package_item_text (a_declaration d) h = declaration_written d h
package_item_text (a_specification s w) h = tt

package_items_text : {x : Extent} {is : List PackageItem} {ts rest : Tokens} → ArePackageItems x is ts rest → Fit ts → Everywhere IsPackageItemText is
package_items_text no_package_items h = tt
package_items_text (more_package_items {i = i} {is = is} l d) h = everywhere_last IsPackageItemText is i (package_items_text l h) (package_item_text d (fits (past_package_items l) h))

body_item_text : {x : Extent} {i : BodyItem} {ts rest : Tokens} → IsBodyItem x i ts rest → Fit ts → IsBodyItemText i
body_item_text (declared_in_body i) h = package_item_text i h
body_item_text (a_body_in_body b) h = body_text b h

body_items_text : {x : Extent} {is : List BodyItem} {ts rest : Tokens} → AreBodyItems x is ts rest → Fit ts → Everywhere IsBodyItemText is
body_items_text no_body_items h = tt
body_items_text (more_body_items {i = i} {is = is} l d) h = everywhere_last IsBodyItemText is i (body_items_text l h) (body_item_text d (fits (past_body_items l) h))

package_text : {x : Extent} {fs : Option (List Formal)} {l : LibraryItem} {ts rest : Tokens} → IsPackageRest x fs l ts rest → Fit ts → IsItemText l
package_text (a_package_rest n w is e) h = package_items_text is (fits (past_word w) (fits (past_named n) h))

item_text : {x : Extent} {l : LibraryItem} {ts rest : Tokens} → IsItem x l ts rest → Fit ts → IsItemText l
item_text (a_generic o w fs p d) h = package_text d (fits (past_generic w fs p) h)
item_text (a_package o w d) h = package_text d (fits (past_word w) h)
item_text (a_package_body o p b n w is e) h = body_items_text is (fits (past_word w) (fits (past_named n) (fits (past_word b) (fits (past_word p) h))))
item_text (an_instance o g p n w k j es v) h = tt
item_text (a_subprogram b) h = body_text b h

unit_text : {x : Extent} {u : LibraryUnit} {ts rest : Tokens} → IsUnit x u ts rest → Fit ts → IsItemText u.item
unit_text (a_unit ws i) h = item_text i (fits (past_withs ws) h)

units_text : {x : Extent} {us : List LibraryUnit} {ts rest : Tokens} → AreUnits x us ts rest → Fit ts → AreUnitTexts us
units_text (one_unit d) h = (unit_text d h, tt)
units_text (more_units {u = u} {units = us} o l d) h = everywhere_last (λ (v : LibraryUnit). IsItemText v.item) us u (units_text l h) (unit_text d (fits (past_units l) h))

pub texts_of : (x : Extent) (n : ℕ) (us : List LibraryUnit) → AreOfFiles x n us → AreUnitTexts us
texts_of x n us no_file = tt
texts_of x n us (and_file {n = m} {units = vs} {more = ws} {source = source} {tokens = tokens} before small lexed parsed) =
    let few = few_tokens m source tokens lexed in
    everywhere_joined (λ (v : LibraryUnit). IsItemText v.item) vs ws (texts_of x m vs before) (units_text parsed (record { few = omega (arith, few, small) }))
