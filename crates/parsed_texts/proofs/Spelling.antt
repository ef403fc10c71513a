-- The names of units, bodies and exceptions are tokens of their file, so they are words in ASCII.
use Rattle.std.proofs.Common.{ℕ, ◌-◌, ◌≤◌, min, List, [], ◌∷◌, ◌++◌, drop, length, Option, sym, subst, arith}
use Rattle.std.specs.List.{AllByRecursion, slice_range}
use Rattle.std.proofs.lemmas.List.{length-take, length-drop}
use Rattle.std.proofs.lemmas.List.Elements.{recursion_from_All}
use Rattle.cov_base.specs.Lists.{Everywhere}
use Rattle.ada_lexer.specs.Tokens.{IsTokenOf}
use Rattle.ada_lexer.specs.declared.token.Token.{Token}
use Rattle.ada_syntax.specs.StatementTree as text
use Rattle.ada_syntax.specs.StatementView.{statements_of}
use Rattle.ada_syntax.specs.Tree.{Expr}
use Rattle.ada_syntax.specs.declared.declaration.Declaration.{Declaration}
use Rattle.ada_syntax.specs.declared.name.Identifier.{Identifier}
use Rattle.ada_syntax.specs.declared.statement.Choice.{Choice}
use Rattle.ada_syntax.specs.declared.statement.ExceptionChoice.{ExceptionChoice}
use Rattle.ada_syntax.specs.declared.unit.BodyItem.{BodyItem}
use Rattle.ada_syntax.specs.declared.unit.Formal.{Formal}
use Rattle.ada_syntax.specs.declared.unit.LibraryItem.{LibraryItem}
use Rattle.ada_syntax.specs.declared.unit.PackageItem.{PackageItem}
use Rattle.ada_syntax.specs.declared.unit.Specification.{Specification}
use Rattle.ada_syntax.specs.declared.unit.SubprogramBody.{SubprogramBody}
use Rattle.ada_syntax.specs.declared.unit.Unit.{Unit as LibraryUnit}
use Rattle.expression_parser.specs.declared.extent.Extent.{Extent}
use Rattle.expression_parser.specs.Reading.{Tokens}
use Rattle.expression_parser.specs.Symbols.{identifier_of}
use Rattle.expression_parser.specs.Syntax.{Suffix, all, after}
use Rattle.declaration_parser.specs.Identifiers.{AreIdentifiers, one_identifier, more_identifiers}
use Rattle.declaration_parser.specs.Specifications.{IsSpecification, a_procedure, a_function}
use Rattle.declaration_parser.specs.Declarations.{IsDeclaration, a_type, a_subtype, an_object, an_exception, an_exemption, AreDeclarations, no_declarations, more_declarations}
use Rattle.ada_parser.specs.Trees.{with_branch, with_alternative, with_handler}
use Rattle.ada_parser.specs.Words.{Named, name}
use Rattle.ada_parser.specs.Statements as grammar
use Rattle.ada_parser.specs.Statements.{IsStatement, a_null, an_assignment, a_call, an_if, a_case, an_endless_loop, a_while, a_for, an_exit, a_return, a_raise, a_block, a_declaring_block, AreStatements, one_statement, more_statements, IsBranch, a_branch, AreBranches, no_branches, more_branches, HasElse, no_else, an_else, IsAlternative, an_alternative, AreAlternatives, one_alternative, more_alternatives, IsLoop, a_loop, IsHandler, a_handler, AreHandlers, one_handler, more_handlers, HasHandlers, no_handlers, some_handlers, IsHandled, a_sequence}
use Rattle.ada_parser.specs.Grammar.{IsBody, a_body, IsPackageItem, a_declaration, a_specification, ArePackageItems, no_package_items, more_package_items, IsBodyItem, declared_in_body, a_body_in_body, AreBodyItems, no_body_items, more_body_items, IsPackageRest, a_package_rest, IsItem, a_generic, a_package, a_package_body, an_instance, a_subprogram, IsUnit, a_unit, AreUnits, one_unit, more_units}
use Rattle.legal_names.specs.Spelled.{longest_word, IsWord, IsSpelled, IsKindSpelled, AreSpelled, IsStatementSpelled, AreStatementsSpelled, AreBranchesSpelled, AreAlternativesSpelled, AreHandlersSpelled, IsHandledSpelled, IsBodySpelled, IsPackageItemSpelled, IsBodyItemSpelled, IsItemSpelled, AreUnitsSpelled}
use Rattle.parsed_texts.specs.Parsed.{AreOfFiles, no_file, and_file}
use Rattle.parsed_texts.proofs.Files.{everywhere_joined}
use Rattle.parsed_texts.proofs.Skips.{past_word, past_named, past_direction, past_expr, past_range, past_branch, past_branches, past_alternatives, past_handlers, past_statements, past_declarations, past_identifiers, past_specification, past_package_items, past_body_items, past_generic, past_withs, past_units, past_choices, past_exceptions}

record AreWords (ts : Tokens) : Type 0 where
  pub each : Everywhere (λ (t : Token). IsWord t.text) ts

everywhere_behind : (P : Token → Type 0) {ts us : Tokens} → Suffix us ts → Everywhere P ts → Everywhere P us
everywhere_behind P all h = h
everywhere_behind P (after s) h = everywhere_behind P s h.1

words_behind : {ts us : Tokens} → Suffix us ts → AreWords ts → AreWords us
words_behind s h = record { each = everywhere_behind (λ (t : Token). IsWord t.text) s h.each }

behind_one : {t : Token} {ts : Tokens} → AreWords (t ∷ ts) → AreWords ts
behind_one h = words_behind (after all) h

everywhere_last : {X : Type 0} (P : X → Type 0) (xs : List X) (x : X) → Everywhere P xs → P x → Everywhere P (xs ++ x ∷ [])
everywhere_last P xs x h k = everywhere_joined P xs (x ∷ []) h (k, tt)

-- ---- names

name_spelled : {i : Identifier} {ts rest : Tokens} → Named i ts rest → AreWords ts → IsSpelled i
name_spelled (name i) h = h.each.0

specification_spelled : {x : Extent} {s : Specification} {ts rest : Tokens} → IsSpecification x s ts rest → AreWords ts → IsSpelled s.name
specification_spelled (a_procedure i j ps) h = h.each.1.0
specification_spelled (a_function o i j ps k n) h = h.each.1.0

identifiers_spelled : {is : List Identifier} {ts rest : Tokens} → AreIdentifiers is ts rest → AreWords ts → Everywhere IsSpelled is
identifiers_spelled (one_identifier i) h = (h.each.0, tt)
identifiers_spelled (more_identifiers {u = u} {is = is} l i j) h =
    everywhere_last IsSpelled is (identifier_of u) (identifiers_spelled l h) (words_behind (past_identifiers l) h).each.1.0

declaration_spelled : {x : Extent} {d : Declaration} {ts rest : Tokens} → IsDeclaration x d ts rest → AreWords ts → IsKindSpelled d.kind
declaration_spelled (a_type o i j k d l) h = tt
declaration_spelled (a_subtype o i j k s l) h = tt
declaration_spelled (an_object o is i k s v j) h = tt
declaration_spelled (an_exception o is i j k) h = identifiers_spelled is h
declaration_spelled (an_exemption a) h = tt

declarations_spelled : {x : Extent} {ds : List Declaration} {ts rest : Tokens} → AreDeclarations x ds ts rest → AreWords ts → AreSpelled ds
declarations_spelled no_declarations h = tt
declarations_spelled (more_declarations {d = d} {ds = ds} l e) h =
    everywhere_last (λ (f : Declaration). IsKindSpelled f.kind) ds d (declarations_spelled l h) (declaration_spelled e (words_behind (past_declarations l) h))

-- ---- one more at the end

statements_last : (ss : List text.Statement) (s : text.Statement) → AreStatementsSpelled (statements_of ss) → IsStatementSpelled s → AreStatementsSpelled (statements_of (ss ++ s ∷ []))
statements_last [] s h k = (k, tt)
statements_last (r ∷ ss) s h k = (h.0, statements_last ss s h.1 k)

branches_last : (bs : text.Branches) (e : Expr) (ss : List text.Statement) → AreBranchesSpelled bs → AreStatementsSpelled (statements_of ss) → AreBranchesSpelled (with_branch bs (e, ss))
branches_last text.no_branches e ss h k = (k, tt)
branches_last (text.branch d rs bs) e ss h k = (h.0, branches_last bs e ss h.1 k)

alternatives_last : (alts : text.Alternatives) (cs : List Choice) (ss : List text.Statement) → AreAlternativesSpelled alts → AreStatementsSpelled (statements_of ss) → AreAlternativesSpelled (with_alternative alts (cs, ss))
alternatives_last text.no_alternatives cs ss h k = (k, tt)
alternatives_last (text.alternative ds rs alts) cs ss h k = (h.0, alternatives_last alts cs ss h.1 k)

handlers_last : (hs : text.Handlers) (cs : List ExceptionChoice) (ss : List text.Statement) → AreHandlersSpelled hs → AreStatementsSpelled (statements_of ss) → AreHandlersSpelled (with_handler hs (cs, ss))
handlers_last text.no_handlers cs ss h k = (k, tt)
handlers_last (text.handler ds rs hs) cs ss h k = (h.0, handlers_last hs cs ss h.1 k)

-- ---- statements

mutual
  statement_spelled : {x : Extent} {s : text.Statement} {ts rest : Tokens} → IsStatement x s ts rest → AreWords ts → IsStatementSpelled s
  statement_spelled (a_null i w) h = tt
  statement_spelled (an_assignment o n a i w) h = tt
  statement_spelled (a_call n w) h = tt
  statement_spelled (grammar.an_exemption a) h = tt
  statement_spelled (an_if o i b l e c) h =
      let first = behind_one h in
      let second = words_behind (past_branch b) first in
      (branch_spelled b first, (branches_spelled l second, else_spelled e (words_behind (past_branches l) second)))
  statement_spelled (a_case o i e w l c) h = alternatives_spelled l (words_behind (past_word w) (words_behind (past_expr e) (behind_one h)))
  statement_spelled (an_endless_loop o l) h = loop_spelled l h
  statement_spelled (a_while o i e l) h = loop_spelled l (words_behind (past_expr e) (behind_one h))
  statement_spelled (a_for o i n w d r l) h = loop_spelled l (words_behind (past_range r) (words_behind (past_direction d) (words_behind (past_word w) (words_behind (past_named n) (behind_one h)))))
  statement_spelled (an_exit o i e w) h = tt
  statement_spelled (a_return i e w) h = tt
  statement_spelled (a_raise o i n w) h = tt
  statement_spelled (a_block o i d v w) h = (tt, handled_spelled d (behind_one h))
  statement_spelled (a_declaring_block o i d b k v w) h =
      let first = behind_one h in
      (declarations_spelled d first, handled_spelled k (words_behind (past_word b) (words_behind (past_declarations d) first)))

  statements_spelled : {x : Extent} {ss : List text.Statement} {ts rest : Tokens} → AreStatements x ss ts rest → AreWords ts → AreStatementsSpelled (statements_of ss)
  statements_spelled (one_statement s) h = (statement_spelled s h, tt)
  statements_spelled (more_statements {s = s} {ss = ss} l d) h = statements_last ss s (statements_spelled l h) (statement_spelled d (words_behind (past_statements l) h))

  branch_spelled : {x : Extent} {e : Expr} {ss : List text.Statement} {ts rest : Tokens} → IsBranch x e ss ts rest → AreWords ts → AreStatementsSpelled (statements_of ss)
  branch_spelled (a_branch e w l) h = statements_spelled l (words_behind (past_word w) (words_behind (past_expr e) h))

  branches_spelled : {x : Extent} {bs : text.Branches} {ts rest : Tokens} → AreBranches x bs ts rest → AreWords ts → AreBranchesSpelled bs
  branches_spelled no_branches h = tt
  branches_spelled (more_branches {bs = bs} {e = e} {ss = ss} l w b) h = branches_last bs e ss (branches_spelled l h) (branch_spelled b (words_behind (past_word w) (words_behind (past_branches l) h)))

  else_spelled : {x : Extent} {ss : List text.Statement} {ts rest : Tokens} → HasElse x ss ts rest → AreWords ts → AreStatementsSpelled (statements_of ss)
  else_spelled no_else h = tt
  else_spelled (an_else w l) h = statements_spelled l (words_behind (past_word w) h)

  alternatives_spelled : {x : Extent} {alts : text.Alternatives} {ts rest : Tokens} → AreAlternatives x alts ts rest → AreWords ts → AreAlternativesSpelled alts
  alternatives_spelled (one_alternative {cs = cs} {ss = ss} w (an_alternative c v l)) h =
      alternatives_last text.no_alternatives cs ss tt (statements_spelled l (words_behind (past_word v) (words_behind (past_choices c) (words_behind (past_word w) h))))
  alternatives_spelled (more_alternatives {alts = alts} {cs = cs} {ss = ss} m w (an_alternative c v l)) h =
      alternatives_last alts cs ss (alternatives_spelled m h)
      (statements_spelled l (words_behind (past_word v) (words_behind (past_choices c) (words_behind (past_word w) (words_behind (past_alternatives m) h)))))

  loop_spelled : {x : Extent} {ss : List text.Statement} {ts rest : Tokens} → IsLoop x ss ts rest → AreWords ts → AreStatementsSpelled (statements_of ss)
  loop_spelled (a_loop w l c) h = statements_spelled l (words_behind (past_word w) h)

  handlers_spelled : {x : Extent} {hs : text.Handlers} {ts rest : Tokens} → AreHandlers x hs ts rest → AreWords ts → AreHandlersSpelled hs
  handlers_spelled (one_handler {cs = cs} {ss = ss} w (a_handler c v l)) h =
      handlers_last text.no_handlers cs ss tt (statements_spelled l (words_behind (past_word v) (words_behind (past_exceptions c) (words_behind (past_word w) h))))
  handlers_spelled (more_handlers {hs = hs} {cs = cs} {ss = ss} m w (a_handler c v l)) h =
      handlers_last hs cs ss (handlers_spelled m h)
      (statements_spelled l (words_behind (past_word v) (words_behind (past_exceptions c) (words_behind (past_word w) (words_behind (past_handlers m) h)))))

  exception_part_spelled : {x : Extent} {hs : text.Handlers} {ts rest : Tokens} → HasHandlers x hs ts rest → AreWords ts → AreHandlersSpelled hs
  exception_part_spelled no_handlers h = tt
  exception_part_spelled (some_handlers o w l) h = handlers_spelled l (words_behind (past_word w) h)

  handled_spelled : {x : Extent} {k : text.Handled} {ts rest : Tokens} → IsHandled x k ts rest → AreWords ts → IsHandledSpelled k
  handled_spelled (a_sequence l k) h = (statements_spelled l h, exception_part_spelled k (words_behind (past_statements l) h))

-- ---- units

body_spelled : {x : Extent} {b : SubprogramBody} {ts rest : Tokens} → IsBody x b ts rest → AreWords ts → IsBodySpelled b
body_spelled (a_body s w d v k e) h =
    let first = words_behind (past_word w) (words_behind (past_specification s) h) in
    (specification_spelled s h, (declarations_spelled d first, handled_spelled k (words_behind (past_word v) (words_behind (past_declarations d) first))))

package_item_spelled : {x : Extent} {i : PackageItem} {ts rest : Tokens} → IsPackageItem x i ts rest → AreWords ts → IsPackageItemSpelled i
package_item_spelled (a_declaration d) h = declaration_spelled d h
package_item_spelled (a_specification s w) h = tt

package_items_spelled : {x : Extent} {is : List PackageItem} {ts rest : Tokens} → ArePackageItems x is ts rest → AreWords ts → Everywhere IsPackageItemSpelled is
package_items_spelled no_package_items h = tt
package_items_spelled (more_package_items {i = i} {is = is} l d) h = everywhere_last IsPackageItemSpelled is i (package_items_spelled l h) (package_item_spelled d (words_behind (past_package_items l) h))

body_item_spelled : {x : Extent} {i : BodyItem} {ts rest : Tokens} → IsBodyItem x i ts rest → AreWords ts → IsBodyItemSpelled i
body_item_spelled (declared_in_body i) h = package_item_spelled i h
body_item_spelled (a_body_in_body b) h = body_spelled b h

body_items_spelled : {x : Extent} {is : List BodyItem} {ts rest : Tokens} → AreBodyItems x is ts rest → AreWords ts → Everywhere IsBodyItemSpelled is
body_items_spelled no_body_items h = tt
body_items_spelled (more_body_items {i = i} {is = is} l d) h = everywhere_last IsBodyItemSpelled is i (body_items_spelled l h) (body_item_spelled d (words_behind (past_body_items l) h))

package_spelled : {x : Extent} {fs : Option (List Formal)} {l : LibraryItem} {ts rest : Tokens} → IsPackageRest x fs l ts rest → AreWords ts → IsItemSpelled l
package_spelled (a_package_rest n w is e) h = (name_spelled n h, package_items_spelled is (words_behind (past_word w) (words_behind (past_named n) h)))

item_spelled : {x : Extent} {l : LibraryItem} {ts rest : Tokens} → IsItem x l ts rest → AreWords ts → IsItemSpelled l
item_spelled (a_generic o w fs p d) h = package_spelled d (words_behind (past_generic w fs p) h)
item_spelled (a_package o w d) h = package_spelled d (words_behind (past_word w) h)
item_spelled (a_package_body o p b n w is e) h =
    let first = words_behind (past_word b) (words_behind (past_word p) h) in
    (name_spelled n first, body_items_spelled is (words_behind (past_word w) (words_behind (past_named n) first)))
item_spelled (an_instance o g p n w k j es v) h = name_spelled n (words_behind (past_word p) h)
item_spelled (a_subprogram b) h = body_spelled b h

unit_spelled : {x : Extent} {u : LibraryUnit} {ts rest : Tokens} → IsUnit x u ts rest → AreWords ts → IsItemSpelled u.item
unit_spelled (a_unit ws i) h = item_spelled i (words_behind (past_withs ws) h)

units_spelled : {x : Extent} {us : List LibraryUnit} {ts rest : Tokens} → AreUnits x us ts rest → AreWords ts → AreUnitsSpelled us
units_spelled (one_unit d) h = (unit_spelled d h, tt)
units_spelled (more_units {u = u} {units = us} o l d) h = everywhere_last (λ (v : LibraryUnit). IsItemSpelled v.item) us u (units_spelled l h) (unit_spelled d (words_behind (past_units l) h))

-- a part of a file is no longer than it
part_short : (source : List ℕ) (from to limit : ℕ) → length source ≤ limit → length (slice_range source from to) ≤ limit
part_short source from to limit small =
    omega (arith, small, length-take (to - from) (drop from source), length-drop from source, min_right (to - from) (length (drop from source)))
  where
    min_right : (a b : ℕ) → min a b ≤ b
    min_right a b = grind arith

token_word : (n : ℕ) (source : List ℕ) (t : Token) → length source ≤ longest_word → IsTokenOf n source t → IsWord t.text
token_word n source t small h =
    record { ascii = h.ascii; short = subst (λ cs. length cs ≤ longest_word) (sym h.text) (part_short source t.from t.to longest_word small) }

tokens_words : (n : ℕ) (source : List ℕ) (ts : Tokens) → length source ≤ longest_word → AllByRecursion (IsTokenOf n source) ts
    → Everywhere (λ (t : Token). IsWord t.text) ts
tokens_words n source [] small h = tt
tokens_words n source (t ∷ ts) small h = (token_word n source t small h.0, tokens_words n source ts small h.1)

pub spelled_of : (x : Extent) (n : ℕ) (us : List LibraryUnit) → AreOfFiles x n us → AreUnitsSpelled us
spelled_of x n us no_file = tt
spelled_of x n us (and_file {n = m} {units = vs} {more = ws} {source = source} {tokens = tokens} before small lexed parsed) =
    everywhere_joined (λ (v : LibraryUnit). IsItemSpelled v.item) vs ws (spelled_of x m vs before)
    (units_spelled parsed (record { each = tokens_words m source tokens small (recursion_from_All (IsTokenOf m source) tokens lexed.each) }))
