-- How many exceptions the declarations of a text name (Ada RM 2012, 11.1): each has a token there that counts.
use Rattle.std.proofs.Common.{◌≡◌, ◌≤◌, ◌+◌, ℕ, List, [], ◌∷◌, length, Option, Some, None, arith}
use Rattle.std.specs.Prelude.{sum_by}
use Rattle.std.proofs.lemmas.List.Sums.{sum_by-cons}
use Rattle.ada_syntax.specs.Nodes.{if_present, one_if_present, expr_nodes, scheme_nodes, kind_nodes, declaration_nodes, choice_nodes, exception_choice_nodes, statement_nodes, statements_nodes, else_nodes, branches_nodes, alternatives_nodes, handlers_nodes, handled_nodes, exception_part_nodes, specification_nodes, body_nodes, package_item_nodes, body_item_nodes, formal_nodes, item_nodes, with_nodes, unit_nodes}
use Rattle.ada_syntax.specs.StatementTree as text
use Rattle.ada_syntax.specs.declared.declaration.Declaration.{Declaration}
use Rattle.ada_syntax.specs.declared.declaration.DeclarationKind.{DeclarationKind}
use Rattle.ada_syntax.specs.declared.declaration.DeclarationKind.TheVariants as declares
use Rattle.ada_syntax.specs.declared.unit.BodyItem.{BodyItem}
use Rattle.ada_syntax.specs.declared.unit.BodyItem.TheVariants as item
use Rattle.ada_syntax.specs.declared.unit.LibraryItem.{LibraryItem}
use Rattle.ada_syntax.specs.declared.unit.LibraryItem.TheVariants as library
use Rattle.ada_syntax.specs.declared.unit.PackageItem.{PackageItem}
use Rattle.ada_syntax.specs.declared.unit.PackageItem.TheVariants as part
use Rattle.ada_syntax.specs.declared.unit.SubprogramBody.{SubprogramBody}
use Rattle.ada_syntax.specs.declared.unit.Unit.{Unit as LibraryUnit}
use Rattle.ada_rules.specs.Statements.{declarations_in}

abbrev pub kind_exceptions : DeclarationKind → ℕ
kind_exceptions (declares.Exception is) = length is
kind_exceptions d = 0

abbrev pub declared_exceptions : List Declaration → ℕ
declared_exceptions [] = 0
declared_exceptions (d ∷ ds) = kind_exceptions d.kind + declared_exceptions ds

abbrev mutual
  pub statement_exceptions : text.Statement → ℕ
  statement_exceptions (text.conditional p e ss bs es) = statements_exceptions ss + (branches_exceptions bs + statements_exceptions es)
  statement_exceptions (text.case_of p e rest) = alternatives_exceptions rest
  statement_exceptions (text.repeat p scheme ss) = statements_exceptions ss
  statement_exceptions (text.block p ds h) = declared_exceptions (declarations_in ds) + handled_exceptions h
  statement_exceptions s = 0

  pub statements_exceptions : text.Statements → ℕ
  statements_exceptions text.no_statements = 0
  statements_exceptions (text.then_also x xs) = statement_exceptions x + statements_exceptions xs

  pub branches_exceptions : text.Branches → ℕ
  branches_exceptions text.no_branches = 0
  branches_exceptions (text.branch e ss bs) = statements_exceptions ss + branches_exceptions bs

  pub alternatives_exceptions : text.Alternatives → ℕ
  alternatives_exceptions text.no_alternatives = 0
  alternatives_exceptions (text.alternative cs ss rest) = statements_exceptions ss + alternatives_exceptions rest

  pub handlers_exceptions : text.Handlers → ℕ
  handlers_exceptions text.no_handlers = 0
  handlers_exceptions (text.handler cs ss hs) = statements_exceptions ss + handlers_exceptions hs

  pub handled_exceptions : text.Handled → ℕ
  handled_exceptions (text.handled ss hs) = statements_exceptions ss + handlers_exceptions hs

abbrev pub body_exceptions : SubprogramBody → ℕ
body_exceptions b = declared_exceptions b.declarations + handled_exceptions b.statements

abbrev pub package_item_exceptions : PackageItem → ℕ
package_item_exceptions (part.Declaration d) = kind_exceptions d.kind
package_item_exceptions (part.Subprogram x) = 0

abbrev pub package_items_exceptions : List PackageItem → ℕ
package_items_exceptions [] = 0
package_items_exceptions (i ∷ is) = package_item_exceptions i + package_items_exceptions is

abbrev pub body_item_exceptions : BodyItem → ℕ
body_item_exceptions (item.Declared i) = package_item_exceptions i
body_item_exceptions (item.Body b) = body_exceptions b

abbrev pub body_items_exceptions : List BodyItem → ℕ
body_items_exceptions [] = 0
body_items_exceptions (i ∷ is) = body_item_exceptions i + body_items_exceptions is

abbrev pub item_exceptions : LibraryItem → ℕ
item_exceptions (library.Package x) = package_items_exceptions x.items
item_exceptions (library.PackageBody b) = body_items_exceptions b.items
item_exceptions (library.Instance i) = 0
item_exceptions (library.Subprogram b) = body_exceptions b

abbrev pub units_exceptions : List LibraryUnit → ℕ
units_exceptions [] = 0
units_exceptions (u ∷ us) = item_exceptions u.item + units_exceptions us

-- each has a token
none_in : (n : ℕ) → 0 ≤ n
none_in n = omega arith

within_one : (a b c : ℕ) → a ≤ b → a ≤ c + b
within_one a b c h = omega (arith, h)

within_two : (n a b c d : ℕ) → a ≤ b → c ≤ d → a + c ≤ n + b + d
within_two n a b c d h k = omega (arith, h, k)

within_three : (n a b c d e f : ℕ) → a ≤ b → c ≤ d → e ≤ f → a + (c + e) ≤ n + b + d + f
within_three n a b c d e f h k l = omega (arith, h, k, l)

two_within : (a b c d : ℕ) → a ≤ b → c ≤ d → a + c ≤ b + d
two_within a b c d h k = omega (arith, h, k)

first_within : (a b : ℕ) → a ≤ a + b
first_within a b = omega arith

kind_few : (d : DeclarationKind) → kind_exceptions d ≤ kind_nodes d
kind_few (declares.Type i d) = none_in (kind_nodes (declares.Type i d))
kind_few (declares.Subtype i t) = none_in (kind_nodes (declares.Subtype i t))
kind_few (declares.Object is c t i) = none_in (kind_nodes (declares.Object is c t i))
kind_few (declares.Exception is) = first_within (length is) 1
kind_few (declares.Pragma a) = none_in (kind_nodes (declares.Pragma a))

-- of a sum
in_sum : (a b c d n : ℕ) → n ≡ b + d → a ≤ b → c ≤ d → a + c ≤ n
in_sum a b c d n e h k = omega (arith, e, h, k)

declarations_few : (ds : List Declaration) → declared_exceptions ds ≤ sum_by declaration_nodes ds
declarations_few [] = none_in _
declarations_few (d ∷ ds) =
    in_sum (kind_exceptions d.kind) (kind_nodes d.kind) (declared_exceptions ds) (sum_by declaration_nodes ds) (sum_by declaration_nodes (d ∷ ds))
    (sum_by-cons declaration_nodes d ds) (kind_few d.kind) (declarations_few ds)

declare_few : (ds : Option (List Declaration)) → declared_exceptions (declarations_in ds) ≤ if_present (λ xs. 1 + sum_by declaration_nodes xs) ds
declare_few None = none_in 0
declare_few (Some ds) = within_one (declared_exceptions ds) (sum_by declaration_nodes ds) 1 (declarations_few ds)

mutual
  statement_few : (x : text.Statement) → statement_exceptions x ≤ statement_nodes x
  statement_few (text.null p) = none_in (statement_nodes (text.null p))
  statement_few (text.assignment p n i) = none_in (statement_nodes (text.assignment p n i))
  statement_few (text.call p n) = none_in (statement_nodes (text.call p n))
  statement_few (text.exemption p a) = none_in (statement_nodes (text.exemption p a))
  statement_few (text.conditional p e ss bs es) =
      within_three (4 + expr_nodes e) (statements_exceptions ss) (statements_nodes ss) (branches_exceptions bs) (branches_nodes bs)
      (statements_exceptions es) (else_nodes es) (statements_few ss) (branches_few bs) (else_few es)
  statement_few (text.case_of p e rest) = within_one (alternatives_exceptions rest) (alternatives_nodes rest) (4 + expr_nodes e) (alternatives_few rest)
  statement_few (text.repeat p scheme ss) = within_one (statements_exceptions ss) (statements_nodes ss) (scheme_nodes scheme + 3) (statements_few ss)
  statement_few (text.exit p e) = none_in (statement_nodes (text.exit p e))
  statement_few (text.returns p e) = none_in (statement_nodes (text.returns p e))
  statement_few (text.raise p n) = none_in (statement_nodes (text.raise p n))
  statement_few (text.block p ds h) =
      within_two 2 (declared_exceptions (declarations_in ds)) (if_present (λ xs. 1 + sum_by declaration_nodes xs) ds) (handled_exceptions h) (handled_nodes h)
      (declare_few ds) (handled_few h)

  statements_few : (xs : text.Statements) → statements_exceptions xs ≤ statements_nodes xs
  statements_few text.no_statements = none_in 0
  statements_few (text.then_also x xs) =
      two_within (statement_exceptions x) (statement_nodes x) (statements_exceptions xs) (statements_nodes xs) (statement_few x) (statements_few xs)

  else_few : (xs : text.Statements) → statements_exceptions xs ≤ else_nodes xs
  else_few text.no_statements = none_in 0
  else_few (text.then_also x xs) =
      within_two 1 (statement_exceptions x) (statement_nodes x) (statements_exceptions xs) (statements_nodes xs) (statement_few x) (statements_few xs)

  branches_few : (bs : text.Branches) → branches_exceptions bs ≤ branches_nodes bs
  branches_few text.no_branches = none_in 0
  branches_few (text.branch e ss bs) =
      within_two (2 + expr_nodes e) (statements_exceptions ss) (statements_nodes ss) (branches_exceptions bs) (branches_nodes bs) (statements_few ss) (branches_few bs)

  alternatives_few : (rest : text.Alternatives) → alternatives_exceptions rest ≤ alternatives_nodes rest
  alternatives_few text.no_alternatives = none_in 0
  alternatives_few (text.alternative cs ss rest) =
      within_two (length cs + sum_by choice_nodes cs) (statements_exceptions ss) (statements_nodes ss) (alternatives_exceptions rest) (alternatives_nodes rest)
      (statements_few ss) (alternatives_few rest)

  handlers_few : (hs : text.Handlers) → handlers_exceptions hs ≤ handlers_nodes hs
  handlers_few text.no_handlers = none_in 0
  handlers_few (text.handler cs ss hs) =
      within_two (length cs + sum_by exception_choice_nodes cs) (statements_exceptions ss) (statements_nodes ss) (handlers_exceptions hs) (handlers_nodes hs)
      (statements_few ss) (handlers_few hs)

  exception_part_few : (hs : text.Handlers) → handlers_exceptions hs ≤ exception_part_nodes hs
  exception_part_few text.no_handlers = none_in 0
  exception_part_few (text.handler cs ss hs) =
      within_two (1 + length cs + sum_by exception_choice_nodes cs) (statements_exceptions ss) (statements_nodes ss) (handlers_exceptions hs) (handlers_nodes hs)
      (statements_few ss) (handlers_few hs)

  handled_few : (h : text.Handled) → handled_exceptions h ≤ handled_nodes h
  handled_few (text.handled ss hs) =
      two_within (statements_exceptions ss) (statements_nodes ss) (handlers_exceptions hs) (exception_part_nodes hs) (statements_few ss) (exception_part_few hs)

-- bodies, items and units
body_few : (b : SubprogramBody) → body_exceptions b ≤ body_nodes b
body_few b =
    around (specification_nodes b.specification) (declared_exceptions b.declarations) (sum_by declaration_nodes b.declarations)
    (handled_exceptions b.statements) (handled_nodes b.statements) (one_if_present b.end_name) (declarations_few b.declarations) (handled_few b.statements)
  where
    around : (n a b c d e : ℕ) → a ≤ b → c ≤ d → a + c ≤ n + 3 + b + d + e
    around n a b c d e h k = omega (arith, h, k)

package_item_few : (i : PackageItem) → package_item_exceptions i ≤ package_item_nodes i
package_item_few (part.Declaration d) = kind_few d.kind
package_item_few (part.Subprogram x) = none_in (specification_nodes x)

package_items_few : (is : List PackageItem) → package_items_exceptions is ≤ sum_by package_item_nodes is
package_items_few [] = none_in _
package_items_few (i ∷ is) =
    in_sum (package_item_exceptions i) (package_item_nodes i) (package_items_exceptions is) (sum_by package_item_nodes is) (sum_by package_item_nodes (i ∷ is))
    (sum_by-cons package_item_nodes i is) (package_item_few i) (package_items_few is)

body_item_few : (i : BodyItem) → body_item_exceptions i ≤ body_item_nodes i
body_item_few (item.Declared i) = package_item_few i
body_item_few (item.Body b) = body_few b

body_items_few : (is : List BodyItem) → body_items_exceptions is ≤ sum_by body_item_nodes is
body_items_few [] = none_in _
body_items_few (i ∷ is) =
    in_sum (body_item_exceptions i) (body_item_nodes i) (body_items_exceptions is) (sum_by body_item_nodes is) (sum_by body_item_nodes (i ∷ is))
    (sum_by-cons body_item_nodes i is) (body_item_few i) (body_items_few is)

item_few : (i : LibraryItem) → item_exceptions i ≤ item_nodes i
item_few (library.Package x) =
    around (if_present (λ fs. 1 + sum_by formal_nodes fs) x.formals) (package_items_exceptions x.items) (sum_by package_item_nodes x.items) (one_if_present x.end_name)
    (package_items_few x.items)
  where
    around : (f a b e : ℕ) → a ≤ b → a ≤ f + 4 + b + e
    around f a b e h = omega (arith, h)
item_few (library.PackageBody b) = around (body_items_exceptions b.items) (sum_by body_item_nodes b.items) (one_if_present b.end_name) (body_items_few b.items)
  where
    around : (a b e : ℕ) → a ≤ b → a ≤ 5 + b + e
    around a b e h = omega (arith, h)
item_few (library.Instance i) = none_in (item_nodes (library.Instance i))
item_few (library.Subprogram b) = body_few b

pub units_few : (us : List LibraryUnit) → units_exceptions us ≤ sum_by unit_nodes us
units_few [] = none_in _
units_few (u ∷ us) =
    in_sum (item_exceptions u.item) (unit_nodes u) (units_exceptions us) (sum_by unit_nodes us) (sum_by unit_nodes (u ∷ us))
    (sum_by-cons unit_nodes u us) (within_one (item_exceptions u.item) (item_nodes u.item) (sum_by with_nodes u.withs) (item_few u.item)) (units_few us)
