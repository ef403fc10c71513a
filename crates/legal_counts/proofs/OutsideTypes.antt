-- The tokens of a text outside its declarations of types and of exceptions, and that those within them are the others: so nodes of a body, which
-- no such declaration adds to, have tokens of their own.
use Rattle.std.proofs.Common.{◌≡◌, ◌≤◌, ◌+◌, ℕ, List, [], ◌∷◌, length, Option, Some, None, arith}
use Rattle.std.specs.Prelude.{sum_by}
use Rattle.std.proofs.lemmas.List.Sums.{sum_by-cons}
use Rattle.ada_syntax.specs.Nodes.{if_present, expr_nodes, scheme_nodes, kind_nodes, declaration_nodes, choice_nodes, exception_choice_nodes, statement_nodes, statements_nodes, else_nodes, branches_nodes, alternatives_nodes, handlers_nodes, handled_nodes, exception_part_nodes, parameter_nodes}
use Rattle.ada_syntax.specs.StatementTree as text
use Rattle.ada_syntax.specs.declared.declaration.Declaration.{Declaration}
use Rattle.ada_syntax.specs.declared.declaration.DeclarationKind.{DeclarationKind}
use Rattle.ada_syntax.specs.declared.declaration.DeclarationKind.TheVariants as declares
use Rattle.ada_syntax.specs.declared.unit.SubprogramBody.{SubprogramBody}
use Rattle.ada_meaning.specs.Program.{Subprogram}
use Rattle.ada_rules.specs.Statements.{declarations_in}
use Rattle.statement_code.specs.Sizes.{block_nodes}
use Rattle.legal_counts.specs.Within.{IsWithin, AreWithin}
use Rattle.legal_counts.proofs.ExceptionNames.{kind_exceptions, declared_exceptions, statement_exceptions, statements_exceptions, branches_exceptions, alternatives_exceptions, handlers_exceptions, handled_exceptions}
use Rattle.legal_types.specs.TypeTokens.{kind_types, declared_types, statement_types, statements_types, branches_types, alternatives_types, handlers_types, handled_types}

abbrev pub kind_outside : DeclarationKind → ℕ
kind_outside (declares.Type i d) = 0
kind_outside (declares.Exception is) = 0
kind_outside d = kind_nodes d

abbrev pub declaration_outside : Declaration → ℕ
declaration_outside d = kind_outside d.kind

abbrev mutual
  pub statement_outside : text.Statement → ℕ
  statement_outside (text.conditional p e ss bs es) = 4 + expr_nodes e + statements_outside ss + branches_outside bs + else_outside es
  statement_outside (text.case_of p e rest) = 4 + expr_nodes e + alternatives_outside rest
  statement_outside (text.repeat p scheme ss) = scheme_nodes scheme + 3 + statements_outside ss
  statement_outside (text.block p ds h) = 2 + if_present (λ xs. 1 + sum_by declaration_outside xs) ds + handled_outside h
  statement_outside x = statement_nodes x

  pub statements_outside : text.Statements → ℕ
  statements_outside text.no_statements = 0
  statements_outside (text.then_also x xs) = statement_outside x + statements_outside xs

  pub else_outside : text.Statements → ℕ
  else_outside text.no_statements = 0
  else_outside (text.then_also x xs) = 1 + statement_outside x + statements_outside xs

  pub branches_outside : text.Branches → ℕ
  branches_outside text.no_branches = 0
  branches_outside (text.branch e ss bs) = 2 + expr_nodes e + statements_outside ss + branches_outside bs

  pub alternatives_outside : text.Alternatives → ℕ
  alternatives_outside text.no_alternatives = 0
  alternatives_outside (text.alternative cs ss rest) = length cs + sum_by choice_nodes cs + statements_outside ss + alternatives_outside rest

  pub handlers_outside : text.Handlers → ℕ
  handlers_outside text.no_handlers = 0
  handlers_outside (text.handler cs ss hs) = length cs + sum_by exception_choice_nodes cs + statements_outside ss + handlers_outside hs

  pub handled_outside : text.Handled → ℕ
  handled_outside (text.handled ss hs) = statements_outside ss + exception_part_outside hs

  pub exception_part_outside : text.Handlers → ℕ
  exception_part_outside text.no_handlers = 0
  exception_part_outside (text.handler cs ss hs) =
      1 + length cs + sum_by exception_choice_nodes cs + statements_outside ss + handlers_outside hs

-- declarations
none_within : (n : ℕ) → n + (0 + 0) ≤ n
none_within n = omega (arith)

all_within : (n : ℕ) → 0 + (n + 0) ≤ n
all_within n = omega (arith)

named_within : (n : ℕ) → 0 + (0 + n) ≤ n + 1
named_within n = omega (arith)

pub kind_split : (d : DeclarationKind) → kind_outside d + (kind_types d + kind_exceptions d) ≤ kind_nodes d
kind_split (declares.Type i d) = all_within (kind_nodes (declares.Type i d))
kind_split (declares.Subtype i t) = none_within (kind_nodes (declares.Subtype i t))
kind_split (declares.Object is c t i) = none_within (kind_nodes (declares.Object is c t i))
kind_split (declares.Exception is) = named_within (length is)
kind_split (declares.Pragma a) = none_within (kind_nodes (declares.Pragma a))

pub declarations_split : (ds : List Declaration) → sum_by declaration_outside ds + (declared_types ds + declared_exceptions ds) ≤ sum_by declaration_nodes ds
declarations_split [] = none_within 0
declarations_split (d ∷ ds) =
    both (kind_outside d.kind) (kind_types d.kind) (kind_exceptions d.kind) (kind_nodes d.kind) (sum_by declaration_outside ds) (declared_types ds) (declared_exceptions ds) (sum_by declaration_nodes ds)
    (sum_by declaration_outside (d ∷ ds)) (sum_by declaration_nodes (d ∷ ds))
    (sum_by-cons declaration_outside d ds) (sum_by-cons declaration_nodes d ds) (kind_split d.kind) (declarations_split ds)
  where
    both : (a b x c d e y f m n : ℕ) → m ≡ a + d → n ≡ c + f → a + (b + x) ≤ c → d + (e + y) ≤ f → m + ((b + e) + (x + y)) ≤ n
    both a b x c d e y f m n i j h k = omega (arith, i, j, h, k)

declare_split : (ds : Option (List Declaration))
    → if_present (λ xs. 1 + sum_by declaration_outside xs) ds + (declared_types (declarations_in ds) + declared_exceptions (declarations_in ds)) ≤ if_present (λ xs. 1 + sum_by declaration_nodes xs) ds
declare_split None = none_within 0
declare_split (Some ds) = behind_one (sum_by declaration_outside ds) (declared_types ds) (declared_exceptions ds) (sum_by declaration_nodes ds) (declarations_split ds)
  where
    behind_one : (a b x c : ℕ) → a + (b + x) ≤ c → (1 + a) + (b + x) ≤ 1 + c
    behind_one a b x c h = omega (arith, h)

-- statements
two_split : (a b x c d e y f : ℕ) → a + (b + x) ≤ c → d + (e + y) ≤ f → (a + d) + ((b + e) + (x + y)) ≤ c + f
two_split a b x c d e y f h k = omega (arith, h, k)

behind_split : (n a b x c d e y f : ℕ) → a + (b + x) ≤ c → d + (e + y) ≤ f → (n + a + d) + ((b + e) + (x + y)) ≤ n + c + f
behind_split n a b x c d e y f h k = omega (arith, h, k)

conditional_split : (e a b x c d f y g h i z j : ℕ) → a + (b + x) ≤ c → d + (f + y) ≤ g → h + (i + z) ≤ j
    → (4 + e + a + d + h) + ((b + (f + i)) + (x + (y + z))) ≤ 4 + e + c + g + j
conditional_split e a b x c d f y g h i z j k l m = omega (arith, k, l, m)

one_split : (n a b x c : ℕ) → a + (b + x) ≤ c → (n + a) + (b + x) ≤ n + c
one_split n a b x c h = omega (arith, h)

mutual
  statement_split : (x : text.Statement) → statement_outside x + (statement_types x + statement_exceptions x) ≤ statement_nodes x
  statement_split (text.null p) = none_within (statement_nodes (text.null p))
  statement_split (text.assignment p n i) = none_within (statement_nodes (text.assignment p n i))
  statement_split (text.call p n) = none_within (statement_nodes (text.call p n))
  statement_split (text.exemption p a) = none_within (statement_nodes (text.exemption p a))
  statement_split (text.conditional p e ss bs es) =
      conditional_split (expr_nodes e) (statements_outside ss) (statements_types ss) (statements_exceptions ss) (statements_nodes ss)
      (branches_outside bs) (branches_types bs) (branches_exceptions bs) (branches_nodes bs) (else_outside es) (statements_types es) (statements_exceptions es) (else_nodes es)
      (statements_split ss) (branches_split bs) (else_split es)
  statement_split (text.case_of p e rest) =
      one_split (4 + expr_nodes e) (alternatives_outside rest) (alternatives_types rest) (alternatives_exceptions rest) (alternatives_nodes rest) (alternatives_split rest)
  statement_split (text.repeat p scheme ss) =
      one_split (scheme_nodes scheme + 3) (statements_outside ss) (statements_types ss) (statements_exceptions ss) (statements_nodes ss) (statements_split ss)
  statement_split (text.exit p e) = none_within (statement_nodes (text.exit p e))
  statement_split (text.returns p e) = none_within (statement_nodes (text.returns p e))
  statement_split (text.raise p n) = none_within (statement_nodes (text.raise p n))
  statement_split (text.block p ds h) =
      behind_split 2 (if_present (λ xs. 1 + sum_by declaration_outside xs) ds) (declared_types (declarations_in ds)) (declared_exceptions (declarations_in ds))
      (if_present (λ xs. 1 + sum_by declaration_nodes xs) ds) (handled_outside h) (handled_types h) (handled_exceptions h) (handled_nodes h) (declare_split ds) (handled_split h)

  statements_split : (xs : text.Statements) → statements_outside xs + (statements_types xs + statements_exceptions xs) ≤ statements_nodes xs
  statements_split text.no_statements = none_within 0
  statements_split (text.then_also x xs) =
      two_split (statement_outside x) (statement_types x) (statement_exceptions x) (statement_nodes x) (statements_outside xs) (statements_types xs) (statements_exceptions xs) (statements_nodes xs)
      (statement_split x) (statements_split xs)

  else_split : (xs : text.Statements) → else_outside xs + (statements_types xs + statements_exceptions xs) ≤ else_nodes xs
  else_split text.no_statements = none_within 0
  else_split (text.then_also x xs) =
      behind_split 1 (statement_outside x) (statement_types x) (statement_exceptions x) (statement_nodes x) (statements_outside xs) (statements_types xs) (statements_exceptions xs) (statements_nodes xs)
      (statement_split x) (statements_split xs)

  branches_split : (bs : text.Branches) → branches_outside bs + (branches_types bs + branches_exceptions bs) ≤ branches_nodes bs
  branches_split text.no_branches = none_within 0
  branches_split (text.branch e ss bs) =
      behind_split (2 + expr_nodes e) (statements_outside ss) (statements_types ss) (statements_exceptions ss) (statements_nodes ss)
      (branches_outside bs) (branches_types bs) (branches_exceptions bs) (branches_nodes bs) (statements_split ss) (branches_split bs)

  alternatives_split : (rest : text.Alternatives) → alternatives_outside rest + (alternatives_types rest + alternatives_exceptions rest) ≤ alternatives_nodes rest
  alternatives_split text.no_alternatives = none_within 0
  alternatives_split (text.alternative cs ss rest) =
      behind_split (length cs + sum_by choice_nodes cs) (statements_outside ss) (statements_types ss) (statements_exceptions ss) (statements_nodes ss)
      (alternatives_outside rest) (alternatives_types rest) (alternatives_exceptions rest) (alternatives_nodes rest) (statements_split ss) (alternatives_split rest)

  handlers_split : (hs : text.Handlers) → handlers_outside hs + (handlers_types hs + handlers_exceptions hs) ≤ handlers_nodes hs
  handlers_split text.no_handlers = none_within 0
  handlers_split (text.handler cs ss hs) =
      behind_split (length cs + sum_by exception_choice_nodes cs) (statements_outside ss) (statements_types ss) (statements_exceptions ss) (statements_nodes ss)
      (handlers_outside hs) (handlers_types hs) (handlers_exceptions hs) (handlers_nodes hs) (statements_split ss) (handlers_split hs)

  exception_part_split : (hs : text.Handlers) → exception_part_outside hs + (handlers_types hs + handlers_exceptions hs) ≤ exception_part_nodes hs
  exception_part_split text.no_handlers = none_within 0
  exception_part_split (text.handler cs ss hs) =
      behind_split (1 + length cs + sum_by exception_choice_nodes cs) (statements_outside ss) (statements_types ss) (statements_exceptions ss) (statements_nodes ss)
      (handlers_outside hs) (handlers_types hs) (handlers_exceptions hs) (handlers_nodes hs) (statements_split ss) (handlers_split hs)

  pub handled_split : (h : text.Handled) → handled_outside h + (handled_types h + handled_exceptions h) ≤ handled_nodes h
  handled_split (text.handled ss hs) =
      two_split (statements_outside ss) (statements_types ss) (statements_exceptions ss) (statements_nodes ss)
      (exception_part_outside hs) (handlers_types hs) (handlers_exceptions hs) (exception_part_nodes hs) (statements_split ss) (exception_part_split hs)

-- a subprogram has no more nodes than the text of its body has tokens outside declarations of types and of exceptions
pub record IsOutside (s : Subprogram) (b : SubprogramBody) : Type 0 where
  pub parameters : length s.parameters ≤ sum_by parameter_nodes b.specification.parameters
  pub block : block_nodes s.body ≤ sum_by declaration_outside b.declarations + handled_outside b.statements

abbrev pub AreOutside : List Subprogram → List SubprogramBody → Type 0
AreOutside [] [] = Unit {0}
AreOutside (s ∷ ss) (b ∷ bs) = IsOutside s b × AreOutside ss bs
AreOutside ss bs = ⊥

one_within : (s : Subprogram) (b : SubprogramBody) → IsOutside s b → IsWithin s b
one_within s b is = record {
  parameters = is.parameters;
  block = below (block_nodes s.body) (sum_by declaration_outside b.declarations) (declared_types b.declarations) (declared_exceptions b.declarations) (sum_by declaration_nodes b.declarations)
      (handled_outside b.statements) (handled_types b.statements) (handled_exceptions b.statements) (handled_nodes b.statements)
      (declarations_split b.declarations) (handled_split b.statements) is.block;
}
  where
    below : (n a b x c d e y f : ℕ) → a + (b + x) ≤ c → d + (e + y) ≤ f → n ≤ a + d → n ≤ c + f
    below n a b x c d e y f h k l = omega (arith, h, k, l)

pub within_text : (ss : List Subprogram) (bs : List SubprogramBody) → AreOutside ss bs → AreWithin ss bs
within_text [] [] h = tt
within_text (s ∷ ss) (b ∷ bs) h = (one_within s b h.0, within_text ss bs h.1)
within_text [] (b ∷ bs) h = absurd h
within_text (s ∷ ss) [] h = absurd h
