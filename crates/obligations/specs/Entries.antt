-- The entries of statements and decisions, as they are met on a walk over the trees.
use Rattle.std.specs.Prelude.{List, [], ◌∷◌, ◌++◌, codes, ℕ, map}
use Rattle.cov_base.specs.declared.obligations.StmtEntry.{StmtEntry}
use Rattle.cov_base.specs.declared.obligations.DecEntry.{DecEntry}
use Rattle.ada_meaning.specs.Tree.{Label, Test, Stmt, Stmts, Alternatives, Handlers, Block}
use Rattle.ada_meaning.specs.Collected.{Standing, after_if, Decision, in_decision, in_declarations, in_stmt, in_stmts, in_alternatives, in_handlers, in_block, declaration_labels, labels, all_labels, alternative_labels, handler_labels, block_labels}
use Rattle.ada_meaning.specs.Obligations.{statement_entry, decision_entry}
use Rattle.ada_tree.specs.View.{label_of, declaration_of, statements_of}
use Rattle.ada_tree.specs.declared.statement.Branch.{Branch}
use Rattle.ada_tree.specs.declared.statement.Declaration.{Declaration}
use Rattle.ada_tree.specs.declared.program.Subprogram.{Subprogram}

-- entries of statements, and entries of decisions
pub record Entries : Type 0 where
  pub statements : List StmtEntry
  pub decisions : List DecEntry

abbrev pub no_entry : Entries
no_entry = record { statements = []; decisions = [] }

-- entries, and others behind them
unfoldable pub joined : Entries → Entries → Entries
joined a b = record { statements = a.statements ++ b.statements; decisions = a.decisions ++ b.decisions }

-- the entries of these statement obligations and decisions
unfoldable pub listed : List Label → List Decision → Entries
listed ls ds = record { statements = map statement_entry ls; decisions = map decision_entry ds }

-- one entry of a decision
abbrev pub of_entry : DecEntry → Entries
of_entry e = record { statements = []; decisions = e ∷ [] }

abbrev pub of_label : Label → Entries
of_label l = listed (l ∷ []) []

-- a decision: where it stands, the number of the statement obligation that holds it, its label and its expression
abbrev pub the_decision : Standing → ℕ → Label → Test → Decision
the_decision standing statement d t = record { standing = standing; statement = statement; label = d; test = t }

-- decisions that are nested in an expression, or in the conditions of another decision
abbrev pub of_nested : List Decision → Entries
of_nested hs = listed [] hs

-- a decision, and those nested in it
abbrev pub of_decision : Standing → ℕ → Label → Test → Entries
of_decision standing statement d t = listed [] (in_decision statement standing d t)

-- a declaration with an initial value has an entry
abbrev pub of_declarations : List Declaration → Entries
of_declarations ds = listed (declaration_labels (map declaration_of ds)) (in_declarations (map declaration_of ds))

abbrev pub of_statement : Stmt → Entries
of_statement s = listed (labels s) (in_stmt s)

abbrev pub of_statements : Stmts → Entries
of_statements ss = listed (all_labels ss) (in_stmts ss)

abbrev pub of_alternatives : Alternatives → Entries
of_alternatives xs = listed (alternative_labels xs) (in_alternatives xs)

abbrev pub of_handlers : Handlers → Entries
of_handlers hs = listed (handler_labels hs) (in_handlers hs)

abbrev pub of_block : Block → Entries
of_block b = listed (block_labels b) (in_block b)

-- a branch has those of its decision, and then of its statements
abbrev pub of_branch : ℕ → Branch → Entries
of_branch statement b = joined (of_decision after_if statement (label_of b.decision.label) b.decision.test) (of_statements (statements_of b.statements.items))

-- the branches of an if statement, without its else part
abbrev pub of_branches : ℕ → List Branch → Entries
of_branches statement [] = no_entry
of_branches statement (b ∷ bs) = joined (of_branch statement b) (of_branches statement bs)

abbrev pub of_subprograms : List Subprogram → Entries
of_subprograms [] = no_entry
of_subprograms (s ∷ ss) = joined (of_block s.body) (of_subprograms ss)

-- the names of the predefined exceptions, in the order of their numbers
unfoldable pub predefined : List (List ℕ)
predefined = codes "constraint_error" ∷ codes "program_error" ∷ codes "storage_error" ∷ codes "test_io.end_error" ∷ []
