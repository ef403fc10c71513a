-- What is read behind the first branch of an `if` statement, behind the selector of a `case` statement and behind the scheme of a loop, whatever these are.
use Rattle.std.specs.Prelude.{ℕ, List, Result}
use Rattle.std.specs.Borrow.{Bor}
use Rattle.cov_base.specs.declared.position.Pos.{Pos}
use Rattle.ada_syntax.specs.Tree.{Expr}
use Rattle.ada_syntax.specs.StatementTree.{Statement, Branches, Alternatives, conditional, case_of, repeat}
use Rattle.ada_syntax.specs.StatementView.{statements_of}
use Rattle.ada_syntax.specs.declared.statement.LoopScheme.{LoopScheme}
use Rattle.expression_parser.specs.declared.extent.Extent.{Extent}
use Rattle.expression_parser.specs.declared.symbol.Symbol.TheVariants as symbol
use Rattle.expression_parser.specs.declared.fault.Fault.{Fault}
use Rattle.expression_parser.specs.Reading.{Tokens, Reader, ◌>>=◌}
use Rattle.expression_parser.specs.Shows.{ShowsAs, Reads}
use Rattle.ada_parser.specs.Lists.{closing}
use Rattle.ada_parser.specs.StatementDepth as at

-- behind a first branch of this condition and these statements
abbrev pub at_if_rest : Extent → Pos → Expr × List Statement → ℕ → Reader Statement
at_if_rest x p b m = at.at_branches x m >>= λ bs. at.at_else x m >>= λ es. closing symbol.If (conditional p b.0 (statements_of b.1) bs (statements_of es))

abbrev pub ReadsIfRest : {C : Type 0} → (C → Branches × List Statement) → Extent → Tokens → Result (C × Bor Tokens) Fault → Type 0
ReadsIfRest view x ts r = (p : Pos) (b : Expr × List Statement) → ShowsAs (λ v. conditional p b.0 (statements_of b.1) (view v).0 (statements_of (view v).1)) (Reads (at_if_rest x p b) ts) r

-- behind the selector
abbrev pub at_case_arms : Extent → Pos → Expr → ℕ → Reader Statement
at_case_arms x p e m = at.at_alternatives x m >>= λ alts. closing symbol.Case (case_of p e alts)

abbrev pub ReadsCaseArms : {C : Type 0} → (C → Alternatives) → Extent → Tokens → Result (C × Bor Tokens) Fault → Type 0
ReadsCaseArms view x ts r = (p : Pos) (e : Expr) → ShowsAs (λ v. case_of p e (view v)) (Reads (at_case_arms x p e) ts) r

abbrev pub ReadsLoopBody : {C : Type 0} → (C → List Statement) → Extent → Tokens → Result (C × Bor Tokens) Fault → Type 0
ReadsLoopBody view x ts r = (p : Pos) (s : LoopScheme) → ShowsAs (λ v. repeat p s (statements_of (view v))) (Reads (at.at_loop x p s) ts) r
