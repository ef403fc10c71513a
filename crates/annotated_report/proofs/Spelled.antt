-- What a caller says of decisions holds of the expressions that their bytes spell.
use Rattle.std.proofs.Common.{◌≡◌, ℕ, ◌<◌, List, length, sym, ap, ◌∙◌, subst, get_or, slice_get, Some}
use Rattle.cov_base.specs.Expr.{Expr, size, IsPostfixOf}
use Rattle.cov_base.proofs.Postfix.{read_postfix}
use Rattle.std.proofs.lemmas.Option.{slice_get-get_or}
use Rattle.cov_base.specs.declared.event.Vector.{Vector}
use Rattle.cov_base.specs.declared.obligations.DecEntry.{DecEntry}
use Rattle.cov_base.specs.Graph.{graph}
use Rattle.cov_base.specs.Lists.{Everywhere}
use Rattle.cov_base.specs.Path.{IsPathVector}
use Rattle.annotated_report.specs.Caller.{IsEvaluated}
use Rattle.annotated_report.specs.Findings.{expr_of}

-- what a caller says of a decision, said of the expression that its bytes spell
expr_is : (entry : DecEntry) (vectors : List Vector) (h : IsEvaluated entry vectors) → h.expression ≡ expr_of entry
expr_is entry vectors h = sym (read_postfix entry.expression.postfix h.expression h.spelled)

pub spelled_at : (entry : DecEntry) (vectors : List Vector) → IsEvaluated entry vectors → IsPostfixOf entry.expression.postfix (expr_of entry)
spelled_at entry vectors h = subst (λ (e : Expr). IsPostfixOf entry.expression.postfix e) (expr_is entry vectors h) h.spelled

pub placed_at : (entry : DecEntry) (vectors : List Vector) → IsEvaluated entry vectors → length entry.conditions ≡ size (expr_of entry)
placed_at entry vectors h = h.placed ∙ ap size (expr_is entry vectors h)

pub paths_at : (entry : DecEntry) (vectors : List Vector) → IsEvaluated entry vectors → Everywhere (IsPathVector (graph (expr_of entry))) vectors
paths_at entry vectors h = subst (λ (e : Expr). Everywhere (IsPathVector (graph e)) vectors) (expr_is entry vectors h) h.paths

-- the item at a place, as an index gives it
pub item_at : {X : Type 0} (xs : List X) (n : ℕ) (x : X) → n < length xs → x ≡ get_or xs n x → slice_get xs n ≡ Some x
item_at xs n x h is = slice_get-get_or xs n x h ∙ ap Some (sym is)
