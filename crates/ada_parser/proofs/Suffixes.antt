-- What follows a statement is the end of its tokens.
use Rattle.std.proofs.Common.{◌≡◌, length, subst, arith}
use Rattle.ada_syntax.specs.StatementTree.{Statement, Handlers}
use Rattle.expression_parser.specs.declared.symbol.Symbol.TheVariants as symbol
use Rattle.expression_parser.specs.declared.extent.Extent.{Extent}
use Rattle.expression_parser.specs.Reading.{Tokens, Reading, Reader, Got}
use Rattle.expression_parser.specs.Syntax.{Suffix}
use Rattle.expression_parser.proofs.Agree.{Local, place}
use Rattle.ada_parser.specs.Words.{Word}
use Rattle.ada_parser.specs.Statements.{IsStatement, HasHandlers}
use Rattle.ada_parser.specs.StatementReading as read
use Rattle.ada_parser.specs.StatementDepth as at
use Rattle.ada_parser.proofs.Below.{shorters_below, locals_below, complete_below}
use Rattle.ada_parser.proofs.StatementLocal.{statement_local, handlers_local, statements_local}
use Rattle.ada_parser.proofs.StatementComplete.{statement_complete, handlers_complete}

-- where a local reader reads tokens
pub suffix_of : {A : Type 0} {a : A} {ts rest : Tokens} (r : Reader A) → Local r → r ts ≡ Got a rest → Suffix rest ts
suffix_of {A} {a} {ts} {rest} r l e = subst (λ (q : Reading A). Suffix (place q) ts) e (l ts).within

pub statement_suffix : (x : Extent) {s : Statement} {ts rest : Tokens} → IsStatement x s ts rest → Suffix rest ts
statement_suffix x {ts = ts} d =
    let m = length ts in
    suffix_of (at.at_statement x m) (statement_local x m (locals_below x m) (read.statements x m) (statements_local x m)) (statement_complete x (shorters_below x) (complete_below x) d m (omega arith))

-- before END
pub handlers_suffix : (x : Extent) {hs : Handlers} {ts us vs : Tokens} → HasHandlers x hs ts us → Word symbol.End us vs → Suffix us ts
handlers_suffix x {ts = ts} d w =
    let m = length ts in
    suffix_of (at.at_handlers x m) (handlers_local x m (locals_below x m) (read.statements x m) (statements_local x m)) (handlers_complete x (shorters_below x) (complete_below x) d w m (omega arith))
