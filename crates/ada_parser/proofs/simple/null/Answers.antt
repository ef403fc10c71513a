use Rattle.std.proofs.Common.{arith}
use Rattle.ada_syntax.specs.StatementTree as tree
use Rattle.expression_parser.specs.declared.symbol.Symbol.TheVariants as symbol
use Rattle.expression_parser.specs.Shows.{Reads}
use Rattle.declaration_parser.proofs.Closings.{closed_below, read_so}
use Rattle.ada_parser.specs.StatementDepth as at
use Rattle.ada_parser.proofs.Parts.{word_after}
use Rattle.ada_parser.proofs.SimpleCode.{null_read, null_open}
use Rattle.ada_parser.proofs.simple.null.Goals as goal

pub returns-clause-reads : goal.returns-clause-reads
returns-clause-reads c =
    let pos = c.args.pos in
    let ts = c.args.tokens in
    word_after (λ z. z) (Reads (at.at_null pos) ts.now) symbol.Semicolon (tree.null pos) ts c.closed_by.result c.closed_by.ensures (λ rest k. null_read pos ts.now rest k) (λ rest e. null_open pos ts.now rest e)

pub returns-clause-shorter : goal.returns-clause-shorter
returns-clause-shorter c = closed_below symbol.Semicolon c.args.tokens.now (read_so (tree.null c.args.pos) c.args.tokens) c.closed_by.result (omega arith) c.closed_by.ensures
