use Rattle.std.proofs.Common.{ap, length, sym, ◌∙◌, arith}
use Rattle.expression_parser.specs.Shows.{Reads}
use Rattle.declaration_parser.proofs.Closings.{below_behind}
use Rattle.ada_parser.specs.SimpleReading.{at_simple}
use Rattle.ada_parser.specs.StatementDepth as at
use Rattle.ada_parser.proofs.Parts.{shown_so}
use Rattle.ada_parser.proofs.SimpleStatementCode.{a_null, a_name, a_pragma, an_exit, exit_closed, a_return, a_raise, raise_closed, simple_rules}
use Rattle.ada_parser.proofs.simple.simple.Goals as goal

pub returns-in-Null-clause-reads : goal.returns-in-Null-clause-reads
returns-in-Null-clause-reads c =
    let x = c.args.parser.extent in
    let ts = c.args.tokens.now in
    let u = c.in-Some.token.now in
    let us = c.in-Some.rest.now in
    let is = sym c.symbol_in.ensures ∙ c.in-Null.is in
    shown_so (λ z. z) (Reads (at.at_null u.pos) us) (Reads (at_simple x) ts) c.null.result c.null.ensures.reads (λ q f. rw c.in-Some.ensures.cases.0 (a_null x u us q is f))

pub returns-in-Null-clause-shorter : goal.returns-in-Null-clause-shorter
returns-in-Null-clause-shorter c = below_behind c.args.tokens.now c.in-Some.rest.now c.null.result (omega (arith, ap length c.in-Some.ensures.cases.0)) c.null.ensures.shorter

pub returns-in-Identifier-clause-reads : goal.returns-in-Identifier-clause-reads
returns-in-Identifier-clause-reads c =
    let x = c.args.parser.extent in
    let ts = c.args.tokens.now in
    let u = c.in-Some.token.now in
    let us = c.in-Some.rest.now in
    let is = sym c.symbol_in.ensures ∙ c.in-Identifier.is in
    shown_so (λ z. z) (Reads (at.at_named x u.pos) ts) (Reads (at_simple x) ts) c.named.result c.named.ensures.reads (λ q f. rw c.in-Some.ensures.cases.0 (a_name x u us q is (rw c.in-Some.ensures.cases.0 at f)))

pub returns-in-Identifier-clause-shorter : goal.returns-in-Identifier-clause-shorter
returns-in-Identifier-clause-shorter c = c.named.ensures.shorter

pub returns-in-Pragma-clause-reads : goal.returns-in-Pragma-clause-reads
returns-in-Pragma-clause-reads c =
    let x = c.args.parser.extent in
    let ts = c.args.tokens.now in
    let u = c.in-Some.token.now in
    let us = c.in-Some.rest.now in
    let is = sym c.symbol_in.ensures ∙ c.in-Pragma.is in
    shown_so (λ z. z) (Reads (at.at_exemption x u.pos) ts) (Reads (at_simple x) ts) c.exemption.result c.exemption.ensures.reads (λ q f. rw c.in-Some.ensures.cases.0 (a_pragma x u us q is (rw c.in-Some.ensures.cases.0 at f)))

pub returns-in-Pragma-clause-shorter : goal.returns-in-Pragma-clause-shorter
returns-in-Pragma-clause-shorter c = c.exemption.ensures.shorter

pub returns-in-Return-clause-reads : goal.returns-in-Return-clause-reads
returns-in-Return-clause-reads c =
    let x = c.args.parser.extent in
    let ts = c.args.tokens.now in
    let u = c.in-Some.token.now in
    let us = c.in-Some.rest.now in
    let is = sym c.symbol_in.ensures ∙ c.in-Return.is in
    shown_so (λ z. z) (Reads (at.at_return x u.pos) us) (Reads (at_simple x) ts) c.returns.result c.returns.ensures.reads (λ q f. rw c.in-Some.ensures.cases.0 (a_return x u us q is f))

pub returns-in-Return-clause-shorter : goal.returns-in-Return-clause-shorter
returns-in-Return-clause-shorter c = below_behind c.args.tokens.now c.in-Some.rest.now c.returns.result (omega (arith, ap length c.in-Some.ensures.cases.0)) c.returns.ensures.shorter

pub returns-then-not-opens-clause-reads : goal.returns-then-not-opens-clause-reads
returns-then-not-opens-clause-reads c =
    rw c.in-Some.ensures.cases.0 (exit_closed c.args.parser.extent c.in-Some.token.now c.in-Some.rest.now (sym c.symbol_in.ensures ∙ c.in-Exit.is) (sym c.opens.ensures ∙ c.if-not-opens.true))

pub returns-else-not-opens-clause-reads : goal.returns-else-not-opens-clause-reads
returns-else-not-opens-clause-reads c =
    let x = c.args.parser.extent in
    let ts = c.args.tokens.now in
    let u = c.in-Some.token.now in
    let us = c.in-Some.rest.now in
    let is = sym c.symbol_in.ensures ∙ c.in-Exit.is in
    shown_so (λ z. z) (Reads (at.at_exit x u.pos) us) (Reads (at_simple x) ts) c.exit.result c.exit.ensures.reads (λ q f. rw c.in-Some.ensures.cases.0 (an_exit x u us q is (sym c.opens.ensures ∙ c.if-not-opens.false) f))

pub returns-else-not-opens-clause-shorter : goal.returns-else-not-opens-clause-shorter
returns-else-not-opens-clause-shorter c = below_behind c.args.tokens.now c.in-Some.rest.now c.exit.result (omega (arith, ap length c.in-Some.ensures.cases.0)) c.exit.ensures.shorter

pub returns-then-not-opens-2-clause-reads : goal.returns-then-not-opens-2-clause-reads
returns-then-not-opens-2-clause-reads c =
    rw c.in-Some.ensures.cases.0 (raise_closed c.args.parser.extent c.in-Some.token.now c.in-Some.rest.now (sym c.symbol_in.ensures ∙ c.in-Raise.is) (sym c.opens-in-Raise.ensures ∙ c.if-not-opens-2.true))

pub returns-else-not-opens-2-clause-reads : goal.returns-else-not-opens-2-clause-reads
returns-else-not-opens-2-clause-reads c =
    let x = c.args.parser.extent in
    let ts = c.args.tokens.now in
    let u = c.in-Some.token.now in
    let us = c.in-Some.rest.now in
    let is = sym c.symbol_in.ensures ∙ c.in-Raise.is in
    shown_so (λ z. z) (Reads (at.at_raise x u.pos) us) (Reads (at_simple x) ts) c.raise.result c.raise.ensures.reads (λ q f. rw c.in-Some.ensures.cases.0 (a_raise x u us q is (sym c.opens-in-Raise.ensures ∙ c.if-not-opens-2.false) f))

pub returns-else-not-opens-2-clause-shorter : goal.returns-else-not-opens-2-clause-shorter
returns-else-not-opens-2-clause-shorter c = below_behind c.args.tokens.now c.in-Some.rest.now c.raise.result (omega (arith, ap length c.in-Some.ensures.cases.0)) c.raise.ensures.shorter

pub returns-in_default-symbol_in : goal.returns-in_default-symbol_in
returns-in_default-symbol_in c = grind (arith, simple_rules)
