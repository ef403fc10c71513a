use Rattle.ada_parser.specs.UnitReading as read
use Rattle.expression_parser.specs.Shows.{Reads}
use Rattle.ada_parser.proofs.Parts.{shown_so}
use Rattle.declaration_parser.proofs.Closings.{below_behind}
use Rattle.std.proofs.Common.{ap, length, sym, ◌∙◌, arith}
use Rattle.ada_parser.proofs.UnitCode.{item_rules, is_generic, generic_closed, is_package, package_closed}
use Rattle.ada_parser.proofs.units.item.Goals as goal

pub returns-in_err-body-in_default-symbol_in : goal.returns-in_err-body-in_default-symbol_in
returns-in_err-body-in_default-symbol_in c = grind (arith, item_rules)

pub returns-in_ok-body-in_default-symbol_in : goal.returns-in_ok-body-in_default-symbol_in
returns-in_ok-body-in_default-symbol_in c = grind (arith, item_rules)

pub returns-else-not-opens-clause-reads : goal.returns-else-not-opens-clause-reads
returns-else-not-opens-clause-reads c =
    let x = c.args.parser.extent in
    let ts = c.args.tokens.now in
    let us = c.in-Some.rest.now in
    shown_so (λ z. z) (Reads (read.generic_by x) us) (Reads (read.item_by x) ts) c.generic.result c.generic.ensures.reads
    (λ q f. rw c.in-Some.ensures.cases.0 (is_generic x c.in-Some.token.now us q (sym c.symbol_in.ensures ∙ c.in-Generic.is) (sym c.opens.ensures ∙ c.if-not-opens.false) f))

pub returns-else-not-opens-2-clause-reads : goal.returns-else-not-opens-2-clause-reads
returns-else-not-opens-2-clause-reads c =
    let x = c.args.parser.extent in
    let ts = c.args.tokens.now in
    let us = c.in-Some.rest.now in
    shown_so (λ z. z) (Reads (read.package_by x) us) (Reads (read.item_by x) ts) c.package.result c.package.ensures.reads
    (λ q f. rw c.in-Some.ensures.cases.0 (is_package x c.in-Some.token.now us q (sym c.symbol_in.ensures ∙ c.in-Package.is) (sym c.opens-in-Package.ensures ∙ c.if-not-opens-2.false) f))

pub returns-then-not-opens-clause-reads : goal.returns-then-not-opens-clause-reads
returns-then-not-opens-clause-reads c =
    rw c.in-Some.ensures.cases.0 (generic_closed c.args.parser.extent c.in-Some.token.now c.in-Some.rest.now (sym c.symbol_in.ensures ∙ c.in-Generic.is) (sym c.opens.ensures ∙ c.if-not-opens.true))

pub returns-else-not-opens-clause-shorter : goal.returns-else-not-opens-clause-shorter
returns-else-not-opens-clause-shorter c = below_behind c.args.tokens.now c.in-Some.rest.now c.generic.result (omega (arith, ap length c.in-Some.ensures.cases.0)) c.generic.ensures.shorter

pub returns-then-not-opens-2-clause-reads : goal.returns-then-not-opens-2-clause-reads
returns-then-not-opens-2-clause-reads c =
    rw c.in-Some.ensures.cases.0 (package_closed c.args.parser.extent c.in-Some.token.now c.in-Some.rest.now (sym c.symbol_in.ensures ∙ c.in-Package.is) (sym c.opens-in-Package.ensures ∙ c.if-not-opens-2.true))

pub returns-else-not-opens-2-clause-shorter : goal.returns-else-not-opens-2-clause-shorter
returns-else-not-opens-2-clause-shorter c = below_behind c.args.tokens.now c.in-Some.rest.now c.package.result (omega (arith, ap length c.in-Some.ensures.cases.0)) c.package.ensures.shorter
