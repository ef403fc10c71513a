use Rattle.ada_syntax.specs.declared.declaration.Constancy.TheVariants as constancy
use Rattle.expression_parser.specs.declared.symbol.Symbol.TheVariants as symbol
use Rattle.declaration_parser.specs.DeclarationReading as read
use Rattle.ada_syntax.specs.declared.declaration.DeclarationKind.TheVariants as declares
use Rattle.expression_parser.specs.Reading.{got, skip}
use Rattle.declaration_parser.specs.Closing.{Closes}
use Rattle.declaration_parser.proofs.Pairs.{as_well}
use Rattle.declaration_parser.proofs.Closings.{read_so, below_behind, closed_below, before_word}
use Rattle.expression_parser.specs.Shows.{Reads}
use Rattle.std.proofs.Common.{ap, length, sym, ◌∙◌, ◌∷◌, refl, subst, arith}
use Rattle.declaration_parser.proofs.DeclarationCode.{named_rest_rules, constant_read, exception_closed, exception_read}
use Rattle.declaration_parser.proofs.declarations.named_rest.Goals as goal

pub returns-in-Constant-clause-reads : goal.returns-in-Constant-clause-reads
returns-in-Constant-clause-reads c =
    let x = c.args.parser.extent in
    let ts = c.args.tokens.now in
    let u = c.in-Some.token.now in
    let us = c.in-Some.rest.now in
    let names = c.args.names.items in
    let is = sym c.symbol_in.ensures ∙ c.in-Constant.is in
    as_well (Reads (read.object_at x names constancy.Constant) us) (Reads (read.named_rest_at x names) ts) c.object.result c.object.ensures.reads (λ q f. rw c.in-Some.ensures.cases.0 (constant_read x names u us q is f))

pub returns-in-Constant-clause-shorter : goal.returns-in-Constant-clause-shorter
returns-in-Constant-clause-shorter c = below_behind c.args.tokens.now c.in-Some.rest.now c.object.result (omega (arith, ap length c.in-Some.ensures.cases.0)) c.object.ensures.shorter

pub returns-in_default-clause-reads : goal.returns-in_default-clause-reads
returns-in_default-clause-reads c = grind (arith, named_rest_rules)

pub returns-in_default-clause-shorter : goal.returns-in_default-clause-shorter
returns-in_default-clause-shorter c = grind (arith, named_rest_rules)

pub returns-in_default-symbol_in : goal.returns-in_default-symbol_in
returns-in_default-symbol_in c = grind (arith, named_rest_rules)

pub returns-then-not-opens-clause-reads : goal.returns-then-not-opens-clause-reads
returns-then-not-opens-clause-reads c =
    let u = c.in-Some.token.now in
    let us = c.in-Some.rest.now in
    rw c.in-Some.ensures.cases.0 (exception_closed c.args.parser.extent c.args.names.items u us (u ∷ us) (sym c.symbol_in.ensures ∙ c.in-Exception.is) (sym c.opens.ensures ∙ c.if-not-opens.true) refl)

pub returns-else-not-opens-clause-reads : goal.returns-else-not-opens-clause-reads
returns-else-not-opens-clause-reads c =
    let x = c.args.parser.extent in
    let ts = c.args.tokens.now in
    let u = c.in-Some.token.now in
    let us = c.in-Some.rest in
    let names = c.args.names.items in
    let closes = subst (λ z. Closes symbol.Semicolon (read_so (declares.Exception z) us) c.closed_by.result) c.from.ensures c.closed_by.ensures in
    as_well (Reads (λ m. skip symbol.Semicolon (got (declares.Exception names))) us.now) (Reads (read.named_rest_at x names) ts) c.closed_by.result (before_word (declares.Exception names) us symbol.Semicolon c.closed_by.result closes)
    (λ q f. rw c.in-Some.ensures.cases.0 (exception_read x names u us.now q (sym c.symbol_in.ensures ∙ c.in-Exception.is) (sym c.opens.ensures ∙ c.if-not-opens.false) f))

pub returns-else-not-opens-clause-shorter : goal.returns-else-not-opens-clause-shorter
returns-else-not-opens-clause-shorter c =
    closed_below symbol.Semicolon c.args.tokens.now (read_so (declares.Exception c.from.result) c.in-Some.rest) c.closed_by.result (omega (arith, ap length c.in-Some.ensures.cases.0)) c.closed_by.ensures
