use Rattle.declaration_parser.specs.DeclarationReading as read
use Rattle.declaration_parser.proofs.Pairs.{as_well}
use Rattle.declaration_parser.proofs.Closings.{below_behind}
use Rattle.expression_parser.specs.Shows.{Reads}
use Rattle.std.proofs.Common.{ap, length, sym, ◌∙◌, ◌∷◌, refl, arith}
use Rattle.declaration_parser.proofs.ProfileCode.{specification_rules, specification_procedure, specification_function, specification_closed}
use Rattle.declaration_parser.proofs.profiles.specification.Goals as goal

pub returns-in-Procedure-clause-reads : goal.returns-in-Procedure-clause-reads
returns-in-Procedure-clause-reads c =
    let x = c.args.parser.extent in
    let ts = c.args.tokens.now in
    let u = c.in-Some.token.now in
    let us = c.in-Some.rest.now in
    let is = sym c.symbol_in.ensures ∙ c.in-Procedure.is in
    as_well (Reads (read.procedure_at x u.pos) us) (Reads (read.specification_by x) ts) c.procedure.result c.procedure.ensures.reads (λ q f. rw c.in-Some.ensures.cases.0 (specification_procedure x u us q is f))

pub returns-in-Procedure-clause-shorter : goal.returns-in-Procedure-clause-shorter
returns-in-Procedure-clause-shorter c = below_behind c.args.tokens.now c.in-Some.rest.now c.procedure.result (omega (arith, ap length c.in-Some.ensures.cases.0)) c.procedure.ensures.shorter

pub returns-in_default-clause-reads : goal.returns-in_default-clause-reads
returns-in_default-clause-reads c = grind (arith, specification_rules)

pub returns-in_default-symbol_in : goal.returns-in_default-symbol_in
returns-in_default-symbol_in c = grind (arith, specification_rules)

pub returns-then-not-opens-clause-reads : goal.returns-then-not-opens-clause-reads
returns-then-not-opens-clause-reads c =
    let u = c.in-Some.token.now in
    let us = c.in-Some.rest.now in
    rw c.in-Some.ensures.cases.0 (specification_closed c.args.parser.extent u us (u ∷ us) (sym c.symbol_in.ensures ∙ c.in-Function.is) (sym c.opens.ensures ∙ c.if-not-opens.true) refl)

pub returns-else-not-opens-clause-reads : goal.returns-else-not-opens-clause-reads
returns-else-not-opens-clause-reads c =
    let x = c.args.parser.extent in
    let ts = c.args.tokens.now in
    let u = c.in-Some.token.now in
    let us = c.in-Some.rest.now in
    let is = sym c.symbol_in.ensures ∙ c.in-Function.is in
    as_well (Reads (read.function_at x u.pos) us) (Reads (read.specification_by x) ts) c.function.result c.function.ensures.reads (λ q f. rw c.in-Some.ensures.cases.0 (specification_function x u us q is (sym c.opens.ensures ∙ c.if-not-opens.false) f))

pub returns-else-not-opens-clause-shorter : goal.returns-else-not-opens-clause-shorter
returns-else-not-opens-clause-shorter c = below_behind c.args.tokens.now c.in-Some.rest.now c.function.result (omega (arith, ap length c.in-Some.ensures.cases.0)) c.function.ensures.shorter
