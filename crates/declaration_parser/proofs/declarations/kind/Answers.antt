use Rattle.declaration_parser.specs.DeclarationReading as read
use Rattle.expression_parser.proofs.Faults.{handed_on}
use Rattle.std.proofs.lemmas.Result.{err_from_is_err_and}
use Rattle.declaration_parser.proofs.Pairs.{as_well}
use Rattle.declaration_parser.proofs.Closings.{below_behind}
use Rattle.expression_parser.specs.Shows.{Reads}
use Rattle.std.proofs.Common.{ap, length, sym, ◌∙◌, ◌∷◌, refl, arith}
use Rattle.declaration_parser.proofs.DeclarationCode.{kind_rules, kind_type, kind_type_closed, kind_subtype, kind_subtype_closed, kind_named, kind_named_closed, kind_pragma, kind_pragma_fails}
use Rattle.declaration_parser.proofs.declarations.kind.Goals as goal

pub returns-in_default-clause-reads : goal.returns-in_default-clause-reads
returns-in_default-clause-reads c = grind (arith, kind_rules)

pub returns-in_default-clause-shorter : goal.returns-in_default-clause-shorter
returns-in_default-clause-shorter c = grind (arith, kind_rules)

pub returns-in_default-symbol_in : goal.returns-in_default-symbol_in
returns-in_default-symbol_in c = grind (arith, kind_rules)

pub returns-in_err-exemption-in-Pragma-clause-reads : goal.returns-in_err-exemption-in-Pragma-clause-reads
returns-in_err-exemption-in-Pragma-clause-reads c =
    let x = c.args.parser.extent in
    let ts = c.args.tokens.now in
    let u = c.in-Some.token.now in
    let us = c.in-Some.rest.now in
    let is = sym c.symbol_in.ensures ∙ c.in-Pragma.is in
    let p = err_from_is_err_and c.from_residual.result c.from_residual.ensures.1 in
    rw (p.1, p.2) (handed_on (Reads (read.kind_by x) ts) (Reads (read.pragma_by x) ts) c.in_err-exemption-in-Pragma.field-0.0 c.in_err-exemption-in-Pragma.ensures.reads (λ rest h. rw c.in-Some.ensures.cases.0 (kind_pragma_fails x u us rest is (rw c.in-Some.ensures.cases.0 at h))))

pub returns-in_err-exemption-in-Pragma-clause-shorter : goal.returns-in_err-exemption-in-Pragma-clause-shorter
returns-in_err-exemption-in-Pragma-clause-shorter c = rw ((err_from_is_err_and c.from_residual.result c.from_residual.ensures.1).1) tt

pub returns-then-not-opens-3-clause-reads : goal.returns-then-not-opens-3-clause-reads
returns-then-not-opens-3-clause-reads c =
    let u = c.in-Some.token.now in
    let us = c.in-Some.rest.now in
    rw c.in-Some.ensures.cases.0 (kind_named_closed c.args.parser.extent u us (u ∷ us) (sym c.symbol_in.ensures ∙ c.in-Identifier.is) (sym c.opens-in-Identifier.ensures ∙ c.if-not-opens-3.true) refl)

pub returns-then-not-opens-2-clause-reads : goal.returns-then-not-opens-2-clause-reads
returns-then-not-opens-2-clause-reads c =
    let u = c.in-Some.token.now in
    let us = c.in-Some.rest.now in
    rw c.in-Some.ensures.cases.0 (kind_subtype_closed c.args.parser.extent u us (u ∷ us) (sym c.symbol_in.ensures ∙ c.in-Subtype.is) (sym c.opens-in-Subtype.ensures ∙ c.if-not-opens-2.true) refl)

pub returns-then-not-opens-clause-reads : goal.returns-then-not-opens-clause-reads
returns-then-not-opens-clause-reads c =
    let u = c.in-Some.token.now in
    let us = c.in-Some.rest.now in
    rw c.in-Some.ensures.cases.0 (kind_type_closed c.args.parser.extent u us (u ∷ us) (sym c.symbol_in.ensures ∙ c.in-Type.is) (sym c.opens.ensures ∙ c.if-not-opens.true) refl)

pub returns-in_ok-exemption-in-Pragma-clause-reads : goal.returns-in_ok-exemption-in-Pragma-clause-reads
returns-in_ok-exemption-in-Pragma-clause-reads c =
    let x = c.args.parser.extent in
    let ts = c.args.tokens.now in
    let u = c.in-Some.token.now in
    let us = c.in-Some.rest.now in
    let is = sym c.symbol_in.ensures ∙ c.in-Pragma.is in
    let k = c.in_ok-exemption-in-Pragma in
    rw c.in-Some.ensures.cases.0 (kind_pragma x u us k.rest.now k.exemption is (rw c.in-Some.ensures.cases.0 at k.ensures.reads))

pub returns-in_ok-exemption-in-Pragma-clause-shorter : goal.returns-in_ok-exemption-in-Pragma-clause-shorter
returns-in_ok-exemption-in-Pragma-clause-shorter c = c.in_ok-exemption-in-Pragma.ensures.shorter

pub returns-else-not-opens-3-clause-reads : goal.returns-else-not-opens-3-clause-reads
returns-else-not-opens-3-clause-reads c =
    let x = c.args.parser.extent in
    let ts = c.args.tokens.now in
    let u = c.in-Some.token.now in
    let us = c.in-Some.rest.now in
    let is = sym c.symbol_in.ensures ∙ c.in-Identifier.is in
    as_well (Reads (read.named_by x) ts) (Reads (read.kind_by x) ts) c.named.result c.named.ensures.reads (λ q f. rw c.in-Some.ensures.cases.0 (kind_named x u us q is (sym c.opens-in-Identifier.ensures ∙ c.if-not-opens-3.false) (rw c.in-Some.ensures.cases.0 at f)))

pub returns-else-not-opens-3-clause-shorter : goal.returns-else-not-opens-3-clause-shorter
returns-else-not-opens-3-clause-shorter c = c.named.ensures.shorter

pub returns-else-not-opens-2-clause-reads : goal.returns-else-not-opens-2-clause-reads
returns-else-not-opens-2-clause-reads c =
    let x = c.args.parser.extent in
    let ts = c.args.tokens.now in
    let u = c.in-Some.token.now in
    let us = c.in-Some.rest.now in
    let is = sym c.symbol_in.ensures ∙ c.in-Subtype.is in
    as_well (Reads (read.subtype_by x) us) (Reads (read.kind_by x) ts) c.subtype_declaration.result c.subtype_declaration.ensures.reads (λ q f. rw c.in-Some.ensures.cases.0 (kind_subtype x u us q is (sym c.opens-in-Subtype.ensures ∙ c.if-not-opens-2.false) f))

pub returns-else-not-opens-2-clause-shorter : goal.returns-else-not-opens-2-clause-shorter
returns-else-not-opens-2-clause-shorter c = below_behind c.args.tokens.now c.in-Some.rest.now c.subtype_declaration.result (omega (arith, ap length c.in-Some.ensures.cases.0)) c.subtype_declaration.ensures.shorter

pub returns-else-not-opens-clause-reads : goal.returns-else-not-opens-clause-reads
returns-else-not-opens-clause-reads c =
    let x = c.args.parser.extent in
    let ts = c.args.tokens.now in
    let u = c.in-Some.token.now in
    let us = c.in-Some.rest.now in
    let is = sym c.symbol_in.ensures ∙ c.in-Type.is in
    as_well (Reads (read.type_by x) us) (Reads (read.kind_by x) ts) c.type_declaration.result c.type_declaration.ensures.reads (λ q f. rw c.in-Some.ensures.cases.0 (kind_type x u us q is (sym c.opens.ensures ∙ c.if-not-opens.false) f))

pub returns-else-not-opens-clause-shorter : goal.returns-else-not-opens-clause-shorter
returns-else-not-opens-clause-shorter c = below_behind c.args.tokens.now c.in-Some.rest.now c.type_declaration.result (omega (arith, ap length c.in-Some.ensures.cases.0)) c.type_declaration.ensures.shorter
