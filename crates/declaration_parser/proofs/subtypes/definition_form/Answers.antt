use Rattle.std.proofs.lemmas.Result.{err_from_is_err_and}
use Rattle.expression_parser.proofs.Faults.{handed_on}
use Rattle.declaration_parser.specs.SubtypeReading as read
use Rattle.declaration_parser.proofs.Pairs.{as_well}
use Rattle.declaration_parser.proofs.Closings.{below_behind}
use Rattle.expression_parser.specs.Shows.{Reads}
use Rattle.std.proofs.Common.{ap, length, sym, ◌∙◌, arith}
use Rattle.declaration_parser.proofs.SubtypeCode.{definition_form_rules, definition_enumeration, definition_array, definition_record, definition_integer, definition_integer_fails}
use Rattle.declaration_parser.proofs.subtypes.definition_form.Goals as goal

pub returns-in-Array-clause-reads : goal.returns-in-Array-clause-reads
returns-in-Array-clause-reads c =
    let x = c.args.parser.extent in
    let ts = c.args.tokens.now in
    let u = c.in-Some.token.now in
    let us = c.in-Some.rest.now in
    let is = sym c.symbol_in.ensures ∙ c.in-Array.is in
    as_well (Reads (read.array_by x) us) (Reads (read.definition_form x) ts) c.array.result c.array.ensures.reads (λ q f. rw c.in-Some.ensures.cases.0 (definition_array x u us q is f))

pub returns-in-Array-clause-shorter : goal.returns-in-Array-clause-shorter
returns-in-Array-clause-shorter c = below_behind c.args.tokens.now c.in-Some.rest.now c.array.result (omega (arith, ap length c.in-Some.ensures.cases.0)) c.array.ensures.shorter

pub returns-in-LeftParenthesis-clause-reads : goal.returns-in-LeftParenthesis-clause-reads
returns-in-LeftParenthesis-clause-reads c =
    let x = c.args.parser.extent in
    let ts = c.args.tokens.now in
    let u = c.in-Some.token.now in
    let us = c.in-Some.rest.now in
    let is = sym c.symbol_in.ensures ∙ c.in-LeftParenthesis.is in
    as_well (Reads (read.enumeration_by) us) (Reads (read.definition_form x) ts) c.enumeration.result c.enumeration.ensures.reads (λ q f. rw c.in-Some.ensures.cases.0 (definition_enumeration x u us q is f))

pub returns-in-LeftParenthesis-clause-shorter : goal.returns-in-LeftParenthesis-clause-shorter
returns-in-LeftParenthesis-clause-shorter c = below_behind c.args.tokens.now c.in-Some.rest.now c.enumeration.result (omega (arith, ap length c.in-Some.ensures.cases.0)) c.enumeration.ensures.shorter

pub returns-in-Record-clause-reads : goal.returns-in-Record-clause-reads
returns-in-Record-clause-reads c =
    let x = c.args.parser.extent in
    let ts = c.args.tokens.now in
    let u = c.in-Some.token.now in
    let us = c.in-Some.rest.now in
    let is = sym c.symbol_in.ensures ∙ c.in-Record.is in
    as_well (Reads (read.record_by x) us) (Reads (read.definition_form x) ts) c.components_to_end.result c.components_to_end.ensures.reads (λ q f. rw c.in-Some.ensures.cases.0 (definition_record x u us q is f))

pub returns-in-Record-clause-shorter : goal.returns-in-Record-clause-shorter
returns-in-Record-clause-shorter c = below_behind c.args.tokens.now c.in-Some.rest.now c.components_to_end.result (omega (arith, ap length c.in-Some.ensures.cases.0)) c.components_to_end.ensures.shorter

pub returns-in_default-clause-reads : goal.returns-in_default-clause-reads
returns-in_default-clause-reads c = grind (arith, definition_form_rules)

pub returns-in_default-symbol_in : goal.returns-in_default-symbol_in
returns-in_default-symbol_in c = grind (arith, definition_form_rules)

pub returns-in_err-bounds-in-Range-clause-reads : goal.returns-in_err-bounds-in-Range-clause-reads
returns-in_err-bounds-in-Range-clause-reads c =
    let x = c.args.parser.extent in
    let ts = c.args.tokens.now in
    let u = c.in-Some.token.now in
    let us = c.in-Some.rest.now in
    let is = sym c.symbol_in.ensures ∙ c.in-Range.is in
    let p = err_from_is_err_and c.from_residual.result c.from_residual.ensures.1 in
    rw (p.1, p.2) (handed_on (Reads (read.definition_form x) ts) (Reads (read.bounds_by x) us) c.in_err-bounds-in-Range.field-0.0 c.in_err-bounds-in-Range.ensures.reads (λ rest h. rw c.in-Some.ensures.cases.0 (definition_integer_fails x u us rest is h)))

pub returns-in_err-bounds-in-Range-clause-shorter : goal.returns-in_err-bounds-in-Range-clause-shorter
returns-in_err-bounds-in-Range-clause-shorter c = rw ((err_from_is_err_and c.from_residual.result c.from_residual.ensures.1).1) tt

pub returns-in_ok-bounds-in-Range-clause-reads : goal.returns-in_ok-bounds-in-Range-clause-reads
returns-in_ok-bounds-in-Range-clause-reads c =
    let x = c.args.parser.extent in
    let ts = c.args.tokens.now in
    let u = c.in-Some.token.now in
    let us = c.in-Some.rest.now in
    let is = sym c.symbol_in.ensures ∙ c.in-Range.is in
    let k = c.in_ok-bounds-in-Range in
    rw c.in-Some.ensures.cases.0 (definition_integer x u us k.rest.now k.bounds is k.ensures.reads)

pub returns-in_ok-bounds-in-Range-clause-shorter : goal.returns-in_ok-bounds-in-Range-clause-shorter
returns-in_ok-bounds-in-Range-clause-shorter c = omega (arith, ap length c.in-Some.ensures.cases.0, c.in_ok-bounds-in-Range.ensures.shorter)
