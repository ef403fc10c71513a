use Rattle.declaration_parser.specs.FormalReading as read
use Rattle.declaration_parser.proofs.Pairs.{as_well}
use Rattle.declaration_parser.proofs.Closings.{below_behind}
use Rattle.expression_parser.specs.Shows.{Reads}
use Rattle.std.proofs.Common.{ap, length, sym, ◌∙◌, arith}
use Rattle.declaration_parser.proofs.FormalCode.{form_rules, form_type, form_object, form_subprogram}
use Rattle.declaration_parser.proofs.generics.formal_form.Goals as goal

pub returns-in-Identifier-clause-reads : goal.returns-in-Identifier-clause-reads
returns-in-Identifier-clause-reads c =
    let x = c.args.parser.extent in
    let ts = c.args.tokens.now in
    let u = c.in-Some.token.now in
    let us = c.in-Some.rest.now in
    let is = sym c.symbol_in.ensures ∙ c.in-Identifier.is in
    as_well (Reads (read.formal_object_by x) ts) (Reads (read.formal_form x) ts) c.formal_object.result c.formal_object.ensures.reads (λ q f. rw c.in-Some.ensures.cases.0 (form_object x u us q is (rw c.in-Some.ensures.cases.0 at f)))

pub returns-in-Type-clause-reads : goal.returns-in-Type-clause-reads
returns-in-Type-clause-reads c =
    let x = c.args.parser.extent in
    let ts = c.args.tokens.now in
    let u = c.in-Some.token.now in
    let us = c.in-Some.rest.now in
    let is = sym c.symbol_in.ensures ∙ c.in-Type.is in
    as_well (Reads (read.formal_type_by) us) (Reads (read.formal_form x) ts) c.formal_type.result c.formal_type.ensures.reads (λ q f. rw c.in-Some.ensures.cases.0 (form_type x u us q is f))

pub returns-in-Type-clause-shorter : goal.returns-in-Type-clause-shorter
returns-in-Type-clause-shorter c = below_behind c.args.tokens.now c.in-Some.rest.now c.formal_type.result (omega (arith, ap length c.in-Some.ensures.cases.0)) c.formal_type.ensures.shorter

pub returns-in-With-clause-reads : goal.returns-in-With-clause-reads
returns-in-With-clause-reads c =
    let x = c.args.parser.extent in
    let ts = c.args.tokens.now in
    let u = c.in-Some.token.now in
    let us = c.in-Some.rest.now in
    let is = sym c.symbol_in.ensures ∙ c.in-With.is in
    as_well (Reads (read.formal_subprogram_by x) us) (Reads (read.formal_form x) ts) c.formal_subprogram.result c.formal_subprogram.ensures.reads (λ q f. rw c.in-Some.ensures.cases.0 (form_subprogram x u us q is f))

pub returns-in-With-clause-shorter : goal.returns-in-With-clause-shorter
returns-in-With-clause-shorter c = below_behind c.args.tokens.now c.in-Some.rest.now c.formal_subprogram.result (omega (arith, ap length c.in-Some.ensures.cases.0)) c.formal_subprogram.ensures.shorter

pub returns-in_default-clause-reads : goal.returns-in_default-clause-reads
returns-in_default-clause-reads c = grind (arith, form_rules)

pub returns-in_default-symbol_in : goal.returns-in_default-symbol_in
returns-in_default-symbol_in c = grind (arith, form_rules)

pub returns-in-Identifier-clause-shorter : goal.returns-in-Identifier-clause-shorter
returns-in-Identifier-clause-shorter c = c.formal_object.ensures.shorter
