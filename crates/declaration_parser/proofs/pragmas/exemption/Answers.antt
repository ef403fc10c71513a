use Rattle.expression_parser.specs.declared.symbol.Symbol.TheVariants as symbol
use Rattle.expression_parser.specs.Symbols.{symbol_of}
use Rattle.expression_parser.specs.Shows.{Reads}
use Rattle.declaration_parser.specs.Spelling.{exempt_on, exempt_off, is_spelled}
use Rattle.declaration_parser.specs.DeclarationReading as read
use Rattle.declaration_parser.proofs.Closings.{below_behind}
use Rattle.declaration_parser.proofs.Pairs.{as_well}
use Rattle.std.proofs.Common.{◌≡◌, true, false, ap, sym, ◌∙◌, length, rules, arith}
use Rattle.declaration_parser.proofs.PragmaCode.{exemption_on, exemption_off, exemption_rules}
use Rattle.declaration_parser.proofs.pragmas.exemption.Goals as goal

pub returns-clause-reads : goal.returns-clause-reads
returns-clause-reads c = grind (arith, exemption_rules)

pub returns-in_default-clause-reads : goal.returns-in_default-clause-reads
returns-in_default-clause-reads c = grind (arith, exemption_rules)

pub returns-then-is_spelled-2-clause-reads : goal.returns-then-is_spelled-2-clause-reads
returns-then-is_spelled-2-clause-reads c =
    let ts = c.args.tokens.now in
    let u = c.in-Some.token.now in
    let us = c.in-Some.rest.now in
    let i : symbol_of u.lexeme ≡ symbol.Identifier = search rules in
    let o : is_spelled exempt_on u ≡ false = sym c.is_spelled.ensures ∙ c.if-is_spelled.false in
    let k : is_spelled exempt_off u ≡ true = sym c.is_spelled-2.ensures ∙ c.if-is_spelled-2.true in
    as_well (Reads (λ m. read.off_by) us) (Reads (λ m. read.exemption_by) ts) c.exempt_off.result c.exempt_off.ensures.reads (λ q f. rw c.in-Some.ensures.cases.0 (exemption_off u us q i o k f))

pub returns-then-is_spelled-2-clause-shorter : goal.returns-then-is_spelled-2-clause-shorter
returns-then-is_spelled-2-clause-shorter c = below_behind c.args.tokens.now c.in-Some.rest.now c.exempt_off.result (omega (arith, ap length c.in-Some.ensures.cases.0)) c.exempt_off.ensures.shorter

pub returns-then-is_spelled-clause-reads : goal.returns-then-is_spelled-clause-reads
returns-then-is_spelled-clause-reads c =
    let ts = c.args.tokens.now in
    let u = c.in-Some.token.now in
    let us = c.in-Some.rest.now in
    let i : symbol_of u.lexeme ≡ symbol.Identifier = search rules in
    let o : is_spelled exempt_on u ≡ true = sym c.is_spelled.ensures ∙ c.if-is_spelled.true in
    as_well (Reads (λ m. read.on_by) us) (Reads (λ m. read.exemption_by) ts) c.exempt_on.result c.exempt_on.ensures.reads (λ q f. rw c.in-Some.ensures.cases.0 (exemption_on u us q i o f))

pub returns-then-is_spelled-clause-shorter : goal.returns-then-is_spelled-clause-shorter
returns-then-is_spelled-clause-shorter c = below_behind c.args.tokens.now c.in-Some.rest.now c.exempt_on.result (omega (arith, ap length c.in-Some.ensures.cases.0)) c.exempt_on.ensures.shorter

pub returns-then-ne-clause-reads : goal.returns-then-ne-clause-reads
returns-then-ne-clause-reads c = grind (arith, exemption_rules)
