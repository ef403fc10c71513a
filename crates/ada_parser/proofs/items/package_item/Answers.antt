use Rattle.std.proofs.Common.{◌≡◌, ◌<◌, false, length, rules, arith}
use Rattle.std.proofs.lemmas.Result.{err_from_is_err_and}
use Rattle.expression_parser.specs.declared.symbol.Symbol.TheVariants as symbol
use Rattle.expression_parser.specs.Shows.{Reads, next_is}
use Rattle.declaration_parser.specs.DeclarationReading.{specification_by, begins_declaration}
use Rattle.ada_parser.specs.UnitReading as read
use Rattle.ada_parser.proofs.Parts.{before_word, word_fails}
use Rattle.ada_parser.proofs.ItemCode.{item_specification, item_specification_fail, item_specification_open, package_item_rules}
use Rattle.ada_parser.proofs.items.package_item.Goals as goal

pub returns-in_err-declaration-clause-reads : goal.returns-in_err-declaration-clause-reads
returns-in_err-declaration-clause-reads c = grind (arith, package_item_rules)

pub returns-then-begins_declaration-clause-reads : goal.returns-then-begins_declaration-clause-reads
returns-then-begins_declaration-clause-reads c = grind (arith, package_item_rules)

pub returns-in_err-specification-clause-reads : goal.returns-in_err-specification-clause-reads
returns-in_err-specification-clause-reads c =
    let b : next_is begins_declaration c.args.tokens.now ≡ false = search rules in
    let p = err_from_is_err_and c.from_residual-in_err-specification.result c.from_residual-in_err-specification.ensures.1 in
    rw (p.1, p.2) (word_fails (λ z. z) (specification_by c.args.parser.extent) (λ n. n < length c.args.tokens.now) symbol.Semicolon c.args.tokens.now (Reads (read.package_item_by c.args.parser.extent) c.args.tokens.now) (λ rest h. item_specification_fail c.args.parser.extent c.args.tokens.now rest b h) c.specification.result c.in_err-specification.field-0.0 c.specification.ensures.reads c.specification.ensures.shorter c.in_err-specification.ensures (λ v us rest h l e. item_specification_open c.args.parser.extent c.args.tokens.now us rest v b h l e))

pub returns-in_err-specification-clause-shorter : goal.returns-in_err-specification-clause-shorter
returns-in_err-specification-clause-shorter c = rw ((err_from_is_err_and c.from_residual-in_err-specification.result c.from_residual-in_err-specification.ensures.1).1) tt

pub returns-clause-reads : goal.returns-clause-reads
returns-clause-reads c =
    let b : next_is begins_declaration c.args.tokens.now ≡ false = search rules in
    let w = before_word (λ z. z) (specification_by c.args.parser.extent) (λ n. n < length c.args.tokens.now) symbol.Semicolon c.args.tokens.now c.specification.result c.in_ok-specification.specification c.in_ok-specification.rest c.specification.ensures.reads c.specification.ensures.shorter c.in_ok-specification.ensures in
    item_specification c.args.parser.extent c.args.tokens.now w.before c.in_ok-specification.rest.now c.in_ok-specification.specification b w.reads w.near w.word

pub returns-clause-shorter : goal.returns-clause-shorter
returns-clause-shorter c =
    let w = before_word (λ z. z) (specification_by c.args.parser.extent) (λ n. n < length c.args.tokens.now) symbol.Semicolon c.args.tokens.now c.specification.result c.in_ok-specification.specification c.in_ok-specification.rest c.specification.ensures.reads c.specification.ensures.shorter c.in_ok-specification.ensures in
    omega (arith, w.near, w.word.shorter)
