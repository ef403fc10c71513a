use Rattle.std.proofs.Common.{None, ap, length, sym, ◌∙◌, arith}
use Rattle.expression_parser.specs.declared.symbol.Symbol.TheVariants as symbol
use Rattle.expression_parser.specs.Shows.{Reads}
use Rattle.expression_parser.proofs.NameCode.{after_some}
use Rattle.declaration_parser.proofs.Closings.{below_behind}
use Rattle.ada_parser.specs.UnitDepth as at
use Rattle.ada_parser.proofs.Parts.{shown_so}
use Rattle.ada_parser.proofs.PackageCode.{is_package, is_instance, instance_closed}
use Rattle.ada_parser.proofs.packages.package_or_instance.Goals as goal

pub returns-in_default-clause-reads : goal.returns-in_default-clause-reads
returns-in_default-clause-reads c =
    let x = c.args.parser.extent in
    let ts = c.args.tokens.now in
    shown_so (λ z. z) (Reads (at.at_package x None c.args.name) ts) (Reads (at.at_package_or_instance x c.args.name) ts) c.package_rest.result c.package_rest.ensures.reads (λ q. is_package x c.args.name ts q (sym c.in_default.ensures))

pub returns-in_default-clause-shorter : goal.returns-in_default-clause-shorter
returns-in_default-clause-shorter c = c.package_rest.ensures.shorter

pub returns-then-not-opens-clause-reads : goal.returns-then-not-opens-clause-reads
returns-then-not-opens-clause-reads c = instance_closed c.args.parser.extent c.args.name c.args.tokens.now c.in-Some.after.now (sym c.in-Some.ensures) (sym c.opens.ensures ∙ c.if-not-opens.true)

pub returns-clause-reads : goal.returns-clause-reads
returns-clause-reads c =
    let x = c.args.parser.extent in
    let ts = c.args.tokens.now in
    let us = c.in-Some.after.now in
    shown_so (λ z. z) (Reads (at.at_instance x c.args.name) us) (Reads (at.at_package_or_instance x c.args.name) ts) c.instance.result c.instance.ensures.reads (λ q. is_instance x c.args.name ts us q (sym c.in-Some.ensures) (sym c.opens.ensures ∙ c.if-not-opens.false))

pub returns-clause-shorter : goal.returns-clause-shorter
returns-clause-shorter c =
    let ts = c.args.tokens.now in
    let us = c.in-Some.after.now in
    below_behind ts us c.instance.result (omega (arith, ap length (after_some symbol.New ts us (sym c.in-Some.ensures)).here)) c.instance.ensures.shorter
