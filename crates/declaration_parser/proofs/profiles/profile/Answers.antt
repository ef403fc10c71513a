use Rattle.std.proofs.Common.{ap, length, refl, sym, ◌∙◌, arith}
use Rattle.expression_parser.specs.declared.symbol.Symbol.TheVariants as symbol
use Rattle.expression_parser.proofs.NameCode.{after_some}
use Rattle.declaration_parser.proofs.Closings.{within_below, below_behind, closed_below}
use Rattle.declaration_parser.proofs.ProfileCode.{profile_none, profile_closed, profile_shows}
use Rattle.declaration_parser.proofs.profiles.profile.Goals as goal

pub returns-in_default-clause-reads : goal.returns-in_default-clause-reads
returns-in_default-clause-reads c = rw c.new.ensures.items (profile_none c.args.parser.extent c.args.tokens.now (sym c.in_default.ensures))

pub returns-then-not-opens-clause-reads : goal.returns-then-not-opens-clause-reads
returns-then-not-opens-clause-reads c =
    let ts = c.args.tokens.now in
    profile_closed c.args.parser.extent ts c.in-Some.after.now ts (sym c.in-Some.ensures) (sym c.opens.ensures ∙ c.if-not-opens.true) refl

pub returns-clause-reads : goal.returns-clause-reads
returns-clause-reads c =
    profile_shows c.args.parser.extent c.args.tokens.now c.in-Some.after.now c.parameters.result c.closed_by.result (λ v. v.items) (sym c.in-Some.ensures) (sym c.opens.ensures ∙ c.if-not-opens.false) c.parameters.ensures.reads c.parameters.ensures.shorter
    c.closed_by.ensures

pub returns-clause-no_longer : goal.returns-clause-no_longer
returns-clause-no_longer c =
    let ts = c.args.tokens.now in
    let us = c.in-Some.after.now in
    let r = c.closed_by.result in
    let l = ap length (after_some symbol.LeftParenthesis ts us (sym c.in-Some.ensures)).here in
    within_below ts r (below_behind ts us r (omega (arith, l)) (closed_below symbol.RightParenthesis us c.parameters.result r (within_below us c.parameters.result c.parameters.ensures.shorter) c.closed_by.ensures))
