use Rattle.std.proofs.Common.{Ok, rules, sym, ap, ◌∙◌}
use Rattle.ada_rules.specs.Environment.{given}
use Rattle.ada_phrases.specs.Answers.{counted}
use Rattle.program_walk.specs.Exact.{exact}
use Rattle.program_walk.proofs.AlikeLaws.{denoted_same}
use Rattle.program_walk.proofs.StandingLaws.{known_alike}
use Rattle.program_walk.proofs.site.Site.denoted.Goals as goal

pub returns-in_err-denoted : goal.returns-in_err-denoted
returns-in_err-denoted c k env s h =
    let r = c.in_err-denoted.ensures (exact c.args.self.now.symbols.now k.spans) env s (c.scope.ensures k env h) in
    search (rules, r)

pub returns : goal.returns
returns c k env s h =
    let symbols = c.args.self.now.symbols.now in
    c.in_ok-denoted.ensures (exact symbols k.spans) env s (c.scope.ensures k env h)
    ∙ ap (λ x. Ok (given x (counted c.denoted.new.decisions s)))
    (denoted_same (known_alike symbols h.units.known k h.units.begins) c.in_ok-denoted.denoted
    (sym c.knows_denoted.ensures ∙ c.if-not-knows_denoted.false))
