use Rattle.std.proofs.Common.{Ok, rules, sym, ap, ◌∙◌}
use Rattle.ada_rules.specs.Environment.{given}
use Rattle.ada_phrases.specs.Answers.{counted}
use Rattle.program_walk.specs.Exact.{exact}
use Rattle.program_walk.proofs.AlikeLaws.{judged_same}
use Rattle.program_walk.proofs.StandingLaws.{known_alike}
use Rattle.program_walk.proofs.site.Site.judged.Goals as goal

pub returns-in_err-value : goal.returns-in_err-value
returns-in_err-value c k env s h =
    let r = c.in_err-value.ensures (exact c.args.self.now.symbols.now k.spans) env s (c.scope.ensures k env h) in
    search (rules, r)

pub returns : goal.returns
returns c k env s h =
    let symbols = c.args.self.now.symbols.now in
    c.in_ok-value.ensures (exact symbols k.spans) env s (c.scope.ensures k env h)
    ∙ ap (λ x. Ok (given x (counted c.judged.new.decisions s)))
    (judged_same (known_alike symbols h.units.known k h.units.begins).typed c.in_ok-value.value
    (sym c.knows_judged.ensures ∙ c.if-not-knows_judged.false))
