use Rattle.std.proofs.Common.{◌∙◌, List, Some, get_or, sym, ap}
use Rattle.cov_base.specs.declared.obligations.Region.{Region}
use Rattle.annotated_report.proofs.Halving.{region_at, no_region}
use Rattle.annotated_report.proofs.Spelled.{item_at}
use Rattle.annotated_report.proofs.regions.Regions.round.Goals as goal

pub returns-in-Some : goal.returns-in-Some
returns-in-Some c =
    let regions : List Region = c.args.self.now in
    let number = c.in-Some.number in
    let region : Region = c.index-self-number.result in
    let is = c.index-self-number.is ∙ ap (λ (rs : List Region). get_or rs number region) c.self.view_is in
    sym (ap (λ (r : Region). Some r) c.index-self-number.is)
    ∙ sym (item_at regions number region c.in-Some.ensures.within is) ∙ region_at c.args.pos number regions (sym c.in-Some.ensures.number)

pub returns-in-None : goal.returns-in-None
returns-in-None c = sym (no_region c.args.pos 0 c.args.self.now (sym c.in-None.ensures.number))
