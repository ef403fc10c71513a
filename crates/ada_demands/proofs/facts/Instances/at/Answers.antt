use Rattle.std.proofs.Common.{option_map, ap, ◌∙◌}
use Rattle.ada_demands.specs.FactViews.{facts_of, facts_in}
use Rattle.ada_demands.proofs.FactLaws.{seen_at}
use Rattle.ada_demands.proofs.facts.Instances.at.Goals as goal

pub returns : goal.returns
returns c =
    let n = c.args.number in
    ap (option_map facts_of) c.facts_at.ensures ∙ (seen_at c.as_slice.result.now n ∙ ap (λ xs. facts_in xs n) c.as_slice.ensures)
