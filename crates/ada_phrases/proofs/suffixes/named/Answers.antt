use Rattle.std.proofs.Common.{sym, ap, subst, option_map}
use Rattle.ada_rules.specs.Plan.{answer_at}
use Rattle.ada_rules.specs.Expressions.{named}
use Rattle.ada_entities.specs.Answers.{Refuses, refused_at}
use Rattle.ada_entities.specs.EntityViews.{entity_of}
use Rattle.ada_phrases.proofs.suffixes.named.Goals as goal

pub returns-in-None : goal.returns-in-None
returns-in-None c k s =
    subst (λ f. Refuses (answer_at c.args.pos (named s (option_map (entity_of k) c.args.found)).outcome) f) (sym c.refused.ensures)
    (refused_at (ap (λ o. answer_at c.args.pos (named s (option_map (entity_of k) o)).outcome) c.in-None.is))
