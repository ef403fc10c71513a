use Rattle.command_words.proofs.ExampleLaws.{asks, exceeds, lacks}
use Rattle.command_words.proofs.examples.refused.Goals as goal

pub returns : goal.returns
returns c = record { asks = asks; lacks = lacks; exceeds = exceeds }
