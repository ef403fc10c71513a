use Rattle.std.proofs.Common.{ap, ◌∙◌}
use Rattle.ada_rules.specs.Limits.{length_of}
use Rattle.word_limits.proofs.ranges.length_in.Goals as goal

pub returns : goal.returns
returns c i at = c.length_of.ensures ∙ ap length_of (c.bounds.ensures ∙ c.in_ok-instance.ensures c.args.instances.now i at)
