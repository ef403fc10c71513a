-- Of want of memory nothing is said.
use Rattle.ada_entities.specs.Answers.{no_memory}

pub ruleset parts = (no_memory)
