use Rattle.kernel_ir.proofs.Shown.{values, operators, checks, words, components, composites, input, decisions, abandoned, loops, handlers, calls_of, depth, marks, within_limits}
use Rattle.kernel_ir.proofs.laws.worked_examples.Goals as goal

pub returns : goal.returns
returns c = record {
  values = values;
  operators = operators;
  checks = checks;
  words = words;
  components = components;
  composites = composites;
  input = input;
  decisions = decisions;
  abandoned = abandoned;
  loops = loops;
  handlers = handlers;
  calls = calls_of;
  depth = depth;
  marks = marks;
  within_limits = within_limits;
}
