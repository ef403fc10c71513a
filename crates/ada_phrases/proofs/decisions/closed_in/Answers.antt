use Rattle.std.proofs.Common.{sym, ap, ◌∙◌, option_map}
use Rattle.ada_tree.specs.View.{label_of}
use Rattle.ada_rules.specs.Environment.{given}
use Rattle.ada_judged.proofs.Tests.{ok_then}
use Rattle.ada_judged.specs.JudgedView.{judged_of}
use Rattle.ada_phrases.specs.Answers.{counted}
use Rattle.ada_phrases.specs.Closing.{closing_in}
use Rattle.ada_phrases.specs.Scopes.{step_of}
use Rattle.ada_phrases.proofs.decisions.closed_in.Goals as goal

pub returns-in-Typing : goal.returns-in-Typing
returns-in-Typing c =
    ok_then _ _ c.closed.result
    (λ x h k s u. h k s u
    ∙ ap (λ st. closing_in (step_of st) (option_map label_of c.args.label) c.args.pos (given (judged_of k c.args.value) (counted c.args.decisions.now s))) (sym c.in-Typing.is))
    c.closed.ensures
