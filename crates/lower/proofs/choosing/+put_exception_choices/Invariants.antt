use Rattle.std.proofs.Common.{length}
use Rattle.lower.proofs.choosing.+put_exception_choices.Given as goal

abbrev pub decreases-put_exception_choices : goal.decreases-put_exception_choices
decreases-put_exception_choices l = length l.choices.now
