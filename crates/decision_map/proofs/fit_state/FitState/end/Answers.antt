use Rattle.std.proofs.Common.{◌∙◌}
use Rattle.decision_map.proofs.SeenLaws.{end_is}
use Rattle.decision_map.proofs.fit_state.FitState.end.Goals as goal

pub returns-in-Some : goal.returns-in-Some
returns-in-Some c = λ o t h is.
    c.in-Some.ensures ∙ rw (c.either-found-2.ensures, c.either.ensures, c.either-found.ensures) (end_is o c.args.self.now t h is)

pub returns-in-None : goal.returns-in-None
returns-in-None c = λ o t h is.
    c.in-None.ensures ∙ rw (c.either-found-2.ensures, c.either.ensures, c.either-found.ensures) (end_is o c.args.self.now t h is)
