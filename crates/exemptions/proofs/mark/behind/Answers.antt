use Rattle.std.proofs.Common.{◌∙◌, sym}
use Rattle.exemptions.proofs.Spellings.{behind_in-short, behind_in-turn, behind_in-all}
use Rattle.exemptions.proofs.mark.behind.Goals as goal

pub returns-in_err-token : goal.returns-in_err-token
returns-in_err-token c =
    rw c.from_residual.ensures (sym (behind_in-short c.args.spellings.now c.loop-spelling.spelling-index c.loop-spelling.rest.now c.loop-spelling-test.true c.in_err-token.ensures.cases) ∙ c.loop-spelling.invariant)

pub returns-then-not-is_spelled : goal.returns-then-not-is_spelled
returns-then-not-is_spelled c =
    let turn = behind_in-turn c.args.spellings.now c.loop-spelling.spelling-index _ c.in_ok-token.token.now c.in_ok-token.after.now c.loop-spelling.rest.now c.is_spelled.result c.loop-spelling-test.true c.in_ok-token.ensures.cases.0 c.is_spelled.ensures in
    sym (rw c.if-not-is_spelled.true at turn) ∙ c.loop-spelling.invariant

pub loop-spelling-preserved : goal.loop-spelling-preserved
loop-spelling-preserved c =
    let turn = behind_in-turn c.args.spellings.now c.loop-spelling.spelling-index _ c.in_ok-token.token.now c.in_ok-token.after.now c.loop-spelling.rest.now c.is_spelled.result c.loop-spelling-test.true c.in_ok-token.ensures.cases.0 c.is_spelled.ensures in
    sym (rw c.if-not-is_spelled.false at turn) ∙ c.loop-spelling.invariant

pub returns : goal.returns
returns c =
    behind_in-all c.args.spellings.now c.loop-spelling.spelling-index c.loop-spelling.rest.now c.loop-spelling-test.false ∙ c.loop-spelling.invariant
