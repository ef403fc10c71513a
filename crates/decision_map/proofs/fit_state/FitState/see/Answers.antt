use Rattle.std.proofs.Common.{rules, arith}
use Rattle.std.proofs.lemmas.Grind.{common_steps}
use Rattle.std.proofs.Common.{sym, subst, ◌∙◌, ◌++◌, ◌∷◌, []}
use Rattle.trace_format.specs.declared.trace.Block.{Block}
use Rattle.decision_map.specs.Seen.{HasSeen}
use Rattle.decision_map.proofs.SeenLaws.{given_block}
use Rattle.decision_map.proofs.fit_state.FitState.see.Goals as goal

pub returns-in-Block-clause-block : goal.returns-in-Block-clause-block
returns-in-Block-clause-block c = λ o object ending blocks block h is.
    subst (λ (x : Block). HasSeen o c.see_block.new.self object ending (blocks ++ x ∷ []) [])
    (given_block c.in-Block.start c.in-Block.last c.in-Block.flags block (sym c.in-Block.is ∙ is)) (c.see_block.ensures o object ending blocks h)

pub returns-in-Head : goal.returns-in-Head
returns-in-Head c = search rules

pub returns-in-Close : goal.returns-in-Close
returns-in-Close c = search rules

pub returns-in-Block-clause-history : goal.returns-in-Block-clause-history
returns-in-Block-clause-history c = grind (arith, common_steps)

pub returns-in-Block-clause-head : goal.returns-in-Block-clause-head
returns-in-Block-clause-head c = grind (arith, common_steps)
