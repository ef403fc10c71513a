use Rattle.std.proofs.Common.{rules}
use Rattle.ada_phrases.specs.Answers.{counted}
use Rattle.statement_parts.proofs.TurnLaws.{mark_refused}
use Rattle.statement_parts.proofs.turns.turned.Goals as goal

pub returns-in_err-marked-in-Mark-clause-turned : goal.returns-in_err-marked-in-Mark-clause-turned
returns-in_err-marked-in-Mark-clause-turned c k env s h b =
    let r = mark_refused env (counted c.args.decisions.now s) c.in-Mark.name c.in_err-marked-in-Mark.field-0.0 (c.in_err-marked-in-Mark.ensures k env s h) in
    rw c.in-Mark.is (search (rules, r))

pub returns-in-Bounds-clause-turned : goal.returns-in-Bounds-clause-turned
returns-in-Bounds-clause-turned c k env s h b = rw c.in-Bounds.is (c.turned_between.ensures.turned k env s h b)
