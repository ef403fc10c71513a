use Rattle.std.proofs.Common.{rules, refl}
use Rattle.object_format.specs.Order.{is_below}
use Rattle.object_format.specs.Fields.{statement_key}
use Rattle.std.proofs.lemmas.Fn.{always_returns_same}
use Rattle.object_format.proofs.Orders.{rises_answer}
use Rattle.object_format.proofs.checks.order.statements_rise.Goals as goal

pub returns : goal.returns
returns c = rises_answer (λ one next. is_below (statement_key one) (statement_key next)) c.args.statements.now c.is_sorted_by.result (c.is_sorted_by.ensures.cases (λ one next. is_below (statement_key one) (statement_key next)) (always_returns_same _ _ _ (λ a r g h. (search (rules, h), refl))))
