use Rattle.std.proofs.Common.{rules, refl}
use Rattle.object_format.specs.Order.{is_at_most}
use Rattle.object_format.specs.Fields.{decision_key}
use Rattle.std.proofs.lemmas.Fn.{always_returns_same}
use Rattle.object_format.proofs.Orders.{rises_answer}
use Rattle.object_format.proofs.checks.order.decisions_stay.Goals as goal

pub returns : goal.returns
returns c = rises_answer (λ one next. is_at_most (decision_key one) (decision_key next)) c.args.decisions.now c.is_sorted_by.result (c.is_sorted_by.ensures.cases (λ one next. is_at_most (decision_key one) (decision_key next)) (always_returns_same _ _ _ (λ a r g h. (search (rules, h), refl))))
