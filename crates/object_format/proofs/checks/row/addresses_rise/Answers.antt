use Rattle.std.proofs.Common.{nat_lt, rules, refl}
use Rattle.std.proofs.lemmas.Fn.{always_returns_same}
use Rattle.object_format.proofs.Orders.{rises_answer}
use Rattle.object_format.proofs.checks.row.addresses_rise.Goals as goal

pub returns : goal.returns
returns c = rises_answer (λ one next. nat_lt one.address next.address) c.args.rows.now c.is_sorted_by.result (c.is_sorted_by.ensures.cases (λ one next. nat_lt one.address next.address) (always_returns_same _ _ _ (λ a r g h. (search (rules, h), refl))))
