use Rattle.std.proofs.Common.{◌&&◌, rules, refl}
use Rattle.object_format.specs.Order.{is_below}
use Rattle.object_format.specs.Fields.{region_key, is_clear_of}
use Rattle.std.proofs.lemmas.Fn.{always_returns_same}
use Rattle.object_format.proofs.Orders.{rises_answer}
use Rattle.object_format.proofs.checks.order.regions_rise.Goals as goal

pub returns : goal.returns
returns c = rises_answer (λ one next. is_below (region_key one) (region_key next) && is_clear_of one next) c.args.regions.now c.is_sorted_by.result (c.is_sorted_by.ensures.cases (λ one next. is_below (region_key one) (region_key next) && is_clear_of one next) (always_returns_same _ _ _ (λ a r g h. (search (rules, h), refl))))
