use Rattle.std.proofs.Common.{ap, rules}
use Rattle.ada_rules.specs.Types.{type_in}
use Rattle.ada_rules.specs.Environment.{given}
use Rattle.ada_rules.specs.Entities.{subtype_seen}
use Rattle.ada_rules.specs.Declarations.{in_range}
use Rattle.ada_entities.specs.Views.{type_of, subtype_of}
use Rattle.program_walk.specs.Parts.{accepts_of, asks_of, valued_of}
use Rattle.program_walk.specs.Places.{with_notes}
use Rattle.program_walk.specs.declared.asks.Accepted.TheVariants as accepted
use Rattle.program_walk.specs.declared.asks.Asks.TheVariants as asks
use Rattle.specifications.specs.Actuals.{actuals_of}
use Rattle.specifications.proofs.ActualLaws.{fits_same}
use Rattle.specifications.proofs.PassingLaws.{object_refused, object_passes}
use Rattle.specifications.proofs.passing.InstanceWalk.object_actual.Goals as goal

pub returns-in_err-value : goal.returns-in_err-value
returns-in_err-value c e k env s h =
    let n = c.args.self.now.number in
    let xs = actuals_of k c.args.actuals.now in
    let t = subtype_of k.types c.args.formal in
    let r = object_refused env (with_notes k c.args.notes.now s) n xs t e c.args.expr.now
    (accepts_of k.types (accepted.Fitting c.type_seen.result)) (asks_of k (asks.Within c.range_seen.result))
    (fits_same (type_of k.types c.type_seen.result) (type_in (subtype_seen n xs t)) (c.type_seen.ensures.identity k) (c.type_seen.ensures.integer k))
    (ap in_range c.range_seen.ensures) c.in_err-value.field-0.0 (c.in_err-value.ensures k env s h) in
    search (rules, r)

pub returns : goal.returns
returns c e k env s h =
    let n = c.args.self.now.number in
    let xs = actuals_of k c.args.actuals.now in
    let t = subtype_of k.types c.args.formal in
    object_passes env (with_notes k c.args.notes.now s) n xs t e c.args.expr.now
    (accepts_of k.types (accepted.Fitting c.type_seen.result)) (asks_of k (asks.Within c.range_seen.result))
    (fits_same (type_of k.types c.type_seen.result) (type_in (subtype_seen n xs t)) (c.type_seen.ensures.identity k) (c.type_seen.ensures.integer k))
    (ap in_range c.range_seen.ensures) (given (valued_of k c.in_ok-value.value) (with_notes k c.static_part.new.notes s))
    (c.in_ok-value.ensures k env s h)
