use Rattle.std.proofs.Common.{rules}
use Rattle.ada_rules.specs.Environment.{given}
use Rattle.ada_entities.specs.EntityViews.{entity_of}
use Rattle.ada_phrases.specs.Answers.{counted}
use Rattle.ada_phrases.specs.DenotedView.{denotes}
use Rattle.ada_phrases.proofs.Parts.{answers_as}
use Rattle.ada_demands.specs.StaticsViews.{noted}
use Rattle.program_walk.specs.Places.{with_notes}
use Rattle.specifications.specs.Actuals.{actual_of, actuals_of}
use Rattle.specifications.proofs.PassingLaws.{name_refused, name_passes}
use Rattle.specifications.proofs.passing.InstanceWalk.named_actual.Goals as goal

pub returns-in_err-denoted : goal.returns-in_err-denoted
returns-in_err-denoted c k env s h =
    let n = c.args.notes.now in
    let r = name_refused env (with_notes k n s) c.args.self.now.number (actuals_of k c.args.actuals.now) (entity_of k c.args.formal) c.args.pos
    c.args.name.now c.in_err-denoted.field-0.0 (c.in_err-denoted.ensures k env (noted k n.statics s) h.site) in
    search (rules, r)

pub returns : goal.returns
returns c k env s h =
    let n = c.args.notes.now in
    let d = given (denotes k c.in_ok-denoted.denoted) (counted c.denoted.new.decisions (noted k n.statics s)) in
    answers_as (λ a. given (actual_of k a) d.next) _ _ c.for_name-actual.result
    (name_passes env (with_notes k n s) c.args.self.now.number (actuals_of k c.args.actuals.now) (entity_of k c.args.formal) c.args.pos c.args.name.now d
    (c.in_ok-denoted.ensures k env (noted k n.statics s) h.site))
    (c.for_name-actual.ensures k env d.next h)
