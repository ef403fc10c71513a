use Rattle.std.proofs.Common.{rules}
use Rattle.ada_rules.specs.Environment.{given}
use Rattle.ada_phrases.specs.Scopes.{step_of}
use Rattle.ada_phrases.proofs.Parts.{answers_as}
use Rattle.program_walk.specs.Places.{with_notes}
use Rattle.program_walk.specs.Subtypes.{range_of, subtype_in}
use Rattle.program_walk.proofs.IndicationLaws.{bounds_refused, bounds_pass}
use Rattle.program_walk.proofs.place.Place.narrowed.Goals as goal

pub returns-in_err-range : goal.returns-in_err-range
returns-in_err-range c k env s h =
    let r = bounds_refused env (with_notes k c.args.notes.now s) (subtype_in k c.args.subtype) c.args.bounds.now c.args.pos
    c.in_err-range.field-0.0 (c.in_err-range.ensures k env s h) in
    search (rules, r)

pub returns : goal.returns
returns c k env s h =
    let n = with_notes k c.bounded.new.notes s in
    let x = given (range_of k c.in_ok-range.range) n in
    answers_as (λ t. given (subtype_in k t) n) _ _ c.constrained_mark.result
    (bounds_pass env (with_notes k c.args.notes.now s) (subtype_in k c.args.subtype) c.args.bounds.now c.args.pos x (step_of c.args.self.now.site.step)
    (c.in_ok-range.ensures k env s h) h.site.step)
    (c.constrained_mark.ensures k n)
