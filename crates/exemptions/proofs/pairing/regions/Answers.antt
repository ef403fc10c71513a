use Rattle.std.proofs.Common.{arith}
use Rattle.std.proofs.lemmas.Grind.{common_steps}
use Rattle.std.proofs.Common.{◌≡◌, ◌∙◌, List, Some, ap, sym, length}
use Rattle.exemptions.specs.declared.mark.Mark.{Mark}
use Rattle.exemptions.specs.declared.mark.Mark.TheVariants as mark
use Rattle.exemptions.specs.Marks.{mark_of, marks_of}
use Rattle.exemptions.specs.Regions.{paired}
use Rattle.exemptions.specs.Open.{paired_behind}
use Rattle.exemptions.proofs.Turns.{with_regions, with_regions-push, marks_of-front, all_done}
use Rattle.exemptions.proofs.Places.{regions_of-placed}
use Rattle.exemptions.proofs.pairing.regions.Goals as goal

pub loop-after-preserved : goal.loop-after-preserved
loop-after-preserved c =
    let done = c.loop-after.regions.items in
    let after = c.in-Some.after.now in
    let off = mark.Off c.in-Some-Off.to in
    let found : mark_of c.loop-after.rest.now ≡ Some off = cc c.in_ok-mark_at.ensures in
    let front = marks_of-front c.in-Some.field-0-0.now after c.loop-after.rest.now off c.in-Some.ensures.cases.0 found in
    rw c.in_ok-push-in-Some-Off.ensures.items
    (with_regions-push done c.in_ok-ended-in-Some-Off.field-0 (paired (marks_of after))
    ∙ ap (with_regions done) (sym (c.in_ok-ended-in-Some-Off.ensures (marks_of after)))
    ∙ ap (λ (ms : List Mark). with_regions done (paired_behind c.loop-after.opened ms)) (sym front)
    ∙ c.loop-after.invariant)

pub returns-clause-placed : goal.returns-clause-placed
returns-clause-placed c =
    let none : length c.loop-after.rest.now ≡ 0 = c.in_default.ensures.cases in
    let all = all_done c.loop-after.regions.items c.loop-after.opened c.loop-after.rest.now c.args.tokens.now c.loop-after.invariant none c.in_ok-closed.ensures in
    regions_of-placed c.args.tokens.now c.loop-after.regions.items all

pub returns-clause-regions : goal.returns-clause-regions
returns-clause-regions c = grind (arith, common_steps) steps 2000000

pub returns-in_err-closed-clause-fault : goal.returns-in_err-closed-clause-fault
returns-in_err-closed-clause-fault c = grind (arith, common_steps) steps 2000000
