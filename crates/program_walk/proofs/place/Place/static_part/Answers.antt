use Rattle.std.proofs.Common.{Ok, sym, ap, ◌∙◌, rules}
use Rattle.ada_rules.specs.Environment.{given}
use Rattle.ada_phrases.specs.ada_judged.specs.JudgedView.{judged_of}
use Rattle.ada_phrases.specs.Answers.{counted}
use Rattle.ada_phrases.specs.Scopes.{step_of}
use Rattle.ada_phrases.proofs.Parts.{answers_as}
use Rattle.ada_demands.specs.StaticsViews.{noted}
use Rattle.program_walk.specs.Places.{with_notes}
use Rattle.program_walk.specs.Parts.{accepts_of, asks_of, valued_of}
use Rattle.program_walk.proofs.PartLaws.{refused_there, named_there, typed_there}
use Rattle.program_walk.proofs.place.Place.static_part.Goals as goal

pub returns-in_err-value : goal.returns-in_err-value
returns-in_err-value c k env s h =
    let n = c.args.notes.now in
    let r = refused_there env (with_notes k n s) (accepts_of k.types c.args.accepted) (asks_of k c.args.asks) c.args.expr.now c.in_err-value.field-0.0
    (c.in_err-value.ensures k env (noted k n.statics s) h.site) in
    search (rules, r)

pub returns-in-Naming : goal.returns-in-Naming
returns-in-Naming c k env s h =
    let n = c.args.notes.now in
    let x = given (judged_of k c.in_ok-value.value) (counted c.judged.new.decisions (noted k n.statics s)) in
    named_there env (with_notes k n s) (accepts_of k.types c.args.accepted) (asks_of k c.args.asks) c.args.expr.now x
    (c.in_ok-value.ensures k env (noted k n.statics s) h.site) (h.site.step ∙ ap step_of c.in-Naming.is)
    ∙ ap (λ v. Ok (given v x.next)) (sym (c.any.ensures k))

pub returns-in-Typing : goal.returns-in-Typing
returns-in-Typing c k env s h =
    let n = c.args.notes.now in
    let x = given (judged_of k c.in_ok-value.value) (counted c.judged.new.decisions (noted k n.statics s)) in
    answers_as (λ v. given (valued_of k v) (noted k c.demanded.new.statics (counted c.judged.new.decisions s))) _ _ c.demanded.result
    (typed_there env (with_notes k n s) (accepts_of k.types c.args.accepted) (asks_of k c.args.asks) c.args.expr.now x
    (c.in_ok-value.ensures k env (noted k n.statics s) h.site) (h.site.step ∙ ap step_of c.in-Typing.is))
    (rw (sym c.pos-pos.ensures) (c.demanded.ensures k env (counted c.judged.new.decisions s) h.generic h.instances))
