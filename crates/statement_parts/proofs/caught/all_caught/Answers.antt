use Rattle.std.proofs.Common.{rules, [], ◌∷◌, ◌+◌, drop, map, Ok, sym, ap, ◌∙◌, arith}
use Rattle.std.proofs.lemmas.List.{map-append}
use Rattle.ada_tree.specs.View.{exception_choice_of}
use Rattle.ada_rules.specs.Environment.{given}
use Rattle.ada_phrases.specs.Answers.{counted, before}
use Rattle.ada_phrases.proofs.Parts.{refused_as}
use Rattle.statement_parts.specs.Handlers.{may_be_others}
use Rattle.statement_parts.proofs.Walks.{none_before, item_passes, item_refused, items_end}
use Rattle.statement_parts.proofs.HandlerLaws.{one, all, choices_walk}
use Rattle.statement_parts.proofs.caught.all_caught.Goals as goal

pub loop-choice-init : goal.loop-choice-init
loop-choice-init c p k env s h = rw c.new-found.ensures.items (none_before _)

pub returns-in_err-taken : goal.returns-in_err-taken
returns-in_err-taken c p k env s h =
    let b = may_be_others c.args.place in
    let r = refused_as _ _ c.in_err-taken.field-0.0 (c.loop-choice.invariant p k env s h)
    (item_refused (one env b p) (λ d. d ∷ []) (all env b p) (choices_walk env b p) (counted c.loop-choice.decisions s)
    (map exception_choice_of c.loop-choice.found.items) c.args.choices.now c.loop-choice.choice-index c.choice-item.result c.in_err-taken.field-0.0 (omega arith)
    c.choice-item.is (c.in_err-taken.ensures k env s h)) in
    search (rules, r)

pub loop-choice-preserved : goal.loop-choice-preserved
loop-choice-preserved c p k env s h =
    let b = may_be_others c.args.place in
    let done = c.loop-choice.found.items in
    let i = c.loop-choice.choice-index in
    let d = given (exception_choice_of c.in_ok-taken.taken) (counted c.caught.new.decisions s) in
    c.loop-choice.invariant p k env s h
    ∙ (item_passes (one env b p) (λ d. d ∷ []) (all env b p) (choices_walk env b p) (counted c.loop-choice.decisions s) (map exception_choice_of done)
    c.args.choices.now i c.choice-item.result d (omega arith) c.choice-item.is (c.in_ok-taken.ensures k env s h)
    ∙ ap (λ xs. before xs (all env b p d.next (drop (i + 1) c.args.choices.now)))
    (sym (ap (map exception_choice_of) c.in_ok-push.ensures.items ∙ map-append exception_choice_of done (c.in_ok-taken.taken ∷ []))))

pub returns : goal.returns
returns c p k env s h =
    let b = may_be_others c.args.place in
    let n = counted c.loop-choice.decisions s in
    c.loop-choice.invariant p k env s h
    ∙ (items_end (one env b p) (λ d. d ∷ []) (all env b p) (choices_walk env b p) n (map exception_choice_of c.loop-choice.found.items) c.args.choices.now
    c.loop-choice.choice-index (omega arith)
    ∙ ap (λ cs. Ok (given (map exception_choice_of cs) n)) (sym c.from.ensures))
