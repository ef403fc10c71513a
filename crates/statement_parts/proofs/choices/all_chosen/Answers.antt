use Rattle.std.proofs.Common.{rules, [], ◌∷◌, ◌+◌, drop, map, Ok, sym, ap, ◌∙◌, arith}
use Rattle.std.proofs.lemmas.List.{map-append}
use Rattle.ada_tree.specs.View.{choice_of}
use Rattle.ada_rules.specs.Environment.{given}
use Rattle.ada_phrases.specs.Answers.{before}
use Rattle.ada_phrases.proofs.Parts.{refused_as}
use Rattle.object_values.specs.program_walk.specs.Places.{with_notes}
use Rattle.statement_parts.specs.Selectors.{selector_in}
use Rattle.statement_parts.proofs.Walks.{none_before, item_passes, item_refused, items_end}
use Rattle.statement_parts.proofs.ChoiceLaws.{one, all, choices_walk}
use Rattle.statement_parts.proofs.choices.all_chosen.Goals as goal

pub loop-choice-init : goal.loop-choice-init
loop-choice-init c p k env s h = rw c.new-found.ensures.items (none_before _)

pub returns-in_err-named : goal.returns-in_err-named
returns-in_err-named c p k env s h =
    let x = selector_in k c.args.selector.now in
    let r = refused_as _ _ c.in_err-named.field-0.0 (c.loop-choice.invariant p k env s h)
    (item_refused (one env x p) (λ d. d ∷ []) (all env x p) (choices_walk env x p) (with_notes k c.loop-choice.notes s) (map choice_of c.loop-choice.found.items)
    c.args.choices.now c.loop-choice.choice-index c.choice-item.result c.in_err-named.field-0.0 (omega arith) c.choice-item.is (c.in_err-named.ensures k env s h)) in
    search (rules, r)

pub loop-choice-preserved : goal.loop-choice-preserved
loop-choice-preserved c p k env s h =
    let x = selector_in k c.args.selector.now in
    let done = c.loop-choice.found.items in
    let i = c.loop-choice.choice-index in
    let d = given (choice_of c.in_ok-named.named) (with_notes k c.chosen.new.notes s) in
    c.loop-choice.invariant p k env s h
    ∙ (item_passes (one env x p) (λ d. d ∷ []) (all env x p) (choices_walk env x p) (with_notes k c.loop-choice.notes s) (map choice_of done)
    c.args.choices.now i c.choice-item.result d (omega arith) c.choice-item.is (c.in_ok-named.ensures k env s h)
    ∙ ap (λ xs. before xs (all env x p d.next (drop (i + 1) c.args.choices.now)))
    (sym (ap (map choice_of) c.in_ok-push.ensures.items ∙ map-append choice_of done (c.in_ok-named.named ∷ []))))

pub returns : goal.returns
returns c p k env s h =
    let x = selector_in k c.args.selector.now in
    let n = with_notes k c.loop-choice.notes s in
    c.loop-choice.invariant p k env s h
    ∙ (items_end (one env x p) (λ d. d ∷ []) (all env x p) (choices_walk env x p) n (map choice_of c.loop-choice.found.items) c.args.choices.now
    c.loop-choice.choice-index (omega arith)
    ∙ ap (λ cs. Ok (given (map choice_of cs) n)) (sym c.from.ensures))
