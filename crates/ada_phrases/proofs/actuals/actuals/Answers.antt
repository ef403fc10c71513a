use Rattle.std.proofs.Common.{◌≡◌, ◌+◌, Some, ◌∷◌, drop, length, map, option_map, sym, ap, ◌∙◌, arith, rules}
use Rattle.std.proofs.lemmas.List.{at_drop_more, at_drop_all}
use Rattle.ada_tree.specs.View.{owner_of}
use Rattle.ada_rules.specs.Denoted.{actuals_for}
use Rattle.ada_phrases.specs.Actuals.{with_actuals, left_of, parameter_as}
use Rattle.ada_phrases.proofs.Local.{mapped_more, with_none, empty_left}
use Rattle.ada_phrases.proofs.actuals.actuals.Goals as goal

pub loop-parameter-preserved : goal.loop-parameter-preserved
loop-parameter-preserved c k h =
    let o = owner_of c.args.seen in
    let ps = c.args.parameters.now in
    let i = c.loop-parameter.parameter-index in
    let q = c.parameter-item.result in
    let done = c.loop-parameter.actuals.items in
    let old = c.loop-parameter.values.items in
    let rest = actuals_for (map (parameter_as k o) (drop (i + 1) ps)) (left_of k c.next_actual.new.values.items) in
    c.loop-parameter.invariant k h
    ∙ (at_drop_more (λ qs. option_map (with_actuals done) (actuals_for (map (parameter_as k o) qs) (left_of k old))) ps i q (omega arith)
    ∙ (ap (λ x. option_map (with_actuals done) (actuals_for (parameter_as k o x ∷ map (parameter_as k o) (drop (i + 1) ps)) (left_of k old))) (sym c.parameter-item.is)
    ∙ (ap (option_map (with_actuals done)) (c.in-Some.ensures k (map (parameter_as k o) (drop (i + 1) ps)) h)
    ∙ (mapped_more done c.in-Some.actual rest ∙ ap (λ xs. option_map (with_actuals xs) rest) (sym c.in_ok-push.ensures.items)))))

pub returns-then-is_empty : goal.returns-then-is_empty
returns-then-is_empty c k h =
    let o = owner_of c.args.seen in
    let ps = c.args.parameters.now in
    let done = c.loop-parameter.actuals.items in
    let left = c.loop-parameter.values.items in
    let none : length left ≡ 0 = search rules in
    sym (c.loop-parameter.invariant k h
    ∙ (at_drop_all (λ qs. option_map (with_actuals done) (actuals_for (map (parameter_as k o) qs) (left_of k left))) ps c.loop-parameter.parameter-index (omega arith)
    ∙ (ap (option_map (with_actuals done)) (empty_left k left none) ∙ ap (λ x. Some x) (with_none done))))
