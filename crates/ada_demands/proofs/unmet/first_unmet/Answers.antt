use Rattle.std.proofs.Common.{◌∷◌, ◌+◌, map, drop, sym, ap, ◌∙◌, subst, arith}
use Rattle.std.proofs.lemmas.List.{drop_more, at_drop_all}
use Rattle.ada_rules.specs.Statics.{unmet_behind}
use Rattle.ada_demands.specs.DemandViews.{demand_of, asked_of}
use Rattle.ada_demands.specs.Past.{past_at}
use Rattle.ada_demands.specs.SpanViews.{listed}
use Rattle.ada_demands.proofs.UnmetLaws.{Seen, nothing_seen, seen_more, seen_unmet}
use Rattle.ada_demands.proofs.unmet.first_unmet.Goals as goal

pub loop-next-init : goal.loop-next-init
loop-next-init c = nothing_seen c.args.instances.now (listed c.args.spans.now) c.args.asked.now (past_at c.new-history.result) c.new-history.ensures

pub returns-in-Some : goal.returns-in-Some
returns-in-Some c k b =
    let all = c.args.asked.now in
    let i = c.loop-next.next-index in
    let x = c.next-item.result in
    let past = past_at c.loop-next.history in
    let next = drop_more all i x (omega arith) ∙ ap (λ y. y ∷ drop (i + 1) all) (sym c.next-item.is) in
    seen_unmet c.args.instances.now (listed c.args.spans.now) all (drop (i + 1) all) past x c.in-Some.pos
    (subst (λ l. Seen c.args.instances.now (listed c.args.spans.now) all l past) next c.loop-next.invariant) k b
    (sym c.in-Some.is ∙ c.in_ok-pos.ensures k b)

pub loop-next-preserved : goal.loop-next-preserved
loop-next-preserved c =
    let all = c.args.asked.now in
    let i = c.loop-next.next-index in
    let x = c.next-item.result in
    let past = past_at c.loop-next.history in
    let next = drop_more all i x (omega arith) ∙ ap (λ y. y ∷ drop (i + 1) all) (sym c.next-item.is) in
    seen_more c.args.instances.now (listed c.args.spans.now) all (drop (i + 1) all) past (past_at c.add.new.self) x
    (subst (λ l. Seen c.args.instances.now (listed c.args.spans.now) all l past) next c.loop-next.invariant)
    c.in_ok-add.ensures (λ k b. sym c.in_default.is ∙ c.in_ok-pos.ensures k b)

pub returns : goal.returns
returns c k b =
    let seen = c.loop-next.invariant in
    sym (at_drop_all (λ l. unmet_behind c.args.instances.now (map (demand_of k) seen.before) seen.made (map (asked_of k) l)) c.args.asked.now
    c.loop-next.next-index (omega arith))
    ∙ seen.rest k b
