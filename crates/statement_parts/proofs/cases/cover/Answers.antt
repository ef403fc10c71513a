use Rattle.std.proofs.Common.{◌≡◌, true, false, Ok, map, sym, ap, ◌∙◌}
use Rattle.ada_tree.specs.View.{choice_of}
use Rattle.ada_rules.specs.Statics.{covers}
use Rattle.ada_rules.specs.Environment.{demanded}
use Rattle.ada_rules.specs.Statements.{has_others, ends_with_others}
use Rattle.ada_entities.specs.EntityViews.{values_of}
use Rattle.ada_demands.specs.StaticsViews.{noted}
use Rattle.statement_parts.specs.Cases.{arms_in}
use Rattle.statement_parts.proofs.CaseLaws.{cover_refused, cover_passes}
use Rattle.statement_parts.proofs.cases.cover.Goals as goal

pub returns-then-not-ends_with_others : goal.returns-then-not-ends_with_others
returns-then-not-ends_with_others c k env s g =
    let arms = arms_in k c.args.alternatives.now in
    let ends : ends_with_others arms ≡ false = sym (c.ends_with_others.ensures k) ∙ c.if-not-ends_with_others.true in
    rw c.refused.ensures (cover_refused env (noted k c.args.statics.now s) c.args.pos (values_of k c.args.values) arms ends)

pub returns : goal.returns
returns c k env s g =
    let p = c.args.pos in
    let arms = arms_in k c.args.alternatives.now in
    let old = noted k c.args.statics.now s in
    let ends : ends_with_others arms ≡ true = sym (c.ends_with_others.ensures k) ∙ c.if-not-ends_with_others.false in
    let named = c.in_ok-choices.ensures k in
    let others = c.others_among-others.ensures ∙ (ap (λ xs. has_others (map choice_of xs)) c.as_slice.ensures ∙ ap has_others named) in
    let made = c.in_ok-demand.ensures k env s g ∙ (λ z. demanded env p (covers (values_of k c.args.values) (others z) (named z)) old) in
    cover_passes env old p (values_of k c.args.values) arms ends ∙ (λ z. Ok (sym made z))
