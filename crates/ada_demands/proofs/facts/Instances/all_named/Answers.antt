use Rattle.std.proofs.lemmas.Grind.{common_steps}
use Rattle.std.proofs.Common.{[], ◌∷◌, ◌++◌, ◌+◌, map, drop, option_map, append_assoc, sym, ap, ◌∙◌, arith}
use Rattle.std.proofs.lemmas.List.{map_push}
use Rattle.ada_tree.specs.Programs.{bounds_of}
use Rattle.ada_tree.specs.View.{choice_of}
use Rattle.ada_rules.specs.Statics.{all_named}
use Rattle.ada_demands.specs.ChoiceViews.{with_named}
use Rattle.ada_demands.proofs.ChoiceLaws.{one_named}
use Rattle.ada_demands.proofs.facts.Instances.all_named.Goals as goal

pub loop-choice-preserved-in_default : goal.loop-choice-preserved-in_default
loop-choice-preserved-in_default c =
    let instances = c.args.self.now in
    let cs = c.args.choices.now in
    let i = c.loop-choice.choice-index in
    let rest = all_named instances c.args.instance (map choice_of (drop (i + 1) cs)) in
    let step = one_named instances c.args.instance cs i _ (option_map bounds_of c.named.result) (omega arith) c.named.ensures in
    ap (λ bs. map bounds_of c.loop-choice.all.items ++ bs) (sym (step ∙ ap (λ o. with_named (option_map bounds_of o) rest) c.in_default.is))
    ∙ c.loop-choice.invariant

pub loop-choice-preserved : goal.loop-choice-preserved
loop-choice-preserved c =
    let instances = c.args.self.now in
    let cs = c.args.choices.now in
    let i = c.loop-choice.choice-index in
    let so_far = c.loop-choice.all.items in
    let rest = all_named instances c.args.instance (map choice_of (drop (i + 1) cs)) in
    let step = one_named instances c.args.instance cs i _ (option_map bounds_of c.named.result) (omega arith) c.named.ensures in
    ap (λ xs. map bounds_of xs ++ rest) c.in_ok-push.ensures.items
    ∙ (ap (λ l. l ++ rest) (map_push bounds_of so_far c.in-Some.range)
    ∙ (append_assoc (map bounds_of so_far) (bounds_of c.in-Some.range ∷ []) rest
    ∙ (ap (λ bs. map bounds_of so_far ++ bs) (sym (step ∙ ap (λ o. with_named (option_map bounds_of o) rest) c.in-Some.is))
    ∙ c.loop-choice.invariant)))

pub returns : goal.returns
returns c = grind (arith, common_steps)
