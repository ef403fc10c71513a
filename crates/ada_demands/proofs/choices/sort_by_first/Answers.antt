use Rattle.std.proofs.Common.{rules}
use Rattle.std.proofs.lemmas.List.Sorted.{answers_always}
use Rattle.std.proofs.lemmas.Result.{on_ok_weaker}
use Rattle.ada_tree.specs.declared.types.Range.{Range}
use Rattle.ada_demands.proofs.ChoiceLaws.{sorted_by_first}
use Rattle.ada_demands.proofs.choices.sort_by_first.Goals as goal

pub returns : goal.returns
returns c =
    on_ok_weaker c.sort_by_key.result
    (λ sorted. sorted_by_first c.args.ranges.now.items c.sort_by_key.new.self.items
    (sorted (λ (r : Range). r.first) (answers_always _ _ _ (λ f a r g h. search rules)))
    (c.sort_by_key.ensures.stable (λ (r : Range). r.first) (answers_always _ _ _ (λ f a r g h. search rules))))
    c.sort_by_key.ensures.sorted
