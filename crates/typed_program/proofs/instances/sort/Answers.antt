use Rattle.std.proofs.Common.{rules}
use Rattle.std.proofs.lemmas.List.Sorted.{answers_always}
use Rattle.std.proofs.lemmas.Result.{on_ok_weaker}
use Rattle.ada_tree.specs.declared.program.Instance.{Instance}
use Rattle.obligations.proofs.Places.{sorted_by_place}
use Rattle.typed_program.proofs.instances.sort.Goals as goal

pub returns : goal.returns
returns c =
    on_ok_weaker c.sort_by_key.result
    (λ sorted. sorted_by_place (λ (i : Instance). i.place) c.args.instances.now.items c.sort_by_key.new.self.items
    (sorted (λ x. x.place) (answers_always _ _ _ (λ f a r g h. search rules)))
    (c.sort_by_key.ensures.stable (λ x. x.place) (answers_always _ _ _ (λ f a r g h. search rules))))
    c.sort_by_key.ensures.sorted
