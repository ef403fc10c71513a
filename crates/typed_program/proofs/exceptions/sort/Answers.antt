use Rattle.std.proofs.Common.{rules}
use Rattle.std.proofs.lemmas.List.Sorted.{answers_always}
use Rattle.std.proofs.lemmas.Result.{on_ok_weaker}
use Rattle.typed_program.proofs.Orders.{sorted_listed}
use Rattle.typed_program.proofs.exceptions.sort.Goals as goal

pub returns : goal.returns
returns c =
    on_ok_weaker c.sort_by_key.result
    (λ sorted. sorted_listed c.args.listed.now.items c.sort_by_key.new.self.items
    (sorted (λ x. (x.outer, x.inner)) (answers_always _ _ _ (λ f a r g h. search rules)))
    (c.sort_by_key.ensures.stable (λ x. (x.outer, x.inner)) (answers_always _ _ _ (λ f a r g h. search rules))))
    c.sort_by_key.ensures.sorted
