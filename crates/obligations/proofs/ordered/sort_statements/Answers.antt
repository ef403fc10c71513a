use Rattle.std.proofs.Common.{rules}
use Rattle.std.proofs.lemmas.List.Sorted.{answers_always}
use Rattle.std.proofs.lemmas.Result.{on_ok_weaker}
use Rattle.obligations.specs.Ordered.{statement_place}
use Rattle.obligations.proofs.Places.{sorted_by_place}
use Rattle.obligations.proofs.ordered.sort_statements.Goals as goal

pub returns : goal.returns
returns c =
    on_ok_weaker c.sort_by_key.result
    (λ sorted. sorted_by_place statement_place c.args.entries.now.items c.sort_by_key.new.self.items
    (sorted statement_place (answers_always _ _ _ (λ f a r g h. search rules)))
    (c.sort_by_key.ensures.stable statement_place (answers_always _ _ _ (λ f a r g h. search rules))))
    c.sort_by_key.ensures.sorted
