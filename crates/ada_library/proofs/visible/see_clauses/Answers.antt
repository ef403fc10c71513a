use Rattle.std.proofs.Common.{◌+◌, ◌++◌, drop, arith, sym, ap, ◌∙◌, append_assoc}
use Rattle.std.proofs.lemmas.List.{at_drop_all}
use Rattle.ada_rules.specs.Library.{clause_names, seen_more}
use Rattle.ada_entities.specs.EntityViews.{region_of}
use Rattle.ada_library.proofs.NameLaws.{drop_item}
use Rattle.ada_library.proofs.visible.see_clauses.Goals as goal

pub loop-clause-preserved : goal.loop-clause-preserved
loop-clause-preserved c all k w l s more =
    let clauses = c.args.clauses.now in
    let i = c.loop-clause.clause-index in
    let clause = c.clause-item.result in
    let others = clause_names (drop (i + 1) clauses) in
    let region = region_of k c.loop-clause.region in
    c.in_ok-see_names.ensures all k w l s (others ++ more)
    ∙ (ap (λ ns. seen_more w l (ns ++ (others ++ more)) region) c.as_slice.ensures
    ∙ (ap (λ ns. seen_more w l ns region) (sym (append_assoc clause.names others more))
    ∙ (sym (drop_item (λ ys. seen_more w l (clause_names ys ++ more) region) clauses i clause (omega arith) c.clause-item.is)
    ∙ c.loop-clause.invariant all k w l s more)))

pub returns : goal.returns
returns c all k w l s more =
    sym (at_drop_all (λ ys. seen_more w l (clause_names ys ++ more) (region_of k c.loop-clause.region)) c.args.clauses.now c.loop-clause.clause-index (omega arith))
    ∙ c.loop-clause.invariant all k w l s more
