use Rattle.std.proofs.Common.{◌≡◌, [], ◌++◌, ap, ◌∙◌, append-nil}
use Rattle.ada_rules.specs.Library.{clause_names, seen_more}
use Rattle.ada_library.specs.Seeing.{IsSeen}
use Rattle.ada_library.proofs.NameLaws.{kept}
use Rattle.ada_library.proofs.visible.seen.Goals as goal

pub returns : goal.returns
returns c =
    let u = c.args.unit.now in
    let withs : clause_names c.as_slice-clauses.result.now ++ [] ≡ clause_names u.withs =
    append-nil (clause_names c.as_slice-clauses.result.now) ∙ ap clause_names c.as_slice-clauses.ensures in
    kept (IsSeen c.args.library.now c.args.interfaces.now u c.args.entity) c.see_clauses-told.result c.see_clauses-told.new.region
    c.and.result c.and.ensures c.see_clauses-told.ensures
    (λ sees all k w l s. sees all k w l s [] ∙ (λ z. seen_more w l (withs z) (c.in_ok-region.ensures k z)))
