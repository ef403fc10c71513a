use Rattle.std.proofs.Common.{◌≡◌, [], ◌++◌, slice_get, sym, ap, ◌∙◌, append-nil}
use Rattle.ada_rules.specs.Library.{clause_names, seen_more}
use Rattle.ada_rules.specs.Units.{withs_of}
use Rattle.ada_library.specs.Seeing.{IsSeenInBody}
use Rattle.ada_library.proofs.NameLaws.{kept}
use Rattle.ada_library.proofs.visible.seen_in_body.Goals as goal

pub returns : goal.returns
returns c =
    let units = c.args.units.now in
    let n = c.args.package_unit in
    kept (IsSeenInBody c.args.library.now c.args.interfaces.now units n c.args.body.now) c.see_clauses-told.result
    c.see_clauses-told.new.region c.and.result c.and.ensures c.see_clauses-told.ensures
    (λ sees k w l s.
    let withs : clause_names c.withs_of-clauses.result.now ++ [] ≡ withs_of (slice_get l.units n) =
    append-nil (clause_names c.withs_of-clauses.result.now)
    ∙ (c.withs_of-clauses.ensures ∙ ap (λ us. withs_of (slice_get us n)) (sym s.library.of_units)) in
    sees units k w l s [] ∙ (λ z. seen_more w l (withs z) (c.in_ok-region.ensures units k w l s z)))
