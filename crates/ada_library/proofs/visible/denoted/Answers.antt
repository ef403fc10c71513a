use Rattle.std.proofs.Common.{Some, sym, ap, ◌∙◌}
use Rattle.ada_library.proofs.SeenLaws.{denotes_unit}
use Rattle.ada_library.proofs.visible.denoted.Goals as goal

pub returns-in-Some : goal.returns-in-Some
returns-in-Some c all k w l s i e =
    ap (λ x. Some x) (c.entity.ensures k s.actuals w s.interfaces)
    ∙ denotes_unit w l i c.args.name.now e (Some c.in-Some.unit) (sym c.is_test_io.ensures ∙ c.if-is_test_io.false)
    (sym c.in-Some.is ∙ c.unit_named.ensures all l s.library)
