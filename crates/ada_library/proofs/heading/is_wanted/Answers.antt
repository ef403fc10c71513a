use Rattle.std.proofs.Common.{◌&&◌, ap, sym, ◌∙◌}
use Rattle.ada_rules.specs.Library.{bodies_named, first_number, is_first_name}
use Rattle.ada_library.proofs.heading.is_wanted.Goals as goal

pub returns-then-wants_body : goal.returns-then-wants_body
returns-then-wants_body c l is =
    let name = c.args.name.now in
    let n = c.args.number in
    let first = c.is_first.ensures
    ∙ (ap (is_first_name n) (c.package_body.ensures c.args.units.now l is)
    ∙ ap (λ us. is_first_name n (first_number (bodies_named name 0 us))) (sym is.of_units)) in
    first ∙ ap (λ b. b && is_first_name n (first_number (bodies_named name 0 l.units))) (sym (sym (c.wants_body.ensures l is) ∙ c.if-wants_body.true))
