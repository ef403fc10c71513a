use Rattle.std.proofs.Common.{ℕ, Vec, Global, ◌∙◌}
use Rattle.std.specs.Map.{lookup}
use Rattle.ada_rules.specs.Subprograms.{is_body}
use Rattle.ada_library.proofs.BodyLaws.{found_seen}
use Rattle.ada_library.proofs.NameLaws.{made}
use Rattle.ada_library.proofs.bodies.BodyNumbers.find.Goals as goal

pub returns : goal.returns
returns c =
    let names : Vec ℕ Global × Vec ℕ Global = c.in_ok-names.names in
    let first = made _ c.from_slice-package_name.result names.0 c.in_ok-names.ensures.first c.from_slice-package_name.ensures.items in
    let second = made _ c.from_slice.result names.1 c.in_ok-names.ensures.second c.from_slice.ensures.items in
    c.copied.ensures
    ∙ (c.get.ensures.value
    ∙ (found_seen c.self.inside.table.entries names
    ∙ (λ z. lookup (is_body (first z) (second z)) (c.self.view_is z).numbers)))
