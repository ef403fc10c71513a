use Rattle.std.proofs.Common.{◌≡◌, ℕ, ◌+◌, ◌∷◌, Vec, Global, is_some, option_copied, sym, ap, ◌∙◌, rules}
use Rattle.ada_library.specs.BodyView.{name_of, table_of}
use Rattle.ada_library.specs.BodyNumbering.{body_named, number_in}
use Rattle.ada_library.proofs.NameLaws.{made}
use Rattle.ada_library.proofs.Tables.{none_there}
use Rattle.ada_library.proofs.BodyLaws.{copied_some, there_before, put_last}
use Rattle.ada_library.proofs.bodies.BodyNumbers.add.Goals as goal

pub returns-then-is_some : goal.returns-then-is_some
returns-then-is_some c behind unit name =
    let entries = c.self.inside.table.entries in
    let count = c.self.inside.count in
    let next = c.in_ok-self-inside.field-0 in
    let counted : next ≡ count + 1 = search rules in
    let names : Vec ℕ Global × Vec ℕ Global = c.in_ok-names.names in
    let body : name_of names ≡ body_named c.args.package_name.now c.args.name.now =
    (λ z. record {
      package_name = made _ c.key.result names.0 c.in_ok-names.ensures.first c.key.ensures z;
      name = made _ c.key-2.result names.1 c.in_ok-names.ensures.second c.key-2.ensures z;
    }) in
    let there = ap is_some (sym c.get.ensures.value) ∙ (copied_some c.get.result ∙ (sym c.is_some.ensures ∙ c.if-is_some.true)) in
    there_before entries names count next counted behind unit name there
    ∙ (λ z. number_in (c.self.view_is z) (body z ∷ behind) unit name)

pub returns : goal.returns
returns c behind unit name =
    let entries = c.self.inside.table.entries in
    let count = c.self.inside.count in
    let next = c.in_ok-self-inside.field-0 in
    let counted : next ≡ count + 1 = search rules in
    let names : Vec ℕ Global × Vec ℕ Global = c.in_ok-names.names in
    let body : name_of names ≡ body_named c.args.package_name.now c.args.name.now =
    (λ z. record {
      package_name = made _ c.key.result names.0 c.in_ok-names.ensures.first c.key.ensures z;
      name = made _ c.key-2.result names.1 c.in_ok-names.ensures.second c.key-2.ensures z;
    }) in
    let new = sym c.get.ensures.value ∙ ap option_copied (none_there c.get.result (sym c.is_some.ensures ∙ c.if-is_some.false)) in
    ap (λ es. number_in (table_of es next) behind unit name) c.in_ok-insert.ensures.entries
    ∙ (put_last entries names count next counted behind unit name new
    ∙ (λ z. number_in (c.self.view_is z) (body z ∷ behind) unit name))
