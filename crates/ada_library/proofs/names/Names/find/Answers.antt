use Rattle.std.proofs.Common.{refl, ap, ◌∙◌}
use Rattle.ada_rules.specs.Entities.{same_name}
use Rattle.ada_rules.specs.Library.{unit_named}
use Rattle.ada_library.proofs.Tables.{lookup_seen}
use Rattle.ada_library.proofs.names.Names.find.Goals as goal

pub returns : goal.returns
returns c =
    let name = c.args.name.now in
    c.copied.ensures
    ∙ (c.get.ensures.value
    ∙ (lookup_seen (λ v. v.items) (λ v. same_name name v.items) (same_name name) (λ v. refl) c.self.inside.table.entries
    ∙ ap (λ names. unit_named names name) c.self.view_is))
