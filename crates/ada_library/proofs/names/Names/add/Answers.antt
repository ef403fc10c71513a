use Rattle.std.proofs.Common.{◌≡◌, map, None, refl, sym, ap, ◌∙◌}
use Rattle.ada_rules.specs.Entities.{same_name}
use Rattle.ada_rules.specs.Library.{unit_named}
use Rattle.ada_library.specs.NameTable.{named_in}
use Rattle.ada_library.specs.NameView.{entry_of}
use Rattle.ada_library.proofs.Tables.{put, put_seen, added, none_there}
use Rattle.ada_library.proofs.NameLaws.{one_name}
use Rattle.ada_library.proofs.names.Names.add.Goals as goal

pub returns : goal.returns
returns c behind q =
    let own = c.args.name.items in
    let n = c.args.number in
    let old = c.args.self.now in
    let found = c.find.ensures ∙ ap (unit_named old) c.as_slice.ensures.value in
    let free : unit_named old own ≡ None = sym found ∙ none_there c.find.result (sym c.is_some.ensures ∙ c.if-is_some.false) in
    let whole =
    ap (λ es. map entry_of es) c.in_ok-insert.ensures.entries
    ∙ (put_seen (λ v. v.items) (λ a b. same_name a.items b.items) (same_name own) c.args.name (λ v. refl) n c.self.inside.table.entries
    ∙ ap (put (same_name own) own n) c.self.view_is) in
    ap (λ names. named_in names behind q) whole
    ∙ added same_name own own (one_name own) q n old (unit_named behind q) free
