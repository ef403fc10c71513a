use Rattle.std.proofs.Common.{sym, ◌∙◌, subst}
use Rattle.ada_library.specs.LibraryView.{IsNamed}
use Rattle.typed_program.specs.Entries.{IsBodyRole}
use Rattle.typed_program.proofs.EntryLaws.{named_role}
use Rattle.typed_program.proofs.unit_entries.body_role.Goals as goal

pub returns-in-Some : goal.returns-in-Some
returns-in-Some c =
    let x = c.args.library.now in
    let units = c.args.symbols.now.units in
    subst (IsBodyRole x units c.args.body.now) (sym c.text_role.ensures)
    (named_role x units c.args.body.now c.as_slice.result.now (c.as_slice.ensures.value ∙ c.in_ok-name.ensures) c.in-Some.package c.generic_of.result
    (subst (IsNamed x c.as_slice.result.now) c.in-Some.is c.unit_named.ensures) c.generic_of.ensures)
