use Rattle.std.proofs.Common.{ap, ◌∙◌, sym}
use Rattle.std.proofs.lemmas.Result.{err_from_is_err_and}
use Rattle.program_objects.proofs.Pairing.{pragmas_are}
use Rattle.program_objects.proofs.RegionFields.{sources_stand}
use Rattle.program_objects.proofs.UnitLaws.{lists_of_files, are_of_files, only_of_files, parsed_refused}
use Rattle.program_objects.specs.Exemptions.{regions_in, unpaired_in}
use Rattle.program_objects.proofs.units.units_of.Goals as goal

pub units_of_tokens-requires : goal.units_of_tokens-requires
units_of_tokens-requires c = rw (c.as_slice-2.ensures.value, lists_of_files c.in_ok-tokens.ensures.lexed) c.requires

pub returns-clause-only_units : goal.returns-clause-only_units
returns-clause-only_units c =
    only_of_files c.args.files.now c.in_ok-tokens.tokens.items c.in_ok-units.units.items c.in_ok-tokens.ensures.tokens
    (rw c.as_slice-2.ensures.value at c.in_ok-units.ensures.only_units)

pub returns-clause-read : goal.returns-clause-read
returns-clause-read c =
    are_of_files c.args.files.now c.in_ok-tokens.tokens.items c.in_ok-units.units.items c.in_ok-tokens.ensures.lexed
    (rw c.as_slice-2.ensures.value at c.in_ok-units.ensures.units)

pub returns-clause-regions : goal.returns-clause-regions
returns-clause-regions c =
    rw c.as_slice.ensures.value at c.in_ok-exemptions.ensures.regions
    ∙ ap regions_in (sym (pragmas_are c.args.files.now c.in_ok-tokens.tokens.items c.in_ok-tokens.ensures.tokens.tokens))

pub returns-clause-unpaired : goal.returns-clause-unpaired
returns-clause-unpaired c =
    rw c.as_slice.ensures.value at c.in_ok-exemptions.ensures.unpaired
    ∙ ap unpaired_in (sym (pragmas_are c.args.files.now c.in_ok-tokens.tokens.items c.in_ok-tokens.ensures.tokens.tokens))

pub returns-clause-in_files : goal.returns-clause-in_files
returns-clause-in_files c =
    let files = c.args.files.now in
    let lists = c.in_ok-tokens.tokens.items in
    sources_stand files lists c.in_ok-tokens.ensures.tokens.tokens c.in_ok-tokens.ensures.lexed

pub returns-in_err-units-clause-refused : goal.returns-in_err-units-clause-refused
returns-in_err-units-clause-refused c =
    let p = err_from_is_err_and c.from_residual-in_err-units.result c.from_residual-in_err-units.ensures.1 in
    rw (p.1, p.2)
    (parsed_refused c.args.files.now c.in_ok-tokens.tokens.items _ c.in_ok-tokens.ensures.tokens (rw c.as_slice-2.ensures.value at c.in_err-units.ensures.refused))
