use Rattle.std.proofs.Common.{[], option_map, sym, ◌∙◌}
use Rattle.ada_entities.specs.EntityViews.{constant_of}
use Rattle.ada_entities.specs.Views.{subtype_of}
use Rattle.ada_phrases.specs.Answers.{counted}
use Rattle.program_walk.specs.States.{kept_state, state_of}
use Rattle.program_walk.specs.Going.{region_in}
use Rattle.declarations.specs.Initials.{library_value_of}
use Rattle.declarations.proofs.ValueLaws.{declared_known}
use Rattle.declarations.proofs.values.make_library_objects.Goals as goal

pub returns-clause-made : goal.returns-clause-made
returns-clause-made c k env is known b =
    let w = c.args.walk.now in
    let t = subtype_of k.types c.args.subtype in
    let n = state_of k (record w { notes = record w.notes { statics = c.library_constant.new.statics } }) in
    let a = c.in_ok-add_objects.ensures.added k env is (c.in_ok-tree_subtype.ensures known k b) in
    declared_known env c.args.constancy (region_in k w) c.args.names.now t (library_value_of k c.args.value) (state_of k w)
    (option_map constant_of c.in_ok-known.known) n
    (c.in_ok-known.ensures k env (counted w.notes.decisions (kept_state k w.counts w.found)) is.generic)
    ∙ (λ z. record { region = sym a.region z; next = sym a.state z; made = [] })
