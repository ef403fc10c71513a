use Rattle.std.proofs.Common.{option_map, sym, ap, ◌∙◌}
use Rattle.ada_rules.specs.Environment.{State, given, beginning_state}
use Rattle.ada_rules.specs.Declarations.{local_objects, with_objects}
use Rattle.ada_entities.specs.EntityViews.{constant_of}
use Rattle.ada_entities.specs.Views.{subtype_of}
use Rattle.ada_phrases.specs.Answers.{counted}
use Rattle.object_values.specs.NewValues.{new_value_of}
use Rattle.program_walk.specs.Places.{with_notes}
use Rattle.program_walk.specs.States.{with_found, kept_state, state_of}
use Rattle.program_walk.specs.Going.{region_in}
use Rattle.declarations.specs.Made.{behind_made}
use Rattle.declarations.specs.Locals.{made_of}
use Rattle.declarations.proofs.ValueLaws.{set_known}
use Rattle.declarations.proofs.values.make_locals.Goals as goal

pub returns-clause-made : goal.returns-clause-made
returns-clause-made c k env is known b =
    let w = c.args.walk.now in
    let t = subtype_of k.types c.args.subtype in
    let names = c.args.names.now in
    let notes = record w.notes { statics = c.local_constant-known.new.statics } in
    let n = state_of k (record w { notes = notes }) in
    let o = option_map constant_of c.in_ok-known.field-0 in
    let before = made_of k c.args.made.now.items in
    let taken = c.in_ok-make_set.ensures.taken beginning_state in
    let a = c.in_ok-add_locals.ensures.added k (c.in_ok-tree_subtype.ensures known k b) in
    let region = ap (λ (s : State). local_objects c.args.constancy t o s.objects (region_in k w) names) (sym taken) ∙ sym a.region in
    let next = sym (a.state ∙ ap (λ s. with_objects t names (with_notes k notes (with_found k w.found s))) taken) in
    let made = sym (c.in_ok-make_set.ensures.made k beginning_state) in
    ap (behind_made before)
    (set_known env c.args.pos c.args.constancy (region_in k w) names t (given (new_value_of k c.args.value) (state_of k w)) o n
    (c.in_ok-known.ensures k env (counted w.notes.decisions (kept_state k w.counts w.found)) is.generic is.instances))
    ∙ (λ z. record { region = region z; next = next z; made = made z })
