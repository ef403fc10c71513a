use Rattle.std.proofs.Common.{Ok, option_map, sym, ap, ◌∙◌, subst, rules}
use Rattle.ada_tree.specs.View.{scalar_range_of}
use Rattle.ada_rules.specs.Types.{range_in}
use Rattle.ada_rules.specs.Plan.{ruled, answer_at}
use Rattle.ada_rules.specs.Environment.{given}
use Rattle.ada_rules.specs.Declarations.{value_place}
use Rattle.ada_phrases.specs.Scopes.{step_of}
use Rattle.ada_phrases.proofs.Parts.{answers_as}
use Rattle.program_walk.specs.Places.{with_notes}
use Rattle.program_walk.specs.Parts.{valued_of}
use Rattle.program_walk.specs.Subtypes.{subtype_in}
use Rattle.declarations.specs.Within.{StandsWithin}
use Rattle.declarations.specs.Initials.{with_known, library_value_of}
use Rattle.declarations.proofs.InitialLaws.{value_refused, value_passes}
use Rattle.declarations.proofs.initial.library_value.Goals as goal

pub returns-in_err-value : goal.returns-in_err-value
returns-in_err-value c k env s h =
    let within = subst (λ os. StandsWithin k.types (subtype_in k c.args.subtype) os c.in_ok-within.within) c.as_slice-others.ensures
    (c.in_ok-within.ensures h.site.units.known k h.site.units.begins) in
    let range = ap (λ t. scalar_range_of t.range) c.subtype.ensures ∙ sym (ap range_in within.subtype) in
    let r = value_refused env (with_notes k c.args.notes.now s) c.args.pos (subtype_in k c.args.subtype) c.args.initial.now _ range c.in_err-value.field-0.0
    (c.in_err-value.ensures k env s h) in
    search (rules, r)

pub returns-in-Naming : goal.returns-in-Naming
returns-in-Naming c k env s h =
    let within = subst (λ os. StandsWithin k.types (subtype_in k c.args.subtype) os c.in_ok-within.within) c.as_slice-others.ensures
    (c.in_ok-within.ensures h.site.units.known k h.site.units.begins) in
    let range = ap (λ t. scalar_range_of t.range) c.subtype.ensures ∙ sym (ap range_in within.subtype) in
    let x = given (valued_of k c.in_ok-value.value) (with_notes k c.static_part.new.notes s) in
    value_passes env (with_notes k c.args.notes.now s) c.args.pos (subtype_in k c.args.subtype) c.args.initial.now _ range x _ (c.in_ok-value.ensures k env s h)
    (h.site.step ∙ ap step_of c.in-Naming.is)
    ∙ ap (λ v. Ok (given v x.next)) (sym (c.none.ensures k))

pub returns-in-Typing : goal.returns-in-Typing
returns-in-Typing c k env s h =
    let within = subst (λ os. StandsWithin k.types (subtype_in k c.args.subtype) os c.in_ok-within.within) c.as_slice-others.ensures
    (c.in_ok-within.ensures h.site.units.known k h.site.units.begins) in
    let range = ap (λ t. scalar_range_of t.range) c.subtype.ensures ∙ sym (ap range_in within.subtype) in
    let x = given (valued_of k c.in_ok-value.value) (with_notes k c.static_part.new.notes s) in
    let i = c.args.initial.now in
    answers_as (λ v. given (library_value_of k v) x.next) _ _ c.typed_value.result
    (value_passes env (with_notes k c.args.notes.now s) c.args.pos (subtype_in k c.args.subtype) i _ range x _ (c.in_ok-value.ensures k env s h)
    (h.site.step ∙ ap step_of c.in-Typing.is)
    ∙ ap (λ o. answer_at (value_place c.args.pos (subtype_in k c.args.subtype) i.others) (ruled (option_map (with_known i.others x.value x.next) o))) (within.initial x.value))
    (rw (sym c.as_slice-others.ensures) (c.typed_value.ensures h.site.units.known k h.site.units.begins x.next))
