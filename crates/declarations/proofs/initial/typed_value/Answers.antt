use Rattle.std.proofs.Common.{Ok, option_map, sym, ap, ◌∙◌}
use Rattle.ada_tree.specs.Programs.{initial_of}
use Rattle.ada_rules.specs.Environment.{given}
use Rattle.ada_rules.specs.Declarations.{value_place}
use Rattle.program_walk.specs.Parts.{valued_of}
use Rattle.program_walk.specs.Subtypes.{subtype_in}
use Rattle.program_walk.proofs.IndexLaws.{none_refused, some_passes}
use Rattle.declarations.specs.Within.{initial_within}
use Rattle.declarations.specs.Initials.{with_known}
use Rattle.declarations.proofs.initial.typed_value.Goals as goal

pub returns-in_default : goal.returns-in_default
returns-in_default c known k b n =
    let found = sym (ap (λ m. initial_within k.types m (valued_of k c.args.value) c.args.within) c.in_ok-count.ensures.number)
    ∙ (sym (c.initial.ensures k) ∙ ap (option_map initial_of) c.in_default.is) in
    rw (c.refused.ensures, c.in_ok-value_place.ensures known k b) (none_refused (value_place c.args.pos (subtype_in k c.args.subtype) c.args.others.now) (with_known c.args.others.now (valued_of k c.args.value) n) _ found)

pub returns : goal.returns
returns c known k b n =
    let found = sym (ap (λ m. initial_within k.types m (valued_of k c.args.value) c.args.within) c.in_ok-count.ensures.number)
    ∙ (sym (c.initial.ensures k) ∙ ap (option_map initial_of) c.in-Some.is) in
    some_passes (value_place c.args.pos (subtype_in k c.args.subtype) c.args.others.now) (with_known c.args.others.now (valued_of k c.args.value) n) _ _ found
    ∙ ap (λ o. Ok (given (record { initial = initial_of c.in-Some.initial; known = o }) n)) (sym (c.known_value.ensures k))
