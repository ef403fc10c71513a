use Rattle.std.proofs.Common.{Ok, option_map, sym, ap, ◌∙◌}
use Rattle.ada_rules.specs.Types.{of_type, common}
use Rattle.ada_rules.specs.Environment.{given}
use Rattle.ada_rules.specs.Declarations.{index_between}
use Rattle.ada_phrases.specs.ada_judged.specs.Views.{kind_of}
use Rattle.ada_demands.specs.StaticsViews.{noted}
use Rattle.program_walk.specs.Parts.{valued_of}
use Rattle.program_walk.proofs.IndexLaws.{none_refused, some_passes}
use Rattle.program_walk.proofs.place.Place.between_of.Goals as goal

pub returns-in_default : goal.returns-in_default
returns-in_default c k env s g =
    rw c.refused.ensures
    (none_refused c.args.pos _ (common (kind_of k.types c.args.low.kind) (kind_of k.types c.args.high.kind))
    (sym (c.common.ensures k.types) ∙ ap (option_map (kind_of k.types)) c.in_default.is))

pub returns : goal.returns
returns c k env s g =
    let old = noted k c.args.statics.now s in
    let kind = kind_of k.types c.in-Some.kind in
    some_passes c.args.pos (index_between env c.args.pos (given (valued_of k c.args.low) old) (given (valued_of k c.args.high) old))
    (common (kind_of k.types c.args.low.kind) (kind_of k.types c.args.high.kind)) kind
    (sym (c.common.ensures k.types) ∙ ap (option_map (kind_of k.types)) c.in-Some.is)
    ∙ (λ z. Ok (given (of_type (sym (c.settled.ensures k.types) z) (sym c.between.ensures z)) (sym (c.in_ok-demand.ensures k env s g) z)))
