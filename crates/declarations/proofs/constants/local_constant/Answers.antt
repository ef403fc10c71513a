use Rattle.std.proofs.Common.{refl, ◌∙◌}
use Rattle.ada_tree.specs.View.{scalar_range_of}
use Rattle.ada_rules.specs.Declarations.{known_constant, lying_in}
use Rattle.ada_entities.specs.Views.{subtype_of}
use Rattle.program_walk.specs.ada_demands.specs.StaticsViews.{noted}
use Rattle.declarations.proofs.ConstantLaws.{constant_known}
use Rattle.declarations.proofs.constants.local_constant.Goals as goal

pub returns-in_ok-known-in-Constant-Some : goal.returns-in_ok-known-in-Constant-Some
returns-in_ok-known-in-Constant-Some c k env s g world =
    let i = c.in-Constant-Some in
    let t = subtype_of k.types c.args.subtype in
    let n = noted k c.args.statics.now s in
    (λ z. known_constant env (i.is-0 z) t (lying_in env t) (i.is-1 z) n)
    ∙ constant_known env t (scalar_range_of c.args.subtype.range) (lying_in env t) c.args.generic i.value n _ g refl
    (c.in_ok-known-in-Constant-Some.ensures k env s t world refl)
