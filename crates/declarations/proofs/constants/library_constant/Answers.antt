use Rattle.std.proofs.Common.{Some, option_map, refl, ◌∙◌}
use Rattle.ada_tree.specs.View.{scalar_range_of, static_value_of}
use Rattle.ada_rules.specs.Declarations.{known_constant}
use Rattle.ada_entities.specs.Views.{subtype_of}
use Rattle.program_walk.specs.ada_demands.specs.StaticsViews.{noted}
use Rattle.declarations.proofs.ConstantLaws.{constant_known}
use Rattle.declarations.proofs.constants.library_constant.Goals as goal

pub returns-in_ok-known-in-Constant-Some : goal.returns-in_ok-known-in-Constant-Some
returns-in_ok-known-in-Constant-Some c k env s g =
    let i = c.in-Constant-Some in
    let t = subtype_of k.types c.args.subtype in
    let n = noted k c.args.statics.now s in
    (λ z. known_constant env (i.is-0 z) t (λ e. Some e) (option_map static_value_of (i.is-1 z)) n)
    ∙ constant_known env t (scalar_range_of c.args.subtype.range) (λ e. Some e) c.args.generic (static_value_of i.value) n _ g refl
    (c.in_ok-known-in-Constant-Some.ensures k s)
