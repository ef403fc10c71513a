use Rattle.std.proofs.Common.{pos, rules, w32, SFits, to_z-of_z, sym, ap, ◌∙◌}
use Rattle.std.specs.Prelude.{unwrap_or}
use Rattle.std.proofs.lemmas.Result.{IfOk-weaker}
use Rattle.ada_meaning.specs.Types.{static_number}
use Rattle.ada_rules.specs.Environment.{given}
use Rattle.ada_demands.specs.StaticsViews.{noted}
use Rattle.ada_demands.proofs.NamedLaws.{known_in, known_alone}
use Rattle.ada_demands.proofs.statics.Statics.static_known.Goals as goal

pub returns-in-Some : goal.returns-in-Some
returns-in-Some c =
    IfOk-weaker c.value_named.result _ _
    (λ v h k env s e i. known_in env c.in-Some.generic c.args.tree.now (noted k c.args.self.now s) (e ∙ c.in-Some.is) ∙ h k s)
    c.value_named.ensures

pub returns-in-None : goal.returns-in-None
returns-in-None c k env s e i =
    let before = noted k c.args.self.now s in
    let fits : SFits w32 c.unwrap_or.result = search rules in
    known_alone env c.args.instances.now c.args.tree.now before (e ∙ c.in-None.is) i
    ∙ ap (λ x. given (static_number x) before) (ap (λ o. unwrap_or o (pos 0)) (sym c.tree.ensures) ∙ (sym c.unwrap_or.ensures ∙ sym (to_z-of_z fits)))
