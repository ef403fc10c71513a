use Rattle.std.proofs.Common.{refl, ◌∙◌}
use Rattle.ada_rules.specs.Denoted.{a_thing}
use Rattle.ada_phrases.specs.declared.names.Denoted.TheVariants as denoted
use Rattle.ada_phrases.specs.DenotedView.{denotes}
use Rattle.ada_phrases.proofs.Parts.{gives_typed}
use Rattle.ada_phrases.proofs.suffixes.component.Goals as goal

pub returns : goal.returns
returns c k env s h =
    gives_typed (denotes k) s env.step c.args.scope.now.step c.args.pos denoted.Thing c.as_variable.result a_thing _ c.typed.result h.step refl
    (c.as_variable.ensures k ∙ c.in_ok-found.ensures k h.units.typed) c.typed.ensures
