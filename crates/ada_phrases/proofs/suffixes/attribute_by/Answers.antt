use Rattle.std.proofs.Common.{refl}
use Rattle.ada_rules.specs.Denoted.{a_thing}
use Rattle.ada_phrases.specs.declared.names.Denoted.TheVariants as denoted
use Rattle.ada_phrases.specs.DenotedView.{denotes}
use Rattle.ada_phrases.proofs.Parts.{gives_typed}
use Rattle.ada_phrases.proofs.PartLaws.{attribute_is}
use Rattle.ada_phrases.proofs.suffixes.attribute_by.Goals as goal

pub returns : goal.returns
returns c k env s h =
    attribute_is k env s (denotes k c.args.prefix) c.args.name.now c.args.pos c.is_attribute.result c.typed-answer.result c.allowed.result c.is_attribute.ensures c.allowed.ensures
    (gives_typed (denotes k) s env.step c.args.scope.now.step c.args.pos denoted.Thing c.attribute-found.result a_thing _ c.typed-answer.result h.step refl
    (c.attribute-found.ensures k h.units.typed) c.typed-answer.ensures)
