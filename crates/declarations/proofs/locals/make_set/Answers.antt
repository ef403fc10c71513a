use Rattle.std.proofs.Common.{◌∷◌, [], ◌++◌, ap, ◌∙◌}
use Rattle.ada_meaning.specs.Tree.{initialized}
use Rattle.object_values.specs.Values.{value_in}
use Rattle.declarations.specs.Locals.{made_of}
use Rattle.declarations.proofs.MadeLaws.{made_push}
use Rattle.declarations.proofs.ValueLaws.{when_ok, when_passed}
use Rattle.declarations.proofs.locals.make_set.Goals as goal

pub returns-in_ok-push-in-Ok-clause-made : goal.returns-in_ok-push-in-Ok-clause-made
returns-in_ok-push-in-Ok-clause-made c k s =
    let label = when_ok _ c.statement.result _ c.in-Ok.is c.statement.ensures.label s in
    ap (made_of k) c.in_ok-push-in-Ok.ensures.items ∙ made_push k c.args.made.now.items _
    ∙ ap (λ l. made_of k c.args.made.now.items ++ (initialized l c.args.counts.now.objects (value_in k.types c.args.value) ∷ [])) label

pub returns-in_ok-push-in-Ok-clause-taken : goal.returns-in_ok-push-in-Ok-clause-taken
returns-in_ok-push-in-Ok-clause-taken c = when_passed c.statement.result _ c.in-Ok.is c.statement.ensures.taken
