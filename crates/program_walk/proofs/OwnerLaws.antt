-- Who owns what is declared, of the rules' definitions.
use Rattle.std.proofs.Common.{◌≡◌, ℕ, Option, is_some, if◌then◌else◌, sym, ap, ◌∙◌}
use Rattle.ada_meaning.specs.Types.{here, of_instance}
use Rattle.ada_tree.specs.declared.types.Owner.{Owner}
use Rattle.ada_tree.specs.View as view
use Rattle.ada_rules.specs.Environment.{Env, owner_of}

pub owner_is : (env : Env) (generic : Option ℕ) (o : Owner) → env.generic ≡ generic
    → view.owner_of o ≡ (if is_some generic then here else of_instance 0) → view.owner_of o ≡ owner_of env
owner_is env generic o h e = e ∙ ap (λ g. if is_some g then here else of_instance 0) (sym h)
