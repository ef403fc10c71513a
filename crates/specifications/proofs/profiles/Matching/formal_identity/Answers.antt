use Rattle.std.proofs.Common.{sym, ap, ◌∙◌}
use Rattle.ada_tree.specs.View.{owner_of}
use Rattle.ada_rules.specs.Types as types
use Rattle.specifications.specs.Matches.{type_as, formal_type}
use Rattle.specifications.proofs.MatchLaws.{through_once}
use Rattle.specifications.proofs.profiles.Matching.formal_identity.Goals as goal

pub returns-in_ok-type_seen-in-Instance : goal.returns-in_ok-type_seen-in-Instance
returns-in_ok-type_seen-in-Instance c known k b =
    let m = c.args.self.now in
    let of = c.args.of in
    c.identity.ensures k.types
    ∙ ap types.identity_of (c.in_ok-type_seen-in-Instance.ensures known k b
    ∙ ap (λ s. type_as k (owner_of s) of) c.in-Instance.is
    ∙ through_once m k c.in-Instance.field-0 of
    ∙ ap (λ s. formal_type m k (owner_of s) of) (sym c.in-Instance.is))
