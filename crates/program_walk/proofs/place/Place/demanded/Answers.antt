use Rattle.std.proofs.Common.{Ok, sym, ap, ◌∙◌}
use Rattle.ada_phrases.specs.ada_judged.specs.Views.{kind_of}
use Rattle.ada_demands.specs.StaticsViews.{noted}
use Rattle.ada_rules.specs.Environment.{given, demanded}
use Rattle.program_walk.specs.Parts.{accepts_of, asks_of, valued_of}
use Rattle.program_walk.proofs.Commuting.{known_behind}
use Rattle.program_walk.proofs.PartLaws.{unknown_refused, other_refused, accepted_value}
use Rattle.program_walk.proofs.place.Place.demanded.Goals as goal

pub returns-in_default : goal.returns-in_default
returns-in_default c k env s g i = rw c.refused.ensures (unknown_refused c.args.pos _ _ c.in_default.is)

pub returns-then-not-accepts : goal.returns-then-not-accepts
returns-then-not-accepts c k env s g i =
    rw c.refused-then-not-accepts.ensures
    (other_refused env (noted k c.args.statics.now s) c.args.pos (accepts_of k.types c.args.accepted (kind_of k.types c.args.kind)) (kind_of k.types c.args.kind)
    (asks_of k c.args.asks) c.args.known c.in-Some.tree c.in-Some.is (sym (c.accepts.ensures k.types) ∙ c.if-not-accepts.true))

pub returns : goal.returns
returns c k env s g i =
    let old = noted k c.args.statics.now s in
    let middle = noted k c.static_known.new.self s in
    let known = known_behind env c.in-Some.tree c.args.pos (asks_of k c.args.asks c.in-Some.tree) old middle _ c.args.self.now.generic g
    (c.in_ok-value.ensures k env s g i) in
    let noted_as = c.in_ok-demand.ensures k env s g ∙ ap (λ t. demanded env c.args.pos t middle) (c.test.ensures k) in
    accepted_value env old c.args.pos (accepts_of k.types c.args.accepted (kind_of k.types c.args.kind)) (kind_of k.types c.args.kind) (asks_of k c.args.asks)
    c.args.known c.in-Some.tree c.in-Some.is _ (demanded env c.args.pos (asks_of k c.args.asks c.in-Some.tree) middle)
    (sym (c.accepts.ensures k.types) ∙ c.if-not-accepts.false) known
    ∙ ap (λ n. Ok (given (valued_of k (record { value = c.in_ok-value.value; kind = c.args.kind })) n)) (sym noted_as)
