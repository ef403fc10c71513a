use Rattle.std.proofs.Common.{◌≡◌, ◌+◌, ◌&&◌, drop, length, arith, sym, ap, ◌∙◌}
use Rattle.std.specs.Option.{option_copied}
use Rattle.ada_tree.specs.View.{owner_of}
use Rattle.ada_entities.proofs.LookupLaws.{copied_get}
use Rattle.specifications.proofs.Comparing.{told_none}
use Rattle.specifications.proofs.MatchLaws.{are_kinds, kind_turn, kind_ended, kinds_left}
use Rattle.specifications.proofs.profiles.Matching.same_kinds.Goals as goal

pub returns-then-not-branch : goal.returns-then-not-branch
returns-then-not-branch c known k b =
    let m = c.args.self.now in
    let o = owner_of c.args.formal_seen in
    let p = owner_of c.args.actual_seen in
    let i = c.loop-place.place in
    let found = sym (copied_get c.args.actual.now i c.get.result c.get.ensures.lookup.1 c.get.ensures.lookup.3) ∙ ap option_copied c.in-Some.is in
    let rest = are_kinds m k o p (drop (i + 1) c.args.formal.now) (drop (i + 1) c.args.actual.now) in
    sym (sym (c.loop-place.invariant known k b)
    ∙ kind_turn m k o p c.args.formal.now c.args.actual.now i c.index-formal-place.result (omega arith) c.index-formal-place.is c.in-Some.other.now found
    ∙ ap (λ x. x && rest) (sym (c.in_ok-same_kind-in-Some.ensures known k b) ∙ c.if-not-branch.true))

pub returns-in-None : goal.returns-in-None
returns-in-None c known k b =
    let i = c.loop-place.place in
    let found = sym (copied_get c.args.actual.now i c.get.result c.get.ensures.lookup.1 c.get.ensures.lookup.3) ∙ ap option_copied c.in-None.is in
    sym (sym (c.loop-place.invariant known k b)
    ∙ kind_ended c.args.self.now k (owner_of c.args.formal_seen) (owner_of c.args.actual_seen) c.args.formal.now c.args.actual.now i
    c.index-formal-place.result (omega arith) c.index-formal-place.is found)

pub loop-place-preserved : goal.loop-place-preserved
loop-place-preserved c known k b =
    let m = c.args.self.now in
    let o = owner_of c.args.formal_seen in
    let p = owner_of c.args.actual_seen in
    let i = c.loop-place.place in
    let found = sym (copied_get c.args.actual.now i c.get.result c.get.ensures.lookup.1 c.get.ensures.lookup.3) ∙ ap option_copied c.in-Some.is in
    let rest = are_kinds m k o p (drop (i + 1) c.args.formal.now) (drop (i + 1) c.args.actual.now) in
    sym (kind_turn m k o p c.args.formal.now c.args.actual.now i c.index-formal-place.result (omega arith) c.index-formal-place.is c.in-Some.other.now found
    ∙ ap (λ x. x && rest) (sym (c.in_ok-same_kind-in-Some.ensures known k b) ∙ c.if-not-branch.false))
    ∙ c.loop-place.invariant known k b

pub returns : goal.returns
returns c known k b =
    let m = c.args.self.now in
    let o = owner_of c.args.formal_seen in
    let p = owner_of c.args.actual_seen in
    let xs = c.args.formal.now in
    let ys = c.args.actual.now in
    let n = length xs in
    let found = sym (copied_get ys n c.get-2.result c.get-2.ensures.lookup.1 c.get-2.ensures.lookup.3) in
    let last : n ≡ c.loop-place.place = omega arith in
    told_none c.get-2.result c.is_none.result c.is_none.ensures
    ∙ kinds_left m k o p xs ys n (omega arith) (option_copied c.get-2.result) found
    ∙ ap (λ j. are_kinds m k o p (drop j xs) (drop j ys)) last
    ∙ c.loop-place.invariant known k b
