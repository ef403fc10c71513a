use Rattle.std.proofs.Common.{◌≡◌, ◌+◌, ◌&&◌, drop, length, arith, sym, ap, ◌∙◌}
use Rattle.std.specs.Option.{option_copied}
use Rattle.ada_tree.specs.View.{owner_of}
use Rattle.ada_entities.proofs.LookupLaws.{copied_get}
use Rattle.specifications.proofs.Comparing.{told_none}
use Rattle.specifications.proofs.ConformanceLaws.{are_same, parameter_turn, parameter_ended, parameters_left}
use Rattle.specifications.proofs.conformance.same_parameters.Goals as goal

pub returns-then-not-same_parameter : goal.returns-then-not-same_parameter
returns-then-not-same_parameter c k =
    let o = owner_of c.args.seen in
    let i = c.loop-place.place in
    let found = sym (copied_get c.args.given.now i c.get.result c.get.ensures.lookup.1 c.get.ensures.lookup.3) ∙ ap option_copied c.in-Some.is in
    let rest = are_same k o (drop (i + 1) c.args.declared.now) (drop (i + 1) c.args.given.now) in
    sym (sym (c.loop-place.invariant k)
    ∙ parameter_turn k o c.args.declared.now c.args.given.now i c.index-declared-place.result (omega arith) c.index-declared-place.is c.in-Some.other.now found
    ∙ ap (λ b. b && rest) (sym (c.same_parameter.ensures k) ∙ c.if-not-same_parameter.true))

pub returns-in-None : goal.returns-in-None
returns-in-None c k =
    let i = c.loop-place.place in
    let found = sym (copied_get c.args.given.now i c.get.result c.get.ensures.lookup.1 c.get.ensures.lookup.3) ∙ ap option_copied c.in-None.is in
    sym (sym (c.loop-place.invariant k)
    ∙ parameter_ended k (owner_of c.args.seen) c.args.declared.now c.args.given.now i c.index-declared-place.result (omega arith) c.index-declared-place.is found)

pub loop-place-preserved : goal.loop-place-preserved
loop-place-preserved c k =
    let o = owner_of c.args.seen in
    let i = c.loop-place.place in
    let found = sym (copied_get c.args.given.now i c.get.result c.get.ensures.lookup.1 c.get.ensures.lookup.3) ∙ ap option_copied c.in-Some.is in
    let rest = are_same k o (drop (i + 1) c.args.declared.now) (drop (i + 1) c.args.given.now) in
    sym (parameter_turn k o c.args.declared.now c.args.given.now i c.index-declared-place.result (omega arith) c.index-declared-place.is c.in-Some.other.now found
    ∙ ap (λ b. b && rest) (sym (c.same_parameter.ensures k) ∙ c.if-not-same_parameter.false))
    ∙ c.loop-place.invariant k

pub returns : goal.returns
returns c k =
    let o = owner_of c.args.seen in
    let xs = c.args.declared.now in
    let ys = c.args.given.now in
    let n = length xs in
    let found = sym (copied_get ys n c.get-2.result c.get-2.ensures.lookup.1 c.get-2.ensures.lookup.3) in
    let last : n ≡ c.loop-place.place = omega arith in
    told_none c.get-2.result c.is_none.result c.is_none.ensures
    ∙ parameters_left k o xs ys n (omega arith) (option_copied c.get-2.result) found
    ∙ ap (λ j. are_same k o (drop j xs) (drop j ys)) last
    ∙ c.loop-place.invariant k
