use Rattle.std.proofs.Common.{None, ◌∙◌}
use Rattle.std.proofs.lemmas.Result.{err_from_is_err_and}
use Rattle.ada_rules.specs.Environment.{given, with_local}
use Rattle.ada_phrases.specs.Answers.{counted}
use Rattle.ada_phrases.proofs.Parts.{refused_as}
use Rattle.program_walk.specs.Marks.{marked_of}
use Rattle.specifications.specs.Results.{profile_with}
use Rattle.specifications.proofs.ResultLaws.{mark_refused, mark_passes}
use Rattle.specifications.proofs.results.result.Goals as goal

pub returns-in_err-marked : goal.returns-in_err-marked
returns-in_err-marked c k env region s stands =
    let e = err_from_is_err_and c.from_residual.result c.from_residual.ensures.1 in
    rw (e.1, e.2, c.in-Some.is) (mark_refused env c.args.pos (given (profile_with k region c.args.parameters.now None) (counted c.args.decisions.now s)) c.in-Some.name c.in_err-marked.field-0.0
    (c.in_err-marked.ensures k (with_local env region) s stands))

pub returns-in_err-mark : goal.returns-in_err-mark
returns-in_err-mark c k env region s stands =
    let e = err_from_is_err_and c.from_residual-in_err-mark.result c.from_residual-in_err-mark.ensures.1 in
    let old = counted c.args.decisions.now s in
    let new = counted c.mark.new.decisions s in
    rw (e.1, e.2, c.in-Some.is) (refused_as _ _ c.in_err-mark.field-0.0
    (mark_passes env c.args.pos (given (profile_with k region c.args.parameters.now None) old) c.in-Some.name (given (marked_of k c.in_ok-marked.marked) new)
    c.args.site.now.step stands.step (c.in_ok-marked.ensures k (with_local env region) s stands))
    (c.in_err-mark.ensures k region old new))

pub returns : goal.returns
returns c k env region s stands =
    let old = counted c.args.decisions.now s in
    let new = counted c.mark.new.decisions s in
    rw c.in-Some.is (mark_passes env c.args.pos (given (profile_with k region c.args.parameters.now None) old) c.in-Some.name (given (marked_of k c.in_ok-marked.marked) new)
    c.args.site.now.step stands.step (c.in_ok-marked.ensures k (with_local env region) s stands)
    ∙ c.in_ok-mark.ensures k region old new)
