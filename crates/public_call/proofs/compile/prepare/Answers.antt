use Rattle.std.proofs.Common.{List, All, map, subst, sym}
use Rattle.std.proofs.lemmas.Result.{err_from_is_err_and}
use Rattle.commands.proofs.SourceLaws.{compile_made, compile_refused, compile_unread, counted}
use Rattle.commands.specs.Built.{HasPlainName}
use Rattle.cov_base.specs.declared.obligations.SourceFile.{SourceFile}
use Rattle.public_call.proofs.compile.prepare.Goals as goal

pub read_sources-requires-clause-some : goal.read_sources-requires-clause-some
read_sources-requires-clause-some g c = (counted (λ source. source.now) c.args.sources.now c.requires).0

pub read_sources-requires-clause-few : goal.read_sources-requires-clause-few
read_sources-requires-clause-few g c = (counted (λ source. source.now) c.args.sources.now c.requires).1

pub read_sources-requires-clause-short : goal.read_sources-requires-clause-short
read_sources-requires-clause-short g c = c.requires.short

pub returns-in_err-sources-clause-prepares : goal.returns-in_err-sources-clause-prepares
returns-in_err-sources-clause-prepares g c =
    let p = err_from_is_err_and c.from_residual.result c.from_residual.ensures.1 in
    rw (p.1, p.2) (compile_unread _ _ _ c.args.main.now c.args.object.now (map (λ source. source.now) c.args.sources.now) _
    c.in_err-sources.ensures.stopped)

pub compiled-requires-clause-many : goal.compiled-requires-clause-many
compiled-requires-clause-many g c = rw c.as_slice.ensures.value c.in_ok-sources.ensures.many

pub compiled-requires-clause-names : goal.compiled-requires-clause-names
compiled-requires-clause-names g c =
    subst (λ (ss : List SourceFile). All HasPlainName ss) (sym c.as_slice.ensures.value) c.in_ok-sources.ensures.plain

pub returns-in_err-bytes-clause-prepares : goal.returns-in_err-bytes-clause-prepares
returns-in_err-bytes-clause-prepares g c =
    let p = err_from_is_err_and c.from_residual-in_err-bytes.result c.from_residual-in_err-bytes.ensures.1 in
    rw (p.1, p.2) (compile_refused _ _ _ c.args.main.now c.args.object.now (map (λ source. source.now) c.args.sources.now) _ _ _
    c.in_ok-sources.ensures.reads c.in_ok-sources.ensures.read c.as_slice.ensures.value c.in_err-bytes.ensures.refused)

pub returns-clause-prepares : goal.returns-clause-prepares
returns-clause-prepares g c =
    compile_made _ _ _ c.args.main.now c.args.object.now (map (λ source. source.now) c.args.sources.now) _ _ _ _
    c.in_ok-sources.ensures.reads c.in_ok-sources.ensures.read c.as_slice.ensures.value c.in_ok-bytes.ensures.made
