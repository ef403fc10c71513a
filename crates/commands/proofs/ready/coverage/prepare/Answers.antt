use Rattle.std.proofs.Common.{List, ℕ, IfSome, Option, map, ap, subst, sym}
use Rattle.std.proofs.lemmas.Result.{IfErr-weaker, err_from_is_err_and}
use Rattle.cov_io.specs.Outside.{Holds}
use Rattle.std.specs.Prelude.{option_map, string_bytes}
use Rattle.commands.specs.Covering.{task_for}
use Rattle.commands.specs.Ready.{answer_view}
use Rattle.commands.proofs.NameLaws.{named_from, no_source, word_unread}
use Rattle.commands.proofs.StopLaws.{prepared_from}
use Rattle.commands.proofs.ready.coverage.prepare.Goals as goal

pub returns-clause-prepares : goal.returns-clause-prepares
returns-clause-prepares g c =
    prepared_from (λ object. task_for c.args.product object (map (λ name. name.now) c.args.traces.now)) c.args.object.now
    c.in_ok-bytes.bytes.items c.as_slice.result.now _ _ _ _ _ (answer_view c.from_file.result)
    c.in_ok-bytes.ensures.same c.in_ok-bytes.ensures.reads c.in_ok-bytes.ensures.read c.as_slice.ensures.value c.from_file.ensures.prepares

pub returns-in_err-bytes-clause-named : goal.returns-in_err-bytes-clause-named
returns-in_err-bytes-clause-named g c =
    let p = err_from_is_err_and c.from_residual.result c.from_residual.ensures.1 in
    rw p.1 (no_source (task_for c.args.product c.args.object.now (map (λ name. name.now) c.args.traces.now)) (g.F.Files.held c.args.files.now) p.0
    (λ names. rw p.2.0 (word_unread names 0 c.args.object.now _ _ _ c.in_err-bytes.field-0.0 _ (ap (option_map string_bytes) p.2.1) c.in_err-bytes.ensures.unread)))

pub returns-clause-named : goal.returns-clause-named
returns-clause-named g c =
    IfErr-weaker c.from_file.result _ _
    (λ refusal tells. named_from c.args.product c.args.object.now c.as_slice.result.now (map (λ name. name.now) c.args.traces.now) (g.F.Files.held c.args.files.now) refusal
    (subst (λ (bytes : List ℕ). IfSome (g.F.Files.held c.args.files.now) (Holds c.args.object.now bytes)) (sym c.as_slice.ensures.value) c.in_ok-bytes.ensures.read) tells)
    c.from_file.ensures.named
