use Rattle.std.proofs.Common.{List, ℕ, IfErr, map, refl, subst, sym}
use Rattle.commands.specs.Ready.{TellsSource}
use Rattle.commands.proofs.NameLaws.{listed_names}
use Rattle.std.proofs.lemmas.Result.{err_from_is_err_and}
use Rattle.commands.proofs.StopLaws.{coverage_no_object}
use Rattle.commands.proofs.ready.coverage.from_file.Goals as goal

pub returns-in_err-object-clause-prepares : goal.returns-in_err-object-clause-prepares
returns-in_err-object-clause-prepares g c =
    let p = err_from_is_err_and c.from_residual.result c.from_residual.ensures.1 in
    λ name holds. rw (p.1, p.2.0) (coverage_no_object _ _ _ c.args.product name c.args.bytes.now
    (map (λ name. name.now) c.args.traces.now) c.in_err-object.field-0.0
    refl holds c.in_err-object.ensures.refused)

pub over_object-requires-clause-object : goal.over_object-requires-clause-object
over_object-requires-clause-object g c = c.in_ok-object.ensures.read.checked

pub returns-clause-prepares : goal.returns-clause-prepares
returns-clause-prepares g c = λ name holds. c.over_object.ensures.prepares name c.args.bytes.now holds c.in_ok-object.ensures.read

pub returns-clause-named : goal.returns-clause-named
returns-clause-named g c =
    subst (λ (names : List (List ℕ)). IfErr c.over_object.result (TellsSource names))
    (sym (listed_names c.args.product c.args.bytes.now c.in_ok-object.object c.in_ok-object.ensures.read)) c.over_object.ensures.named
