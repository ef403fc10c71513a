use Rattle.std.proofs.Common.{◌≡◌, Ok}
use Rattle.std.proofs.lemmas.Result.{on_ok_weaker, IfErr-weaker}
use Rattle.object_format.specs.Checked.{IsSound, IsRefusal}
use Rattle.object_format.specs.File.{structured}
use Rattle.object_format.specs.Read.{IsFailure}
use Rattle.object_format.proofs.ReadLaws.{kept, not_kept, check_fails}
use Rattle.object_format.proofs.read.checked.Goals as goal

pub returns-clause-read : goal.returns-clause-read
returns-clause-read c =
    let there = c.in_ok-value.ensures.exact in
    kept (λ o. (structured c.args.bytes.now ≡ Ok o) × IsSound o) c.check-passed.result c.in_ok-value.value c.and.result c.and.ensures
    (on_ok_weaker c.check-passed.result (λ s. (there, s)) c.check-passed.ensures.sound)

pub returns-clause-fault : goal.returns-clause-fault
returns-clause-fault c =
    let bytes = c.args.bytes.now in
    let value = c.in_ok-value.value in
    not_kept (IsFailure bytes) c.check-passed.result value c.and.result c.and.ensures
    (IfErr-weaker c.check-passed.result (IsRefusal value) (IsFailure bytes) (λ f h. check_fails bytes value f c.in_ok-value.ensures.exact h) c.check-passed.ensures.refused)
