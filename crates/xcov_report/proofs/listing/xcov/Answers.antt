use Rattle.std.proofs.Common.{◌++◌, ◌∙◌, ap}
use Rattle.xcov_report.specs.Table.{marked_files}
use Rattle.xcov_report.specs.Text.{head_text, files_text}
use Rattle.xcov_report.proofs.Same.{same_files}
use Rattle.xcov_report.proofs.listing.xcov.Goals as goal

pub returns : goal.returns
returns c =
    let files = c.args.files.now in
    let head = head_text c.args.level c.args.traces in
    let rows = c.in_ok-rows.rows.items in
    let told = c.as_slice.result.now in
    c.in_ok-put_files.ensures
    ∙ ap (λ text. text ++ marked_files c.as_slice-2.result.now files)
    (c.in_ok-put_head.ensures ∙ ap (λ text. text ++ head) c.new-text.ensures.items)
    ∙ ap (λ text. head ++ text)
    (ap (λ all. marked_files all files) c.as_slice-2.ensures.value
    ∙ same_files rows files told c.in_ok-rows.ensures.lengths c.in_ok-rows.ensures.kept
    ∙ ap (λ all. files_text all files) (c.as_slice.ensures.value ∙ c.in_ok-stretches.ensures))
