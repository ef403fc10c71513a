use Rattle.std.proofs.Common.{◌≡◌, ◌++◌, ◌∙◌, ap, length, take, drop, subst, sym, arith}
use Rattle.std.proofs.lemmas.Grind.{common_steps}
use Rattle.xcov_report.specs.Table.{row_at, HaveLines}
use Rattle.xcov_report.proofs.Same.{have_lines}
use Rattle.xcov_report.proofs.table.table.Goals as goal

pub returns-clause-lengths : goal.returns-clause-lengths
returns-clause-lengths c =
    let rows = c.in_ok-rows.rows in
    let kept = c.keep_stretches.new.rows in
    let given = c.as_mut_slice.ensures.value in
    let count : length kept ≡ length rows.items = c.keep_stretches.ensures.count ∙ ap length given in
    let whole : take rows.len (kept ++ drop (length kept) rows.items) ≡ kept = grind (arith, common_steps, count) in
    subst (λ all. HaveLines all c.args.files.now) (sym whole)
    (have_lines rows.items kept c.args.files.now c.in_ok-rows.ensures.lengths count
    (λ n. c.keep_stretches.ensures.lengths n ∙ ap (λ all. length (row_at all n)) given))
