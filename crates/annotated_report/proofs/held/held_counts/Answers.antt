use Rattle.std.proofs.Common.{◌≡◌, ◌≤◌, ℕ, length, slice_index_or, arith}
use Rattle.std.proofs.lemmas.Grind.{common_steps}
use Rattle.annotated_report.proofs.Holding.{all_from_none}
use Rattle.annotated_report.proofs.held.held_counts.Goals as goal

pub loop-finding-init : goal.loop-finding-init
loop-finding-init c =
    let counts = c.in_ok-counts.counts.items in
    let long : length counts ≡ length c.args.regions.now = grind (arith, common_steps) in
    let few : (n : ℕ) → slice_index_or counts n 0 ≤ 0 = λ n. grind (arith, common_steps) in
    let none : (n : ℕ) → slice_index_or counts n 0 ≡ 0 = λ n. let h = few n in omega (arith, h) in
    record {
      within = omega arith;
      long = long;
      few = few;
      rest = all_from_none c.args.regions.now counts c.args.findings.now long none;
    }
