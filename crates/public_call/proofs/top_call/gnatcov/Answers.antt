use Rattle.commands.proofs.ClauseLaws.{usage_law, done_law, files_law, others_law, line_law, rose_law, read_fault_law, write_fault_law}
use Rattle.commands.proofs.CompleteLaws.{compile_law, run_law, trap_law, coverage_law, consolidate_law}
use Rattle.commands.proofs.CompleteRunsLaws.{coverage_taken, consolidation_taken}
use Rattle.commands.proofs.ConsolidateLaws.{consolidated_law, program_law}
use Rattle.commands.proofs.HeadlineLaws.{headline_law}
use Rattle.commands.proofs.LeavesLaws.{object_law, trace_law}
use Rattle.commands.proofs.PairLaws.{pairs_law, json_pairs_law}
use Rattle.commands.proofs.RegroupingLaws as regrouping
use Rattle.commands.proofs.RunsLaw.{runs_law}
use Rattle.public_call.proofs.top_call.gnatcov.Goals as goal

pub returns-clause-usage : goal.returns-clause-usage
returns-clause-usage g c = usage_law _ _ _ c.answer.ensures

pub returns-clause-done : goal.returns-clause-done
returns-clause-done g c = done_law _ _ _ c.answer.ensures

pub returns-clause-unchanged : goal.returns-clause-unchanged
returns-clause-unchanged g c = files_law _ _ _ c.answer.ensures

pub returns-clause-others : goal.returns-clause-others
returns-clause-others g c = others_law _ _ _ c.answer.ensures

pub returns-clause-one_line : goal.returns-clause-one_line
returns-clause-one_line g c = line_law _ _ _ c.answer.ensures

pub returns-clause-read_rose : goal.returns-clause-read_rose
returns-clause-read_rose g c = rose_law _ _ _ c.answer.ensures

pub returns-clause-read_fault : goal.returns-clause-read_fault
returns-clause-read_fault g c = read_fault_law _ _ _ c.answer.ensures

pub returns-clause-write_fault : goal.returns-clause-write_fault
returns-clause-write_fault g c = write_fault_law _ _ _ c.answer.ensures

pub returns-clause-runs : goal.returns-clause-runs
returns-clause-runs g c = runs_law _ _ _ c.answer.ensures

pub returns-clause-source : goal.returns-clause-source
returns-clause-source g c = headline_law _ _ _ c.answer.ensures

pub returns-clause-pairs : goal.returns-clause-pairs
returns-clause-pairs g c = pairs_law _ _ _ c.answer.ensures

pub returns-clause-json_pairs : goal.returns-clause-json_pairs
returns-clause-json_pairs g c = json_pairs_law _ _ _ c.answer.ensures

pub returns-clause-consolidated : goal.returns-clause-consolidated
returns-clause-consolidated g c = consolidated_law _ _ _ c.answer.ensures

pub returns-clause-merged : goal.returns-clause-merged
returns-clause-merged g c = program_law _ _ _ c.answer.ensures

pub returns-clause-object : goal.returns-clause-object
returns-clause-object g c = object_law _ _ _ c.answer.ensures

pub returns-clause-trace : goal.returns-clause-trace
returns-clause-trace g c = trace_law _ _ _ c.answer.ensures

pub returns-clause-files_covered : goal.returns-clause-files_covered
returns-clause-files_covered g c = regrouping.files_covered _ _ _ c.answer.ensures

pub returns-clause-files_merged : goal.returns-clause-files_merged
returns-clause-files_merged g c = regrouping.files_consolidated _ _ _ c.answer.ensures

pub returns-clause-grouping : goal.returns-clause-grouping
returns-clause-grouping g c = regrouping.coverage_law _ _ _ c.answer.ensures

pub returns-clause-merged_grouping : goal.returns-clause-merged_grouping
returns-clause-merged_grouping g c = regrouping.consolidation_law _ _ _ c.answer.ensures

pub returns-clause-compiles : goal.returns-clause-compiles
returns-clause-compiles g c = compile_law _ _ _ c.answer.ensures

pub returns-clause-ends : goal.returns-clause-ends
returns-clause-ends g c = run_law _ _ _ c.answer.ensures

pub returns-clause-no_trap : goal.returns-clause-no_trap
returns-clause-no_trap g c = trap_law _ _ _ c.answer.ensures

pub returns-clause-covers : goal.returns-clause-covers
returns-clause-covers g c = coverage_law _ _ _ c.answer.ensures

pub returns-clause-consolidates : goal.returns-clause-consolidates
returns-clause-consolidates g c = consolidate_law _ _ _ c.answer.ensures

pub returns-clause-covers_runs : goal.returns-clause-covers_runs
returns-clause-covers_runs g c = coverage_taken _ _ _ c.answer.ensures

pub returns-clause-consolidates_runs : goal.returns-clause-consolidates_runs
returns-clause-consolidates_runs g c = consolidation_taken _ _ _ c.answer.ensures
