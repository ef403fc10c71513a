-- Shown by computing.
use Rattle.std.proofs.Common.{refl}
use Rattle.clap.proofs.OnLiterals.{clap_on_literals}
use Rattle.command_words.specs.Examples.{Compiles, CompilesSeveral, Runs, Covers, CoversInEachForm, Consolidates, Asks, Lacks, Exceeds}
use Rattle.command_words.specs.Lines.{given}
use Rattle.command_words.specs.Task.{compile_of, consolidate_of, coverage_of, run_of}

pub compiles : Compiles
unfolding clap_on_literals given compile_of
compiles = (refl, refl, refl, refl)

pub compiles_several : CompilesSeveral
unfolding clap_on_literals given compile_of
compiles_several = (refl, refl, refl, refl)

pub runs : Runs
unfolding clap_on_literals given run_of
runs = (refl, refl, refl)

pub covers : Covers
unfolding clap_on_literals given coverage_of
covers = (refl, refl, refl, refl, refl)

pub covers_in_each_form : CoversInEachForm
unfolding clap_on_literals given coverage_of
covers_in_each_form = (refl, refl, refl, refl)

pub consolidates : Consolidates
unfolding clap_on_literals given consolidate_of
consolidates = (refl, refl)

pub asks : Asks
unfolding clap_on_literals given run_of
asks = (refl, refl, refl, refl, refl)

pub lacks : Lacks
unfolding clap_on_literals given compile_of run_of consolidate_of
lacks = (refl, refl, refl, refl, refl, refl, refl, refl)

pub exceeds : Exceeds
unfolding clap_on_literals given compile_of run_of coverage_of
exceeds = (refl, refl, refl, refl, refl, refl, refl, refl)
