use Rattle.std.proofs.Common.{arith}
use Rattle.std.proofs.lemmas.Grind.{common_steps}
use Rattle.std.proofs.Common.{◌∙◌, refl}
use Rattle.std.proofs.lemmas.Result.{err_from_is_err_and}
use Rattle.trace_format.specs.Reader.{file_name}
use Rattle.coverage_set.proofs.ReadLaws.{goes_on, closes_trace, closes_file, told_still, next_as, not_close}
use Rattle.coverage_set.proofs.reading.Reading.read.Goals as goal

pub returns-in_err-entry-clause-cause : goal.returns-in_err-entry-clause-cause
returns-in_err-entry-clause-cause g c = λ bytes told.
    let p = err_from_is_err_and c.from_residual.result c.from_residual.ensures.1 in
    let so_far = c.loop.invariant.so_far in
    let here = told_still (g.F.Files.held c.args.files.now) (file_name c.loop.reader) (file_name c.args.reader.now) bytes c.loop.invariant.name told in
    rw (p.1, p.2) (c.in_err-entry.ensures.cause bytes so_far.given (rw c.loop.invariant.held here) (so_far.reads bytes here))

pub returns-in-Close-clause-took : goal.returns-in-Close-clause-took
returns-in-Close-clause-took g c =
    closes_trace c.args.map.now (g.F.Files.held c.args.files.now) c.loop.reader c.next_of.new.reader c.loop.self c.loop.counter c.in-Close.digest
    (next_as (g.F.Files.held c.loop.files) (g.F.Files.held c.args.files.now) c.loop.reader c.next_of.new.reader _ _ c.loop.invariant.held c.in-Close.is
    c.in_ok-entry.ensures.gives) c.loop.invariant.so_far

pub returns-in-Close-clause-told : goal.returns-in-Close-clause-told
returns-in-Close-clause-told g c = λ bytes told.
    closes_file c.args.map.now (g.F.Files.held c.args.files.now) c.loop.reader c.next_of.new.reader c.loop.self c.loop.counter c.in-Close.digest
    (next_as (g.F.Files.held c.loop.files) (g.F.Files.held c.args.files.now) c.loop.reader c.next_of.new.reader _ _ c.loop.invariant.held c.in-Close.is
    c.in_ok-entry.ensures.gives) c.loop.invariant.so_far bytes
    (told_still (g.F.Files.held c.args.files.now) (file_name c.loop.reader) (file_name c.args.reader.now) bytes c.loop.invariant.name told)

pub loop-preserved : goal.loop-preserved
loop-preserved g c =
    let next = next_as (g.F.Files.held c.loop.files) (g.F.Files.held c.args.files.now) c.loop.reader c.next_of.new.reader c.in_ok-entry.entry c.in_ok-entry.entry
    c.loop.invariant.held refl c.in_ok-entry.ensures.gives in
    record {
      so_far = goes_on c.args.map.now (g.F.Files.held c.args.files.now) c.loop.reader c.next_of.new.reader c.loop.self c.see.new.self c.loop.counter c.in_ok-entry.entry
          next (not_close c.in_ok-entry.entry c.in_default.not-Close) c.in_ok-see.ensures c.loop.invariant.so_far;
      name = next.name ∙ c.loop.invariant.name;
      held = c.in_ok-entry.ensures.same ∙ c.loop.invariant.held;
      reads = c.in_ok-entry.ensures.stays (λ e. cc e) ∙ c.loop.invariant.reads;
      writes = c.in_ok-entry.ensures.writes ∙ c.loop.invariant.writes;
    }

pub returns-in-Close-clause-same : goal.returns-in-Close-clause-same
returns-in-Close-clause-same g c = grind (arith, common_steps)

pub returns-in-Close-clause-failed : goal.returns-in-Close-clause-failed
returns-in-Close-clause-failed g c = grind (arith, common_steps)

pub returns-in-Close-clause-stays : goal.returns-in-Close-clause-stays
returns-in-Close-clause-stays g c = grind (arith, common_steps)

pub unreachable-requires : goal.unreachable-requires
unreachable-requires g c = grind (arith, common_steps)

pub loop-init : goal.loop-init
loop-init g c = grind (arith, common_steps)
