use Rattle.trace_format.proofs.ConsolidatedLaws.{is_long, is_sealed, reads_back}
use Rattle.trace_format.proofs.consolidated.write.write_consolidated.Goals as goal

pub returns-clause-len : goal.returns-clause-len
returns-clause-len c = is_long c.args.parts.now c.write_file.result c.write_file.ensures.spelled c.write_file.ensures.fits

pub returns-clause-reads_back : goal.returns-clause-reads_back
returns-clause-reads_back c =
    reads_back c.args.parts.now c.write_file.result c.write_file.ensures.spelled (is_sealed c.args.parts.now c.write_file.result c.requires c.write_file.ensures.fits)
