use Rattle.trace_format.proofs.TraceLaws.{is_long, is_closed, reads_back}
use Rattle.trace_format.proofs.write.write_parts.Goals as goal

pub returns-clause-len : goal.returns-clause-len
returns-clause-len c = is_long c.args.trace.now c.write_file.result c.write_file.ensures.spelled c.write_file.ensures.fits

pub returns-clause-reads_back : goal.returns-clause-reads_back
returns-clause-reads_back c =
    reads_back c.args.trace.now c.write_file.result c.write_file.ensures.spelled (is_closed c.args.trace.now c.write_file.result c.requires.passes c.write_file.ensures.fits)
