use Rattle.std.proofs.Common.{rules}
use Rattle.std.proofs.Common.{refl, subst}
use Rattle.trace_format.specs.declared.reader.Stage.{Stage}
use Rattle.trace_format.specs.Reader.{ReadsIn}
use Rattle.trace_format.proofs.ReaderLaws.{head_given}
use Rattle.trace_format.proofs.reader.TraceReader.advance.Goals as goal

pub returns-in-Head-clause-answers : goal.returns-in-Head-clause-answers
returns-in-Head-clause-answers g c = λ bytes given told reads.
    head_given c.args.self.now _ bytes given (subst (λ (s : Stage). ReadsIn s c.args.self.now bytes given) c.in-Head.is reads) refl refl refl refl refl

pub returns-in_err-among_blocks-in-Blocks : goal.returns-in_err-among_blocks-in-Blocks
returns-in_err-among_blocks-in-Blocks g = search rules

pub returns-in-Failed : goal.returns-in-Failed
returns-in-Failed g = search rules

pub returns-in-Closed : goal.returns-in-Closed
returns-in-Closed g = search rules

pub returns-in_ok-in_history-in-History : goal.returns-in_ok-in_history-in-History
returns-in_ok-in_history-in-History g = search rules

pub returns-in_ok-among_blocks-in-Blocks : goal.returns-in_ok-among_blocks-in-Blocks
returns-in_ok-among_blocks-in-Blocks g = search rules

pub returns-in_err-in_history-in-History : goal.returns-in_err-in_history-in-History
returns-in_err-in_history-in-History g = search rules
