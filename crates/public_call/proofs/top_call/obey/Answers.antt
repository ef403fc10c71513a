use Rattle.command_words.specs.Command.{task_view}
use Rattle.commands.specs.Outcome.{call_of}
use Rattle.commands.proofs.RefusalLaws.{refused_because}
use Rattle.public_call.proofs.top_call.obey.Goals as goal

pub returns-in-Err : goal.returns-in-Err
returns-in-Err g c =
    refused_because (task_view c.args.command.now)
    (call_of g.F.Files.held g.F.Files.reads_failed g.F.Files.writes_failed g.S.Sink.written g.S.Sink.failures c.args.files.now c.prepare.new.files c.args.out.now c.refuse.new.out)
    c.in-Err.refusal c.refuse.result c.in-Err.ensures.prepares c.in-Err.ensures.named c.refuse.ensures c.in-Err.ensures.same c.in-Err.ensures.writes
