use Rattle.std.proofs.Common.{arith}
use Rattle.ada_parser.proofs.RefusalLaws.{is_failed, parses}
use Rattle.ada_parser.proofs.refusal.parse_within.Goals as goal

pub returns-in-Err-clause-refused : goal.returns-in-Err-clause-refused
returns-in-Err-clause-refused c =
    is_failed c.args.extent c.args.tokens.now c.in-Err.fault c.failure_of.result c.in-Err.ensures c.failure_of.ensures

pub returns-in-Ok-clause-nodes : goal.returns-in-Ok-clause-nodes
returns-in-Ok-clause-nodes c = grind (arith, parses)
