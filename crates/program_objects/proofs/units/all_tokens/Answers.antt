use Rattle.std.proofs.Common.{arith}
use Rattle.std.proofs.lemmas.Grind.{common_steps}
use Rattle.std.proofs.lemmas.List.{drop_all}
use Rattle.program_objects.proofs.UnitLaws.{next_of, lexed_more, lexed_all, each_lexed}
use Rattle.program_objects.proofs.units.all_tokens.Goals as goal

pub loop-file-preserved : goal.loop-file-preserved
loop-file-preserved c =
    let next = rw (next_of c.args.files.now c.loop-file.file c.index-files-file.result c.loop-file-test.true c.index-files-file.is) at c.loop-file.invariant in
    rw (c.in_ok-push.ensures.items, c.from.ensures)
    (lexed_more next (rw c.as_slice.ensures at c.in_ok-tokens.ensures.tokens) (record { each = rw c.as_slice.ensures at c.in_ok-tokens.ensures.each; places = c.in_ok-tokens.ensures.places }))

pub returns-clause-tokens : goal.returns-clause-tokens
returns-clause-tokens c = lexed_all (rw (drop_all c.loop-file.file c.args.files.now c.loop-file-test.false) at c.loop-file.invariant)

pub returns-clause-lexed : goal.returns-clause-lexed
returns-clause-lexed c = each_lexed (rw (drop_all c.loop-file.file c.args.files.now c.loop-file-test.false) at c.loop-file.invariant)

pub lex-requires : goal.lex-requires
lex-requires c = grind (arith, common_steps) steps 2000000

pub returns-in_err-tokens-clause-fault : goal.returns-in_err-tokens-clause-fault
returns-in_err-tokens-clause-fault c = grind (arith, common_steps) steps 2000000
