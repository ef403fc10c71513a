use Rattle.std.proofs.Common.{arith}
use Rattle.typed_program.proofs.TextLaws.{none_so_far, one_more, all_noted}
use Rattle.typed_program.proofs.texts.generics_among.Goals as goal

pub loop-declared-init : goal.loop-declared-init
loop-declared-init c = none_so_far c.args.types.now c.new-generics.result.items c.new-generics.ensures.items

pub loop-declared-preserved : goal.loop-declared-preserved
loop-declared-preserved c =
    one_more c.args.types.now c.loop-declared.declared-index c.loop-declared.generics.items c.note.new.generics.items _
    c.loop-declared.invariant (omega arith) c.in_ok-note.ensures

pub returns : goal.returns
returns c =
    all_noted c.args.types.now c.loop-declared.declared-index c.loop-declared.generics.items c.loop-declared.invariant (omega arith)
