use Rattle.std.proofs.Common.{codes}
use Rattle.commands.proofs.RunLaws.{appended, three}
use Rattle.commands.proofs.run_lines.push_ending.Goals as goal

pub returns-in_ok-extend_from_slice-in-Some-2 : goal.returns-in_ok-extend_from_slice-in-Some-2
returns-in_ok-extend_from_slice-in-Some-2 c =
    rw (c.in-Some.is, ← c.as_slice.ensures) (three c.extend_from_slice-in-Some-2.result c.args.text.now.items _ _ _ (codes "ending: exception ") c.as_slice.result.now (codes "\n")
    c.in_ok-extend_from_slice-in-Some.ensures.items c.in_ok-extend_from_slice-in-Some-2.ensures.items c.extend_from_slice-in-Some-2.ensures.items)

pub returns-in-None : goal.returns-in-None
returns-in-None c = rw c.in-None.is (appended c.extend_from_slice-in-None.result c.args.text.now.items _ (codes "ending: return\n") c.extend_from_slice-in-None.ensures.items)
