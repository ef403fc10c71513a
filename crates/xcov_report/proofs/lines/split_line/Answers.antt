use Rattle.std.proofs.Common.{sym, ◌≡◌, ◌+◌, ◌-◌, length, drop, take, arith}
use Rattle.std.proofs.lemmas.Bool.{eqb-false}
use Rattle.std.proofs.lemmas.Grind.{common_steps}
use Rattle.xcov_report.proofs.Feeds.{lines_found, lines_none}
use Rattle.xcov_report.proofs.lines.split_line.Goals as goal

pub returns-in-Some-clause-split : goal.returns-in-Some-clause-split
returns-in-Some-clause-split c =
    let h = lines_found c.args.bytes.now c.in-Some.end (sym c.in-Some.ensures) in
    let all : take (length c.args.bytes.now - (c.in-Some.end + 1)) (drop (c.in-Some.end + 1) c.args.bytes.now) ≡ drop (c.in-Some.end + 1) c.args.bytes.now = grind (arith, common_steps) in
    rw (all, c.without_return.ensures) h

pub returns-in-None-clause-split : goal.returns-in-None-clause-split
returns-in-None-clause-split c = lines_none c.args.bytes.now (sym c.in-None.ensures) (grind (arith, eqb-false (length c.args.bytes.now) 0 (sym c.if-is_empty.ensures)))
