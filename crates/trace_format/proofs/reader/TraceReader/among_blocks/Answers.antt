use Rattle.std.proofs.Common.{rules}
use Rattle.std.proofs.Common.{◌≡◌, ℕ, subst, arith}
use Rattle.std.proofs.lemmas.Result.{err_from_is_err_and}
use Rattle.trace_format.specs.Reader.{InBlocks}
use Rattle.trace_format.proofs.reader.TraceReader.among_blocks.Goals as goal

pub returns-in_err-entries-clause-gives : goal.returns-in_err-entries-clause-gives
returns-in_err-entries-clause-gives g c = λ bytes given told b.
    let none : c.args.left ≡ 0 = omega (arith, c.if-left-gt0.false) in
    let p = err_from_is_err_and c.from_residual.result c.from_residual.ensures.1 in
    rw (p.1, p.2) (c.in_err-entries.ensures.cause bytes given told (subst (λ (n : ℕ). InBlocks c.args.self.now bytes given n) none b))

pub returns-then-left-gt0 : goal.returns-then-left-gt0
returns-then-left-gt0 g = search rules

pub returns : goal.returns
returns g = search rules
