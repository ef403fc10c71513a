use Rattle.std.proofs.Common.{◌≡◌, ℕ, ◌+◌, Some, refl, sym, subst, arith, rules}
use Rattle.std.specs.Prelude.{slice_get}
use Rattle.std.proofs.lemmas.Option.{slice_get_past, slice_get_read}
use Rattle.trace_format.specs.Stream.{StandsAt}
use Rattle.trace_format.proofs.StreamLaws.{next_byte, no_byte, byte_taken}
use Rattle.trace_format.proofs.stream.Stream.byte.Goals as goal

pub returns-then-self-len-clause-takes : goal.returns-then-self-len-clause-takes
returns-then-self-len-clause-takes g c = λ bytes taken told stands small.
    let f = c.in_ok-fetch.ensures.fetches bytes taken told stands small in
    let same : taken ≡ taken + 0 = omega arith in
    (sym (no_byte c.fetch.new.self bytes taken f.1 (slice_get_past c.fetch.new.self.part.items c.fetch.new.self.at (omega (arith, c.if-self-len.true, c.len.ensures)))), subst (λ (n : ℕ). StandsAt c.fetch.new.self bytes n) same f.0)

pub returns-clause-takes : goal.returns-clause-takes
returns-clause-takes g c = λ bytes taken told stands small.
    let f = c.in_ok-fetch.ensures.fetches bytes taken told stands small in
    let e : slice_get c.fetch.new.self.part.items c.fetch.new.self.at ≡ Some c.index-byte.result.now = slice_get_read c.fetch.new.self.part.items _ c.fetch.new.self.at _ refl (omega (arith, c.if-self-len.false, c.len.ensures)) (search rules) in
    (sym (next_byte c.fetch.new.self bytes taken _ f.0 e), byte_taken c.fetch.new.self _ bytes taken _ f.0 e refl refl refl refl)

pub returns-in_err-fetch : goal.returns-in_err-fetch
returns-in_err-fetch g = search rules
