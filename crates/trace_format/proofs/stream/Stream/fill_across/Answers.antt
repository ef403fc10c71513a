use Rattle.std.proofs.lemmas.Grind.{common_steps}
use Rattle.std.proofs.Common.{◌≡◌, ℕ, ◌+◌, ◌<◌, length, sym, ap, subst, ◌∙◌, arith, rules}
use Rattle.std.proofs.lemmas.List.{length-set}
use Rattle.trace_format.specs.Stream.{StandsAt, count_of}
use Rattle.trace_format.proofs.StreamLaws.{filled_short, filled_next}
use Rattle.trace_format.proofs.stream.Stream.fill_across.Goals as goal

pub returns-in_default-clause-takes : goal.returns-in_default-clause-takes
returns-in_default-clause-takes g c = λ bytes taken told stands small room.
    let i = c.loop-place.invariant.0 bytes taken told stands small room in
    let within : c.loop-place.place < length c.args.into.now = omega (arith, c.loop-place-test.true, c.loop-place.auto.place-end, c.loop-place.invariant.1) in
    let t = c.in_ok-byte.ensures.takes bytes (taken + c.loop-place.place) (rw (c.loop-place.invariant.3, c.loop-place.invariant.2) told) i.1 (omega (arith, small, room, within)) in
    let same : taken + c.loop-place.place + count_of c.in_ok-byte.field-0 ≡ taken + c.loop-place.place = ap (λ o. taken + c.loop-place.place + count_of o) c.in_default.is ∙ omega arith in
    (filled_short c.loop-place.into bytes taken c.loop-place.place (length c.args.into.now) i.0 (sym t.0 ∙ c.in_default.is) (omega (arith, within)), subst (λ (n : ℕ). StandsAt c.byte.new.self bytes n) same t.1)

pub loop-place-preserved : goal.loop-place-preserved
loop-place-preserved g c =
    let within : c.loop-place.place < length c.loop-place.into = omega (arith, c.loop-place-test.true, c.loop-place.auto.place-end, c.loop-place.invariant.1) in (
      λ bytes taken told stands small room.
          let i = c.loop-place.invariant.0 bytes taken told stands small room in
          let t = c.in_ok-byte.ensures.takes bytes (taken + c.loop-place.place) (rw (c.loop-place.invariant.3, c.loop-place.invariant.2) told) i.1 (omega (arith, small, room, within, c.loop-place.invariant.1)) in
          let same : taken + c.loop-place.place + count_of c.in_ok-byte.field-0 ≡ taken + (c.loop-place.place + 1) = ap (λ o. taken + c.loop-place.place + count_of o) c.in-Some.is ∙ omega arith in
          (filled_next c.loop-place.into bytes taken c.loop-place.place c.in-Some.byte i.0 (sym t.0 ∙ c.in-Some.is) within, subst (λ (n : ℕ). StandsAt c.byte.new.self bytes n) same t.1),
      length-set c.loop-place.into c.loop-place.place c.in-Some.byte ∙ c.loop-place.invariant.1,
      (search rules),
      (search rules),
      (search rules),
      (search rules),
    )

pub returns-in_default-clause-failed : goal.returns-in_default-clause-failed
returns-in_default-clause-failed g c = grind (arith, common_steps)

pub returns-in_default-clause-stays : goal.returns-in_default-clause-stays
returns-in_default-clause-stays g c = grind (arith, common_steps)

pub returns-in_default-clause-same : goal.returns-in_default-clause-same
returns-in_default-clause-same g c = grind (arith, common_steps)

pub returns-in_default-clause-len : goal.returns-in_default-clause-len
returns-in_default-clause-len g c = grind (arith, common_steps)

pub bounds-into-place : goal.bounds-into-place
bounds-into-place g c = grind (arith, common_steps)

pub loop-place-init : goal.loop-place-init
loop-place-init g c = grind (arith, common_steps)

pub returns : goal.returns
returns g c = record { takes = grind (arith, common_steps); count = search rules; len = search rules; name = search rules; same = search rules; failed = search rules; stays = search rules; later = search rules; writes = search rules }
