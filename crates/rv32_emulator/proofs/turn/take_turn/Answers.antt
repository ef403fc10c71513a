use Rattle.std.proofs.Common.{◌≡◌, suc, ℤ, List, [], ◌∷◌, ◌++◌, Err, refl, sym, ap, subst, ◌∙◌, rules, slice_get, drop, w32, SFits}
use Rattle.std.proofs.lemmas.Int.{to_z-of_z}
use Rattle.std.proofs.lemmas.List.{append-nil}
use Rattle.rv_machine.specs.Machine.{image_of, state_of}
use Rattle.rv_semantics.specs.declared.stepped.Stepped.TheVariants.{Went, Get, Put, End, Trap}
use Rattle.rv_semantics.specs.Run.{Run, before, runs}
use Rattle.rv_semantics.specs.Run.Outcome.{Ended, Trapped}
use Rattle.rv_semantics.specs.State.{State, given}
use Rattle.trace_record.specs.Recorded.{Recorded}
use Rattle.rv32_emulator.specs.Ran.{HoldsPart}
use Rattle.rv32_emulator.proofs.Turning.{stands_part, stepped, seen_part, ended, on, over}
use Rattle.rv32_emulator.proofs.turn.take_turn.Goals as goal

pub returns-in_err-show-in-Went-clause-turned : goal.returns-in_err-show-in-Went-clause-turned
returns-in_err-show-in-Went-clause-turned c run left count first transcript stands =
    let back : c.from_residual.result ≡ Err c.in_err-show-in-Went.field-0.0 = search rules in
    rw back (subst (λ (r : Recorded). HoldsPart run r first c.args.out.now.items) (sym c.in_err-show-in-Went.ensures.refused)
    (stands_part run (image_of c.args.machine.now) (suc left) (state_of c.args.machine.now) c.args.words.now c.args.recorder.now first c.args.out.now.items count stands))

pub returns-in_err-show-in-Get-clause-turned : goal.returns-in_err-show-in-Get-clause-turned
returns-in_err-show-in-Get-clause-turned c run left count first transcript stands =
    let back : c.from_residual-in_err-show-in-Get.result ≡ Err c.in_err-show-in-Get.field-0.0 = search rules in
    rw back (subst (λ (r : Recorded). HoldsPart run r first c.args.out.now.items) (sym c.in_err-show-in-Get.ensures.refused)
    (stands_part run (image_of c.args.machine.now) (suc left) (state_of c.args.machine.now) c.args.words.now c.args.recorder.now first c.args.out.now.items count stands))

pub returns-in_err-show-in-Put-clause-turned : goal.returns-in_err-show-in-Put-clause-turned
returns-in_err-show-in-Put-clause-turned c run left count first transcript stands =
    let back : c.from_residual-in_err-show-in-Put.result ≡ Err c.in_err-show-in-Put.field-0.0 = search rules in
    rw back (subst (λ (r : Recorded). HoldsPart run r first c.args.out.now.items) (sym c.in_err-show-in-Put.ensures.refused)
    (stands_part run (image_of c.args.machine.now) (suc left) (state_of c.args.machine.now) c.args.words.now c.args.recorder.now first c.args.out.now.items count stands))

pub returns-in_err-show-in-End-clause-turned : goal.returns-in_err-show-in-End-clause-turned
returns-in_err-show-in-End-clause-turned c run left count first transcript stands =
    let back : c.from_residual-in_err-show-in-End.result ≡ Err c.in_err-show-in-End.field-0.0 = search rules in
    rw back (subst (λ (r : Recorded). HoldsPart run r first c.args.out.now.items) (sym c.in_err-show-in-End.ensures.refused)
    (stands_part run (image_of c.args.machine.now) (suc left) (state_of c.args.machine.now) c.args.words.now c.args.recorder.now first c.args.out.now.items count stands))

pub returns-in_err-put-in-Put-clause-turned : goal.returns-in_err-put-in-Put-clause-turned
returns-in_err-put-in-Put-clause-turned c run left count first transcript stands =
    let back : c.from_residual-in_err-put-in-Put.result ≡ Err c.in_err-put-in-Put.field-0.0 = search rules in
    let same : c.put.new.out.items ≡ c.args.out.now.items = c.in_err-put-in-Put.ensures.refused in
    let image = image_of c.args.machine.now in
    let s = state_of c.args.machine.now in
    let whole = stepped run image left s c.args.words.now c.args.recorder.now first c.args.out.now.items count transcript stands
    (Put c.in-Put.seen c.in-Put.word, state_of c.step.new.self) c.in-Put.ensures.answer in
    rw back (subst (λ (out : List ℤ). HoldsPart run c.show-in-Put.new.recorder first out) (sym same)
    (seen_part run image left s c.args.words.now c.args.recorder.now first c.args.out.now.items count transcript stands
    c.in-Put.seen (c.in-Put.word ∷ []) (runs image left (state_of c.step.new.self) c.args.words.now) whole c.show-in-Put.new.recorder c.in_ok-show-in-Put.ensures.recorded))

pub returns-in_ok-show-in-Went-clause-turned : goal.returns-in_ok-show-in-Went-clause-turned
returns-in_ok-show-in-Went-clause-turned c run left count first transcript stands =
    let image = image_of c.args.machine.now in
    let s = state_of c.args.machine.now in
    on run image left s c.args.words.now c.args.recorder.now first c.args.out.now.items count transcript stands
    c.in-Went.seen [] (state_of c.step.new.self) c.args.words.now
    (stepped run image left s c.args.words.now c.args.recorder.now first c.args.out.now.items count transcript stands
    (Went c.in-Went.seen, state_of c.step.new.self) c.in-Went.ensures.answer)
    c.show.new.recorder c.in_ok-show-in-Went.ensures.recorded c.args.out.now.items (sym (append-nil c.args.out.now.items))

pub returns-in_ok-show-in-Get-clause-turned : goal.returns-in_ok-show-in-Get-clause-turned
returns-in_ok-show-in-Get-clause-turned c run left count first transcript stands =
    let image = image_of c.args.machine.now in
    let s = state_of c.args.machine.now in
    let given_so : state_of c.give.new.self ≡ given (state_of c.step.new.self) (slice_get c.args.words.now 0) =
    c.give.ensures.state ∙ ap (given (state_of c.step.new.self)) c.next_word-word.ensures.first in
    let same : runs image left (state_of c.give.new.self) c.next_word-word.result.1.now
    ≡ runs image left (given (state_of c.step.new.self) (slice_get c.args.words.now 0)) (drop 1 c.args.words.now) =
    ap (λ (t : State). runs image left t c.next_word-word.result.1.now) given_so
    ∙ ap (runs image left (given (state_of c.step.new.self) (slice_get c.args.words.now 0))) c.next_word-word.ensures.rest in
    let whole = stepped run image left s c.args.words.now c.args.recorder.now first c.args.out.now.items count transcript stands
    (Get c.in-Get.seen, state_of c.step.new.self) c.in-Get.ensures.answer in
    on run image left s c.args.words.now c.args.recorder.now first c.args.out.now.items count transcript stands
    c.in-Get.seen [] (state_of c.give.new.self) c.next_word-word.result.1.now
    (ap (λ (x : Run). before stands.seen stands.put (before (c.in-Get.seen ∷ []) [] x)) same ∙ whole)
    c.show-in-Get.new.recorder c.in_ok-show-in-Get.ensures.recorded c.args.out.now.items (sym (append-nil c.args.out.now.items))

pub returns-in_ok-put-in-Put-clause-turned : goal.returns-in_ok-put-in-Put-clause-turned
returns-in_ok-put-in-Put-clause-turned c run left count first transcript stands =
    let image = image_of c.args.machine.now in
    let s = state_of c.args.machine.now in
    let fits : SFits w32 c.in-Put.word = search rules in
    let put_so : c.put.new.out.items ≡ c.args.out.now.items ++ c.in-Put.word ∷ [] =
    c.in_ok-put-in-Put.ensures.put ∙ ap (λ (w : ℤ). c.args.out.now.items ++ w ∷ []) (to_z-of_z w32 c.in-Put.word fits) in
    on run image left s c.args.words.now c.args.recorder.now first c.args.out.now.items count transcript stands
    c.in-Put.seen (c.in-Put.word ∷ []) (state_of c.step.new.self) c.args.words.now
    (stepped run image left s c.args.words.now c.args.recorder.now first c.args.out.now.items count transcript stands
    (Put c.in-Put.seen c.in-Put.word, state_of c.step.new.self) c.in-Put.ensures.answer)
    c.show-in-Put.new.recorder c.in_ok-show-in-Put.ensures.recorded c.put.new.out.items put_so

pub returns-in_ok-show-in-End-clause-turned : goal.returns-in_ok-show-in-End-clause-turned
returns-in_ok-show-in-End-clause-turned c run left count first transcript stands =
    let image = image_of c.args.machine.now in
    let s = state_of c.args.machine.now in
    let whole = stepped run image left s c.args.words.now c.args.recorder.now first c.args.out.now.items count transcript stands
    (End c.in-End.seen c.in-End.number, state_of c.step.new.self) c.in-End.ensures.answer in
    ended run image left s c.args.words.now c.args.recorder.now first c.args.out.now.items count transcript stands
    c.in-End.seen [] (record { entries = []; output = []; outcome = Ended c.in-End.number }) whole
    c.show-in-End.new.recorder c.in_ok-show-in-End.ensures.recorded c.args.out.now.items (sym (append-nil c.args.out.now.items)) refl refl

pub returns-in-Trap-clause-turned : goal.returns-in-Trap-clause-turned
returns-in-Trap-clause-turned c run left count first transcript stands =
    let image = image_of c.args.machine.now in
    let s = state_of c.args.machine.now in
    let whole = stepped run image left s c.args.words.now c.args.recorder.now first c.args.out.now.items count transcript stands
    (Trap c.in-Trap.pc c.in-Trap.why, state_of c.step.new.self) c.in-Trap.ensures.answer in
    let all = over run image left s c.args.words.now c.args.recorder.now first c.args.out.now.items count transcript stands (Trapped c.in-Trap.pc c.in-Trap.why) whole in
    (all.0, all.2)
