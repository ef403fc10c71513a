use Rattle.std.proofs.lemmas.Grind.{common_steps}
use Rattle.std.proofs.Common.{◌≡◌, ℕ, ◌+◌, ◌-◌, Some, Err, refl, sym, subst, ◌∙◌, arith, rules}
use Rattle.cov_base.specs.declared.failure.Failure.TheVariants.{WantOfMemory}
use Rattle.rv_machine.specs.Objects.{object_image, object_start, object_run}
use Rattle.rv_machine.specs.Machine.{image_of, state_of}
use Rattle.rv_semantics.specs.State.{Image, State}
use Rattle.rv32_emulator.specs.declared.turn.Turn.{Turn}
use Rattle.rv32_emulator.specs.Ran.{Stands, Turns}
use Rattle.rv32_emulator.proofs.Turning.{cut_off, at_start, nothing_part, ready}
use Rattle.rv32_emulator.proofs.emulator.run.Goals as goal

pub returns-in_err-machine-clause-answers : goal.returns-in_err-machine-clause-answers
returns-in_err-machine-clause-answers c =
    let back : c.from_residual.result ≡ Err WantOfMemory = search rules in
    rw back (nothing_part (object_run c.args.object.now c.args.budget c.args.input.now) c.args.recorder.now c.args.out.now.items c.requires.fresh)

pub loop-done-init : goal.loop-done-init
loop-done-init c =
    let o = c.args.object.now in
    let left : c.args.budget ≡ c.args.budget - 0 = omega arith in
    let state : object_start o ≡ state_of c.in_ok-machine.machine = sym c.in_ok-machine.ensures.state in
    record {
      within = omega arith;
      object = c.requires.same;
      image = c.in_ok-machine.ensures.image;
      stands =
          subst (λ (n : ℕ). Stands (object_run o c.args.budget c.args.input.now) (object_image o) n (state_of c.in_ok-machine.machine) c.args.input.now
          c.args.recorder.now c.args.out.now.items c.args.out.now.items 0) left
          (subst (λ (s : State). Stands (object_run o c.args.budget c.args.input.now) (object_image o) c.args.budget s c.args.input.now
          c.args.recorder.now c.args.out.now.items c.args.out.now.items 0) state
          (at_start (object_image o) c.args.budget (object_start o) c.args.input.now c.args.recorder.now c.args.out.now.items c.requires.fresh));
    }

pub returns-in_err-rest-clause-answers : goal.returns-in_err-rest-clause-answers
returns-in_err-rest-clause-answers c =
    let o = c.args.object.now in
    let back : c.from_residual-in_err-rest.result ≡ Err WantOfMemory = search rules in
    let pre = ready o c.args.budget c.args.input.now c.args.out.now.items c.loop-done.done (image_of c.loop-done.machine) (state_of c.loop-done.machine)
    c.loop-done.words.now c.loop-done.recorder c.loop-done.out.items c.loop-done-test.true c.loop-done.invariant.object c.loop-done.invariant.image
    c.requires.object c.loop-done.invariant.stands in
    rw back (c.in_err-rest.ensures.turned (object_run o c.args.budget c.args.input.now) (c.args.budget - (c.loop-done.done + 1)) c.loop-done.done
    c.args.out.now.items pre.0 pre.1)

pub returns-in-End-clause-answers : goal.returns-in-End-clause-answers
returns-in-End-clause-answers c =
    let o = c.args.object.now in
    let left = c.args.budget - (c.loop-done.done + 1) in
    let pre = ready o c.args.budget c.args.input.now c.args.out.now.items c.loop-done.done (image_of c.loop-done.machine) (state_of c.loop-done.machine)
    c.loop-done.words.now c.loop-done.recorder c.loop-done.out.items c.loop-done-test.true c.loop-done.invariant.object c.loop-done.invariant.image
    c.requires.object c.loop-done.invariant.stands in
    let turned = c.in_ok-rest.ensures.turned (object_run o c.args.budget c.args.input.now) left c.loop-done.done c.args.out.now.items pre.0 pre.1 in
    let ended = subst (λ (t : Turn). Turns (object_run o c.args.budget c.args.input.now) (image_of c.loop-done.machine) left (state_of c.take_turn.new.machine)
    c.take_turn.new.recorder c.args.out.now.items c.take_turn.new.out.items c.loop-done.done (Some t)) c.in-End.is turned in
    (ended.0, sym ended.1, ended.2)

pub returns-in-Trap-clause-answers : goal.returns-in-Trap-clause-answers
returns-in-Trap-clause-answers c =
    let o = c.args.object.now in
    let left = c.args.budget - (c.loop-done.done + 1) in
    let pre = ready o c.args.budget c.args.input.now c.args.out.now.items c.loop-done.done (image_of c.loop-done.machine) (state_of c.loop-done.machine)
    c.loop-done.words.now c.loop-done.recorder c.loop-done.out.items c.loop-done-test.true c.loop-done.invariant.object c.loop-done.invariant.image
    c.requires.object c.loop-done.invariant.stands in
    let turned = c.in_ok-rest.ensures.turned (object_run o c.args.budget c.args.input.now) left c.loop-done.done c.args.out.now.items pre.0 pre.1 in
    subst (λ (t : Turn). Turns (object_run o c.args.budget c.args.input.now) (image_of c.loop-done.machine) left (state_of c.take_turn.new.machine)
    c.take_turn.new.recorder c.args.out.now.items c.take_turn.new.out.items c.loop-done.done (Some t)) c.in-Trap.is turned

pub loop-done-preserved : goal.loop-done-preserved
loop-done-preserved c =
    let o = c.args.object.now in
    let left = c.args.budget - (c.loop-done.done + 1) in
    let pre = ready o c.args.budget c.args.input.now c.args.out.now.items c.loop-done.done (image_of c.loop-done.machine) (state_of c.loop-done.machine)
    c.loop-done.words.now c.loop-done.recorder c.loop-done.out.items c.loop-done-test.true c.loop-done.invariant.object c.loop-done.invariant.image
    c.requires.object c.loop-done.invariant.stands in
    let turned = c.in_ok-rest.ensures.turned (object_run o c.args.budget c.args.input.now) left c.loop-done.done c.args.out.now.items pre.0 pre.1 in
    let on = subst (λ (t : Turn). Turns (object_run o c.args.budget c.args.input.now) (image_of c.loop-done.machine) left (state_of c.take_turn.new.machine)
    c.take_turn.new.recorder c.args.out.now.items c.take_turn.new.out.items c.loop-done.done (Some t)) c.in-On.is turned in
    record {
      within = omega (arith, c.loop-done-test.true);
      object = c.in_ok-rest.ensures.object ∙ c.loop-done.invariant.object;
      image = c.in_ok-rest.ensures.image ∙ c.loop-done.invariant.image;
      stands =
          subst (λ (x : Image). Stands (object_run o c.args.budget c.args.input.now) x left (state_of c.take_turn.new.machine) c.in-On.rest.now
          c.take_turn.new.recorder c.args.out.now.items c.take_turn.new.out.items (c.loop-done.done + 1)) c.loop-done.invariant.image on;
    }

pub returns-clause-answers : goal.returns-clause-answers
returns-clause-answers c =
    let o = c.args.object.now in
    let spent : c.loop-done.done ≡ c.args.budget = omega (arith, c.loop-done.invariant.within, c.loop-done-test.false) in
    let left : c.args.budget - c.loop-done.done ≡ 0 = omega (arith, spent) in
    let cut = cut_off (object_run o c.args.budget c.args.input.now) (object_image o) (state_of c.loop-done.machine) c.loop-done.words.now c.loop-done.recorder
    c.args.out.now.items c.loop-done.out.items c.loop-done.done
    (subst (λ (n : ℕ). Stands (object_run o c.args.budget c.args.input.now) (object_image o) n (state_of c.loop-done.machine) c.loop-done.words.now
    c.loop-done.recorder c.args.out.now.items c.loop-done.out.items c.loop-done.done) left c.loop-done.invariant.stands) in
    (cut.0, refl, cut.1 ∙ spent, cut.2)

pub returns-in_err-rest-clause-object : goal.returns-in_err-rest-clause-object
returns-in_err-rest-clause-object c = c.in_err-rest.ensures.object ∙ c.loop-done.invariant.object ∙ sym c.requires.same

pub returns-in-End-clause-object : goal.returns-in-End-clause-object
returns-in-End-clause-object c = c.in_ok-rest.ensures.object ∙ c.loop-done.invariant.object ∙ sym c.requires.same

pub returns-in-Trap-clause-object : goal.returns-in-Trap-clause-object
returns-in-Trap-clause-object c = c.in_ok-rest.ensures.object ∙ c.loop-done.invariant.object ∙ sym c.requires.same

pub returns-clause-object : goal.returns-clause-object
returns-clause-object c = c.loop-done.invariant.object ∙ sym c.requires.same

pub new-requires : goal.new-requires
new-requires c = grind (arith, common_steps) steps 2000000
