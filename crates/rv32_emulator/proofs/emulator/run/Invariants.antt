use Rattle.std.proofs.Common.{◌≡◌, ◌≤◌, ◌-◌}
use Rattle.rv_machine.specs.Objects.{object_image, object_run}
use Rattle.rv_machine.specs.Machine.{image_of, state_of}
use Rattle.rv32_emulator.specs.Ran.{Stands}
use Rattle.rv32_emulator.proofs.emulator.run.Given as goal

-- the instructions so far, and the run that is left, are the run
abbrev pub invariant-loop-done : goal.invariant-loop-done
invariant-loop-done l = record {
  within : l.done ≤ l.budget;
  object : l.recorder.object ≡ l.object;
  image : image_of l.machine ≡ object_image l.object;
  stands : Stands (object_run l.object l.budget l.fn.input) (object_image l.object) (l.budget - l.done) (state_of l.machine) l.words l.recorder l.fn.out.items l.out.items l.done;
}
