-- A command as a task.
use Rattle.std.specs.Prelude.{map}
use Rattle.command_words.specs.Task.{Task, Compile, Run, Coverage, Consolidate}
use Rattle.command_words.specs.declared.command.Command.{Command}
use Rattle.command_words.specs.declared.command.Command.TheVariants as command

-- the task that a command is, with each name as its bytes
abbrev pub task_view : Command → Task
task_view (command.Compile main object sources) = Compile main.now object.now (map (λ source. source.now) sources)
task_view (command.Run input budget trace object) = Run input.now budget trace.now object.now
task_view (command.Coverage level annotate object traces) = Coverage level annotate object.now (map (λ trace. trace.now) traces)
task_view (command.Consolidate object out traces) = Consolidate object.now out.now (map (λ trace. trace.now) traces)
