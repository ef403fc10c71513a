-- Where no output was made and the line of the refusal was put, that is why the status comes.
use Rattle.std.proofs.Common.{◌≡◌, ◌⊎◌, [], inl, inr, refl, sym, subst}
use Rattle.command_words.specs.Task.{Task}
use Rattle.commands.specs.declared.status.Refusal.{Refusal}
use Rattle.commands.specs.declared.status.Status.{Status}
use Rattle.commands.specs.declared.status.Status.TheVariants.{Done, Usage, SourceRefused, ObjectRefused, TraceRefused, InputRefused, OverBudget, Trap, SourceChanged, ReadFault, WriteFault, WantOfMemory}
use Rattle.commands.specs.Lines.{line_of}
use Rattle.commands.specs.Outcome.{Call, PutsText, PutsRefusal, Stops, Because}
use Rattle.commands.specs.Ready.{TellsSourceOf, told_name}
use Rattle.commands.specs.Verdict.{TellsName}
use Rattle.commands.proofs.NameLaws.{refusal_told}

because : (task : Task) (call : Call) (status : Status) → Stops task call.held call.reads call.reads_after status → PutsRefusal task call status → Because task call status
because task call Done s e = absurd s
because task call Usage s e = absurd s
because task call WriteFault s e = absurd s
because task call WantOfMemory s e = e.ends
because task call (SourceChanged file) s e = (s, e)
because task call (ReadFault file) s e = (s, e)
because task call (SourceRefused file line col why) s e = (s, e)
because task call (ObjectRefused why) s e = (s, e)
because task call (TraceRefused index why) s e = (s, e)
because task call (InputRefused line) s e = (s, e)
because task call (OverBudget count) s e = (s, e)
because task call (Trap pc why) s e = (s, e)

-- the status stays, or there was no memory for its line
pub refused_because : (task : Task) (call : Call) (refusal : Refusal) (result : Status) → Stops task call.held call.reads call.reads_after refusal.status
    → TellsSourceOf task call.held refusal
    → ((result ≡ refusal.status) × PutsText (line_of (told_name task refusal) result) call.written call.written_after call.failures call.failures_after)
    ⊎ ((result ≡ WantOfMemory) × PutsText (line_of [] result) call.written call.written_after call.failures call.failures_after)
    → call.held_after ≡ call.held → call.writes_after ≡ call.writes → Because task call result
refused_because task call refusal result stops tells (inl told) held writes =
    because task call result
    (subst (λ (s : Status). Stops task call.held call.reads call.reads_after s) (sym told.0) stops)
    (record {
      name = told_name task refusal;
      named = subst (λ (s : Status). TellsName call.held task s (told_name task refusal)) (sym told.0) (refusal_told call.held task refusal tells);
      ends = record { files = held; writes = writes; puts = told.1 };
    })
refused_because task call refusal result stops tells (inr memory) held writes =
    because task call result (rw memory.0 tt)
    (record { name = []; named = rw memory.0 refl; ends = record { files = held; writes = writes; puts = memory.1 } })
