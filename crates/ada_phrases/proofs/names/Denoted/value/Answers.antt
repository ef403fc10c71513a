use Rattle.std.proofs.Common.{sym, ap, ◌∙◌, option_map}
use Rattle.ada_rules.specs.Denoted.{standing_at, value_of}
use Rattle.ada_phrases.specs.DenotedView.{denotes}
use Rattle.ada_phrases.proofs.names.Denoted.value.Goals as goal

pub returns-in-Routine : goal.returns-in-Routine
returns-in-Routine c k env h =
    c.bare_call.ensures k env h ∙ ap (λ d. option_map (standing_at c.args.pos) (value_of (denotes k d))) (sym c.in-Routine.is)

pub returns-in-Call : goal.returns-in-Call
returns-in-Call c k env h =
    c.call_value.ensures k env h ∙ ap (λ d. option_map (standing_at c.args.pos) (value_of (denotes k d))) (sym c.in-Call.is)
