use Rattle.std.proofs.Common.{◌∙◌, ap, inl, refl}
use Rattle.commands.specs.Lines.{line_of}
use Rattle.commands.proofs.delivery.refuse.Goals as goal

pub returns-in-Ok : goal.returns-in-Ok
returns-in-Ok g c =
    inl (refl, rw (← (c.as_str.ensures.value ∙ c.in-Ok.ensures ∙ ap (λ name. line_of name c.args.refusal.now.status) c.told_name.ensures)) c.put_line.ensures)
