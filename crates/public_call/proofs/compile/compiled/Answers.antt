use Rattle.std.proofs.Common.{◌∙◌, inl}
use Rattle.std.proofs.lemmas.Result.{IfOk-weaker, IfErr-weaker}
use Rattle.commands.proofs.ObjectLaws.{sources_refused}
use Rattle.public_call.proofs.compile.compiled.Goals as goal

pub returns-in-Ok-clause-made : goal.returns-in-Ok-clause-made
returns-in-Ok-clause-made c =
    let of = c.in-Ok.ensures.object in
    IfOk-weaker c.told.result _ _ (λ made h. record {
      program = of.0;
      object = c.in-Ok.compiled.object;
      of_program = of.1;
      cheap = of.2;
      spelled = h.0 ∙ c.in-Ok.ensures.file;
      told = h.1;
    }) c.told.ensures.made

pub returns-in-Ok-clause-refused : goal.returns-in-Ok-clause-refused
returns-in-Ok-clause-refused c = IfErr-weaker c.told.result _ _ (λ status memory. inl memory) c.told.ensures.refused

pub returns-in-Err-clause-refused : goal.returns-in-Err-clause-refused
returns-in-Err-clause-refused c =
    sources_refused c.args.main.now c.args.sources.now c.in-Err.failure c.status_of.result c.in-Err.ensures.refused c.status_of.ensures
