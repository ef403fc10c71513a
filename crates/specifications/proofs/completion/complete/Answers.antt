use Rattle.std.proofs.Common.{arith}
use Rattle.std.proofs.lemmas.Grind.{common_steps}
use Rattle.std.proofs.Common.{Some, None, option_map, sym, ap, ◌∙◌}
use Rattle.std.proofs.lemmas.Result.{err_from_is_err_and}
use Rattle.ada_rules.specs.Entities.{hidden}
use Rattle.ada_entities.specs.Answers.{no_memory, refused_at}
use Rattle.ada_entities.specs.EntityViews.{entity_of, region_of}
use Rattle.ada_entities.specs.RegionCode.{innermost}
use Rattle.specifications.proofs.CompletionLaws.{new_name, declared_there, told}
use Rattle.specifications.proofs.completion.complete.Goals as goal

pub returns-in_err-find_inside-clause-refused : goal.returns-in_err-find_inside-clause-refused
returns-in_err-find_inside-clause-refused c =
    let e = err_from_is_err_and c.from_residual.result c.from_residual.ensures.1 in
    rw (e.1, e.2) (λ k. no_memory)

pub returns-in_ok-declare-in-None-clause-completed : goal.returns-in_ok-declare-in-None-clause-completed
returns-in_ok-declare-in-None-clause-completed c = record {
  region = λ k.
      new_name (region_of k (innermost c.args.symbols.now.regions)) c.args.name.now
      (sym (c.in_ok-find_inside.ensures k) ∙ ap (option_map (entity_of k)) c.in-None.is)
      ∙ c.in_ok-declare-in-None.ensures.declared k;
  declared = λ k.
      declared_there (region_of k (innermost c.args.symbols.now.regions)) (region_of k (innermost c.declare.new.self.regions)) c.args.name.now hidden
      (sym (c.in_ok-find_inside.ensures k) ∙ ap (option_map (entity_of k)) c.in-None.is)
      (c.in_ok-declare-in-None.ensures.declared k);
}

pub returns-in-Some-awaiting_body-clause-completed : goal.returns-in-Some-awaiting_body-clause-completed
returns-in-Some-awaiting_body-clause-completed c = record {
  region = λ k.
      told (region_of k (innermost c.args.symbols.now.regions)) c.args.name.now (entity_of k c.in-Some.entity)
      (Some (region_of k (innermost c.args.symbols.now.regions)))
      (sym (c.in_ok-find_inside.ensures k) ∙ ap (option_map (entity_of k)) c.in-Some.is)
      (c.awaiting_body.ensures.waits k (region_of k (innermost c.args.symbols.now.regions)) c.args.name.now
      ∙ ap (option_map (λ r. region_of k (innermost c.args.symbols.now.regions))) c.in-Some-awaiting_body.is);
  declared = λ k.
      sym (c.in_ok-find_inside.ensures k) ∙ ap (option_map (entity_of k)) c.in-Some.is
      ∙ ap (λ x. Some x) (c.in-Some-awaiting_body.ensures.declared k);
}

pub returns-in-None-awaiting_body-clause-refused : goal.returns-in-None-awaiting_body-clause-refused
returns-in-None-awaiting_body-clause-refused c k =
    let region = region_of k (innermost c.args.symbols.now.regions) in
    rw c.refused.ensures
    (refused_at (told region c.args.name.now (entity_of k c.in-Some.entity) None
    (sym (c.in_ok-find_inside.ensures k) ∙ ap (option_map (entity_of k)) c.in-Some.is)
    (c.awaiting_body.ensures.waits k region c.args.name.now ∙ ap (option_map (λ r. region)) c.in-None-awaiting_body.is)))

pub returns-in-Some-awaiting_body-clause-inside : goal.returns-in-Some-awaiting_body-clause-inside
returns-in-Some-awaiting_body-clause-inside c = grind (arith, common_steps)
