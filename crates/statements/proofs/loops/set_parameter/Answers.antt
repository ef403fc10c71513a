use Rattle.std.proofs.Common.{refl, ap, ◌∙◌}
use Rattle.ada_rules.specs.Entities.{key, redefined}
use Rattle.statement_parts.specs.Turns.{turns_in}
use Rattle.program_walk.specs.Going.{region_in}
use Rattle.statements.proofs.LoopLaws.{parameter_state}
use Rattle.statements.proofs.loops.set_parameter.Goals as goal

pub returns : goal.returns
returns c =
    let w = c.args.walk.now in
    record {
      number = c.in_ok-parameter.ensures.number;
      region = λ k.
          c.in_ok-redefine.ensures.redefined k
          ∙ ap (λ x. redefined (key c.args.name.now) x (region_in k w)) (c.loop_parameter-entity.ensures k);
      inside = record { symbols = c.in_ok-redefine.ensures.inside; spans = refl };
      state = λ known k b.
          parameter_state k w.notes w.counts c.object.new.self w.found c.add_word.new.self (turns_in k c.args.turns.now).subtype c.in_ok-subtype.subtype
          c.args.pos c.in_ok-parameter.ensures.taken c.in_ok-add_word.ensures
          (c.in_ok-subtype.ensures (c.in_ok-redefine.ensures.inside.known known) k b);
    }
