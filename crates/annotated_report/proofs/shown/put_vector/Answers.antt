use Rattle.std.proofs.Common.{arith, ap, ◌∙◌, ◌++◌, ◌∷◌, []}
use Rattle.cov_base.specs.Marks.{marks}
use Rattle.annotated_report.proofs.Vectors.{letters_more}
use Rattle.annotated_report.proofs.shown.put_vector.Goals as goal

pub loop-condition-preserved : goal.loop-condition-preserved
loop-condition-preserved c = record {
  within = omega arith;
  letters = letters_more c.args.conditions c.loop-condition.condition (marks c.args.v) c.loop-condition.text.items c.push.new.self.items _ c.loop-condition-test.true
      (c.in_ok-push.ensures.items ∙ ap (λ x. c.loop-condition.text.items ++ x ∷ []) c.letter.ensures) c.loop-condition.invariant.letters;
}
