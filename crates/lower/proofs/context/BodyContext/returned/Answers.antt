use Rattle.std.proofs.Common.{sym, ap, ◌∙◌}
use Rattle.ada_resolved.specs.Sizes.{words}
use Rattle.ada_resolved.specs.Forms.{shape_of}
use Rattle.lower.specs.Context.{parameter_for}
use Rattle.lower.proofs.Pieces.{next_is, no_next}
use Rattle.lower.proofs.context.BodyContext.returned.Goals as goal

pub returns-in_default-clause-mode : goal.returns-in_default-clause-mode
returns-in_default-clause-mode c =
    ap (λ q. q.mode) (sym (no_next (parameter_for c.args.self.now c.args.signature.instance) c.args.signature.parameters.now c.args.place (sym c.parameter_at.ensures ∙ c.in_default.is)))

pub returns-in_default-clause-words : goal.returns-in_default-clause-words
returns-in_default-clause-words c =
    ap (λ q. words q.shape)
    (sym (no_next (parameter_for c.args.self.now c.args.signature.instance) c.args.signature.parameters.now c.args.place (sym c.parameter_at.ensures ∙ c.in_default.is)))

pub returns-clause-mode : goal.returns-clause-mode
returns-clause-mode c =
    ap (λ q. q.mode)
    (sym (next_is (parameter_for c.args.self.now c.args.signature.instance) c.args.signature.parameters.now c.args.place c.in-Some.parameter (sym c.parameter_at.ensures ∙ c.in-Some.is)))

pub returns-clause-words : goal.returns-clause-words
returns-clause-words c =
    c.words.ensures.words ∙ ap (λ t. words (shape_of c.args.self.now.sizes.now.program.now t)) c.named-of.ensures
    ∙ ap (λ q. words q.shape)
    (sym (next_is (parameter_for c.args.self.now c.args.signature.instance) c.args.signature.parameters.now c.args.place c.in-Some.parameter (sym c.parameter_at.ensures ∙ c.in-Some.is)))
