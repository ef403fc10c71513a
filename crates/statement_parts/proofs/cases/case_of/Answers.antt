use Rattle.std.proofs.Common.{◌≡◌, [], ◌∷◌, Ok, rules, sym, ap, ◌∙◌}
use Rattle.ada_meaning.specs.Tree.{case_statement}
use Rattle.ada_tree.specs.View.{statement_at}
use Rattle.ada_tree.specs.declared.statement.StatementKind.TheVariants as kind
use Rattle.ada_rules.specs.Plan.{ruled, answer_at}
use Rattle.ada_rules.specs.Environment.{given, statement_label}
use Rattle.ada_rules.specs.Statements.{one, alternatives_of}
use Rattle.ada_entities.specs.EntityViews.{values_of}
use Rattle.ada_demands.specs.StaticsViews.{noted}
use Rattle.ada_phrases.proofs.Parts.{refused_as}
use Rattle.statement_parts.specs.Selectors.{selector_in}
use Rattle.statement_parts.specs.Simple.{in_program}
use Rattle.statement_parts.specs.Cases.{arms_in, covering}
use Rattle.statement_parts.proofs.Handed.{pair_first, pair_passes, pair_refuses}
use Rattle.statement_parts.proofs.CaseLaws.{alternatives_in, after, after_refused, case_covered}
use Rattle.statement_parts.proofs.cases.case_of.Goals as goal

pub returns-in_err-kind : goal.returns-in_err-kind
returns-in_err-kind c k env before s g number =
    let p = c.args.label.place in
    let x = c.args.selector in
    let given_arms = c.args.alternatives in
    let old = noted k c.args.statics.now s in
    let arms = arms_in k given_arms.items in
    let f = c.in_err-kind.field-0.0 in
    let plain = pair_refuses (kind.Case c.args.label x.expr given_arms) (λ u. noted k c.cover-covered.new.statics s)
    (answer_at p (ruled (covering env p (values_of k x.values) (arms_in k c.as_slice-arms.result.now) old))) c.cover-covered.result f c.in_err-kind.ensures (c.cover-covered.ensures k env s g) in
    let r = refused_as _ _ f (case_covered env before old p (selector_in k x) arms)
    (after_refused (one (case_statement (statement_label before p) x.expr (alternatives_of arms))) _ f
    (refused_as _ _ f (ap (λ xs. answer_at p (ruled (covering env p (values_of k x.values) (arms_in k xs) old))) (sym c.as_slice-arms.ensures.value)) plain)) in
    search (rules, r)

pub returns : goal.returns
returns c k env before s g number =
    let p = c.args.label.place in
    let x = c.args.selector in
    let given_arms = c.args.alternatives in
    let old = noted k c.args.statics.now s in
    let new = noted k c.cover-covered.new.statics s in
    let arms = arms_in k given_arms.items in
    let own = kind.Case c.args.label x.expr given_arms in
    let plain = pair_passes own (λ u. new) (answer_at p (ruled (covering env p (values_of k x.values) (arms_in k c.as_slice-arms.result.now) old))) c.cover-covered.result (c.in_ok-kind.kind, c.in_ok-kind.field-0-1)
    c.in_ok-kind.ensures (c.cover-covered.ensures k env s g) in
    let passed = ap (λ xs. answer_at p (ruled (covering env p (values_of k x.values) (arms_in k xs) old))) (sym c.as_slice-arms.ensures.value) ∙ plain in
    case_covered env before old p (selector_in k x) arms
    ∙ (ap (after (one (case_statement (statement_label before p) x.expr (alternatives_of arms)))) passed
    ∙ ((λ z. Ok (given (case_statement (record { number = number z; place = p }) x.expr (sym (alternatives_in k given_arms.items) z) ∷ []) new))
    ∙ ap (λ y. Ok (given (in_program k (statement_at y)) new)) (sym (pair_first own c.cover-covered.result (c.in_ok-kind.kind, c.in_ok-kind.field-0-1) c.in_ok-kind.ensures))))
