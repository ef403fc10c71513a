use Rattle.std.proofs.Common.{◌≡◌, ◌+◌, nat_eq, true, ◌&&◌, length, map, eq-eqb, sym, ap, ◌∙◌, arith}
use Rattle.std.proofs.Math.Bool.{and-true}
use Rattle.ada_tree.specs.View.{choice_of}
use Rattle.ada_rules.specs.Statements.{has_others}
use Rattle.statement_parts.proofs.CaseLaws.{with_others}
use Rattle.statement_parts.proofs.cases.ends_with_others.Goals as goal

pub returns-then-len-eq1 : goal.returns-then-len-eq1
returns-then-len-eq1 c k =
    let arms = c.args.alternatives.now in
    let i = c.loop-place.place in
    let a = c.index-alternatives-place.result in
    let named : has_others (map choice_of a.choices) ≡ true = sym (c.in-Present.ensures ∙ ap (λ cs. has_others (map choice_of cs)) c.as_slice.ensures) in
    let single : nat_eq (length a.choices) 1 ≡ true = eq-eqb (length a.choices) 1 (sym c.len.ensures ∙ c.if-len-eq1.true) in
    sym (and-true (nat_eq (i + 1) (length arms)))
    ∙ (sym (ap (λ b. nat_eq (i + 1) (length arms) && b) single)
    ∙ (sym (with_others k arms i a (omega arith) c.index-alternatives-place.is named) ∙ c.loop-place.invariant k))
