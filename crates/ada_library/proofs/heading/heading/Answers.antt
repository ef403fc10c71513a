use Rattle.std.proofs.Common.{◌≡◌, [], true, false, rules, sym, ap, ◌∙◌, subst, append-nil}
use Rattle.std.proofs.lemmas.Result.{err_from_is_err_and}
use Rattle.ada_rules.specs.Library.{clause_names, all_named_in_with, is_declared_well, heading}
use Rattle.ada_entities.specs.Answers.{Refuses, refused_at, no_memory}
use Rattle.ada_library.proofs.HeadingLaws.{refused_as, heading_passes, heading_refused, names_refused}
use Rattle.ada_library.proofs.heading.heading.Goals as goal

pub returns-in_err-check_clauses : goal.returns-in_err-check_clauses
returns-in_err-check_clauses c l is =
    let n = c.args.number in
    let u = c.args.unit.now in
    let f = c.in_err-check_clauses.field-0.0 in
    let alone = ap (λ ns. (all_named_in_with l n u ns).answer) (sym (append-nil (clause_names u.withs))) in
    let r = names_refused l n u f (refused_as _ _ f alone (c.in_err-check_clauses.ensures c.args.units.now l [] is)) in
    search (rules, r)

pub returns-in_err-is_declared_well : goal.returns-in_err-is_declared_well
returns-in_err-is_declared_well c =
    let p = err_from_is_err_and c.from_residual-in_err-is_declared_well.result c.from_residual-in_err-is_declared_well.ensures.1 in
    rw (p.1, p.2) (λ l is. no_memory)

pub returns-then-branch : goal.returns-then-branch
returns-then-branch c l is =
    let n = c.args.number in
    let u = c.args.unit.now in
    let names = ap (λ ns. (all_named_in_with l n u ns).answer) (sym (append-nil (clause_names u.withs)))
    ∙ c.in_ok-check_clauses.ensures c.args.units.now l [] is in
    let well : is_declared_well l n u.item ≡ true = sym (c.in_ok-is_declared_well.ensures l is) ∙ c.if-branch.true in
    heading_passes l n u names well

pub returns-else-branch : goal.returns-else-branch
returns-else-branch c l is =
    let n = c.args.number in
    let u = c.args.unit.now in
    let names = ap (λ ns. (all_named_in_with l n u ns).answer) (sym (append-nil (clause_names u.withs)))
    ∙ c.in_ok-check_clauses.ensures c.args.units.now l [] is in
    let ill : is_declared_well l n u.item ≡ false = sym (c.in_ok-is_declared_well.ensures l is) ∙ c.if-branch.false in
    subst (λ f. Refuses (heading l n u).answer f) (sym c.refused.ensures) (refused_at (heading_refused l n u names ill))
