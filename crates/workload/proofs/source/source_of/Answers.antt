use Rattle.std.proofs.Common.{◌≡◌, ℕ, suc, ◌-◌, ◌+◌, ◌++◌, List, [], ap, sym, ◌∙◌, subst, arith}
use Rattle.std.proofs.lemmas.List.{append-nil, append_assoc}
use Rattle.workload.specs.Source.{branches, branch_text, head_text, next_number, tail_text}
use Rattle.workload.proofs.Steps.{branch_more}
use Rattle.workload.proofs.source.source_of.Goals as goal

pub loop-preserved : goal.loop-preserved
loop-preserved c =
    let next = c.next_number-number.ensures.next in
    let grown : c.push_branch.new.text.items ≡ c.loop.text.items ++ branch_text (next_number c.loop.number) =
    c.in_ok-push_branch.ensures ∙ ap (λ (x : ℕ). c.loop.text.items ++ branch_text x) next in
    record {
      within = omega (arith, c.loop-test.true);
      small = c.next_number-number.ensures.small;
      rest = ap (λ (x : ℕ). c.push_branch.new.text.items ++ branches (c.args.n - (c.loop.counter + 1)) x) next
          ∙ branch_more (c.args.n - c.loop.counter) (c.args.n - (c.loop.counter + 1)) c.loop.number c.loop.text.items c.push_branch.new.text.items _
          (omega (arith, c.loop-test.true)) grown c.loop.invariant.rest;
    }

pub returns : goal.returns
returns c =
    let none : c.args.n - c.loop.counter ≡ 0 = omega (arith, c.loop-test.false) in
    let all : c.loop.text.items ≡ head_text ++ branches c.args.n c.args.n =
    sym (append-nil c.loop.text.items) ∙ subst (λ (m : ℕ). c.loop.text.items ++ branches m c.loop.number ≡ head_text ++ branches c.args.n c.args.n) none c.loop.invariant.rest in
    let grown : c.extend_from_slice.new.self.items ≡ c.loop.text.items ++ tail_text = c.in_ok-extend_from_slice.ensures.items in
    grown ∙ ap (λ (t : List ℕ). t ++ tail_text) all ∙ append_assoc head_text (branches c.args.n c.args.n) tail_text
