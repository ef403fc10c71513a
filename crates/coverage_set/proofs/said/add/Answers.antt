use Rattle.std.proofs.Common.{inl, inr}
use Rattle.coverage_set.proofs.said.add.Goals as goal

pub returns-in_ok-add : goal.returns-in_ok-add
returns-in_ok-add c = rw c.in-Some.is (λ e. (
  λ some. elim ((c.in_ok-add.ensures e).0 some) [ inl old ↦ inl old | inr here ↦ inr (inl here) ],
  λ some. (c.in_ok-add.ensures e).1 (elim some [ inl old ↦ inl old | inr new ↦ elim new [ inl here ↦ inr here | inr none ↦ absurd none ] ]),
))
