-- How stretches compose, and what one step comes to.
use Rattle.std.proofs.Common.{◌≡◌, ℕ, suc, ◌+◌, ℤ, List, [], ◌∷◌, ◌++◌, length, reverse, refl, sym, ap, ◌∙◌, arith, append_assoc, length-append}
use Rattle.std.proofs.lemmas.List.{append-nil, reverse-append}
use Rattle.rv_isa.proofs.Laws.{again}
use Rattle.rv_semantics.specs.declared.stepped.Seen.{Seen}
use Rattle.rv_semantics.specs.declared.stepped.Stepped.TheVariants.{Went}
use Rattle.rv_semantics.specs.State.{Image, State}
use Rattle.rv_semantics.specs.Step.{step, fetched, decoded}
use Rattle.rv_semantics.specs.Run.{Run, before, after, runs}
use Rattle.rv_semantics.specs.Run.Outcome.{Ended}
use Rattle.rv_semantics.specs.Past.{exec, turned, continued}
use Rattle.placed_code.specs.Stretch.{config, Leads}
use Rattle.placed_code.specs.Laws.{IsExecuted, NothingLeads, StretchesCompose, StretchesEnd}

pub is_executed : IsExecuted
unfolding step
is_executed image s i at = ap (fetched image s) at.reads ∙ ap (decoded image s) (again i at.fits)

before_nothing : (r : Run) → r ≡ before [] [] r
before_nothing r = refl

pub nothing_leads : NothingLeads
nothing_leads image s input = record {
  by = λ k. ap (λ n. runs image n s input) (let e : k + 0 ≡ k = omega arith in e);
  carried = λ k put past.
      ap (λ n. exec image n (config s input put past)) (let e : k + 0 ≡ k = omega arith in e)
      ∙ ap (λ os. exec image k (config s input os past)) (sym (append-nil put));
}

before_twice : (es es' : List Seen) (os os' : List ℤ) (r : Run) → before es os (before es' os' r) ≡ before (es ++ es') (os ++ os') r
before_twice es es' os os' r = λ i. record {
  entries = sym (append_assoc es es' r.entries) i;
  output = sym (append_assoc os os' r.output) i;
  outcome = r.outcome;
}

past_twice : (es es' past : List Seen) → reverse es' ++ (reverse es ++ past) ≡ reverse (es ++ es') ++ past
past_twice es es' past =
    sym (append_assoc (reverse es') (reverse es) past) ∙ ap (λ zs. zs ++ past) (sym (reverse-append es es'))

pub leads_on : StretchesCompose
leads_on image s s' s'' input input' input'' es es' os os' a b = record {
  by = λ k.
      let n : k + length (es ++ es') ≡ k + length es' + length es = omega (arith, length-append es es') in
      ap (λ m. runs image m s input) n
      ∙ (a.by (k + length es') ∙ (ap (before es os) (b.by k) ∙ before_twice es es' os os' (runs image k s'' input'')));
  carried = λ k put past.
      let n : k + length (es ++ es') ≡ k + length es' + length es = omega (arith, length-append es es') in
      ap (λ m. exec image m (config s input put past)) n
      ∙ (a.carried (k + length es') put past
      ∙ (b.carried k (put ++ os) (reverse es ++ past)
      ∙ (λ i. exec image k (config s'' input'' (append_assoc put os os' i) (past_twice es es' past i)))));
}

pub stretches_end : StretchesEnd
stretches_end image s s' input input' es os entry number a b k = (
  a.by (suc k) ∙ (ap (before es os) (b.by k) ∙ (λ i. record { entries = es ++ entry ∷ []; output = append-nil os i; outcome = Ended number })),
  λ put past. a.carried (suc k) put past ∙ b.carried k (put ++ os) (reverse es ++ past),
)

-- a step that goes on

pub one_more : (k : ℕ) → k + 1 ≡ suc k
one_more k = omega arith

pub leads_went : (image : Image) (s : State) (input : List ℤ) (seen : Seen) (s' : State) → step image s ≡ (Went seen, s') → Leads image s input (seen ∷ []) [] s' input
unfolding runs exec
leads_went image s input seen s' e = record {
  by = λ k. ap (λ n. runs image n s input) (one_more k) ∙ ap (λ a. after (runs image k) a input) e;
  carried = λ k put past.
      ap (λ n. exec image n (config s input put past)) (one_more k)
      ∙ (ap (λ a. continued (exec image k) (turned a (config s input put past))) e
      ∙ ap (λ os. exec image k (config s' input os (seen ∷ past))) (sym (append-nil put)));
}
