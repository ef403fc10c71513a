-- One more of what is left.
use Rattle.std.proofs.Common.{◌≡◌, ℕ, suc, ◌+◌, List, [], ◌∷◌, ◌++◌, refl, sym, ap, ◌∙◌}
use Rattle.std.proofs.lemmas.List.{append_assoc}
use Rattle.workload.specs.declared.inputs.Triple.{Triple}
use Rattle.workload.specs.Inputs.{triple_of, triples_from}
use Rattle.workload.specs.Source.{branch_text, branches, next_number}

pub branch_more : (left count x : ℕ) (text more all : List ℕ) → left ≡ suc count → more ≡ text ++ branch_text (next_number x)
    → text ++ branches left x ≡ all → more ++ branches count (next_number x) ≡ all
branch_more left count x text more all is grown so =
    ap (λ (t : List ℕ). t ++ branches count (next_number x)) grown
    ∙ append_assoc text (branch_text (next_number x)) (branches count (next_number x))
    ∙ ap (λ (n : ℕ). text ++ branches n x) (sym is) ∙ so

pub triple_more : (left count run : ℕ) (runs more all : List Triple) → left ≡ suc count → more ≡ runs ++ (triple_of run ∷ [])
    → runs ++ triples_from left run ≡ all → more ++ triples_from count (run + 1) ≡ all
triple_more left count run runs more all is grown so =
    ap (λ (t : List Triple). t ++ triples_from count (run + 1)) grown
    ∙ append_assoc runs (triple_of run ∷ []) (triples_from count (run + 1))
    ∙ ap (λ (n : ℕ). runs ++ triples_from n run) (sym is) ∙ so
