-- One more of so many equal pieces.
use Rattle.std.proofs.Common.{◌≡◌, ℕ, suc, ◌+◌, ◌-◌, ◌<◌, List, ◌++◌, ap, sym, ◌∙◌, arith}
use Rattle.std.proofs.lemmas.List.{append_assoc}
use Rattle.storage_layout.specs.Initial.{repeated}

pub once_more : (n c : ℕ) (x words other total : List ℕ) → c < n → other ≡ words ++ x → words ++ repeated (n - c) x ≡ total → other ++ repeated (n - (c + 1)) x ≡ total
once_more n c x words other total less is so =
    let rest = repeated (n - (c + 1)) x in
    let one : n - c ≡ suc (n - (c + 1)) = omega (arith, less) in
    ap (λ w. w ++ rest) is ∙ append_assoc words x rest ∙ sym (ap (λ k. words ++ repeated k x) one) ∙ so
