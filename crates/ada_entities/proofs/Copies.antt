-- Entries that were copied one by one are the same entries.
use Rattle.std.proofs.Common.{◌≡◌, ℕ, List, [], ◌∷◌, map, refl, ap, ◌∙◌}
use Rattle.std.specs.List.{AllZip}
use Rattle.std.specs.declared.vec.Vec.{Vec}
use Rattle.std.specs.declared.alloc.Global.{Global}
use Rattle.ada_entities.specs.declared.entity.Entity.{Entity}
use Rattle.ada_entities.specs.RegionView.{entry_of}

pub copies : (C : Vec ℕ Global → Vec ℕ Global → Type 0) (D : Entity → Entity → Type 0)
    → ((v w : Vec ℕ Global) → C v w → w.items ≡ v.items) → ((x y : Entity) → D x y → y ≡ x)
    → (es fs : List (Vec ℕ Global × Entity)) → AllZip (λ p q. C p.0 q.0 × D p.1 q.1) es fs → map entry_of fs ≡ map entry_of es
copies C D items same [] [] h = refl
copies C D items same [] (f ∷ fs) h = absurd h
copies C D items same (e ∷ es) [] h = absurd h
copies C D items same (e ∷ es) (f ∷ fs) h =
    ap (λ n. (n, f.1) ∷ map entry_of fs) (items e.0 f.0 h.0.0)
    ∙ (ap (λ x. (e.0.items, x) ∷ map entry_of fs) (same e.1 f.1 h.0.1)
    ∙ ap (λ xs. entry_of e ∷ xs) (copies C D items same es fs h.1))
