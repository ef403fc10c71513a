-- What is collected of the texts of subprograms: what holds of all of it holds of what is in one text, and each item is in one.
use Rattle.std.proofs.Common.{◌≡◌, ℕ, zero, suc, List, [], ◌∷◌, ◌++◌, slice_get, Some, refl, sym, subst, ◌⊎◌, inl, inr}
use Rattle.ada_meaning.specs.Program.{Subprogram}
use Rattle.ada_meaning.specs.Tree as tree
use Rattle.cov_base.specs.Lists.{Everywhere, Somewhere}
use Rattle.statement_code.proofs.Fragments.{first_all, second_all}
use Rattle.statement_code.specs.Kernels.{text_at}

-- an item of a list of two parts is in the one or in the other
either_part : {X : Type 0} (P : X → Type 0) (xs ys : List X) → Somewhere P (xs ++ ys) → Somewhere P xs ⊎ Somewhere P ys
either_part P [] ys there = inr there
either_part P (x ∷ xs) ys (inl is) = inl (inl is)
either_part P (x ∷ xs) ys (inr later) = behind (either_part P xs ys later)
  where
    behind : Somewhere P xs ⊎ Somewhere P ys → Somewhere P (x ∷ xs) ⊎ Somewhere P ys
    behind (inl here) = inl (inr here)
    behind (inr there) = inr there

-- where each item of a list is so, and some item is so too
pub record Met {X : Type 0} (P Q : X → Type 0) : Type 0 where
  pub item : X
  pub each : P item
  pub some : Q item

pub met : {X : Type 0} (P Q : X → Type 0) (xs : List X) → Everywhere P xs → Somewhere Q xs → Met P Q
met P Q [] each there = absurd there
met P Q (x ∷ xs) each (inl is) = record { item = x; each = each.0; some = is }
met P Q (x ∷ xs) each (inr later) = met P Q xs each.1 later

-- what stands at a place of a list of which each item is so
pub at_place : {X : Type 0} (P : X → Type 0) (xs : List X) (n : ℕ) (x : X) → Everywhere P xs → slice_get xs n ≡ Some x → P x
at_place P [] n x each there = absurd (let none : ⊥ = cc there in none)
at_place P (y ∷ ys) zero x each there = subst P (let same : y ≡ x = cc there in same) each.0
at_place P (y ∷ ys) (suc n) x each there = at_place P ys n x each.1 there

abbrev no_text : tree.Block
no_text = tree.block [] tree.no_statement tree.no_handler

-- items of the texts of subprograms, one text behind the other
module _ {X : Type 0} (of_text : tree.Block → List X) (all : List Subprogram → List X) (of_none : of_text no_text ≡ []) (none : all [] ≡ [])
    (next : (s : Subprogram) (ss : List Subprogram) → all (s ∷ ss) ≡ of_text s.body ++ all ss) (P : X → Type 0) where
  pub in_each_text : (ss : List Subprogram) (m : ℕ) → Everywhere P (all ss) → Everywhere P (of_text (text_at ss m))
  in_each_text [] m each = subst (Everywhere P) (sym of_none) tt
  in_each_text (s ∷ ss) zero each = first_all P (of_text s.body) (all ss) (subst (Everywhere P) (next s ss) each)
  in_each_text (s ∷ ss) (suc m) each = in_each_text ss m (second_all P (of_text s.body) (all ss) (subst (Everywhere P) (next s ss) each))

  -- a text that has such an item
  pub record InText (ss : List Subprogram) : Type 0 where
    pub subprogram : ℕ
    pub declared : Subprogram
    pub is_declared : slice_get ss subprogram ≡ Some declared
    pub among : Somewhere P (of_text (text_at ss subprogram))

  pub in_some_text : (ss : List Subprogram) → Somewhere P (all ss) → InText ss
  in_some_text [] there = absurd (subst (Somewhere P) none there)
  in_some_text (s ∷ ss) there = by_part (either_part P (of_text s.body) (all ss) (subst (Somewhere P) (next s ss) there)) (λ later. in_some_text ss later)
    where
      by_part : Somewhere P (of_text s.body) ⊎ Somewhere P (all ss) → (Somewhere P (all ss) → InText ss) → InText (s ∷ ss)
      by_part (inl here) further = record { subprogram = 0; declared = s; is_declared = refl; among = here }
      by_part (inr later) further =
          let text = further later in
          record { subprogram = suc text.subprogram; declared = text.declared; is_declared = text.is_declared; among = text.among }
