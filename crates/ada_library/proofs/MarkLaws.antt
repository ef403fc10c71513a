-- Marks on units.
use Rattle.std.proofs.Common.{◌≡◌, ℕ, Bool, true, false, not, ◌&&◌, ◌||◌, List, refl, sym, ap, ◌∙◌}
use Rattle.ada_rules.specs.Library.{is_among}
use Rattle.ada_library.specs.Marking.{is_marked, MarksNew}

-- tests
or_false : (b : Bool) → (b || false) ≡ b
or_false true = refl
or_false false = refl

pub either_way : (r o m : Bool) → (r || (o || m)) ≡ ((o || r) || m)
either_way true true m = refl
either_way true false m = refl
either_way false true m = refl
either_way false false m = refl

new_ones : (t o r m : Bool) → ((t || (o && not m)) || (r && not (o || m))) ≡ (t || ((o || r) && not m))
new_ones true o r m = refl
new_ones false true true true = refl
new_ones false true true false = refl
new_ones false true false true = refl
new_ones false true false false = refl
new_ones false false r m = refl

-- several units: what is left to be marked leads to what all mark
pub record MarksRest (rest all : List ℕ) (old new : List Bool) (before behind : List ℕ) : Type 0 where
  pub marked : (n : ℕ) → (is_among rest n || is_marked new n) ≡ (is_among all n || is_marked old n)
  pub added : (n : ℕ) → (is_among behind n || (is_among rest n && not (is_marked new n)))
      ≡ (is_among before n || (is_among all n && not (is_marked old n)))

pub next_marked : (one rest both all : List ℕ) (old mid new : List Bool) (before between behind : List ℕ)
    → ((n : ℕ) → is_among both n ≡ (is_among one n || is_among rest n)) → MarksRest both all old mid before between
    → MarksNew one mid new between behind → MarksRest rest all old new before behind
next_marked one rest both all old mid new before between behind joins so_far step = record {
  marked = λ n.
      ap (λ m. is_among rest n || m) (step.marked n)
      ∙ (either_way (is_among rest n) (is_among one n) (is_marked mid n)
      ∙ (ap (λ b. b || is_marked mid n) (sym (joins n)) ∙ so_far.marked n));
  added = λ n.
      (λ z. step.added n z || (is_among rest n && not (step.marked n z)))
      ∙ (new_ones (is_among between n) (is_among one n) (is_among rest n) (is_marked mid n)
      ∙ (ap (λ b. is_among between n || (b && not (is_marked mid n))) (sym (joins n)) ∙ so_far.added n));
}
