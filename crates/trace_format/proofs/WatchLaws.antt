-- A check that is made as entries come finds the place that it finds in the list of all.
use Rattle.std.proofs.Common.{◌≡◌, ℕ, suc, ◌+◌, ◌-◌, ◌<◌, ◌^◌, min, Bool, true, false, cond, List, [], ◌∷◌, ◌++◌, length, Option, Some, None, refl, sym, ap, ◌∙◌, arith}
use Rattle.std.proofs.lemmas.List.{length-append}
use Rattle.spelling.specs.Checks.{first_failing, behind}
use Rattle.trace_format.specs.Watch.{kept, Watched}

more_step : (b : Bool) (more before : Option ℕ) (test : Bool) (at n : ℕ) → more ≡ kept before test (at + 1 + n) → cond b more (Some at) ≡ kept (cond b before (Some at)) test (at + suc n)
more_step true more before test at n e = e ∙ ap (kept before test) (omega arith)
more_step false more before test at n e = refl

last_step : (b : Bool) (at : ℕ) → cond b None (Some at) ≡ kept None b (at + 0)
last_step true at = refl
last_step false at = ap (λ (n : ℕ). some n) (omega arith)
  where
    some : ℕ → Option ℕ
    some n = Some n

-- the first that fails, of the entries and one more
pub first_failing_more : {X : Type 0} (passes : Option X → X → Bool) (before : Option X) (at : ℕ) (xs : List X) (x : X)
    → first_failing passes before at (xs ++ x ∷ []) ≡ kept (first_failing passes before at xs) (passes (behind before xs (length xs)) x) (at + length xs)
first_failing_more passes before at [] x = last_step (passes before x) at
first_failing_more passes before at (y ∷ ys) x =
    more_step (passes before y) (first_failing passes (Some y) (at + 1) (ys ++ x ∷ [])) (first_failing passes (Some y) (at + 1) ys) (passes (behind (Some y) ys (length ys)) x) at (length ys)
    (first_failing_more passes (Some y) (at + 1) ys x)

behind_more : {X : Type 0} (before : Option X) (xs : List X) (x : X) → behind before (xs ++ x ∷ []) (suc (length xs)) ≡ Some x
behind_more before [] x = refl
behind_more before (y ∷ ys) x = behind_more (Some y) ys x

pub watched_more : {X : Type 0} (passes : Option X → X → Bool) (before now : Option X) (at next : ℕ) (failing first : Option ℕ) (seen : List X) (x : X) → Watched passes before at failing seen → length seen < 2 ^ 32 - 1
    → now ≡ Some x → next ≡ min (at + 1) (2 ^ 32 - 1) → first ≡ kept failing (passes before x) at → Watched passes now next first (seen ++ x ∷ [])
watched_more passes before now at next failing first seen x w few now_is next_is first_is =
    let long : length (seen ++ x ∷ []) ≡ suc (length seen) = omega (arith, length-append seen (x ∷ [])) in
    record {
      before_is = now_is ∙ sym (behind_more None seen x) ∙ ap (behind None (seen ++ x ∷ [])) (sym long);
      count = omega (arith, long, next_is, w.count, few);
      first = first_is ∙ rw (w.before_is, w.count, w.first) (sym (first_failing_more passes None 0 seen x ∙ ap (kept (first_failing passes None 0 seen) (passes (behind None seen (length seen)) x)) (omega arith)));
    }
