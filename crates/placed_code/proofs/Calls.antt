-- What the environment calls do.
use Rattle.std.proofs.Common.{◌≡◌, ℕ, nat_le, ◌≤◌, true, ℤ, List, [], ◌∷◌, slice_get, drop, None, sym, ap, ◌∙◌, arith}
use Rattle.std.proofs.lemmas.Bool.Decides.{nat_tests}
use Rattle.std.proofs.lemmas.List.{append-nil}
use Rattle.rv_isa.specs.declared.instr.Instr.TheVariants.{Ecall}
use Rattle.rv_semantics.specs.declared.stepped.Seen.{Seen}
use Rattle.rv_semantics.specs.declared.stepped.Stepped.TheVariants.{Get, Put, End}
use Rattle.rv_semantics.specs.Arithmetic.{sum_32, signed}
use Rattle.rv_semantics.specs.State.{Image, State, given}
use Rattle.rv_semantics.specs.Step.{seen, step, act, calls}
use Rattle.rv_semantics.specs.Run.{after, runs}
use Rattle.rv_semantics.specs.Past.{exec, turned, continued}
use Rattle.placed_code.specs.Stretch.{config, Leads}
use Rattle.placed_code.specs.Instructions.{GetGoes, GetAtTheEndGoes, PutGoes, EndGoes}
use Rattle.placed_code.proofs.StretchLaws.{is_executed, one_more}
use Rattle.placed_code.proofs.Steps.{next_is}

abbrev gone : State → ℕ → State
gone s next = record { pc = next; reg = s.reg; mem = s.mem }

leads_get : (image : Image) (s : State) (input : List ℤ) (entry : Seen) (s' : State) → step image s ≡ (Get entry, s') → Leads image s input (entry ∷ []) [] (given s' (slice_get input 0)) (drop 1 input)
unfolding runs exec
leads_get image s input entry s' e = record {
  by = λ k. ap (λ n. runs image n s input) (one_more k) ∙ ap (λ a. after (runs image k) a input) e;
  carried = λ k put past.
      ap (λ n. exec image n (config s input put past)) (one_more k)
      ∙ (ap (λ a. continued (exec image k) (turned a (config s input put past))) e
      ∙ ap (λ os. exec image k (config (given s' (slice_get input 0)) (drop 1 input) os (entry ∷ past))) (sym (append-nil put)));
}

leads_put : (image : Image) (s : State) (input : List ℤ) (entry : Seen) (word : ℤ) (s' : State) → step image s ≡ (Put entry word, s') → Leads image s input (entry ∷ []) (word ∷ []) s' input
unfolding runs exec
leads_put image s input entry word s' e = record {
  by = λ k. ap (λ n. runs image n s input) (one_more k) ∙ ap (λ a. after (runs image k) a input) e;
  carried = λ k put past.
      ap (λ n. exec image n (config s input put past)) (one_more k)
      ∙ ap (λ a. continued (exec image k) (turned a (config s input put past))) e;
}

calls_get : (image : Image) (s : State) (next : ℕ) → s.reg 17 ≡ 1 → sum_32 s.pc 4 ≡ next → calls image s ≡ (Get (seen s None), gone s next)
unfolding calls
calls_get image s next is_get is_next = rw is_get (λ i. (Get (seen s None), gone s (is_next i)))

calls_put : (image : Image) (s : State) (word : ℤ) (next : ℕ) → s.reg 17 ≡ 2 → signed (s.reg 10) ≡ word → sum_32 s.pc 4 ≡ next → calls image s ≡ (Put (seen s None) word, gone s next)
unfolding calls
calls_put image s word next is_put is_word is_next = rw is_put (λ i. (Put (seen s None) (is_word i), gone s (is_next i)))

calls_end : (image : Image) (s : State) (number : ℕ) → s.reg 17 ≡ 3 → s.reg 10 ≡ number → number ≤ image.exceptions → calls image s ≡ (End (seen s None) number, s)
unfolding calls
calls_end image s number is_end is_number held =
    let test : nat_le (s.reg 10) image.exceptions ≡ true = grind (arith, nat_tests) in
    rw (is_end, test) (ap (λ n. (End (seen s None) n, s)) is_number)

pub get_goes : GetGoes
unfolding act
get_goes image s word input next stands is_get is_next =
    leads_get image s (word ∷ input) (seen s None) (gone s next)
    (is_executed image s Ecall stands ∙ calls_get image s next is_get (next_is image s _ next stands is_next))

pub get_at_the_end_goes : GetAtTheEndGoes
unfolding act
get_at_the_end_goes image s next stands is_get is_next =
    leads_get image s [] (seen s None) (gone s next)
    (is_executed image s Ecall stands ∙ calls_get image s next is_get (next_is image s _ next stands is_next))

pub put_goes : PutGoes
unfolding act
put_goes image s input word next stands is_put is_word is_next =
    leads_put image s input (seen s None) word (gone s next)
    (is_executed image s Ecall stands ∙ calls_put image s word next is_put is_word (next_is image s _ next stands is_next))

pub end_goes : EndGoes
unfolding act runs exec
end_goes image s input number stands is_end is_number held =
    let e : step image s ≡ (End (seen s None) number, s) = is_executed image s Ecall stands ∙ calls_end image s number is_end is_number held in
    record {
      by = λ k. ap (λ a. after (runs image k) a input) e;
      carried = λ k put past. ap (λ a. continued (exec image k) (turned a (config s input put past))) e;
    }
