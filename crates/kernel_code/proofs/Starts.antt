-- From the start of a run to its end.
use Rattle.std.proofs.Common.{◌≡◌, ℕ, zero, suc, ◌+◌, ◌-◌, ◌*◌, ◌/◌, ◌^◌, ◌&&◌, ◌≤◌, ◌<◌, Bool, true, false, cond, nat_lt, nat_le, ℤ, List, [], ◌∷◌, ◌++◌, map, length, slice_index, reverse, None, refl, sym, ap, subst, ◌∙◌, arith, lit≤, lit<}
use Rattle.std.proofs.lemmas.Bool.Decides.{nat_tests}
use Rattle.cov_base.specs.Lists.{Everywhere}
use Rattle.rv_isa.specs.declared.ops.UpperOp.TheVariants.{Lui}
use Rattle.rv_isa.specs.declared.ops.ImmediateOp.TheVariants.{Addi}
use Rattle.rv_isa.specs.declared.instr.Instr.{Instr}
use Rattle.rv_isa.specs.declared.instr.Instr.TheVariants.{Upper, Immediate, Ecall}
use Rattle.rv_semantics.specs.Layout.{data_start, text_start, placed}
use Rattle.rv_semantics.specs.Arithmetic.{sum_32, signed}
use Rattle.rv_semantics.specs.State.{start}
use Rattle.rv_semantics.specs.Step.{seen}
use Rattle.rv_semantics.specs.Run.Outcome.{Ended as EndedBy, Cut as CutOff}
use Rattle.rv_semantics.specs.Past.{Config, exec, goes, over, run_of}
use Rattle.rv_semantics.proofs.Runs.{carries_the_run}
use Rattle.placed_code.specs.Code.{StandsAt}
use Rattle.placed_code.specs.Stretch.{config, Ends as EndsAt}
use Rattle.placed_code.proofs.Calls.{end_goes}
use Rattle.kernel_ir.specs.declared.kernel.Kernel.{Kernel}
use Rattle.kernel_ir.specs.World.{World, Ended, Ends, Exits, Returns, Raises, Cut, data_word, area_end}
use Rattle.kernel_ir.specs.Meaning.{calls_in, begin, exec as exec_kernel}
use Rattle.kernel_ir.specs.Limits.{IsWellFormed, IsWithin}
use Rattle.kernel_code.specs.Line.{Line, Site, plain, LineStands, HasLines}
use Rattle.kernel_code.specs.Words.{low, load_constant}
use Rattle.kernel_code.specs.Goes.{Reaches, Silent, gone}
use Rattle.kernel_code.specs.SimpleCode.{call_piece}
use Rattle.kernel_code.specs.Does.{Shows, Like, GoesOn, IsRaised}
use Rattle.kernel_code.specs.Calls.{IsDeep, Backs, IsFine, BodyDoes, CallsDo, Holds}
use Rattle.kernel_code.specs.Whole.{first_state, run_on, IsInput, Matches, EndsWith, IsGoing, Follows}
use Rattle.kernel_code.proofs.Behind.{past_tells, past_is_disciplined}
use Rattle.kernel_code.proofs.Goes.{reaches_on, silent_on, silent_one, no_visit, straight_lines_go, has_front, has_back}
use Rattle.kernel_code.proofs.CallLines.{entered, call_enters}
use Rattle.kernel_code.proofs.Steps.{line_silent}

-- a word of a list of words
word_below : (xs : List ℕ) (n : ℕ) → Everywhere (λ x. x < 2 ^ 32) xs → slice_index xs n < 2 ^ 32
word_below [] n all = lit< tt
word_below (x ∷ xs) zero all = all.0
word_below (x ∷ xs) (suc n) all = word_below xs n all.1

module _ (site : Site) (k : Kernel) (holds : Holds site k) (formed : IsWellFormed site.facts.graph k) (within : IsWithin k) (input : List ℤ) (numbers : IsInput input) where
  abbrev first : Config
  first = config (first_state site k) input [] []

  -- the first memory of the machine is the kernel's in the data area
  abbrev memory_is : ℕ → ℕ
  memory_is = placed (placed (λ _. 0) (text_start / 4) site.image.text) (data_start / 4) k.library

  below_data : (a : ℕ) → data_word ≤ a → (nat_le (text_start / 4) a && nat_lt a (text_start / 4 + length site.image.text)) ≡ false
  below_data a low = let text = holds.fair.text in grind (arith, nat_tests)

  same_word : (a : ℕ) → data_word ≤ a → memory_is a ≡ placed (λ _. 0) data_word k.library a
  same_word a low = ap (λ b. cond (nat_le data_word a && nat_lt a (data_word + length k.library)) (slice_index k.library (a - data_word)) (cond b (slice_index site.image.text (a - text_start / 4)) 0)) (below_data a low)

  small_word : (a : ℕ) → data_word ≤ a → memory_is a < 2 ^ 32
  small_word a low = subst (λ x. x < 2 ^ 32) (sym (same_word a low)) (by_test (nat_le data_word a && nat_lt a (data_word + length k.library)))
    where
      by_test : (b : Bool) → cond b (slice_index k.library (a - data_word)) 0 < 2 ^ 32
      by_test true = word_below k.library (a - data_word) formed.library
      by_test false = lit< tt

  abbrev opening : List Instr
  opening = Upper Lui 8 0x1fc0 ∷ load_constant 2 0x1fc0800 []

  abbrev closing : List Instr
  closing = Immediate Addi 10 12 0 ∷ Immediate Addi 17 0 3 ∷ []

  abbrev last_lines : List Line
  last_lines = map plain closing ++ (plain Ecall ∷ [])

  has_call : HasLines site 0 3 (call_piece (k.main + 1) ∷ last_lines)
  has_call = has_back site 0 0 3 (map plain opening) (call_piece (k.main + 1) ∷ last_lines) refl holds.start

  has_last : HasLines site 0 4 last_lines
  has_last = has_call.1

  has_end : LineStands site 0 6 (plain Ecall)
  has_end = (has_back site 0 4 6 (map plain closing) (plain Ecall ∷ []) refl has_last).0

  -- the machine in the main body
  pub record Begun : Type 0 where
    pub main : Config
    pub reaches : Reaches site.image 4 first main
    pub there : main.state.pc ≡ site.address (k.main + 1) 0
    pub back : main.state.reg 1 ≡ site.address 0 4
    pub like : Like site area_end (511 + 1) (begin k input) main

  begins : Begun
  unfolding start
  begins =
      let went = straight_lines_go site 0 0 first opening (has_front site 0 0 (map plain opening) (call_piece (k.main + 1) ∷ last_lines) holds.start) refl (tt, (tt, (tt, tt))) in
      let c = gone first opening in
      let silent : Silent site.facts [] (entered site (k.main + 1) c).past =
      silent_on site.facts [] c.past (entered site (k.main + 1) c).past went.silent
      (line_silent site 0 3 (call_piece (k.main + 1)) c None (site.address (k.main + 1) 0) has_call.0 went.arrives refl refl) in
      record {
        main = entered site (k.main + 1) c;
        reaches = reaches_on site.image 3 1 first c (entered site (k.main + 1) c) went.reaches (call_enters site 0 3 (k.main + 1) c has_call.0 went.arrives);
        there = refl;
        back = ap (λ a. a + 4) went.arrives ∙ sym has_call.0.next;
        like = record {
          zeroth = refl;
          frame = refl;
          stack = refl;
          memory = λ a low high. ap signed (sym (same_word a low));
          words = small_word;
          input = refl;
          numbers = numbers;
          shows = record { output = refl; events = sym silent.says; order = silent.order tt };
        };
      }

  -- the run that a machine carries
  matches_of : (w : World) (c : Config) (budget : ℕ) → Shows site w c → (out : _) → run_of (exec site.image budget first) ≡ record { entries = reverse c.past; output = c.output; outcome = out }
      → Matches site w (run_on site k input budget)
  matches_of w c budget shows out is =
      let run : run_on site k input budget ≡ record { entries = reverse c.past; output = c.output; outcome = out } = sym (carries_the_run site.image budget first) ∙ is in
      subst (Matches site w) (sym run) (record {
        output = shows.output;
        events = ap reverse shows.events ∙ past_tells site.facts c.past;
        order = past_is_disciplined site.facts c.past shows.order;
      })

  ends_by : (number : ℕ) (w : World) (main : Config) → Reaches site.image 4 first main → (Also : Config → Type 0) → (one : Backs site area_end 511 (site.address 0 4) (begin k input) main Also w)
      → one.end.state.reg 12 ≡ number → number < 2 ^ 32 → number ≤ site.image.exceptions → EndsWith site k input number w
  ends_by number w main reaches Also one is small known =
      let c = one.end in
      let went = straight_lines_go site 0 4 c closing (has_front site 0 4 (map plain closing) (plain Ecall ∷ []) has_last) one.there (tt, (tt, tt)) in
      let d = gone c closing in
      let zeroth = one.like.zeroth in
      let stands : StandsAt site.image d.state.pc Ecall = subst (λ a. StandsAt site.image a Ecall) (sym went.arrives) has_end.item in
      let ends : EndsAt site.image d.state d.input (seen d.state None) number =
      end_goes site.image d.state d.input number stands (let x : sum_32 (c.state.reg 0) 3 ≡ 3 = omega arith in x) (let x : sum_32 (c.state.reg 12) 0 ≡ number = omega arith in x) known in
      let u : Config = config d.state d.input d.output (seen d.state None ∷ d.past) in
      let all : Reaches site.image (4 + (one.steps + 2)) first d = reaches_on site.image 4 (one.steps + 2) first main d reaches (reaches_on site.image one.steps 2 main c d one.reaches went.reaches) in
      let over_is : exec site.image (1 + (4 + (one.steps + 2))) first ≡ over number u = all.by 1 ∙ ends.carried 0 d.output d.past in
      let spent = one.spent in
      let silent : Silent site.facts c.past u.past = silent_on site.facts c.past d.past u.past went.silent
      (silent_one site.facts (seen d.state None) d.past (subst (λ a. site.facts.row a ≡ None) (sym went.arrives) has_end.row) (no_visit site.facts d.state.pc (d.state.reg 8))) in
      let shows : Shows site w u = record { output = one.like.shows.output; events = one.like.shows.events ∙ sym silent.says; order = silent.order one.like.shows.order } in
      record {
        budget = 1 + (4 + (one.steps + 2));
        outcome = ap (λ r. r.outcome) (sym (carries_the_run site.image (1 + (4 + (one.steps + 2))) first) ∙ ap run_of over_is);
        matches = matches_of w u (1 + (4 + (one.steps + 2))) shows (EndedBy number) (ap run_of over_is);
        spent = (let x : 1 + (4 + (one.steps + 2)) ≤ 32 * w.seen.cost + 8 = omega arith in x);
      }

  goes_as : (fuel : ℕ) (w : World) (main : Config) → Reaches site.image 4 first main → GoesOn site fuel main w → IsGoing site k input fuel w
  unfolding exec
  goes_as fuel w main reaches one =
      let all : Reaches site.image (4 + one.steps) first one.end = reaches_on site.image 4 one.steps first main one.end reaches one.reaches in
      let goes_is : exec site.image (0 + (4 + one.steps)) first ≡ goes one.end = all.by 0 in
      let held = one.enough in
      record {
        budget = 0 + (4 + one.steps);
        outcome = ap (λ r. r.outcome) (sym (carries_the_run site.image (0 + (4 + one.steps)) first) ∙ ap run_of goes_is);
        matches = matches_of w one.end (0 + (4 + one.steps)) one.shows CutOff (ap run_of goes_is);
        enough = omega arith;
      }

  abbrev main_deep : IsDeep area_end 511
  main_deep = record { above = lit≤ tt; below = lit≤ tt; few = lit< tt }

  back_small : site.address 0 4 < 2 ^ 32
  back_small = let within = has_last.0.item.within in omega arith

  pub code_follows : (fuel : ℕ) → CallsDo site k (calls_in k fuel) fuel → Follows site k input fuel (exec_kernel k fuel input)
  code_follows fuel do_calls =
      let at_main = begins in
      by_end at_main.main at_main.reaches (exec_kernel k fuel input)
      (do_calls k.main area_end 511 (site.address 0 4) (begin k input) at_main.main formed.main main_deep at_main.like at_main.there at_main.back has_last.0.aligned back_small)
    where
      by_end : (main : Config) → Reaches site.image 4 first main → (ended : Ended) → BodyDoes site k.exceptions area_end 511 fuel (site.address 0 4) (begin k input) main ended → Follows site k input fuel ended
      by_end main reaches (Ends w) one = ends_by 0 w main reaches IsFine one one.also (lit< tt) (omega arith)
      by_end main reaches (Exits w) one = one
      by_end main reaches (Returns w) one = one
      by_end main reaches (Raises e w) one =
          let known = one.also.known in
          let few = formed.exceptions in
          let raised = holds.fair.raised in
          ends_by e w main reaches (IsRaised k.exceptions e) one one.also.number (omega arith) (omega arith)
      by_end main reaches (Cut w) one = goes_as fuel w main reaches one
