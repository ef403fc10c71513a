-- Input, output, rows, and exceptions that are raised.
use Rattle.std.proofs.Common.{◌≡◌, ℕ, ◌+◌, ◌-◌, ◌*◌, ◌/◌, ◌%◌, ◌^◌, ◌==◌, ◌≤◌, ◌<◌, Bool, true, false, cond, ◌&&◌, nat_lt, int_le, ℤ, pos, FitsSigned, List, [], ◌∷◌, ◌++◌, map, Some, None, refl, sym, ap, subst, ◌∙◌, arith, lit<}
use Rattle.std.specs.Int.{w32}
use Rattle.std.proofs.lemmas.Bool.Decides.{nat_tests}
use Rattle.std.proofs.lemmas.Int.{ints, to_z_pos}
use Rattle.std.proofs.lemmas.List.{append-nil, reverse-append}
use Rattle.cov_base.specs.declared.position.DecId.{DecId}
use Rattle.cov_base.specs.declared.position.StmtId.{StmtId}
use Rattle.cov_base.specs.declared.position.InstId.{InstId}
use Rattle.cov_base.specs.declared.event.Event.TheVariants.{Start}
use Rattle.rv_isa.specs.declared.ops.BranchOp.TheVariants.{Beq, Bltu}
use Rattle.rv_isa.specs.declared.ops.ImmediateOp.TheVariants.{Addi}
use Rattle.rv_isa.specs.declared.instr.Instr.{Instr}
use Rattle.rv_isa.specs.declared.instr.Instr.TheVariants.{Immediate, Ecall}
use Rattle.rv_isa.specs.Immediates.{sign_12, upper_value}
use Rattle.rv_semantics.specs.Arithmetic.{sum_32, signed, unsigned}
use Rattle.rv_semantics.specs.State.{State, given}
use Rattle.rv_semantics.specs.Step.{seen}
use Rattle.rv_semantics.specs.Past.{Config}
use Rattle.placed_code.specs.Code.{StandsAt}
use Rattle.placed_code.specs.Stretch.{config}
use Rattle.placed_code.proofs.Calls.{get_goes, get_at_the_end_goes, put_goes}
use Rattle.ada_meaning.specs.Arithmetic.{natural}
use Rattle.transcript.specs.Visit.{visit_of, visits}
use Rattle.kernel_ir.specs.declared.kernel.Layout.{Layout}
use Rattle.kernel_ir.specs.declared.simple.Simple.{Simple}
use Rattle.kernel_ir.specs.declared.simple.Simple.TheVariants as simple
use Rattle.kernel_ir.specs.World.{World, with_output, with_input, with_word, with_memory, slot_word, slot_in, noted, paid}
use Rattle.kernel_ir.specs.Simple.{does_simple, takes}
use Rattle.kernel_code.specs.Behind.{told, FollowsIfAny}
use Rattle.kernel_code.specs.Line.{Line, Site, plain, jump, checks, steers, LineStands, HasLines}
use Rattle.kernel_code.specs.Words.{high, low, load_slot, store_slot, load_constant}
use Rattle.kernel_code.specs.Goes.{Reaches, Silent, gone, Gone}
use Rattle.kernel_code.specs.SimpleCode.{Targets, Setting, branch, simple_lines}
use Rattle.kernel_code.specs.Code.{simple_length}
use Rattle.kernel_code.specs.Does.{IsFair, HasRoom, Like, Comes, IsRaised, Does}
use Rattle.kernel_code.proofs.Sums.{constant_is, signed_word, word_small}
use Rattle.kernel_code.proofs.Goes.{reaches_on, reaches_by, one_goes, silent_on, silent_one, no_visit, straight_lines_go, has_front, has_back, has_at}
use Rattle.kernel_code.proofs.Steps.{moved, branch_taken, branch_passed, jumps_to, line_silent}
use Rattle.kernel_code.proofs.Slots.{far, SlotAt, slot_at, Keeps, like_shows, like_kept, like_set, quiet_kept, quiet_set, paths_kept}

-- the word of a slot is to be put
abbrev puts : ℕ → List Instr
puts k = load_slot 10 k (Immediate Addi 17 0 2 ∷ [])

-- an exception's number and the greatest one; Program_Error is raised where it is none
abbrev tests_number : Setting → ℕ → List Instr
tests_number e k = load_slot 12 k (Immediate Addi 13 12 0xfff ∷ load_constant 14 e.exceptions [])

abbrev behind_number : Targets → ℕ → List Line
behind_number t p = branch steers Bltu 13 14 (p + 8) ∷ (plain (Immediate Addi 12 0 2) ∷ (jump t.raise_to ∷ []))

-- the next word of the input is asked for; End_Error is raised where there is none
abbrev asks : List Instr
asks = Immediate Addi 12 0 4 ∷ Immediate Addi 17 0 1 ∷ []

abbrev behind_call : Targets → (p k : ℕ) → List Line
behind_call t p k = branch checks Beq 11 0 (p + 5) ∷ (jump t.raise_to ∷ map plain (store_slot 10 k []))

module _ (site : Site) (layouts : List Layout) (exceptions own fp left bound : ℕ) (fair : IsFair site exceptions) (room : HasRoom fp bound) (predefined : 4 ≤ exceptions) (Out : DecId → Type 0) (fuel : ℕ) (t : Targets) (p : ℕ)
    (e : Setting) (w : World) (c : Config) (like : Like site fp left w c) (there : c.state.pc ≡ site.address own p) where
  abbrev Done : Simple → Type 0
  Done s = Does site exceptions own fp left fuel Out 0 w c t (p + simple_length s) (does_simple layouts exceptions fp s w)

  slot_of : (k : ℕ) → k < bound → SlotAt site fp w c k
  slot_of k in_k = slot_at site exceptions fp left bound w c k fair room like in_k

  abbrev word_in : ℕ → ℕ
  word_in k = c.state.mem (far (c.state.reg 8) k / 4)

  -- the row of a statement
  pub start_does : (s : StmtId) (i : InstId) → HasLines site own p (simple_lines e t.raise_to p (simple.Start s i)) → Done (simple.Start s i)
  start_does s i has =
      let line = has.0 in
      let stands : StandsAt site.image c.state.pc (Immediate Addi 0 0 0) = subst (λ a. StandsAt site.image a (Immediate Addi 0 0 0)) (sym there) line.item in
      let aligned : c.state.pc % 4 ≡ 0 = subst (λ a. a % 4 ≡ 0) (sym there) line.aligned in
      let d = gone c (Immediate Addi 0 0 0 ∷ []) in
      let none : visit_of site.facts (seen c.state None) ≡ None = no_visit site.facts c.state.pc (c.state.reg 8) in
      let row : site.facts.row c.state.pc ≡ Some (record { statement = s; instance = i }) = subst (λ a. site.facts.row a ≡ Some (record { statement = s; instance = i })) (sym there) line.row in
      record {
        end = d;
        steps = 1;
        reaches = one_goes site.image c (Immediate Addi 0 0 0) aligned stands tt;
        there = ap (λ a. a + 4) there ∙ sym line.next;
        like = like_shows site fp left w c d (noted (Start s i) (paid 1 w)).seen like (refl, refl, refl) refl refl
            (record { output = like.shows.output; events = ap (λ es. Start s i ∷ es) like.shows.events ∙ sym (says none row); order = (order none, like.shows.order) });
        quiet = record {
          paths = λ key apart n. ap (λ vs. Rattle.transcript.specs.Computed.path_to (site.facts.graph key.decision) (Rattle.transcript.specs.Visit.steps key vs) n) (same none);
          keeps = λ a above below. refl;
        };
        spent = (let x : 1 + 0 + 32 * w.seen.cost ≤ 32 * (w.seen.cost + 1) = omega arith in x);
        also = tt;
      }
    where
      says : visit_of site.facts (seen c.state None) ≡ None → site.facts.row c.state.pc ≡ Some (record { statement = s; instance = i }) → told site.facts (seen c.state None ∷ c.past) ≡ Start s i ∷ told site.facts c.past
      says none row = rw (none, row) refl

      order : visit_of site.facts (seen c.state None) ≡ None → FollowsIfAny site.facts (visits site.facts c.past) (visit_of site.facts (seen c.state None))
      order none = rw none tt

      same : visit_of site.facts (seen c.state None) ≡ None → visits site.facts (seen c.state None ∷ c.past) ≡ visits site.facts c.past
      same none = rw none refl

  -- an exception with a number
  pub raise_does : (x : ℕ) → 1 ≤ x → x ≤ exceptions → exceptions < 2 ^ 31 → HasLines site own p (simple_lines e t.raise_to p (simple.Raise x)) → Done (simple.Raise x)
  raise_does x some known few has =
      let went : Gone site own p c (load_constant 12 x []) = straight_lines_go site own p c (load_constant 12 x []) (has_front site own p (map plain (load_constant 12 x [])) (jump t.raise_to ∷ []) has) there (tt, (tt, tt)) in
      let last = has_back site own p (p + 2) (map plain (load_constant 12 x [])) (jump t.raise_to ∷ []) refl has in
      let d = moved (gone c (load_constant 12 x [])) None (site.address own t.raise_to) in
      let silent : Silent site.facts c.past d.past = silent_on site.facts c.past (gone c (load_constant 12 x [])).past d.past went.silent
      (line_silent site own (p + 2) (jump t.raise_to) (gone c (load_constant 12 x [])) None (site.address own t.raise_to) last.0 went.arrives refl refl) in
      record {
        end = d;
        steps = 3;
        reaches = reaches_on site.image 2 1 c (gone c (load_constant 12 x [])) d went.reaches (jumps_to site own (p + 2) t.raise_to (gone c (load_constant 12 x [])) last.0 went.arrives);
        there = refl;
        like = like_kept site fp left 1 w c d like (record { zeroth = refl; stack = refl; frame = refl; input = refl; output = refl; silent = silent }) refl;
        quiet = quiet_kept site fp left Out c d silent refl;
        spent = (let x : 3 + 0 + 32 * w.seen.cost ≤ 32 * (w.seen.cost + 1) = omega arith in x);
        also = record { number = constant_is x (omega arith); some = omega arith; known = known };
      }

  -- a word is put
  pub put_does : (k : ℕ) → k < bound → HasLines site own p (simple_lines e t.raise_to p (simple.Put k)) → Done (simple.Put k)
  put_does k in_k has =
      let from = slot_of k in_k in
      let went : Gone site own p c (puts k) =
      straight_lines_go site own p c (puts k) (has_front site own p (map plain (puts k)) (plain Ecall ∷ []) has) there (tt, (tt, (from.inside, (tt, tt)))) in
      let last = has_back site own p (p + 4) (map plain (puts k)) (plain Ecall ∷ []) refl has in
      let g = gone c (puts k) in
      let stands : StandsAt site.image g.state.pc Ecall = subst (λ a. StandsAt site.image a Ecall) (sym went.arrives) last.0.item in
      let zeroth = like.zeroth in
      let d : Config = config (record { pc = g.state.pc + 4; reg = g.state.reg; mem = g.state.mem }) g.input (g.output ++ slot_in fp k w ∷ []) (seen g.state None ∷ g.past) in
      let silent : Silent site.facts c.past d.past = silent_on site.facts c.past g.past d.past went.silent
      (silent_one site.facts (seen g.state None) g.past (subst (λ a. site.facts.row a ≡ None) (sym went.arrives) last.0.row) (no_visit site.facts g.state.pc (g.state.reg 8))) in
      record {
        end = d;
        steps = 5;
        reaches = reaches_on site.image 4 1 c g d went.reaches
            (reaches_by site.image g.state g.input (seen g.state None ∷ []) (slot_in fp k w ∷ []) d.state g.input g.output g.past
            (put_goes site.image g.state g.input (slot_in fp k w) (g.state.pc + 4) stands (let x : sum_32 (c.state.reg 0) 2 ≡ 2 = omega arith in x) (sym from.holds) refl));
        there = ap (λ a. a + 4) went.arrives ∙ (sym last.0.next ∙ ap (λ n. site.address own n) (let x : p + 4 + 1 ≡ p + 5 = omega arith in x));
        like = like_shows site fp left w c d (with_output (slot_in fp k w) (paid 1 w)).seen like (refl, refl, refl) refl refl
            (record { output = reverse-append (slot_in fp k w ∷ []) w.seen.output ∙ ap (λ os. os ++ slot_in fp k w ∷ []) like.shows.output; events = like.shows.events ∙ sym silent.says; order = silent.order like.shows.order });
        quiet = quiet_kept site fp left Out c d silent refl;
        spent = (let x : 5 + 0 + 32 * w.seen.cost ≤ 32 * (w.seen.cost + 1) = omega arith in x);
        also = tt;
      }

  -- the exception whose number a slot has
  pub raise_slot_does : (k : ℕ) → k < bound → exceptions < 2 ^ 31 → e.exceptions ≡ exceptions → HasLines site own p (simple_lines e t.raise_to p (simple.RaiseSlot k)) → Done (simple.RaiseSlot k)
  raise_slot_does k in_k few same has = by_test (int_le (pos 1) (slot_in fp k w) && int_le (slot_in fp k w) (pos exceptions)) refl
    where
      from : SlotAt site fp w c k
      from = slot_of k in_k

      went : Gone site own p c (tests_number e k)
      went = straight_lines_go site own p c (tests_number e k) (has_front site own p (map plain (tests_number e k)) (behind_number t p) has) there
          (tt, (tt, (from.inside, (tt, (tt, (tt, tt))))))

      last : HasLines site own (p + 6) (behind_number t p)
      last = has_back site own p (p + 6) (map plain (tests_number e k)) (behind_number t p) refl has

      has_jump : LineStands site own (p + 8) (jump t.raise_to)
      has_jump = (has_at site own (p + 6 + 1 + 1) (p + 8) (jump t.raise_to ∷ []) (omega arith) last.1.1).0

      number_test : (v x : ℕ) → v < 2 ^ 32 → x < 2 ^ 31 → nat_lt (sum_32 v (2 ^ 32 - 1)) x ≡ (int_le (pos 1) (signed v) && int_le (signed v) (pos x))
      number_test v x small less = grind (arith, ints, nat_tests)

      constant : sum_32 (upper_value (high e.exceptions)) (sign_12 (low e.exceptions)) ≡ exceptions
      constant = constant_is e.exceptions (omega (arith, same)) ∙ same

      test : nat_lt (sum_32 (word_in k) (2 ^ 32 - 1)) (sum_32 (upper_value (high e.exceptions)) (sign_12 (low e.exceptions))) ≡ (int_le (pos 1) (slot_in fp k w) && int_le (slot_in fp k w) (pos exceptions))
      test = ap (λ x. nat_lt (sum_32 (word_in k) (2 ^ 32 - 1)) x) constant ∙ (number_test (word_in k) exceptions from.small few ∙ ap (λ z. int_le (pos 1) z && int_le z (pos exceptions)) (sym from.holds))

      number_is : (int_le (pos 1) (slot_in fp k w) && int_le (slot_in fp k w) (pos exceptions)) ≡ true → (natural (slot_in fp k w) ≡ word_in k) × (1 ≤ word_in k) × (word_in k ≤ exceptions)
      number_is is =
          let h : (int_le (pos 1) (signed (word_in k)) && int_le (signed (word_in k)) (pos exceptions)) ≡ true = ap (λ z. int_le (pos 1) z && int_le z (pos exceptions)) (sym from.holds) ∙ is in
          let small = from.small in
          (ap natural (from.holds ∙ to_z_pos w32 (word_in k) (bounded (word_in k) small h).2), (bounded (word_in k) small h).0, (bounded (word_in k) small h).1)
        where
          bounded : (v : ℕ) → v < 2 ^ 32 → (int_le (pos 1) (signed v) && int_le (signed v) (pos exceptions)) ≡ true → (1 ≤ v) × (v ≤ exceptions) × (v < 2 ^ 31)
          bounded v small h = (grind (arith, ints, nat_tests), grind (arith, ints, nat_tests), grind (arith, ints, nat_tests))

      by_test : (b : Bool) → (int_le (pos 1) (slot_in fp k w) && int_le (slot_in fp k w) (pos exceptions)) ≡ b
          → Comes site own fp left Out 0 w c t.raise_to (IsRaised exceptions (cond b (natural (slot_in fp k w)) 2)) (paid 1 w)
      by_test true is =
          let g = gone c (tests_number e k) in
          let mid = moved g (Some true) (site.address own (p + 8)) in
          let d = moved mid None (site.address own t.raise_to) in
          let number = number_is is in
          let silent : Silent site.facts c.past d.past = silent_on site.facts c.past g.past d.past went.silent
          (silent_on site.facts g.past mid.past d.past
          (line_silent site own (p + 6) (branch steers Bltu 13 14 (p + 8)) g (Some true) (site.address own (p + 8)) last.0 went.arrives refl refl)
          (line_silent site own (p + 8) (jump t.raise_to) mid None (site.address own t.raise_to) has_jump refl refl refl)) in
          record {
            end = d;
            steps = 8;
            reaches = reaches_on site.image 6 2 c g d went.reaches (reaches_on site.image 1 1 g mid d (branch_taken site own (p + 6) steers Bltu 13 14 (p + 8) g last.0 went.arrives (test ∙ is)) (jumps_to site own (p + 8) t.raise_to mid has_jump refl));
            there = refl;
            like = like_kept site fp left 1 w c d like (record { zeroth = refl; stack = refl; frame = refl; input = refl; output = refl; silent = silent }) refl;
            quiet = quiet_kept site fp left Out c d silent refl;
            spent = (let x : 8 + 0 + 32 * w.seen.cost ≤ 32 * (w.seen.cost + 1) = omega arith in x);
            also = record { number = sym number.0; some = subst (λ n. 0 < n) (sym number.0) (omega (arith, number.1)); known = subst (λ n. n ≤ exceptions) (sym number.0) number.2 };
          }
      by_test false is =
          let g = gone c (tests_number e k) in
          let mid = moved g (Some false) (site.address own (p + 6 + 1)) in
          let two = straight_lines_go site own (p + 6 + 1) mid (Immediate Addi 12 0 2 ∷ []) (last.1.0, tt) refl (tt, tt) in
          let h = gone mid (Immediate Addi 12 0 2 ∷ []) in
          let at_jump : h.state.pc ≡ site.address own (p + 8) = two.arrives ∙ ap (λ n. site.address own n) (let x : p + 6 + 1 + 1 ≡ p + 8 = omega arith in x) in
          let d = moved h None (site.address own t.raise_to) in
          let zeroth = like.zeroth in
          let silent : Silent site.facts c.past d.past = silent_on site.facts c.past g.past d.past went.silent
          (silent_on site.facts g.past mid.past d.past
          (line_silent site own (p + 6) (branch steers Bltu 13 14 (p + 8)) g (Some false) (site.address own (p + 6 + 1)) last.0 went.arrives refl refl)
          (silent_on site.facts mid.past h.past d.past two.silent
          (line_silent site own (p + 8) (jump t.raise_to) h None (site.address own t.raise_to) has_jump at_jump refl refl))) in
          record {
            end = d;
            steps = 9;
            reaches = reaches_on site.image 6 3 c g d went.reaches (reaches_on site.image 1 2 g mid d (branch_passed site own (p + 6) steers Bltu 13 14 (p + 8) g last.0 went.arrives (test ∙ is))
                (reaches_on site.image 1 1 mid h d two.reaches (jumps_to site own (p + 8) t.raise_to h has_jump at_jump)));
            there = refl;
            like = like_kept site fp left 1 w c d like (record { zeroth = refl; stack = refl; frame = refl; input = refl; output = refl; silent = silent }) refl;
            quiet = quiet_kept site fp left Out c d silent refl;
            spent = (let x : 9 + 0 + 32 * w.seen.cost ≤ 32 * (w.seen.cost + 1) = omega arith in x);
            also = record { number = (let x : sum_32 (c.state.reg 0) 2 ≡ 2 = omega arith in x); some = lit< tt; known = omega arith };
          }

  -- the next word of the input
  pub get_does : (k : ℕ) → k < bound → HasLines site own p (simple_lines e t.raise_to p (simple.Get k)) → Done (simple.Get k)
  unfolding given
  get_does k in_k has = by_input w.input refl
    where
      behind_front : HasLines site own (p + 2) (plain Ecall ∷ (behind_call t p k))
      behind_front = has_back site own p (p + 2) (map plain asks) (plain Ecall ∷ (behind_call t p k)) refl has

      has_branch : HasLines site own (p + 3) (behind_call t p k)
      has_branch = has_at site own (p + 2 + 1) (p + 3) (behind_call t p k) (omega arith) behind_front.1

      has_store : HasLines site own (p + 5) (map plain (store_slot 10 k []))
      has_store = has_at site own (p + 3 + 1 + 1) (p + 5) (map plain (store_slot 10 k [])) (omega arith) has_branch.1.1

      went : Gone site own p c asks
      went = straight_lines_go site own p c asks (has_front site own p (map plain asks) (plain Ecall ∷ (behind_call t p k)) has) there (tt, (tt, tt))

      stands : StandsAt site.image (gone c asks).state.pc Ecall
      stands = subst (λ a. StandsAt site.image a Ecall) (sym went.arrives) behind_front.0.item

      one_is : sum_32 (c.state.reg 0) 1 ≡ 1
      one_is = let z = like.zeroth in omega arith

      arrives : (gone c asks).state.pc + 4 ≡ site.address own (p + 3)
      arrives = ap (λ a. a + 4) went.arrives ∙ (sym behind_front.0.next ∙ ap (λ n. site.address own n) (let x : p + 2 + 1 ≡ p + 3 = omega arith in x))

      call_silent : (d : Config) → d.past ≡ seen (gone c asks).state None ∷ (gone c asks).past → Silent site.facts c.past d.past
      call_silent d is = subst (λ past. Silent site.facts c.past past) (sym is)
          (silent_on site.facts c.past (gone c asks).past _ went.silent
          (silent_one site.facts (seen (gone c asks).state None) (gone c asks).past
          (subst (λ a. site.facts.row a ≡ None) (sym went.arrives) behind_front.0.row) (no_visit site.facts _ _)))

      by_input : (ws : List ℤ) → w.input ≡ ws → Does site exceptions own fp left fuel Out 0 w c t (p + 8) (takes layouts exceptions fp k ws w)
      by_input [] is =
          let g = gone c asks in
          let s : State = given (record { pc = g.state.pc + 4; reg = g.state.reg; mem = g.state.mem }) None in
          let d1 : Config = config s [] g.output (seen g.state None ∷ g.past) in
          let none : [] ≡ c.input = sym is ∙ like.input in
          let call : Reaches site.image 1 g d1 =
          subst (λ inp. Reaches site.image 1 (config g.state inp g.output g.past) d1) none
          (subst (λ put. Reaches site.image 1 (config g.state [] g.output g.past) (config s [] put (seen g.state None ∷ g.past))) (append-nil g.output)
          (reaches_by site.image g.state [] (seen g.state None ∷ []) [] s [] g.output g.past (get_at_the_end_goes site.image g.state (g.state.pc + 4) stands one_is refl))) in
          let zeroth = like.zeroth in
          let mid = moved d1 (Some false) (site.address own (p + 3 + 1)) in
          let d = moved mid None (site.address own t.raise_to) in
          let off : (1 == c.state.reg 0) ≡ false = grind (arith, nat_tests) in
          let silent : Silent site.facts c.past d.past = silent_on site.facts c.past d1.past d.past (call_silent d1 refl)
          (silent_on site.facts d1.past mid.past d.past
          (line_silent site own (p + 3) (branch checks Beq 11 0 (p + 5)) d1 (Some false) (site.address own (p + 3 + 1)) has_branch.0 arrives refl refl)
          (line_silent site own (p + 3 + 1) (jump t.raise_to) mid None (site.address own t.raise_to) has_branch.1.0 refl refl refl)) in
          record {
            end = d;
            steps = 5;
            reaches = reaches_on site.image 2 3 c g d went.reaches (reaches_on site.image 1 2 g d1 d call
                (reaches_on site.image 1 1 d1 mid d (branch_passed site own (p + 3) checks Beq 11 0 (p + 5) d1 has_branch.0 arrives off) (jumps_to site own (p + 3 + 1) t.raise_to mid has_branch.1.0 refl)));
            there = refl;
            like = like_kept site fp left 1 w c d like (record { zeroth = refl; stack = refl; frame = refl; input = none; output = refl; silent = silent }) refl;
            quiet = quiet_kept site fp left Out c d silent refl;
            spent = (let x : 5 + 0 + 32 * w.seen.cost ≤ 32 * (w.seen.cost + 1) = omega arith in x);
            also = record { number = (let x : sum_32 (c.state.reg 0) 4 ≡ 4 = omega arith in x); some = lit< tt; known = predefined };
          }
      by_input (x ∷ xs) is =
          let g = gone c asks in
          let s : State = given (record { pc = g.state.pc + 4; reg = g.state.reg; mem = g.state.mem }) (Some x) in
          let d1 : Config = config s xs g.output (seen g.state None ∷ g.past) in
          let more : x ∷ xs ≡ c.input = sym is ∙ like.input in
          let call : Reaches site.image 1 g d1 =
          subst (λ inp. Reaches site.image 1 (config g.state inp g.output g.past) d1) more
          (subst (λ put. Reaches site.image 1 (config g.state (x ∷ xs) g.output g.past) (config s xs put (seen g.state None ∷ g.past))) (append-nil g.output)
          (reaches_by site.image g.state (x ∷ xs) (seen g.state None ∷ []) [] s xs g.output g.past (get_goes site.image g.state x xs (g.state.pc + 4) stands one_is refl))) in
          let zeroth = like.zeroth in
          let numbers = subst (λ inp. Rattle.std.specs.List.AllByRecursion (FitsSigned w32) inp) (sym more) like.numbers in
          let mid = moved d1 (Some true) (site.address own (p + 5)) in
          let fine : (0 == c.state.reg 0) ≡ true = grind (arith, nat_tests) in
          let silent1 : Silent site.facts c.past mid.past = silent_on site.facts c.past d1.past mid.past (call_silent d1 refl)
          (line_silent site own (p + 3) (branch checks Beq 11 0 (p + 5)) d1 (Some true) (site.address own (p + 5)) has_branch.0 arrives refl refl) in
          let like1 : Like site fp left (with_input xs (paid 1 w)) mid = record {
            zeroth = like.zeroth;
            frame = like.frame;
            stack = like.stack;
            memory = like.memory;
            words = like.words;
            input = refl;
            numbers = numbers.1;
            shows = record { output = like.shows.output; events = like.shows.events ∙ sym silent1.says; order = silent1.order like.shows.order };
          } in
          let slot = slot_at site exceptions fp left bound (with_input xs (paid 1 w)) mid k fair room like1 in_k in
          let store = straight_lines_go site own (p + 5) mid (store_slot 10 k []) has_store refl (tt, (tt, ((slot.inside, slot.behind), tt))) in
          let d = gone mid (store_slot 10 k []) in
          let below = room.below in
          let above = room.above in
          record {
            end = d;
            steps = 7;
            reaches = reaches_on site.image 2 5 c g d went.reaches (reaches_on site.image 1 4 g d1 d call
                (reaches_on site.image 1 3 d1 mid d (branch_taken site own (p + 3) checks Beq 11 0 (p + 5) d1 has_branch.0 arrives fine) store.reaches));
            there = store.arrives ∙ ap (λ n. site.address own n) (let y : p + 5 + 3 ≡ p + 8 = omega arith in y);
            like = subst (λ u. Like site fp left (with_memory (with_word (slot_word fp k) x w.memory) u) d) (Rattle.kernel_code.proofs.Slots.unpaid (with_input xs (paid 1 w)))
                (like_set site fp left 0 (with_input xs (paid 1 w)) mid d (slot_word fp k) (far (c.state.reg 8) k / 4) (unsigned x) x like1
                (record { zeroth = refl; stack = refl; frame = refl; input = refl; output = refl; silent = store.silent }) refl slot.word (signed_word x numbers.0) (word_small x numbers.0));
            quiet = Rattle.kernel_code.proofs.Compose.quiet_on site fp left Out c mid d (quiet_kept site fp left Out c mid silent1 refl)
                (quiet_set site fp left Out mid d (far (c.state.reg 8) k / 4) (unsigned x) store.silent refl (omega (arith, slot.word)));
            spent = (let y : 7 + 0 + 32 * w.seen.cost ≤ 32 * (w.seen.cost + 1) = omega arith in y);
            also = tt;
          }
