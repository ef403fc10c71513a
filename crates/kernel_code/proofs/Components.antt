-- The components of a layout: a list of them, and so many times the same.
use Rattle.std.proofs.Common.{◌≡◌, ℕ, zero, suc, ◌+◌, ◌-◌, ◌*◌, ◌/◌, ◌^◌, ◌==◌, ◌≤◌, ◌<◌, true, false, List, [], ◌∷◌, ◌++◌, map, length, Some, None, refl, sym, ap, ap₂, subst, ◌∙◌, arith, lit≤, length-append}
use Rattle.std.proofs.lemmas.Bool.Decides.{nat_tests}
use Rattle.cov_base.specs.Lists.{Everywhere}
use Rattle.rv_isa.specs.declared.ops.UpperOp.TheVariants.{Lui}
use Rattle.rv_isa.specs.declared.ops.BranchOp.TheVariants.{Beq}
use Rattle.rv_isa.specs.declared.ops.ImmediateOp.TheVariants.{Addi}
use Rattle.rv_isa.specs.declared.ops.LoadOp.TheVariants.{Lw}
use Rattle.rv_isa.specs.declared.ops.StoreOp.TheVariants.{Sw}
use Rattle.rv_isa.specs.declared.instr.Instr.{Instr}
use Rattle.rv_isa.specs.declared.instr.Instr.TheVariants.{Upper, Load, Store, Immediate}
use Rattle.rv_isa.specs.Immediates.{sign_12, upper_value}
use Rattle.rv_semantics.specs.Arithmetic.{sum_32}
use Rattle.rv_semantics.specs.State.{at}
use Rattle.rv_semantics.specs.Past.{Config}
use Rattle.placed_code.specs.Code.{text_end}
use Rattle.kernel_ir.specs.declared.kernel.Kernel.{Kernel}
use Rattle.kernel_ir.specs.World.{World, with_memory, data_word, area_end}
use Rattle.kernel_ir.specs.Simple.{filled}
use Rattle.kernel_ir.specs.Layouts.{Content, no_content, content_at, repeated, joined, composite, content_in}
use Rattle.kernel_code.specs.Line.{Line, Site, plain, jump, steers, LineStands, HasLines}
use Rattle.kernel_code.specs.Words.{high, low}
use Rattle.kernel_code.specs.Goes.{Silent, gone}
use Rattle.kernel_code.specs.SimpleCode.{branch, call_piece}
use Rattle.kernel_code.specs.FillCode.{layout_word, counter_byte}
use Rattle.kernel_code.specs.Does.{Like}
use Rattle.kernel_code.specs.Calls.{first_layout}
use Rattle.kernel_code.specs.Fills.{Fills, LayoutFills}
use Rattle.kernel_code.proofs.Goes.{reaches_on, silent_on, straight_lines_go, has_front, has_back}
use Rattle.kernel_code.proofs.Steps.{moved, branch_taken, branch_passed, jumps_to, line_silent}
use Rattle.kernel_code.proofs.CallLines.{entered, call_enters}
use Rattle.kernel_code.proofs.Fills.{fills_none, fills_on, OwnWord, own_word, like_above, at_other, at_same, at_small}

-- ---- the words of a layout, and sums of what is filled

area_off : (l x : ℕ) → x < area_end + 0x1000 → x ≡ layout_word l + 1 → ⊥
area_off l x low e = omega (arith, e)

low_off : (l x : ℕ) → x < area_end → x ≡ layout_word l + 1 → ⊥
low_off l x low e = omega (arith, e)

high_off : (l x : ℕ) → layout_word (l + 1) ≤ x → x ≡ layout_word l + 1 → ⊥
high_off l x high e = omega (arith, e)

own_off : (l : ℕ) → layout_word l ≡ layout_word l + 1 → ⊥
own_off l e = omega (arith, e)

own_high : (l : ℕ) → layout_word l ≤ layout_word l
own_high l = omega arith

counter_high : (l : ℕ) → layout_word l ≤ layout_word l + 1
counter_high l = omega arith

higher : (l x : ℕ) → layout_word (l + 1) ≤ x → layout_word l ≤ x
higher l x high = omega arith

one_fits : (a one others both : ℕ) → both ≡ one + others → a + both ≤ area_end → a + one ≤ area_end
one_fits a one others both total enough = omega (arith, total)

others_fit : (a one others both : ℕ) → both ≡ one + others → a + both ≤ area_end → a + one + others ≤ area_end
others_fit a one others both total enough = omega (arith, total)

further_on : (a one : ℕ) → data_word ≤ a → data_word ≤ a + one
further_on a one low = omega arith

ends_at : (a one others both : ℕ) → both ≡ one + others → 4 * (a + one + others) ≡ 4 * (a + both)
ends_at a one others both total = omega (arith, total)

fewer : (n : ℕ) → suc n < 2 ^ 32 → n < 2 ^ 32
fewer n small = omega arith

turn_spent : (one others first rest : ℕ) → one + 7 ≤ 32 * first → others + 20 ≤ 32 * (1 + rest) → 2 + (1 + (2 + (one + (1 + others)))) + 20 ≤ 32 * (1 + (first + rest))
turn_spent one others first rest a b = omega arith

module _ (site : Site) (k : Kernel) (own fp left l : ℕ) (earlier : (j : ℕ) → j < l → LayoutFills site k j) where
  -- a call of a component
  pub component_fills : (q j : ℕ) → j < l → LineStands site own q (call_piece (first_layout k + j)) → (a : ℕ) (w : World) (c : Config) → Like site fp left w c → c.state.pc ≡ site.address own q → c.state.reg 10 ≡ 4 * a
      → data_word ≤ a → a + length (content_in k.layouts j).words ≤ area_end → Fills site fp left l 7 (content_in k.layouts j) a (site.address own (q + 1)) w c
  component_fills q j below stands a w c like there next low_enough high_enough =
      let d = entered site (first_layout k + j) c in
      let silent : Silent site.facts c.past d.past = line_silent site own q (call_piece (first_layout k + j)) c None (site.address (first_layout k + j) 0) stands there refl refl in
      let like_d : Like site fp left w d = like_above site fp left w c d like (refl, refl, refl) (λ x h. refl) (λ x h. like.words x h) refl refl silent in
      let within = stands.item.stands.within in
      let aligned = stands.aligned in
      let back : c.state.pc + 4 ≡ site.address own (q + 1) = ap (λ n. n + 4) there ∙ sym stands.next in
      let one = earlier j below fp left (site.address own (q + 1)) a w d like_d refl back (omega (arith, stands.next)) (omega (arith, stands.next)) next low_enough high_enough in
      let spent = one.spent in
      record {
        end = one.end;
        steps = 1 + one.steps;
        reaches = reaches_on site.image 1 one.steps c d one.end (call_enters site own q (first_layout k + j) c stands there) one.reaches;
        there = one.there;
        like = one.like;
        next = one.next;
        silent = silent_on site.facts c.past d.past one.end.past silent one.silent;
        keeps_low = one.keeps_low;
        keeps_high = λ x high. one.keeps_high x (omega arith);
        spent = omega arith;
      }

  -- components in order
  module _ (known : List Content) (same : (j : ℕ) → j < l → content_at known j ≡ content_in k.layouts j) where
    pub components_fill : (cs : List ℕ) (rest : List Line) (q : ℕ) → Everywhere (λ j. j < l) cs → HasLines site own q (map (λ j. call_piece (first_layout k + j)) cs ++ rest) → (a : ℕ) (w : World) (c : Config)
        → Like site fp left w c → c.state.pc ≡ site.address own q → c.state.reg 10 ≡ 4 * a → data_word ≤ a → a + length (joined known cs).words ≤ area_end
        → Fills site fp left l 0 (joined known cs) a (site.address own (q + length cs)) w c
    components_fill [] rest q below has a w c like there next low_enough high_enough =
        subst (λ pc. Fills site fp left l 0 no_content a pc w c) (there ∙ ap (λ n. site.address own n) (let e : q ≡ q + 0 = omega arith in e)) (fills_none site fp left l a w c like next)
    components_fill (j ∷ cs) rest q below has a w c like there next low_enough high_enough =
        let is = same j below.0 in
        let long : length (content_at known j).words ≡ length (content_in k.layouts j).words = ap (λ x. length x.words) is in
        let total = length-append (content_at known j).words (joined known cs).words in
        let one : Fills site fp left l 7 (content_at known j) a (site.address own (q + 1)) w c =
        subst (λ x. Fills site fp left l 7 x a (site.address own (q + 1)) w c) (sym is) (component_fills q j below.0 has.0 a w c like there next low_enough (omega (arith, long, total))) in
        let others = components_fill cs rest (q + 1) below.1 has.1 (a + length (content_at known j).words) (with_memory (filled (content_at known j).words a w.memory) w) one.end one.like one.there one.next (omega arith) (omega (arith, total)) in
        subst (λ pc. Fills site fp left l 0 (joined known (j ∷ cs)) a pc w c) (ap (λ n. site.address own n) (let e : q + 1 + length cs ≡ q + length (j ∷ cs) = omega arith in e))
        (fills_on site fp left l 0 7 0 (content_at known j) (joined known cs) a (site.address own (q + 1)) (site.address own (q + 1 + length cs)) w c one others (omega arith))

  -- the same component, as often as the counter says: the loop begins at place 6
  module _ (text : text_end site.image ≤ 4 * data_word) (few : l < 0x3f00) (j : ℕ) (below : j < l) (rest : List Line) where
    abbrev counter : ℕ
    counter = layout_word l + 1

    abbrev load_counter : List Instr
    load_counter = Upper Lui 5 (high (counter_byte l)) ∷ Load Lw 11 5 (low (counter_byte l)) ∷ []

    abbrev count_down : List Instr
    count_down = Immediate Addi 11 11 0xfff ∷ Store Sw 5 11 (low (counter_byte l)) ∷ []

    abbrev pub loop_lines : List Line
    loop_lines = map plain load_counter ++ (branch steers Beq 11 0 13 ∷ (map plain count_down ++ (call_piece (first_layout k + j) ∷ (jump 6 ∷ rest))))

    slot : OwnWord site counter
    slot = own_word site counter text (omega arith) (omega arith)

    pub record Turned (n a : ℕ) (w : World) (c : Config) : Type 0 where
      pub fills : Fills site fp left (l + 1) 20 (composite (repeated n (content_in k.layouts j))) a (site.address own 13) w c
      pub kept : fills.end.state.mem (layout_word l) ≡ c.state.mem (layout_word l)

    pub turns_fill : HasLines site own 6 loop_lines → (n a : ℕ) (w : World) (c : Config) → Like site fp left w c → c.state.pc ≡ site.address own 6 → c.state.mem counter ≡ n → n < 2 ^ 32 → c.state.reg 10 ≡ 4 * a
        → data_word ≤ a → a + length (repeated n (content_in k.layouts j)).words ≤ area_end → Turned n a w c
    turns_fill has zero a w c like there count small next low_enough high_enough =
        let went = straight_lines_go site own 6 c load_counter (has_front site own 6 (map plain load_counter) (branch steers Beq 11 0 13 ∷ (map plain count_down ++ (call_piece (first_layout k + j) ∷ (jump 6 ∷ rest)))) has) there (tt, (slot.inside, tt)) in
        let behind = has_back site own 6 8 (map plain load_counter) (branch steers Beq 11 0 13 ∷ (map plain count_down ++ (call_piece (first_layout k + j) ∷ (jump 6 ∷ rest)))) refl has in
        let g = gone c load_counter in
        let zeroth = like.zeroth in
        let value : c.state.mem (sum_32 (upper_value (high (counter_byte l))) (sign_12 (low (counter_byte l))) / 4) ≡ 0 = ap c.state.mem slot.word ∙ count in
        let over : (c.state.mem (sum_32 (upper_value (high (counter_byte l))) (sign_12 (low (counter_byte l))) / 4) == c.state.reg 0) ≡ true = grind (arith, nat_tests) in
        let d = moved g (Some true) (site.address own 13) in
        let silent : Silent site.facts c.past d.past = silent_on site.facts c.past g.past d.past went.silent (line_silent site own 8 (branch steers Beq 11 0 13) g (Some true) (site.address own 13) behind.0 went.arrives refl refl) in
        record {
          fills = record {
            end = d;
            steps = 3;
            reaches = reaches_on site.image 2 1 c g d went.reaches (branch_taken site own 8 steers Beq 11 0 13 g behind.0 went.arrives over);
            there = refl;
            like = like_above site fp left w c d like (refl, refl, refl) (λ x h. refl) (λ x h. like.words x h) refl refl silent;
            next = next ∙ (let e : 4 * a ≡ 4 * (a + 0) = omega arith in e);
            silent = silent;
            keeps_low = λ x low high. refl;
            keeps_high = λ x high. refl;
            spent = lit≤ tt;
          };
          kept = refl;
        }
    turns_fill has (suc n) a w c like there count small next low_enough high_enough =
        let went = straight_lines_go site own 6 c load_counter (has_front site own 6 (map plain load_counter) (branch steers Beq 11 0 13 ∷ (map plain count_down ++ (call_piece (first_layout k + j) ∷ (jump 6 ∷ rest)))) has) there (tt, (slot.inside, tt)) in
        let behind = has_back site own 6 8 (map plain load_counter) (branch steers Beq 11 0 13 ∷ (map plain count_down ++ (call_piece (first_layout k + j) ∷ (jump 6 ∷ rest)))) refl has in
        let g = gone c load_counter in
        let zeroth = like.zeroth in
        let value : c.state.mem (sum_32 (upper_value (high (counter_byte l))) (sign_12 (low (counter_byte l))) / 4) ≡ suc n = ap c.state.mem slot.word ∙ count in
        let more : (c.state.mem (sum_32 (upper_value (high (counter_byte l))) (sign_12 (low (counter_byte l))) / 4) == c.state.reg 0) ≡ false = grind (arith, nat_tests) in
        let mid = moved g (Some false) (site.address own 9) in
        let down = straight_lines_go site own 9 mid count_down (has_front site own 9 (map plain count_down) (call_piece (first_layout k + j) ∷ (jump 6 ∷ rest)) behind.1) refl (tt, ((slot.inside, slot.behind), tt)) in
        let last = has_back site own 9 11 (map plain count_down) (call_piece (first_layout k + j) ∷ (jump 6 ∷ rest)) refl behind.1 in
        let h = gone mid count_down in
        let left_over : sum_32 (c.state.mem (sum_32 (upper_value (high (counter_byte l))) (sign_12 (low (counter_byte l))) / 4)) (2 ^ 32 - 1) ≡ n = omega arith in
        let mem : h.state.mem ≡ at c.state.mem counter n = ap₂ (λ x v. at c.state.mem x v) slot.word left_over in
        let silent_h : Silent site.facts c.past h.past = silent_on site.facts c.past g.past h.past went.silent
        (silent_on site.facts g.past mid.past h.past (line_silent site own 8 (branch steers Beq 11 0 13) g (Some false) (site.address own 9) behind.0 went.arrives refl refl) down.silent) in
        let like_h : Like site fp left w h = like_above site fp left w c h like (refl, refl, refl)
        (λ x low_x. ap (λ m. m x) mem ∙ at_other c.state.mem counter n x (low_off l x low_x))
        (λ x low_x. subst (λ m. m x < 2 ^ 32) (sym mem) (at_small c.state.mem counter n x (fewer n small) (like.words x low_x))) refl refl silent_h in
        let total = length-append (content_in k.layouts j).words (repeated n (content_in k.layouts j)).words in
        let one = component_fills 11 j below last.0 a w h like_h down.arrives next low_enough (one_fits a _ _ _ total high_enough) in
        let again = moved one.end None (site.address own 6) in
        let silent_again : Silent site.facts one.end.past again.past = line_silent site own 12 (jump 6) one.end None (site.address own 6) last.1.0 one.there refl refl in
        let like_again : Like site fp left (with_memory (filled (content_in k.layouts j).words a w.memory) w) again =
        like_above site fp left (with_memory (filled (content_in k.layouts j).words a w.memory) w) one.end again one.like (refl, refl, refl) (λ x f. refl) (λ x f. one.like.words x f) refl refl silent_again in
        let turned = turns_fill has n (a + length (content_in k.layouts j).words) (with_memory (filled (content_in k.layouts j).words a w.memory) w) again like_again refl
        (one.keeps_high counter (counter_high l) ∙ (ap (λ m. m counter) mem ∙ at_same c.state.mem counter n counter refl)) (fewer n small) one.next (further_on a _ low_enough)
        (others_fit a _ _ _ total high_enough) in
        let rest_fills = turned.fills in
        let spent_one = one.spent in
        let spent_rest = rest_fills.spent in
        record {
          fills = record {
            end = rest_fills.end;
            steps = 2 + (1 + (2 + (one.steps + (1 + rest_fills.steps))));
            reaches = reaches_on site.image 2 (1 + (2 + (one.steps + (1 + rest_fills.steps)))) c g rest_fills.end went.reaches
                (reaches_on site.image 1 (2 + (one.steps + (1 + rest_fills.steps))) g mid rest_fills.end (branch_passed site own 8 steers Beq 11 0 13 g behind.0 went.arrives more)
                (reaches_on site.image 2 (one.steps + (1 + rest_fills.steps)) mid h rest_fills.end down.reaches
                (reaches_on site.image one.steps (1 + rest_fills.steps) h one.end rest_fills.end one.reaches
                (reaches_on site.image 1 rest_fills.steps one.end again rest_fills.end (jumps_to site own 12 6 one.end last.1.0 one.there) rest_fills.reaches))));
            there = rest_fills.there;
            like = subst (λ m. Like site fp left (with_memory m w) rest_fills.end) (sym (Rattle.kernel_code.proofs.Fills.filled_parts (content_in k.layouts j).words (repeated n (content_in k.layouts j)).words a w.memory)) rest_fills.like;
            next = rest_fills.next ∙ (let e : 4 * (a + length (content_in k.layouts j).words + length (repeated n (content_in k.layouts j)).words) ≡ 4 * (a + length (repeated (suc n) (content_in k.layouts j)).words) = ends_at a _ _ _ total in e);
            silent = silent_on site.facts c.past h.past rest_fills.end.past silent_h (silent_on site.facts h.past one.end.past rest_fills.end.past one.silent
                (silent_on site.facts one.end.past again.past rest_fills.end.past silent_again rest_fills.silent));
            keeps_low = λ x low_x high_x. rest_fills.keeps_low x low_x high_x ∙ (one.keeps_low x low_x high_x ∙ (ap (λ m. m x) mem ∙ at_other c.state.mem counter n x (area_off l x high_x)));
            keeps_high = λ x high_x. rest_fills.keeps_high x high_x ∙ (one.keeps_high x (higher l x high_x) ∙ (ap (λ m. m x) mem ∙ at_other c.state.mem counter n x (high_off l x high_x)));
            spent = (let e : 2 + (1 + (2 + (one.steps + (1 + rest_fills.steps)))) + 20 ≤ 32 * (1 + ((content_in k.layouts j).cost + (repeated n (content_in k.layouts j)).cost)) = turn_spent one.steps rest_fills.steps _ _ spent_one spent_rest in e);
          };
          kept = turned.kept ∙ (one.keeps_high (layout_word l) (own_high l) ∙ (ap (λ m. m (layout_word l)) mem ∙ at_other c.state.mem counter n (layout_word l) (own_off l)));
        }
