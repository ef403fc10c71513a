-- Each layout's piece sets its words, and so does the operation that calls it.
use Rattle.std.proofs.Common.{◌≡◌, ℕ, zero, suc, ◌+◌, ◌*◌, ◌/◌, ◌%◌, ◌^◌, ◌≤◌, ◌<◌, Bool, true, false, cond, List, [], ◌∷◌, ◌++◌, map, length, slice_get, Some, None, refl, sym, ap, subst, ◌∙◌, arith, lit≤, lit<, length-append, append_assoc}
use Rattle.std.proofs.lemmas.List.{length-map}
use Rattle.cov_base.specs.declared.position.DecId.{DecId}
use Rattle.rv_isa.specs.declared.ops.UpperOp.TheVariants.{Lui}
use Rattle.rv_isa.specs.declared.ops.BranchOp.TheVariants.{Beq, Bltu}
use Rattle.rv_isa.specs.declared.ops.ImmediateOp.TheVariants.{Addi}
use Rattle.rv_isa.specs.declared.ops.LoadOp.TheVariants.{Lw}
use Rattle.rv_isa.specs.declared.ops.ShiftOp.TheVariants.{Slli}
use Rattle.rv_isa.specs.declared.ops.StoreOp.TheVariants.{Sw}
use Rattle.rv_isa.specs.declared.instr.Instr.{Instr}
use Rattle.rv_isa.specs.declared.instr.Instr.TheVariants.{Upper, Jalr, Load, Store, Immediate, Shift}
use Rattle.rv_semantics.specs.Arithmetic.{sum_32, signed}
use Rattle.rv_semantics.specs.State.{at}
use Rattle.rv_semantics.specs.Past.{Config}
use Rattle.placed_code.specs.Code.{text_end}
use Rattle.ada_meaning.specs.Arithmetic.{natural}
use Rattle.kernel_ir.specs.declared.kernel.Kernel.{Kernel}
use Rattle.kernel_ir.specs.declared.kernel.Layout.{Layout}
use Rattle.kernel_ir.specs.declared.kernel.Layout.TheVariants as layout
use Rattle.kernel_ir.specs.declared.simple.Simple.TheVariants as simple
use Rattle.kernel_ir.specs.World.{World, Ends, Raises, with_memory, data_word, area_end, in_area, slot_in, paid}
use Rattle.kernel_ir.specs.Simple.{filled}
use Rattle.kernel_ir.specs.Layouts.{Content, content_at, content_of, contents_after, content_in, repeated, joined, composite}
use Rattle.kernel_ir.specs.Limits.{LayoutFits, LayoutsFit, IsWellFormed, IsWithin}
use Rattle.kernel_ir.proofs.LayoutLaws.{content_stays, content_behind}
use Rattle.kernel_code.specs.Line.{Site, plain, jump, steers, LineStands, HasLines}
use Rattle.kernel_code.specs.Words.{high, low, load_slot, load_constant}
use Rattle.kernel_code.specs.Goes.{Silent, gone}
use Rattle.kernel_code.specs.SimpleCode.{Targets, Setting, branch, checked, measure, call_piece}
use Rattle.kernel_code.specs.FillCode.{layout_word, counter_byte, keep_return, go_back, layout_lines}
use Rattle.kernel_code.specs.Does.{HasRoom, Like, Does}
use Rattle.kernel_code.specs.Calls.{Holds, first_layout}
use Rattle.kernel_code.specs.Fills.{Fills, LayoutFills}
use Rattle.kernel_code.specs.Parts.{SimpleDoes}
use Rattle.kernel_code.proofs.Sums.{constant_is}
use Rattle.kernel_code.proofs.Goes.{reaches_on, silent_on, straight_lines_go, has_front, has_back}
use Rattle.kernel_code.proofs.Steps.{passed, check_passes, line_silent}
use Rattle.kernel_code.proofs.Slots.{SlotAt, slot_at, far, like_kept, paths_kept}
use Rattle.kernel_code.proofs.Ranges.{area_is, area_checks}
use Rattle.kernel_code.proofs.CallLines.{entered, call_enters, fails_does}
use Rattle.kernel_code.proofs.Fills.{own_word, like_above, at_other, at_same, at_small, keeps_return, goes_back, word_fills}
use Rattle.kernel_code.proofs.Components.{components_fill, loop_lines, turns_fill}

-- a list cut at an item
record Cut {X : Type 0} (xs : List X) (n : ℕ) : Type 0 where
  front : List X
  item : X
  back : List X
  is : xs ≡ front ++ item ∷ back
  long : length front ≡ n
  got : slice_get xs n ≡ Some item

cut_at : {X : Type 0} (xs : List X) (n : ℕ) → n < length xs → Cut xs n
cut_at [] n below = absurd (omega arith)
cut_at (x ∷ xs) zero below = record { front = []; item = x; back = xs; is = refl; long = refl; got = refl }
cut_at (x ∷ xs) (suc n) below =
    let c = cut_at xs n (omega arith) in
    record { front = x ∷ c.front; item = c.item; back = c.back; is = ap (λ ys. x ∷ ys) c.is; long = omega (arith, c.long); got = c.got }

layout_fits : (n : ℕ) (ls : List Layout) (j : ℕ) (x : Layout) → LayoutsFit n ls → slice_get ls j ≡ Some x → LayoutFits (n + j) x
layout_fits n [] j x fits is = absurd (cc is)
layout_fits n (l ∷ ls) zero x fits is = subst (λ m. LayoutFits m x) (let e : n ≡ n + 0 = omega arith in e) (subst (λ y. LayoutFits n y) (let e : l ≡ x = cc in e) fits.0)
layout_fits n (l ∷ ls) (suc j) x fits is = subst (λ m. LayoutFits m x) (let e : suc n + j ≡ n + suc j = omega arith in e) (layout_fits (suc n) ls j x fits.1 is)

module _ (site : Site) (k : Kernel) (holds : Holds site k) (formed : IsWellFormed site.facts.graph k) (within : IsWithin k) where
  text : text_end site.image ≤ 4 * data_word
  text = let t = holds.fair.text in omega arith

  module _ (l : ℕ) (below : l < length k.layouts) (earlier : (j : ℕ) → j < l → LayoutFills site k j) where
    few : l < 0x3f00
    few = let n = within.layouts in omega arith

    abbrev own : ℕ
    own = first_layout k + l

    -- the contents of the layouts before it
    module _ (known : List Content) (same : (j : ℕ) → j < l → content_at known j ≡ content_in k.layouts j) where
      by_form : (x : Layout) → LayoutFits l x → HasLines site own 0 (layout_lines (first_layout k) l x) → (fp left back a : ℕ) (w : World) (c : Config) → Like site fp left w c → c.state.pc ≡ site.address own 0
          → c.state.reg 1 ≡ back → back % 4 ≡ 0 → back < 2 ^ 32 → c.state.reg 10 ≡ 4 * a → data_word ≤ a → a + length (content_of known x).words ≤ area_end → Fills site fp left (l + 1) 8 (content_of known x) a back w c
      by_form (layout.Word x) fits has fp left back a w c like there is_back aligned small next low_enough high_enough =
          word_fills site own fp left l back text few aligned small x fits has a w c like there is_back next low_enough high_enough
      by_form (layout.Record components) fits has fp left back a w c like there is_back aligned small next low_enough high_enough =
          let tail = map plain (go_back l) ++ (plain (Jalr 0 1 0) ∷ []) in
          let calls = map (λ j. call_piece (first_layout k + j)) components in
          let kept = keeps_return site own fp left l back text few aligned small 0 (has_front site own 0 (map plain (keep_return l)) (calls ++ tail) has) w c like there is_back in
          let has_calls = has_back site own 0 2 (map plain (keep_return l)) (calls ++ tail) refl has in
          let parts = components_fill site k own fp left l earlier known same components tail 2 fits has_calls a w kept.end kept.like kept.there (kept.next ∙ next) low_enough high_enough in
          let has_tail = has_back site own 2 (2 + length components) calls tail (ap (λ n. 2 + n) (length-map components (λ j. call_piece (first_layout k + j)))) has_calls in
          let out = goes_back site own fp left l back text few aligned small (2 + length components) has_tail (with_memory (filled (joined known components).words a w.memory) w) parts.end parts.like parts.there
          (parts.keeps_high (layout_word l) (omega arith) ∙ (ap (λ m. m (layout_word l)) kept.mem ∙ at_same c.state.mem (layout_word l) back (layout_word l) refl)) in
          let spent = parts.spent in
          record {
            end = out.end;
            steps = 2 + (parts.steps + 3);
            reaches = reaches_on site.image 2 (parts.steps + 3) c kept.end out.end kept.reaches (reaches_on site.image parts.steps 3 kept.end parts.end out.end parts.reaches out.reaches);
            there = out.there;
            like = out.like;
            next = out.next ∙ parts.next;
            silent = silent_on site.facts c.past kept.end.past out.end.past kept.silent (silent_on site.facts kept.end.past parts.end.past out.end.past parts.silent out.silent);
            keeps_low = λ x low_x high_x. ap (λ m. m x) out.mem ∙ (parts.keeps_low x low_x high_x ∙ (ap (λ m. m x) kept.mem ∙ at_other c.state.mem (layout_word l) back x (λ e. omega (arith, e))));
            keeps_high = λ x high_x. ap (λ m. m x) out.mem ∙ (parts.keeps_high x (omega arith) ∙ (ap (λ m. m x) kept.mem ∙ at_other c.state.mem (layout_word l) back x (λ e. omega (arith, e))));
            spent = (let e : 2 + (parts.steps + 3) + 8 ≤ 32 * (1 + (joined known components).cost) = omega arith in e);
          }
      by_form (layout.Array times component) fits has fp left back a w c like there is_back aligned small next low_enough high_enough =
          let tail = map plain (go_back l) ++ (plain (Jalr 0 1 0) ∷ []) in
          let loop = loop_lines site k own fp left l earlier text few component fits.0 tail in
          let first = Upper Lui 5 (high (4 * layout_word l)) ∷ Store Sw 5 1 (low (4 * layout_word l)) ∷ load_constant 11 times (Upper Lui 5 (high (counter_byte l)) ∷ Store Sw 5 11 (low (counter_byte l)) ∷ []) in
          let one = own_word site (layout_word l) text (omega arith) (omega arith) in
          let two = own_word site (layout_word l + 1) text (omega arith) (omega arith) in
          let went = straight_lines_go site own 0 c first (has_front site own 0 (map plain first) loop has) there (tt, ((one.inside, one.behind), (tt, (tt, (tt, ((two.inside, two.behind), tt)))))) in
          let g = gone c first in
          let number = constant_is times (let n = fits.1 in omega arith) in
          let mem : g.state.mem ≡ at (at c.state.mem (layout_word l) back) (layout_word l + 1) times =
          (λ i. at (at c.state.mem (one.word i) (is_back i)) (two.word i) (number i)) in
          let other : (x : ℕ) → (x ≡ layout_word l → ⊥) → (x ≡ layout_word l + 1 → ⊥) → g.state.mem x ≡ c.state.mem x =
          λ x off off_two. ap (λ m. m x) mem ∙ (at_other (at c.state.mem (layout_word l) back) (layout_word l + 1) times x off_two ∙ at_other c.state.mem (layout_word l) back x off) in
          let like_g : Like site fp left w g = like_above site fp left w c g like (refl, refl, refl) (λ x below_x. other x (λ e. omega (arith, e)) (λ e. omega (arith, e)))
          (λ x low_x. subst (λ m. m x < 2 ^ 32) (sym mem) (at_small (at c.state.mem (layout_word l) back) (layout_word l + 1) times x (let n = fits.1 in omega arith) (at_small c.state.mem (layout_word l) back x small (like.words x low_x)))) refl refl went.silent in
          let has_loop = has_back site own 0 6 (map plain first) loop refl has in
          let is = same component fits.0 in
          let long : length (repeated times (content_at known component)).words ≡ length (repeated times (content_in k.layouts component)).words = ap (λ x. length (repeated times x).words) is in
          let turned = turns_fill site k own fp left l earlier text few component fits.0 tail has_loop times a w g like_g went.arrives
          (ap (λ m. m (layout_word l + 1)) mem ∙ at_same (at c.state.mem (layout_word l) back) (layout_word l + 1) times (layout_word l + 1) refl) (let n = fits.1 in omega arith) next low_enough (omega (arith, long)) in
          let parts = turned.fills in
          let has_steps = has_back site own 6 8 (map plain (Upper Lui 5 (high (counter_byte l)) ∷ Load Lw 11 5 (low (counter_byte l)) ∷ []))
          (branch steers Beq 11 0 13 ∷ (map plain (Immediate Addi 11 11 0xfff ∷ Store Sw 5 11 (low (counter_byte l)) ∷ []) ++ (call_piece (first_layout k + component) ∷ (jump 6 ∷ tail)))) refl has_loop in
          let has_call = has_back site own 9 11 (map plain (Immediate Addi 11 11 0xfff ∷ Store Sw 5 11 (low (counter_byte l)) ∷ [])) (call_piece (first_layout k + component) ∷ (jump 6 ∷ tail)) refl has_steps.1 in
          let has_tail = has_call.1.1 in
          let out = goes_back site own fp left l back text few aligned small 13 has_tail (with_memory (filled (repeated times (content_in k.layouts component)).words a w.memory) w) parts.end parts.like parts.there
          (turned.kept ∙ (ap (λ m. m (layout_word l)) mem ∙ (at_other (at c.state.mem (layout_word l) back) (layout_word l + 1) times (layout_word l) (λ e. omega (arith, e)) ∙ at_same c.state.mem (layout_word l) back (layout_word l) refl))) in
          let spent = parts.spent in
          subst (λ x. Fills site fp left (l + 1) 8 (composite (repeated times x)) a back w c) (sym is) (record {
            end = out.end;
            steps = 6 + (parts.steps + 3);
            reaches = reaches_on site.image 6 (parts.steps + 3) c g out.end went.reaches (reaches_on site.image parts.steps 3 g parts.end out.end parts.reaches out.reaches);
            there = out.there;
            like = out.like;
            next = out.next ∙ parts.next;
            silent = silent_on site.facts c.past g.past out.end.past went.silent (silent_on site.facts g.past parts.end.past out.end.past parts.silent out.silent);
            keeps_low = λ x low_x high_x. ap (λ m. m x) out.mem ∙ (parts.keeps_low x low_x high_x ∙ other x (λ e. omega (arith, e)) (λ e. omega (arith, e)));
            keeps_high = λ x high_x. ap (λ m. m x) out.mem ∙ (parts.keeps_high x high_x ∙ other x (λ e. omega (arith, e)) (λ e. omega (arith, e)));
            spent = (let e : 6 + (parts.steps + 3) + 8 ≤ 32 * (1 + (repeated times (content_in k.layouts component)).cost) = omega arith in e);
          })

    layout_fills : LayoutFills site k l
    layout_fills fp left back a w c like there is_back aligned small next low_enough high_enough =
        let cut = cut_at k.layouts l below in
        let split : k.layouts ≡ (cut.front ++ cut.item ∷ []) ++ cut.back = cut.is ∙ sym (append_assoc cut.front (cut.item ∷ []) cut.back) in
        let long = cut.long in
        let same : (j : ℕ) → j < l → content_at (contents_after [] cut.front) j ≡ content_in k.layouts j =
        λ j h. sym (ap (λ ls. content_in ls j) cut.is ∙ content_stays cut.front (cut.item ∷ cut.back) j (omega arith)) in
        let own_content : content_in k.layouts l ≡ content_of (contents_after [] cut.front) cut.item =
        ap (λ ls. content_in ls l) split ∙ (content_stays (cut.front ++ cut.item ∷ []) cut.back l (omega (arith, length-append cut.front (cut.item ∷ [])))
        ∙ (ap (λ n. content_in (cut.front ++ cut.item ∷ []) n) (sym long) ∙ content_behind cut.front cut.item)) in
        let size : length (content_in k.layouts l).words ≡ length (content_of (contents_after [] cut.front) cut.item).words = ap (λ x. length x.words) own_content in
        subst (λ x. Fills site fp left (l + 1) 8 x a back w c) (sym own_content)
        (by_form (contents_after [] cut.front) same cut.item (subst (λ n. LayoutFits n cut.item) (let e : 0 + l ≡ l = omega arith in e) (layout_fits 0 k.layouts l cut.item formed.layouts cut.got)) (holds.layouts l cut.item cut.got) fp left back a w c like there is_back aligned small next low_enough (omega (arith, size)))

  fills_below : (n j : ℕ) → j < n → j < length k.layouts → LayoutFills site k j
  fills_below zero j below known = absurd (omega arith)
  fills_below (suc n) j below known = layout_fills j known (λ i h. fills_below n i (omega arith) (omega arith))

  pub each_fills : (j : ℕ) → j < length k.layouts → LayoutFills site k j
  each_fills j known = fills_below (j + 1) j (omega arith) known

  -- the operation
  module _ (own fp left bound n : ℕ) (room : HasRoom fp bound) (Out : DecId → Type 0) (e : Setting) (same_layouts : e.layouts ≡ k.layouts) (same_first : e.first_layout ≡ first_layout k) (short : left ≤ 512) (t : Targets) (p : ℕ) where
    abbrev front : (to l : ℕ) → List Instr
    front to l = load_slot 10 to (measure (length (content_in e.layouts l).words))

    abbrev back : List Instr
    back = Shift Slli 10 10 2 ∷ []

    pub fill_does : (to l : ℕ) → SimpleDoes site k own fp left bound (suc n) Out e t p (simple.Fill to l)
    fill_does to l (in_to, known) has w c like there = by_test (in_area (slot_in fp to w) (length (content_in k.layouts l).words)) refl
      where
        slot : SlotAt site fp w c to
        slot = slot_at site k.exceptions fp left bound w c to holds.fair room like in_to

        same_words : length (content_in e.layouts l).words ≡ length (content_in k.layouts l).words
        same_words = ap (λ ls. length (content_in ls l).words) same_layouts

        area_of : (b : Bool) → in_area (slot_in fp to w) (length (content_in k.layouts l).words) ≡ b → in_area (signed (c.state.mem (far (c.state.reg 8) to / 4))) (length (content_in e.layouts l).words) ≡ b
        area_of b is = ap (λ z. in_area z (length (content_in e.layouts l).words)) (sym slot.holds) ∙ (ap (λ m. in_area (slot_in fp to w) m) same_words ∙ is)

        two_is : sum_32 (c.state.reg 0) 2 ≡ 2
        two_is = let z = like.zeroth in omega arith

        predefined : 2 ≤ k.exceptions
        predefined = let x = formed.predefined in omega arith

        has_check : HasLines site own p (checked t.raise_to p (front to l) Bltu 11 13 back)
        has_check = has_front site own p (checked t.raise_to p (front to l) Bltu 11 13 back) (call_piece (e.first_layout + l) ∷ []) has

        has_call : LineStands site own (p + 11) (call_piece (first_layout k + l))
        has_call = subst (λ m. LineStands site own (p + 11) (call_piece (m + l))) same_first (has_back site own p (p + 11) (checked t.raise_to p (front to l) Bltu 11 13 back) (call_piece (e.first_layout + l) ∷ []) (omega arith) has).0

        by_test : (b : Bool) → in_area (slot_in fp to w) (length (content_in k.layouts l).words) ≡ b
            → Does site k.exceptions own fp left (suc n) Out 0 w c t (p + 12) (cond b (Ends (with_memory (filled (content_in k.layouts l).words (natural (slot_in fp to w)) w.memory) (paid (1 + (content_in k.layouts l).cost) w))) (Raises 2 (paid 1 w)))
        by_test true is =
            let pass = check_passes site own p t.raise_to (front to l) Bltu 11 13 back c has_check there (tt, (tt, (slot.inside, (tt, (tt, (tt, (tt, (tt, tt))))))))
            (area_checks (c.state.mem (far (c.state.reg 8) to / 4)) (length (content_in e.layouts l).words) slot.small ∙ area_of true is) (tt, tt) in
            let c1 = gone (passed site own p c (front to l)) back in
            let d = entered site (first_layout k + l) c1 in
            let silent : Silent site.facts c.past d.past = silent_on site.facts c.past c1.past d.past pass.silent (line_silent site own (p + 11) (call_piece (first_layout k + l)) c1 None (site.address (first_layout k + l) 0) has_call pass.there refl refl) in
            let (is_a, low_a, high_a, small_a) = area_is (c.state.mem (far (c.state.reg 8) to / 4)) (length (content_in e.layouts l).words) slot.small (area_of true is) in
            let like_d : Like site fp left (paid (1 + (content_in k.layouts l).cost) w) d = like_kept site fp left (1 + (content_in k.layouts l).cost) w c d like (record { zeroth = refl; stack = refl; frame = refl; input = refl; output = refl; silent = silent }) refl in
            let within = has_call.item.stands.within in
            let aligned = has_call.aligned in
            let next = has_call.next in
            let one = each_fills l known fp left (site.address own (p + 11 + 1)) (c.state.mem (far (c.state.reg 8) to / 4)) (paid (1 + (content_in k.layouts l).cost) w) d like_d refl
            (ap (λ a. a + 4) pass.there ∙ sym has_call.next) (omega arith) (omega arith)
            (let x : c.state.mem (far (c.state.reg 8) to / 4) * 2 ^ 2 % 2 ^ 32 ≡ 4 * c.state.mem (far (c.state.reg 8) to / 4) = omega arith in x) low_a (omega (arith, same_words)) in
            let spent = one.spent in
            let all : Silent site.facts c.past one.end.past = silent_on site.facts c.past d.past one.end.past silent one.silent in
            record {
              end = one.end;
              steps = 10 + (1 + one.steps);
              reaches = reaches_on site.image 10 (1 + one.steps) c c1 one.end pass.reaches
                  (reaches_on site.image 1 one.steps c1 d one.end (call_enters site own (p + 11) (first_layout k + l) c1 has_call pass.there) one.reaches);
              there = one.there ∙ ap (λ m. site.address own m) (let x : p + 11 + 1 ≡ p + 12 = omega arith in x);
              like = subst (λ a. Like site fp left (with_memory (filled (content_in k.layouts l).words a w.memory) (paid (1 + (content_in k.layouts l).cost) w)) one.end) (sym is_a ∙ ap natural (sym slot.holds)) one.like;
              quiet = record {
                paths = λ key apart m. paths_kept site c one.end all key m;
                keeps = λ a above low_a'. one.keeps_low a (omega arith) (omega arith);
              };
              spent = (let x : 10 + (1 + one.steps) + 0 + 32 * w.seen.cost ≤ 32 * (w.seen.cost + (1 + (content_in k.layouts l).cost)) = omega arith in x);
              also = tt;
            }
        by_test false is =
            fails_does site k.exceptions own fp left Out p t.raise_to 2 (front to l) Bltu 11 13 (map plain back ++ (call_piece (e.first_layout + l) ∷ [])) w c has like there (tt, (tt, (slot.inside, (tt, (tt, (tt, (tt, (tt, tt)))))))) (refl, refl, refl) refl
            (area_checks (c.state.mem (far (c.state.reg 8) to / 4)) (length (content_in e.layouts l).words) slot.small ∙ area_of false is) two_is (lit< tt) predefined (lit≤ tt)
