-- An object that holds the image of a program's kernel has its places in memory.
use Rattle.std.proofs.Common.{◌≡◌, ℕ, ◌+◌, ◌*◌, ◌%◌, ◌≤◌, ◌<◌, ◌==◌, ◌&&◌, Bool, true, nat_lt, nat_le, List, length, map, refl, ap, subst, ◌∙◌, arith}
use Rattle.std.proofs.lemmas.Bool.Decides.{nat_tests}
use Rattle.ada_meaning.specs.Program.{Program}
use Rattle.assembler.specs.Placed.{words_in, words_of}
use Rattle.ada_meaning.specs.Collected.{decisions_of}
use Rattle.ada_meaning.specs.Obligations.{numbers}
use Rattle.program_objects.proofs.DecisionEntries.{graph_in, own_graphs}
use Rattle.program_objects.specs.Held.{HoldsImage}
use Rattle.program_objects.specs.Kernels.{IsKernelOf}
use Rattle.program_objects.specs.Made.{IsCompilable}
use Rattle.cov_base.specs.declared.position.DecId.{DecId}
use Rattle.cov_base.specs.Graph.{Edges}
use Rattle.kernel_code.proofs.LengthLimits.{pieces_few}
use Rattle.kernel_code.proofs.PiecesFit.{pieces_can_be_placed}
use Rattle.kernel_code.specs.Code.{start_lines}
use Rattle.kernel_code.specs.Line.{items_of}
use Rattle.kernel_code.specs.Pieces.{kernel_pieces}
use Rattle.kernel_ir.specs.Limits.{IsWellFormed}
use Rattle.kernel_ir.specs.declared.kernel.Kernel.{Kernel}
use Rattle.linker.proofs.Places.{text_words, is_entered}
use Rattle.linker.specs.Linked.{linked}
use Rattle.object_format.specs.Fields.{is_placed}
use Rattle.object_format.specs.Text.{is_in_text}
use Rattle.object_format.specs.declared.object.Object.{Object}
use Rattle.rv_semantics.specs.Layout.{data_start}

both_hold : (a b : Bool) → a ≡ true → b ≡ true → (a && b) ≡ true
both_hold a b p q = rw (p, q) refl

abbrev pub is_laid_out : (words : ℕ) (in_text : Bool) (init_at count : ℕ) → Bool
is_laid_out words in_text init_at count =
    nat_lt 0 words && nat_le words 4194304 && in_text && (init_at % 4 == 0) && nat_le (0x10000 + 4 * words) init_at && nat_le (init_at + 4 * count) 0x2000000

laid_out : (words count : ℕ) (in_text : Bool) → 0 < words → 0x10000 + 4 * words ≤ 0x1000000 → count ≤ 0x40000 → in_text ≡ true
    → is_laid_out words in_text 0x1000000 count ≡ true
laid_out words count in_text some ends few entered =
    both_hold (nat_lt 0 words && nat_le words 4194304 && in_text && (0x1000000 % 4 == 0) && nat_le (0x10000 + 4 * words) 0x1000000) (nat_le (0x1000000 + 4 * count) 0x2000000)
    (both_hold (nat_lt 0 words && nat_le words 4194304 && in_text && (0x1000000 % 4 == 0)) (nat_le (0x10000 + 4 * words) 0x1000000)
    (both_hold (nat_lt 0 words && nat_le words 4194304 && in_text) true
    (both_hold (nat_lt 0 words && nat_le words 4194304) in_text
    (both_hold (nat_lt 0 words) (nat_le words 4194304) (grind (arith, nat_tests)) (grind (arith, nat_tests))) entered) refl)
    (grind (arith, nat_tests))) (grind (arith, nat_tests))

-- how many words the text has
pub text_long : (k : Kernel) (o : Object) → HoldsImage k o → length o.text ≡ words_in (kernel_pieces k)
text_long k o holds = ap length holds.text ∙ text_words (kernel_pieces k)

start_long : (k : Kernel) → 7 ≤ words_in (kernel_pieces k)
start_long k = let start : words_of (items_of (start_lines k.main)) ≡ 7 = refl in omega arith

-- the decisions of a program that can be compiled have the numbers from 0 on
pub numbers_law : (p : Program) → IsCompilable p → map (λ h. h.label.number) (decisions_of p.subprograms) ≡ numbers 0 (length (decisions_of p.subprograms))
numbers_law p able = subst (λ hs. map (λ h. h.label.number) hs ≡ numbers 0 (length hs)) able.decisions_in_order able.numbered.decisions

-- the graphs of its decisions, by their numbers
abbrev pub able_graphs : Program → DecId → List Edges
able_graphs p = graph_in (decisions_of p.subprograms)

pub formed_law : (p : Program) (nodes : ℕ) (k : Kernel) → IsCompilable p → IsKernelOf p nodes k → IsWellFormed (able_graphs p) k
formed_law p nodes k able is = is.formed (able_graphs p) (own_graphs (decisions_of p.subprograms) (numbers_law p able))

-- text, entry and data have their places
pub placed_law : (p : Program) (nodes : ℕ) (k : Kernel) (o : Object) → IsCompilable p → IsKernelOf p nodes k → HoldsImage k o → is_placed o ≡ true
placed_law p nodes k o able is holds =
    let pieces = kernel_pieces k in
    let long = text_long k o holds in
    let some = start_long k in
    let ends = (pieces_can_be_placed (able_graphs p) k (formed_law p nodes k able is) is.within).in_time in
    let entered : is_in_text o.text o.entry ≡ true =
    ap (λ text. is_in_text text o.entry) holds.text ∙ (ap (is_in_text (linked pieces k.library).text) holds.entry ∙ is_entered pieces k.library (omega arith)) in
    ap (λ at. is_laid_out (length o.text) (is_in_text o.text o.entry) at (length o.init)) holds.init_at
    ∙ (ap (λ (words : List ℕ). is_laid_out (length o.text) (is_in_text o.text o.entry) data_start (length words)) holds.init
    ∙ laid_out (length o.text) (length k.library) (is_in_text o.text o.entry) (omega arith) (omega arith) is.within.library entered)

-- the text takes at most 240 bytes for each node, and 4,096 beside
pub text_bound : (p : Program) (nodes : ℕ) (k : Kernel) (o : Object) → IsKernelOf p nodes k → HoldsImage k o → 4 * length o.text ≤ 240 * nodes + 4096
text_bound p nodes k o is holds = let short = is.short in omega (arith, text_long k o holds, pieces_few k, short)
