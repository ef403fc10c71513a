-- Structured code is put part by part.
use Rattle.std.proofs.Common.{◌≡◌, ℕ, suc, ◌+◌, ◌-◌, ◌*◌, ◌^◌, ◌≤◌, arith, List, [], ◌∷◌, ◌++◌, map, ap, sym, ◌∙◌, append_assoc}
use Rattle.cov_base.specs.declared.position.DecId.{DecId}
use Rattle.cov_base.specs.declared.position.InstId.{InstId}
use Rattle.rv_isa.specs.declared.ops.BranchOp.TheVariants.{Beq, Bne}
use Rattle.rv_isa.specs.declared.ops.ImmediateOp.TheVariants.{Addi}
use Rattle.rv_isa.specs.declared.ops.LoadOp.TheVariants.{Lw}
use Rattle.rv_isa.specs.declared.ops.StoreOp.TheVariants.{Sw}
use Rattle.rv_isa.specs.declared.instr.Instr.TheVariants.{Upper, Immediate, Register, Load, Store, Jalr}
use Rattle.rv_isa.specs.declared.ops.UpperOp.TheVariants.{Lui}
use Rattle.rv_isa.specs.declared.ops.RegisterOp.TheVariants as registers
use Rattle.kernel_ir.specs.declared.code.Edge.{Edge}
use Rattle.kernel_ir.specs.Tree.{Op, choose, forever, catch, decide, Code, no_op, and_op, Nodes, and_node, code_size, nodes_size}
use Rattle.kernel_ir.specs.TreeView.{nodes_of}
use Rattle.kernel_ir.specs.declared.code.Node.{Node}
use Rattle.kernel_code.specs.Line.{Line, plain, jump, decides, checks, steers}
use Rattle.kernel_code.specs.Words.{load_slot, store_slot, load_constant}
use Rattle.kernel_code.specs.SimpleCode.{Setting, Targets, branch, call_piece}
use Rattle.kernel_code.proofs.LineParts.{two_parts, three_parts, four_parts}
use Rattle.kernel_code.specs.Code.{load_truth, op_lines, op_length, code_lines, code_length}
use Rattle.kernel_code.specs.Code.{nodes_lines, nodes_length, edge_place, body_lines, call_lines}

-- the rest form of operations in order
pub operation_put : (e : Setting) (t : Targets) (p q n : ℕ) (o : Op) (rest : Code) (e0 e1 all : List Line)
    → n ≡ op_length o → q ≡ p + n → e1 ≡ e0 ++ op_lines e t p o
    → e0 ++ (op_lines e t p o ++ code_lines e t (p + op_length o) rest) ≡ all → e1 ++ code_lines e t q rest ≡ all
operation_put e t p q n o rest e0 e1 all hn hq h whole =
    (λ i. h i ++ code_lines e t ((hq ∙ ap (λ m. p + m) hn) i) rest)
    ∙ append_assoc e0 (op_lines e t p o) (code_lines e t (p + op_length o) rest) ∙ whole

pub choose_put : (e : Setting) (t : Targets) (p k : ℕ) (a b : Code) (inside otherwise past : ℕ) (e0 e1 e2 e3 e4 : List Line)
    → inside ≡ p + 6 → otherwise ≡ p + 7 + code_length a → past ≡ p + 7 + code_length a + code_length b
    → e1 ≡ e0 ++ (map plain (load_slot 11 k (Immediate Addi 13 0 1 ∷ [])) ++ (branch steers Beq 11 13 inside ∷ (jump otherwise ∷ [])))
    → e2 ≡ e1 ++ code_lines e t inside a → e3 ≡ e2 ++ jump past ∷ [] → e4 ≡ e3 ++ code_lines e t otherwise b
    → e4 ≡ e0 ++ op_lines e t p (choose k a b)
choose_put e t p k a b inside otherwise past e0 e1 e2 e3 e4 hi other end h1 h2 h3 h4 =
    four_parts e0 e1 e2 e3 e4
    (map plain (load_slot 11 k (Immediate Addi 13 0 1 ∷ [])) ++ (branch steers Beq 11 13 (p + 6) ∷ (jump (p + 7 + code_length a) ∷ [])))
    (code_lines e t (p + 6) a) (jump (p + 7 + code_length a + code_length b) ∷ []) (code_lines e t (p + 7 + code_length a) b)
    (h1 ∙ (λ i. e0 ++ (map plain (load_slot 11 k (Immediate Addi 13 0 1 ∷ [])) ++
    (branch steers Beq 11 13 (hi i) ∷ (jump (other i) ∷ [])))))
    (h2 ∙ (λ i. e1 ++ code_lines e t (hi i) a))
    (h3 ∙ (λ i. e2 ++ jump (end i) ∷ []))
    (h4 ∙ (λ i. e3 ++ code_lines e t (other i) b))

pub repeat_put : (e : Setting) (t : Targets) (p : ℕ) (a : Code) (past : ℕ) (e0 e1 e2 : List Line) → past ≡ p + code_length a + 1
    → e1 ≡ e0 ++ code_lines e (record { raise_to = t.raise_to; exit_to = past; return_to = t.return_to }) p a → e2 ≡ e1 ++ jump p ∷ []
    → e2 ≡ e0 ++ op_lines e t p (forever a)
repeat_put e t p a past e0 e1 e2 left h1 h2 =
    two_parts e0 e1 e2 (code_lines e (record { raise_to = t.raise_to; exit_to = p + code_length a + 1; return_to = t.return_to }) p a)
    (jump p ∷ [])
    (h1 ∙ (λ i. e0 ++ code_lines e (record { raise_to = t.raise_to; exit_to = left i; return_to = t.return_to }) p a)) h2

pub catch_put : (e : Setting) (t : Targets) (p k : ℕ) (a b : Code) (caught handled past : ℕ) (e0 e1 e2 e3 : List Line)
    → caught ≡ p + code_length a + 1 → handled ≡ p + code_length a + 4 → past ≡ p + code_length a + 4 + code_length b
    → e1 ≡ e0 ++ code_lines e (record { raise_to = caught; exit_to = t.exit_to; return_to = t.return_to }) p a
    → e2 ≡ e1 ++ jump past ∷ map plain (store_slot 12 k []) → e3 ≡ e2 ++ code_lines e t handled b
    → e3 ≡ e0 ++ op_lines e t p (catch a k b)
catch_put e t p k a b caught handled past e0 e1 e2 e3 at_catch at_handler behind h1 h2 h3 =
    three_parts e0 e1 e2 e3
    (code_lines e (record { raise_to = p + code_length a + 1; exit_to = t.exit_to; return_to = t.return_to }) p a)
    (jump (p + code_length a + 4 + code_length b) ∷ map plain (store_slot 12 k [])) (code_lines e t (p + code_length a + 4) b)
    (h1 ∙ (λ i. e0 ++ code_lines e (record { raise_to = at_catch i; exit_to = t.exit_to; return_to = t.return_to }) p a))
    (h2 ∙ (λ i. e1 ++ jump (behind i) ∷ map plain (store_slot 12 k [])))
    (h3 ∙ (λ i. e2 ++ code_lines e t (at_handler i) b))

pub decide_put : (e : Setting) (t : Targets) (p k : ℕ) (d : DecId) (x : InstId) (ns : Nodes) (true_at false_at past : ℕ)
    (e0 e1 e2 : List Line)
    → true_at ≡ p + nodes_length ns → false_at ≡ p + nodes_length ns + 5 → past ≡ p + nodes_length ns + 9
    → e1 ≡ e0 ++ nodes_lines e t true_at false_at d x 0 p ns
    → e2 ≡ e1 ++ (map plain (Immediate Addi 10 0 1 ∷ store_slot 10 k []) ++
    (jump past ∷ map plain (Immediate Addi 10 0 0 ∷ store_slot 10 k [])))
    → e2 ≡ e0 ++ op_lines e t p (decide d x k ns)
decide_put e t p k d x ns true_at false_at past e0 e1 e2 at_true at_false behind h1 h2 =
    two_parts e0 e1 e2
    (nodes_lines e t (p + nodes_length ns) (p + nodes_length ns + 5) d x 0 p ns)
    (map plain (Immediate Addi 10 0 1 ∷ store_slot 10 k []) ++
    (jump (p + nodes_length ns + 9) ∷ map plain (Immediate Addi 10 0 0 ∷ store_slot 10 k [])))
    (h1 ∙ (λ i. e0 ++ nodes_lines e t (at_true i) (at_false i) d x 0 p ns))
    (h2 ∙ (λ i. e1 ++ (map plain (Immediate Addi 10 0 1 ∷ store_slot 10 k []) ++
    (jump (behind i) ∷ map plain (Immediate Addi 10 0 0 ∷ store_slot 10 k [])))))

pub node_put : (e : Setting) (t : Targets) (true_at false_at : ℕ) (d : DecId) (x : InstId) (number after p k : ℕ) (a : Code)
    (on_true on_false : Edge) (ns : Nodes)
    (taken next to_true to_false : ℕ) (e0 e1 e2 e3 : List Line)
    → taken ≡ p + code_length a + 7 → next ≡ p + code_length a + 8 → after ≡ number + 1
    → to_true ≡ edge_place true_at false_at ns next on_true → to_false ≡ edge_place true_at false_at ns next on_false
    → e1 ≡ e0 ++ code_lines e t p a
    → e2 ≡ e1 ++ (map plain (load_truth k) ++ (branch (decides d number x) Bne 10 0 taken ∷ (jump to_false ∷ (jump to_true ∷ []))))
    → e3 ≡ e2 ++ nodes_lines e t true_at false_at d x after next ns
    → e3 ≡ e0 ++ nodes_lines e t true_at false_at d x number p (and_node a k on_true on_false ns)
node_put e t true_at false_at d x number after p k a on_true on_false ns taken next to_true to_false
    e0 e1 e2 e3 at_taken at_next ha htrue hfalse h1 h2 h3 =
    let leads_true : to_true ≡ edge_place true_at false_at ns (p + code_length a + 8) on_true = htrue ∙ ap
    (λ m. edge_place true_at false_at ns m on_true) at_next in
    let leads_false : to_false ≡ edge_place true_at false_at ns (p + code_length a + 8) on_false = hfalse ∙ ap
    (λ m. edge_place true_at false_at ns m on_false) at_next in
    let following : after ≡ suc number = omega (arith, ha) in
    three_parts e0 e1 e2 e3 (code_lines e t p a)
    (map plain (load_truth k) ++ (branch (decides d number x) Bne 10 0 (p + code_length a + 7) ∷
    (jump (edge_place true_at false_at ns (p + code_length a + 8) on_false) ∷
    (jump (edge_place true_at false_at ns (p + code_length a + 8) on_true) ∷ []))))
    (nodes_lines e t true_at false_at d x (suc number) (p + code_length a + 8) ns)
    h1
    (h2 ∙ (λ i. e1 ++ (map plain (load_truth k) ++ (branch (decides d number x) Bne 10 0 (at_taken i) ∷
    (jump (leads_false i) ∷ (jump (leads_true i) ∷ []))))))
    (h3 ∙ (λ i. e2 ++ nodes_lines e t true_at false_at d x (following i) (at_next i) ns))

pub body_put : (e : Setting) (a : Code) (n end raised : ℕ) (e0 e1 e2 e3 : List Line)
    → n ≡ code_length a → end ≡ 2 + n → raised ≡ 3 + n
    → e1 ≡ e0 ++ map plain (Immediate Addi 2 2 0xffc ∷ Store Sw 2 1 0 ∷ [])
    → e2 ≡ e1 ++ code_lines e (record { raise_to = raised; exit_to = end; return_to = end }) 2 a
    → e3 ≡ e2 ++ (map plain (Immediate Addi 12 0 0 ∷ Load Lw 1 2 0 ∷ Immediate Addi 2 2 4 ∷ []) ++ (plain (Jalr 0 1 0) ∷ []))
    → e3 ≡ e0 ++ body_lines e a
body_put e a n end raised e0 e1 e2 e3 hn he hr h1 h2 h3 =
    let ends : end ≡ 2 + code_length a = he ∙ ap (λ m. 2 + m) hn in
    let raises : raised ≡ 3 + code_length a = hr ∙ ap (λ m. 3 + m) hn in
    three_parts e0 e1 e2 e3 (map plain (Immediate Addi 2 2 0xffc ∷ Store Sw 2 1 0 ∷ []))
    (code_lines e (record { raise_to = 3 + code_length a; exit_to = 2 + code_length a; return_to = 2 + code_length a }) 2 a)
    (map plain (Immediate Addi 12 0 0 ∷ Load Lw 1 2 0 ∷ Immediate Addi 2 2 4 ∷ []) ++ (plain (Jalr 0 1 0) ∷ []))
    h1 (h2 ∙ (λ i. e1 ++ code_lines e (record { raise_to = raises i; exit_to = ends i; return_to = ends i }) 2 a)) h3

pub call_put : (e : Setting) (r p f down up piece past : ℕ) (e0 e1 e2 e3 e4 e5 : List Line)
    → down ≡ 2 ^ 32 - 4 * e.width → up ≡ 4 * e.width → piece ≡ f + 1 → past ≡ p + 13
    → e1 ≡ e0 ++ (map plain (Upper Lui 13 0x1fc0 ∷ Immediate Addi 12 0 3 ∷ []) ++ (branch checks Bne 2 13 (p + 4) ∷ (jump r ∷ [])))
    → e2 ≡ e1 ++ map plain (load_constant 13 down (Register registers.Add 8 8 13 ∷ [])) → e3 ≡ e2 ++ call_piece piece ∷ []
    → e4 ≡ e3 ++ map plain (load_constant 13 up (Register registers.Add 8 8 13 ∷ [])) → e5 ≡ e4 ++ branch steers Beq 12 0 past ∷
    (jump r ∷ [])
    → e5 ≡ e0 ++ call_lines e r p f
call_put e r p f down up piece past e0 e1 e2 e3 e4 e5 hd hu hc hp h1 h2 h3 h4 h5 =
    let front = map plain (Upper Lui 13 0x1fc0 ∷ Immediate Addi 12 0 3 ∷ []) ++ (branch checks Bne 2 13 (p + 4) ∷ (jump r ∷ [])) in
    let enter = map plain (load_constant 13 (2 ^ 32 - 4 * e.width) (Register registers.Add 8 8 13 ∷ [])) in
    let leave = map plain (load_constant 13 (4 * e.width) (Register registers.Add 8 8 13 ∷ [])) in
    let last = branch steers Beq 12 0 (p + 13) ∷ (jump r ∷ []) in
    two_parts e0 e1 e5 front (enter ++ ((call_piece (f + 1) ∷ []) ++ (leave ++ last))) h1
    (four_parts e1 e2 e3 e4 e5 enter (call_piece (f + 1) ∷ []) leave last
    (h2 ∙ (λ i. e1 ++ map plain (load_constant 13 (hd i) (Register registers.Add 8 8 13 ∷ []))))
    (h3 ∙ (λ i. e2 ++ call_piece (hc i) ∷ []))
    (h4 ∙ (λ i. e3 ++ map plain (load_constant 13 (hu i) (Register registers.Add 8 8 13 ∷ []))))
    (h5 ∙ (λ i. e4 ++ branch steers Beq 12 0 (hp i) ∷ (jump r ∷ []))))

code_positive : (a : Code) → 1 ≤ code_size a
code_positive no_op = omega arith
code_positive (and_op o a) = omega (arith, code_positive a)

-- the nodes behind the first one are smaller
pub rest_smaller : (ns : List Node) (n : Node) (rest : List Node) → ns ≡ n ∷ rest → nodes_size (nodes_of rest) + 1 ≤ nodes_size
    (nodes_of ns)
rest_smaller ns n rest e =
    omega (arith, ap (λ xs. nodes_size (nodes_of xs)) e, code_positive n.operand)

-- nodes of a slice are the first one and the rest
pub node_of_slice : (e : Setting) (t : Targets) (true_at false_at : ℕ) (d : DecId) (x : InstId) (number p : ℕ) (ns : List Node)
    (n : Node) (rest : List Node) (e0 e1 : List Line)
    → ns ≡ n ∷ rest → e1 ≡ e0 ++ nodes_lines e t true_at false_at d x number p
    (and_node n.operand n.slot n.on_true n.on_false (nodes_of rest))
    → e1 ≡ e0 ++ nodes_lines e t true_at false_at d x number p (nodes_of ns)
node_of_slice e t true_at false_at d x number p ns n rest e0 e1 h k =
    k ∙ ap (λ xs. e0 ++ nodes_lines e t true_at false_at d x number p (nodes_of xs)) (sym h)
