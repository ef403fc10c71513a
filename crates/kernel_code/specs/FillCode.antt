-- The code of layouts: a piece for each, which is called with an address in x10, sets the words from there
-- on, and leaves x10 behind them.
use Rattle.std.specs.Prelude.{ℕ, ◌+◌, ◌*◌, List, [], ◌∷◌, ◌++◌, map}
use Rattle.rv_isa.specs.declared.ops.UpperOp.TheVariants.{Lui}
use Rattle.rv_isa.specs.declared.ops.BranchOp.TheVariants.{Beq}
use Rattle.rv_isa.specs.declared.ops.ImmediateOp.TheVariants.{Addi}
use Rattle.rv_isa.specs.declared.ops.LoadOp.TheVariants.{Lw}
use Rattle.rv_isa.specs.declared.ops.StoreOp.TheVariants.{Sw}
use Rattle.rv_isa.specs.declared.instr.Instr.{Instr}
use Rattle.rv_isa.specs.declared.instr.Instr.TheVariants.{Upper, Jalr, Load, Store, Immediate}
use Rattle.rv_semantics.specs.Arithmetic.{unsigned}
use Rattle.kernel_ir.specs.declared.kernel.Layout.{Layout}
use Rattle.kernel_ir.specs.declared.kernel.Layout.TheVariants as layout
use Rattle.kernel_ir.specs.World.{area_end}
use Rattle.kernel_code.specs.Line.{Line, plain, jump, steers}
use Rattle.kernel_code.specs.Words.{high, low, load_constant}
use Rattle.kernel_code.specs.SimpleCode.{branch, call_piece}

-- a layout has two words of its own behind the return addresses: layouts do not call themselves
abbrev pub layout_word : (l : ℕ) → ℕ
layout_word l = area_end + 0x1000 + 2 * l

-- x1 is kept in a layout's first word, and the piece ends by a jump there
abbrev pub keep_return : (l : ℕ) → List Instr
keep_return l = Upper Lui 5 (high (4 * layout_word l)) ∷ Store Sw 5 1 (low (4 * layout_word l)) ∷ []

abbrev pub go_back : (l : ℕ) → List Instr
go_back l = Upper Lui 5 (high (4 * layout_word l)) ∷ Load Lw 1 5 (low (4 * layout_word l)) ∷ []

-- the address of the word that counts the components which are left
abbrev pub counter_byte : (l : ℕ) → ℕ
counter_byte l = 4 * (layout_word l + 1)

-- the lines of a layout; the piece of layout 0 has the number `first`
abbrev pub layout_lines : (first l : ℕ) → Layout → List Line
layout_lines first l (layout.Word x) =
    map plain (load_constant 11 (unsigned x) (Store Sw 10 11 0 ∷ Immediate Addi 10 10 4 ∷ Jalr 0 1 0 ∷ []))
layout_lines first l (layout.Array count component) =
    map plain (Upper Lui 5 (high (4 * layout_word l)) ∷ Store Sw 5 1 (low (4 * layout_word l))
    ∷ load_constant 11 count (Upper Lui 5 (high (counter_byte l)) ∷ Store Sw 5 11 (low (counter_byte l)) ∷ []))
    ++ (map plain (Upper Lui 5 (high (counter_byte l)) ∷ Load Lw 11 5 (low (counter_byte l)) ∷ [])
    ++ (branch steers Beq 11 0 13
    ∷ (map plain (Immediate Addi 11 11 0xfff ∷ Store Sw 5 11 (low (counter_byte l)) ∷ [])
    ++ (call_piece (first + component)
    ∷ (jump 6
    ∷ (map plain (go_back l) ++ (plain (Jalr 0 1 0) ∷ [])))))))
layout_lines first l (layout.Record components) =
    map plain (keep_return l)
    ++ (map (λ component. call_piece (first + component)) components
    ++ (map plain (go_back l) ++ (plain (Jalr 0 1 0) ∷ [])))
