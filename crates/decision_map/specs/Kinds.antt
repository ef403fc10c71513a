-- What the words of text do to the flow of control, and where they stand.
use Rattle.std.specs.Prelude.{ℕ, ◌+◌, ◌-◌, ◌*◌, ◌/◌, ◌%◌, nat_le, Bool, true, false, ◌==◌, ◌&&◌, List, map, slice_get, Option, Some, None, unwrap_or, option_and_then, if◌then◌else◌}
use Rattle.rv_isa.specs.declared.instr.Instr.{Instr}
use Rattle.rv_isa.specs.declared.instr.Instr.TheVariants.{Upper, Jal, Jalr, Branch as ConditionalBranch, Load, Store, Immediate, Shift, Register, Fence, Ecall, Ebreak}
use Rattle.rv_isa.specs.Decoding.{instr_of}
use Rattle.decision_map.specs.declared.kind.WordKind.{WordKind}
use Rattle.decision_map.specs.declared.kind.WordKind.TheVariants.{GoesOn, Transfer, Branch, HistoryBranch, Stop}

-- what an instruction does: conditional branches, JAL, JALR and ECALL end a block, and none runs through EBREAK or a word that is
-- no instruction
abbrev pub kind_of_instr : Option Instr → WordKind
kind_of_instr None = Stop
kind_of_instr (Some (Upper op rd imm)) = GoesOn
kind_of_instr (Some (Jal rd halves)) = Transfer
kind_of_instr (Some (Jalr rd rs1 imm)) = Transfer
kind_of_instr (Some (ConditionalBranch op rs1 rs2 halves)) = Branch
kind_of_instr (Some (Load op rd rs1 imm)) = GoesOn
kind_of_instr (Some (Store op rs1 rs2 imm)) = GoesOn
kind_of_instr (Some (Immediate op rd rs1 imm)) = GoesOn
kind_of_instr (Some (Shift op rd rs1 by)) = GoesOn
kind_of_instr (Some (Register op rd rs1 rs2)) = GoesOn
kind_of_instr (Some (Fence rd rs1 imm)) = GoesOn
kind_of_instr (Some Ecall) = Transfer
kind_of_instr (Some Ebreak) = Stop

-- the kind of a word by itself
unfoldable pub kind_of_word : ℕ → WordKind
kind_of_word word = kind_of_instr (instr_of word)

-- whether a word is a conditional branch
abbrev pub has_edges : WordKind → Bool
has_edges GoesOn = false
has_edges Transfer = false
has_edges Branch = true
has_edges HistoryBranch = true
has_edges Stop = false

-- whether it is one of which each execution is kept
abbrev pub keeps_history : WordKind → Bool
keeps_history GoesOn = false
keeps_history Transfer = false
keeps_history Branch = false
keeps_history HistoryBranch = true
keeps_history Stop = false

-- the address of the word at a place of the text, which stands at 0x10000
abbrev pub address_of : ℕ → ℕ
address_of place = 0x10000 + 4 * place

-- the place at which the word of an address stands, where text is long enough; none where no word can stand there
abbrev pub place_of : ℕ → Option ℕ
place_of pc = if nat_le 0x10000 pc && (pc % 4 == 0) then Some ((pc - 0x10000) / 4) else None

-- the kind that a list of them, one for each word of text, has for an address; where no word stands there, nothing runs through it
abbrev pub kind_in : List WordKind → ℕ → WordKind
kind_in kinds pc = unwrap_or (option_and_then (slice_get kinds) (place_of pc)) Stop

-- the kinds of the words of text by themselves
abbrev pub kinds_of_text : List ℕ → List WordKind
kinds_of_text text = map kind_of_word text
