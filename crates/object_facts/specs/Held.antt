-- What an image's text holds at its addresses.
use Rattle.std.specs.Prelude.{◌≡◌, ℕ, ◌+◌, ◌*◌, ◌-◌, ◌^◌, ◌≤◌, length, option_and_then, Option}
use Rattle.rv_isa.specs.declared.instr.Instr.{Instr}
use Rattle.rv_isa.specs.Decoding.{instr_of}
use Rattle.rv_isa.specs.Control.{is_branch, is_transfer, holds}
use Rattle.rv_semantics.specs.Layout.{text_start, text_word}
use Rattle.rv_semantics.specs.State.{Image}
use Rattle.transcript.specs.Facts.{Facts}

-- the instruction at an address of an image's text
abbrev pub instruction_at : Image → ℕ → Option Instr
instruction_at image pc = option_and_then instr_of (text_word image.text pc)

-- facts that say of each address what the text of an image holds there; the text ends within the addresses
pub record AreHeld (o : Facts) (image : Image) : Type 0 where
  pub transfers : (pc : ℕ) → o.transfers pc ≡ holds is_transfer (instruction_at image pc)
  pub branches : (pc : ℕ) → o.branches pc ≡ holds is_branch (instruction_at image pc)
  pub fits : text_start + 4 * length image.text ≤ 2 ^ 32 - 4
