-- Code that stands in the text of an image.
use Rattle.std.specs.Prelude.{◌≡◌, ℕ, ◌+◌, ◌*◌, ◌≤◌, ◌<◌, List, [], ◌∷◌, length, Some}
use Rattle.rv_isa.specs.declared.instr.Instr.{Instr}
use Rattle.rv_isa.specs.Rows.{word, IsInstr}
use Rattle.rv_semantics.specs.Layout.{memory_bytes, text_start, text_word}
use Rattle.rv_semantics.specs.State.{Image}

-- the address behind the last word of an image's text
abbrev pub text_end : Image → ℕ
text_end image = text_start + 4 * length image.text

-- an instruction stands at an address, in memory
pub record StandsAt (image : Image) (address : ℕ) (i : Instr) : Type 0 where
  pub reads : text_word image.text address ≡ Some (word i)
  pub fits : IsInstr i
  pub within : address < memory_bytes

-- instructions stand at an address, one after the other
abbrev pub HasAt : Image → (address : ℕ) → List Instr → Type 0
HasAt image address [] = address ≤ memory_bytes
HasAt image address (i ∷ is) = StandsAt image address i × HasAt image (address + 4) is
