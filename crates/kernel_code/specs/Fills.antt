-- What the piece of a layout does where it is called.
use Rattle.std.specs.Prelude.{◌≡◌, ℕ, ◌+◌, ◌*◌, ◌%◌, ◌^◌, ◌≤◌, ◌<◌, length}
use Rattle.rv_semantics.specs.Past.{Config}
use Rattle.kernel_ir.specs.declared.kernel.Kernel.{Kernel}
use Rattle.kernel_ir.specs.World.{World, with_memory, data_word, area_end}
use Rattle.kernel_ir.specs.Simple.{filled}
use Rattle.kernel_ir.specs.Layouts.{Content, content_in}
use Rattle.kernel_code.specs.Line.{Site}
use Rattle.kernel_code.specs.Goes.{Reaches, Silent}
use Rattle.kernel_code.specs.FillCode.{layout_word}
use Rattle.kernel_code.specs.Does.{pace, Like}
use Rattle.kernel_code.specs.Calls.{first_layout}

-- words are set from an address on, and the machine is at another place: the words of layouts from
-- number `l` on and the return addresses are kept, and instructions are spared of the cost
pub record Fills (site : Site) (fp left l spared : ℕ) (content : Content) (a pc : ℕ) (w : World) (c : Config) : Type 0 where
  pub end : Config
  pub steps : ℕ
  pub reaches : Reaches site.image steps c end
  pub there : end.state.pc ≡ pc
  pub like : Like site fp left (with_memory (filled content.words a w.memory) w) end
  pub next : end.state.reg 10 ≡ 4 * (a + length content.words)
  pub silent : Silent site.facts c.past end.past
  pub keeps_low : (x : ℕ) → area_end ≤ x → x < area_end + 0x1000 → end.state.mem x ≡ c.state.mem x
  pub keeps_high : (x : ℕ) → layout_word l ≤ x → end.state.mem x ≡ c.state.mem x
  pub spent : steps + spared ≤ pace * content.cost

-- the piece of a layout sets its words, and goes back
abbrev pub LayoutFills : Site → Kernel → (l : ℕ) → Type 0
LayoutFills site k l =
    (fp left back a : ℕ) (w : World) (c : Config) → Like site fp left w c → c.state.pc ≡ site.address (first_layout k + l) 0
    → c.state.reg 1 ≡ back → back % 4 ≡ 0 → back < 2 ^ 32
    → c.state.reg 10 ≡ 4 * a → data_word ≤ a → a + length (content_in k.layouts l).words ≤ area_end
    → Fills site fp left (l + 1) 8 (content_in k.layouts l) a back w c
