-- What the piece of a body does where it is called.
use Rattle.std.specs.Prelude.{◌≡◌, ℕ, ◌+◌, ◌*◌, ◌%◌, ◌^◌, ◌≤◌, ◌<◌, length, slice_get, Some}
use Rattle.rv_semantics.specs.Past.{Config}
use Rattle.kernel_ir.specs.declared.kernel.Body.{Body}
use Rattle.kernel_ir.specs.declared.kernel.Kernel.{Kernel}
use Rattle.kernel_ir.specs.declared.kernel.Layout.{Layout}
use Rattle.kernel_ir.specs.World.{World, Ended, Ends, Exits, Returns, Raises, Cut, data_word, area_end}
use Rattle.kernel_ir.specs.Meaning.{Calls}
use Rattle.kernel_ir.specs.Limits.{most_words, widest}
use Rattle.kernel_code.specs.Line.{Site, HasLines}
use Rattle.kernel_code.specs.Goes.{Reaches}
use Rattle.kernel_code.specs.SimpleCode.{Setting}
use Rattle.kernel_code.specs.Code.{body_lines, start_lines}
use Rattle.kernel_code.specs.FillCode.{layout_lines}
use Rattle.kernel_code.specs.Does.{pace, IsFair, Like, Quiet, GoesOn, IsRaised}

-- below a frame there is room for those of all calls that may nest, and for the library level
pub record IsDeep (fp left : ℕ) : Type 0 where
  pub above : data_word + most_words + widest * (left + 1) ≤ fp
  pub below : fp ≤ area_end
  pub few : left < 512

-- a body has come back to an address, with x2 as it was at the call
pub record Backs (site : Site) (fp left back : ℕ) (w : World) (c : Config) (Also : Config → Type 0) (w' : World) : Type 0 where
  pub end : Config
  pub steps : ℕ
  pub reaches : Reaches site.image steps c end
  pub there : end.state.pc ≡ back
  pub like : Like site fp (left + 1) w' end
  pub quiet : Quiet site.facts fp (left + 1) (λ d. ⊥) c end
  pub spent : steps + pace * w.seen.cost ≤ pace * w'.seen.cost
  pub also : Also end

-- x12 is 0 where no exception came back; a body ends neither by leaving a loop nor by a return
abbrev pub IsFine : Config → Type 0
IsFine c = c.state.reg 12 ≡ 0

abbrev pub BodyDoes : (site : Site) → (exceptions fp left fuel back : ℕ) → World → Config → Ended → Type 0
BodyDoes site exceptions fp left fuel back w c (Ends w') = Backs site fp left back w c IsFine w'
BodyDoes site exceptions fp left fuel back w c (Exits w') = ⊥
BodyDoes site exceptions fp left fuel back w c (Returns w') = ⊥
BodyDoes site exceptions fp left fuel back w c (Raises e w') = Backs site fp left back w c (IsRaised exceptions e) w'
BodyDoes site exceptions fp left fuel back w c (Cut w') = GoesOn site fuel c w'

-- each body does what calls mean, from its first line on: x1 is the address to come back to
abbrev pub CallsDo : Site → Kernel → Calls → (fuel : ℕ) → Type 0
CallsDo site p calls fuel =
    (f fp left back : ℕ) (w : World) (c : Config) → f < length p.bodies → IsDeep fp left
    → Like site fp (left + 1) w c → c.state.pc ≡ site.address (f + 1) 0
    → c.state.reg 1 ≡ back → back % 4 ≡ 0 → back < 2 ^ 32
    → BodyDoes site p.exceptions fp left fuel back w c (calls f fp left w)

-- the piece of the first layout: those of the start and of the bodies stand before it
abbrev pub first_layout : Kernel → ℕ
first_layout p = length p.bodies + 1

-- what the code of a body depends on
abbrev pub setting : Kernel → (width : ℕ) → Setting
setting p width = record { width = width; exceptions = p.exceptions; layouts = p.layouts; first_layout = first_layout p }

-- the code of a kernel stands in an image: the start is piece 0, body f is piece f + 1, and behind the
-- bodies are the layouts
pub record Holds (site : Site) (p : Kernel) : Type 0 where
  pub fair : IsFair site p.exceptions
  pub start : HasLines site 0 0 (start_lines p.main)
  pub bodies : (f : ℕ) (b : Body) → slice_get p.bodies f ≡ Some b → HasLines site (f + 1) 0 (body_lines (setting p b.width) b.code)
  pub layouts : (l : ℕ) (x : Layout) → slice_get p.layouts l ≡ Some x → HasLines site (first_layout p + l) 0 (layout_lines (first_layout p) l x)
