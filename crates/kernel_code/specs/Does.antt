-- When code does what the kernel means: the relation of the kernel's states to those of the machine, and
-- what a part of the code comes to.
use Rattle.std.specs.Prelude.{◌≡◌, ℕ, ◌+◌, ◌*◌, ◌^◌, ◌≤◌, ◌<◌, FitsSigned, reverse}
use Rattle.std.specs.List.{AllByRecursion}
use Rattle.std.specs.Int.{w32}
use Rattle.cov_base.specs.declared.position.DecId.{DecId}
use Rattle.rv_semantics.specs.Layout.{data_start}
use Rattle.rv_semantics.specs.Arithmetic.{signed}
use Rattle.rv_semantics.specs.Past.{Config}
use Rattle.placed_code.specs.Code.{text_end}
use Rattle.transcript.specs.Facts.{Facts, AreFair}
use Rattle.transcript.specs.Visit.{Key}
use Rattle.kernel_ir.specs.World.{World, Ended, Ends, Exits, Returns, Raises, Cut, data_word, area_end}
use Rattle.kernel_code.specs.Behind.{told, InOrder, come_to}
use Rattle.kernel_code.specs.Line.{Site}
use Rattle.kernel_code.specs.Goes.{Reaches}
use Rattle.kernel_code.specs.SimpleCode.{Targets}

-- how many instructions one unit of a kernel's cost takes at most
abbrev pub pace : ℕ
pace = 32

-- what holds of every image of a kernel: its facts are those of an object, its text ends where the data
-- begin, or before, and it has the kernel's exceptions
pub record IsFair (site : Site) (exceptions : ℕ) : Type 0 where
  pub facts : AreFair site.facts
  pub text : text_end site.image ≤ data_start
  pub raised : exceptions ≤ site.image.exceptions

-- a frame whose first `bound` slots lie in the data area
pub record HasRoom (fp bound : ℕ) : Type 0 where
  pub above : data_word + bound ≤ fp
  pub below : fp ≤ area_end

-- what was observed of the kernel is what the machine shows
pub record Shows (site : Site) (w : World) (c : Config) : Type 0 where
  pub output : reverse w.seen.output ≡ c.output
  pub events : w.seen.events ≡ told site.facts c.past
  pub order : InOrder site.facts c.past

-- a state of the kernel in a frame, where so many calls may nest, and one of the machine: x8 is the end
-- of the frame, and x2 lies as many words above the end of the data area as calls may nest
pub record Like (site : Site) (fp left : ℕ) (w : World) (c : Config) : Type 0 where
  pub zeroth : c.state.reg 0 ≡ 0
  pub frame : c.state.reg 8 ≡ 4 * fp
  pub stack : c.state.reg 2 ≡ 4 * (area_end + left)
  pub memory : (a : ℕ) → data_word ≤ a → a < area_end → w.memory a ≡ signed (c.state.mem a)
  pub words : (a : ℕ) → data_word ≤ a → c.state.mem a < 2 ^ 32
  pub input : w.input ≡ c.input
  pub numbers : AllByRecursion (FitsSigned w32) c.input
  pub shows : Shows site w c

-- a key of another activation, above this one's frame, or of a decision that a part does not hold
abbrev pub Apart : (fp : ℕ) → (Out : DecId → Type 0) → Key → Type 0
Apart fp Out k = (4 * fp ≤ k.x8) × (k.x8 ≡ 4 * fp → Out k.decision)

-- a part leaves the evaluations of such keys where they are, and the return addresses of the
-- activations around it in memory
pub record Quiet (o : Facts) (fp left : ℕ) (Out : DecId → Type 0) (c c' : Config) : Type 0 where
  pub paths : (k : Key) → Apart fp Out k → (n : ℕ) → come_to o k c'.past n ≡ come_to o k c.past n
  pub keeps : (a : ℕ) → area_end + left ≤ a → a < area_end + 512 → c'.state.mem a ≡ c.state.mem a

-- a part comes to a place, with the kernel's new state, at fewer instructions than its cost allows by
-- some that are spared
pub record Comes (site : Site) (own fp left : ℕ) (Out : DecId → Type 0) (spared : ℕ) (w : World) (c : Config) (to : ℕ) (Also : Config → Type 0) (w' : World) : Type 0 where
  pub end : Config
  pub steps : ℕ
  pub reaches : Reaches site.image steps c end
  pub there : end.state.pc ≡ site.address own to
  pub like : Like site fp left w' end
  pub quiet : Quiet site.facts fp left Out c end
  pub spent : steps + spared + pace * w.seen.cost ≤ pace * w'.seen.cost
  pub also : Also end

-- a part goes on for as many instructions as the fuel says, and more, showing what was observed so far
pub record GoesOn (site : Site) (fuel : ℕ) (c : Config) (w' : World) : Type 0 where
  pub end : Config
  pub steps : ℕ
  pub reaches : Reaches site.image steps c end
  pub enough : fuel ≤ steps
  pub shows : Shows site w' end

-- x12 is the number of an exception
pub record IsRaised (exceptions e : ℕ) (c : Config) : Type 0 where
  pub number : c.state.reg 12 ≡ e
  pub some : 0 < e
  pub known : e ≤ exceptions

abbrev pub Nothing : Config → Type 0
Nothing c = Unit {0}

-- a part of the code does what the kernel means
abbrev pub Does : (site : Site) → (exceptions own fp left fuel : ℕ) → (Out : DecId → Type 0) → (spared : ℕ) → World → Config → Targets → (to : ℕ) → Ended → Type 0
Does site exceptions own fp left fuel Out spared w c t to (Ends w') = Comes site own fp left Out spared w c to Nothing w'
Does site exceptions own fp left fuel Out spared w c t to (Exits w') = Comes site own fp left Out spared w c t.exit_to Nothing w'
Does site exceptions own fp left fuel Out spared w c t to (Returns w') = Comes site own fp left Out spared w c t.return_to Nothing w'
Does site exceptions own fp left fuel Out spared w c t to (Raises e w') = Comes site own fp left Out spared w c t.raise_to (IsRaised exceptions e) w'
Does site exceptions own fp left fuel Out spared w c t to (Cut w') = GoesOn site fuel c w'
