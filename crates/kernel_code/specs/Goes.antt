-- What a machine that carries its past comes to.
use Rattle.std.specs.Prelude.{◌≡◌, ℕ, ◌+◌, List, [], ◌∷◌, map, length, None}
use Rattle.rv_isa.specs.declared.instr.Instr.{Instr}
use Rattle.rv_semantics.specs.declared.stepped.Seen.{Seen}
use Rattle.rv_semantics.specs.State.{Image, State}
use Rattle.rv_semantics.specs.Step.{seen}
use Rattle.rv_semantics.specs.Past.{Config, exec}
use Rattle.placed_code.specs.Stretch.{config}
use Rattle.placed_code.specs.Straight.{AreStraight, after_one, after_all}
use Rattle.transcript.specs.Facts.{Facts}
use Rattle.transcript.specs.Visit.{visits}
use Rattle.kernel_code.specs.Behind.{told, InOrder}
use Rattle.kernel_code.specs.Line.{Site, plain, HasLines}

-- after n instructions a machine has come to another
pub record Reaches (image : Image) (n : ℕ) (c c' : Config) : Type 0 where
  pub by : (k : ℕ) → exec image (k + n) c ≡ exec image k c'

-- what was executed between two pasts tells nothing
pub record Silent (o : Facts) (past past' : List Seen) : Type 0 where
  pub says : told o past' ≡ told o past
  pub same : visits o past' ≡ visits o past
  pub order : InOrder o past → InOrder o past'

-- the past after straight code
abbrev pub behind : State → List Instr → List Seen → List Seen
behind s [] past = past
behind s (i ∷ is) past = behind (after_one s i) is (seen s None ∷ past)

-- the machine after straight code
abbrev pub gone : Config → List Instr → Config
gone c is = config (after_all c.state is) c.input c.output (behind c.state is c.past)

-- the machine is there after so many instructions, behind the code, and nothing was told
pub record Gone (site : Site) (own place : ℕ) (c : Config) (is : List Instr) : Type 0 where
  pub reaches : Reaches site.image (length is) c (gone c is)
  pub arrives : (gone c is).state.pc ≡ site.address own (place + length is)
  pub silent : Silent site.facts c.past (gone c is).past

abbrev pub StraightLinesGo : Type 0
StraightLinesGo =
    (site : Site) (own place : ℕ) (c : Config) (is : List Instr)
    → HasLines site own place (map plain is) → c.state.pc ≡ site.address own place
    → AreStraight site.image c.state is → Gone site own place c is
