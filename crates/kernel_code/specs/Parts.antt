-- What the parts of a body's code do.
use Rattle.std.specs.Prelude.{◌≡◌, ℕ, ◌+◌}
use Rattle.cov_base.specs.declared.position.DecId.{DecId}
use Rattle.rv_semantics.specs.Past.{Config}
use Rattle.kernel_ir.specs.declared.kernel.Kernel.{Kernel}
use Rattle.kernel_ir.specs.declared.simple.Simple.{Simple}
use Rattle.kernel_ir.specs.World.{World, Ended}
use Rattle.kernel_ir.specs.Simple.{does_simple}
use Rattle.kernel_ir.specs.Limits.{SimpleFits}
use Rattle.kernel_code.specs.Line.{Site, HasLines}
use Rattle.kernel_code.specs.SimpleCode.{Targets, Setting, simple_lines}
use Rattle.kernel_code.specs.Code.{simple_length}
use Rattle.kernel_code.specs.Does.{Like, Does}

-- from a place on the code does what a part of the kernel means, and comes to another place
abbrev pub DoesFrom : (site : Site) → (exceptions own fp left fuel : ℕ) → (Out : DecId → Type 0) → Targets → (from to : ℕ) → (World → Ended) → Type 0
DoesFrom site exceptions own fp left fuel Out t from to f =
    (w : World) (c : Config) → Like site fp left w c → c.state.pc ≡ site.address own from → Does site exceptions own fp left fuel Out 0 w c t to (f w)

-- an operation that holds no others does what it means
abbrev pub SimpleDoes : (site : Site) → Kernel → (own fp left bound fuel : ℕ) → (Out : DecId → Type 0) → Setting → Targets → (place : ℕ) → Simple → Type 0
SimpleDoes site k own fp left bound fuel Out e t p s =
    SimpleFits k bound s → HasLines site own p (simple_lines e t.raise_to p s)
    → DoesFrom site k.exceptions own fp left fuel Out t p (p + simple_length s) (does_simple k.layouts k.exceptions fp s)
