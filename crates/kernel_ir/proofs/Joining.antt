-- Code behind code: what it does, what it holds, and how long it is.
use Rattle.std.proofs.Common.{◌≡◌, ℕ, ◌+◌, ◌++◌, List, append_assoc, arith, refl, sym, ap, ◌∙◌}
use Rattle.cov_base.specs.declared.position.DecId.{DecId}
use Rattle.cov_base.specs.Graph.{Edges}
use Rattle.kernel_ir.specs.declared.kernel.Kernel.{Kernel}
use Rattle.kernel_ir.specs.Tree.{Op, Code, no_op, and_op}
use Rattle.kernel_ir.specs.World.{World, Ended, Ends, Exits, Returns, Raises, Cut, goes_on}
use Rattle.kernel_ir.specs.Meaning.{Calls, does_op, does_code}
use Rattle.kernel_ir.specs.Limits.{CodeLacks, CodeFits, code_instructions}
use Rattle.kernel_ir.specs.Obligations.{op_rows, code_rows, op_conditions, code_conditions}
use Rattle.kernel_ir.specs.Sequence.{joined}

-- going on twice is going on with what goes on
pub goes_on_twice : (r : Ended) (f g : World → Ended) → goes_on (goes_on r f) g ≡ goes_on r (λ w. goes_on (f w) g)
goes_on_twice (Ends w) f g = refl
goes_on_twice (Exits w) f g = refl
goes_on_twice (Returns w) f g = refl
goes_on_twice (Raises e w) f g = refl
goes_on_twice (Cut w) f g = refl

pub goes_on_same : (r : Ended) (f g : World → Ended) → ((w : World) → f w ≡ g w) → goes_on r f ≡ goes_on r g
goes_on_same (Ends w) f g h = h w
goes_on_same (Exits w) f g h = refl
goes_on_same (Returns w) f g h = refl
goes_on_same (Raises e w) f g h = refl
goes_on_same (Cut w) f g h = refl

pub joined_does : (p : Kernel) (calls : Calls) (fuel width fp left : ℕ) (a b : Code) (w : World) → does_code p calls fuel width fp left (joined a b) w ≡ goes_on (does_code p calls fuel width fp left a w) (does_code p calls fuel width fp left b)
joined_does p calls fuel width fp left no_op b w = refl
joined_does p calls fuel width fp left (and_op o a) b w =
    goes_on_same (does_op p calls fuel width fp left o w) _ _ (joined_does p calls fuel width fp left a b)
    ∙ sym (goes_on_twice (does_op p calls fuel width fp left o w) (does_code p calls fuel width fp left a) (does_code p calls fuel width fp left b))

pub joined_nothing : (a : Code) → joined a no_op ≡ a
joined_nothing no_op = refl
joined_nothing (and_op o a) = ap (and_op o) (joined_nothing a)

pub joined_assoc : (a b c : Code) → joined (joined a b) c ≡ joined a (joined b c)
joined_assoc no_op b c = refl
joined_assoc (and_op o a) b c = ap (and_op o) (joined_assoc a b c)

pub joined_fits : (p : Kernel) (slots : ℕ) (graph : DecId → List Edges) (a b : Code) → CodeFits p slots graph a → CodeFits p slots graph b → CodeFits p slots graph (joined a b)
joined_fits p slots graph no_op b h g = g
joined_fits p slots graph (and_op o a) b h g = (h.0, joined_fits p slots graph a b h.1 g)

pub joined_lacks : (d : DecId) (a b : Code) → CodeLacks d a → CodeLacks d b → CodeLacks d (joined a b)
joined_lacks d no_op b h g = g
joined_lacks d (and_op o a) b h g = (h.0, joined_lacks d a b h.1 g)

pub joined_rows : (a b : Code) → code_rows (joined a b) ≡ code_rows a ++ code_rows b
joined_rows no_op b = refl
joined_rows (and_op o a) b = ap (λ rs. op_rows o ++ rs) (joined_rows a b) ∙ sym (append_assoc (op_rows o) (code_rows a) (code_rows b))

pub joined_conditions : (a b : Code) → code_conditions (joined a b) ≡ code_conditions a ++ code_conditions b
joined_conditions no_op b = refl
joined_conditions (and_op o a) b =
    ap (λ cs. op_conditions o ++ cs) (joined_conditions a b) ∙ sym (append_assoc (op_conditions o) (code_conditions a) (code_conditions b))

pub joined_instructions : (a b : Code) → code_instructions (joined a b) ≡ code_instructions a + code_instructions b
joined_instructions no_op b = omega arith
joined_instructions (and_op o a) b = omega (arith, joined_instructions a b)

goes_on_ends : (r : Ended) → goes_on r Ends ≡ r
goes_on_ends (Ends w) = refl
goes_on_ends (Exits w) = refl
goes_on_ends (Returns w) = refl
goes_on_ends (Raises e w) = refl
goes_on_ends (Cut w) = refl

pub single_does : (p : Kernel) (calls : Calls) (fuel width fp left : ℕ) (o : Op) (w : World) → does_code p calls fuel width fp left (and_op o no_op) w ≡ does_op p calls fuel width fp left o w
single_does p calls fuel width fp left o w = goes_on_same (does_op p calls fuel width fp left o w) _ Ends (λ v. refl) ∙ goes_on_ends (does_op p calls fuel width fp left o w)
