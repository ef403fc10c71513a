-- How an answer of the code stands to what the rules say of a construct.
use Rattle.std.specs.Prelude.{◌≡◌, Result, Ok, Err}
use Rattle.cov_base.specs.declared.position.Pos.{Pos}
use Rattle.cov_base.specs.declared.failure.Failure.{Failure}
use Rattle.cov_base.specs.declared.failure.Failure.TheVariants.{Fault, WantOfMemory}
use Rattle.ada_entities.specs.declared.fault.Refusal.{Refusal}

abbrev pub refusal : Pos → Failure Refusal
refusal p = Fault (record { pos = p })

-- a refusal is the rules' own, at their place; of want of memory nothing is said
pub data Refuses {A : Type 0} (answer : Result A Pos) : Failure Refusal → Type 0 where
  refused_at : {p : Pos} → answer ≡ Err p → Refuses answer (refusal p)
  no_memory : Refuses answer WantOfMemory

-- what the code answers is what the rules give, as it is seen, or else refuses as they do
abbrev pub Answers : {A B : Type 0} → (A → B) → Result B Pos → Result A (Failure Refusal) → Type 0
Answers view answer (Ok x) = answer ≡ Ok (view x)
Answers view answer (Err f) = Refuses answer f
