-- Roles that fit the text and the decisions.
use Rattle.std.specs.Prelude.{◌≡◌, ◌≢◌, ℕ, ◌+◌, ◌<◌, Bool, true, false, ◌==◌, List, [], ◌∷◌, map, nat_lt, Option, Some, slice_get, filter, AllPairs, Contains, if◌then◌else◌}
use Rattle.cov_base.specs.declared.obligations.DecEntry.{DecEntry}
use Rattle.line_table.specs.declared.roles.Role.{Role}
use Rattle.rv_isa.specs.Decoding.{instr_of}
use Rattle.rv_isa.specs.Control.{is_branch, holds}
use Rattle.object_format.specs.declared.object.Object.{Object}
use Rattle.object_format.specs.Fields.{condition_count}

-- the addresses of the conditional branches among words that stand from an address on
abbrev pub branches_from : ℕ → List ℕ → List ℕ
branches_from address [] = []
branches_from address (word ∷ words) =
    if holds is_branch (instr_of word) then address ∷ branches_from (address + 4) words else branches_from (address + 4) words

-- the role is that of a condition
abbrev pub is_condition : Role → Bool
is_condition role = role.kind.0 == 2

-- the condition that a role is for: its decision, its instance, and its number
abbrev pub condition_of : Role → (ℕ × ℕ) × ℕ
condition_of role = ((role.decision.0, role.instance.0), role.condition.0)

-- the conditions that have roles
abbrev pub conditions_of : List Role → List ((ℕ × ℕ) × ℕ)
conditions_of roles = map condition_of (filter is_condition roles)

-- the conditions are of their decisions
abbrev pub is_known : List DecEntry → (ℕ × ℕ) × ℕ → Bool
is_known decisions one = nat_lt one.1 (condition_count (slice_get decisions one.0.0))

-- with a condition of a decision in an instance, each condition of that decision has a role in that instance
abbrev pub AreWhole : List DecEntry → List ((ℕ × ℕ) × ℕ) → Type 0
AreWhole decisions conditions =
    (one : (ℕ × ℕ) × ℕ) → Contains conditions one
    → (condition : ℕ) → condition < condition_count (slice_get decisions one.0.0) → Contains conditions (one.0, condition)

-- no condition has two roles in one instance
abbrev pub AreSingle : List ((ℕ × ℕ) × ℕ) → Type 0
AreSingle conditions = AllPairs (λ one next. one ≢ next) conditions

-- the check `role`: the roles are those of the text's conditional branches, in order; of a decision in an instance no condition has a
-- role, or each has one and no other
pub record PassesRole (o : Object) : Type 0 where
  pub branches : map (λ role. role.address) o.roles ≡ branches_from 0x10000 o.text
  pub single : AreSingle (conditions_of o.roles)
  pub whole : AreWhole o.obligations.decisions (conditions_of o.roles)
