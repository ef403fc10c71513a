-- What a machine that carries its past has told: the events of the executed instructions, the latest
-- of which comes first, and where an evaluation has come to.
use Rattle.std.specs.Prelude.{◌≡◌, ℕ, List, [], ◌∷◌, ◌++◌, reverse, Option, Some, None}
use Rattle.cov_base.specs.declared.event.Event.{Event}
use Rattle.rv_semantics.specs.declared.stepped.Seen.{Seen}
use Rattle.cov_base.specs.Path.{Step}
use Rattle.transcript.specs.Facts.{Facts}
use Rattle.transcript.specs.Visit.{Key, Visit, visit_of, visits, steps}
use Rattle.transcript.specs.Reading.{started, Follows, IsDisciplined}
use Rattle.transcript.specs.Computed.{path_to, done_at, reading}

-- the events of a past, the latest first; at one instruction Start comes before Done
abbrev pub told : Facts → List Seen → List Event
told o [] = []
told o (s ∷ past) = done_at o (visits o past) (visit_of o s) ++ (started (o.row s.pc) ++ told o past)

-- a visit, if there is one, follows those of the past
abbrev pub FollowsIfAny : Facts → List Visit → Option Visit → Type 0
FollowsIfAny o past None = Unit {0}
FollowsIfAny o past (Some v) = Follows o past v

-- a past is disciplined: each visit follows those before it
abbrev pub InOrder : Facts → List Seen → Type 0
InOrder o [] = Unit {0}
InOrder o (s ∷ past) = FollowsIfAny o (visits o past) (visit_of o s) × InOrder o past

-- the path by which the evaluation of a key has come to a node
abbrev pub come_to : Facts → Key → List Seen → ℕ → Option (List Step)
come_to o k past n = path_to (o.graph k.decision) (steps k (visits o past)) n

-- the events of a past are those of its transcript, which has the earliest first
abbrev pub PastTells : Type 0
PastTells = (o : Facts) (past : List Seen) → reverse (told o past) ≡ reading o (reverse past)

-- and so it is with discipline
abbrev pub PastIsDisciplined : Type 0
PastIsDisciplined = (o : Facts) (past : List Seen) → InOrder o past → IsDisciplined o (reverse past)
