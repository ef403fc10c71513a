-- What a coverage stands for.
use Rattle.std.specs.Prelude.{◌≡◌, ◌≢◌, ◌↔◌, ◌⊎◌, ℕ, List, length, AllPairs}
use Rattle.std.proofs.Common.{refl, sym, ◌∙◌}
use Rattle.cov_base.specs.declared.event.Event.{Event}
use Rattle.cov_base.specs.Lists.{Somewhere}
use Rattle.object_format.specs.declared.object.Object.{Object}
use Rattle.coverage_set.specs.Joined.{IsEquivalenceRelation}

-- an object, the closing digests of the traces of its runs, and the events of these runs
pub record Covered : Type 0 where
  pub object : Object
  pub runs : List (List ℕ)
  pub events : List Event

-- one of the runs has a trace with this digest
abbrev pub HasRun : Covered → List ℕ → Type 0
HasRun c digest = Somewhere (λ d. d ≡ digest) c.runs

-- an event is covered
abbrev pub Has : Covered → Event → Type 0
Has c e = Somewhere (λ x. x ≡ e) c.events

-- what may be of a coverage: a run, by the digest of its trace, or an event
pub data Part : Type 0 where
  ARun : (digest : List ℕ) → Part
  AnEvent : (event : Event) → Part

-- what is of one
abbrev pub HasPart : Covered → Part → Type 0
HasPart c (ARun digest) = HasRun c digest
HasPart c (AnEvent e) = Has c e

-- both stand for the same
pub record AreSame (a b : Covered) : Type 0 where
  pub object : a.object ≡ b.object
  pub runs : (digest : List ℕ) → HasRun a digest ↔ HasRun b digest
  pub events : (e : Event) → Has a e ↔ Has b e

-- the third stands for what either of the others stands for
pub record IsUnion (a b both : Covered) : Type 0 where
  pub object : both.object ≡ a.object
  pub runs : (digest : List ℕ) → HasRun both digest ↔ (HasRun a digest ⊎ HasRun b digest)
  pub events : (e : Event) → Has both e ↔ (Has a e ⊎ Has b e)

-- so many different runs there are: the digests in some list, each once
pub record IsCountOfRuns (c : Covered) (count : ℕ) : Type 0 where
  pub digests : List (List ℕ)
  pub all : (digest : List ℕ) → Somewhere (λ d. d ≡ digest) digests ↔ HasRun c digest
  pub each_once : AllPairs (λ x y. x ≢ y) digests
  pub long : count ≡ length digests

-- to be of one object is an equivalence
pub of_one_object : IsEquivalenceRelation (λ (a b : Covered). a.object ≡ b.object)
of_one_object = record { reflexive = λ a. refl; symmetric = λ a b same. sym same; transitive = λ a b c one other. one ∙ other }
