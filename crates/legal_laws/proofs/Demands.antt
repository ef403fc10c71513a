-- Where no demand is unmet, each holds in each instance in which it is asked, whichever of the two came first.
use Rattle.std.proofs.Common.{◌≡◌, ◌⊎◌, ℕ, nat_eq, Bool, true, false, List, [], ◌∷◌, ◌++◌, reverse, Option, Some, None, if◌then◌else◌, refl, sym, subst, inl, inr}
use Rattle.std.specs.Option.{option_or}
use Rattle.std.proofs.lemmas.Bool.{eq-eqb, false≢true}
use mathlib.Core.List.{reverse-cons}
use Rattle.cov_base.specs.Lists.{Somewhere}
use Rattle.ada_rules.specs.Statics.{Demand, Asked, asked, instantiated, Made, Facts, holds, failing, failing_in, stands_in, made_of, looked_in, unmet_behind, first_unmet}
use Rattle.legal_laws.specs.Demanded.{IsDemanded, IsMade, IsLookedIn, AreMet}

-- lists
first_listed : {X : Type 0} (P : X → Type 0) (b : Bool) (x : X) (xs : List X) → b ≡ true → P x → Somewhere P (if b then x ∷ xs else xs)
first_listed P true x xs h p = inl p
first_listed P false x xs h p = absurd (false≢true h)

later_listed : {X : Type 0} (P : X → Type 0) (b : Bool) (x : X) (xs : List X) → Somewhere P xs → Somewhere P (if b then x ∷ xs else xs)
later_listed P true x xs h = inr h
later_listed P false x xs h = h

in_front : {X : Type 0} (P : X → Type 0) (xs ys : List X) → Somewhere P xs → Somewhere P (xs ++ ys)
in_front P [] ys h = absurd h
in_front P (x ∷ xs) ys (inl h) = inl h
in_front P (x ∷ xs) ys (inr h) = inr (in_front P xs ys h)

at_end : {X : Type 0} (xs : List X) (x : X) → Somewhere (λ y. y ≡ x) (xs ++ x ∷ [])
at_end [] x = inl refl
at_end (y ∷ xs) x = inr (at_end xs x)

-- options
some_is_none : {X : Type 0} {x : X} → Some x ≡ None → ⊥
some_is_none e = cc

neither : {X : Type 0} (a b : Option X) → option_or a b ≡ None → (a ≡ None) × (b ≡ None)
neither None b h = (refl, h)
neither (Some x) b h = absurd (some_is_none h)

-- among the instances that were made
abbrev IsAmong : ℕ → List ℕ → Type 0
IsAmong i is = Somewhere (λ j. j ≡ i) is

abbrev made : ℕ → ℕ → Made
made g k = record { generic = g; instance = k }

more_looked_in : (m : Made) (ms : List Made) (o : Option ℕ) (i : ℕ) → IsAmong i (looked_in ms o) → IsAmong i (looked_in (m ∷ ms) o)
more_looked_in m ms None i h = h
more_looked_in m ms (Some g) i h = later_listed (λ j. j ≡ i) (nat_eq m.generic g) m.instance (made_of g ms) h

-- an instance of this generic is made among these; of what stands in none there is none
abbrev IsMadeOf : Option ℕ → ℕ → List Asked → Type 0
IsMadeOf None i xs = ⊥
IsMadeOf (Some g) i xs = IsMade g i xs

past_demand : (o : Option ℕ) (i : ℕ) (d : Demand) (rest : List Asked) → IsMadeOf o i (asked d ∷ rest) → IsMadeOf o i rest
past_demand None i d rest h = h
past_demand (Some g) i d rest h = h

none_made : (o : Option ℕ) (i : ℕ) → IsMadeOf o i [] → ⊥
none_made None i h = h
none_made (Some g) i h = h

-- an instance that is just made, or one that comes later
made_or_later : (g k : ℕ) (ms : List Made) (rest : List Asked) (o : Option ℕ) (i : ℕ)
    → IsAmong i (looked_in ms o) ⊎ IsMadeOf o i (instantiated g k ∷ rest)
    → IsAmong i (looked_in (made g k ∷ ms) o) ⊎ IsMadeOf o i rest
made_or_later g k ms rest o i (inl h) = inl (more_looked_in (made g k) ms o i h)
made_or_later g k ms rest None i (inr h) = absurd h
made_or_later g k ms rest (Some f) i (inr (inl h)) =
    inl (first_listed (λ j. j ≡ i) (nat_eq g f) k (made_of f ms) (eq-eqb g f h.0) h.1)
made_or_later g k ms rest (Some f) i (inr (inr h)) = inr h

module _ (facts : List Facts) where
  abbrev Holds : ℕ → Demand → Type 0
  Holds i d = holds facts i d.test ≡ true

  one_holds : (i : ℕ) (is : List ℕ) (d : Demand) (b : Bool) → holds facts i d.test ≡ b → (if b then failing facts is d else Some d.place) ≡ None
      → Holds i d × (failing facts is d ≡ None)
  one_holds i is d true h e = (h, e)
  one_holds i is d false h e = absurd (some_is_none e)

  none_fails : (is : List ℕ) (d : Demand) (i : ℕ) → failing facts is d ≡ None → IsAmong i is → Holds i d
  none_fails [] d i e h = absurd h
  none_fails (j ∷ is) d i e (inl h) = subst (λ k. Holds k d) h (one_holds j is d (holds facts j d.test) refl e).0
  none_fails (j ∷ is) d i e (inr h) = none_fails is d i (one_holds j is d (holds facts j d.test) refl e).1 h

  asked_if : (k : ℕ) (d : Demand) (b : Bool) → b ≡ true → (if b then failing facts (k ∷ []) d else None) ≡ None → Holds k d
  asked_if k d true h e = none_fails (k ∷ []) d k e (inl refl)
  asked_if k d false h e = absurd (false≢true h)

  -- a demand that came before an instance is asked in it
  none_fails_in : (g k : ℕ) (ds : List Demand) (d : Demand) → failing_in facts g k ds ≡ None → Somewhere (λ e. e ≡ d) ds → d.generic ≡ Some g → Holds k d
  none_fails_in g k [] d e h is = absurd h
  none_fails_in g k (f ∷ ds) d e (inl h) is =
      subst (λ x. x.generic ≡ Some g → Holds k x) h
      (λ same. asked_if k f (stands_in (Some g) f.generic) (subst (λ o. stands_in (Some g) o ≡ true) (sym same) (eq-eqb g g refl))
      (neither (if stands_in (Some g) f.generic then failing facts (k ∷ []) f else None) (failing_in facts g k ds) e).0) is
  none_fails_in g k (f ∷ ds) d e (inr h) is =
      none_fails_in g k ds d (neither (if stands_in (Some g) f.generic then failing facts (k ∷ []) f else None) (failing_in facts g k ds) e).1 h is

  -- demands among those to come, in instances before and behind them; and demands before, in instances to come
  abbrev Later : List Made → List Asked → Type 0
  Later ms xs = (d : Demand) (i : ℕ) → IsDemanded d xs → IsAmong i (looked_in ms d.generic) ⊎ IsMadeOf d.generic i xs → Holds i d

  abbrev Earlier : List Demand → List Asked → Type 0
  Earlier ds xs = (d : Demand) (i : ℕ) → Somewhere (λ e. e ≡ d) ds → IsMadeOf d.generic i xs → Holds i d

  just_asked : (before : List Demand) (ms : List Made) (e : Demand) (rest : List Asked) (i : ℕ) → failing facts (looked_in ms e.generic) e ≡ None
      → Earlier (before ++ e ∷ []) rest → IsAmong i (looked_in ms e.generic) ⊎ IsMadeOf e.generic i (asked e ∷ rest) → Holds i e
  just_asked before ms e rest i none later (inl h) = none_fails (looked_in ms e.generic) e i none h
  just_asked before ms e rest i none later (inr h) = later e i (at_end before e) (past_demand e.generic i e rest h)

  past_one : (ms : List Made) (e : Demand) (rest : List Asked) (o : Option ℕ) (i : ℕ) → IsAmong i (looked_in ms o) ⊎ IsMadeOf o i (asked e ∷ rest)
      → IsAmong i (looked_in ms o) ⊎ IsMadeOf o i rest
  past_one ms e rest o i (inl h) = inl h
  past_one ms e rest o i (inr h) = inr (past_demand o i e rest h)

  with_demand : (before : List Demand) (ms : List Made) (e : Demand) (rest : List Asked) → failing facts (looked_in ms e.generic) e ≡ None
      → Later ms rest → Earlier (before ++ e ∷ []) rest → Later ms (asked e ∷ rest)
  with_demand before ms e rest none later earlier d i (inl h) where_asked =
      subst (λ x. IsAmong i (looked_in ms x.generic) ⊎ IsMadeOf x.generic i (asked e ∷ rest) → Holds i x) h
      (just_asked before ms e rest i none earlier) where_asked
  with_demand before ms e rest none later earlier d i (inr h) where_asked = later d i h (past_one ms e rest d.generic i where_asked)

  made_now : (g k : ℕ) (before : List Demand) (rest : List Asked) (d : Demand) (i : ℕ) (o : Option ℕ) → failing_in facts g k before ≡ None
      → Earlier before rest → Somewhere (λ e. e ≡ d) before → d.generic ≡ o → IsMadeOf o i (instantiated g k ∷ rest) → Holds i d
  made_now g k before rest d i None none earlier there is h = absurd h
  made_now g k before rest d i (Some f) none earlier there is (inl h) =
      subst (λ j. Holds j d) h.1 (none_fails_in g k before d none there (subst (λ n. d.generic ≡ Some n) (sym h.0) is))
  made_now g k before rest d i (Some f) none earlier there is (inr h) =
      earlier d i there (subst (λ o. IsMadeOf o i rest) (sym is) h)

  unmet_nowhere : (before : List Demand) (ms : List Made) (xs : List Asked) → unmet_behind facts before ms xs ≡ None → Later ms xs × Earlier before xs
  unmet_nowhere before ms [] e = (λ d i h k. absurd h, λ d i h k. absurd (none_made d.generic i k))
  unmet_nowhere before ms (asked d ∷ rest) e =
      let none = neither (failing facts (looked_in ms d.generic) d) (unmet_behind facts (before ++ d ∷ []) ms rest) e in
      let rests = unmet_nowhere (before ++ d ∷ []) ms rest none.1 in (
        with_demand before ms d rest none.0 rests.0 rests.1,
        λ x i h k. rests.1 x i (in_front (λ e. e ≡ x) before (d ∷ []) h) (past_demand x.generic i d rest k),
      )
  unmet_nowhere before ms (instantiated g k ∷ rest) e =
      let none = neither (failing_in facts g k before) (unmet_behind facts before (made g k ∷ ms) rest) e in
      let rests = unmet_nowhere before (made g k ∷ ms) rest none.1 in (
        λ d i h there. rests.0 d i h (made_or_later g k ms rest d.generic i there),
        λ d i h there. made_now g k before rest d i d.generic none.0 rests.1 h refl there,
      )

  where_looked_in : (o : Option ℕ) (i : ℕ) (xs : List Asked) → IsLookedIn o i xs → IsAmong i (looked_in [] o) ⊎ IsMadeOf o i xs
  where_looked_in None i xs h = inl (inl (sym h))
  where_looked_in (Some g) i xs h = inr h

  pub are_met : (xs : List Asked) → first_unmet facts xs ≡ None → AreMet facts xs
  are_met xs e d i h there = (unmet_nowhere [] [] xs e).0 d i h (where_looked_in d.generic i xs there)

-- the walk has the latest first
demanded_in_front : (d : Demand) (xs ys : List Asked) → IsDemanded d xs → IsDemanded d (xs ++ ys)
demanded_in_front d [] ys h = absurd h
demanded_in_front d (asked e ∷ xs) ys (inl h) = inl h
demanded_in_front d (asked e ∷ xs) ys (inr h) = inr (demanded_in_front d xs ys h)
demanded_in_front d (instantiated g i ∷ xs) ys h = demanded_in_front d xs ys h

pub demanded_behind : (d : Demand) (xs ys : List Asked) → IsDemanded d ys → IsDemanded d (xs ++ ys)
demanded_behind d [] ys h = h
demanded_behind d (asked e ∷ xs) ys h = inr (demanded_behind d xs ys h)
demanded_behind d (instantiated g i ∷ xs) ys h = demanded_behind d xs ys h

demanded_reversed : (d : Demand) (xs : List Asked) → IsDemanded d xs → IsDemanded d (reverse xs)
demanded_reversed d [] h = absurd h
demanded_reversed d (asked e ∷ xs) (inl h) =
    subst (IsDemanded d) (sym (reverse-cons (asked e) xs)) (demanded_behind d (reverse xs) (asked e ∷ []) (inl h))
demanded_reversed d (asked e ∷ xs) (inr h) =
    subst (IsDemanded d) (sym (reverse-cons (asked e) xs)) (demanded_in_front d (reverse xs) (asked e ∷ []) (demanded_reversed d xs h))
demanded_reversed d (instantiated g i ∷ xs) h =
    subst (IsDemanded d) (sym (reverse-cons (instantiated g i) xs)) (demanded_in_front d (reverse xs) (instantiated g i ∷ []) (demanded_reversed d xs h))

made_in_front : (g i : ℕ) (xs ys : List Asked) → IsMade g i xs → IsMade g i (xs ++ ys)
made_in_front g i [] ys h = absurd h
made_in_front g i (asked e ∷ xs) ys h = made_in_front g i xs ys h
made_in_front g i (instantiated f j ∷ xs) ys (inl h) = inl h
made_in_front g i (instantiated f j ∷ xs) ys (inr h) = inr (made_in_front g i xs ys h)

made_behind : (g i : ℕ) (xs ys : List Asked) → IsMade g i ys → IsMade g i (xs ++ ys)
made_behind g i [] ys h = h
made_behind g i (asked e ∷ xs) ys h = made_behind g i xs ys h
made_behind g i (instantiated f j ∷ xs) ys h = inr (made_behind g i xs ys h)

made_reversed : (g i : ℕ) (xs : List Asked) → IsMade g i xs → IsMade g i (reverse xs)
made_reversed g i [] h = absurd h
made_reversed g i (asked e ∷ xs) h =
    subst (IsMade g i) (sym (reverse-cons (asked e) xs)) (made_in_front g i (reverse xs) (asked e ∷ []) (made_reversed g i xs h))
made_reversed g i (instantiated f j ∷ xs) (inl h) =
    subst (IsMade g i) (sym (reverse-cons (instantiated f j) xs)) (made_behind g i (reverse xs) (instantiated f j ∷ []) (inl h))
made_reversed g i (instantiated f j ∷ xs) (inr h) =
    subst (IsMade g i) (sym (reverse-cons (instantiated f j) xs)) (made_in_front g i (reverse xs) (instantiated f j ∷ []) (made_reversed g i xs h))

looked_in_reversed : (o : Option ℕ) (i : ℕ) (xs : List Asked) → IsLookedIn o i xs → IsLookedIn o i (reverse xs)
looked_in_reversed None i xs h = h
looked_in_reversed (Some g) i xs h = made_reversed g i xs h

pub are_met_behind : (facts : List Facts) (xs : List Asked) → first_unmet facts (reverse xs) ≡ None → AreMet facts xs
are_met_behind facts xs e d i h there =
    are_met facts (reverse xs) e d i (demanded_reversed d xs h) (looked_in_reversed d.generic i xs there)
