-- The bodies of a program are its subprograms, each in the instances of its generic.
use Rattle.std.proofs.Common.{◌≡◌, ℕ, zero, suc, ◌+◌, nat_eq, Bool, true, false, List, [], ◌∷◌, ◌++◌, map, Option, Some, None, option_map, slice_get, refl, sym, ap, subst, inl, inr, ◌⊎◌, arith, ◌↔◌}
use Rattle.std.specs.Prelude.{unwrap_or, if◌then◌else◌}
use Rattle.std.proofs.lemmas.Bool.{eqb-true, eq-eqb, false≢true}
use Rattle.cov_base.specs.Lists.{Somewhere}
use Rattle.ada_meaning.specs.Program.{Subprogram, Instance, Program}
use Rattle.ada_meaning.specs.Bodies.{Body, instances_from, instances_of, bodies_from, bodies_of, StandsIn, IsBody}

-- an item of two lists, and of a list that is made of another
in_front : {X : Type 0} (P : X → Type 0) (xs ys : List X) → Somewhere P xs → Somewhere P (xs ++ ys)
in_front P [] ys h = absurd h
in_front P (x ∷ xs) ys (inl h) = inl h
in_front P (x ∷ xs) ys (inr h) = inr (in_front P xs ys h)

further_on : {X : Type 0} (P : X → Type 0) (xs ys : List X) → Somewhere P ys → Somewhere P (xs ++ ys)
further_on P [] ys h = h
further_on P (x ∷ xs) ys h = inr (further_on P xs ys h)

in_either : {X : Type 0} (P : X → Type 0) (xs ys : List X) → Somewhere P (xs ++ ys) → Somewhere P xs ⊎ Somewhere P ys
in_either P [] ys h = inr h
in_either P (x ∷ xs) ys (inl h) = inl (inl h)
in_either P (x ∷ xs) ys (inr h) = behind (in_either P xs ys h) where
  behind : Somewhere P xs ⊎ Somewhere P ys → Somewhere P (x ∷ xs) ⊎ Somewhere P ys
  behind (inl g) = inl (inr g)
  behind (inr g) = inr g

mapped : {X Y : Type 0} (P : Y → Type 0) (Q : X → Type 0) (f : X → Y) (xs : List X) → ((x : X) → Q x → P (f x)) → Somewhere Q xs → Somewhere P (map f xs)
mapped P Q f [] k h = absurd h
mapped P Q f (x ∷ xs) k (inl h) = inl (k x h)
mapped P Q f (x ∷ xs) k (inr h) = inr (mapped P Q f xs k h)

unmapped : {X Y : Type 0} (P : Y → Type 0) (Q : X → Type 0) (f : X → Y) (xs : List X) → ((x : X) → P (f x) → Q x) → Somewhere P (map f xs) → Somewhere Q xs
unmapped P Q f [] k h = absurd h
unmapped P Q f (x ∷ xs) k (inl h) = inl (k x h)
unmapped P Q f (x ∷ xs) k (inr h) = inr (unmapped P Q f xs k h)

-- an item that a test puts before others, or leaves out
first_listed : {X : Type 0} (P : X → Type 0) (b : Bool) (x : X) (xs : List X) → b ≡ true → P x → Somewhere P (if b then x ∷ xs else xs)
first_listed P true x xs h p = inl p
first_listed P false x xs h p = absurd (false≢true h)

later_listed : {X : Type 0} (P : X → Type 0) (b : Bool) (x : X) (xs : List X) → Somewhere P xs → Somewhere P (if b then x ∷ xs else xs)
later_listed P true x xs h = inr h
later_listed P false x xs h = h

listed_cases : {X : Type 0} (P : X → Type 0) (b : Bool) (x : X) (xs : List X) → Somewhere P (if b then x ∷ xs else xs) → ((b ≡ true) × P x) ⊎ Somewhere P xs
listed_cases P true x xs (inl h) = inl (refl, h)
listed_cases P true x xs (inr h) = inr h
listed_cases P false x xs h = inr h

abbrev IsNone : {X : Type 0} → Option X → Type 0
IsNone None = Unit {0}
IsNone (Some x) = ⊥

-- the instance with this place is one of the generic
abbrev IsOf : ℕ → List Instance → ℕ → Type 0
IsOf g is k = option_map (λ x. x.generic) (slice_get is k) ≡ Some g

instance_listed : (g n at k : ℕ) (is : List Instance) → at ≡ n + k → IsOf g is k → Somewhere (λ i. i ≡ at) (instances_from g n is)
instance_listed g n at zero [] e h = absurd (subst IsNone h tt)
instance_listed g n at (suc k) [] e h = absurd (subst IsNone h tt)
instance_listed g n at zero (i ∷ is) e h =
    first_listed _ (nat_eq i.generic g) n (instances_from g (n + 1) is) (eq-eqb i.generic g (ap (λ o. unwrap_or o g) h)) (omega (arith, e))
instance_listed g n at (suc k) (i ∷ is) e h =
    later_listed _ (nat_eq i.generic g) n (instances_from g (n + 1) is) (instance_listed g (n + 1) at k is (omega (arith, e)) h)

-- an instance that is listed with this number is one of the generic
record Found (g n at : ℕ) (is : List Instance) : Type 0 where
  place : ℕ
  is_at : at ≡ n + place
  is_of : IsOf g is place

found_behind : (g n at : ℕ) (i : Instance) (is : List Instance) → Found g (n + 1) at is → Found g n at (i ∷ is)
found_behind g n at i is f = record { place = suc f.place; is_at = let e = f.is_at in omega (arith, e); is_of = f.is_of }

listed_instance : (g n at : ℕ) (is : List Instance) → Somewhere (λ i. i ≡ at) (instances_from g n is) → Found g n at is
listed_instance g n at [] h = absurd h
listed_instance g n at (i ∷ is) h = by_cases (listed_cases _ (nat_eq i.generic g) n (instances_from g (n + 1) is) h) (listed_instance g (n + 1) at is) where
  by_cases : ((nat_eq i.generic g ≡ true) × (n ≡ at)) ⊎ Somewhere (λ j. j ≡ at) (instances_from g (n + 1) is)
      → (Somewhere (λ j. j ≡ at) (instances_from g (n + 1) is) → Found g (n + 1) at is) → Found g n at (i ∷ is)
  by_cases (inl f) k = record { place = 0; is_at = let e = f.1 in omega (arith, e); is_of = ap Some (eqb-true i.generic g f.0) }
  by_cases (inr f) k = found_behind g n at i is (k f)

module _ (p : Program) where
  pub instances_listed : (g : Option ℕ) (i : ℕ) → StandsIn p g i → Somewhere (λ x. x ≡ i) (instances_of g p.instances)
  instances_listed None i h = inl (sym h)
  instances_listed (Some g) zero h = absurd h
  instances_listed (Some g) (suc i) h = instance_listed g 1 (suc i) i p.instances (omega arith) h

  instances_stand : (g : Option ℕ) (i : ℕ) → Somewhere (λ x. x ≡ i) (instances_of g p.instances) → StandsIn p g i
  instances_stand None i (inl h) = sym h
  instances_stand None i (inr h) = absurd h
  instances_stand (Some g) i h =
      let f = listed_instance g 1 i p.instances h in
      let at = f.is_at in
      let e : suc f.place ≡ i = omega (arith, at) in
      subst (StandsIn p (Some g)) e f.is_of

  abbrev bodies_at : ℕ → Subprogram → List Body
  bodies_at m s = map (λ i. record { instance = i; subprogram = m }) (instances_of s.generic p.instances)

  one_listed : (m : ℕ) (s : Subprogram) (b : Body) → m ≡ b.subprogram → StandsIn p s.generic b.instance → Somewhere (λ c. c ≡ b) (bodies_at m s)
  one_listed m s b e h =
      mapped (λ c. c ≡ b) (λ i. i ≡ b.instance) _ (instances_of s.generic p.instances)
      (λ i f j. record { instance = f j; subprogram = e j }) (instances_listed s.generic b.instance h)

  body_listed : (m k : ℕ) (ss : List Subprogram) (b : Body) (s : Subprogram) → b.subprogram ≡ m + k → slice_get ss k ≡ Some s
      → StandsIn p s.generic b.instance → Somewhere (λ c. c ≡ b) (bodies_from m ss p.instances)
  body_listed m zero [] b s e h stands = absurd (subst IsNone h tt)
  body_listed m (suc k) [] b s e h stands = absurd (subst IsNone h tt)
  body_listed m zero (t ∷ ss) b s e h stands =
      in_front _ (bodies_at m t) (bodies_from (m + 1) ss p.instances)
      (one_listed m t b (omega (arith, e)) (subst (λ u. StandsIn p u.generic b.instance) (sym (ap (λ o. unwrap_or o s) h)) stands))
  body_listed m (suc k) (t ∷ ss) b s e h stands =
      further_on _ (bodies_at m t) (bodies_from (m + 1) ss p.instances) (body_listed (m + 1) k ss b s (omega (arith, e)) h stands)

  -- a body that is listed from a number on
  record Listed (m : ℕ) (ss : List Subprogram) (b : Body) : Type 0 where
    place : ℕ
    declared : Subprogram
    is_at : b.subprogram ≡ m + place
    is_declared : slice_get ss place ≡ Some declared
    stands : StandsIn p declared.generic b.instance

  one_stands : (m : ℕ) (s : Subprogram) (b : Body) → Somewhere (λ c. c ≡ b) (bodies_at m s) → (m ≡ b.subprogram) × StandsIn p s.generic b.instance
  one_stands m s b h = (
    numbered (instances_of s.generic p.instances) h,
    instances_stand s.generic b.instance
        (unmapped (λ c. c ≡ b) (λ i. i ≡ b.instance) _ (instances_of s.generic p.instances) (λ i e. ap (λ c. c.instance) e) h),
  ) where
    numbered : (is : List ℕ) → Somewhere (λ c. c ≡ b) (map (λ i. record { instance = i; subprogram = m }) is) → m ≡ b.subprogram
    numbered [] g = absurd g
    numbered (i ∷ is) (inl g) = ap (λ c. c.subprogram) g
    numbered (i ∷ is) (inr g) = numbered is g

  listed_behind : (m : ℕ) (t : Subprogram) (ss : List Subprogram) (b : Body) → Listed (m + 1) ss b → Listed m (t ∷ ss) b
  listed_behind m t ss b l = record {
    place = suc l.place;
    declared = l.declared;
    is_at = let e = l.is_at in omega (arith, e);
    is_declared = l.is_declared;
    stands = l.stands;
  }

  listed_body : (m : ℕ) (ss : List Subprogram) (b : Body) → Somewhere (λ c. c ≡ b) (bodies_from m ss p.instances) → Listed m ss b
  listed_body m [] b h = absurd h
  listed_body m (t ∷ ss) b h = by_cases (in_either _ (bodies_at m t) (bodies_from (m + 1) ss p.instances) h) (listed_body (m + 1) ss b) where
    by_cases : Somewhere (λ c. c ≡ b) (bodies_at m t) ⊎ Somewhere (λ c. c ≡ b) (bodies_from (m + 1) ss p.instances)
        → (Somewhere (λ c. c ≡ b) (bodies_from (m + 1) ss p.instances) → Listed (m + 1) ss b) → Listed m (t ∷ ss) b
    by_cases (inl f) k =
        let one = one_stands m t b f in
        record { place = 0; declared = t; is_at = let e = one.0 in omega (arith, e); is_declared = refl; stands = one.1 }
    by_cases (inr f) k = listed_behind m t ss b (k f)

  pub bodies_law : (b : Body) → Somewhere (λ c. c ≡ b) (bodies_of p) ↔ IsBody p b
  bodies_law b = (
    (λ h.
        let l = listed_body 0 p.subprograms b h in
        let at = l.is_at in
        let e : l.place ≡ b.subprogram = omega (arith, at) in
        record {
          declared = l.declared;
          is_declared = subst (λ n. slice_get p.subprograms n ≡ Some l.declared) e l.is_declared;
          stands = l.stands;
        }),
    (λ h. body_listed 0 b.subprogram p.subprograms b h.declared (omega arith) h.is_declared h.stands),
  )
