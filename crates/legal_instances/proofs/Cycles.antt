-- Among units of which each names one of them there is one that leads back to itself.
use Rattle.std.proofs.Common.{◌≡◌, ◌≤◌, ◌<◌, ℕ, zero, suc, nat_eq, Bool, true, false, if◌then◌else◌, List, [], ◌∷◌, length, refl, sym, ap, ◌∙◌, subst, arith, inl, inr}
use Rattle.std.specs.Prelude.{◌⊎◌, ◌||◌}
use Rattle.std.proofs.lemmas.Bool.{eqb-true, eq-eqb, false≢true}
use Rattle.cov_base.specs.Lists.{Somewhere, Everywhere}
use Rattle.ada_rules.specs.Library.{is_among, edges, joined, next_ones, reached}

-- one of a list
abbrev pub In : List ℕ → ℕ → Type 0
In xs n = Somewhere (λ x. x ≡ n) xs

pub there_among : (xs : List ℕ) (n : ℕ) → In xs n → is_among xs n ≡ true
there_among [] n h = absurd h
there_among (x ∷ xs) n (inl e) = ap (λ b. b || is_among xs n) (eq-eqb n x (sym e))
there_among (x ∷ xs) n (inr h) = either_way (nat_eq n x) (is_among xs n) (there_among xs n h)
  where
    either_way : (a b : Bool) → b ≡ true → (a || b) ≡ true
    either_way true b k = refl
    either_way false b k = k

pub among_there : (xs : List ℕ) (n : ℕ) → is_among xs n ≡ true → In xs n
among_there [] n h = absurd (false≢true h)
among_there (x ∷ xs) n h = by_first (nat_eq n x) refl h (among_there xs n)
  where
    by_first : (b : Bool) → nat_eq n x ≡ b → (b || is_among xs n) ≡ true → (is_among xs n ≡ true → In xs n) → In (x ∷ xs) n
    by_first true e k rest = inl (sym (eqb-true n x e))
    by_first false e k rest = inr (rest k)

-- what stays among those that are reached
joined_keeps : (ns ms : List ℕ) (a : ℕ) → In ms a → In (joined ns ms) a
joined_keeps [] ms a h = h
joined_keeps (n ∷ ns) ms a h = by_test (is_among ms n) (joined_keeps ns ms a h) (joined_keeps ns (n ∷ ms) a (inr h))
  where
    by_test : (b : Bool) → In (joined ns ms) a → In (joined ns (n ∷ ms)) a → In (if b then joined ns ms else joined ns (n ∷ ms)) a
    by_test true k l = k
    by_test false k l = l

joined_takes : (ns ms : List ℕ) (a : ℕ) → In ns a → In (joined ns ms) a
joined_takes [] ms a h = absurd h
joined_takes (n ∷ ns) ms a h = by_test (is_among ms n) refl h (λ k. joined_takes ns ms a k) (λ k. joined_takes ns (n ∷ ms) a k)
  where
    by_test : (b : Bool) → is_among ms n ≡ b → (n ≡ a) ⊎ In ns a → (In ns a → In (joined ns ms) a) → (In ns a → In (joined ns (n ∷ ms)) a)
        → In (if b then joined ns ms else joined ns (n ∷ ms)) a
    by_test true e (inl f) k l = joined_keeps ns ms a (subst (In ms) f (among_there ms n e))
    by_test true e (inr g) k l = k g
    by_test false e (inl f) k l = joined_keeps ns (n ∷ ms) a (inl f)
    by_test false e (inr g) k l = l g

module _ (graph : List (List ℕ)) where
  next_there : (ns : List ℕ) (x a : ℕ) → In ns x → In (edges graph x) a → In (next_ones graph ns) a
  next_there [] x a h k = absurd h
  next_there (n ∷ ns) x a (inl e) k = joined_takes (edges graph n) (next_ones graph ns) a (subst (λ m. In (edges graph m) a) (sym e) k)
  next_there (n ∷ ns) x a (inr h) k = joined_keeps (edges graph n) (next_ones graph ns) a (next_there ns x a h k)

  reached_keeps : (fuel : ℕ) (ns : List ℕ) (a : ℕ) → In ns a → In (reached graph fuel ns) a
  reached_keeps zero ns a h = h
  reached_keeps (suc fuel) ns a h =
      reached_keeps fuel (joined (next_ones graph ns) ns) a (joined_keeps (next_ones graph ns) ns a h)

  -- a path, from each to the next
  abbrev StepsTo : ℕ → List ℕ → Type 0
  StepsTo x [] = Unit {0}
  StepsTo x (y ∷ ys) = In (edges graph x) y

  abbrev IsPath : List ℕ → Type 0
  IsPath [] = Unit {0}
  IsPath (x ∷ xs) = StepsTo x xs × IsPath xs

  on_path : (y : ℕ) (ys : List ℕ) (a : ℕ) (fuel : ℕ) (ns : List ℕ) → IsPath (y ∷ ys) → In (y ∷ ys) a → length ys ≤ fuel → In ns y
      → In (reached graph fuel ns) a
  on_path y ys a fuel ns path (inl e) short h = reached_keeps fuel ns a (subst (In ns) e h)
  on_path y [] a fuel ns path (inr k) short h = absurd k
  on_path y (z ∷ zs) a zero ns path (inr k) short h = absurd (some short)
    where
      some : length (z ∷ zs) ≤ 0 → ⊥
      some l = omega (arith, l)
  on_path y (z ∷ zs) a (suc fuel) ns path (inr k) short h =
      on_path z zs a fuel (joined (next_ones graph ns) ns) path.1 k (omega (arith, short))
      (joined_takes (next_ones graph ns) ns z (next_there ns y z h path.0))

  -- one that comes twice
  abbrev ComesTwice : List ℕ → Type 0
  ComesTwice [] = ⊥
  ComesTwice (x ∷ xs) = In xs x ⊎ ComesTwice xs

  -- a unit that leads back to itself
  pub record LeadsBack (left : List ℕ) (fuel : ℕ) : Type 0 where
    pub from : ℕ
    pub to : ℕ
    pub there : In left from
    pub step : In (edges graph from) to
    pub back : is_among (reached graph fuel (to ∷ [])) from ≡ true

  turns_back : (left : List ℕ) (fuel : ℕ) (xs : List ℕ) → IsPath xs → Everywhere (In left) xs → length xs ≤ suc fuel → ComesTwice xs → LeadsBack left fuel
  turns_back left fuel [] path all short twice = absurd twice
  turns_back left fuel (x ∷ []) path all short (inl k) = absurd k
  turns_back left fuel (x ∷ (y ∷ ys)) path all short (inl k) = record {
    from = x;
    to = y;
    there = all.0;
    step = path.0;
    back = there_among (reached graph fuel (y ∷ [])) x (on_path y ys x fuel (y ∷ []) path.1 k (omega (arith, short)) (inl refl));
  }
  turns_back left fuel (x ∷ xs) path all short (inr k) = turns_back left fuel xs path.1 all.1 (omega (arith, short)) k

-- more items of a list than it has come twice
abbrev without : ℕ → List ℕ → List ℕ
without n [] = []
without n (x ∷ xs) = if nat_eq x n then xs else x ∷ without n xs

fewer : (n : ℕ) (xs : List ℕ) → In xs n → length xs ≡ suc (length (without n xs))
fewer n [] h = absurd h
fewer n (x ∷ xs) h = by_first (nat_eq x n) refl h (fewer n xs)
  where
    by_first : (b : Bool) → nat_eq x n ≡ b → (x ≡ n) ⊎ In xs n → (In xs n → length xs ≡ suc (length (without n xs)))
        → suc (length xs) ≡ suc (length (if b then xs else x ∷ without n xs))
    by_first true e k rest = refl
    by_first false e (inl f) rest = absurd (false≢true (sym e ∙ eq-eqb x n f))
    by_first false e (inr k) rest = ap suc (rest k)

still_there : (n m : ℕ) (xs : List ℕ) → (m ≡ n → ⊥) → In xs m → In (without n xs) m
still_there n m [] other h = absurd h
still_there n m (x ∷ xs) other h = by_first (nat_eq x n) refl h (still_there n m xs other)
  where
    by_first : (b : Bool) → nat_eq x n ≡ b → (x ≡ m) ⊎ In xs m → (In xs m → In (without n xs) m) → In (if b then xs else x ∷ without n xs) m
    by_first true e (inl f) rest = absurd (other (sym f ∙ eqb-true x n e))
    by_first true e (inr k) rest = k
    by_first false e (inl f) rest = inl f
    by_first false e (inr k) rest = inr (rest k)

all_still_there : (n : ℕ) (left xs : List ℕ) → (In xs n → ⊥) → Everywhere (In left) xs → Everywhere (In (without n left)) xs
all_still_there n left [] none h = tt
all_still_there n left (x ∷ xs) none h =
    (still_there n x left (λ e. none (inl e)) h.0, all_still_there n left xs (λ k. none (inr k)) h.1)

pub twice : (graph : List (List ℕ)) (xs left : List ℕ) → Everywhere (In left) xs → length left < length xs → ComesTwice graph xs
twice graph [] left all more = absurd (none more)
  where
    none : length left < 0 → ⊥
    none k = omega (arith, k)
twice graph (x ∷ xs) left all more = by_test (is_among xs x) refl (twice graph xs (without x left))
  where
    by_test : (b : Bool) → is_among xs x ≡ b → (Everywhere (In (without x left)) xs → length (without x left) < length xs → ComesTwice graph xs)
        → ComesTwice graph (x ∷ xs)
    by_test true e rest = inl (among_there xs x e)
    by_test false e rest =
        let count = fewer x left all.0 in
        inr (rest (all_still_there x left xs (λ k. false≢true (sym e ∙ there_among xs x k)) all.1) (omega (arith, count, more)))

-- units that are left, each of which names one that is left
module _ (graph : List (List ℕ)) (left : List ℕ) where
  pub record Step (n : ℕ) : Type 0 where
    pub to : ℕ
    pub step : In (edges graph n) to
    pub there : In left to

  record Path (count n : ℕ) : Type 0 where
    more : List ℕ
    long : length more ≡ count
    path : IsPath graph (n ∷ more)
    all : Everywhere (In left) (n ∷ more)

  path_from : (steps : (n : ℕ) → In left n → Step n) (count n : ℕ) → In left n → Path count n
  path_from steps zero n h = record { more = []; long = refl; path = (tt, tt); all = (h, tt) }
  path_from steps (suc count) n h =
      let s = steps n h in
      let rest = path_from steps count s.to s.there in
      record { more = s.to ∷ rest.more; long = ap suc rest.long; path = (s.step, rest.path); all = (h, rest.all) }

  pub leads_back_there : ((n : ℕ) → In left n → Step n) → (n : ℕ) → In left n → (fuel : ℕ) → length left ≤ fuel → LeadsBack graph left fuel
  leads_back_there steps n h fuel short =
      let p = path_from steps (length left) n h in
      let long = p.long in
      turns_back graph left fuel (n ∷ p.more) p.path p.all (omega (arith, long, short))
      (twice graph (n ∷ p.more) left p.all (omega (arith, long)))
