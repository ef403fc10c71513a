-- What the final state of a walk serves, it serves in each state before.
use Rattle.std.proofs.Common.{◌≡◌, ◌+◌, ◌<◌, ℕ, zero, suc, nat_eq, Bool, true, false, if◌then◌else◌, List, [], ◌∷◌, ◌++◌, map, reverse, length, Option, Some, None, refl, sym, ◌∙◌, subst, arith, inl, inr}
use Rattle.std.specs.Prelude.{◌&&◌, ◌⊎◌}
use mathlib.Core.List.{reverse-cons}
use Rattle.std.proofs.lemmas.Bool.{eq-eqb, false≢true}
use Rattle.cov_base.specs.Lists.{Somewhere}
use Rattle.ada_meaning.specs.Bodies.{StandsIn, instances_of, instances_from}
use Rattle.ada_meaning.specs.Obligations.{inserted, in_order, ListedException, listed_in, listed_for, listed_by, listed, is_listed_before, ordered_exceptions}
use Rattle.ada_meaning.specs.Program.{GenericConstant, ExceptionDeclaration, Raisable, Instance, Program}
use Rattle.ada_meaning.specs.Resolved.{rank_of}
use Rattle.ada_meaning.specs.Shape.{Shape}
use Rattle.ada_meaning.specs.Tree.{Object}
use Rattle.ada_meaning.proofs.BodyLaws.{instances_listed}
use Rattle.ada_rules.specs.Environment.{State}
use Rattle.ada_rules.specs.Limits.{first_declared, most_words_of_type}
use Rattle.ada_rules.specs.Statics.{Facts, first_unmet}
use Rattle.legal_laws.specs.Demanded.{IsDemanded, IsLookedIn}
use Rattle.legal_laws.specs.Served.{HaveOwnValues, AreLimited, Serves, AreListed}
use Rattle.legal_laws.proofs.Demands.{are_met_behind, demanded_behind}
use Rattle.legal_programs.specs.Growing.{Extends}
use Rattle.legal_programs.specs.Looked.{IsLookedAt}
use Rattle.legal_programs.proofs.Lists.{of_shorter}
use Rattle.legal_programs.proofs.Limited.{are_limited}

module _ (facts : List Facts) (inst : ℕ) where
  own_values_behind : (o : Option ℕ) (c : GenericConstant) (cs : List GenericConstant) → HaveOwnValues facts inst o (c ∷ cs) → HaveOwnValues facts inst o cs
  own_values_behind None c cs h = tt
  own_values_behind (Some g) c cs h = h.1

  -- an earlier state
  pub serves_before : (o : Option ℕ) (s t : State) → Extends s t → Serves facts inst o t → Serves facts inst o s
  serves_before o s t more all = record {
    met = λ d h g. all.met d (subst (IsDemanded d) (sym more.demands.is) (demanded_behind d more.demands.more s.demands h)) g;
    constants = of_shorter (HaveOwnValues facts inst o) (own_values_behind o) s.constants_declared t.constants_declared more.constants all.constants;
    limits = of_shorter (AreLimited facts inst o) (λ d ds h. h.1) s.types_declared t.types_declared more.types all.limits;
  }

  pub listed_before : (p : Program) (shape_of : Object → Shape) (o : Option ℕ) (s t : State) → Extends s t
      → AreListed facts inst p shape_of o t.exceptions_declared → AreListed facts inst p shape_of o s.exceptions_declared
  listed_before p shape_of o s t more all =
      of_shorter (AreListed facts inst p shape_of o) (λ e es h. h.1) s.exceptions_declared t.exceptions_declared more.exceptions all

  -- the final one: demands are met, and types keep to their limit
  pub final_serves : (o : Option ℕ) (t : State) → first_unmet facts (reverse t.demands) ≡ None → first_declared facts most_words_of_type t.types_declared ≡ None
      → IsLookedAt facts t.demands o inst → HaveOwnValues facts inst o t.constants_declared → Serves facts inst o t
  final_serves o t met fits looked values = record {
    met = λ d h g. are_met_behind facts t.demands met d inst h (subst (λ x. IsLookedIn x inst t.demands) (sym g) looked.asked);
    constants = values;
    limits = are_limited facts o inst t.types_declared fits looked.counted;
  }

-- exceptions: what is somewhere in a list is somewhere in it in order
inserted_if : {X : Type 0} (P : X → Type 0) (b : Bool) (x y : X) (ys more : List X) → (P x ⊎ Somewhere P ys → Somewhere P more) → P x ⊎ (P y ⊎ Somewhere P ys)
    → Somewhere P (if b then y ∷ more else x ∷ y ∷ ys)
inserted_if P false x y ys more rest h = h
inserted_if P true x y ys more rest (inl h) = inr (rest (inl h))
inserted_if P true x y ys more rest (inr (inl h)) = inl h
inserted_if P true x y ys more rest (inr (inr h)) = inr (rest (inr h))

somewhere_inserted : {X : Type 0} (P : X → Type 0) (before : X → X → Bool) (x : X) (ys : List X) → P x ⊎ Somewhere P ys → Somewhere P (inserted before x ys)
somewhere_inserted P before x [] (inl h) = inl h
somewhere_inserted P before x [] (inr h) = absurd h
somewhere_inserted P before x (y ∷ ys) h = inserted_if P (before y x) x y ys (inserted before x ys) (somewhere_inserted P before x ys) h

somewhere_ordered : {X : Type 0} (P : X → Type 0) (before : X → X → Bool) (xs : List X) → Somewhere P xs → Somewhere P (in_order before xs)
somewhere_ordered P before [] h = absurd h
somewhere_ordered P before (x ∷ xs) (inl h) = somewhere_inserted P before x (in_order before xs) (inl h)
somewhere_ordered P before (x ∷ xs) (inr h) = somewhere_inserted P before x (in_order before xs) (inr (somewhere_ordered P before xs h))

somewhere_mapped : {X Y : Type 0} (P : Y → Type 0) (f : X → Y) (xs : List X) → Somewhere (λ x. P (f x)) xs → Somewhere P (map f xs)
somewhere_mapped P f [] h = absurd h
somewhere_mapped P f (x ∷ xs) (inl h) = inl h
somewhere_mapped P f (x ∷ xs) (inr h) = inr (somewhere_mapped P f xs h)

somewhere_front : {X : Type 0} (P : X → Type 0) (xs ys : List X) → Somewhere P xs → Somewhere P (xs ++ ys)
somewhere_front P [] ys h = absurd h
somewhere_front P (x ∷ xs) ys (inl h) = inl h
somewhere_front P (x ∷ xs) ys (inr h) = inr (somewhere_front P xs ys h)

somewhere_behind : {X : Type 0} (P : X → Type 0) (xs ys : List X) → Somewhere P ys → Somewhere P (xs ++ ys)
somewhere_behind P [] ys h = h
somewhere_behind P (x ∷ xs) ys h = inr (somewhere_behind P xs ys h)

-- an exception of a declaration in an instance
abbrev IsRaised : ℕ → ℕ → Raisable → Type 0
IsRaised inst d e = (e.instance ≡ inst) × (e.declaration ≡ d)

if_first : (b : Bool) (x : ListedException) (xs : List ListedException) (P : ListedException → Type 0) → b ≡ true → P x → Somewhere P (if b then x ∷ xs else xs)
if_first true x xs P h k = inl k
if_first false x xs P h k = absurd (false≢true h)

if_later : (b : Bool) (x : ListedException) (xs : List ListedException) (P : ListedException → Type 0) → Somewhere P xs → Somewhere P (if b then x ∷ xs else xs)
if_later true x xs P k = inr k
if_later false x xs P k = k

module _ (d : ExceptionDeclaration) (g inst : ℕ) where
  abbrev Raises : ListedException → Type 0
  Raises x = IsRaised inst d.declaration x.entry

  raised_if : (b : Bool) (n : ℕ) (i : Instance) (rest : List ℕ) (more : List ListedException) → (Somewhere (λ j. j ≡ inst) rest → Somewhere Raises more)
      → Somewhere (λ j. j ≡ inst) (if b then n ∷ rest else rest) → Somewhere Raises (if b then listed_in d n i ∷ more else more)
  raised_if true n i rest more later (inl h) = inl (h, refl)
  raised_if true n i rest more later (inr h) = inr (later h)
  raised_if false n i rest more later h = later h

  raised_for : (n : ℕ) (is : List Instance) → Somewhere (λ j. j ≡ inst) (instances_from g n is) → Somewhere Raises (listed_for d g n is)
  raised_for n [] h = absurd h
  raised_for n (i ∷ is) h =
      let next : n + 1 ≡ suc n = omega (arith) in
      raised_if (nat_eq i.generic g) n i (instances_from g (n + 1) is) (listed_for d g (suc n) is)
      (λ k. raised_for (suc n) is (subst (λ m. Somewhere (λ j. j ≡ inst) (instances_from g m is)) next k)) h

raised_by : (d : ExceptionDeclaration) (o : Option ℕ) (inst : ℕ) (is : List Instance) → Somewhere (λ j. j ≡ inst) (instances_of o is)
    → Somewhere (λ x. IsRaised inst d.declaration x.entry) (listed_by o d is)
raised_by d None inst is (inl h) = inl (h, refl)
raised_by d None inst is (inr h) = absurd h
raised_by d (Some g) inst is h = raised_for d g inst 1 is h

raised_in : (e : ExceptionDeclaration) (inst : ℕ) (is : List Instance) (ds : List ExceptionDeclaration) → Somewhere (λ j. j ≡ inst) (instances_of e.generic is)
    → Somewhere (λ d. d ≡ e) ds → Somewhere (λ x. IsRaised inst e.declaration x.entry) (listed ds is)
raised_in e inst is [] h there = absurd there
raised_in e inst is (d ∷ ds) h (inl same) =
    somewhere_front (λ x. IsRaised inst e.declaration x.entry) (listed_by d.generic d is) (listed ds is)
    (subst (λ c. Somewhere (λ x. IsRaised inst e.declaration x.entry) (listed_by c.generic c is)) (sym same) (raised_by e e.generic inst is h))
raised_in e inst is (d ∷ ds) h (inr later) =
    somewhere_behind (λ x. IsRaised inst e.declaration x.entry) (listed_by d.generic d is) (listed ds is) (raised_in e inst is ds h later)

-- the rank of an exception that is there is that of one
rank_if : (b : Bool) (n k : ℕ) → (b ≡ false → n < k) → (if b then zero else suc n) < suc k
rank_if true n k h = omega (arith)
rank_if false n k h = let less = h refl in omega (arith, less)

both_equal : (a b c d : ℕ) → a ≡ b → c ≡ d → (nat_eq a b && nat_eq c d) ≡ false → ⊥
both_equal a b c d e f h = false≢true (sym h ∙ (λ i. eq-eqb a b e i && eq-eqb c d f i))

rank_there : (inst d : ℕ) (es : List Raisable) → Somewhere (IsRaised inst d) es → rank_of inst d es < length es
rank_there inst d [] h = absurd h
rank_there inst d (e ∷ es) (inl h) =
    rank_if (nat_eq e.instance inst && nat_eq e.declaration d) (rank_of inst d es) (length es)
    (λ f. absurd (both_equal e.instance inst e.declaration d h.0 h.1 f))
rank_there inst d (e ∷ es) (inr h) =
    rank_if (nat_eq e.instance inst && nat_eq e.declaration d) (rank_of inst d es) (length es) (λ f. rank_there inst d es h)

-- the exceptions of a program are listed in each instance in which they stand
module _ (facts : List Facts) (p : Program) (shape_of : Object → Shape) (lists : p.exceptions ≡ map (λ x. x.entry) (ordered_exceptions p)) where
  one_listed : (e : ExceptionDeclaration) (inst : ℕ) → Somewhere (λ d. d ≡ e) p.declared → StandsIn p e.generic inst
      → rank_of inst e.declaration p.exceptions < length p.exceptions
  one_listed e inst there stands =
      subst (λ es. rank_of inst e.declaration es < length es) (sym lists)
      (rank_there inst e.declaration (map (λ x. x.entry) (ordered_exceptions p))
      (somewhere_mapped (IsRaised inst e.declaration) (λ x. x.entry) (ordered_exceptions p)
      (somewhere_ordered (λ x. IsRaised inst e.declaration x.entry) is_listed_before (listed p.declared p.instances)
      (raised_in e inst p.instances p.declared (instances_listed p e.generic inst stands) there))))

  pub are_listed : (o : Option ℕ) (inst : ℕ) → StandsIn p o inst → (ds : List ExceptionDeclaration)
      → ((e : ExceptionDeclaration) → Somewhere (λ d. d ≡ e) ds → Somewhere (λ d. d ≡ e) p.declared) → AreListed facts inst p shape_of o ds
  are_listed o inst stands [] among = tt
  are_listed o inst stands (e ∷ es) among = (
    λ same. one_listed e inst (among e (inl refl)) (subst (λ g. StandsIn p g inst) (sym same) stands),
    are_listed o inst stands es (λ f h. among f (inr h)),
  )

pub somewhere_reversed : {X : Type 0} (P : X → Type 0) (xs : List X) → Somewhere P xs → Somewhere P (reverse xs)
somewhere_reversed P [] h = absurd h
somewhere_reversed P (x ∷ xs) (inl h) =
    subst (Somewhere P) (sym (reverse-cons x xs)) (somewhere_behind P (reverse xs) (x ∷ []) (inl h))
somewhere_reversed P (x ∷ xs) (inr h) =
    subst (Somewhere P) (sym (reverse-cons x xs)) (somewhere_front P (reverse xs) (x ∷ []) (somewhere_reversed P xs h))
