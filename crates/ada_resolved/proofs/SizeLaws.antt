-- Sizes are those of the shapes that executions take, and within the limit.
use Rattle.std.proofs.Common.{◌≡◌, ℕ, ◌+◌, ◌*◌, ◌≤◌, Bool, true, false, Option, Some, None, IfSome, option_map, option_and_then, if◌then◌else◌, refl, ap, ◌∙◌, arith}
use Rattle.std.specs.Prelude.{nat_le}
use Rattle.std.proofs.lemmas.Bool.Decides.{nat_tests}
use Rattle.ada_meaning.specs.Arithmetic.{count_between}
use Rattle.ada_meaning.specs.Program.{Bounds, Program}
use Rattle.ada_meaning.specs.Resolved.{bounds_in, shape_in, shapes_in}
use Rattle.ada_meaning.specs.Statics.{InstanceValues, static_bounds, values_of}
use Rattle.ada_meaning.specs.Types.{Range, Subtype, scalar, array, fields, subtype_of, Components, no_component, and_component}
use Rattle.ada_meaning.proofs.StaticValues.{bounds_exact}
use Rattle.ada_resolved.specs.Sizes.{word_limit, limited, words, all_words, type_size, components_size}

if_then : {X Y : Type 0} (P : X → Type 0) (Q : Y → Type 0) (f : X → Option Y) (o : Option X) → IfSome o P → ((x : X) → P x → IfSome (f x) Q) → IfSome (option_and_then f o) Q
if_then P Q f None h k = tt
if_then P Q f (Some x) h k = k x h

if_map : {X Y : Type 0} (P : X → Type 0) (Q : Y → Type 0) (f : X → Y) (o : Option X) → IfSome o P → ((x : X) → P x → Q (f x)) → IfSome (option_map f o) Q
if_map P Q f None h k = tt
if_map P Q f (Some x) h k = k x h

abbrev when : Bool → ℕ → Option ℕ
when b n = if b then Some n else None

limited_of : (m n : ℕ) → m ≡ n → IfSome (limited n) (λ k. m ≡ k)
limited_of m n h = by_test (nat_le n word_limit)
  where
    by_test : (b : Bool) → IfSome (when b n) (λ k. m ≡ k)
    by_test true = h
    by_test false = tt

module _ (p : Program) where
  abbrev Is : ℕ → Subtype → ℕ → Type 0
  Is inst t n = words (shape_in p inst t) ≡ n

  abbrev Are : ℕ → Components → ℕ → Type 0
  Are inst cs n = all_words (shapes_in p inst cs) ≡ n

  mutual
    pub size_exact : (inst : ℕ) (t : Subtype) → IfSome (type_size (values_of p) inst t) (Is inst t)
    size_exact inst (scalar r) =
        if_map (λ b. bounds_in p inst r ≡ b) (Is inst (scalar r)) (λ b. 1) (static_bounds (values_of p) inst r) (bounds_exact p inst r) (λ b h. refl)
    size_exact inst (array r t) =
        if_then (Is inst t) (Is inst (array r t)) _ _ (size_exact inst t)
        (λ n h. if_then (λ b. bounds_in p inst r ≡ b) (Is inst (array r t)) _ _ (bounds_exact p inst r)
        (λ b k. limited_of _ _ (ap (λ c. count_between c.low c.high * words (shape_in p inst t)) k ∙ ap (λ m. count_between b.low b.high * m) h)))
    size_exact inst (fields cs) = sizes_exact inst cs
    size_exact inst (subtype_of i t) = size_exact i t

    sizes_exact : (inst : ℕ) (cs : Components) → IfSome (components_size (values_of p) inst cs) (Are inst cs)
    sizes_exact inst no_component = refl
    sizes_exact inst (and_component t cs) =
        if_then (Is inst t) (Are inst (and_component t cs)) _ _ (size_exact inst t)
        (λ n h. if_then (Are inst cs) (Are inst (and_component t cs)) _ _ (sizes_exact inst cs)
        (λ m k. limited_of _ _ (ap (λ x. x + all_words (shapes_in p inst cs)) h ∙ ap (λ x. n + x) k)))

limited_small : (n : ℕ) → IfSome (limited n) (λ k. k ≤ word_limit)
limited_small n = by_test (nat_le n word_limit) refl
  where
    by_test : (b : Bool) → nat_le n word_limit ≡ b → IfSome (when b n) (λ k. k ≤ word_limit)
    by_test true e = grind (arith, nat_tests)
    by_test false e = tt

module _ (v : InstanceValues) where
  abbrev Small : ℕ → Type 0
  Small n = n ≤ word_limit

  one_small : (inst : ℕ) (r : Range) → IfSome (option_map (λ b. 1) (static_bounds v inst r)) Small
  one_small inst r = by_case (static_bounds v inst r)
    where
      by_case : (o : Option Bounds) → IfSome (option_map (λ b. 1) o) Small
      by_case None = tt
      by_case (Some b) = omega arith

  anything : {X : Type 0} (o : Option X) → IfSome o (λ x. Unit {0})
  anything None = tt
  anything (Some x) = tt

  pub components_small : (inst : ℕ) (cs : Components) → IfSome (components_size v inst cs) Small
  components_small inst no_component = omega arith
  components_small inst (and_component t cs) =
      if_then (λ n. Unit {0}) Small _ _ (anything (type_size v inst t))
      (λ n h. if_then (λ m. Unit {0}) Small _ _ (anything (components_size v inst cs)) (λ m k. limited_small (n + m)))

  pub size_small : (inst : ℕ) (t : Subtype) → IfSome (type_size v inst t) Small
  size_small inst (scalar r) = one_small inst r
  size_small inst (array r t) =
      if_then (λ n. Unit {0}) Small _ _ (anything (type_size v inst t))
      (λ n h. if_then (λ b. Unit {0}) Small _ _ (anything (static_bounds v inst r)) (λ b k. limited_small (count_between b.low b.high * n)))
  size_small inst (fields cs) = components_small inst cs
  size_small inst (subtype_of i t) = size_small i t
