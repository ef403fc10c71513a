-- Objects of a frame have slots of their own, and parameters stand where calls leave them.
use Rattle.std.proofs.Common.{◌≡◌, ◌≢◌, ℕ, zero, suc, ◌+◌, ◌-◌, ◌^◌, ◌<◌, ◌≤◌, ◌⊎◌, inl, inr, nat_eq, nat_lt, Bool, true, false, ◌&&◌, cond, List, [], ◌∷◌, length, map, Option, Some, None, slice_get, refl, sym, ap, ◌∙◌, subst, arith}
use Rattle.std.proofs.lemmas.Bool.{ltb-true, ltb-false, lt-ltb}
use Rattle.std.proofs.lemmas.Bool.Decides.{eqb_tells}
use Rattle.std.specs.Prelude.{unwrap_or}
use Rattle.cov_base.specs.Lists.{Everywhere}
use Rattle.ada_meaning.specs.Obligations.{numbers}
use Rattle.ada_meaning.specs.Tree as tree
use Rattle.ada_tree.specs.declared.program.Program.{Program}
use Rattle.ada_tree.specs.declared.types.Subtype.{Subtype}
use Rattle.ada_tree.specs.Objects.{capped}
use Rattle.ada_resolved.specs.Forms.{named_type, shape_of}
use Rattle.ada_resolved.specs.Sizes.{words}
use Rattle.statement_code.specs.Programs.{Plan, slot_in_plan, size_in_plan, IsLaid, AreBeside, AreLaid}
use Rattle.statement_code.specs.Statements.{IsInFrame}
use Rattle.storage_layout.specs.declared.frames.LocalObject.{LocalObject}
use Rattle.storage_layout.specs.Frames.{is_scalar, slots_with, object_at, base_at, placed, base_behind}

differs : {d e : ℕ} → d < e → nat_eq d e ≡ false
differs {d} {e} less = unequal (eqb_tells d e)
  where
    unequal : ((nat_eq d e ≡ true) × (d ≡ e)) ⊎ ((nat_eq d e ≡ false) × (d ≢ e)) → nat_eq d e ≡ false
    unequal (inl is) = absurd (omega (arith, is.1, less))
    unequal (inr not) = not.0

abbrev pub IsNone : {X : Type 0} → Option X → Type 0
IsNone None = Unit {0}
IsNone (Some x) = ⊥

pub true_is_no_false : {A : Type 0} → true ≡ false → A
true_is_no_false e = absurd (subst (λ b. cond b (Unit {0}) ⊥) e tt)

module _ (p : Program) (inst : ℕ) where
  abbrev pub size : Subtype → ℕ
  size t = words (shape_of p (named_type p inst t))

  -- an object stands in the slot of its number, as a scalar parameter; or behind others, which have the slots below a base
  pub data Placed (count number base : ℕ) (o : LocalObject) (behind : ℕ) : Type 0 where
    as_parameter : number < count → is_scalar o.subtype ≡ true → o.slot ≡ number → size o.subtype ≡ 1 → behind ≡ base → Placed count number base o behind
    as_stacked : base + size o.subtype ≡ o.slot + 1 → behind ≡ o.slot + 1 → (number < count → is_scalar o.subtype ≡ false) → Placed count number base o behind

  -- what is behind an object is no higher than its words ask for
  no_higher : {count number base behind : ℕ} {o : LocalObject} → Placed count number base o behind → behind ≤ base + size o.subtype
  no_higher (as_parameter less is at one same) = omega (arith, same)
  no_higher (as_stacked at same not) = omega (arith, at, same)

  -- objects from a number on, and the first slot behind them
  pub data AllPlaced (count : ℕ) : (number base : ℕ) → List LocalObject → (final : ℕ) → Type 0 where
    no_object : {number base : ℕ} → AllPlaced count number base [] base
    and_object : {number base behind final : ℕ} {o : LocalObject} {os : List LocalObject}
        → Placed count number base o behind → AllPlaced count (suc number) behind os final → AllPlaced count number base (o ∷ os) final

  -- what is behind an object is no lower than its base
  no_lower : {count number base behind : ℕ} {o : LocalObject} → 1 ≤ size o.subtype → Placed count number base o behind → base ≤ behind
  no_lower some (as_parameter less is at one same) = omega (arith, same)
  no_lower some (as_stacked at same not) = omega (arith, at, same, some)

  abbrev pub AreSome : List LocalObject → Type 0
  AreSome os = Everywhere (λ o. 1 ≤ size o.subtype) os

  pub final_is : {count number base final : ℕ} (os : List LocalObject) → AreSome os → AllPlaced count number base os final → base ≤ final
  final_is [] some no_object = omega arith
  final_is (o ∷ os) some (and_object one rest) = omega (arith, no_lower some.0 one, final_is os some.1 rest)

  abbrev pub total : List Subtype → ℕ
  total [] = 0
  total (t ∷ ts) = size t + total ts

  pub final_high : {count number base final : ℕ} (os : List LocalObject) → AllPlaced count number base os final → final ≤ base + total (map (λ o. o.subtype) os)
  final_high [] no_object = omega arith
  final_high (o ∷ os) (and_object one rest) = omega (arith, no_higher one, final_high os rest)

  -- a parameter stands in the slot of its number, if it is scalar; or behind the slots of all parameters
  abbrev pub StandsAt : (count number : ℕ) → LocalObject → Type 0
  StandsAt count number o = ((is_scalar o.subtype ≡ true) × (o.slot ≡ number)) ⊎ ((is_scalar o.subtype ≡ false) × (count + size o.subtype ≤ o.slot + 1))

  parameter_stands : {count number base behind : ℕ} {o : LocalObject} → number < count → count ≤ base → Placed count number base o behind → StandsAt count number o
  parameter_stands less le (as_parameter few is slot one same) = inl (is, slot)
  parameter_stands less le (as_stacked slot same not) = inr (not less, omega (arith, slot, le))

  pub parameters_stand : (count number base final j : ℕ) (os : List LocalObject) (o : LocalObject) → AreSome os → AllPlaced count number base os final → slice_get os j ≡ Some o
      → number + j < count → count ≤ base → StandsAt count (number + j) o
  parameters_stand count number base final j [] o some no_object at less le = absurd (subst (λ (x : Option LocalObject). IsNone x) at tt)
  parameters_stand count number base final zero (x ∷ os) o some (and_object one rest) at less le =
      let same : number ≡ number + 0 = omega arith in
      subst (StandsAt count (number + 0)) (ap (λ (y : Option LocalObject). unwrap_or y x) at) (subst (λ (k : ℕ). StandsAt count k x) same (parameter_stands (omega (arith, less)) le one))
  parameters_stand count number base final (suc j) (x ∷ os) o some (and_object {behind = behind} one rest) at less le =
      let same : suc number + j ≡ number + suc j = omega arith in
      subst (λ (k : ℕ). StandsAt count k o) same (parameters_stand count (suc number) behind final j os o some.1 rest at (omega (arith, less)) (omega (arith, le, no_lower some.0 one)))

  -- the objects are placed so, where the count of slots does not stand still
  is_placed : (count number base : ℕ) (t : Subtype) → base + size t < 2 ^ 32 → number < 2 ^ 32 → 1 ≤ size t → (is_scalar t ≡ true → size t ≡ 1)
      → Placed count number base (object_at p inst count number base t) (base_at p inst count number base t)
  is_placed count number base t low few some one = by_scalar (is_scalar t) refl (nat_lt number count) refl
    where
      by_scalar : (b : Bool) → is_scalar t ≡ b → (l : Bool) → nat_lt number count ≡ l
          → Placed count number base (cond (l && b) (record { subtype = t; slot = capped number }) (record { subtype = t; slot = slots_with p inst base t - 1 })) (cond (l && b) base (slots_with p inst base t))
      by_scalar true is true less = as_parameter (ltb-true number count less) is (omega (arith, few)) (one is) refl
      by_scalar false is true less = as_stacked (omega (arith, low, some)) (omega (arith, low, some)) (λ few. is)
      by_scalar b is false more = as_stacked (omega (arith, low, some)) (omega (arith, low, some)) (λ few. true_is_no_false (sym (lt-ltb number count few) ∙ more))

  pub subtype_is : (count number base : ℕ) (t : Subtype) → (object_at p inst count number base t).subtype ≡ t
  subtype_is count number base t = either (nat_lt number count && is_scalar t)
    where
      either : (b : Bool) → (cond {A = LocalObject} b (record { subtype = t; slot = capped number }) (record { subtype = t; slot = slots_with p inst base t - 1 })).subtype ≡ t
      either true = refl
      either false = refl

  pub all_placed : (count number base : ℕ) (ts : List Subtype) → base + total ts < 2 ^ 32 → number + length ts < 2 ^ 32
      → Everywhere (λ t. 1 ≤ size t) ts → Everywhere (λ t. is_scalar t ≡ true → size t ≡ 1) ts
      → AllPlaced count number base (placed p inst count number base ts) (base_behind p inst count number base ts)
  all_placed count number base [] low few some one = no_object
  all_placed count number base (t ∷ ts) low few some one =
      let here = is_placed count number base t (omega (arith, low)) (omega (arith, few)) some.0 one.0 in
      let base_rest = base_at p inst count number base t in
      let low_rest : base_rest + total ts < 2 ^ 32 = omega (arith, low, no_higher here, ap size (subtype_is count number base t)) in
      let next : number + 1 ≡ suc number = omega arith in
      and_object here (subst (λ (k : ℕ). AllPlaced count k base_rest (placed p inst count (number + 1) base_rest ts) (base_behind p inst count (number + 1) base_rest ts)) next
      (all_placed count (number + 1) base_rest ts low_rest (omega (arith, few)) some.1 one.1))

module _ (p : Program) (inst : ℕ) (plan : Plan) where
  -- a plan has an object's slot and size under a number, in its frame
  pub record IsPlanned (d : ℕ) (o : LocalObject) : Type 0 where
    pub framed : IsInFrame (plan.home_of (tree.local_object d))
    pub slot : slot_in_plan plan d ≡ o.slot
    pub size : size_in_plan plan d ≡ size p inst o.subtype

  abbrev pub ArePlanned : (d : ℕ) → List LocalObject → Type 0
  ArePlanned d [] = Unit {0}
  ArePlanned d (o ∷ os) = IsPlanned d o × ArePlanned (suc d) os

  -- objects behind a scalar parameter with this number, and behind the slots below a base, have slots of their own
  beside : (count number base behind d : ℕ) (o : LocalObject) → count ≤ base → d < number → 1 ≤ size p inst o.subtype → IsPlanned number o → Placed p inst count number base o behind
      → (size_in_plan plan d ≡ 1 × (slot_in_plan plan d ≡ d × d < count)) ⊎ ((slot_in_plan plan d + 1 ≤ base) × (count + size_in_plan plan d ≤ slot_in_plan plan d + 1))
      → AreBeside plan d number
  beside count number base behind d o le less some here (as_parameter few is at one same) (inl is_one) =
      (differs less, inl (omega (arith, here.slot, here.size, at, one, is_one.0, is_one.1.0, less)))
  beside count number base behind d o le less some here (as_stacked at same not) (inl is_one) =
      (differs less, inl (omega (arith, le, here.slot, here.size, at, is_one.0, is_one.1.0, is_one.1.1, less)))
  beside count number base behind d o le less some here (as_parameter few is at one same) (inr low) =
      (differs less, inr (omega (arith, here.slot, here.size, at, one, few, low.0, low.1)))
  beside count number base behind d o le less some here (as_stacked at same not) (inr low) =
      (differs less, inl (omega (arith, here.slot, here.size, at, low.0)))

  -- an object that stands in the slot of its number below so many, or one that stands below a base and leaves so many slots
  abbrev IsBelow : (count base d : ℕ) → Type 0
  IsBelow count base d =
      (size_in_plan plan d ≡ 1 × (slot_in_plan plan d ≡ d × d < count)) ⊎ ((slot_in_plan plan d + 1 ≤ base) × (count + size_in_plan plan d ≤ slot_in_plan plan d + 1))

  more : (count base behind d : ℕ) → base ≤ behind → IsBelow count base d → IsBelow count behind d
  more count base behind d le (inl is) = inl is
  more count base behind d le (inr low) = inr (omega (arith, le, low.0), low.1)

  below : {count number base behind : ℕ} {o : LocalObject} → count ≤ base → IsPlanned number o → Placed p inst count number base o behind → IsBelow count behind number
  below le here (as_parameter few is at one same) = inl (here.size ∙ one, (here.slot ∙ at, few))
  below le here (as_stacked at same not) = inr (omega (arith, here.slot, same), omega (arith, here.slot, here.size, at, le))

  all_beside : (count number base final d : ℕ) (os : List LocalObject) → count ≤ base → d < number → AreSome p inst os → ArePlanned number os
      → AllPlaced p inst count number base os final → IsBelow count base d → Everywhere (AreBeside plan d) (numbers number (length os))
  all_beside count number base final d [] le less some here no_object low = tt
  all_beside count number base final d (o ∷ os) le less some here (and_object {behind = behind} one rest) low =
      let up = no_lower p inst some.0 one in (
        beside count number base behind d o le less some.0 here.0 one low,
        all_beside count (suc number) behind final d os (omega (arith, le, up)) (omega (arith, less)) some.1 here.1 rest (more count base behind d up low),
      )

  pub frame_law : (count number base final : ℕ) (os : List LocalObject) → count ≤ base → final ≤ plan.base → AreSome p inst os → ArePlanned number os
      → AllPlaced p inst count number base os final → AreLaid plan (numbers number (length os))
  frame_law count number base final [] le most some here no_object = tt
  frame_law count number base final (o ∷ os) le most some here (and_object {behind = behind} one rest) =
      let up = no_lower p inst some.0 one in
      let end = final_is p inst os some.1 rest in (
        is_laid up end one,
        (
          all_beside count (suc number) behind final number os (omega (arith, le, up)) (omega arith) some.1 here.1 rest (below le here.0 one),
          frame_law count (suc number) behind final os (omega (arith, le, up)) most some.1 here.1 rest,
        ),
      )
    where
      is_laid : {behind : ℕ} → base ≤ behind → behind ≤ final → Placed p inst count number base o behind → IsLaid plan number
      is_laid up end (as_parameter few is at one same) =
          record { framed = here.0.framed; fits = omega (arith, here.0.slot, here.0.size, at, one); low = omega (arith, here.0.slot, at, few, le, most, up, end) }
      is_laid up end (as_stacked at same not) =
          record { framed = here.0.framed; fits = omega (arith, here.0.slot, here.0.size, at); low = omega (arith, here.0.slot, at, same, most, end) }

  -- the object with this number is not scalar
  abbrev pub IsCompositeAt : (i number : ℕ) → List LocalObject → Type 0
  IsCompositeAt i number [] = Unit {0}
  IsCompositeAt i number (o ∷ os) = (number ≡ i → is_scalar o.subtype ≡ false) × IsCompositeAt i (suc number) os

  past : (i number : ℕ) (os : List LocalObject) → i < number → IsCompositeAt i number os
  past i number [] less = tt
  past i number (o ∷ os) less = ((λ e. absurd (omega (arith, e, less))), past i (suc number) os (omega (arith, less)))

  pub composite_at : (i number j : ℕ) (os : List LocalObject) (o : LocalObject) → i ≡ number + j → slice_get os j ≡ Some o → is_scalar o.subtype ≡ false → IsCompositeAt i number os
  composite_at i number j [] o at found not = tt
  composite_at i number zero (x ∷ os) o at found not = ((λ e. ap (λ (y : LocalObject). is_scalar y.subtype) (ap (λ (y : Option LocalObject). unwrap_or y o) found) ∙ not), past i (suc number) os (omega (arith, at)))
  composite_at i number (suc j) (x ∷ os) o at found not = ((λ e. absurd (omega (arith, e, at))), composite_at i (suc number) j os o (omega (arith, at)) found not)

  -- no object stands in the slot of a parameter that is not scalar
  pub bare_law : (count number base final i : ℕ) (os : List LocalObject) → count ≤ base → i < count → AreSome p inst os → ArePlanned number os → AllPlaced p inst count number base os final
      → IsCompositeAt i number os → Everywhere (λ d. (slot_in_plan plan d < i) ⊎ (i + size_in_plan plan d ≤ slot_in_plan plan d)) (numbers number (length os))
  bare_law count number base final i [] le less some here no_object not = tt
  bare_law count number base final i (o ∷ os) le less some here (and_object {behind = behind} one rest) not =
      let up = no_lower p inst some.0 one in
      (apart one (compared (nat_lt number i) (ltb-true number i) (λ more. ltb-false number i more)), bare_law count (suc number) behind final i os (omega (arith, le, up)) less some.1 here.1 rest not.1)
    where
      compared : (b : Bool) → (b ≡ true → number < i) → (b ≡ false → i ≤ number) → (number < i) ⊎ (i ≤ number)
      compared true low high = inl (low refl)
      compared false low high = inr (high refl)

      apart : {behind : ℕ} → Placed p inst count number base o behind → (number < i) ⊎ (i ≤ number) → (slot_in_plan plan number < i) ⊎ (i + size_in_plan plan number ≤ slot_in_plan plan number)
      apart (as_parameter few is at one same) (inl low) = inl (omega (arith, here.0.slot, at, low))
      apart (as_parameter few is at one same) (inr high) =
          inr (omega (arith, here.0.slot, here.0.size, at, one, high, unlike (eqb_tells number i)))
        where
          unlike : ((nat_eq number i ≡ true) × (number ≡ i)) ⊎ ((nat_eq number i ≡ false) × (number ≢ i)) → number ≢ i
          unlike (inl e) = absurd (true_is_no_false (sym is ∙ not.0 e.1))
          unlike (inr e) = e.1
      apart (as_stacked at same other) low = inr (omega (arith, here.0.slot, here.0.size, at, le, less))
