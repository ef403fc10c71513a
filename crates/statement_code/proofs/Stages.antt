-- The objects of an activation stand as its body's plan says.
use Rattle.std.proofs.Common.{◌≡◌, ◌≢◌, ℕ, ◌+◌, ◌-◌, ◌<◌, ◌≤◌, ◌⊎◌, inl, inr, nat_eq, Bool, true, false, ◌&&◌, List, [], ◌∷◌, map, refl, sym, ap, subst, ◌∙◌, arith}
use Rattle.std.proofs.lemmas.Bool.{ne_eqb}
use Rattle.cov_base.specs.Lists.{Everywhere, Somewhere}
use Rattle.ada_meaning.specs.Execution.{library_place}
use Rattle.ada_meaning.specs.Program.{Program}
use Rattle.ada_meaning.specs.Resolved.{ResolvedParameter, owner_in, local_place, place_in}
use Rattle.ada_meaning.specs.State.{Place}
use Rattle.ada_meaning.specs.Tree as tree
use Rattle.ada_meaning.specs.Types as type
use Rattle.ada_resolved.specs.Sizes.{words}
use Rattle.kernel_ir.specs.declared.kernel.Layout.{Layout}
use Rattle.kernel_ir.specs.World.{data_word, area_end, slot_word}
use Rattle.statement_code.specs.Bodies.{ParameterStands, ParametersStand, IsParameterOf, IsStage}
use Rattle.statement_code.specs.Cells.{Cells, AreApart}
use Rattle.statement_code.specs.Objects.{Among, Standing, CellsOf, StandApart, AllApart}
use Rattle.statement_code.specs.Programs.{Plan, slot_in_plan, size_in_plan, IsLaid, AreBeside, AreLaid, IsLocal, standing, IsParameterLaid, AreParametersLaid, IsHome, IsSeen, IsLibrary}
use Rattle.statement_code.specs.Values.{Home, in_frame, in_library, address_at, arguments, IsComposite, Stands}
use Rattle.statement_code.proofs.Frames.{other_frame}
use Rattle.statement_code.proofs.Objects.{among_words, of_object, cells_apart, lies_among}
use Rattle.statement_code.proofs.Statements.{frame_slot}

and_false : (a : Bool) → (a && false) ≡ false
and_false true = refl
and_false false = refl

home_is : (fp : ℕ) (h : Home) (a : ℕ) → IsHome h a → address_at fp h ≡ a
home_is fp (in_frame j) a is = absurd is
home_is fp (in_library n) a is = is

laid_of : (plan : Plan) (ds : List ℕ) (d : ℕ) → Somewhere (λ e. e ≡ d) ds → AreLaid plan ds → IsLaid plan d
laid_of plan [] d among laid = absurd among
laid_of plan (e ∷ ds) d (inl is) laid = subst (IsLaid plan) is laid.0
laid_of plan (e ∷ ds) d (inr among) laid = laid_of plan ds d among laid.1.1

-- an object's cells are among those of its list
own_member : (plan : Plan) (fp j depth : ℕ) (ds : List ℕ) (d : ℕ) (q : Place) (c : ℕ) → Somewhere (λ e. e ≡ d) ds
    → Among (standing plan fp j depth d).shape (standing plan fp j depth d).place (standing plan fp j depth d).address q c → CellsOf (map (standing plan fp j depth) ds) q c
own_member plan fp j depth [] d q c among g = absurd among
own_member plan fp j depth (e ∷ ds) d q c (inl is) g =
    inl (subst (λ x. Among (standing plan fp j depth x).shape (standing plan fp j depth x).place (standing plan fp j depth x).address q c) (sym is) g)
own_member plan fp j depth (e ∷ ds) d q c (inr among) g = inr (own_member plan fp j depth ds d q c among g)

-- the cells of the library level
pub record IsOuterCell (low : ℕ) (q : Place) (a : ℕ) : Type 0 where
  pub frame : q.frame ≡ 0
  pub from : data_word ≤ a
  pub below : a < low

outer_cell : (os : List Standing) (low : ℕ) → Everywhere (λ s. (s.place.frame ≡ 0) × ((data_word ≤ s.address) × (s.address + words s.shape ≤ low))) os
    → (q : Place) (a : ℕ) → CellsOf os q a → IsOuterCell low q a
outer_cell [] low all q a h = absurd h
outer_cell (o ∷ os) low all q a (inl h) =
    let here = among_words o.shape o.place o.address q a h in
    record { frame = (of_object o.shape o.place o.address q a h).0 ∙ all.0.0; from = omega (arith, here.0, all.0.1.0); below = omega (arith, here.1, all.0.1.1) }
outer_cell (o ∷ os) low all q a (inr h) = outer_cell os low all.1 q a h

-- a body's objects in an activation, at a depth, in a frame that ends before the word fp
module _ (plan : Plan) (fp j depth : ℕ) (room : plan.base ≤ fp) where
  abbrev object : ℕ → Standing
  object d = standing plan fp j depth d

  -- where an object stands
  pub record IsAddress (d : ℕ) : Type 0 where
    pub is : (object d).address ≡ fp - (slot_in_plan plan d + 1)
    pub fits : size_in_plan plan d ≤ slot_in_plan plan d + 1
    pub low : slot_in_plan plan d < plan.base

  address_of : (d : ℕ) → IsLaid plan d → IsAddress d
  address_of d laid = record { is = frame_slot fp (plan.home_of (tree.local_object d)) laid.framed; fits = laid.fits; low = laid.low }

  pub record IsOwnCell (q : Place) (a : ℕ) : Type 0 where
    pub frame : q.frame ≡ depth
    pub from : fp ≤ a + plan.base
    pub below : a < fp

  own_cell : (ds : List ℕ) → AreLaid plan ds → (q : Place) (a : ℕ) → CellsOf (map object ds) q a → IsOwnCell q a
  own_cell [] laid q a h = absurd h
  own_cell (d ∷ ds) laid q a (inl h) =
      let here = among_words (object d).shape (object d).place (object d).address q a h in
      let at = address_of d laid.0 in
      record {
        frame = (of_object (object d).shape (object d).place (object d).address q a h).0;
        from = omega (arith, here.0, at.is, at.low, room);
        below = omega (arith, here.1, at.is, at.fits, at.low, room);
      }
  own_cell (d ∷ ds) laid q a (inr h) = own_cell ds laid.1.1 q a h

  beside_apart : (d : ℕ) (ds : List ℕ) → IsLaid plan d → Everywhere (AreBeside plan d) ds → AreLaid plan ds → Everywhere (StandApart (object d)) (map object ds)
  beside_apart d [] laid beside all = record {}
  beside_apart d (e ∷ ds) laid beside all = (
    (
      rw beside.0.0 (and_false (nat_eq depth depth && nat_eq j j)),
      by_side beside.0.1,
    ),
    beside_apart d ds laid beside.1 all.1.1,
  )
    where
      by_side : (slot_in_plan plan d + size_in_plan plan e ≤ slot_in_plan plan e) ⊎ (slot_in_plan plan e + size_in_plan plan d ≤ slot_in_plan plan d)
          → ((object d).address + size_in_plan plan d ≤ (object e).address) ⊎ ((object e).address + size_in_plan plan e ≤ (object d).address)
      by_side (inl less) =
          let x = address_of d laid in
          let y = address_of e all.0 in
          inr (omega (arith, less, x.is, y.is, x.low, y.low, y.fits, room))
      by_side (inr less) =
          let x = address_of d laid in
          let y = address_of e all.0 in
          inl (omega (arith, less, x.is, y.is, x.low, y.low, x.fits, room))

  own_apart : (ds : List ℕ) → AreLaid plan ds → AllApart (map object ds)
  own_apart [] laid = record {}
  own_apart (d ∷ ds) laid = (beside_apart d ds laid.0 laid.1.0 laid.1.1, own_apart ds laid.1.1)

  -- no object has its word in this slot
  own_bare : (ds : List ℕ) (i : ℕ) → AreLaid plan ds → i < plan.base → Everywhere (λ d. (slot_in_plan plan d < i) ⊎ (i + size_in_plan plan d ≤ slot_in_plan plan d)) ds
      → (q : Place) (a : ℕ) → CellsOf (map object ds) q a → a ≢ slot_word fp i
  own_bare [] i laid less bare q a h e = h
  own_bare (d ∷ ds) i laid less bare q a (inl h) e =
      let here = among_words (object d).shape (object d).place (object d).address q a h in
      let at = address_of d laid.0 in
      by_side bare.0 here.0 here.1 at
    where
      by_side : (slot_in_plan plan d < i) ⊎ (i + size_in_plan plan d ≤ slot_in_plan plan d) → (object d).address ≤ a → a < (object d).address + size_in_plan plan d → IsAddress d → ⊥
      by_side (inl lt) ge lt_end at = omega (arith, lt, ge, e, at.is, at.low, less, room)
      by_side (inr le) ge lt_end at = omega (arith, le, lt_end, e, at.is, at.low, less, room)
  own_bare (d ∷ ds) i laid less bare q a (inr h) e = own_bare ds i laid.1.1 less bare.1 q a h e

-- an activation
module _ (library : List Standing) (outer_low : ℕ) (outside : IsLibrary library outer_low) (layouts : List Layout) (plan : Plan) (laid : AreLaid plan plan.locals) (small : plan.base < plan.width)
    (data_low : data_word ≤ outer_low) (fp : ℕ) (bottom : outer_low + (plan.width + arguments) ≤ fp) (top_word : fp ≤ area_end) (j depth : ℕ) (deep : 1 ≤ depth) where
  abbrev Outer : Cells
  Outer = CellsOf library

  abbrev Own : Cells
  Own = CellsOf (map (standing plan fp j depth) plan.locals)

  abbrev pub Cell : Cells
  Cell q a = Outer q a ⊎ Own q a

  base_room : plan.base ≤ fp
  base_room = omega (arith, small, bottom)

  outer_is : (q : Place) (a : ℕ) → Outer q a → IsOuterCell outer_low q a
  outer_is = outer_cell library outer_low outside.outside

  own_is : (q : Place) (a : ℕ) → Own q a → IsOwnCell plan fp j depth base_room q a
  own_is = own_cell plan fp j depth base_room plan.locals laid

  apart : AreApart Cell
  apart q r a b (inl h) (inl g) = cells_apart library outside.apart q r a b h g
  apart q r a b (inr h) (inr g) = cells_apart (map (standing plan fp j depth) plan.locals) (own_apart plan fp j depth base_room plan.locals laid) q r a b h g
  apart q r a b (inl h) (inr g) =
      let x = outer_is q a h in
      let y = own_is r b g in
      other_frame r q (λ e. omega (arith, e, x.frame, y.frame, deep)) ∙ sym (ne_eqb b a (λ e. omega (arith, e, x.below, y.from, bottom, small)))
  apart q r a b (inr h) (inl g) =
      let x = own_is q a h in
      let y = outer_is r b g in
      other_frame r q (λ e. omega (arith, e, x.frame, y.frame, deep)) ∙ sym (ne_eqb b a (λ e. omega (arith, e, y.below, x.from, bottom, small)))

  pub stage_of : (top count : ℕ) → 4 ≤ top → count ≤ plan.base → IsStage Cell Outer fp plan.width plan.base depth top count
  stage_of top count predefined few = record {
    apart = apart;
    low = low;
    under = under;
    free = free;
    own = own;
    shared = shared;
    library = λ q a h. (inl h, (outer_is q a h).frame);
    lower = λ q a h. let below = (outer_is q a h).below in omega (arith, below, bottom);
    local = local;
    inside = top_word;
    room = omega (arith, bottom);
    predefined = predefined;
    small = small;
    few = few;
    deep = deep;
  }
    where
      low : (q : Place) (a : ℕ) → Cell q a → data_word ≤ a
      low q a (inl h) = (outer_is q a h).from
      low q a (inr h) = let from = (own_is q a h).from in omega (arith, from, bottom, small, data_low)

      under : (q : Place) (a : ℕ) → Cell q a → a < fp
      under q a (inl h) = let below = (outer_is q a h).below in omega (arith, below, bottom)
      under q a (inr h) = (own_is q a h).below

      free : (q : Place) (a i : ℕ) → Cell q a → plan.base ≤ i → i < plan.width + arguments → a ≢ slot_word fp i
      free q a i (inl h) le lt e = let below = (outer_is q a h).below in omega (arith, below, bottom, e, lt)
      free q a i (inr h) le lt e = let from = (own_is q a h).from in omega (arith, from, bottom, e, le, lt)

      own : (q : Place) (a : ℕ) → Cell q a → (q.frame ≡ 0) ⊎ (q.frame ≡ depth)
      own q a (inl h) = inl (outer_is q a h).frame
      own q a (inr h) = inr (own_is q a h).frame

      shared : (q : Place) (a : ℕ) → Cell q a → q.frame ≡ 0 → Outer q a
      shared q a (inl h) is = h
      shared q a (inr h) is = let frame = (own_is q a h).frame in absurd (none (sym frame ∙ is))
        where
          none : depth ≡ 0 → ⊥
          none e = omega (arith, e, deep)

      local : (q : Place) (a : ℕ) → Cell q a → q.frame ≡ depth → fp ≤ a + plan.width
      local q a (inl h) is = let frame = (outer_is q a h).frame in absurd (none (sym frame ∙ is))
        where
          none : 0 ≡ depth → ⊥
          none e = omega (arith, e, deep)
      local q a (inr h) is = let from = (own_is q a h).from in omega (arith, from, small)

  -- an object of the body stands in memory
  pub stand_local : (d : ℕ) → IsLocal plan d → Stands Cell (plan.shape_of (tree.local_object d)) (local_place j depth d) (address_at fp (plan.home_of (tree.local_object d)))
  stand_local d among =
      let at = address_of plan fp j depth base_room d (laid_of plan plan.locals d among laid) in
      record {
        lies = lies_among Cell (plan.shape_of (tree.local_object d)) (local_place j depth d) (address_at fp (plan.home_of (tree.local_object d)))
            (λ q c g. inr (own_member plan fp j depth plan.locals d q c among g));
        low = omega (arith, at.is, at.low, bottom, small, data_low);
        high = omega (arith, at.is, at.fits, at.low, bottom, small, top_word);
      }

  parameter_stands : (q : ResolvedParameter) (i count : ℕ) → count ≤ plan.base → IsParameterLaid layouts plan count q i
      → ParameterStands layouts Cell plan.home_of plan.layout_of fp j depth count q i
  parameter_stands q i count few parameter = record {
    stands = subst (λ s. Stands Cell s (local_place j depth q.declaration) (address_at fp (plan.home_of (tree.local_object q.declaration)))) parameter.shape (stand_local q.declaration parameter.among);
    scalar = λ is. ap (address_at fp) (parameter.scalar is);
    bare = bare;
    clear = clear;
    here = parameter.here;
    has = parameter.has;
    layout = parameter.layout;
  }
    where
      bare : IsComposite q.shape → (r : Place) (a : ℕ) → Cell r a → a ≢ slot_word fp i
      bare is r a (inl h) e = let below = (outer_is r a h).below in let here = parameter.here in omega (arith, below, e, here, few, small, bottom)
      bare is r a (inr h) e = let here = parameter.here in own_bare plan fp j depth base_room plan.locals i laid (omega (arith, here, few)) (parameter.bare is) r a h e

      clear : IsComposite q.shape → (k : ℕ) → k < count → (slot_word fp k < address_at fp (plan.home_of (tree.local_object q.declaration)))
          ⊎ (address_at fp (plan.home_of (tree.local_object q.declaration)) + words q.shape ≤ slot_word fp k)
      clear is k less =
          let at = address_of plan fp j depth base_room q.declaration (laid_of plan plan.locals q.declaration parameter.among laid) in
          let behind = parameter.composite is in
          inr (omega (arith, less, at.is, at.low, behind, few, small, bottom))

  pub parameters_stand : (qs : List ResolvedParameter) (i count : ℕ) → count ≤ plan.base → AreParametersLaid layouts plan count qs i
      → ParametersStand layouts Cell plan.home_of plan.layout_of fp j depth count qs i
  parameters_stand [] i count few parameters = record {}
  parameters_stand (q ∷ qs) i count few parameters = (parameter_stands q i count few parameters.0, parameters_stand qs (i + 1) count few parameters.1)

  -- an object of the library level stands in memory
  outside_stands : (os : List Standing) → Everywhere (λ s. (s.place.frame ≡ 0) × ((data_word ≤ s.address) × (s.address + words s.shape ≤ outer_low))) os
      → ((q : Place) (c : ℕ) → CellsOf os q c → Outer q c) → (o : type.Owner) (d : ℕ)
      → Somewhere (λ s. (s.place ≡ library_place (owner_in j o) d) × ((s.shape ≡ plan.shape_of (tree.library_object o d)) × IsHome (plan.home_of (tree.library_object o d)) s.address)) os
      → Stands Outer (plan.shape_of (tree.library_object o d)) (library_place (owner_in j o) d) (address_at fp (plan.home_of (tree.library_object o d)))
  outside_stands [] all among o d is = absurd is
  outside_stands (s ∷ os) all among o d (inl is) =
      subst (λ a. Stands Outer (plan.shape_of (tree.library_object o d)) (library_place (owner_in j o) d) a) (sym (home_is fp (plan.home_of (tree.library_object o d)) s.address is.1.1))
      (subst (λ x. Stands Outer x (library_place (owner_in j o) d) s.address) is.1.0
      (subst (λ q. Stands Outer s.shape q s.address) is.0
      (record {
        lies = lies_among Outer s.shape s.place s.address (λ q c g. among q c (inl g));
        low = all.0.1.0;
        high = omega (arith, all.0.1.1, bottom, top_word);
      })))
  outside_stands (s ∷ os) all among o d (inr is) = outside_stands os all.1 (λ q c g. among q c (inr g)) o d is

  pub visible : (p : Program) (qs : List ResolvedParameter) (o : tree.Object) → IsSeen library plan j qs o
      → Stands Outer (plan.shape_of o) (place_in p j depth o) (address_at fp (plan.home_of o)) ⊎ IsParameterOf plan.shape_of qs o
  visible p qs o (inr is) = inr is
  visible p qs (tree.local_object d) (inl is) = absurd is
  visible p qs (tree.library_object o d) (inl is) = inl (outside_stands library outside.outside (λ q c g. g) o d is)
