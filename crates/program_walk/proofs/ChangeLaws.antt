-- Symbol tables that change: their numbers lead to what is there, and tables that begin with the new one begin with the
-- old one.
use Rattle.std.proofs.Common.{◌≡◌, ◌≢◌, ℕ, zero, suc, ◌+◌, ◌<◌, ◌≤◌, nat_eq, Bool, true, false, not, List, [], ◌∷◌, ◌++◌, length, map, replicate, set, Option, Some, None, is_some, slice_get, unwrap_or, Result, Ok, Err, OnOk, refl, sym, ap, ◌∙◌, subst, arith, length-append, true≢false}
use Rattle.std.specs.Borrow.{Bor}
use Rattle.std.specs.Global.{Vec}
use Rattle.std.proofs.lemmas.Bool.{eqb-true, eq-eqb}
use Rattle.std.proofs.lemmas.List.{append_assoc, map-append, length-map, get_or-set_same, get_or-set_other}
use Rattle.std.proofs.lemmas.Option.{slice_get-get_or, slice_get_within, unwrap_or-slice_get}
use Rattle.ada_rules.specs.Types.{no_field}
use Rattle.ada_rules.specs.Entities.{Actual}
use Rattle.ada_entities.specs.declared.composite.Definition.{Definition}
use Rattle.ada_entities.specs.declared.composite.Types.{Types}
use Rattle.ada_entities.specs.declared.entity.Entity.{Entity}
use Rattle.ada_entities.specs.declared.routines.Routine.{Routine}
use Rattle.ada_entities.specs.declared.units.Interface.{Interface}
use Rattle.ada_entities.specs.declared.units.Interface.TheVariants as interface
use Rattle.ada_entities.specs.Views.{record_shape, TypeTables, made_at, is_made, actuals_of}
use Rattle.ada_entities.specs.Tables.{shape_of, no_tables, with_shape, with_instance}
use Rattle.ada_entities.specs.TypeTable.{tables}
use Rattle.ada_entities.specs.EntityViews.{Tables, no_routine}
use Rattle.ada_entities.specs.RegionCode.{innermost, enclosing}
use Rattle.ada_entities.specs.RoutineViews.{routine_in, routine_from, HasRoutines, AreTestIo}
use Rattle.ada_entities.proofs.Agreement.{shape_agrees}
use Rattle.ada_entities.proofs.TableLaws.{others_keep, made_now}
use Rattle.program_walk.specs.declared.extent.Extent.{Extent}
use Rattle.program_walk.specs.declared.symbols.Symbols.{Symbols}
use Rattle.program_walk.specs.Known.{IsFreshExtent, awaits, knows_instance, knows_definition, knows_subprogram}
use Rattle.program_walk.specs.Alike.{AreAlike, AreAllAlike, IsKnownRegion, AreKnownRegions, AreKnownInterfaces, AreKnownRoutines}
use Rattle.program_walk.specs.SymbolViews.{IsFront, AreMadeAlike, HasFront, Begins}
use Rattle.program_walk.specs.Changes.{Becomes, Grows, IsFresh, IsTypeOf, IsSubprogram, IsNumbered}
use Rattle.program_walk.proofs.Fronts.{front_get, at_end}
use Rattle.program_walk.proofs.AlikeLaws.{agreeing}
use Rattle.program_walk.proofs.RoutineTables.{with_own, all_with, routine_with, test_io_more, test_io_known, two_there, one_more_known}
use Rattle.program_walk.proofs.RegionChanges.{innermost_known, enclosing_known, with_known, unknown_known}
use Rattle.program_walk.proofs.StandingLaws.{known_alike}

-- what is in front of the front
shorter : {A : Type 0} (xs more ys zs : List A) → ys ≡ xs ++ more → IsFront ys zs → IsFront xs zs
shorter xs more ys zs e f = record {
  behind = more ++ f.behind;
  joined = f.joined ∙ (ap (λ y. y ++ f.behind) e ∙ append_assoc xs more f.behind);
}

-- which instances were made
abbrev made_by : ℕ → Vec Bool → Bool
made_by i v = unwrap_or (slice_get v.items i) false

same_made : (e f : Extent) → f.made ≡ e.made → (i : ℕ) → knows_instance e i ≡ true → knows_instance f i ≡ true
same_made e f same i h = ap (made_by i) same ∙ h

awaited_unknown : (o : Option Bool) → not (unwrap_or o true) ≡ true → unwrap_or o false ≡ false
awaited_unknown None h = refl
awaited_unknown (Some true) h = absurd (true≢false (sym h))
awaited_unknown (Some false) h = refl

awaited_there : (o : Option Bool) → not (unwrap_or o true) ≡ true → o ≡ Some false
awaited_there None h = absurd (true≢false (sym h))
awaited_there (Some true) h = absurd (true≢false (sym h))
awaited_there (Some false) h = refl

set_other : {A : Type 0} (xs ys : List A) (n i : ℕ) (x d : A) → ys ≡ set xs n x → i ≢ n → unwrap_or (slice_get ys i) d ≡ unwrap_or (slice_get xs i) d
set_other xs ys n i x d is other =
    ap (λ zs. unwrap_or (slice_get zs i) d) is
    ∙ (unwrap_or-slice_get (set xs n x) i d ∙ (get_or-set_other xs n i x d other ∙ sym (unwrap_or-slice_get xs i d)))

set_here : {A : Type 0} (xs ys : List A) (n : ℕ) (x y d : A) → ys ≡ set xs n x → slice_get xs n ≡ Some y → unwrap_or (slice_get ys n) d ≡ x
set_here xs ys n x y d is there =
    ap (λ zs. unwrap_or (slice_get zs n) d) is
    ∙ (unwrap_or-slice_get (set xs n x) n d ∙ get_or-set_same xs n x d (slice_get_within xs n y there))

known_still : (xs ys : List Bool) (n i : ℕ) → ys ≡ set xs n true → not (unwrap_or (slice_get xs n) true) ≡ true
    → unwrap_or (slice_get xs i) false ≡ true → unwrap_or (slice_get ys i) false ≡ true
known_still xs ys n i is awaited h =
    let other : i ≢ n =
    λ same. true≢false (sym h ∙ (ap (λ j. unwrap_or (slice_get xs j) false) same ∙ awaited_unknown (slice_get xs n) awaited)) in
    set_other xs ys n i true false is other ∙ h

made_with : {A : Type 0} (instances : List (Option A)) (xs ys : List Bool) (n i : ℕ) (x : A) → ys ≡ set xs n true → slice_get instances n ≡ Some None
    → not (unwrap_or (slice_get xs n) true) ≡ true → unwrap_or (slice_get xs i) false ≡ is_made instances i
    → unwrap_or (slice_get ys i) false ≡ is_made (set instances n (Some x)) i
made_with instances xs ys n i x is vacant awaited h = by_test (nat_eq i n) refl where
  by_test : (b : Bool) → nat_eq i n ≡ b → unwrap_or (slice_get ys i) false ≡ is_made (set instances n (Some x)) i
  by_test true same =
      let at = eqb-true i n same in
      ap (λ j. unwrap_or (slice_get ys j) false) at
      ∙ (set_here xs ys n true false false is (awaited_there (slice_get xs n) awaited)
      ∙ (ap is_some (sym (made_now instances n vacant x)) ∙ ap (is_made (set instances n (Some x))) (sym at)))
  by_test false differs =
      let other : i ≢ n = λ at. true≢false (sym (eq-eqb i n at) ∙ differs) in
      set_other xs ys n i true false is other
      ∙ (h ∙ ap is_some (sym (set_other instances (set instances n (Some x)) n i (Some x) None refl other)))

none_but_first : (count i : ℕ) → unwrap_or (slice_get (true ∷ replicate count false) i) false ≡ is_made (no_tables count).instances i
none_but_first count zero = refl
none_but_first count (suc i) = among count i where
  among : (count i : ℕ) → unwrap_or (slice_get (replicate count false) i) false ≡ is_made {A = List Actual} (replicate count None) i
  among zero i = refl
  among (suc count) zero = refl
  among (suc count) (suc i) = among count i

-- what is alike as far as there is more is so as far as there is less
module _ (e f : Extent) (types : e.types ≤ f.types) (instances : (i : ℕ) → knows_instance e i ≡ true → knows_instance f i ≡ true) (routines : e.routines ≤ f.routines) (k l : Tables) where
  pub less_types : AreAlike f k l → AreAlike e k l
  less_types a = record {
    shapes = λ j h. a.shapes j (omega (arith, h, types));
    instances = λ i h. a.instances i (instances i h);
    spans = a.spans;
  }

  pub less : AreAllAlike f k l → AreAllAlike e k l
  less a = record { typed = less_types a.typed; routines = λ j h. a.routines j (omega (arith, h, routines)) }

-- regions and units alone change
pub moves : (old new : Symbols) (regions : List (List (List ℕ × Entity))) (units : List Interface) → new.extent ≡ old.extent
    → new.types ≡ old.types → new.routines ≡ old.routines → new.regions ≡ regions → new.units ≡ units
    → (AreKnownRegions old.extent old.regions → AreKnownRegions old.extent regions)
    → (AreKnownInterfaces old.extent old.units → AreKnownInterfaces old.extent units) → Becomes old new regions units
moves old new regions units e t r rs us keeps shows = record {
  known = λ h. record {
    types = ap (λ (x : Extent). x.types) e ∙ (h.types ∙ ap (λ (x : Types). length (tables x).shapes) (sym t));
    instances = λ i. ap (λ (x : Extent). knows_instance x i) e ∙ (h.instances i ∙ ap (λ (x : Types). is_made (tables x).instances i) (sym t));
    routines = subst (λ (x : Extent). x.routines ≤ length new.routines) (sym e) (subst (λ x. old.extent.routines ≤ length x) (sym r) h.routines);
    subprograms = subst (λ x. AreKnownRoutines x new.routines) (sym e) (subst (λ x. AreKnownRoutines old.extent x) (sym r) h.subprograms);
    test_io = subst AreTestIo (sym r) h.test_io;
    regions = subst (λ x. AreKnownRegions x new.regions) (sym e) (subst (λ x. AreKnownRegions old.extent x) (sym rs) (keeps h.regions));
    interfaces = subst (λ x. AreKnownInterfaces x new.units) (sym e) (subst (λ x. AreKnownInterfaces old.extent x) (sym us) (shows h.interfaces));
  };
  stays = λ h k l a. subst (λ x. AreAllAlike x k l) e a;
  begins = λ k b. subst (λ (x : Types). HasFront (tables x) old.routines k) t (subst (λ x. HasFront (tables new.types) x k) r b);
  regions = rs;
  units = us;
}

-- one more type
module _ (old new : Symbols) (d : Definition) (n : ℕ) (number : n ≡ length (tables old.types).shapes)
    (added : tables new.types ≡ with_shape (tables old.types) (shape_of (tables old.types) d)) where
  front_types : (k : Tables) → HasFront (tables new.types) old.routines k → HasFront (tables old.types) old.routines k
  front_types k b = record {
    shapes = shorter (tables old.types).shapes (shape_of (tables old.types) d ∷ []) (tables new.types).shapes k.types.shapes
        (ap (λ (t : TypeTables). t.shapes) added) b.shapes;
    instances = λ i h.
        let same : (tables new.types).instances ≡ (tables old.types).instances = ap (λ (t : TypeTables). t.instances) added in
        ap (λ xs. unwrap_or (made_at xs i) []) (sym same) ∙ b.instances i (ap (λ xs. is_made xs i) same ∙ h);
    subprograms = b.subprograms;
  }

  pub type_grows : new.extent.types ≡ n + 1 → new.extent.made ≡ old.extent.made → new.extent.routines ≡ old.extent.routines
      → new.routines ≡ old.routines → new.regions ≡ old.regions → new.units ≡ old.units → Grows old new
  type_grows tn ti tr r rs us = record {
    known = λ h.
        let count : length (tables new.types).shapes ≡ n + 1 = omega (
          arith,
          number,
          ap (λ (t : TypeTables). length t.shapes) added,
          length-append (tables old.types).shapes (shape_of (tables old.types) d ∷ []),
        ) in
        let types : old.extent.types ≤ new.extent.types = omega (arith, h.types, number, tn) in
        let instances = same_made old.extent new.extent ti in
        let routines : old.extent.routines ≤ new.extent.routines = omega (arith, tr) in
        record {
          types = tn ∙ sym count;
          instances = λ i. ap (made_by i) ti ∙ (h.instances i ∙ ap (λ (t : TypeTables). is_made t.instances i) (sym added));
          routines = subst (λ x. x ≤ length new.routines) (sym tr) (subst (λ x. old.extent.routines ≤ length x) (sym r) h.routines);
          subprograms = subst (λ x. AreKnownRoutines new.extent x) (sym r)
              (λ k l a j g. h.subprograms k l (less_types old.extent new.extent types instances routines k l a) j (subst (λ m. j < m) tr g));
          test_io = subst AreTestIo (sym r) h.test_io;
          regions = subst (λ x. AreKnownRegions new.extent x) (sym rs)
              (λ k l a. h.regions k l (less old.extent new.extent types instances routines k l a));
          interfaces = subst (λ x. AreKnownInterfaces new.extent x) (sym us) (λ k l xs ys a g.
              h.interfaces k l xs ys (less old.extent new.extent types instances routines k l a) (λ i b. g i (instances i b)));
        };
    stays = λ h k l a. less old.extent new.extent (omega (arith, h.types, number, tn)) (same_made old.extent new.extent ti) (omega (arith, tr)) k l a;
    begins = λ k b. front_types k (subst (λ x. HasFront (tables new.types) x k) r b);
    regions = rs;
    units = us;
  }

  pub type_found : new.routines ≡ old.routines → knows_definition old.extent d ≡ true → IsTypeOf old new d n
  type_found r knows h k b =
      let front = subst (λ x. HasFront (tables new.types) x k) r b in
      let last = at_end (tables old.types).shapes (shape_of (tables old.types) d) front.shapes.behind n number in
      ap (λ xs. unwrap_or (slice_get xs n) (record_shape no_field))
      (front.shapes.joined ∙ ap (λ (t : TypeTables). t.shapes ++ front.shapes.behind) added)
      ∙ (ap (λ o. unwrap_or o (record_shape no_field)) last
      ∙ shape_agrees (agreeing (known_alike old h k (front_types k front)).typed) d knows)

-- one more instance
module _ (old new : Symbols) (xs : List Actual) (n : ℕ) (awaited : awaits old.extent n ≡ true)
    (vacant : slice_get (tables old.types).instances n ≡ Some None) (added : tables new.types ≡ with_instance (tables old.types) n xs)
    (made : new.extent.made.items ≡ set old.extent.made.items n true) where
  now_made : made_at (tables new.types).instances n ≡ Some xs
  now_made = ap (λ (t : TypeTables). made_at t.instances n) added ∙ made_now (tables old.types).instances n vacant xs

  kept : (i : ℕ) → is_made (tables old.types).instances i ≡ true → made_at (tables old.types).instances i ≡ made_at (tables new.types).instances i
  kept i h = others_keep (tables old.types).instances n vacant xs i h ∙ ap (λ (t : TypeTables). made_at t.instances i) (sym added)

  more_known : (i : ℕ) → knows_instance old.extent i ≡ true → knows_instance new.extent i ≡ true
  more_known i h = known_still old.extent.made.items new.extent.made.items n i made awaited h

  front_instances : (k : Tables) → HasFront (tables new.types) old.routines k → HasFront (tables old.types) old.routines k
  front_instances k b = record {
    shapes = subst (λ ss. IsFront ss k.types.shapes) (ap (λ (t : TypeTables). t.shapes) added) b.shapes;
    instances = λ i h. ap (λ o. unwrap_or o []) (kept i h) ∙ b.instances i (ap is_some (sym (kept i h)) ∙ h);
    subprograms = b.subprograms;
  }

  pub instance_grows : new.extent.types ≡ old.extent.types → new.extent.routines ≡ old.extent.routines
      → new.routines ≡ old.routines → new.regions ≡ old.regions → new.units ≡ old.units → Grows old new
  instance_grows tt tr r rs us = record {
    known = λ h.
        let types : old.extent.types ≤ new.extent.types = omega (arith, tt) in
        let routines : old.extent.routines ≤ new.extent.routines = omega (arith, tr) in
        record {
          types = tt ∙ (h.types ∙ ap (λ (t : TypeTables). length t.shapes) (sym added));
          instances = λ i.
              made_with (tables old.types).instances old.extent.made.items new.extent.made.items n i xs made vacant awaited (h.instances i)
              ∙ ap (λ (t : TypeTables). is_made t.instances i) (sym added);
          routines = subst (λ x. x ≤ length new.routines) (sym tr) (subst (λ x. old.extent.routines ≤ length x) (sym r) h.routines);
          subprograms = subst (λ x. AreKnownRoutines new.extent x) (sym r)
              (λ k l a j g. h.subprograms k l (less_types old.extent new.extent types more_known routines k l a) j (subst (λ m. j < m) tr g));
          test_io = subst AreTestIo (sym r) h.test_io;
          regions = subst (λ x. AreKnownRegions new.extent x) (sym rs)
              (λ k l a. h.regions k l (less old.extent new.extent types more_known routines k l a));
          interfaces = subst (λ x. AreKnownInterfaces new.extent x) (sym us) (λ k l xs ys a g.
              h.interfaces k l xs ys (less old.extent new.extent types more_known routines k l a) (λ i b. g i (more_known i b)));
        };
    stays = λ h k l a. less old.extent new.extent (omega (arith, tt)) more_known (omega (arith, tr)) k l a;
    begins = λ k b. front_instances k (subst (λ x. HasFront (tables new.types) x k) r b);
    regions = rs;
    units = us;
  }

  pub instance_found : (k : Tables) → Begins new k → actuals_of k.types n ≡ xs
  instance_found k b = sym (b.instances n (ap is_some now_made)) ∙ ap (λ o. unwrap_or o []) now_made

  pub instance_fresh : knows_instance old.extent n ≡ false
  instance_fresh = awaited_unknown (slice_get old.extent.made.items n) awaited

-- one more subprogram
module _ (old new : Symbols) (r : Routine) (n : ℕ) (number : n ≡ length old.routines) (added : new.routines ≡ old.routines ++ r ∷ []) where
  pub routine_grows : n ≡ old.extent.routines → new.extent.routines ≡ n + 1 → new.extent.types ≡ old.extent.types
      → new.extent.made ≡ old.extent.made → knows_subprogram old.extent r ≡ true
      → new.types ≡ old.types → new.regions ≡ old.regions → new.units ≡ old.units → Grows old new
  routine_grows same tr tt ti knows t rs us = record {
    known = λ h.
        let types : old.extent.types ≤ new.extent.types = omega (arith, tt) in
        let instances = same_made old.extent new.extent ti in
        let routines : old.extent.routines ≤ new.extent.routines = omega (arith, tr, same) in
        record {
          types = tt ∙ (h.types ∙ ap (λ (x : Types). length (tables x).shapes) (sym t));
          instances = λ i. ap (made_by i) ti ∙ (h.instances i ∙ ap (λ (x : Types). is_made (tables x).instances i) (sym t));
          routines = omega (arith, tr, number, ap length added, length-append old.routines (r ∷ []));
          subprograms = subst (λ x. AreKnownRoutines new.extent x) (sym added)
              (one_more_known old.extent new.extent old.routines r h.subprograms (sym same ∙ number) (sym tt) (sym ti)
              (tr ∙ ap (λ m. m + 1) same) knows);
          test_io = subst AreTestIo (sym added) (test_io_more old.routines (r ∷ []) h.test_io);
          regions = subst (λ x. AreKnownRegions new.extent x) (sym rs)
              (λ k l a. h.regions k l (less old.extent new.extent types instances routines k l a));
          interfaces = subst (λ x. AreKnownInterfaces new.extent x) (sym us) (λ k l xs ys a g.
              h.interfaces k l xs ys (less old.extent new.extent types instances routines k l a) (λ i b. g i (instances i b)));
        };
    stays = λ h k l a. less old.extent new.extent (omega (arith, tt)) (same_made old.extent new.extent ti) (omega (arith, tr, same)) k l a;
    begins = λ k b. record {
      shapes = subst (λ (x : Types). IsFront (tables x).shapes k.types.shapes) t b.shapes;
      instances = subst (λ (x : Types). AreMadeAlike (tables x) k.types) t b.instances;
      subprograms = shorter (map (routine_in k) old.routines) (routine_in k r ∷ []) (map (routine_in k) new.routines) k.routines
          (ap (map (routine_in k)) added ∙ map-append (routine_in k) old.routines (r ∷ [])) b.subprograms;
    };
    regions = rs;
    units = us;
  }

  pub routine_found : IsSubprogram new r n
  routine_found k b =
      ap (λ xs. slice_get xs n)
      (b.subprograms.joined
      ∙ ap (λ xs. xs ++ b.subprograms.behind) (ap (map (routine_in k)) added ∙ map-append (routine_in k) old.routines (r ∷ [])))
      ∙ at_end (map (routine_in k) old.routines) (routine_in k r) b.subprograms.behind n (number ∙ sym (length-map old.routines (routine_in k)))

-- before any unit
pub fresh : (symbols : Symbols) (count : ℕ) → tables symbols.types ≡ no_tables count → AreTestIo symbols.routines → symbols.regions ≡ []
    → symbols.units ≡ replicate count interface.Unknown → IsFreshExtent count symbols.extent → IsFresh count symbols
fresh symbols count t io rs us f = record {
  known = record {
    types = f.types ∙ ap (λ (x : TypeTables). length x.shapes) (sym t);
    instances = λ i.
        ap (λ xs. unwrap_or (slice_get xs i) false) f.made
        ∙ (none_but_first count i ∙ ap (λ (x : TypeTables). is_made x.instances i) (sym t));
    routines = omega (arith, f.routines, two_there symbols.routines io);
    subprograms = test_io_known symbols.extent symbols.routines io f.routines;
    test_io = io;
    regions = subst (λ x. AreKnownRegions symbols.extent x) (sym rs) (λ k l a. refl);
    interfaces = subst (λ x. AreKnownInterfaces symbols.extent x) (sym us) (unknown_known symbols.extent count);
  };
  regions = rs;
  units = us;
}

-- another innermost region
pub changed_inside : (old : Symbols) (r : List (List ℕ × Entity)) (regions : List (List (List ℕ × Entity))) → regions ≡ r ∷ enclosing old.regions
    → (IsKnownRegion old.extent (innermost old.regions) → IsKnownRegion old.extent r)
    → Becomes old (record old { regions = regions }) (innermost regions ∷ enclosing old.regions) old.units
changed_inside old r regions e keeps =
    moves old (record old { regions = regions }) (innermost regions ∷ enclosing old.regions) old.units refl refl refl
    (e ∙ ap (λ rs. innermost rs ∷ enclosing old.regions) (sym e)) refl
    (λ h. subst (λ rs. AreKnownRegions old.extent (innermost rs ∷ enclosing old.regions)) (sym e)
    (with_known old.extent r (enclosing old.regions) (keeps (innermost_known old.extent old.regions h)) (enclosing_known old.extent old.regions h)))
    (λ h. h)

pub on_ok : {A E : Type 0} (r : Result A E) (P Q : Type 0) → (P → Q) → OnOk r P → OnOk r Q
on_ok (Ok x) P Q f h = f h
on_ok (Err e) P Q f h = tt

-- the subprogram with a number
pub numbered : (symbols : Symbols) (n : ℕ) (o : Option (Bor Routine)) → n < symbols.extent.routines
    → ((k : Tables) → HasRoutines k symbols.routines → unwrap_or (slice_get k.routines n) no_routine ≡ routine_from k o)
    → IsNumbered symbols n o
numbered symbols n None below found k h b = tt
numbered symbols n (Some r) below found k h b =
    let own = map (routine_in k) symbols.routines in
    let within : n < length own = omega (arith, below, h.routines, length-map symbols.routines (routine_in k)) in
    let there = slice_get-get_or own n no_routine within in
    ap (λ rs. slice_get rs n) b.subprograms.joined
    ∙ (sym (front_get own b.subprograms.behind no_routine n within)
    ∙ (there
    ∙ ap (λ x. Some x) (sym (ap (λ x. unwrap_or x no_routine) there)
    ∙ (found (with_own k symbols.routines) (all_with k own symbols.routines) ∙ sym (routine_with k own r.now)))))
