-- Subprograms in tables: what is behind the tables' own does not change them.
use Rattle.std.proofs.Common.{◌≡◌, ℕ, zero, suc, ◌+◌, ◌<◌, ◌≤◌, nat_lt, Bool, true, false, List, [], ◌∷◌, ◌++◌, length, map, Some, option_map, slice_get, unwrap_or, refl, sym, ap, ◌∙◌, subst, arith}
use Rattle.std.proofs.lemmas.Bool.{ltb-true, ltb-false}
use Rattle.std.proofs.lemmas.List.{length-map, map-append}
use Rattle.std.proofs.lemmas.Option.{slice_get_within}
use Rattle.ada_tree.specs.View.{callee_of}
use Rattle.ada_rules.specs.Entities as rules
use Rattle.ada_entities.specs.declared.entity.Values.{Values}
use Rattle.ada_entities.specs.declared.entity.Values.TheVariants as values
use Rattle.ada_entities.specs.declared.routines.Routine.{Routine}
use Rattle.ada_entities.specs.Tables.{no_tables}
use Rattle.ada_entities.specs.EntityViews.{Tables, values_of, no_routine}
use Rattle.ada_entities.specs.RoutineViews.{parameter_of, result_of, routine_in, AreTestIo}
use Rattle.ada_entities.specs.StandardCode.{HasTestIo}
use Rattle.program_walk.specs.declared.extent.Extent.{Extent}
use Rattle.program_walk.specs.Known.{knows_subprogram}
use Rattle.program_walk.specs.Alike.{AreAlike, AreKnownRoutines}
use Rattle.program_walk.proofs.Fronts.{front_get, front_some, at_last}
use Rattle.program_walk.proofs.AlikeLaws.{subprogram_same}

-- the same tables with other subprograms
abbrev pub with_routines : Tables → List rules.Routine → Tables
with_routines k rs = record k { routines = rs }

values_with : (k : Tables) (rs : List rules.Routine) (v : Values) → values_of k v ≡ values_of (with_routines k rs) v
values_with k rs (values.Within r) = refl
values_with k rs (values.OfFormalType place) = refl
values_with k rs (values.OfFormalResult place) = refl
values_with k rs (values.Listed n) = refl

pub routine_with : (k : Tables) (rs : List rules.Routine) (r : Routine) → routine_in k r ≡ routine_in (with_routines k rs) r
routine_with k rs r = λ z. record {
  callee = callee_of r.callee;
  parameters = map (parameter_of k.types) r.parameters;
  result = option_map (result_of k.types) r.result;
  values = values_with k rs r.values z;
  awaits_body = false;
}

pub all_with : (k : Tables) (rs : List rules.Routine) (own : List Routine) → map (routine_in k) own ≡ map (routine_in (with_routines k rs)) own
all_with k rs [] = refl
all_with k rs (r ∷ own) = λ z. routine_with k rs r z ∷ all_with k rs own z

-- the tables of these subprograms
abbrev pub with_own : Tables → List Routine → Tables
with_own k own = with_routines k (map (routine_in k) own)

test_io_in : (k : Tables) (own : List Routine) → AreTestIo own → HasTestIo (with_own k own)
test_io_in k own a = a (with_own k own) (all_with k (map (routine_in k) own) own)

pub test_io_more : (own more : List Routine) → AreTestIo own → AreTestIo (own ++ more)
test_io_more own more a k h =
    let t = test_io_in k own a in
    let all = h ∙ map-append (routine_in k) own more in
    record {
      get = ap (λ rs. slice_get rs 0) all ∙ front_some (map (routine_in k) own) (map (routine_in k) more) _ 0 t.get;
      put = ap (λ rs. slice_get rs 1) all ∙ front_some (map (routine_in k) own) (map (routine_in k) more) _ 1 t.put;
    }

-- the subprograms of Test_IO lead nowhere
abbrev no_table : Tables
no_table = record { types = no_tables 0; routines = []; spans = [] }

pub two_there : (own : List Routine) → AreTestIo own → 2 ≤ length own
two_there own a =
    let t = test_io_in no_table own a in
    omega (arith, slice_get_within (map (routine_in no_table) own) 1 _ t.put, length-map own (routine_in no_table))

pub test_io_known : (e : Extent) (own : List Routine) → AreTestIo own → e.routines ≡ 2 → AreKnownRoutines e own
test_io_known e own a two k l alike j h = among j (subst (λ n. j < n) two h) where
  among : (j : ℕ) → j < 2 → slice_get (map (routine_in k) own) j ≡ slice_get (map (routine_in l) own) j
  among zero h = (test_io_in k own a).get ∙ sym (test_io_in l own a).get
  among (suc zero) h = (test_io_in k own a).put ∙ sym (test_io_in l own a).put
  among (suc (suc j)) h = absurd (omega arith)

-- one more
module _ (e f : Extent) (own : List Routine) (r : Routine) (known : AreKnownRoutines e own) (count : e.routines ≡ length own)
    (types : e.types ≡ f.types) (instances : e.made ≡ f.made) (next : f.routines ≡ e.routines + 1) (own_known : knows_subprogram e r ≡ true) where
  alike_before : (k l : Tables) → AreAlike f k l → AreAlike e k l
  alike_before k l a = record {
    shapes = λ j h. a.shapes j (subst (λ n. j < n) types h);
    instances = λ i h. a.instances i (ap (λ m. unwrap_or (slice_get m.items i) false) (sym instances) ∙ h);
    spans = a.spans;
  }

  more_at : (k l : Tables) → AreAlike f k l → (j : ℕ) → j < f.routines → (b : Bool) → nat_lt j e.routines ≡ b
      → slice_get (map (routine_in k) own ++ routine_in k r ∷ []) j ≡ slice_get (map (routine_in l) own ++ routine_in l r ∷ []) j
  more_at k l a j h true t =
      let before : j < e.routines = ltb-true j e.routines t in
      sym (front_get (map (routine_in k) own) (routine_in k r ∷ []) no_routine j (omega (arith, before, count, length-map own (routine_in k))))
      ∙ (known k l (alike_before k l a) j before
      ∙ front_get (map (routine_in l) own) (routine_in l r ∷ []) no_routine j (omega (arith, before, count, length-map own (routine_in l))))
  more_at k l a j h false t =
      let last : j ≡ length own = omega (arith, ltb-false j e.routines t, h, next, count) in
      let at_k : slice_get (map (routine_in k) own ++ routine_in k r ∷ []) j ≡ Some (routine_in k r) =
      at_last (map (routine_in k) own) (routine_in k r) j (last ∙ sym (length-map own (routine_in k))) in
      let at_l : slice_get (map (routine_in l) own ++ routine_in l r ∷ []) j ≡ Some (routine_in l r) =
      at_last (map (routine_in l) own) (routine_in l r) j (last ∙ sym (length-map own (routine_in l))) in
      at_k ∙ (ap (λ x. Some x) (subprogram_same (alike_before k l a) r own_known) ∙ sym at_l)

  pub one_more_known : AreKnownRoutines f (own ++ r ∷ [])
  one_more_known k l a j h =
      ap (λ rs. slice_get rs j) (map-append (routine_in k) own (r ∷ []))
      ∙ (more_at k l a j h (nat_lt j e.routines) refl ∙ ap (λ rs. slice_get rs j) (sym (map-append (routine_in l) own (r ∷ []))))
