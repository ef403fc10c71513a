-- The order of dependence of a legal library is whole: a unit that it left out would lead back to one that names it.
use Rattle.std.proofs.Common.{◌≡◌, ◌≤◌, ◌+◌, ℕ, zero, suc, nat_eq, Bool, true, false, if◌then◌else◌, List, [], ◌∷◌, ◌++◌, codes, length, Option, Some, None, Ok, slice_get, refl, sym, ap, ◌∙◌, subst, arith, inl, inr, append-nil, length-append}
use Rattle.std.specs.Prelude.{◌⊎◌, ◌||◌, ◌&&◌, not}
use Rattle.std.specs.List.{list_all, sum_by}
use Rattle.std.proofs.lemmas.Bool.{eqb-true, false≢true}
use Rattle.cov_base.specs.Lists.{Somewhere, Everywhere}
use Rattle.ada_syntax.specs.declared.name.Identifier.{Identifier}
use Rattle.ada_syntax.specs.declared.unit.LibraryItem.{LibraryItem}
use Rattle.ada_syntax.specs.declared.unit.LibraryItem.TheVariants as library
use Rattle.ada_syntax.specs.declared.unit.Unit.{Unit as LibraryUnit}
use Rattle.ada_rules.specs.Entities.{Standard, key, same_name}
use Rattle.ada_rules.specs.Library.{Library, is_package_body, item_name, with_unit, names_from, unit_named, numbers_named, edges_of, graph_of, is_among, edges, is_ready, ordered_from, reached, leads_back, units_but_bodies, library_of, may_name, is_test_io, named_in_with, all_named_in_with, clause_names, is_declared_well}
use Rattle.ada_rules.specs.Plan.{◌>>=◌, rule}
use Rattle.legal_laws.proofs.Passing.{both_true, either_true}
use Rattle.ada_meaning.specs.Program.{Program}
use Rattle.legal_laws.proofs.KnownBodies.{mapped_length}
use Rattle.legal_programs.specs.Homes.{AreHeaded}
use Rattle.legal_programs.specs.Walked.{IsLegal}
use Rattle.legal_programs.proofs.Headings.{are_headed}
use Rattle.legal_programs.proofs.MainUnit.{name_is}
use Rattle.legal_programs.proofs.Passed.{passed_part, passed_rule, passed_test}
use Rattle.legal_instances.specs.Ordered.{ComeInTurn, IsWholeOrder}
use Rattle.legal_instances.proofs.Cycles.{In, there_among, Step, leads_back_there}
use Rattle.legal_instances.proofs.Picking.{Ends, ends}
use Rattle.legal_instances.proofs.Sums.{same_length, there_too}

pub none_some : {X : Type 0} {x : X} → None ≡ Some x → ⊥
none_some e = cc

abbrev pub or_else : {X : Type 0} → X → Option X → X
or_else x None = x
or_else x (Some y) = y

-- which unit a name leads to, of units that are numbered from k on
pub record IsNamedAt (k : ℕ) (us : List LibraryUnit) (name : List ℕ) (m : ℕ) : Type 0 where
  pub at : ℕ
  pub unit : LibraryUnit
  pub is : m ≡ k + at
  pub there : slice_get us at ≡ Some unit
  pub no_body : is_package_body unit.item ≡ false
  pub name_fits : same_name name (key (item_name unit.item)) ≡ true

module _ (name : List ℕ) (m : ℕ) where
  later_named : (k : ℕ) (u : LibraryUnit) (us : List LibraryUnit) → IsNamedAt (k + 1) us name m → IsNamedAt k (u ∷ us) name m
  later_named k u us h =
      let is = h.is in
      record { at = suc h.at; unit = h.unit; is = omega (arith, is); there = h.there; no_body = h.no_body; name_fits = h.name_fits }

  named_if : (k : ℕ) (u : LibraryUnit) (us : List LibraryUnit) (b : Bool) → same_name name (key (item_name u.item)) ≡ b → is_package_body u.item ≡ false
      → (if b then Some k else unit_named (names_from (k + 1) us) name) ≡ Some m
      → (unit_named (names_from (k + 1) us) name ≡ Some m → IsNamedAt (k + 1) us name m) → IsNamedAt k (u ∷ us) name m
  named_if k u us true e body h later =
      let same : k ≡ m = ap (or_else k) h in
      record { at = 0; unit = u; is = omega (arith, same); there = refl; no_body = body; name_fits = e }
  named_if k u us false e body h later = later_named k u us (later h)

  named_by : (k : ℕ) (u : LibraryUnit) (us : List LibraryUnit) (i : LibraryItem) → u.item ≡ i → unit_named (with_unit k i (names_from (k + 1) us)) name ≡ Some m
      → (unit_named (names_from (k + 1) us) name ≡ Some m → IsNamedAt (k + 1) us name m) → IsNamedAt k (u ∷ us) name m
  named_by k u us (library.PackageBody b) e h later = later_named k u us (later h)
  named_by k u us (library.Package x) e h later =
      named_if k u us (same_name name (key (item_name (library.Package x)))) (ap (λ i. same_name name (key (item_name i))) e) (ap is_package_body e) h later
  named_by k u us (library.Instance x) e h later =
      named_if k u us (same_name name (key (item_name (library.Instance x)))) (ap (λ i. same_name name (key (item_name i))) e) (ap is_package_body e) h later
  named_by k u us (library.Subprogram x) e h later =
      named_if k u us (same_name name (key (item_name (library.Subprogram x)))) (ap (λ i. same_name name (key (item_name i))) e) (ap is_package_body e) h later

  pub named_at : (k : ℕ) (us : List LibraryUnit) → unit_named (names_from k us) name ≡ Some m → IsNamedAt k us name m
  named_at k [] h = absurd (none_some h)
  named_at k (u ∷ us) h = named_by k u us u.item refl h (named_at (k + 1) us)

-- such a unit is one of those that stand in the order
there_if : (b : Bool) (k n : ℕ) (ns : List ℕ) → (b ≡ false → In (k ∷ ns) n) → (b ≡ true → In ns n) → In (if b then ns else k ∷ ns) n
there_if true k n ns h g = g refl
there_if false k n ns h g = h refl

pub among_units : (k : ℕ) (us : List LibraryUnit) (at : ℕ) (u : LibraryUnit) → slice_get us at ≡ Some u → is_package_body u.item ≡ false
    → In (units_but_bodies k us) (k + at)
among_units k [] zero u h body = absurd (none_some h)
among_units k [] (suc at) u h body = absurd (none_some h)
among_units k (v ∷ us) zero u h body =
    let same : v ≡ u = ap (or_else v) h in
    let none : k ≡ k + 0 = omega (arith) in
    there_if (is_package_body v.item) k (k + 0) (units_but_bodies (k + 1) us) (λ e. inl none)
    (λ e. absurd (false≢true (sym body ∙ (sym (ap (λ x. is_package_body x.item) same) ∙ e))))
among_units k (v ∷ us) (suc at) u h body =
    let count : (k + 1) + at ≡ k + suc at = omega (arith) in
    let rest = subst (In (units_but_bodies (k + 1) us)) count (among_units (k + 1) us at u h body) in
    there_if (is_package_body v.item) k (k + suc at) (units_but_bodies (k + 1) us) (λ e. inr rest) (λ e. rest)

-- an edge of the graph comes from a name in a `with` clause
pub record IsEdge (names : List (List ℕ × ℕ)) (us : List LibraryUnit) (n m : ℕ) : Type 0 where
  pub unit : LibraryUnit
  pub there : slice_get us n ≡ Some unit
  pub no_body : is_package_body unit.item ≡ false
  pub by : Identifier
  pub clause : Somewhere (λ i. i ≡ by) (clause_names unit.withs)
  pub leads : unit_named names (key by) ≡ Some m

module _ (names : List (List ℕ × ℕ)) where
  record IsNumberOf (m : ℕ) (is : List Identifier) : Type 0 where
    by : Identifier
    clause : Somewhere (λ i. i ≡ by) is
    leads : unit_named names (key by) ≡ Some m

  number_later : (m : ℕ) (i : Identifier) (is : List Identifier) → IsNumberOf m is → IsNumberOf m (i ∷ is)
  number_later m i is h = record { by = h.by; clause = inr h.clause; leads = h.leads }

  numbers_none : (i : Identifier) (is : List Identifier) → unit_named names (key i) ≡ None → numbers_named names (i ∷ is) ≡ numbers_named names is
  numbers_none i is e = rw e refl

  numbers_some : (i : Identifier) (is : List Identifier) (k : ℕ) → unit_named names (key i) ≡ Some k → numbers_named names (i ∷ is) ≡ (k ∷ numbers_named names is)
  numbers_some i is k e = rw e refl

  number_of : (m : ℕ) (is : List Identifier) → In (numbers_named names is) m → IsNumberOf m is
  number_of m [] h = absurd h
  number_of m (i ∷ is) h = by_name (unit_named names (key i)) refl (number_of m is)
    where
      of_first : (k : ℕ) → unit_named names (key i) ≡ Some k → (k ≡ m) ⊎ In (numbers_named names is) m → (In (numbers_named names is) m → IsNumberOf m is)
          → IsNumberOf m (i ∷ is)
      of_first k e (inl f) later = record { by = i; clause = inl refl; leads = e ∙ ap Some f }
      of_first k e (inr g) later = number_later m i is (later g)

      by_name : (o : Option ℕ) → unit_named names (key i) ≡ o → (In (numbers_named names is) m → IsNumberOf m is) → IsNumberOf m (i ∷ is)
      by_name None e later = number_later m i is (later (subst (λ ns. In ns m) (numbers_none i is e) h))
      by_name (Some k) e later = of_first k e (subst (λ ns. In ns m) (numbers_some i is k e) h) later

  edge_from : (us : List LibraryUnit) (n m : ℕ) (u : LibraryUnit) → slice_get us n ≡ Some u → (b : Bool) → is_package_body u.item ≡ b
      → In (if b then [] else numbers_named names (clause_names u.withs)) m → IsEdge names us n m
  edge_from us n m u there true e h = absurd h
  edge_from us n m u there false e h =
      let number = number_of m (clause_names u.withs) h in
      record { unit = u; there = there; no_body = e; by = number.by; clause = number.clause; leads = number.leads }

  edge_later : (v : LibraryUnit) (us : List LibraryUnit) (n m : ℕ) → IsEdge names us n m → IsEdge names (v ∷ us) (suc n) m
  edge_later v us n m h =
      record { unit = h.unit; there = h.there; no_body = h.no_body; by = h.by; clause = h.clause; leads = h.leads }

  pub edge_of : (us : List LibraryUnit) (n m : ℕ) → In (edges (graph_of names us) n) m → IsEdge names us n m
  edge_of [] zero m h = absurd h
  edge_of [] (suc n) m h = absurd h
  edge_of (v ∷ us) zero m h = edge_from (v ∷ us) 0 m v refl (is_package_body v.item) refl h
  edge_of (v ∷ us) (suc n) m h = edge_later v us n m (edge_of us n m h)

-- headings, one by one
every_there : {X : Type 0} (P : X → Type 0) (xs : List X) (x : X) → Everywhere P xs → Somewhere (λ y. y ≡ x) xs → P x
every_there P [] x all h = absurd h
every_there P (y ∷ xs) x all (inl e) = subst P e all.0
every_there P (y ∷ xs) x all (inr h) = every_there P xs x all.1 h

module _ (l : Library) where
  abbrev May : ℕ → LibraryItem → Identifier → Type 0
  May n item i = (is_test_io i || may_name l n item (unit_named l.names (key i))) ≡ true

  all_may : (n : ℕ) (u : LibraryUnit) (is : List Identifier) → (all_named_in_with l n u is).answer ≡ Ok tt → Everywhere (May n u.item) is
  all_may n u [] h = tt
  all_may n u (i ∷ is) h =
      let first = passed_part u.pos (named_in_with l n u.item i).answer (λ x. all_named_in_with l n u is >>= (λ xs. rule (Some tt))) tt h in
      let rest = passed_part u.pos (all_named_in_with l n u is).answer (λ x. rule (Some tt)) tt first.rest in
      let test = passed_test (is_test_io i || may_name l n u.item (unit_named l.names (key i))) tt first.value
      (passed_rule i.pos (if is_test_io i || may_name l n u.item (unit_named l.names (key i)) then Some tt else None) first.value first.is) in
      (test.0, all_may n u is rest.is)

  pub record IsHeaded (n : ℕ) (u : LibraryUnit) : Type 0 where
    pub well : is_declared_well l n u.item ≡ true
    pub names : Everywhere (May n u.item) (clause_names u.withs)

  pub headed_at : (k : ℕ) (us : List LibraryUnit) (n : ℕ) (u : LibraryUnit) → AreHeaded l k us → slice_get us n ≡ Some u → IsHeaded (k + n) u
  headed_at k [] zero u h there = absurd (none_some there)
  headed_at k [] (suc n) u h there = absurd (none_some there)
  headed_at k (v ∷ us) zero u h there =
      let same : v ≡ u = ap (or_else v) there in
      let none : k ≡ k + 0 = omega (arith) in
      subst (λ m. IsHeaded m u) none
      (subst (IsHeaded k) same (record { well = h.0.0; names = all_may k v (clause_names v.withs) h.0.1 }))
  headed_at k (v ∷ us) (suc n) u h there =
      let count : (k + 1) + n ≡ k + suc n = omega (arith) in
      subst (λ m. IsHeaded m u) count (headed_at (k + 1) us n u h.1 there)

  pub headed_here : (us : List LibraryUnit) (n : ℕ) (u : LibraryUnit) → AreHeaded l 0 us → slice_get us n ≡ Some u → IsHeaded n u
  headed_here us n u h there = let none : 0 + n ≡ n = omega (arith) in subst (λ m. IsHeaded m u) none (headed_at 0 us n u h there)

  not_true : (b : Bool) → not b ≡ true → b ≡ true → ⊥
  not_true true h g = false≢true h
  not_true false h g = false≢true g

  -- no unit is named as Test_IO
  no_test_io : (n : ℕ) (i : LibraryItem) → is_package_body i ≡ false → is_declared_well l n i ≡ true → is_test_io (item_name i) ≡ true → ⊥
  no_test_io n (library.PackageBody b) body well test = false≢true (sym body)
  no_test_io n (library.Package x) body well test = not_true (is_test_io x.name) (both_true (not (is_test_io x.name)) _ well).0 test
  no_test_io n (library.Instance x) body well test = not_true (is_test_io x.name) (both_true (not (is_test_io x.name)) _ well).0 test
  no_test_io n (library.Subprogram x) body well test =
      not_true (is_test_io x.specification.name) (both_true (not (is_test_io x.specification.name)) _ well).0 test

  fails : (body back : Bool) → body ≡ false → back ≡ true → (e : Bool) → (body || not (e || back)) ≡ true → ⊥
  fails true back f g e h = false≢true (sym f)
  fails false true f g true h = false≢true h
  fails false true f g false h = false≢true h
  fails false false f g e h = false≢true g

  -- a name in a `with` clause leads to no unit that leads back
  no_way_back : (us : List LibraryUnit) → l.names ≡ names_from 0 us → AreHeaded l 0 us → l.is_ordered ≡ false → (n m : ℕ) → IsEdge l.names us n m
      → is_among (reached l.graph (length l.graph) (m ∷ [])) n ≡ true → ⊥
  no_way_back us names headed unordered n m e back =
      by_case (either_true (is_test_io e.by) (may_name l n e.unit.item (unit_named l.names (key e.by))) may)
    where
      may : May n e.unit.item e.by
      may = every_there (May n e.unit.item) (clause_names e.unit.withs) e.by (headed_here us n e.unit headed e.there).names e.clause

      named : IsNamedAt 0 us (key e.by) m
      named = named_at (key e.by) m 0 us (ap (λ ns. unit_named ns (key e.by)) (sym names) ∙ e.leads)

      by_case : (is_test_io e.by ≡ true) ⊎ (may_name l n e.unit.item (unit_named l.names (key e.by)) ≡ true) → ⊥
      by_case (inl test) =
          let same : key e.by ≡ key (item_name named.unit.item) = name_is (key e.by) (key (item_name named.unit.item)) named.name_fits in
          no_test_io named.at named.unit.item named.no_body (headed_here us named.at named.unit headed named.there).well
          (ap (λ k. same_name k (codes "test_io")) (sym same) ∙ test)
      by_case (inr h) =
          fails (is_package_body e.unit.item) (leads_back l.is_ordered l.graph m n) e.no_body
          (ap (λ b. leads_back b l.graph m n) unordered ∙ back) (nat_eq m n) (sym (ap (may_name l n e.unit.item) e.leads) ∙ h)

-- the order of a library
module _ (standard : Standard) (us : List LibraryUnit) where
  abbrev names : List (List ℕ × ℕ)
  names = names_from 0 us

  abbrev graph : List (List ℕ)
  graph = graph_of names us

  abbrev all_units : List ℕ
  all_units = units_but_bodies 0 us

  abbrev order : List ℕ
  order = ordered_from graph (length all_units) [] all_units

  its_ends : Ends graph [] all_units order
  its_ends = ends graph (length all_units) [] all_units (omega (arith))

  -- one of these that stands nowhere in the order
  record IsMissing (es : List ℕ) : Type 0 where
    to : ℕ
    step : In es to
    missing : is_among order to ≡ false

  missing_of : (es : List ℕ) → list_all (is_among order) es ≡ false → IsMissing es
  missing_of [] h = absurd (false≢true (sym h))
  missing_of (e ∷ es) h = by_first (is_among order e) refl h (missing_of es)
    where
      by_first : (b : Bool) → is_among order e ≡ b → (b && list_all (is_among order) es) ≡ false
          → (list_all (is_among order) es ≡ false → IsMissing es) → IsMissing (e ∷ es)
      by_first false g k rest = record { to = e; step = inl refl; missing = g }
      by_first true g k rest = let r = rest k in record { to = r.to; step = inr r.step; missing = r.missing }

  either_part : (xs ys : List ℕ) (n : ℕ) → In (xs ++ ys) n → In xs n ⊎ In ys n
  either_part [] ys n h = inr h
  either_part (x ∷ xs) ys n (inl e) = inl (inl e)
  either_part (x ∷ xs) ys n (inr h) = of_rest (either_part xs ys n h)
    where
      of_rest : In xs n ⊎ In ys n → In (x ∷ xs) n ⊎ In ys n
      of_rest (inl k) = inl (inr k)
      of_rest (inr k) = inr k

  -- so it names one that is left too
  step_left : (n : ℕ) → is_ready graph order n ≡ false → Step graph its_ends.left n
  step_left n stuck =
      let missing = missing_of (edges graph n) stuck in
      let edge = edge_of names us n missing.to missing.step in
      let named = named_at (key edge.by) missing.to 0 us edge.leads in
      let is = named.is in
      let inside = subst (In all_units) (sym is) (among_units 0 us named.at named.unit named.there named.no_body) in
      record {
        to = missing.to;
        step = missing.step;
        there = not_in_order missing.to missing.missing (either_part its_ends.more its_ends.left missing.to (there_too missing.to all_units (its_ends.more ++ its_ends.left) its_ends.same inside));
      }
    where
      not_in_order : (m : ℕ) → is_among order m ≡ false → In its_ends.more m ⊎ In its_ends.left m → In its_ends.left m
      not_in_order m none (inl k) = absurd (false≢true (sym none ∙ there_among order m (subst (λ ns. In ns m) (sym its_ends.is) k)))
      not_in_order m none (inr k) = k

  fewer_units : (k : ℕ) (vs : List LibraryUnit) → length (units_but_bodies k vs) ≤ length vs
  fewer_units k [] = omega (arith)
  fewer_units k (v ∷ vs) = by_test (is_package_body v.item) (fewer_units (k + 1) vs)
    where
      by_test : (b : Bool) → length (units_but_bodies (k + 1) vs) ≤ length vs
          → length (if b then units_but_bodies (k + 1) vs else k ∷ units_but_bodies (k + 1) vs) ≤ suc (length vs)
      by_test true h = omega (arith, h)
      by_test false h = omega (arith, h)

  every_at : (P : ℕ → Type 0) (xs : List ℕ) (n : ℕ) → Everywhere P xs → In xs n → P n
  every_at P xs n all h = every_there P xs n all h

  abbrev whole : Library
  whole = library_of standard us

  lengths : length all_units ≡ length order + length its_ends.left
  lengths =
      let all = same_length all_units (its_ends.more ++ its_ends.left) its_ends.same in
      let both = length-append its_ends.more its_ends.left in
      let order_is = ap length its_ends.is in
      omega (arith, all, both, order_is)

  unordered : (n : ℕ) → In its_ends.left n → whole.is_ordered ≡ false
  unordered n h = by_test (nat_eq (length order) (length all_units)) refl
    where
      some : (xs : List ℕ) → In xs n → 1 ≤ length xs
      some [] k = absurd k
      some (x ∷ xs) k = omega (arith)

      by_test : (b : Bool) → nat_eq (length order) (length all_units) ≡ b → b ≡ false
      by_test false e = refl
      by_test true e =
          let same = eqb-true (length order) (length all_units) e in
          let count = lengths in
          let one = some its_ends.left h in
          absurd (impossible (length order) (length all_units) (length its_ends.left) same count one)
        where
          impossible : (a b c : ℕ) → a ≡ b → b ≡ a + c → 1 ≤ c → ⊥
          impossible a b c f g k = omega (arith, f, g, k)

  none_left : AreHeaded whole 0 us → (n : ℕ) → In its_ends.left n → ⊥
  none_left headed n h =
      let count = lengths in
      let units = fewer_units 0 us in
      let size = mapped_length (edges_of names) us in
      let cycle = leads_back_there graph its_ends.left (λ m k. step_left m (every_at (λ j. is_ready graph order j ≡ false) its_ends.left m its_ends.stuck k))
      n h (length graph) (omega (arith, count, units, size)) in
      no_way_back whole us refl headed (unordered n h) cycle.from cycle.to (edge_of names us cycle.from cycle.to cycle.step) cycle.back

  pub order_is_whole : AreHeaded whole 0 us → IsWholeOrder whole
  order_is_whole headed = by_left its_ends.left refl
    where
      by_left : (xs : List ℕ) → its_ends.left ≡ xs → IsWholeOrder whole
      by_left [] e =
          let is = its_ends.is in record {
            units = λ weight. its_ends.same weight
                ∙ (ap (λ xs. sum_by weight (its_ends.more ++ xs)) e ∙ (ap (sum_by weight) (append-nil its_ends.more) ∙ ap (sum_by weight) (sym is)));
            turns = subst (ComeInTurn graph []) (sym is) its_ends.turns;
          }
      by_left (x ∷ xs) e = absurd (none_left headed x (subst (λ ys. In ys x) (sym e) (inl refl)))

  pub legal_order : (main : List ℕ) (p : Program) → IsLegal whole main p → IsWholeOrder whole
  legal_order main p is = order_is_whole (are_headed whole 0 us is.walk.headings)
