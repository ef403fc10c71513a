-- The answers on limits are exact, and the copies of a program weigh no more than its nodes.
use Rattle.std.proofs.Common.{◌≡◌, ℕ, zero, suc, ◌+◌, ◌*◌, ◌≤◌, ◌<◌, Bool, true, false, List, [], ◌∷◌, ◌++◌, length, map, sum_by, Option, Some, None, option_map, slice_get, if◌then◌else◌, refl, sym, ap, subst, ◌∙◌, arith}
use Rattle.std.specs.Prelude.{nat_eq, nat_lt, unwrap_or}
use Rattle.std.proofs.lemmas.Bool.Decides.{nat_tests}
use Rattle.std.proofs.lemmas.List.{append_assoc, length-append}
use Rattle.std.proofs.lemmas.List.Sums.{get_or-le-sum_by, sum_by-append, sum_by-cons, sum_by-le-sum_by, sum_by_push}
use Rattle.std.proofs.lemmas.Option.{get_or_from_slice_get, slice_get_within}
use Rattle.cov_base.specs.declared.position.Pos.{Pos}
use Rattle.ada_meaning.specs.Bodies.{StandsIn, instances_from, instances_of}
use Rattle.ada_meaning.specs.Program as meaning
use Rattle.ada_tree.specs.Programs.{instance_of, types_of}
use Rattle.ada_tree.specs.Weights.{IsWeighed, bodies_weight, exceptions_in, in_instance, stands_in, text_nodes, type_nodes, types_weight as types_in, unit_nodes_in}
use Rattle.ada_tree.specs.Weights as text
use Rattle.ada_tree.specs.declared.program.ExceptionDeclaration.{ExceptionDeclaration}
use Rattle.ada_tree.specs.declared.program.Instance.{Instance}
use Rattle.ada_tree.specs.declared.program.Program.{Program}
use Rattle.ada_tree.specs.declared.program.Subprogram.{Subprogram}
use Rattle.ada_tree.specs.declared.program.UnitEntry.{UnitEntry}
use Rattle.ada_tree.specs.declared.program.UnitRole.{UnitRole}
use Rattle.ada_tree.specs.declared.program.UnitRole.TheVariants.{Once, OfGeneric, InstanceOf}
use Rattle.ada_tree.specs.declared.types.TypeDeclaration.{TypeDeclaration}
use Rattle.generic_expand.specs.Copying.{copy_in, in_instances, of_subprogram, of_subprograms}
use Rattle.generic_expand.specs.Expanded.{expanded_nodes, first_past, generic_nodes, instance_limit, instances_in, node_limit, nodes_in, past_instances, past_nodes}
use Rattle.generic_expand.specs.Limits.{PassesFirst, copies_weight, declared_copies, exception_count, instance_count, node_count, types_weight, weight_of}
use Rattle.generic_expand.proofs.Copying.{of_all}

-- a count over units that is stopped at the first one with which it passes the limit
abbrev past : (UnitEntry → ℕ) → (limit n : ℕ) → List UnitEntry → Option Pos
past count limit n [] = None
past count limit n (u ∷ us) = if nat_lt limit (n + count u) then Some u.pos else past count limit (n + count u) us

module _ (count : UnitEntry → ℕ) (limit : ℕ) where
  within : (n : ℕ) (us : List UnitEntry) → n ≤ limit → past count limit n us ≡ None → n + sum_by count us ≤ limit
  within n [] low none = omega (arith, low)
  within n (u ∷ us) low none =
      let rest = by_test (λ low none. within (n + count u) us low none) (nat_lt limit (n + count u)) refl none in
      omega (arith, rest, sum_by-cons count u us)
    where
      by_test : (n + count u ≤ limit → past count limit (n + count u) us ≡ None → n + count u + sum_by count us ≤ limit)
          → (b : Bool) → nat_lt limit (n + count u) ≡ b → (if b then Some u.pos else past count limit (n + count u) us) ≡ None → n + count u + sum_by count us ≤ limit
      by_test later true e found = absurd (let x : ⊥ = cc found in x)
      by_test later false e found = later (grind (arith, nat_tests)) found

  first : (before : List UnitEntry) (n : ℕ) (us : List UnitEntry) (p : Pos) → n ≡ sum_by count before → n ≤ limit → past count limit n us ≡ Some p
      → PassesFirst count limit (before ++ us) p
  first before n [] p is low found = absurd (let x : ⊥ = cc found in x)
  first before n (u ∷ us) p is low found =
      by_test (λ at low found. first (before ++ u ∷ []) (n + count u) us p at low found) (nat_lt limit (n + count u)) refl found
    where
      by_test : (n + count u ≡ sum_by count (before ++ u ∷ []) → n + count u ≤ limit → past count limit (n + count u) us ≡ Some p → PassesFirst count limit ((before ++ u ∷ []) ++ us) p)
          → (b : Bool) → nat_lt limit (n + count u) ≡ b → (if b then Some u.pos else past count limit (n + count u) us) ≡ Some p → PassesFirst count limit (before ++ u ∷ us) p
      by_test more true e here = record {
        before = before;
        unit = u;
        behind = us;
        all = refl;
        within = omega (arith, is, low);
        past = let beyond : limit < n + count u = grind (arith, nat_tests) in omega (arith, is, beyond);
        stands = let q : u.pos ≡ p = cc here in sym q;
      }
      by_test more false e later =
          subst (λ xs. PassesFirst count limit xs p) (append_assoc before (u ∷ []) us)
          (more (omega (arith, is, sum_by_push count before u)) (grind (arith, nat_tests)) later)

-- the counts of instances and of nodes are such ones
instances_are : (n : ℕ) (us : List UnitEntry) → past_instances n us ≡ past (λ u. instances_in u.role) instance_limit n us
instances_are n [] = refl
instances_are n (u ∷ us) = ap (λ o. if nat_lt instance_limit (n + instances_in u.role) then Some u.pos else o) (instances_are (n + instances_in u.role) us)

nodes_are : (all : List UnitEntry) (n : ℕ) (us : List UnitEntry) → past_nodes all n us ≡ past (λ u. expanded_nodes all u.role u.nodes) node_limit n us
nodes_are all n [] = refl
nodes_are all n (u ∷ us) =
    ap (λ o. if nat_lt node_limit (n + expanded_nodes all u.role u.nodes) then Some u.pos else o) (nodes_are all (n + expanded_nodes all u.role u.nodes) us)

pub few_instances : (us : List UnitEntry) → past_instances 0 us ≡ None → instance_count us ≤ instance_limit
few_instances us none = omega (arith, within (λ u. instances_in u.role) instance_limit 0 us (omega arith) (sym (instances_are 0 us) ∙ none))

pub many_instances : (us : List UnitEntry) (p : Pos) → past_instances 0 us ≡ Some p → PassesFirst (λ u. instances_in u.role) instance_limit us p
many_instances us p found = first (λ u. instances_in u.role) instance_limit [] 0 us p refl (omega arith) (sym (instances_are 0 us) ∙ found)

pub few_nodes : (us : List UnitEntry) → first_past 0 us ≡ None → node_count us ≤ node_limit
few_nodes us none = omega (arith, within (λ u. expanded_nodes us u.role u.nodes) node_limit 0 us (omega arith) (sym (nodes_are us 0 us) ∙ none))

pub many_nodes : (us : List UnitEntry) (p : Pos) → first_past 0 us ≡ Some p → PassesFirst (λ u. expanded_nodes us u.role u.nodes) node_limit us p
many_nodes us p found = first (λ u. expanded_nodes us u.role u.nodes) node_limit [] 0 us p refl (omega arith) (sym (nodes_are us 0 us) ∙ found)

-- a product with one more
one_more : (w n : ℕ) (xs : List ℕ) → w * length (n ∷ xs) ≡ w + w * length xs
one_more w n xs = grind arith

-- the nodes of a generic are those of its text
generic_text : (g : ℕ) (us : List UnitEntry) → generic_nodes g us ≡ text_nodes (Some g) us
generic_text g [] = refl
generic_text g (u ∷ us) =
    (λ i. same u.role i + generic_text g us i) ∙ sym (sum_by-cons (λ v. unit_nodes_in (Some g) v.role v.nodes) u us)
  where
    same : (r : UnitRole) → nodes_in g r u.nodes ≡ unit_nodes_in (Some g) r u.nodes
    same Once = refl
    same (OfGeneric h) = refl
    same (InstanceOf h) = refl

-- the nodes of the expanded program are those of the text in no generic, and for each instance those of its generic
expanded_text : (all us : List UnitEntry)
    → sum_by (λ u. expanded_nodes all u.role u.nodes) us ≡ text_nodes None us + text.in_instances (λ g. text_nodes (Some g) all) us
expanded_text all [] = refl
expanded_text all (u ∷ us) =
    omega (
      arith,
      sum_by-cons (λ v. expanded_nodes all v.role v.nodes) u us,
      sum_by-cons (λ v. unit_nodes_in None v.role v.nodes) u us,
      sum_by-cons (λ v. in_instance (λ g. text_nodes (Some g) all) v.role) u us,
      expanded_text all us,
      one u.role,
    )
  where
    one : (r : UnitRole) → expanded_nodes all r u.nodes ≡ unit_nodes_in None r u.nodes + in_instance (λ g. text_nodes (Some g) all) r
    one Once = omega arith
    one (OfGeneric g) = refl
    one (InstanceOf g) = ap (λ n. u.nodes + n) (generic_text g all)

-- What stands in generics, by the instances in which it is copied.
module _ {X : Type 0} (generic : X → Option ℕ) (weight : X → ℕ) where
  abbrev in_text : Option ℕ → X → ℕ
  in_text g x = if stands_in g (generic x) then weight x else 0

  abbrev in_each : List meaning.Instance → X → ℕ
  in_each is x = sum_by (λ (i : meaning.Instance). in_text (Some i.generic) x) is

  abbrev times : Option ℕ → List meaning.Instance → ℕ
  times g is = length (instances_of g is)

  -- one item in no generic has one copy
  none_zero : (x : X) (is : List meaning.Instance) → generic x ≡ None → in_each is x ≡ 0
  none_zero x [] none = refl
  none_zero x (i ∷ is) none =
      omega (
        arith,
        sum_by-cons (λ (j : meaning.Instance). in_text (Some j.generic) x) i is,
        none_zero x is none,
        ap (λ g. if stands_in (Some i.generic) g then weight x else 0) none,
      )

  -- one in a generic has one for each instance of it
  some_each : (x : X) (g n : ℕ) (is : List meaning.Instance) → generic x ≡ Some g → weight x * length (instances_from g n is) ≡ in_each is x
  some_each x g n [] some = omega arith
  some_each x g n (i ∷ is) some =
      by_test (nat_eq i.generic g) (some_each x g (n + 1) is some)
      ∙ ap (λ o. (if stands_in (Some i.generic) o then weight x else 0) + in_each is x) (sym some)
      ∙ sym (sum_by-cons (λ (j : meaning.Instance). in_text (Some j.generic) x) i is)
    where
      by_test : (b : Bool) → weight x * length (instances_from g (n + 1) is) ≡ in_each is x
          → weight x * length (if b then n ∷ instances_from g (n + 1) is else instances_from g (n + 1) is)
          ≡ (if b then weight x else 0) + in_each is x
      by_test true rest = one_more (weight x) n (instances_from g (n + 1) is) ∙ ap (λ k. weight x + k) rest
      by_test false rest = omega (arith, rest)

  one_copied : (x : X) (is : List meaning.Instance) → weight x * times (generic x) is ≡ in_text None x + in_each is x
  one_copied x is = by_case (generic x) refl
    where
      by_case : (o : Option ℕ) → generic x ≡ o → weight x * times o is ≡ (if stands_in None o then weight x else 0) + in_each is x
      by_case None e = omega (arith, none_zero x is e)
      by_case (Some g) e = omega (arith, some_each x g 1 is e)

  abbrev of_text : Option ℕ → List X → ℕ
  of_text g xs = sum_by (in_text g) xs

  -- all items in one instance after the other
  abbrev of_instances : List meaning.Instance → List X → ℕ
  of_instances is xs = sum_by (λ (i : meaning.Instance). of_text (Some i.generic) xs) is

  no_item : (is : List meaning.Instance) → of_instances is [] ≡ 0
  no_item [] = refl
  no_item (i ∷ is) = omega (arith, sum_by-cons (λ (j : meaning.Instance). of_text (Some j.generic) []) i is, no_item is)

  next_item : (x : X) (xs : List X) (is : List meaning.Instance) → of_instances is (x ∷ xs) ≡ in_each is x + of_instances is xs
  next_item x xs [] = refl
  next_item x xs (i ∷ is) =
      omega (
        arith,
        sum_by-cons (λ (j : meaning.Instance). of_text (Some j.generic) (x ∷ xs)) i is,
        sum_by-cons (λ (j : meaning.Instance). of_text (Some j.generic) xs) i is,
        sum_by-cons (λ (j : meaning.Instance). in_text (Some j.generic) x) i is,
        sum_by-cons (in_text (Some i.generic)) x xs,
        next_item x xs is,
      )

  all_copied : (xs : List X) (is : List meaning.Instance) → sum_by (λ x. weight x * times (generic x) is) xs ≡ of_text None xs + of_instances is xs
  all_copied [] is = omega (arith, no_item is)
  all_copied (x ∷ xs) is =
      omega (
        arith,
        sum_by-cons (λ y. weight y * times (generic y) is) x xs,
        one_copied x is,
        all_copied xs is,
        sum_by-cons (in_text None) x xs,
        next_item x xs is,
      )

-- the instances of a program are those that its units are
abbrev AreInstancesOf : List UnitEntry → List meaning.Instance → Type 0
AreInstancesOf us is = (count : ℕ → ℕ) → sum_by (λ (i : meaning.Instance). count i.generic) is ≡ text.in_instances count us

-- then the text in no generic and that of each instance's generic are all of the expanded program
whole_text : (is : List meaning.Instance) (us : List UnitEntry) → AreInstancesOf us is
    → text_nodes None us + sum_by (λ (i : meaning.Instance). text_nodes (Some i.generic) us) is ≡ node_count us
whole_text is us instances = omega (arith, instances (λ g. text_nodes (Some g) us), expanded_text us us)

-- what weighs no more than the text of its generic does so in all instances
each_below : (count : Option ℕ → ℕ) (us : List UnitEntry) → ((g : Option ℕ) → count g ≤ text_nodes g us) → (is : List meaning.Instance)
    → sum_by (λ (i : meaning.Instance). count (Some i.generic)) is ≤ sum_by (λ (i : meaning.Instance). text_nodes (Some i.generic) us) is
each_below count us within is =
    sum_by-le-sum_by (λ (i : meaning.Instance). count (Some i.generic)) (λ (i : meaning.Instance). text_nodes (Some i.generic) us) is (λ i. within (Some i.generic))

-- where items weigh no more than the text, generic by generic, their copies weigh no more than the nodes of the expanded program
pub items_within : {X : Type 0} (generic : X → Option ℕ) (weight : X → ℕ) (xs : List X) (is : List meaning.Instance) (us : List UnitEntry)
    → ((g : Option ℕ) → sum_by (λ x. if stands_in g (generic x) then weight x else 0) xs ≤ text_nodes g us)
    → ((count : ℕ → ℕ) → sum_by (λ (i : meaning.Instance). count i.generic) is ≡ text.in_instances count us)
    → sum_by (λ x. weight x * length (instances_of (generic x) is)) xs ≤ node_count us
items_within generic weight xs is us within instances =
    omega (
      arith,
      all_copied generic weight xs is,
      within None,
      each_below (λ g. of_text generic weight g xs) us within is,
      whole_text is us instances,
    )

-- an item of a list adds to its sum
part_of : {X : Type 0} (f : X → ℕ) (xs : List X) (m : ℕ) (x : X) → slice_get xs m ≡ Some x → f x ≤ sum_by f xs
part_of f xs m x at =
    subst (λ y. f y ≤ sum_by f xs) (get_or_from_slice_get xs m x x at) (get_or-le-sum_by f xs m x (slice_get_within xs m x at))

-- then one of them that has a copy weighs no more than these nodes
pub one_within : {X : Type 0} (generic : X → Option ℕ) (weight : X → ℕ) (xs : List X) (p : meaning.Program) (us : List UnitEntry)
    → ((g : Option ℕ) → sum_by (λ x. if stands_in g (generic x) then weight x else 0) xs ≤ text_nodes g us)
    → ((count : ℕ → ℕ) → sum_by (λ (i : meaning.Instance). count i.generic) p.instances ≡ text.in_instances count us)
    → (m inst : ℕ) (x : X) → slice_get xs m ≡ Some x → StandsIn p (generic x) inst → weight x ≤ node_count us
one_within generic weight xs p us within instances m inst x at stands =
    omega (arith, by_generic (generic x) refl inst stands, whole_text p.instances us instances)
  where
    -- it is part of the text of its generic
    of_own : (o : Option ℕ) → generic x ≡ o → stands_in o o ≡ true → weight x ≤ text_nodes o us
    of_own o is own =
        let counts : in_text generic weight o x ≡ weight x = ap (λ y. if stands_in o y then weight x else 0) is ∙ ap (λ b. if b then weight x else 0) own in
        omega (arith, counts, part_of (in_text generic weight o) xs m x at, within o)

    by_generic : (o : Option ℕ) → generic x ≡ o → (inst : ℕ) → StandsIn p o inst
        → weight x ≤ text_nodes None us + sum_by (λ (i : meaning.Instance). text_nodes (Some i.generic) us) p.instances
    by_generic None is inst stands = omega (arith, of_own None is refl)
    by_generic (Some g) is zero stands = absurd stands
    by_generic (Some g) is (suc k) stands = of_instance (slice_get p.instances k) refl stands
      where
        of_instance : (o : Option meaning.Instance) → slice_get p.instances k ≡ o → option_map (λ (i : meaning.Instance). i.generic) o ≡ Some g
            → weight x ≤ text_nodes None us + sum_by (λ (i : meaning.Instance). text_nodes (Some i.generic) us) p.instances
        of_instance None at none = absurd (let no : ⊥ = cc none in no)
        of_instance (Some i) at some =
            let own : i.generic ≡ g = ap (λ (o : Option ℕ). unwrap_or o g) some in
            let text = ap (λ (h : ℕ). text_nodes (Some h) us) own in
            omega (
              arith,
              of_own (Some g) is (grind (arith, nat_tests)),
              text,
              part_of (λ (i : meaning.Instance). text_nodes (Some i.generic) us) p.instances k i at,
            )

-- the copies of one body
module _ (weight : Subprogram → ℕ) (p : Program) where
  copies_in : (m g n w : ℕ) (is : List Instance) → ((c : ℕ) → weight_of weight p (copy_in c m) ≡ w)
      → sum_by (weight_of weight p) (in_instances m g n is) ≡ w * length (instances_from g (n + 1) (map instance_of is))
  copies_in m g n w [] are = omega arith
  copies_in m g n w (i ∷ is) are = by_test (nat_eq i.generic g) (copies_in m g (n + 1) w is are)
    where
      by_test : (b : Bool) → sum_by (weight_of weight p) (in_instances m g (n + 1) is) ≡ w * length (instances_from g (n + 1 + 1) (map instance_of is))
          → sum_by (weight_of weight p) ((if b then copy_in (n + 1) m ∷ [] else []) ++ in_instances m g (n + 1) is)
          ≡ w * length (if b then (n + 1) ∷ instances_from g (n + 1 + 1) (map instance_of is) else instances_from g (n + 1 + 1) (map instance_of is))
      by_test true rest =
          sum_by-cons (weight_of weight p) (copy_in (n + 1) m) (in_instances m g (n + 1) is) ∙ (λ k. are (n + 1) k + rest k)
          ∙ sym (one_more w (n + 1) (instances_from g (n + 1 + 1) (map instance_of is)))
      by_test false rest = rest

  copies_by : (m w : ℕ) (g : Option ℕ) (is : List Instance) → ((c : ℕ) → weight_of weight p (copy_in c m) ≡ w)
      → sum_by (weight_of weight p) (of_subprogram m g is) ≡ w * length (instances_of g (map instance_of is))
  copies_by m w None is are = let one = are 0 in omega (arith, one)
  copies_by m w (Some g) is are = copies_in m g 0 w is are

  copies_from : (front ss : List Subprogram) (m : ℕ) (is : List Instance) → p.subprograms ≡ front ++ ss → m ≡ length front
      → sum_by (weight_of weight p) (of_subprograms m ss is) ≡ sum_by (λ s. weight s * length (instances_of s.generic (map instance_of is))) ss
  copies_from front [] m is all at = refl
  copies_from front (s ∷ ss) m is all at =
      sum_by-append (weight_of weight p) (of_subprogram m s.generic is) (of_subprograms (m + 1) ss is)
      ∙ (λ k. copies_by m (weight s) s.generic is here k
      + copies_from (front ++ s ∷ []) ss (m + 1) is (all ∙ sym (append_assoc front (s ∷ []) ss)) (omega (arith, at, length-append front (s ∷ []))) k)
      ∙ sym (sum_by-cons (λ t. weight t * length (instances_of t.generic (map instance_of is))) s ss)
    where
      found : (xs ys : List Subprogram) → slice_get (xs ++ s ∷ ys) (length xs) ≡ Some s
      found [] ys = refl
      found (x ∷ xs) ys = found xs ys

      here : (c : ℕ) → weight_of weight p (copy_in c m) ≡ weight s
      here c = (λ k. unwrap_or (option_map weight (slice_get (all k) (at k))) 0) ∙ ap (λ o. unwrap_or (option_map weight o) 0) (found front ss)

  copies_are : copies_weight weight p ≡ sum_by (λ s. weight s * length (instances_of s.generic (map instance_of p.instances))) p.subprograms
  copies_are =
      ap (sum_by (weight_of weight p)) (sym (of_all (types_of p.types) 0 p.subprograms p.instances))
      ∙ copies_from [] p.subprograms 0 p.instances refl refl

  once_each : (ds : List ExceptionDeclaration) → sum_by (λ d. declared_copies p d.generic) ds ≡ sum_by (λ d. 1 * declared_copies p d.generic) ds
  once_each [] = refl
  once_each (d ∷ ds) =
      omega (
        arith,
        sum_by-cons (λ e. declared_copies p e.generic) d ds,
        sum_by-cons (λ e. 1 * declared_copies p e.generic) d ds,
        once_each ds,
      )

  -- bodies, types and exceptions of a generic together
  abbrev together : Option ℕ → ℕ
  together g = bodies_weight weight g p.subprograms + types_in weight g p.types + exceptions_in g p.declared

  -- in all instances they are those of each kind
  all_together : (is : List meaning.Instance)
      → of_instances (λ (s : Subprogram). s.generic) weight is p.subprograms + of_instances (λ (t : TypeDeclaration). t.generic) type_nodes is p.types
      + of_instances (λ (d : ExceptionDeclaration). d.generic) (λ d. 1) is p.declared
      ≡ sum_by (λ (i : meaning.Instance). together (Some i.generic)) is
  all_together [] = omega arith
  all_together (i ∷ is) =
      omega (
        arith,
        sum_by-cons (λ (j : meaning.Instance). of_text (λ (s : Subprogram). s.generic) weight (Some j.generic) p.subprograms) i is,
        sum_by-cons (λ (j : meaning.Instance). of_text (λ (t : TypeDeclaration). t.generic) type_nodes (Some j.generic) p.types) i is,
        sum_by-cons (λ (j : meaning.Instance). of_text (λ (d : ExceptionDeclaration). d.generic) (λ d. 1) (Some j.generic) p.declared) i is,
        sum_by-cons (λ (j : meaning.Instance). together (Some j.generic)) i is,
        all_together is,
      )

  -- an instance that is typed is seen with its generic
  seen_instances : (count : ℕ → ℕ) (is : List Instance)
      → sum_by (λ (i : meaning.Instance). count i.generic) (map instance_of is) ≡ sum_by (λ (i : Instance). count i.generic) is
  seen_instances count [] = refl
  seen_instances count (i ∷ is) =
      omega (
        arith,
        sum_by-cons (λ (j : meaning.Instance). count j.generic) (instance_of i) (map instance_of is),
        sum_by-cons (λ (j : Instance). count j.generic) i is,
        seen_instances count is,
      )

  pub copies_within : IsWeighed weight p → copies_weight weight p + types_weight p + exception_count p ≤ node_count p.units
  copies_within weighed =
      let is = map instance_of p.instances in
      omega (
        arith,
        copies_are,
        all_copied (λ (s : Subprogram). s.generic) weight p.subprograms is,
        all_copied (λ (t : TypeDeclaration). t.generic) type_nodes p.types is,
        once_each p.declared,
        all_copied (λ (d : ExceptionDeclaration). d.generic) (λ d. 1) p.declared is,
        weighed.text None,
        all_together is,
        each_below together p.units weighed.text is,
        whole_text is p.units (λ count. seen_instances count p.instances ∙ weighed.instances count),
      )
