-- The walk over what other units see keeps that nothing looks further than what was declared before, and that each instance has
-- the values of the constants that its generic had.
use Rattle.std.proofs.Common.{◌≡◌, ℕ, zero, suc, pred, nat_eq, Bool, true, false, List, [], ◌∷◌, reverse, Option, Some, None, IfOk, set, slice_get, is_some, refl, sym, ap, ◌∙◌, subst, arith, inl, inr}
use Rattle.std.specs.Prelude.{◌||◌, unwrap_or}
use Rattle.std.specs.List.{list_any}
use Rattle.std.proofs.lemmas.Bool.{eqb-true, eq-eqb, false≢true}
use Rattle.cov_base.specs.Lists.{Everywhere}
use Rattle.cov_base.specs.declared.position.Pos.{Pos}
use Rattle.ada_syntax.specs.declared.unit.Formal.{Formal}
use Rattle.ada_syntax.specs.declared.unit.PackageSpecification.{PackageSpecification}
use Rattle.ada_syntax.specs.declared.unit.SubprogramBody.{SubprogramBody}
use Rattle.ada_syntax.specs.declared.unit.Unit.{Unit as LibraryUnit}
use Rattle.ada_meaning.specs.Program.{GenericConstant, Instance}
use Rattle.ada_meaning.specs.Statics.{constant_values, constants_of}
use Rattle.ada_rules.specs.Entities.{Region}
use Rattle.ada_rules.specs.Environment.{typing, Interface, no_interface, generic_interface, World, interface_of, State, Given, Env}
use Rattle.ada_rules.specs.Instances.{formals_declared}
use Rattle.ada_rules.specs.Library.{instance_number}
use Rattle.ada_rules.specs.Plan.{◌>>=◌, rule}
use Rattle.ada_rules.specs.Statics.{Asked, Facts, instance_values}
use Rattle.ada_rules.specs.Subprograms.{specified, declared_only, closed_by}
use Rattle.ada_rules.specs.Units.{env_of, generic_at, package_items, interface_with, Walked, with_interface, at_unit, formals_in, in_package, in_specification, with_package, package_judged, with_subprogram, library_routine, library_subprogram}
use Rattle.legal_laws.specs.Valued.{AreFactsInBase}
use Rattle.legal_laws.proofs.Passing.{answered, part_so, any_answer, both_ok, every_so}
use Rattle.legal_programs.specs.Growing.{IsLonger}
use Rattle.legal_programs.proofs.Adding.{Add, adds_both}
use Rattle.legal_programs.proofs.Extending.{specified_adds, items_add, formals_add}
use Rattle.legal_programs.proofs.ExtendingUnits.{adds_at_unit}
use Rattle.legal_programs.proofs.Lists.{longer_same, longer_both}
use Rattle.legal_instances.specs.Within.{Made, had_by, AreConstantsWithin, IsRegionWithin, own_of, IsInterfaceWithin, IsWorldWithin}
use Rattle.legal_instances.proofs.Cycles.{In}
use Rattle.legal_instances.proofs.InstanceNumbers.{IsInstanceAt, set_others}
use Rattle.legal_instances.proofs.KeptInstances.{AreKept}
use Rattle.legal_instances.proofs.KeptInterfaces.{StandOnce}
use Rattle.legal_instances.proofs.FormedActuals.{AreFormed}
use Rattle.legal_instances.proofs.KeptWalk.{AreMadeSo, IsQuiet, quiet_so, quiet_adds}
use Rattle.legal_instances.proofs.ValuesAgree.{AreListWithin}
use Rattle.legal_instances.proofs.WithinBodies.{RegionSo, ProfileSo, specified_so, items_so}
use Rattle.legal_instances.proofs.WithinFormals.{formals_so}
use Rattle.legal_instances.proofs.WithinMore.{IsMore, own_grown, region_more, region_on, goes_same, here_next, here_local}
use Rattle.legal_instances.proofs.WithinStatics.{GivesSo}
use Rattle.legal_instances.proofs.WithinWorld.{unit_here, package_here, interface_more}

-- instances that were made, of units with these numbers
abbrev pub made_by : List LibraryUnit → List ℕ → List Facts → Made
made_by us ks facts = record { is_made = λ i. list_any (λ n. nat_eq (instance_number n us) i) ks; count = had_by facts }

pub record IsMadeFrom (us : List LibraryUnit) (ks : List ℕ) (i : ℕ) : Type 0 where
  pub key : ℕ
  pub there : In ks key
  pub number : instance_number key us ≡ i

pub made_from : (us : List LibraryUnit) (ks : List ℕ) (i : ℕ) → list_any (λ n. nat_eq (instance_number n us) i) ks ≡ true → IsMadeFrom us ks i
made_from us [] i h = absurd (false≢true h)
made_from us (n ∷ ks) i h = by_first (nat_eq (instance_number n us) i) refl h (made_from us ks i)
  where
    by_first : (b : Bool) → nat_eq (instance_number n us) i ≡ b → (b || list_any (λ m. nat_eq (instance_number m us) i) ks) ≡ true
        → (list_any (λ m. nat_eq (instance_number m us) i) ks ≡ true → IsMadeFrom us ks i) → IsMadeFrom us (n ∷ ks) i
    by_first true e k rest = record { key = n; there = inl refl; number = eqb-true (instance_number n us) i e }
    by_first false e k rest = let r = rest k in record { key = r.key; there = inr r.there; number = r.number }

pub key_made : (us : List LibraryUnit) (ks : List ℕ) (n : ℕ) → In ks n → list_any (λ m. nat_eq (instance_number m us) (instance_number n us)) ks ≡ true
key_made us [] n h = absurd h
key_made us (m ∷ ks) n (inl e) =
    ap (λ b. b || list_any (λ j. nat_eq (instance_number j us) (instance_number n us)) ks)
    (eq-eqb (instance_number m us) (instance_number n us) (ap (λ j. instance_number j us) e))
key_made us (m ∷ ks) n (inr h) = either_way (nat_eq (instance_number m us) (instance_number n us)) _ (key_made us ks n h)
  where
    either_way : (a b : Bool) → b ≡ true → (a || b) ≡ true
    either_way true b k = refl
    either_way false b k = k

pub key_instance : (us : List LibraryUnit) (facts : List Facts) (ds : List Asked) (is : List Instance) (ks : List ℕ) (n : ℕ) → AreKept us facts ds is ks → In ks n → IsInstanceAt us n
key_instance us facts ds [] [] n h there = absurd there
key_instance us facts ds [] (k ∷ ks) n h there = absurd h
key_instance us facts ds (i ∷ is) [] n h there = absurd h
key_instance us facts ds (i ∷ is) (k ∷ ks) n h (inl e) = subst (IsInstanceAt us) e h.0.at
key_instance us facts ds (i ∷ is) (k ∷ ks) n h (inr there) = key_instance us facts ds is ks n h.1 there

-- each instance has the values of the constants that its generic had when it was made
pub record IsValued (us : List LibraryUnit) (ks : List ℕ) (facts : List Facts) (cs : List GenericConstant) (n : ℕ) : Type 0 where
  pub has : Facts
  pub there : slice_get facts (pred (instance_number n us)) ≡ Some has
  pub earlier : List GenericConstant
  pub longer : IsLonger earlier cs
  pub values : has.constants ≡ constant_values (instance_values facts) (instance_number n us) [] (constants_of has.generic (reverse earlier))
  pub pre : Made
  pub unmade : pre.is_made (instance_number n us) ≡ false
  pub more : IsMore pre (made_by us ks facts)
  pub within : AreListWithin pre 0 (constants_of has.generic (reverse earlier))

-- behind the units that were looked at, before others
pub record IsReady (us : List LibraryUnit) (ks ns : List ℕ) (x : Walked) : Type 0 where
  pub made : AreMadeSo us ks x
  pub world : IsWorldWithin (made_by us ks x.world.instances) x.world x.next.constants_declared
  pub valued : Everywhere (IsValued us ks x.world.instances x.next.constants_declared) ks
  pub fresh : (m : ℕ) → In ns m → interface_of x.world m ≡ no_interface
  pub unmade : (m : ℕ) → In ns m → IsInstanceAt us m → had_by x.world.instances (instance_number m us) ≡ 0
  pub apart : (m : ℕ) → In ns m → In ks m → ⊥
  pub base : Everywhere AreFactsInBase x.world.instances
  pub formed : AreFormed (made_by us ks x.world.instances) x.world.instances x.next.instances_declared

-- what is seen of a unit is set
not_generic : (w : World) (n g : ℕ) (formals region : Region) → interface_of w n ≡ no_interface → interface_of w g ≡ generic_interface formals region → n ≡ g → ⊥
not_generic w n g formals region fresh e same = cc (sym fresh ∙ (ap (interface_of w) same ∙ e))

set_either : {X : Type 0} (P : Option X → Type 0) (xs : List X) (n : ℕ) (x : X) → P (Some x) → P None → P (slice_get (set xs n x) n)
set_either P [] zero x h k = k
set_either P [] (suc n) x h k = k
set_either P (y ∷ xs) zero x h k = h
set_either P (y ∷ xs) (suc n) x h k = set_either P xs n x h k

module _ (had more : Made) (grown : IsMore had more) (w : World) (cs ds : List GenericConstant) (longer : IsLonger cs ds) (n : ℕ) (i : Interface) (fs : List Facts)
    (fresh : interface_of w n ≡ no_interface) where
  abbrev pub with_both : World
  with_both = record w { interfaces = set w.interfaces n i; instances = fs }

  pub other_same : (m : ℕ) → (n ≡ m → ⊥) → interface_of with_both m ≡ interface_of w m
  other_same m other = ap (λ o. unwrap_or o no_interface) (set_others w.interfaces n m i other)

  pub generic_same : (g : ℕ) (formals region : Region) → interface_of w g ≡ generic_interface formals region → interface_of with_both g ≡ generic_interface formals region
  generic_same g formals region e = other_same g (not_generic w n g formals region fresh e) ∙ e

  pub set_world : IsWorldWithin had w cs → AreConstantsWithin more ds → IsInterfaceWithin more with_both ds n i → IsWorldWithin more with_both ds
  set_world is all own = record {
    interfaces = λ m. by_number m (nat_eq n m) refl;
    constants = all;
    predefined = region_more had more grown false false (λ e. e) 0 0 (omega (arith)) w.standard.predefined is.predefined;
    test_io = region_more had more grown false false (λ e. e) 0 0 (omega (arith)) w.standard.test_io_declarations is.test_io;
  }
    where
      by_number : (m : ℕ) (b : Bool) → nat_eq n m ≡ b → IsInterfaceWithin more with_both ds m (interface_of with_both m)
      by_number m true e =
          subst (λ j. IsInterfaceWithin more with_both ds j (interface_of with_both j)) (eqb-true n m e)
          (set_either (λ o. IsInterfaceWithin more with_both ds n (unwrap_or o no_interface)) w.interfaces n i own tt)
      by_number m false e =
          subst (IsInterfaceWithin more with_both ds m) (sym (other_same m (λ same. false≢true (sym e ∙ eq-eqb n m same))))
          (interface_more had more grown w with_both cs ds longer generic_same m (interface_of w m) (is.interfaces m))

-- a unit that is no instance
pub record Stepped (had : Made) (w : World) (s : State) (n : ℕ) (y : Walked) : Type 0 where
  pub quiet : IsQuiet w s y
  pub world : IsWorldWithin had y.world y.next.constants_declared
  pub longer : IsLonger s.constants_declared y.next.constants_declared
  pub others : (m : ℕ) → (n ≡ m → ⊥) → interface_of y.world m ≡ interface_of w m

module _ (had : Made) (w : World) (s : State) (is : IsWorldWithin had w s.constants_declared) (n : ℕ) (fresh : interface_of w n ≡ no_interface) where
  -- a package or a generic
  formals_there : (name : List ℕ) (region : Region) (p : Pos) (o : Option (List Formal)) → IsRegionWithin had false 0 region
      → IfOk (formals_declared (in_package (env_of typing w n name region) (generic_at o n) n []) (at_unit s) p 0 (formals_in o)).answer
      (GivesSo had (generic_at o n) (RegionSo had (generic_at o n)) (at_unit s))
  formals_there name region p None h = record { goes = goes_same had None (at_unit s) (at_unit s) refl is.constants; value = tt }
  formals_there name region p (Some fs) h =
      formals_so had (in_package (env_of typing w n name region) (Some n) n []) (at_unit s) p 0 fs refl
      (package_here had w s.constants_declared is (Some n) n n name region [] (at_unit s) refl h tt)

  interface_there : (o : Option (List Formal)) (cs : List GenericConstant) (v : World) (formals region : Region) → IsRegionWithin had (is_some (generic_at o n)) (own_of (generic_at o n) cs) formals
      → IsRegionWithin had (is_some (generic_at o n)) (own_of (generic_at o n) cs) region → IsInterfaceWithin had v cs n (interface_with o formals region)
  interface_there None cs v formals region h k = k
  interface_there (Some fs) cs v formals region h k = (h, k)

  pub package_stepped : (name : List ℕ) (region : Region) (p : Pos) (x : PackageSpecification) → IsRegionWithin had false 0 region
      → IfOk (package_judged (env_of typing w n name region) s p n x).answer (Stepped had w s n)
  package_stepped name region p x h =
      answered (Stepped had w s n) p _
      (part_so (λ f. Add (at_unit s) f × GivesSo had o (RegionSo had o) (at_unit s) f) (Stepped had w s n) (formals_declared (in_specification env n x []) (at_unit s) p 0 (formals_in x.formals)).answer
      (λ formals. package_items (in_specification env n x formals.value) formals.next p x.items
      >>= (λ own. closed_by p x.name x.end_name >>= (λ end. rule (Some (with_package env n x formals.value own)))))
      (both_ok (Add (at_unit s)) (GivesSo had o (RegionSo had o) (at_unit s)) (formals_declared (in_specification env n x []) (at_unit s) p 0 (formals_in x.formals)).answer
      (formals_add (in_specification env n x []) (at_unit s) p 0 (formals_in x.formals)) (formals_there name region p x.formals h))
      (λ formals f. part_so (λ r. Add formals.next r × GivesSo had o (RegionSo had o) formals.next r) (Stepped had w s n) (package_items (in_specification env n x formals.value) formals.next p x.items).answer
      (λ own. closed_by p x.name x.end_name >>= (λ end. rule (Some (with_package env n x formals.value own))))
      (both_ok (Add formals.next) (GivesSo had o (RegionSo had o) formals.next) (package_items (in_specification env n x formals.value) formals.next p x.items).answer
      (items_add (in_specification env n x formals.value) formals.next p x.items)
      (items_so had (in_specification env n x formals.value) formals.next p x.items
      (here_local had (in_specification env n x []) formals.next formals.value
      (here_next had (in_specification env n x []) (at_unit s) formals.next
      (package_here had w s.constants_declared is o n n name region [] (at_unit s) refl h tt) f.1.goes) f.1.value)))
      (λ own r. part_so (λ u. Unit {0}) (Stepped had w s n) (closed_by p x.name x.end_name).answer
      (λ end. rule (Some (with_package env n x formals.value own))) (any_answer (closed_by p x.name x.end_name).answer)
      (λ end u. stepped formals own f.0 f.1 r.0 r.1))))
    where
      env : Env
      env = env_of typing w n name region

      o : Option ℕ
      o = generic_at x.formals n

      stepped : (formals own : Given Region) → Add (at_unit s) formals → GivesSo had o (RegionSo had o) (at_unit s) formals → Add formals.next own
          → GivesSo had o (RegionSo had o) formals.next own → Stepped had w s n (with_package env n x formals.value own)
      stepped formals own a f b r =
          let all = adds_both s (at_unit s) own.next (adds_at_unit s) (adds_both (at_unit s) formals.next own.next a b) in
          record {
            quiet = quiet_adds w s (with_package env n x formals.value own) own.next refl all refl refl;
            world = set_world had had (own_grown had) w s.constants_declared own.next.constants_declared all.constants n (interface_with x.formals formals.value own.value) w.instances fresh is
                r.goes.constants
                (interface_there x.formals own.next.constants_declared (with_interface w n (interface_with x.formals formals.value own.value)) formals.value own.value
                (region_on had (is_some o) (own_of o formals.next.constants_declared) (own_of o own.next.constants_declared) r.goes.more formals.value f.value) r.value);
            longer = all.constants;
            others = other_same had had (own_grown had) w s.constants_declared own.next.constants_declared all.constants n (interface_with x.formals formals.value own.value) w.instances fresh;
          }

  -- a library subprogram
  pub library_stepped : (name : List ℕ) (region : Region) (b : SubprogramBody) → IsRegionWithin had false 0 region
      → IfOk (library_subprogram (env_of typing w n name region) s n b).answer (Stepped had w s n)
  library_stepped name region b h =
      answered (Stepped had w s n) b.specification.pos _
      (part_so (λ q. Add (at_unit s) q × GivesSo had None (ProfileSo had None) (at_unit s) q) (Stepped had w s n) (specified (env_of typing w n name region) (at_unit s) b.specification).answer
      (λ q. rule (Some (with_subprogram w n (library_routine (env_of typing w n name region) b q.value) (declared_only s q.next))))
      (both_ok (Add (at_unit s)) (GivesSo had None (ProfileSo had None) (at_unit s)) (specified (env_of typing w n name region) (at_unit s) b.specification).answer
      (specified_adds (env_of typing w n name region) (at_unit s) b.specification)
      (specified_so had (env_of typing w n name region) (at_unit s) b.specification (unit_here had w s.constants_declared is n name region (at_unit s) refl h)))
      (λ q k. let all = adds_both s (at_unit s) q.next (adds_at_unit s) k.0 in
      let i = library_routine (env_of typing w n name region) b q.value in
      record {
        quiet = quiet_adds w s (with_subprogram w n i (declared_only s q.next)) q.next refl all refl refl;
        world = set_world had had (own_grown had) w s.constants_declared q.next.constants_declared all.constants n i w.instances fresh is k.1.goes.constants
            (record { parameters = k.1.value.parameters; result = k.1.value.result });
        longer = all.constants;
        others = other_same had had (own_grown had) w s.constants_declared q.next.constants_declared all.constants n i w.instances fresh;
      }))

  pub body_stepped : Stepped had w s n (record { world = w; next = s })
  body_stepped = record {
    quiet = record { facts = refl; demands = longer_same s.demands s.demands refl; declared = refl };
    world = is;
    longer = longer_same s.constants_declared s.constants_declared refl;
    others = λ m other. refl;
  }

module _ (us : List LibraryUnit) where
  valued_longer : (ks : List ℕ) (facts : List Facts) (cs ds : List GenericConstant) → IsLonger cs ds → (n : ℕ) → IsValued us ks facts cs n → IsValued us ks facts ds n
  valued_longer ks facts cs ds longer n h = record {
    has = h.has;
    there = h.there;
    earlier = h.earlier;
    longer = longer_both h.earlier cs ds h.longer longer;
    values = h.values;
    pre = h.pre;
    unmade = h.unmade;
    more = h.more;
    within = h.within;
  }

  pub ready_next : (ks ns : List ℕ) (w : World) (s : State) (n : ℕ) (y : Walked) → StandOnce (n ∷ ns) → IsReady us ks (n ∷ ns) (record { world = w; next = s })
      → Stepped (made_by us ks w.instances) w s n y → IsReady us ks ns y
  ready_next ks ns w s n y once h st =
      let cs = y.next.constants_declared in record {
        made = quiet_so us ks w s y st.quiet h.made;
        world = subst (λ fs. IsWorldWithin (made_by us ks fs) y.world cs) (sym st.quiet.facts) st.world;
        valued = subst (λ fs. Everywhere (IsValued us ks fs cs) ks) (sym st.quiet.facts)
            (every_so (IsValued us ks w.instances s.constants_declared) (IsValued us ks w.instances cs) ks (valued_longer ks w.instances s.constants_declared cs st.longer) h.valued);
        fresh = λ m there. st.others m (λ e. once.0 (subst (In ns) (sym e) there)) ∙ h.fresh m (inr there);
        unmade = λ m there at. ap (λ fs. had_by fs (instance_number m us)) st.quiet.facts ∙ h.unmade m (inr there) at;
        apart = λ m there k. h.apart m (inr there) k;
        base = subst (Everywhere AreFactsInBase) (sym st.quiet.facts) h.base;
        formed = subst (λ fs. AreFormed (made_by us ks fs) fs y.next.instances_declared) (sym st.quiet.facts)
            (subst (AreFormed (made_by us ks w.instances) w.instances) (sym st.quiet.declared) h.formed);
      }
