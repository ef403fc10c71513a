-- Behind the walk over what other units see, each instance of the text was made once, and stands beside its facts.
use Rattle.std.proofs.Common.{◌≡◌, ℕ, Bool, true, false, List, [], ◌∷◌, ◌++◌, Option, Some, None, IfOk, slice_get, refl, sym, ap, subst, inl, inr}
use Rattle.ada_syntax.specs.declared.unit.LibraryItem.{LibraryItem}
use Rattle.ada_syntax.specs.declared.unit.LibraryItem.TheVariants as library
use Rattle.ada_syntax.specs.declared.unit.Unit.{Unit as LibraryUnit}
use Rattle.ada_rules.specs.Denoted.{nowhere}
use Rattle.ada_rules.specs.Entities.{key, hidden, unit}
use Rattle.ada_rules.specs.Environment.{typing, World, State}
use Rattle.ada_rules.specs.Library.{Library, is_instance}
use Rattle.ada_rules.specs.Plan.{◌>>=◌, rule}
use Rattle.ada_rules.specs.Units.{env_of, Walked, seen_in, interface_judged, interface_at, all_interfaces}
use Rattle.legal_laws.proofs.Passing.{answered, part_so, weaker_ok}
use Rattle.legal_instances.specs.Ordered.{HaveSameItems}
use Rattle.legal_instances.proofs.Cycles.{In}
use Rattle.legal_instances.proofs.KeptWalk.{is_instance_there, with_instance_unit, instances_among, AreMadeSo, IsQuiet, quiet_so, package_quiet, library_quiet, instance_made_so}
use Rattle.legal_instances.proofs.Sums.{same_both, to_front}

-- each number of a list stands in it once
abbrev pub StandOnce : List ℕ → Type 0
StandOnce [] = Unit {0}
StandOnce (n ∷ ns) = (In ns n → ⊥) × StandOnce ns

module _ (l : Library) where
  abbrev Made : List ℕ → Walked → Type 0
  Made ks x = AreMadeSo l.units ks x

  interface_so : (ks : List ℕ) (w : World) (s : State) (n : ℕ) (u : LibraryUnit) (i : LibraryItem) → slice_get l.units n ≡ Some u → u.item ≡ i → (In ks n → ⊥)
      → Made ks (record { world = w; next = s }) → IfOk (interface_judged typing l w s n u i).answer (Made (with_instance_unit n (is_instance i) ks))
  interface_so ks w s n u (library.Package x) there e new h =
      weaker_ok (IsQuiet w s) (Made ks) (interface_judged typing l w s n u (library.Package x)).answer
      (package_quiet (env_of typing w n (key x.name) (seen_in w l u (unit n))) s u.item_pos n x) (λ y q. quiet_so l.units ks w s y q h)
  interface_so ks w s n u (library.Instance i) there e new h =
      instance_made_so l.units ks (env_of typing w n (key i.name) (seen_in w l u hidden)) s u.item_pos n n i
      (record { unit = u; there = there; is = ap is_instance e }) refl refl new h
  interface_so ks w s n u (library.Subprogram b) there e new h =
      weaker_ok (IsQuiet w s) (Made ks) (interface_judged typing l w s n u (library.Subprogram b)).answer
      (library_quiet (env_of typing w n (key b.specification.name) (seen_in w l u hidden)) s n b) (λ y q. quiet_so l.units ks w s y q h)
  interface_so ks w s n u (library.PackageBody b) there e new h = h

  interface_at_so : (ks : List ℕ) (x : Walked) (n : ℕ) (o : Option LibraryUnit) → slice_get l.units n ≡ o → (In ks n → ⊥) → Made ks x
      → IfOk (interface_at typing l x n o).answer (Made (with_instance_unit n (is_instance_there o) ks))
  interface_at_so ks x n None there new h = h
  interface_at_so ks x n (Some u) there new h =
      answered (Made (with_instance_unit n (is_instance u.item) ks)) u.pos _
      (part_so (Made (with_instance_unit n (is_instance u.item) ks)) (Made (with_instance_unit n (is_instance u.item) ks))
      (interface_judged typing l x.world x.next n u u.item).answer (λ y. rule (Some y))
      (interface_so ks x.world x.next n u u.item there refl new h) (λ y k. k))

  -- with the units of instances, in the order in which they were made
  pub record MakesAll (ns ks : List ℕ) (y : Walked) : Type 0 where
    pub keys : List ℕ
    pub same : HaveSameItems keys (instances_among l.units ns ++ ks)
    pub made : Made keys y

  still_new : (b : Bool) (n m : ℕ) (ks : List ℕ) → (n ≡ m → ⊥) → (In ks m → ⊥) → In (with_instance_unit n b ks) m → ⊥
  still_new true n m ks other new (inl e) = other e
  still_new true n m ks other new (inr h) = new h
  still_new false n m ks other new h = new h

  all_new : (b : Bool) (n : ℕ) (ns ks : List ℕ) → (In ns n → ⊥) → ((m : ℕ) → In (n ∷ ns) m → In ks m → ⊥) → (m : ℕ) → In ns m → In (with_instance_unit n b ks) m → ⊥
  all_new b n ns ks once new m there h =
      still_new b n m ks (λ e. once (subst (In ns) (sym e) there)) (λ k. new m (inr there) k) h

  pub same_so : (b : Bool) (n : ℕ) (ns ks : List ℕ) → HaveSameItems (ns ++ with_instance_unit n b ks) (with_instance_unit n b ns ++ ks)
  same_so true n ns ks = to_front ns n ks
  same_so false n ns ks = λ weight. refl

  pub interfaces_so : (ks : List ℕ) (x : Walked) (ns : List ℕ) → StandOnce ns → ((m : ℕ) → In ns m → In ks m → ⊥) → Made ks x
      → IfOk (all_interfaces typing l x ns).answer (MakesAll ns ks)
  interfaces_so ks x [] once new h = record { keys = ks; same = λ weight. refl; made = h }
  interfaces_so ks x (n ∷ ns) once new h =
      let b = is_instance_there (slice_get l.units n) in
      answered (MakesAll (n ∷ ns) ks) nowhere _
      (part_so (Made (with_instance_unit n b ks)) (MakesAll (n ∷ ns) ks) (interface_at typing l x n (slice_get l.units n)).answer
      (λ y. all_interfaces typing l y ns >>= (λ rest. rule (Some rest)))
      (interface_at_so ks x n (slice_get l.units n) refl (λ k. new n (inl refl) k) h)
      (λ y k. part_so (MakesAll ns (with_instance_unit n b ks)) (MakesAll (n ∷ ns) ks) (all_interfaces typing l y ns).answer (λ rest. rule (Some rest))
      (interfaces_so (with_instance_unit n b ks) y ns once.1 (all_new b n ns ks once.0 new) k)
      (λ rest r. record {
        keys = r.keys;
        same = same_both r.keys (instances_among l.units ns ++ with_instance_unit n b ks) (with_instance_unit n b (instances_among l.units ns) ++ ks)
            r.same (same_so b n (instances_among l.units ns) ks);
        made = r.made;
      })))
