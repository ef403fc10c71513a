-- Type definitions in the step of types: the type that is defined is known beside those before.
use Rattle.std.proofs.Common.{◌≡◌, ◌≤◌, ◌+◌, ℕ, pos, ◌-ℤ◌, int_le, true, if◌then◌else◌, List, [], ◌∷◌, length, Option, Some, None, IfOk, refl, sym, subst, arith, inl, inr}
use Rattle.std.proofs.lemmas.Int.{ints}
use Rattle.cov_base.specs.declared.position.Pos.{Pos}
use Rattle.cov_base.specs.Lists.{Everywhere}
use Rattle.ada_syntax.specs.declared.declaration.Component.{Component}
use Rattle.ada_syntax.specs.declared.declaration.TypeDefinition.{TypeDefinition}
use Rattle.ada_syntax.specs.declared.declaration.TypeDefinition.TheVariants as definition
use Rattle.ada_syntax.specs.declared.name.Identifier.{Identifier}
use Rattle.ada_meaning.specs.Arithmetic.{base_range, is_within}
use Rattle.ada_meaning.specs.Program.{Program}
use Rattle.ada_meaning.specs.Shape.{Shape}
use Rattle.ada_meaning.specs.Statics.{in_base, bounds_between}
use Rattle.ada_meaning.specs.Tree as tree
use Rattle.ada_meaning.specs.WellFormed.{HasChoice}
use Rattle.ada_rules.specs.Plan.{◌>>=◌, rule}
use Rattle.ada_rules.specs.Types.{Identity, AdaType, integer_type, enumeration, array_type, record_type, AdaSubtype, of_type, Fields, identity_of, type_in, base, is_integral, subtype_in_tree}
use Rattle.ada_rules.specs.Entities.{key, Entity, literal, component, Region, redefined}
use Rattle.ada_rules.specs.Environment.{State, Given, given, Env, with_local, opened, hide_all}
use Rattle.ada_rules.specs.Declarations.{bounded, indicated, index_of, with_fields, all_as, fields_of, Defined, literals, enumerated, unchanged, defined}
use Rattle.ada_rules.specs.Limits.{words_in, most_words_of_type}
use Rattle.ada_rules.specs.Statics.{Facts}
use Rattle.legal_laws.specs.Kept.{OnlyStatics}
use Rattle.legal_laws.specs.Known.{AreApart, HasField, IsKnownType, IsKnownSubtype, AreKnownFields, IsEntity, IsRegion, IsEnv}
use Rattle.legal_laws.specs.Served.{Serves}
use Rattle.legal_laws.specs.Standing.{with_type}
use Rattle.legal_laws.specs.Valued.{AreOrdered, AreFactsInBase, HaveFacts}
use Rattle.legal_laws.specs.Written.{most_literals, AreComponents, IsDefinition}
use Rattle.legal_laws.proofs.Passing.{answered, part_so}
use Rattle.legal_laws.proofs.KeptStatics.{statics_both}
use Rattle.legal_laws.proofs.KnownRegions.{all_hidden_known, redefined_known, local_known, opened_known}
use Rattle.legal_laws.proofs.KnownStatics.{IsBounded, bounded_known, IsIndicated, indicated_known, IsIndex, index_known}
use Rattle.legal_laws.proofs.Lengths.{length_there}
use Rattle.legal_laws.proofs.Wider.{subtype_wider, fields_wider, region_wider}

named_fields : (is : List Identifier) (t : AdaSubtype) (fs : Fields) → HasChoice is → HasField (with_fields is t fs)
named_fields [] t fs some = absurd some
named_fields (i ∷ is) t fs some = tt

-- literals are numbered from 0
position_in_base : (n : ℕ) → n + 1 ≤ most_literals → is_within base_range (pos n) ≡ true
position_in_base n few = grind (arith, ints, few)

last_in_base : (n : ℕ) → 1 ≤ n → n ≤ most_literals → is_within base_range (pos n -ℤ pos 1) ≡ true
last_in_base n some few = grind (arith, ints, some, few)

first_to_last : (n : ℕ) → 1 ≤ n → int_le (pos 0) (pos n -ℤ pos 1) ≡ true
first_to_last n some = grind (arith, ints, some)

literals_ordered : (n : ℕ) → 1 ≤ n → n ≤ most_literals → AreOrdered (bounds_between (in_base (pos 0)) (in_base (pos n -ℤ pos 1)))
literals_ordered n some few =
    subst (λ b. AreOrdered (bounds_between (Some (pos 0)) (if b then Some (pos n -ℤ pos 1) else None))) (sym (last_in_base n some few))
    ((refl, last_in_base n some few), first_to_last n some)

module _ (p : Program) (facts : List Facts) (has : HaveFacts p.instances facts) (are : Everywhere AreFactsInBase facts) (inst : ℕ) (shape_of : tree.Object → Shape)
    (declared : AdaType → Type 0) (apart : AreApart p declared) (Sees : tree.Object → Type 0) where
  abbrev Places : Env → Type 0
  Places env = IsEnv p inst declared shape_of Sees env

  abbrev Regions : Region → Type 0
  Regions region = IsRegion p inst declared shape_of Sees region

  all_as_known : (x : Entity) (region : Region) (is : List Identifier) → IsEntity p inst declared shape_of Sees x → Regions region → Regions (all_as x region is)
  all_as_known x region [] h all = all
  all_as_known x region (i ∷ is) h all =
      all_as_known x (redefined (key i) x region) is h (redefined_known p inst declared shape_of Sees (key i) x region h all)

  with_fields_known : (is : List Identifier) (t : AdaSubtype) (fs : Fields) → IsKnownSubtype p inst declared t → AreKnownFields p inst declared fs
      → AreKnownFields p inst declared (with_fields is t fs)
  with_fields_known [] t fs h all = all
  with_fields_known (i ∷ is) t fs h all = (h, with_fields_known is t fs h all)

  -- the components of a record
  pub record AreFieldsOf (generic : Option ℕ) (s : State) (cs : List Component) (g : Given Fields) : Type 0 where
    pub only : OnlyStatics s g.next
    pub before : Serves facts inst generic g.next → Serves facts inst generic s
    pub fields : Serves facts inst generic g.next → AreKnownFields p inst declared g.value
    pub filled : AreComponents cs → HasField g.value

  pub fields_known : (env : Env) (s : State) (q : Pos) (cs : List Component) → Places env → Everywhere AreFactsInBase env.world.instances
      → IfOk (fields_of env s q cs).answer (AreFieldsOf env.generic s cs)
  fields_known env s q [] is world = record { only = refl; before = λ all. all; fields = λ all. tt; filled = λ some. absurd some }
  fields_known env s q (c ∷ cs) is world =
      answered (AreFieldsOf env.generic s (c ∷ cs)) q _
      (part_so Regions (AreFieldsOf env.generic s (c ∷ cs)) (hide_all q env.local c.names).answer
      (λ names. indicated (with_local env names) s c.indication
      >>= (λ t. fields_of (with_local env (all_as component names c.names)) t.next q cs
      >>= (λ fs. rule (Some (given (with_fields c.names t.value fs.value) fs.next)))))
      (all_hidden_known p inst declared shape_of Sees q env.local c.names is.regions.0)
      (λ names h. part_so (IsIndicated p facts has are inst declared apart shape_of Sees (with_local env names)
      (local_known p inst declared shape_of Sees env names is h) world s) (AreFieldsOf env.generic s (c ∷ cs))
      (indicated (with_local env names) s c.indication).answer
      (λ t. fields_of (with_local env (all_as component names c.names)) t.next q cs
      >>= (λ fs. rule (Some (given (with_fields c.names t.value fs.value) fs.next))))
      (indicated_known p facts has are inst declared apart shape_of Sees (with_local env names) (local_known p inst declared shape_of Sees env names is h) world s c.indication)
      (λ t k. part_so (AreFieldsOf env.generic t.next cs) (AreFieldsOf env.generic s (c ∷ cs))
      (fields_of (with_local env (all_as component names c.names)) t.next q cs).answer
      (λ fs. rule (Some (given (with_fields c.names t.value fs.value) fs.next)))
      (fields_known (with_local env (all_as component names c.names)) t.next q cs
      (local_known p inst declared shape_of Sees env (all_as component names c.names) is (all_as_known component names c.names tt h)) world)
      (λ fs l. record {
        only = statics_both s t.next fs.next k.only l.only;
        before = λ all. k.before (l.before all);
        fields = λ all. with_fields_known c.names t.value fs.value (k.subtype (l.before all)) (l.fields all);
        filled = λ some. named_fields c.names t.value fs.value some;
      }))))

  -- the literals of an enumeration
  module _ (more : AdaType → Type 0) where
    literals_known : (t : AdaType) (n count : ℕ) (region : Region) (is : List Identifier) → IsKnownType p inst more t → n + length is ≡ count
        → count ≤ most_literals → IsRegion p inst more shape_of Sees region → IsRegion p inst more shape_of Sees (literals t n region is)
    literals_known t n count region [] h e few all = all
    literals_known t n count region (i ∷ is) h e few all =
        literals_known t (n + 1) count (redefined (key i) (literal t (pos n)) region) is h (omega (arith, e)) few
        (redefined_known p inst more shape_of Sees (key i) (literal t (pos n)) region (h, position_in_base n (omega (arith, e, few))) all)

  -- a type definition: the type has the identity that it is given
  pub record IsDefined (generic : Option ℕ) (s : State) (i : Identity) (g : Given Defined) : Type 0 where
    pub only : OnlyStatics s g.next
    pub before : Serves facts inst generic g.next → Serves facts inst generic s
    pub identity : identity_of (type_in g.value.subtype) ≡ i
    pub known : Serves facts inst generic g.next → words_in facts inst (subtype_in_tree g.value.subtype) ≤ most_words_of_type
        → IsKnownSubtype p inst (with_type declared (type_in g.value.subtype)) g.value.subtype
    pub region : IsRegion p inst (with_type declared (type_in g.value.subtype)) shape_of Sees g.value.region

  more_regions : (u : AdaType) (region : Region) → Regions region → IsRegion p inst (with_type declared u) shape_of Sees region
  more_regions u region h = region_wider p inst declared (with_type declared u) (λ t k. inl k) shape_of Sees Sees (λ o k. k) region h

  more_subtype : (u : AdaType) (t : AdaSubtype) → IsKnownSubtype p inst declared t → IsKnownSubtype p inst (with_type declared u) t
  more_subtype u t h = subtype_wider p inst declared (with_type declared u) (λ t k. inl k) t h

  enumeration_defined : (generic : Option ℕ) (s : State) (i : Identity) (names : List Identifier) (region : Region) → Regions region → 1 ≤ length names
      → length names ≤ most_literals → IsDefined generic s i (given (enumerated i region names) s)
  enumeration_defined generic s i names region h some few =
      let type = enumeration i (length names) in
      record {
        only = refl;
        before = λ all. all;
        identity = refl;
        known = λ all small. (literals_ordered (length names) some few, inr refl);
        region = literals_known (with_type declared type) type 0 (length names) region names (inr refl) (omega (arith)) few (more_regions type region h);
      }

  module _ (env : Env) (is : Places env) (world : Everywhere AreFactsInBase env.world.instances) where
    pub defined_known : (s : State) (q : Pos) (i : Identity) (d : TypeDefinition) → IsDefinition d → IfOk (defined env s q i d).answer (IsDefined env.generic s i)
    defined_known s q i (definition.Integer b) written =
        answered (IsDefined env.generic s i) q _
        (part_so (IsBounded p facts has are inst declared apart shape_of Sees env is world s) (IsDefined env.generic s i) (bounded env s is_integral base b).answer
        (λ r. rule (Some (unchanged env.local (of_type (integer_type i) r.value) r.next)))
        (bounded_known p facts has are inst declared apart shape_of Sees env is world s is_integral base b)
        (λ r h. record {
          only = h.only;
          before = h.before;
          identity = refl;
          known = λ all small. (h.ordered all, inr refl);
          region = more_regions (integer_type i) env.local is.regions.0;
        }))
    defined_known s q i (definition.Enumeration names) written =
        answered (IsDefined env.generic s i) q _
        (part_so Regions (IsDefined env.generic s i) (hide_all q env.local names).answer (λ region. rule (Some (given (enumerated i region names) s)))
        (all_hidden_known p inst declared shape_of Sees q env.local names is.regions.0)
        (λ region h. enumeration_defined env.generic s i names region h written.0 written.1))
    defined_known s q i (definition.Array r c) written =
        answered (IsDefined env.generic s i) q _
        (part_so (IsIndex p facts has are inst declared apart shape_of Sees env is world s) (IsDefined env.generic s i) (index_of env s r).answer
        (λ x. indicated env x.next c >>= (λ t. rule (Some (unchanged env.local (of_type (array_type i x.value t.value) base) t.next))))
        (index_known p facts has are inst declared apart shape_of Sees env is world s r)
        (λ x h. part_so (IsIndicated p facts has are inst declared apart shape_of Sees env is world x.next) (IsDefined env.generic s i) (indicated env x.next c).answer
        (λ t. rule (Some (unchanged env.local (of_type (array_type i x.value t.value) base) t.next)))
        (indicated_known p facts has are inst declared apart shape_of Sees env is world x.next c)
        (λ t k. record {
          only = statics_both s x.next t.next h.only k.only;
          before = λ all. h.before (k.before all);
          identity = refl;
          known = λ all small. (
            ((refl, refl), refl),
            (
              inr refl,
              (
                more_subtype (array_type i x.value t.value) x.value (h.subtype (k.before all)),
                (
                  h.scalar,
                  (
                    length_there p facts has inst declared x.value t.value (h.subtype (k.before all)) (k.subtype all) small,
                    more_subtype (array_type i x.value t.value) t.value (k.subtype all),
                  ),
                ),
              ),
            ),
          );
          region = more_regions (array_type i x.value t.value) env.local is.regions.0;
        })))
    defined_known s q i (definition.Record cs) written =
        answered (IsDefined env.generic s i) q _
        (part_so (AreFieldsOf env.generic s cs) (IsDefined env.generic s i) (fields_of (opened env) s q cs).answer
        (λ fs. rule (Some (unchanged env.local (of_type (record_type i fs.value) base) fs.next)))
        (fields_known (opened env) s q cs (opened_known p inst declared shape_of Sees env is) world)
        (λ fs h. record {
          only = h.only;
          before = h.before;
          identity = refl;
          known = λ all small. (
            ((refl, refl), refl),
            (
              inr refl,
              (
                h.filled written,
                fields_wider p inst declared (with_type declared (record_type i fs.value)) (λ t k. inl k) fs.value (h.fields all),
              ),
            ),
          );
          region = more_regions (record_type i fs.value) env.local is.regions.0;
        }))
