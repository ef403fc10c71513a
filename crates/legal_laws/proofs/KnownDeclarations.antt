-- Declarations of a subprogram or a block in the step of types: what they declare is well-formed, and known behind them.
use Rattle.std.proofs.Common.{◌≡◌, ◌≤◌, ◌<◌, ◌+◌, ℕ, Bool, true, false, if◌then◌else◌, is_some, List, [], ◌∷◌, ◌++◌, length, Option, Some, None, option_map, IfSome, IfOk, refl, sym, ap, ◌∙◌, subst, arith, inl, inr, le_refl}
use Rattle.std.proofs.lemmas.Bool.{false≢true}
use Rattle.cov_base.specs.declared.position.Pos.{Pos}
use Rattle.cov_base.specs.Lists.{Everywhere}
use Rattle.ada_syntax.specs.declared.declaration.Constancy.{Constancy}
use Rattle.ada_syntax.specs.declared.declaration.Declaration.{Declaration}
use Rattle.ada_syntax.specs.declared.declaration.DeclarationKind.{DeclarationKind}
use Rattle.ada_syntax.specs.declared.declaration.DeclarationKind.TheVariants as declares
use Rattle.ada_syntax.specs.declared.declaration.Initial.{Initial}
use Rattle.ada_syntax.specs.declared.name.Identifier.{Identifier}
use Rattle.ada_meaning.specs.Program.{ExceptionDeclaration, Program}
use Rattle.ada_meaning.specs.Resolved.{rank_of, owner_in}
use Rattle.ada_meaning.specs.Shape.{Shape}
use Rattle.ada_meaning.specs.Tree as tree
use Rattle.ada_meaning.specs.Types.{here, of_instance}
use Rattle.ada_meaning.specs.WellFormed.{IsException, behind, behind_all, AreDeclarations, IsValue}
use Rattle.ada_rules.specs.Plan.{Plan, ◌>>=◌, rule}
use Rattle.ada_rules.specs.Types.{AdaType, AdaSubtype, type_in}
use Rattle.ada_rules.specs.Entities.{key, mark, raisable, Region, redefined}
use Rattle.ada_rules.specs.Environment.{typed_rule, State, Given, Env, with_local, owner_of, new_identity, one_type_more, hide, hide_all, statement_label, started}
use Rattle.ada_rules.specs.Declarations.{indicated, Defined, defined, NewValue, new_value, Declared, may_be_bare, one_name, known_constant, lying_in, counted, with_objects, bare_declarations, local_bare, local_set, objects_declared, exception_declared, exceptions_from, type_counted, type_declared, subtype_declared, kind_declared, declared, all_declared}
use Rattle.ada_rules.specs.Statics.{Facts}
use Rattle.legal_laws.specs.Kept.{OnlyStatics}
use Rattle.legal_laws.specs.Known.{IsRegion}
use Rattle.legal_laws.specs.Served.{Serves, AreListed, IsFinal}
use Rattle.legal_laws.specs.Standing.{with_type, with_types, Stands}
use Rattle.legal_laws.specs.Valued.{AreFactsInBase, HaveFacts}
use Rattle.legal_laws.specs.Written.{IsWritten, AreWritten}
use Rattle.legal_laws.proofs.Passing.{IfPassed, answered, part_so, typed_so, if_map, both_ok, each_ok}
use Rattle.legal_laws.proofs.Constants.{serves_decided, final_before}
use Rattle.legal_laws.proofs.KeptStatics.{decides_statics, statics_both}
use Rattle.legal_laws.proofs.DefinedTypes.{IsDefined, defined_known}
use Rattle.legal_laws.proofs.Identities.{apart_with, older_with, types_joined}
use Rattle.legal_laws.proofs.KnownObjects.{behind_more, counted_length, of_one, constant_only, constant_before, counted_shapes, bare_declared, bare_seen, objects_known}
use Rattle.legal_laws.proofs.KnownRegions.{hidden_known, all_hidden_known, redefined_known}
use Rattle.legal_laws.proofs.KnownRegions as regions
use Rattle.legal_laws.proofs.KnownStatics.{IsIndicated, indicated_known}
use Rattle.legal_laws.proofs.KnownValues.{IsNewValue, new_value_known}
use Rattle.legal_laws.proofs.Leading.{Leads, declaration_leads, declarations_lead}
use Rattle.legal_laws.proofs.Wider.{env_wider, region_wider}

pub behind_joined : (Sees : tree.Object → Type 0) (ds es : List tree.Declaration) → behind_all Sees (ds ++ es) ≡ behind_all (behind_all Sees ds) es
behind_joined Sees [] es = refl
behind_joined Sees (d ∷ ds) es = behind_joined (behind Sees _) ds es

-- which instance owns what is declared
pub own_instance : (inst : ℕ) (o : Option ℕ) → (o ≡ None → inst ≡ 0) → owner_in inst (if is_some o then here else of_instance 0) ≡ inst
own_instance inst None alone = sym (alone refl)
own_instance inst (Some g) alone = refl

module _ (p : Program) (facts : List Facts) (has : HaveFacts p.instances facts) (are : Everywhere AreFactsInBase facts) (inst : ℕ) (shape_of : tree.Object → Shape) where
  abbrev Final : Option ℕ → State → Type 0
  Final o s = IsFinal facts inst p shape_of o s

  abbrev Standing : (AdaType → Type 0) → (tree.Object → Type 0) → Env → State → Type 0
  Standing types Sees env s = Stands p inst shape_of types Sees env s

  pub declarations_joined : (Sees : tree.Object → Type 0) (ds es : List tree.Declaration) → AreDeclarations p inst shape_of Sees ds
      → AreDeclarations p inst shape_of (behind_all Sees ds) es → AreDeclarations p inst shape_of Sees (ds ++ es)
  declarations_joined Sees [] es h k = k
  declarations_joined Sees (d ∷ ds) es h k = (h.0, declarations_joined (behind Sees _) ds es h.1 k)

  -- where only static expressions, or the region, changed
  pub stands_statics : (types : AdaType → Type 0) (Sees : tree.Object → Type 0) (env : Env) (s t : State) → Standing types Sees env s → OnlyStatics s t
      → Standing types Sees env t
  stands_statics types Sees env s t st only = record {
    place = st.place;
    world = st.world;
    apart = st.apart;
    older = λ u n h e. subst (λ k. n < k) (sym (ap (λ x. x.types) only)) (st.older u n h e);
    counted = ap (λ x. x.objects) only ∙ st.counted ∙ sym (ap (λ x. length x.words) only);
    alone = st.alone;
  }

  pub stands_local : (types : AdaType → Type 0) (Sees : tree.Object → Type 0) (env : Env) (s : State) (region : Region) → Standing types Sees env s
      → IsRegion p inst types shape_of Sees region → Standing types Sees (with_local env region) s
  stands_local types Sees env s region st h = record {
    place = regions.local_known p inst types shape_of Sees env region st.place h;
    world = st.world;
    apart = st.apart;
    older = st.older;
    counted = st.counted;
    alone = st.alone;
  }

  -- with a number of a type taken
  final_type : (o : Option ℕ) (s : State) → Final o (one_type_more s) → Final o s
  final_type o s all = record {
    serves = record { met = all.serves.met; constants = all.serves.constants; limits = all.serves.limits };
    shaped = all.shaped;
    listed = all.listed;
  }

  final_counted : (o : Option ℕ) (env : Env) (q : Pos) (t : AdaSubtype) (s : State) → Final o (type_counted env q t s) → Final o s
  final_counted o env q t s all = record {
    serves = record { met = all.serves.met; constants = all.serves.constants; limits = all.serves.limits.1 };
    shaped = all.shaped;
    listed = all.listed;
  }

  -- what declarations come to
  pub record AreMade (types : AdaType → Type 0) (Sees : tree.Object → Type 0) (env : Env) (s : State) (x : Declared) : Type 0 where
    pub new : List AdaType
    pub before : Final env.generic x.next → Final env.generic s
    pub rise : s.types ≤ x.next.types
    pub made : Final env.generic x.next → AreDeclarations p inst shape_of Sees x.made
    pub stands : Final env.generic x.next → Standing (with_types types new) (behind_all Sees x.made) (with_local env x.region) x.next

  module _ (types : AdaType → Type 0) (Sees : tree.Object → Type 0) (env : Env) (s : State) (st : Standing types Sees env s) where
    abbrev Regions : Region → Type 0
    Regions region = IsRegion p inst types shape_of Sees region

    abbrev Made : Declared → Type 0
    Made x = AreMade types Sees env s x

    -- a type
    pub type_made : (q : Pos) (i : Identifier) (x : Given Defined)
        → IsDefined p facts has are inst shape_of types st.apart Sees env.generic (one_type_more s) (new_identity env s) x
        → Made (type_declared env q i (new_identity env s) x)
    type_made q i x h =
        let u = type_in x.value.subtype in
        let more = ap (λ y. y.types) h.only in
        record {
          new = u ∷ [];
          before = λ all. final_type env.generic s (final_before facts are inst p shape_of env.generic (one_type_more s) x.next h.only h.before
              (final_counted env.generic env q x.value.subtype x.next all));
          rise = omega (arith, more);
          made = λ all. tt;
          stands = λ all. record {
            place = regions.local_known p inst (with_type types u) shape_of Sees env _
                (env_wider p inst types (with_type types u) (λ t k. inl k) shape_of Sees Sees (λ o k. k) env st.place)
                (redefined_known p inst (with_type types u) shape_of Sees (key i) (mark (new_identity env s) x.value.subtype) x.value.region
                (h.known (final_counted env.generic env q x.value.subtype x.next all).serves (all.serves.limits.0 refl).0) h.region);
            world = st.world;
            apart = apart_with types env s u h.identity st.older p st.apart;
            older = older_with types env s u h.identity st.older (type_counted env q x.value.subtype x.next) more;
            counted = ap (λ y. y.objects) h.only ∙ st.counted ∙ sym (ap (λ y. length y.words) h.only);
            alone = st.alone;
          };
        }

    stands_type : Standing types Sees env (one_type_more s)
    stands_type = record {
      place = st.place;
      world = st.world;
      apart = st.apart;
      older = λ u n h e. let few = st.older u n h e in omega (arith, few);
      counted = st.counted;
      alone = st.alone;
    }

    abbrev pub Indicated : (region : Region) → Regions region → State → Given AdaSubtype → Type 0
    Indicated region h t x =
        IsIndicated p facts has are inst types st.apart shape_of Sees (with_local env region)
        (regions.local_known p inst types shape_of Sees env region st.place h) st.world t x

    -- a subtype
    pub subtype_made : (i : Identifier) (region : Region) (h : Regions region) (x : Given AdaSubtype) → Indicated region h (one_type_more s) x
        → Made (subtype_declared i region (new_identity env s) x)
    subtype_made i region h x k =
        let more = ap (λ y. y.types) k.only in
        record {
          new = [];
          before = λ all. final_type env.generic s (final_before facts are inst p shape_of env.generic (one_type_more s) x.next k.only k.before all);
          rise = omega (arith, more);
          made = λ all. tt;
          stands = λ all. stands_local types Sees env x.next (redefined (key i) (mark (new_identity env s) x.value) region)
              (stands_statics types Sees env (one_type_more s) x.next stands_type k.only)
              (redefined_known p inst types shape_of Sees (key i) (mark (new_identity env s) x.value) region (k.subtype all.serves) h);
        }

    -- objects without a value
    final_objects : (t : AdaSubtype) (is : List Identifier) (u : State) → u.objects ≡ length u.words → Final env.generic (with_objects t is u) → Final env.generic u
    final_objects t is u counted all = record {
      serves = record { met = all.serves.met; constants = all.serves.constants; limits = all.serves.limits };
      shaped = (counted_shapes p inst shape_of facts t is u.words u.objects counted all.shaped).before;
      listed = all.listed;
    }

    bare_made : (c : Constancy) (region : Region) (h : Regions region) (is : List Identifier) (x : Given AdaSubtype) → Indicated region h s x
        → Made (local_bare c region is x)
    bare_made c region h is x k =
        let after = stands_statics types Sees env s x.next st k.only in
        let ds = bare_declarations x.value x.next.objects is in
        let same = ap (λ y. y.types) k.only in
        let count = counted_length x.value is x.next.words in
        let so_far = after.counted in
        record {
          new = [];
          before = λ all. final_before facts are inst p shape_of env.generic s x.next k.only k.before (final_objects x.value is x.next after.counted all);
          rise = omega (arith, same);
          made = λ all. bare_declared p inst shape_of facts Sees x.value x.next.objects is
              (counted_shapes p inst shape_of facts x.value is x.next.words x.next.objects after.counted all.shaped).shapes;
          stands = λ all. record {
            place = regions.local_known p inst types shape_of (behind_all Sees ds) env _
                (env_wider p inst types types (λ t h. h) shape_of Sees (behind_all Sees ds) (behind_more Sees ds) env st.place)
                (objects_known p inst shape_of facts types (behind_all Sees ds) c x.value None x.next.objects region is
                (k.subtype (final_objects x.value is x.next after.counted all).serves)
                (bare_seen p inst shape_of facts Sees x.value x.next.objects is)
                (counted_shapes p inst shape_of facts x.value is x.next.words x.next.objects after.counted all.shaped).shapes
                (region_wider p inst types types (λ t h. h) shape_of Sees (behind_all Sees ds) (behind_more Sees ds) region h));
            world = st.world;
            apart = st.apart;
            older = after.older;
            counted = omega (arith, count, so_far);
            alone = st.alone;
          };
        }

    -- an object with a value
    abbrev Valued : (region : Region) → Regions region → State → AdaSubtype → Given NewValue → Type 0
    Valued region h t u v =
        IsNewValue p inst types st.apart shape_of Sees (with_local env region) (regions.local_known p inst types shape_of Sees env region st.place h) t u v

    final_started : (o : Option ℕ) (u : State) → Final o (started u) → Final o u
    final_started o u all = record {
      serves = record { met = all.serves.met; constants = all.serves.constants; limits = all.serves.limits };
      shaped = all.shaped;
      listed = all.listed;
    }

    value_made : (q : Pos) (c : Constancy) (region : Region) (h : Regions region) (i : Identifier) (x : Given AdaSubtype) (v : Given NewValue)
        → Indicated region h s x → Valued region h x.next x.value v → Made (local_set env q c region (i ∷ []) x.value v)
    value_made q c region h i x v k g =
        let y = known_constant env c x.value (lying_in env x.value) v.value.known v.next in
        let only = statics_both x.next v.next y.next (decides_statics x.next v.next g.only)
        (constant_only facts are inst env c x.value (lying_in env x.value) v.value.known v.next) in
        let after = stands_statics types Sees env x.next y.next (stands_statics types Sees env s x.next st k.only) only in
        let ds = tree.initialized (statement_label y.next q) y.next.objects v.value.value ∷ [] in
        let same = ap (λ z. z.types) k.only in
        let still = ap (λ z. z.types) only in
        let so_far = after.counted in
        let behind_value = λ (all : Final env.generic (started (with_objects x.value (i ∷ []) y.next))).
        final_objects x.value (i ∷ []) y.next after.counted (final_started env.generic (with_objects x.value (i ∷ []) y.next) all) in
        let back = λ (all : Serves facts inst env.generic y.next).
        serves_decided facts are inst env.generic x.next v.next g.only
        (constant_before facts are inst env c x.value (lying_in env x.value) v.value.known v.next all) in
        let shapes = λ (all : Final env.generic (started (with_objects x.value (i ∷ []) y.next))).
        (counted_shapes p inst shape_of facts x.value (i ∷ []) y.next.words y.next.objects after.counted all.shaped).shapes in
        record {
          new = [];
          before = λ all. final_before facts are inst p shape_of env.generic s x.next k.only k.before
              (final_before facts are inst p shape_of env.generic x.next y.next only back (behind_value all));
          rise = omega (arith, same, still);
          made = λ all.
              let set = g.set (k.subtype (back (behind_value all).serves)) in (
                (
                  subst (λ z. IsValue p inst shape_of Sees z v.value.value) (sym (shapes all).0) set.value,
                  set.shape ∙ sym (shapes all).0,
                ),
                tt,
              );
          stands = λ all. record {
            place = regions.local_known p inst types shape_of (behind_all Sees ds) env _
                (env_wider p inst types types (λ t h. h) shape_of Sees (behind_all Sees ds) (behind_more Sees ds) env st.place)
                (objects_known p inst shape_of facts types (behind_all Sees ds) c x.value y.value y.next.objects region (i ∷ [])
                (k.subtype (back (behind_value all).serves)) (inr refl, tt) (shapes all)
                (region_wider p inst types types (λ t h. h) shape_of Sees (behind_all Sees ds) (behind_more Sees ds) region h));
            world = st.world;
            apart = st.apart;
            older = after.older;
            counted = omega (arith, so_far);
            alone = st.alone;
          };
        }

  -- exceptions
  module _ (types : AdaType → Type 0) (Sees : tree.Object → Type 0) (env : Env) (alone : env.generic ≡ None → inst ≡ 0) where
    abbrev Raised : State → Region → List Identifier → Declared
    Raised s region is = exceptions_from env s region is

    exceptions_listed : (s : State) (region : Region) (is : List Identifier)
        → AreListed facts inst p shape_of env.generic (Raised s region is).next.exceptions_declared
        → AreListed facts inst p shape_of env.generic s.exceptions_declared
    exceptions_listed s region [] all = all
    exceptions_listed s region (i ∷ is) all =
        (exceptions_listed (exception_declared env i s) (redefined (key i) (raisable (tree.declared (owner_of env) s.exceptions)) region) is all).1

    name_there : (n : ℕ) → rank_of inst n p.exceptions < length p.exceptions → IsException p inst shape_of (tree.declared (owner_of env) n)
    name_there n less =
        subst (λ i. (1 ≤ 5 + rank_of i n p.exceptions) × (5 + rank_of i n p.exceptions ≤ 4 + length p.exceptions))
        (sym (own_instance inst env.generic alone)) (omega (arith), omega (arith, less))

    exceptions_region : (s : State) (region : Region) (is : List Identifier)
        → AreListed facts inst p shape_of env.generic (Raised s region is).next.exceptions_declared
        → IsRegion p inst types shape_of Sees region → IsRegion p inst types shape_of Sees (Raised s region is).region
    exceptions_region s region [] all h = h
    exceptions_region s region (i ∷ is) all h =
        let more = redefined (key i) (raisable (tree.declared (owner_of env) s.exceptions)) region in
        exceptions_region (exception_declared env i s) more is all
        (redefined_known p inst types shape_of Sees (key i) (raisable (tree.declared (owner_of env) s.exceptions)) region
        (name_there s.exceptions ((exceptions_listed (exception_declared env i s) more is all).0 refl)) h)

    abbrev with_exceptions : State → ℕ → List ExceptionDeclaration → State
    with_exceptions s n es = record s { exceptions = n; exceptions_declared = es }

    exceptions_next : (s : State) (region : Region) (is : List Identifier)
        → (Raised s region is).next ≡ with_exceptions s (Raised s region is).next.exceptions (Raised s region is).next.exceptions_declared
    exceptions_next s region [] = refl
    exceptions_next s region (i ∷ is) =
        exceptions_next (exception_declared env i s) (redefined (key i) (raisable (tree.declared (owner_of env) s.exceptions)) region) is

    exceptions_none : (s : State) (region : Region) (is : List Identifier) → (Raised s region is).made ≡ []
    exceptions_none s region [] = refl
    exceptions_none s region (i ∷ is) =
        exceptions_none (exception_declared env i s) (redefined (key i) (raisable (tree.declared (owner_of env) s.exceptions)) region) is

    final_raised : (s t : State) → t ≡ with_exceptions s t.exceptions t.exceptions_declared
        → (AreListed facts inst p shape_of env.generic t.exceptions_declared → AreListed facts inst p shape_of env.generic s.exceptions_declared)
        → Final env.generic t → Final env.generic s
    final_raised s t only back all =
        let same = subst (Final env.generic) only all in
        record {
          serves = record { met = same.serves.met; constants = same.serves.constants; limits = same.serves.limits };
          shaped = same.shaped;
          listed = back all.listed;
        }

    stands_raised : (s t : State) → Standing types Sees env s → t ≡ with_exceptions s t.exceptions t.exceptions_declared → Standing types Sees env t
    stands_raised s t st only =
        subst (Standing types Sees env) (sym only)
        (record { place = st.place; world = st.world; apart = st.apart; older = st.older; counted = st.counted; alone = st.alone })

    pub exceptions_made : (s : State) (region : Region) (is : List Identifier) → Standing types Sees env s → IsRegion p inst types shape_of Sees region
        → AreMade types Sees env s (Raised s region is)
    exceptions_made s region is st h =
        let x = Raised s region is in
        let same = ap (λ y. y.types) (exceptions_next s region is) in
        record {
          new = [];
          before = final_raised s x.next (exceptions_next s region is) (exceptions_listed s region is);
          rise = omega (arith, same);
          made = λ all. subst (AreDeclarations p inst shape_of Sees) (sym (exceptions_none s region is)) tt;
          stands = λ all. subst (λ ds. Standing types (behind_all Sees ds) (with_local env x.region) x.next) (sym (exceptions_none s region is))
              (stands_local types Sees env x.next x.region (stands_raised s x.next st (exceptions_next s region is))
              (exceptions_region s region is all.listed h));
        }

  -- a declaration of each kind
  module _ (types : AdaType → Type 0) (Sees : tree.Object → Type 0) (env : Env) (s : State) (st : Standing types Sees env s) (inside : env.is_library ≡ false) where
    inside_only : {B : Type 0} (P : B → Type 0) (b : Bool) (o r : Plan B) → b ≡ false → IfPassed r.outcome P → IfPassed (if b then o else r).outcome P
    inside_only P true o r e h = absurd (false≢true (sym e))
    inside_only P false o r e h = h

    may_be_bare_so : (P : Declared → Type 0) (c : Constancy) (x : Declared) → P x → IfSome (option_map (λ u. x) (may_be_bare c)) P
    may_be_bare_so P c x h = if_map (λ u. Unit {0}) P (λ u. x) (may_be_bare c) (any_unit (may_be_bare c)) (λ u k. h)
      where
        any_unit : (o : Option (Unit {0})) → IfSome o (λ u. Unit {0})
        any_unit None = tt
        any_unit (Some u) = tt

    objects_plan : (q : Pos) (c : Constancy) (region : Region) (h : IsRegion p inst types shape_of Sees region) (is : List Identifier) (x : Given AdaSubtype)
        (o : Option Initial) → Indicated types Sees env s st region h s x
        → IfPassed (objects_declared env q c region is x o).outcome (AreMade types Sees env s)
    objects_plan q c region h is x None k =
        inside_only (AreMade types Sees env s) env.is_library _ _ inside
        (typed_so (AreMade types Sees env s) env.step (local_bare c region is x) (option_map (λ u. local_bare c region is x) (may_be_bare c)) st.place.step
        (may_be_bare_so (AreMade types Sees env s) c (local_bare c region is x) (bare_made types Sees env s st c region h is x k)))
    objects_plan q c region h is x (Some i) k =
        inside_only (AreMade types Sees env s) env.is_library _ _ inside
        (part_so (Valued types Sees env s st region h x.next x.value) (AreMade types Sees env s) (new_value (with_local env region) x.next q x.value i).answer
        (λ v. typed_rule env.step (local_set env q c region is x.value v) (option_map (λ u. local_set env q c region is x.value v) (one_name is)))
        (new_value_known p inst types st.apart shape_of Sees (with_local env region) (regions.local_known p inst types shape_of Sees env region st.place h) x.next q x.value i)
        (λ v g. typed_so (AreMade types Sees env s) env.step _ _ st.place.step
        (of_one (AreMade types Sees env s) is (λ js. local_set env q c region js x.value v) tt
        (λ j same. subst (λ js. AreMade types Sees env s (local_set env q c region js x.value v)) (sym same)
        (value_made types Sees env s st q c region h j x v k g)))))

    pub kind_known : (q : Pos) (d : DeclarationKind) → IsWritten d → IfPassed (kind_declared env s q d).outcome (AreMade types Sees env s)
    kind_known q (declares.Type i d) written =
        part_so (IsRegion p inst types shape_of Sees) (AreMade types Sees env s) (hide env.local i).answer
        (λ region. defined (with_local env region) (one_type_more s) q (new_identity env s) d >>= (λ x. rule (Some (type_declared env q i (new_identity env s) x))))
        (hidden_known p inst types shape_of Sees env.local i st.place.regions.0)
        (λ region h. part_so (IsDefined p facts has are inst shape_of types st.apart Sees env.generic (one_type_more s) (new_identity env s))
        (AreMade types Sees env s) (defined (with_local env region) (one_type_more s) q (new_identity env s) d).answer
        (λ x. rule (Some (type_declared env q i (new_identity env s) x)))
        (defined_known p facts has are inst shape_of types st.apart Sees (with_local env region)
        (regions.local_known p inst types shape_of Sees env region st.place h) st.world (one_type_more s) q (new_identity env s) d written)
        (λ x k. type_made types Sees env s st q i x k))
    kind_known q (declares.Subtype i t) written =
        part_so (IsRegion p inst types shape_of Sees) (AreMade types Sees env s) (hide env.local i).answer
        (λ region. indicated (with_local env region) (one_type_more s) t >>= (λ x. rule (Some (subtype_declared i region (new_identity env s) x))))
        (hidden_known p inst types shape_of Sees env.local i st.place.regions.0)
        (λ region h. part_so (Indicated types Sees env s st region h (one_type_more s)) (AreMade types Sees env s)
        (indicated (with_local env region) (one_type_more s) t).answer (λ x. rule (Some (subtype_declared i region (new_identity env s) x)))
        (indicated_known p facts has are inst types st.apart shape_of Sees (with_local env region)
        (regions.local_known p inst types shape_of Sees env region st.place h) st.world (one_type_more s) t)
        (λ x k. subtype_made types Sees env s st i region h x k))
    kind_known q (declares.Object is c t i) written =
        part_so (IsRegion p inst types shape_of Sees) (AreMade types Sees env s) (hide_all q env.local is).answer
        (λ region. indicated (with_local env region) s t >>= (λ x. objects_declared env q c region is x i))
        (all_hidden_known p inst types shape_of Sees q env.local is st.place.regions.0)
        (λ region h. part_so (Indicated types Sees env s st region h s) (AreMade types Sees env s) (indicated (with_local env region) s t).answer
        (λ x. objects_declared env q c region is x i)
        (indicated_known p facts has are inst types st.apart shape_of Sees (with_local env region)
        (regions.local_known p inst types shape_of Sees env region st.place h) st.world s t)
        (λ x k. objects_plan q c region h is x i k))
    kind_known q (declares.Exception is) written =
        part_so (IsRegion p inst types shape_of Sees) (AreMade types Sees env s) (hide_all q env.local is).answer
        (λ region. rule (Some (exceptions_from env s region is))) (all_hidden_known p inst types shape_of Sees q env.local is st.place.regions.0)
        (λ region h. exceptions_made types Sees env st.alone s region is st h)
    kind_known q (declares.Pragma a) written = record {
      new = [];
      before = λ all. all;
      rise = le_refl s.types;
      made = λ all. tt;
      stands = λ all. stands_local types Sees env s env.local st st.place.regions.0;
    }

    pub declaration_known : (d : Declaration) → IsWritten d.kind → IfOk (declared env s d).answer (AreMade types Sees env s)
    declaration_known d written = answered (AreMade types Sees env s) d.pos (kind_declared env s d.pos d.kind).outcome (kind_known d.pos d.kind written)

  -- declarations in order
  pub record AreAllMade (types : AdaType → Type 0) (Sees : tree.Object → Type 0) (env : Env) (x : Declared) : Type 0 where
    pub new : List AdaType
    pub made : AreDeclarations p inst shape_of Sees x.made
    pub stands : Standing (with_types types new) (behind_all Sees x.made) (with_local env x.region) x.next

  own_twice : (b : Bool) (r s own : Region) → (if b then s else (if b then r else own)) ≡ (if b then s else own)
  own_twice true r s own = refl
  own_twice false r s own = refl

  local_twice : (env : Env) (r s : Region) → with_local (with_local env r) s ≡ with_local env s
  local_twice env r s = ap (λ own. record env { local = s; own = own }) (own_twice env.is_library r s env.own)

  abbrev Rest : (AdaType → Type 0) → (tree.Object → Type 0) → Env → Declared → Type 0
  Rest types Sees env x = Final env.generic x.next → AreAllMade types Sees env x

  all_joined : (types : AdaType → Type 0) (Sees : tree.Object → Type 0) (env : Env) (s : State) (x xs : Declared) (h : AreMade types Sees env s x)
      → Final env.generic x.next → Final env.generic xs.next
      → AreAllMade (with_types types h.new) (behind_all Sees x.made) (with_local env x.region) xs
      → AreAllMade types Sees env (record { region = xs.region; next = xs.next; made = x.made ++ xs.made })
  all_joined types Sees env s x xs h first all rest = record {
    new = h.new ++ rest.new;
    made = declarations_joined Sees x.made xs.made (h.made first) rest.made;
    stands = subst (λ D. Standing D (behind_all Sees (x.made ++ xs.made)) (with_local env xs.region) xs.next) (sym (types_joined types h.new rest.new))
        (subst (λ S. Standing (with_types (with_types types h.new) rest.new) S (with_local env xs.region) xs.next) (sym (behind_joined Sees x.made xs.made))
        (subst (λ e. Standing (with_types (with_types types h.new) rest.new) (behind_all (behind_all Sees x.made) xs.made) e xs.next)
        (local_twice env x.region xs.region) rest.stands));
  }

  pub declarations_known : (types : AdaType → Type 0) (Sees : tree.Object → Type 0) (env : Env) (s : State) (q : Pos) (ds : List Declaration)
      → Standing types Sees env s → env.is_library ≡ false → AreWritten ds → IfOk (all_declared env s q ds).answer (Rest types Sees env)
  declarations_known types Sees env s q [] st inside written =
      λ all. record { new = []; made = tt; stands = stands_local types Sees env s env.local st st.place.regions.0 }
  declarations_known types Sees env s q (d ∷ ds) st inside written =
      answered (Rest types Sees env) q _
      (part_so (λ x. AreMade types Sees env s x × Leads p facts are inst shape_of env.generic s x.next) (Rest types Sees env) (declared env s d).answer
      (λ x. all_declared (with_local env x.region) x.next q ds >>= (λ xs. rule (Some (record { region = xs.region; next = xs.next; made = x.made ++ xs.made }))))
      (both_ok (AreMade types Sees env s) (λ x. Leads p facts are inst shape_of env.generic s x.next) (declared env s d).answer
      (declaration_known types Sees env s st inside d written.0) (declaration_leads p facts are inst shape_of env s d))
      (λ x h. part_so
      (λ xs. Leads p facts are inst shape_of env.generic x.next xs.next
      × ((f : Final env.generic x.next) → Rest (with_types types h.0.new) (behind_all Sees x.made) (with_local env x.region) xs))
      (Rest types Sees env) (all_declared (with_local env x.region) x.next q ds).answer
      (λ xs. rule (Some (record { region = xs.region; next = xs.next; made = x.made ++ xs.made })))
      (both_ok (λ xs. Leads p facts are inst shape_of env.generic x.next xs.next)
      (λ xs. (f : Final env.generic x.next) → Rest (with_types types h.0.new) (behind_all Sees x.made) (with_local env x.region) xs)
      (all_declared (with_local env x.region) x.next q ds).answer (declarations_lead p facts are inst shape_of (with_local env x.region) x.next q ds)
      (each_ok (λ (f : Final env.generic x.next) xs. Rest (with_types types h.0.new) (behind_all Sees x.made) (with_local env x.region) xs)
      (all_declared (with_local env x.region) x.next q ds).answer
      (λ f. declarations_known (with_types types h.0.new) (behind_all Sees x.made) (with_local env x.region) x.next q ds (h.0.stands f) inside written.1)))
      (λ xs k all. let first = k.0.back (h.1.counted st.counted) all in all_joined types Sees env s x xs h.0 first all (k.1 first all))))

  -- a later state
  pub stands_led : (types : AdaType → Type 0) (Sees : tree.Object → Type 0) (env : Env) (o : Option ℕ) (s t : State) → Standing types Sees env s
      → Leads p facts are inst shape_of o s t → Standing types Sees env t
  stands_led types Sees env o s t st go = record {
    place = st.place;
    world = st.world;
    apart = st.apart;
    older = λ u n h e. let few = st.older u n h e in let rise = go.rise in omega (arith, few, rise);
    counted = go.counted st.counted;
    alone = st.alone;
  }
