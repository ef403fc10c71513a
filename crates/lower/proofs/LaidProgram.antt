-- Each type of a program is laid out in each instance in which it stands.
use Rattle.std.proofs.Common.{◌≡◌, ℕ, zero, suc, ◌+◌, ◌<◌, ◌≤◌, nat_eq, nat_lt, Bool, true, false, List, [], ◌∷◌, length, map, Option, None, Some, option_map, slice_get, refl, sym, ap, subst, ◌∙◌, arith}
use Rattle.std.specs.Prelude.{if◌then◌else◌}
use Rattle.std.proofs.lemmas.Bool.{eqb-true, eq-eqb, false≢true}
use Rattle.std.proofs.lemmas.Bool.Decides.{nat_tests}
use Rattle.std.proofs.lemmas.List.{length-map}
use Rattle.std.proofs.lemmas.Option.{none-some, slice_get_within}
use Rattle.cov_base.specs.Lists.{Everywhere}
use Rattle.ada_meaning.specs.Bodies.{StandsIn}
use Rattle.ada_meaning.specs.Program as meaning
use Rattle.ada_meaning.specs.Resolved.{owner_in}
use Rattle.ada_meaning.specs.WellFormed.{IsType}
use Rattle.ada_tree.specs.declared.program.Program.{Program}
use Rattle.ada_tree.specs.declared.types.Owner.{Owner}
use Rattle.ada_tree.specs.declared.types.Subtype.TheVariants as subtype
use Rattle.ada_tree.specs.declared.types.TypeDeclaration.{TypeDeclaration}
use Rattle.ada_tree.specs.Programs.{instance_of, program_of}
use Rattle.ada_tree.specs.View.{owner_of}
use Rattle.ada_resolved.specs.Forms.{named_type, shape_of}
use Rattle.ada_resolved.specs.Library.{stands_in, has_text}
use Rattle.ada_resolved.specs.Sizes.{words}
use Rattle.ada_resolved.proofs.TypeForms.{named_before}
use Rattle.kernel_ir.specs.Layouts.{content_in, contents_after}
use Rattle.kernel_ir.specs.Limits.{LayoutsFit, most_words}
use Rattle.storage_layout.specs.declared.layouts.LaidType.TheVariants.{Composite}
use Rattle.storage_layout.specs.Layouts.{HasWord, Layouts, no_layouts, layouts_before, with_definition, with_type_in, with_type_in_all, with_types, layouts_of}
use Rattle.statement_code.specs.Stores.{first_content}
use Rattle.lower.specs.Standing.{IsNamed, AreTypesBuilt}
use Rattle.lower.proofs.Contents.{Meets}
use Rattle.lower.proofs.LaidLists.{found}
use Rattle.lower.proofs.LaidParts.{Stays, IsLaid, laid_stays, AreLaid, none_laid, AreEarlier, earlier_stays, named_laid}
use Rattle.lower.proofs.LaidTypes.{with_definition_laid, definition_stays, definition_there}

-- whether text stands in an instance, by its test
text_if : (g : ℕ) (o : Option meaning.Instance) → has_text g o ≡ true → option_map (λ x. x.generic) o ≡ Some g
text_if g None is = absurd (false≢true is)
text_if g (Some i) is = ap Some (eqb-true i.generic g is)

text_then : (g : ℕ) (o : Option meaning.Instance) → option_map (λ x. x.generic) o ≡ Some g → has_text g o ≡ true
text_then g None is = absurd (none-some g is)
text_then g (Some i) is = let e : i.generic ≡ g = cc is in eq-eqb i.generic g e

some_within : {X Y : Type 0} (f : X → Y) (xs : List X) (n : ℕ) (y : Y) → option_map f (slice_get xs n) ≡ Some y → n < length xs
some_within f [] n y is = absurd (none-some y is)
some_within f (x ∷ xs) zero y is = omega arith
some_within f (x ∷ xs) (suc n) y is = let less = some_within f xs n y is in omega (arith, less)

module _ (p : Program) where
  stands_if : (g : Option ℕ) (i : ℕ) → stands_in (map instance_of p.instances) g i ≡ true → StandsIn (program_of p) g i
  stands_if None zero is = refl
  stands_if None (suc i) is = absurd (false≢true is)
  stands_if (Some g) zero is = absurd (false≢true is)
  stands_if (Some g) (suc i) is = text_if g (slice_get (map instance_of p.instances) i) is

  stands_then : (g : Option ℕ) (i : ℕ) → StandsIn (program_of p) g i → stands_in (map instance_of p.instances) g i ≡ true
  stands_then None zero is = refl
  stands_then None (suc i) is = absurd (omega (arith, is))
  stands_then (Some g) zero is = absurd is
  stands_then (Some g) (suc i) is = text_then g (slice_get (map instance_of p.instances) i) is

  stands_within : (g : Option ℕ) (i : ℕ) → StandsIn (program_of p) g i → i < length p.instances + 1
  stands_within None i is = omega (arith, is)
  stands_within (Some g) zero is = absurd is
  stands_within (Some g) (suc i) is =
      omega (arith, some_within (λ x. x.generic) (map instance_of p.instances) i g is, length-map p.instances instance_of)

  -- a type in its instances
  module _ (n : ℕ) (d : TypeDeclaration) where
    abbrev when : Bool → (i : ℕ) → Layouts → Layouts
    when b i ls = if b then with_definition p i n d.definition ls else ls

    abbrev stands : ℕ → Bool
    stands i = stands_in (map instance_of p.instances) d.generic i

    one_stays : (i : ℕ) (ls : Layouts) → Stays ls (with_type_in p i n d ls)
    one_stays i ls x u there = by_test (stands i)
      where
        by_test : (b : Bool) → slice_get (when b i ls).laid x ≡ Some u
        by_test true = definition_stays p i n d.definition ls x u there
        by_test false = there

    one_there : (i : ℕ) (ls : Layouts) → StandsIn (program_of p) d.generic i → IsLaid (with_type_in p i n d ls) i n
    one_there i ls is = subst (λ b. IsLaid (when b i ls) i n) (sym (stands_then d.generic i is)) (definition_there p i n d.definition ls)

    all_stay : (count i : ℕ) (ls : Layouts) → Stays ls (with_type_in_all p count i n d ls)
    all_stay zero i ls x u there = there
    all_stay (suc count) i ls x u there = all_stay count (i + 1) (with_type_in p i n d ls) x u (one_stays i ls x u there)

    all_there : (count i j : ℕ) (ls : Layouts) → i ≤ j → j < i + count → StandsIn (program_of p) d.generic j
        → IsLaid (with_type_in_all p count i n d ls) j n
    all_there zero i j ls from to is = absurd (omega (arith, from, to))
    all_there (suc count) i j ls from to is =
        by_test (nat_eq i j) refl (λ after. all_there count (i + 1) j (with_type_in p i n d ls) after (omega (arith, to)) is)
      where
        by_test : (b : Bool) → nat_eq i j ≡ b → (i + 1 ≤ j → IsLaid (with_type_in_all p count (i + 1) n d (with_type_in p i n d ls)) j n)
            → IsLaid (with_type_in_all p count (i + 1) n d (with_type_in p i n d ls)) j n
        by_test true e later =
            laid_stays (with_type_in p i n d ls) (with_type_in_all p count (i + 1) n d (with_type_in p i n d ls)) j n
            (all_stay count (i + 1) (with_type_in p i n d ls))
            (subst (λ k. IsLaid (with_type_in p i n d ls) k n) (eqb-true i j e) (one_there i ls (subst (StandsIn (program_of p) d.generic) (sym (eqb-true i j e)) is)))
        by_test false e later = later (grind (arith, nat_tests, from))

    module _ (built : AreTypesBuilt p) (there : slice_get p.types n ≡ Some d) where
      one_laid : (i : ℕ) (ls : Layouts) → AreLaid p ls → AreEarlier p ls n → AreLaid p (with_type_in p i n d ls)
      one_laid i ls are earlier = by_test (stands i) refl
        where
          by_test : (b : Bool) → stands i ≡ b → AreLaid p (when b i ls)
          by_test true e = with_definition_laid p i n d there (built n i d there (stands_if d.generic i e)) ls are earlier
          by_test false e = are

      all_laid : (count i : ℕ) (ls : Layouts) → AreLaid p ls → AreEarlier p ls n → AreLaid p (with_type_in_all p count i n d ls)
      all_laid zero i ls are earlier = are
      all_laid (suc count) i ls are earlier =
          all_laid count (i + 1) (with_type_in p i n d ls) (one_laid i ls are earlier) (earlier_stays p ls (with_type_in p i n d ls) n (one_stays i ls) earlier)

      next_earlier : (ls : Layouts) → AreEarlier p ls n → AreEarlier p (with_type_in_all p (length p.instances + 1) 0 n d ls) (n + 1)
      next_earlier ls earlier m j e less is stands = by_test (nat_lt m n) refl
        where
          after : Layouts
          after = with_type_in_all p (length p.instances + 1) 0 n d ls

          by_test : (b : Bool) → nat_lt m n ≡ b → IsLaid (with_type_in_all p (length p.instances + 1) 0 n d ls) j m
          by_test true before =
              laid_stays ls (with_type_in_all p (length p.instances + 1) 0 n d ls) j m (all_stay (length p.instances + 1) 0 ls)
              (earlier m j e (grind (arith, nat_tests)) is stands)
          by_test false behind =
              let same : n ≡ m = grind (arith, nat_tests, less) in
              let that : e ≡ d = (let q : Some e ≡ Some d = sym is ∙ (ap (slice_get p.types) (sym same) ∙ there) in cc q) in
              subst (IsLaid (with_type_in_all p (length p.instances + 1) 0 n d ls) j) same
              (all_there (length p.instances + 1) 0 j ls (omega arith)
              (let w = stands_within e.generic j stands in omega (arith, w)) (subst (λ c. StandsIn (program_of p) c.generic j) that stands))

  -- all types
  module _ (built : AreTypesBuilt p) where
    types_laid : (ts : List TypeDeclaration) (n : ℕ) (ls : Layouts) → ((k : ℕ) → slice_get p.types (n + k) ≡ slice_get ts k) → AreLaid p ls → AreEarlier p ls n
        → AreLaid p (with_types p n ts ls) × AreEarlier p (with_types p n ts ls) (n + length ts)
    types_laid [] n ls behind are earlier = (are, subst (AreEarlier p ls) (let e : n ≡ n + 0 = omega arith in e) earlier)
    types_laid (d ∷ ts) n ls behind are earlier =
        let there : slice_get p.types n ≡ Some d = ap (slice_get p.types) (let e : n ≡ n + 0 = omega arith in e) ∙ behind 0 in
        let rest = types_laid ts (n + 1) (with_type_in_all p (length p.instances + 1) 0 n d ls)
        (λ k. ap (slice_get p.types) (let e : n + 1 + k ≡ n + suc k = omega arith in e) ∙ behind (suc k))
        (all_laid n d built there (length p.instances + 1) 0 ls are earlier) (next_earlier n d built there ls earlier) in (
          rest.0,
          subst (AreEarlier p (with_types p (n + 1) ts (with_type_in_all p (length p.instances + 1) 0 n d ls)))
              (let e : n + 1 + length ts ≡ n + suc (length ts) = omega arith in e) rest.1,
        )

    program_laid : AreLaid p (layouts_of p) × AreEarlier p (layouts_of p) (length p.types)
    program_laid =
        let all = types_laid p.types 0 no_layouts (λ k. ap (slice_get p.types) (let e : 0 + k ≡ k = omega arith in e)) (none_laid p)
        (λ m j d less. absurd (omega (arith, less))) in
        (all.0, subst (AreEarlier p (layouts_of p)) (let e : 0 + length p.types ≡ length p.types = omega arith in e) all.1)

    -- there are as many layouts as are laid out; each names earlier ones, where first values are words; and none has more words than a type
    pub many_law : length (layouts_of p).laid ≡ length (layouts_of p).layouts
    many_law = program_laid.0.many

    pub fit_law : Everywhere HasWord (layouts_of p).layouts → LayoutsFit 0 (layouts_of p).layouts
    fit_law words = program_laid.0.fit words

    pub small_law : Everywhere (λ c. length c.words ≤ most_words) (contents_after [] (layouts_of p).layouts)
    small_law = program_laid.0.small

    -- the layout of a type that a text names
    module _ (inst n : ℕ) (o : Owner) (named : IsNamed p inst (length p.types) (subtype.Composite o n)) where
      abbrev number : ℕ
      number = layouts_before (owner_in inst (owner_of o)) n (layouts_of p).laid

      there_at : slice_get (layouts_of p).laid number ≡ Some (Composite (owner_in inst (owner_of o)) n)
      there_at =
          let laid = named_laid p (layouts_of p) (length p.types) n (owner_in inst (owner_of o)) (omega arith) program_laid.1 named.0 named.1 in
          found (layouts_of p).laid (owner_in inst (owner_of o)) n laid.0 laid.1

      pub number_law : number < length (layouts_of p).layouts
      number_law = omega (arith, slice_get_within (layouts_of p).laid number (Composite (owner_in inst (owner_of o)) n) there_at, many_law)

      meets : Meets (shape_of p (named_type p inst (subtype.Composite o n))) (content_in (layouts_of p).layouts number)
      meets =
          subst (λ s. Meets s (content_in (layouts_of p).layouts number)) (named_before p inst (length p.types) o n named.0)
          (program_laid.0.right number (Composite (owner_in inst (owner_of o)) n) there_at)

      pub long_law : length (content_in (layouts_of p).layouts number).words ≡ words (shape_of p (named_type p inst (subtype.Composite o n)))
      long_law = meets.long

      pub content_law : IsType (shape_of p (named_type p inst (subtype.Composite o n)))
          → content_in (layouts_of p).layouts number ≡ first_content (shape_of p (named_type p inst (subtype.Composite o n)))
      content_law typed = meets.same typed
