-- The kernel of a well-formed program that is laid out is whole.
use Rattle.std.proofs.Common.{◌≡◌, ℕ, zero, suc, ◌+◌, ◌*◌, ◌<◌, ◌≤◌, inl, inr, Bool, false, List, [], ◌∷◌, ◌++◌, map, length, Some, slice_get, refl, sym, ap, subst, ◌∙◌, arith}
use Rattle.std.proofs.lemmas.List.{length-map}
use Rattle.cov_base.specs.Lists.{Everywhere, Somewhere}
use Rattle.ada_meaning.specs.Bodies.{Body, bodies_of, StandsIn, IsBody}
use Rattle.ada_meaning.specs.Execution.{library_place}
use Rattle.ada_meaning.specs.Declared.{library_shape, object_shape}
use Rattle.ada_meaning.specs.Objects.{objects_of, block_objects}
use Rattle.ada_meaning.specs.Obligations.{numbers}
use Rattle.ada_meaning.specs.Program.{in_mode, out_mode, Parameter, Target, get_target, put_target, body_target, Program}
use Rattle.ada_meaning.specs.Resolved.{owner_in, ResolvedParameter, parameters_of_subprogram, parameter_in, parameters_of, shape_in}
use Rattle.ada_meaning.specs.Shape.{Shape, word, row, group, Shapes, no_shape, and_shape}
use Rattle.ada_meaning.specs.Tree as tree
use Rattle.ada_meaning.specs.WellFormed as formed
use Rattle.ada_meaning.proofs.BodyLaws.{bodies_law}
use Rattle.ada_meaning.proofs.FormedLaws.{body_formed, object_typed, local_typed}
use Rattle.ada_resolved.specs.Sizes.{words, all_words}
use Rattle.kernel_ir.specs.declared.kernel.Kernel.{Kernel}
use Rattle.kernel_ir.specs.Layouts.{content_in}
use Rattle.kernel_ir.specs.Limits.{most_words}
use Rattle.kernel_ir.specs.Tree.{Code}
use Rattle.kernel_ir.specs.World.{data_word}
use Rattle.statement_code.specs.Bodies.{IsParameterOf, body_code}
use Rattle.statement_code.specs.Initial.{IsObjectOf}
use Rattle.statement_code.specs.Objects.{Standing}
use Rattle.statement_code.specs.Kernels.{Scheme, BodyBy, HasRoom, IsWhole}
use Rattle.statement_code.specs.Laid.{AreParametersPlaced, IsLaidOut, IsLaidKernel}
use Rattle.statement_code.specs.Names.{Names, names_in}
use Rattle.statement_code.specs.Numbers.{ShapeFits, ShapesFit, BlockFits}
use Rattle.statement_code.specs.Programs.{IsHome, Plan, size_in_plan, IsLocal, AreParametersLaid, AreGiven, IsSeen, site_of, IsPlanned}
use Rattle.statement_code.specs.Statements.{HasLayout, IsPlainBlock}
use Rattle.statement_code.specs.Stores.{HasWords}
use Rattle.statement_code.specs.Values.{IsComposite, IsBody as IsCallableBody, arguments}
use Rattle.statement_code.proofs.Alike.{body_alike}
use Rattle.statement_code.proofs.Beginning.{Found, some_map, found_outside, standing_typed, begins_alike}
use Rattle.statement_code.proofs.Formed.{bounds_words, type_has}
use Rattle.statement_code.proofs.FormedBlocks.{IsLocalObject, AreSeen, block_formed}
use Rattle.statement_code.proofs.Kernels.{each_is, found_there, laid_at, parameters_many, text_is}
use Rattle.statement_code.proofs.Loops.{some_turn}
use Rattle.statement_code.proofs.Places.{place_is}

-- a type of no more words than a type may have fits, with its parts
no_more : (m n : ℕ) → n ≤ suc m * n
no_more m n = grind arith

mutual
  pub type_fits : (s : Shape) → formed.IsType s → words s ≤ most_words → ShapeFits s
  type_fits (word b) typed few = bounds_words b typed
  type_fits (row b s) typed few =
      let part : words s ≤ words (row b s) = subst (λ n. words s ≤ n * words s) (sym (some_turn b.low b.high typed.1.0)) (no_more _ (words s)) in
      (bounds_words b typed.0, (few, type_fits s typed.1.1 (omega (arith, few, part))))
  type_fits (group no_shape) typed few = absurd typed
  type_fits (group (and_shape s ss)) typed few = (few, types_fit (and_shape s ss) typed few)

  types_fit : (ss : Shapes) → formed.AreTypes ss → all_words ss ≤ most_words → ShapesFit ss
  types_fit no_shape typed few = tt
  types_fit (and_shape s ss) typed few = (type_fits s typed.0 (omega (arith, few)), types_fit ss typed.1 (omega (arith, few)))

-- items of lists
behind_others : {X : Type 0} (P : X → Type 0) (xs ys : List X) → Somewhere P ys → Somewhere P (xs ++ ys)
behind_others P [] ys there = there
behind_others P (x ∷ xs) ys there = inr (behind_others P xs ys there)

each_among : {X : Type 0} (front xs all : List X) → all ≡ front ++ xs → Everywhere (λ x. Somewhere (λ y. y ≡ x) all) xs
each_among front [] all is = tt
each_among front (x ∷ xs) all is = (
  subst (λ ys. Somewhere (λ y. y ≡ x) ys) (sym is) (behind_others (λ y. y ≡ x) front (x ∷ xs) (inl refl)),
  each_among (front ++ x ∷ []) xs all (is ∙ sym (appended front x xs)),
)
  where
    appended : {X : Type 0} (front : List X) (x : X) (xs : List X) → (front ++ x ∷ []) ++ xs ≡ front ++ x ∷ xs
    appended [] x xs = refl
    appended (y ∷ front) x xs = ap (λ ys. y ∷ ys) (appended front x xs)

mapped_everywhere : {X Y : Type 0} (P : Y → Type 0) (f : X → Y) (xs : List X) → Everywhere (λ x. P (f x)) xs → Everywhere P (map f xs)
mapped_everywhere P f [] all = tt
mapped_everywhere P f (x ∷ xs) all = (all.0, mapped_everywhere P f xs all.1)

found_mapped : {X Y : Type 0} (f : X → Y) (xs : List X) (ys : List Y) (i : ℕ) (x : X) → slice_get xs i ≡ Some x → slice_get (map f xs ++ ys) i ≡ Some (f x)
found_mapped f [] ys i x is = absurd (let e : ⊥ = cc is in e)
found_mapped f (y ∷ xs) ys zero x is = let e : y ≡ x = cc is in ap (λ z. Some (f z)) e
found_mapped f (y ∷ xs) ys (suc i) x is = found_mapped f xs ys i x is

number_is : (n count i x : ℕ) → slice_get (numbers n count) i ≡ Some x → x ≡ n + i
number_is n zero i x is = absurd (let e : ⊥ = cc is in e)
number_is n (suc count) zero x is = let e : n ≡ x = cc is in omega (arith, e)
number_is n (suc count) (suc i) x is = let e = number_is (suc n) count i x is in omega (arith, e)

module _ (p : Program) (K : Kernel) (s : Scheme) (well : formed.IsWellFormed p) (kernel : IsLaidKernel p K s) where
  abbrev at : (j m : ℕ) → Body
  at j m = record { instance = j; subprogram = m }

  formed_at : (j m : ℕ) (is : IsBody p (at j m)) → formed.IsSubprogram p j is.declared
  formed_at j m is = body_formed p (at j m) well is

  -- what is called is a body with few parameters
  callable : (f : Bool) (t : Target) → formed.IsCallable p f t → IsCallableBody (BodyBy p s) f t × (length (parameters_of p t) ≤ arguments)
  callable f get_target is = absurd is
  callable f put_target is = absurd is
  callable f (body_target j m) is =
      let few = (formed_at j m is.0).few in
      ((is.0, (kernel.bodies j m is.0).gives ∙ is.1), omega (arith, parameters_many p j m is.0.declared is.0.is_declared, few))

  -- a body
  module _ (j m : ℕ) (is : IsBody p (at j m)) where
    abbrev plan : Plan
    plan = s.plan_of j m

    abbrev shape : tree.Object → Shape
    shape = object_shape p j is.declared

    laid : IsLaidOut p K s j m is.declared plan
    laid = kernel.bodies j m is

    subprogram : formed.IsSubprogram p j is.declared
    subprogram = formed_at j m is

    typed : (d : ℕ) → formed.IsType (shape (tree.local_object d))
    typed d = local_typed p j is.declared d subprogram

    same : (d : ℕ) → IsLocal plan d → shape (tree.local_object d) ≡ plan.shape_of (tree.local_object d)
    same d there = each_is (λ e. shape (tree.local_object e) ≡ plan.shape_of (tree.local_object e)) plan.locals d laid.shapes there

    -- the objects of its block, and its parameters, are among its objects
    block_among : Everywhere (IsLocal plan) (block_objects is.declared.body)
    block_among = each_among (map (λ (q : Parameter). q.declaration) is.declared.parameters) (block_objects is.declared.body) plan.locals laid.locals

    local : (d : ℕ) → IsLocal plan d
        → IsLocalObject p j shape plan.shape_of plan.home_of (site_of p K s.number s.library (BodyBy p s) plan) (BodyBy p s) callable K plan.layout_of (content_in K.layouts) (IsLocal plan) plan.gives
        (omega (arith, kernel.exceptions)) (omega (arith, kernel.exceptions, kernel.exceptions_few)) d
    local d there = record {
      framed = (laid_at plan plan.locals d laid.laid there).framed;
      typed = typed d;
      same = same d there;
      layout = each_is (λ e. HasLayout (plan.shape_of (tree.local_object e)) (content_in K.layouts (plan.layout_of e))) plan.locals d laid.layouts there;
      there = each_is (λ e. IsComposite (plan.shape_of (tree.local_object e)) → plan.layout_of e < length K.layouts) plan.locals d laid.filled there;
    }

    -- a parameter has the number of its place, and its shape
    abbrev Behind : ℕ → List Parameter → Type 0
    Behind i qs = (n : ℕ) → slice_get is.declared.parameters (i + n) ≡ slice_get qs n

    first_found : (i : ℕ) (q : Parameter) (qs : List Parameter) → Behind i (q ∷ qs) → slice_get is.declared.parameters i ≡ Some q
    first_found i q qs behind = ap (slice_get is.declared.parameters) (let e : i ≡ i + 0 = omega arith in e) ∙ behind 0

    more_behind : (i : ℕ) (q : Parameter) (qs : List Parameter) → Behind i (q ∷ qs) → Behind (i + 1) qs
    more_behind i q qs behind n = ap (slice_get is.declared.parameters) (let e : i + 1 + n ≡ i + suc n = omega arith in e) ∙ behind (suc n)

    numbered : (i : ℕ) (q : Parameter) → slice_get is.declared.parameters i ≡ Some q → q.declaration ≡ i
    numbered i q there =
        let e = number_is 0 (length is.declared.objects) i q.declaration
        (sym (ap (λ ns. slice_get ns i) subprogram.numbered) ∙ found_mapped (λ (r : Parameter). r.declaration) is.declared.parameters (block_objects is.declared.body) i q there) in
        omega (arith, e)

    parameter_among : (i : ℕ) (q : Parameter) → slice_get is.declared.parameters i ≡ Some q → IsLocal plan q.declaration
    parameter_among i q there =
        subst (λ ds. Somewhere (λ e. e ≡ q.declaration) ds) (sym laid.locals)
        (found_there (objects_of is.declared) i q.declaration (found_mapped (λ (r : Parameter). r.declaration) is.declared.parameters (block_objects is.declared.body) i q there))

    parameter_shape : (i : ℕ) (q : Parameter) → slice_get is.declared.parameters i ≡ Some q → plan.shape_of (tree.local_object q.declaration) ≡ shape_in p j q.subtype
    parameter_shape i q there =
        sym (same q.declaration (parameter_among i q there))
        ∙ sym (each_is (λ (r : Parameter). shape_in p j r.subtype ≡ shape (tree.local_object r.declaration)) is.declared.parameters q subprogram.profile
        (found_there is.declared.parameters i q there))

    parameters_laid : (i : ℕ) (qs : List Parameter) → Behind i qs → i + length qs ≤ length is.declared.parameters
        → AreParametersPlaced plan (length is.declared.parameters) (map (parameter_in p j) qs) i
        → AreParametersLaid K.layouts plan (length is.declared.parameters) (map (parameter_in p j) qs) i
    parameters_laid i [] behind few placed = tt
    parameters_laid i (q ∷ qs) behind few placed =
        let there = first_found i q qs behind in
        let among = parameter_among i q there in
        let shaped = parameter_shape i q there in
        let object = local q.declaration among in (
          record {
            among = among;
            shape = shaped;
            scalar = placed.0.scalar;
            composite = placed.0.composite;
            bare = placed.0.bare;
            here = omega (arith, few);
            has = subst HasWords (same q.declaration among ∙ shaped) (type_has (shape (tree.local_object q.declaration)) (typed q.declaration));
            layout = subst (λ a. HasLayout a (content_in K.layouts (plan.layout_of q.declaration))) shaped object.layout;
          },
          parameters_laid (i + 1) qs (more_behind i q qs behind) (omega (arith, few)) placed.1,
        )

    -- what it sees
    parameter_seen : (i : ℕ) (qs : List Parameter) → Behind i qs → (d : ℕ) → Somewhere (λ q. q.declaration ≡ d) qs
        → IsParameterOf plan.shape_of (map (parameter_in p j) qs) (tree.local_object d)
    parameter_seen i [] behind d there = absurd there
    parameter_seen i (q ∷ qs) behind d (inl here) =
        inl (ap tree.local_object (sym here), ap (λ e. plan.shape_of (tree.local_object e)) (sym here) ∙ parameter_shape i q (first_found i q qs behind))
    parameter_seen i (q ∷ qs) behind d (inr there) = inr (parameter_seen (i + 1) qs (more_behind i q qs behind) d there)

    parameter_same : (i : ℕ) (qs : List Parameter) → Behind i qs → (d : ℕ) → Somewhere (λ q. q.declaration ≡ d) qs → shape (tree.local_object d) ≡ plan.shape_of (tree.local_object d)
    parameter_same i [] behind d there = absurd there
    parameter_same i (q ∷ qs) behind d (inl here) =
        subst (λ e. shape (tree.local_object e) ≡ plan.shape_of (tree.local_object e)) here (same q.declaration (parameter_among i q (first_found i q qs behind)))
    parameter_same i (q ∷ qs) behind d (inr there) = parameter_same (i + 1) qs (more_behind i q qs behind) d there

    abbrev from_zero : Behind 0 is.declared.parameters
    from_zero = λ n. ap (slice_get is.declared.parameters) (let e : 0 + n ≡ n = omega arith in e)

    given_are : map (parameter_in p j) is.declared.parameters ≡ parameters_of p (body_target j m)
    given_are = ap (λ o. map (parameter_in p j) (parameters_of_subprogram o)) (sym is.is_declared)

    seen : AreSeen p j shape plan.shape_of plan.home_of (site_of p K s.number s.library (BodyBy p s) plan) (BodyBy p s) callable K plan.layout_of (content_in K.layouts) (IsLocal plan) plan.gives
        (omega (arith, kernel.exceptions)) (omega (arith, kernel.exceptions, kernel.exceptions_few)) local (formed.StartSees p j is.declared) (IsSeen s.library plan j (parameters_of p (body_target j m)))
    seen = record { seen = seen_too; typed = λ o there. object_typed p j is.declared o well subprogram there; same = same_too }
      where
        seen_too : (o : tree.Object) → formed.StartSees p j is.declared o → IsSeen s.library plan j (parameters_of p (body_target j m)) o
        seen_too (tree.library_object o d) there =
            let outside = laid.outside o d there in
            inl (some_map (Found p s.library s.address_of (owner_in j o) d (library_shape p (owner_in j o) d p.objects))
            (λ (x : Standing). (x.place ≡ library_place (owner_in j o) d) × ((x.shape ≡ plan.shape_of (tree.library_object o d)) × IsHome (plan.home_of (tree.library_object o d)) x.address)) s.library
            (λ x is. (is.0, (is.1.0 ∙ outside.0, subst (IsHome (plan.home_of (tree.library_object o d))) (sym is.1.1) outside.1)))
            (found_outside p s.library s.address_of (owner_in j o) d p.objects kernel.addressed well.declared.library there))
        seen_too (tree.local_object d) there =
            inr (subst (λ qs. IsParameterOf plan.shape_of qs (tree.local_object d)) given_are (parameter_seen 0 is.declared.parameters from_zero d there))

        same_too : (o : tree.Object) → formed.StartSees p j is.declared o → shape o ≡ plan.shape_of o
        same_too (tree.library_object o d) there = (laid.outside o d there).0
        same_too (tree.local_object d) there = parameter_same 0 is.declared.parameters from_zero d there

    framed_is : formed.IsFrame p j shape plan.gives (formed.StartSees p j is.declared) false false is.declared.body
    framed_is = subst (λ f. formed.IsFrame p j shape f (formed.StartSees p j is.declared) false false is.declared.body) (sym laid.gives) subprogram.frame

    -- its block
    block_is : IsPlainBlock p j plan.shape_of plan.home_of (site_of p K s.number s.library (BodyBy p s) plan) (BodyBy p s) plan.layout_of (content_in K.layouts) (IsLocal plan) K.exceptions plan.gives
        (IsSeen s.library plan j (parameters_of p (body_target j m))) false false is.declared.body
        × BlockFits p j K plan.shape_of plan.layout_of is.declared.body
    block_is =
        block_formed p j shape plan.shape_of plan.home_of (site_of p K s.number s.library (BodyBy p s) plan) (BodyBy p s) callable K plan.layout_of (content_in K.layouts) (IsLocal plan) plan.gives
        (omega (arith, kernel.exceptions)) (omega (arith, kernel.exceptions, kernel.exceptions_few)) local is.declared.body (formed.StartSees p j is.declared)
        (IsSeen s.library plan j (parameters_of p (body_target j m))) false false seen block_among framed_is

    abbrev coded : Names → Code
    coded names =
        body_code names plan.shape_of plan.home_of (site_of p K s.number s.library (BodyBy p s) plan) plan.layout_of plan.base plan.gives (parameters_of p (body_target j m)) is.declared.body

    -- its code is that by the program's names
    same_code : coded laid.names ≡ coded (names_in p j)
    same_code =
        body_alike p j shape plan.shape_of plan.home_of (site_of p K s.number s.library (BodyBy p s) plan) laid.names laid.named plan.layout_of plan.gives is.declared.body
        (formed.StartSees p j is.declared) plan.base (parameters_of p (body_target j m)) framed_is

    planned : (f : Bool) → plan.gives ≡ f → IsPlanned p K s.number s.library (BodyBy p s) f j m plan
    planned f gives =
        let many = parameters_many p j m is.declared is.is_declared in
        let few = laid.few in
        record {
          declared = is.declared;
          is_declared = is.is_declared;
          is_body = laid.is_body ∙ (λ i. Some (record { code = same_code i; width = plan.width }));
          gives = gives;
          given = λ function. subst AreGiven given_are
              (mapped_everywhere (λ (q : ResolvedParameter). q.mode ≡ in_mode) (parameter_in p j) is.declared.parameters (subprogram.given (sym laid.gives ∙ (gives ∙ function))));
          laid = laid.laid;
          parameters = subst (λ qs. AreParametersLaid K.layouts plan (length qs) qs 0) given_are
              (subst (λ n. AreParametersLaid K.layouts plan n (map (parameter_in p j) is.declared.parameters) 0) (sym (length-map is.declared.parameters (parameter_in p j)))
              (parameters_laid 0 is.declared.parameters from_zero (omega arith) laid.parameters));
          few = omega (arith, many, few);
          small = laid.small;
          narrow = laid.narrow;
          plain = block_is.0;
          ends = laid.ends;
        }

    types_fit_all : (ds : List ℕ) → Everywhere (IsLocal plan) ds → Everywhere (λ d. size_in_plan plan d ≤ most_words) ds → Everywhere (λ d. ShapeFits (plan.shape_of (tree.local_object d))) ds
    types_fit_all [] are few = tt
    types_fit_all (d ∷ ds) are few = (
      type_fits (plan.shape_of (tree.local_object d)) (subst formed.IsType (same d are.0) (typed d)) few.0,
      types_fit_all ds are.1 few.1,
    )

    filled_all : (i : ℕ) (qs : List Parameter) → Behind i qs
        → Everywhere (λ (q : ResolvedParameter). IsComposite q.shape → q.mode ≡ out_mode → plan.layout_of q.declaration < length K.layouts) (map (parameter_in p j) qs)
    filled_all i [] behind = tt
    filled_all i (q ∷ qs) behind =
        let there = first_found i q qs behind in (
          (λ composite mode. (local q.declaration (parameter_among i q there)).there (subst IsComposite (sym (parameter_shape i q there)) composite)),
          filled_all (i + 1) qs (more_behind i q qs behind),
        )

    room_is : HasRoom p K plan j m
    room_is = record {
      types = types_fit_all plan.locals (each_among [] plan.locals plan.locals refl) laid.sizes;
      filled = subst (λ qs. Everywhere (λ (q : ResolvedParameter). IsComposite q.shape → q.mode ≡ out_mode → plan.layout_of q.declaration < length K.layouts) qs) given_are
          (filled_all 0 is.declared.parameters from_zero);
      text = subst (BlockFits p j K plan.shape_of plan.layout_of) (sym (text_is p.subprograms m is.declared is.is_declared)) block_is.1;
    }

  -- the main procedure
  abbrev main_is : IsBody p (at 0 p.main)
  main_is = record { declared = well.main; is_declared = well.is_main; stands = subst (λ g. StandsIn p g 0) (sym well.main_alone.apart) refl }

  pub whole_law : IsWhole p K s
  whole_law = record {
    is_kernel = record {
      made = record {
        bodies = λ f j m is. planned j m is.0 f is.1;
        outside = kernel.apart;
        above = kernel.above;
        room = kernel.room;
        predefined = omega (arith, kernel.exceptions);
      };
      main_is = kernel.main_is;
      main_body = (main_is, (kernel.bodies 0 p.main main_is).gives ∙ well.main_alone.procedure);
      no_parameter = ap (λ o. map (parameter_in p 0) (parameters_of_subprogram o)) well.is_main ∙ ap (map (parameter_in p 0)) well.main_alone.bare;
      begins = λ input. begins_alike p s.library s.low kernel.apart s.address_of K well kernel.addressed kernel.objects input (kernel.begins input);
    };
    many = kernel.many;
    numbered = λ n b there. kernel.numbers b.instance b.subprogram (listed n b there) ∙ place_is p n b there;
    room = λ j m is. room_is j m is;
    library = library_fit s.library kernel.objects kernel.library;
    library_words = kernel.library_words;
    library_few = kernel.library_few;
    layouts = kernel.layouts;
    contents = kernel.contents;
    exceptions = kernel.exceptions;
    exceptions_few = kernel.exceptions_few;
  }
    where
      library_fit : (os : List Standing) → Everywhere (IsObjectOf p s.address_of) os → Everywhere (λ o. (words o.shape ≤ most_words) × (o.address < data_word + length K.library)) os
          → Everywhere (λ o. ShapeFits o.shape × (o.address < data_word + length K.library)) os
      library_fit [] are small = tt
      library_fit (o ∷ os) are small = ((type_fits o.shape (standing_typed p s.address_of o well are.0) small.0.0, small.0.1), library_fit os are.1 small.1)

      listed : (n : ℕ) (b : Body) → slice_get (bodies_of p) n ≡ Some b → IsBody p b
      listed n b there = (bodies_law p b).0 (found_there (bodies_of p) n b there)
