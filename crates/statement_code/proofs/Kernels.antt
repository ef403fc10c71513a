-- Kernels of whole programs: their bodies are copies of the program's texts.
use Rattle.std.proofs.Common.{◌≡◌, ℕ, ℤ, zero, suc, ◌+◌, ◌*◌, ◌<◌, ◌≤◌, inl, inr, Bool, false, List, [], ◌∷◌, ◌++◌, map, length, sum_by, Some, option_map, slice_get, refl, sym, ap, subst, ◌∙◌, arith}
use Rattle.std.specs.Prelude.{unwrap_or}
use Rattle.std.proofs.lemmas.List.{length-map}
use Rattle.std.proofs.lemmas.List.Sums.{sum_by-cons}
use Rattle.cov_base.specs.declared.position.DecId.{DecId}
use Rattle.cov_base.specs.Graph.{Edges}
use Rattle.cov_base.specs.Lists.{Everywhere, Somewhere}
use Rattle.ada_meaning.specs.Bodies.{Body, bodies_of, IsBody}
use Rattle.ada_meaning.proofs.BodyLaws.{bodies_law}
use Rattle.ada_meaning.specs.Collected.{block_labels, in_block, decisions_of}
use Rattle.ada_meaning.specs.Execution.{library_place}
use Rattle.ada_meaning.specs.Program.{out_mode, Subprogram, body_target, Program}
use Rattle.ada_meaning.specs.Resolved.{ResolvedParameter, parameters_of_subprogram, parameter_in, parameters_of, owner_in}
use Rattle.ada_meaning.specs.Tree as tree
use Rattle.kernel_ir.proofs.Numbers.{exec_raises}
use Rattle.kernel_ir.specs.declared.kernel.Body.{Body as KernelBody}
use Rattle.kernel_ir.specs.declared.kernel.Kernel.{Kernel}
use Rattle.kernel_ir.specs.Layouts.{content_in}
use Rattle.kernel_ir.specs.Limits.{IsWellFormed, IsWithin, kernel_instructions, most_arguments, widest}
use Rattle.kernel_ir.specs.Laws.{RaisesOneOf}
use Rattle.kernel_ir.specs.Meaning.{exec}
use Rattle.kernel_ir.specs.Obligations.{Condition, rows, conditions}
use Rattle.kernel_ir.specs.World.{data_word}
use Rattle.statement_code.specs.Bodies.{IsParameterOf, body_code}
use Rattle.statement_code.specs.Copies.{Copy, IsCopy, rows_in, all_conditions_in, nodes_in, AreCovered}
use Rattle.statement_code.specs.Fragments.{AreOwn, CodeLeaves, Fragment, row_in, conditions_in}
use Rattle.statement_code.specs.Kernels.{Scheme, text_at, nodes_at, BodyBy, HasRoom, IsWhole, rows_of, conditions_of, expanded_nodes}
use Rattle.statement_code.specs.Names.{names_in}
use Rattle.statement_code.specs.Numbers.{ShapeFits, HomeFits, BodiesFit, ObjectsFit, ParametersFit, ParameterFits, BlockFits}
use Rattle.statement_code.specs.Objects.{Standing}
use Rattle.statement_code.specs.Programs.{Plan, IsLaid, AreLaid, IsLocal, AreParametersLaid, IsHome, IsSeen, site_of, IsPlanned}
use Rattle.statement_code.specs.Sizes.{block_nodes, subprogram_nodes, node_instructions}
use Rattle.statement_code.specs.Statements.{slot_of, IsInFrame, block_code}
use Rattle.statement_code.specs.Values.{Home, in_frame, in_library, IsComposite}
use Rattle.statement_code.proofs.Blocks.{block_like}
use Rattle.statement_code.proofs.Copies as copies
use Rattle.statement_code.proofs.Copies.{body_like}
use Rattle.statement_code.proofs.Fragments.{first_own, second_own}

-- what is found in a list is within it, and is one of its items
within_list : {X : Type 0} (xs : List X) (n : ℕ) (x : X) → slice_get xs n ≡ Some x → n < length xs
within_list [] n x is = cc is
within_list (y ∷ ys) zero x is = omega arith
within_list (y ∷ ys) (suc n) x is = let lt = within_list ys n x is in omega (arith, lt)

pub found_there : {X : Type 0} (xs : List X) (n : ℕ) (x : X) → slice_get xs n ≡ Some x → Somewhere (λ y. y ≡ x) xs
found_there [] n x is = cc is
found_there (y ∷ ys) zero x is = inl (cc is)
found_there (y ∷ ys) (suc n) x is = inr (found_there ys n x is)

same_found : {X : Type 0} (xs : List X) (n : ℕ) (x y : X) → slice_get xs n ≡ Some x → slice_get xs n ≡ Some y → x ≡ y
same_found xs n x y is also = cc (sym is ∙ also)

-- what each item is, this one is
pub each_is : {X : Type 0} (P : X → Type 0) (xs : List X) (x : X) → Everywhere P xs → Somewhere (λ y. y ≡ x) xs → P x
each_is P [] x all there = absurd there
each_is P (y ∷ ys) x all (inl is) = subst P is all.0
each_is P (y ∷ ys) x all (inr there) = each_is P ys x all.1 there

-- an object of a body
pub laid_at : (plan : Plan) (ds : List ℕ) (d : ℕ) → AreLaid plan ds → Somewhere (λ e. e ≡ d) ds → IsLaid plan d
laid_at plan [] d laid there = absurd there
laid_at plan (e ∷ ds) d laid (inl is) = subst (IsLaid plan) is laid.0
laid_at plan (e ∷ ds) d laid (inr there) = laid_at plan ds d laid.1.1 there

framed_fits : (width : ℕ) (K : Kernel) (h : Home) → IsInFrame h → slot_of h < width → HomeFits width K h
framed_fits width K (in_frame j) is lt = lt
framed_fits width K (in_library n) is lt = absurd is

-- an object of the library level
library_fits : (width : ℕ) (K : Kernel) (h : Home) (a : ℕ) → IsHome h a → a < data_word + length K.library → HomeFits width K h
library_fits width K (in_frame j) a is lt = absurd is
library_fits width K (in_library n) a is lt = omega (arith, is, lt)

-- texts and their decisions, by the numbers of subprograms
text_own : (graph : DecId → List Edges) (ss : List Subprogram) (m : ℕ) → AreOwn graph (decisions_of ss) → AreOwn graph (in_block (text_at ss m))
text_own graph [] m own = tt
text_own graph (s ∷ ss) zero own = first_own graph (in_block s.body) (decisions_of ss) own
text_own graph (s ∷ ss) (suc m) own = text_own graph ss m (second_own graph (in_block s.body) (decisions_of ss) own)

pub text_is : (ss : List Subprogram) (m : ℕ) (s : Subprogram) → slice_get ss m ≡ Some s → text_at ss m ≡ s.body
text_is ss m s is = ap (λ o. unwrap_or (option_map (λ t. t.body) o) (tree.block [] tree.no_statement tree.no_handler)) is

nodes_are : (ss : List Subprogram) (m : ℕ) (s : Subprogram) → slice_get ss m ≡ Some s → nodes_at ss m ≡ subprogram_nodes s
nodes_are ss m s is = ap (λ o. unwrap_or (option_map subprogram_nodes o) 0) is

pub parameters_many : (p : Program) (j m : ℕ) (s : Subprogram) → slice_get p.subprograms m ≡ Some s → length (parameters_of p (body_target j m)) ≡ length s.parameters
parameters_many p j m s is = length-map (parameters_of_subprogram (slice_get p.subprograms m)) (parameter_in p j) ∙ ap (λ o. length (parameters_of_subprogram o)) is

-- a body of a program with the body of a kernel, as a copy
abbrev pub copy_in : Program → Body → KernelBody → Copy
copy_in p b k = record {
  inst = b.instance;
  labels = block_labels (text_at p.subprograms b.subprogram);
  decisions = in_block (text_at p.subprograms b.subprogram);
  nodes = nodes_at p.subprograms b.subprogram;
  body = k;
}

abbrev pub copies_of : Program → List Body → List KernelBody → List Copy
copies_of p [] ks = []
copies_of p (b ∷ bs) [] = []
copies_of p (b ∷ bs) (k ∷ ks) = copy_in p b k ∷ copies_of p bs ks

copies_are : (p : Program) (bs : List Body) (ks : List KernelBody) → length ks ≡ length bs → ks ≡ map (λ c. c.body) (copies_of p bs ks)
copies_are p [] [] many = refl
copies_are p [] (k ∷ ks) many = absurd (omega (arith, many))
copies_are p (b ∷ bs) [] many = absurd (omega (arith, many))
copies_are p (b ∷ bs) (k ∷ ks) many = ap (λ xs. k ∷ xs) (copies_are p bs ks (omega (arith, many)))

copies_marked : (p : Program) (bs : List Body) (ks : List KernelBody) → length ks ≡ length bs → rows_in (copies_of p bs ks) ≡ rows_of p bs
copies_marked p [] [] many = refl
copies_marked p [] (k ∷ ks) many = refl
copies_marked p (b ∷ bs) [] many = absurd (omega (arith, many))
copies_marked p (b ∷ bs) (k ∷ ks) many =
    ap (λ rs. map (row_in b.instance) (block_labels (text_at p.subprograms b.subprogram)) ++ rs) (copies_marked p bs ks (omega (arith, many)))

copies_decided : (p : Program) (bs : List Body) (ks : List KernelBody) → length ks ≡ length bs → all_conditions_in (copies_of p bs ks) ≡ conditions_of p bs
copies_decided p [] [] many = refl
copies_decided p [] (k ∷ ks) many = refl
copies_decided p (b ∷ bs) [] many = absurd (omega (arith, many))
copies_decided p (b ∷ bs) (k ∷ ks) many =
    ap (λ cs. conditions_in b.instance (in_block (text_at p.subprograms b.subprogram)) ++ cs) (copies_decided p bs ks (omega (arith, many)))

copies_counted : (p : Program) (bs : List Body) (ks : List KernelBody) → length ks ≡ length bs
    → nodes_in (copies_of p bs ks) ≡ sum_by (λ b. nodes_at p.subprograms b.subprogram) bs
copies_counted p [] [] many = refl
copies_counted p [] (k ∷ ks) many = refl
copies_counted p (b ∷ bs) [] many = absurd (omega (arith, many))
copies_counted p (b ∷ bs) (k ∷ ks) many =
    omega (arith, sum_by-cons (λ (c : Body). nodes_at p.subprograms c.subprogram) b bs, copies_counted p bs ks (omega (arith, many)))

all_copies : (p : Program) (P : Copy → Type 0) (bs : List Body) (ks : List KernelBody)
    → ((n : ℕ) (b : Body) (k : KernelBody) → slice_get bs n ≡ Some b → slice_get ks n ≡ Some k → P (copy_in p b k)) → Everywhere P (copies_of p bs ks)
all_copies p P [] ks each = tt
all_copies p P (b ∷ bs) [] each = tt
all_copies p P (b ∷ bs) (k ∷ ks) each = (each 0 b k refl refl, all_copies p P bs ks (λ n c l is there. each (suc n) c l is there))

module _ (p : Program) (K : Kernel) (s : Scheme) (whole : IsWhole p K s) where
  abbrev Bodies : Bool → ℕ → ℕ → Type 0
  Bodies = BodyBy p s

  abbrev at : (j m : ℕ) → Body
  at j m = record { instance = j; subprogram = m }

  -- the plan of a body
  module _ (j m : ℕ) (is : IsBody p (at j m)) where
    abbrev plan : Plan
    plan = s.plan_of j m

    abbrev parameters : List ResolvedParameter
    parameters = parameters_of p (body_target j m)

    planned : IsPlanned p K s.number s.library Bodies plan.gives j m plan
    planned = whole.is_kernel.made.bodies plan.gives j m (is, refl)

    room : HasRoom p K plan j m
    room = whole.room j m is

    local_fits : (d : ℕ) → IsLocal plan d → ShapeFits (plan.shape_of (tree.local_object d)) × HomeFits plan.width K (plan.home_of (tree.local_object d))
    local_fits d there =
        let laid = laid_at plan plan.locals d planned.laid there in
        let low = laid.low in
        let small = planned.small in (
          each_is (λ e. ShapeFits (plan.shape_of (tree.local_object e))) plan.locals d room.types there,
          framed_fits plan.width K (plan.home_of (tree.local_object d)) laid.framed (omega (arith, low, small)),
        )

    -- its parameters
    parameters_shaped : (count i : ℕ) (qs : List ResolvedParameter) → AreParametersLaid K.layouts plan count qs i → ParametersFit qs
    parameters_shaped count i [] laid = tt
    parameters_shaped count i (q ∷ qs) laid =
        (subst ShapeFits laid.0.shape (local_fits q.declaration laid.0.among).0, parameters_shaped count (i + 1) qs laid.1)

    pub shaped : ParametersFit parameters
    shaped = parameters_shaped (length parameters) 0 parameters planned.parameters

    parameters_fit : (count i : ℕ) (qs : List ResolvedParameter) → AreParametersLaid K.layouts plan count qs i
        → Everywhere (λ q. IsComposite q.shape → q.mode ≡ out_mode → plan.layout_of q.declaration < length K.layouts) qs
        → Everywhere (ParameterFits plan.width K plan.home_of plan.layout_of) qs
    parameters_fit count i [] laid filled = tt
    parameters_fit count i (q ∷ qs) laid filled =
        let object = local_fits q.declaration laid.0.among in
        ((subst ShapeFits laid.0.shape object.0, λ composite. (object.1, filled.0 composite)), parameters_fit count (i + 1) qs laid.1 filled.1)

    parameter_fits : (count i : ℕ) (qs : List ResolvedParameter) (o : tree.Object) → AreParametersLaid K.layouts plan count qs i → IsParameterOf plan.shape_of qs o
        → ShapeFits (plan.shape_of o) × HomeFits plan.width K (plan.home_of o)
    parameter_fits count i [] o laid there = absurd there
    parameter_fits count i (q ∷ qs) o laid (inl is_it) =
        subst (λ x. ShapeFits (plan.shape_of x) × HomeFits plan.width K (plan.home_of x)) (sym is_it.0) (local_fits q.declaration laid.0.among)
    parameter_fits count i (q ∷ qs) o laid (inr there) = parameter_fits count (i + 1) qs o laid.1 there

  -- the bodies that calls name
  bodies_fit : (own : Plan) → BodiesFit p K (site_of p K s.number s.library Bodies own) Bodies
  bodies_fit own f j m body =
      (within_list K.bodies (s.number j m) _ (whole.is_kernel.made.bodies f j m body).is_body, shaped j m body.0)

  -- the visible objects of a body
  outside_fits : (width : ℕ) (own : Plan) (o : tree.Object) (os : List Standing) → Everywhere (λ x. ShapeFits x.shape × (x.address < data_word + length K.library)) os
      → (q : Standing → Type 0) → Somewhere (λ x. q x × ((x.shape ≡ own.shape_of o) × IsHome (own.home_of o) x.address)) os
      → ShapeFits (own.shape_of o) × HomeFits width K (own.home_of o)
  outside_fits width own o [] all q there = absurd there
  outside_fits width own o (x ∷ os) all q (inl is) =
      (subst ShapeFits is.1.0 all.0.0, library_fits width K (own.home_of o) x.address is.1.1 all.0.1)
  outside_fits width own o (x ∷ os) all q (inr there) = outside_fits width own o os all.1 q there

  module _ (j m : ℕ) (is : IsBody p (at j m)) (graph : DecId → List Edges) where
    abbrev by_plan : Plan
    by_plan = s.plan_of j m

    abbrev own : IsPlanned p K s.number s.library Bodies by_plan.gives j m by_plan
    own = planned j m is

    abbrev given : List ResolvedParameter
    given = parameters_of p (body_target j m)

    objects_fit : ObjectsFit by_plan.width K by_plan.shape_of by_plan.home_of (IsSeen s.library by_plan j given)
    objects_fit (tree.local_object d) (inl there) = absurd there
    objects_fit (tree.library_object o d) (inl there) =
        outside_fits by_plan.width by_plan (tree.library_object o d) s.library whole.library (λ x. x.place ≡ library_place (owner_in j o) d) there
    objects_fit o (inr there) = parameter_fits j m is (length given) 0 given o own.parameters there

    text_fits : BlockFits p j K by_plan.shape_of by_plan.layout_of own.declared.body
    text_fits = subst (BlockFits p j K by_plan.shape_of by_plan.layout_of) (text_is p.subprograms m own.declared own.is_declared) (room j m is).text

    -- its code is a fragment of its text's
    block_is : Fragment K (by_plan.width + most_arguments) graph j false (block_labels own.declared.body) (in_block own.declared.body) 0 (node_instructions * block_nodes own.declared.body)
        (block_code (names_in p j) by_plan.shape_of by_plan.home_of (site_of p K s.number s.library Bodies by_plan) by_plan.layout_of by_plan.base 0 own.declared.body)
    block_is =
        block_like p j by_plan.shape_of by_plan.home_of (site_of p K s.number s.library Bodies by_plan) Bodies K graph (bodies_fit by_plan) by_plan.layout_of (content_in K.layouts) (IsLocal by_plan)
        K.exceptions by_plan.gives (local_fits j m is) (let some = whole.is_kernel.made.predefined in omega (arith, some)) (omega arith) own.declared.body (IsSeen s.library by_plan j given)
        by_plan.base 0 false false own.plain objects_fit text_fits (λ e. cc e) own.ends

    abbrev made_body : KernelBody
    made_body = record {
      code = body_code (names_in p j) by_plan.shape_of by_plan.home_of (site_of p K s.number s.library Bodies by_plan) by_plan.layout_of by_plan.base by_plan.gives given own.declared.body;
      width = by_plan.width;
    }

    body_is : IsCopy K graph (copy_in p (at j m) made_body)
    body_is =
        let nodes : suc (length given + block_nodes own.declared.body) ≡ nodes_at p.subprograms m =
        ap (λ n. suc (n + block_nodes own.declared.body)) (parameters_many p j m own.declared own.is_declared) ∙ sym (nodes_are p.subprograms m own.declared own.is_declared) in
        let few = own.few in
        let small = own.small in
        subst (λ n. Fragment K (by_plan.width + most_arguments) graph j false (block_labels (text_at p.subprograms m)) (in_block (text_at p.subprograms m)) 8 (node_instructions * n) made_body.code) nodes
        (subst (λ t. Fragment K (by_plan.width + most_arguments) graph j false (block_labels t) (in_block t) 8 (node_instructions * suc (length given + block_nodes own.declared.body)) made_body.code)
        (sym (text_is p.subprograms m own.declared own.is_declared))
        (body_like K by_plan.width graph j by_plan.home_of by_plan.layout_of (block_nodes own.declared.body) given by_plan.gives by_plan.base (omega (arith, small)) (omega (arith, few, small))
        (parameters_fit j m is (length given) 0 given own.parameters (room j m is).filled) whole.is_kernel.made.predefined block_is))

  -- a body of the kernel is that of the program with its number
  found_is : (graph : DecId → List Edges) (n : ℕ) (b : Body) (k : KernelBody) (is : IsBody p b) → slice_get (bodies_of p) n ≡ Some b → slice_get K.bodies n ≡ Some k
      → made_body b.instance b.subprogram is graph ≡ k
  found_is graph n b k is there here =
      let own = planned b.instance b.subprogram is in
      same_found K.bodies n (made_body b.instance b.subprogram is graph) k
      (subst (λ i. slice_get K.bodies i ≡ Some (made_body b.instance b.subprogram is graph)) (whole.numbered n b there) own.is_body) here

  listed : (n : ℕ) (b : Body) → slice_get (bodies_of p) n ≡ Some b → IsBody p b
  listed n b there = (bodies_law p b).0 (found_there (bodies_of p) n b there)

  abbrev all : List Copy
  all = copies_of p (bodies_of p) K.bodies

  all_are : (graph : DecId → List Edges) → Everywhere (IsCopy K graph) all
  all_are graph = all_copies p (IsCopy K graph) (bodies_of p) K.bodies (λ n b k there here.
      let is = listed n b there in
      subst (λ c. IsCopy K graph (copy_in p b c)) (found_is graph n b k is there here) (body_is b.instance b.subprogram is graph))

  all_own : (graph : DecId → List Edges) → AreOwn graph (decisions_of p.subprograms) → Everywhere (λ c. AreOwn graph c.decisions) all
  all_own graph own = all_copies p (λ c. AreOwn graph c.decisions) (bodies_of p) K.bodies (λ n b k there here. text_own graph p.subprograms b.subprogram own)

  all_narrow : Everywhere (λ c. (1 ≤ c.body.width) × (c.body.width + most_arguments ≤ widest)) all
  all_narrow = all_copies p (λ c. (1 ≤ c.body.width) × (c.body.width + most_arguments ≤ widest)) (bodies_of p) K.bodies (λ n b k there here.
      let is = listed n b there in
      let own = planned b.instance b.subprogram is in
      let small = own.small in
      subst (λ (c : KernelBody). (1 ≤ c.width) × (c.width + most_arguments ≤ widest)) (found_is (λ d. []) n b k is there here) (omega (arith, small), own.narrow))

  kernel_copies : K.bodies ≡ map (λ c. c.body) all
  kernel_copies = copies_are p (bodies_of p) K.bodies whole.many

  main_there : K.main < length K.bodies
  main_there =
      let own = planned 0 p.main whole.is_kernel.main_body.0 in
      subst (λ n. n < length K.bodies) (sym whole.is_kernel.main_is) (within_list K.bodies (s.number 0 p.main) _ own.is_body)

-- What it marks, that it is well-formed, and that it is small.
pub rows_law : (p : Program) (K : Kernel) (s : Scheme) → IsWhole p K s → rows K ≡ rows_of p (bodies_of p)
rows_law p K s whole =
    copies.rows_law K (λ d. []) (all p K s whole) (kernel_copies p K s whole) (all_are p K s whole (λ d. [])) ∙ copies_marked p (bodies_of p) K.bodies whole.many

pub conditions_law : (p : Program) (K : Kernel) (s : Scheme) → IsWhole p K s → (weight : Condition → ℕ)
    → sum_by weight (conditions K) ≡ sum_by weight (conditions_of p (bodies_of p))
conditions_law p K s whole weight =
    copies.conditions_law K (λ d. []) (all p K s whole) (kernel_copies p K s whole) (all_are p K s whole (λ d. [])) weight
    ∙ ap (sum_by weight) (copies_decided p (bodies_of p) K.bodies whole.many)

pub well_formed_law : (p : Program) (K : Kernel) (s : Scheme) → IsWhole p K s → (graph : DecId → List Edges) → AreOwn graph (decisions_of p.subprograms) → IsWellFormed graph K
well_formed_law p K s whole graph own =
    copies.well_formed_law K graph (all p K s whole) (kernel_copies p K s whole) (all_are p K s whole graph) (all_own p K s whole graph own) (main_there p K s whole) whole.layouts whole.library_words
    whole.is_kernel.made.predefined whole.exceptions_few

-- its bodies leave no loop but their own, and it raises exceptions of the program
leaving : (ks : List KernelBody) (cs : List Copy) (K : Kernel) (graph : DecId → List Edges) → ks ≡ map (λ c. c.body) cs → Everywhere (IsCopy K graph) cs → Everywhere (λ b. CodeLeaves false b.code) ks
leaving ks cs K graph are each = subst (λ xs. Everywhere (λ (b : KernelBody). CodeLeaves false b.code) xs) (sym are) (by_copy cs each)
  where
    by_copy : (ds : List Copy) → Everywhere (IsCopy K graph) ds → Everywhere (λ b. CodeLeaves false b.code) (map (λ c. c.body) ds)
    by_copy [] h = tt
    by_copy (d ∷ ds) h = (h.0.leaves, by_copy ds h.1)

pub leaves_law : (p : Program) (K : Kernel) (s : Scheme) → IsWhole p K s → Everywhere (λ b. CodeLeaves false b.code) K.bodies
leaves_law p K s whole = leaving K.bodies (all p K s whole) K (λ d. []) (kernel_copies p K s whole) (all_are p K s whole (λ d. []))

pub raises_law : (p : Program) (K : Kernel) (s : Scheme) → IsWhole p K s → (graph : DecId → List Edges) → IsWellFormed graph K → (fuel : ℕ) (input : List ℤ)
    → RaisesOneOf (4 + length p.exceptions) (exec K fuel input)
raises_law p K s whole graph formed fuel input = subst (λ n. RaisesOneOf n (exec K fuel input)) whole.exceptions (exec_raises graph K formed fuel input)

pub short_law : (p : Program) (K : Kernel) (s : Scheme) → IsWhole p K s → (nodes : ℕ) → AreCovered K.layouts nodes
    → kernel_instructions K ≤ node_instructions * (expanded_nodes p + nodes) + 16
short_law p K s whole nodes covered =
    subst (λ n. kernel_instructions K ≤ node_instructions * (n + nodes) + 16) (copies_counted p (bodies_of p) K.bodies whole.many)
    (copies.short_law K (λ d. []) (all p K s whole) (kernel_copies p K s whole) (all_are p K s whole (λ d. [])) nodes covered)

pub bytes_law : (p : Program) (K : Kernel) (s : Scheme) → IsWhole p K s → (nodes : ℕ) → AreCovered K.layouts nodes → (n : ℕ) → expanded_nodes p + nodes ≤ n
    → 4 * kernel_instructions K ≤ 240 * n + 4096
bytes_law p K s whole nodes covered n few =
    copies.bytes_law K (λ d. []) (all p K s whole) (kernel_copies p K s whole) (all_are p K s whole (λ d. [])) nodes covered n
    (subst (λ m. m + nodes ≤ n) (sym (copies_counted p (bodies_of p) K.bodies whole.many)) few)

pub within_law : (p : Program) (K : Kernel) (s : Scheme) → IsWhole p K s → (nodes : ℕ) → AreCovered K.layouts nodes → expanded_nodes p + nodes ≤ 4096 → IsWithin K
within_law p K s whole nodes covered few =
    copies.within_law K (λ d. []) (all p K s whole) (kernel_copies p K s whole) (all_are p K s whole (λ d. [])) nodes covered
    (subst (λ m. m + nodes ≤ 4096) (sym (copies_counted p (bodies_of p) K.bodies whole.many)) few) (all_narrow p K s whole) whole.library_few whole.contents
