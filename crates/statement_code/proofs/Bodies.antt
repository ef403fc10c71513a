-- The code of a body does what the body does.
use Rattle.std.proofs.Common.{◌≡◌, ◌==◌, ℕ, suc, ◌+◌, ◌<◌, ◌≤◌, ◌⊎◌, inl, inr, ℤ, pos, Bool, true, false, FitsSigned, List, [], ◌∷◌, length, Option, Some, None, refl, sym, ap, subst, ◌∙◌, arith, eq-eqb}
use Rattle.std.proofs.lemmas.Bool.{false≢true}
use Rattle.std.specs.Int.{w32}
use Rattle.ada_meaning.specs.Calls.{Argument, of_value, of_variable, of_both, of_composite, Calls, copy_all_in, result_of}
use Rattle.ada_meaning.specs.Execution.{result_in}
use Rattle.ada_meaning.specs.Program.{Mode, in_mode, out_mode, in_out_mode, Program}
use Rattle.ada_meaning.specs.Resolved.{ResolvedParameter, local_place, place_in}
use Rattle.ada_meaning.specs.Shape.{Shape}
use Rattle.ada_meaning.specs.State.{Place, same_place, World, Outcome, Gives, goes_to, give, at_depth, left}
use Rattle.ada_meaning.specs.Statements.{Flow, goes_on, returns, does_block}
use Rattle.ada_meaning.specs.Tree as tree
use Rattle.ada_resolved.specs.Sizes.{words}
use Rattle.kernel_ir.proofs.Joining.{joined_does}
use Rattle.kernel_ir.proofs.Memories.{with_word_other, with_slot_at}
use Rattle.kernel_ir.specs.declared.kernel.Kernel.{Kernel}
use Rattle.kernel_ir.specs.Layouts.{content_in}
use Rattle.kernel_ir.specs.Meaning as code
use Rattle.kernel_ir.specs.Sequence.{joined}
use Rattle.kernel_ir.specs.Tree.{Code}
use Rattle.kernel_ir.specs.World.{Memory, Ended, Ends, slot_word, slot_in, with_slot, paid}
use Rattle.kernel_ir.specs.World as kernel
use Rattle.frame_widths.specs.Ends.{end_of_block}
use Rattle.statement_code.specs.Names.{names_in}
use Rattle.statement_code.specs.Bodies.{parameters_code, ending_code, body_code, ParameterStands, ParametersStand, HandedSlots, SetBy, Addresses, IsParameterOf, IsStage}
use Rattle.statement_code.specs.Calls.{ArgumentsStand, AreFor, FunctionsDo, ProceduresDo, Called, Inner, Returned, IsBack, Results}
use Rattle.statement_code.specs.Cells.{Cells, Agree, Within, With}
use Rattle.statement_code.specs.Frames.{Observed, Frame, IsFrame, Inside, Failed, Runs}
use Rattle.statement_code.specs.Objects.{Among}
use Rattle.statement_code.specs.Statements.{block_code, IsPlainBlock}
use Rattle.statement_code.specs.Steps.{Step}
use Rattle.statement_code.specs.Values.{Home, address_at, arguments, IsWord, Stands, SeesIn, Site}
use Rattle.statement_code.proofs.Across.{among_lies}
use Rattle.statement_code.proofs.Cells.{lies_more, lies_set, set_more}
use Rattle.statement_code.proofs.Entering.{AllEntered, arguments_stay, parameters_do}
use Rattle.statement_code.proofs.Flows.{steps_are}
use Rattle.statement_code.proofs.Frames.{ticked, observed_less, inside_fewer, other_frame}
use Rattle.statement_code.proofs.Objects.{lies_among, of_object}
use Rattle.statement_code.proofs.Operands.{word_cell, word_ends}
use Rattle.statement_code.proofs.Sets.{stands_more}
use Rattle.statement_code.proofs.Statements.{Returning, block_does}

-- words that were set still are behind those of parameters
still_set : (home_of : tree.Object → Home) (fp : ℕ) (qs : List ResolvedParameter) (Set : ℕ → Type 0) (c : ℕ) → Set c → SetBy home_of fp Set qs c
still_set home_of fp [] Set c set = set
still_set home_of fp (q ∷ qs) Set c set =
    still_set home_of fp qs (With Set (address_at fp (home_of (tree.local_object q.declaration))) (words q.shape)) c (inl set)

-- those of the first parameter are among them
head_given : (home_of : tree.Object → Home) (fp : ℕ) (q : ResolvedParameter) (qs : List ResolvedParameter) (Set Given : ℕ → Type 0) → ((c : ℕ) → SetBy home_of fp Set (q ∷ qs) c → Given c)
    → (c : ℕ) → With (λ e. ⊥) (address_at fp (home_of (tree.local_object q.declaration))) (words q.shape) c → Given c
head_given home_of fp q qs Set Given among c (inl none) = absurd none
head_given home_of fp q qs Set Given among c (inr here) =
    among c (still_set home_of fp qs (With Set (address_at fp (home_of (tree.local_object q.declaration))) (words q.shape)) c (inr here))

count_for : (qs : List ResolvedParameter) (xs : List Argument) → AreFor qs xs → length xs ≡ length qs
count_for [] [] are = refl
count_for (q ∷ qs) [] are = sym (ap length are)
count_for [] (x ∷ xs) are = absurd (none are.0)
  where
    none : 1 ≤ 0 → ⊥
    none le = omega (arith, le)
count_for (q ∷ qs) (x ∷ xs) are = ap suc (count_for qs xs are.1.1)

called_less : (Library : Cells) (end n m : ℕ) (start : World) (begun : kernel.World) (u : World) (t : kernel.World) → m ≤ n → Called Library end n start begun u t
    → Called Library end m start begun u t
called_less Library end n m start begun u t le h = record {
  depth_is = h.depth_is;
  input = h.input;
  library = h.library;
  words = h.words;
  kept = h.kept;
  seen = observed_less n m u.seen t.seen le h.seen;
}

is_back : (m : Mode) (P : Type 0) → P → IsBack m P
is_back in_mode P x = record {}
is_back out_mode P x = x
is_back in_out_mode P x = x

-- an activation of a body in an instance
module _ (p : Program) (calls : Calls) (j : ℕ) (K : Kernel) (kcalls : code.Calls) (fuel : ℕ) (Cell Library : Cells) (shape_of : tree.Object → Shape) (home_of : tree.Object → Home) (site : Site)
    (Bodies : Bool → ℕ → ℕ → Type 0) (layout_of : ℕ → ℕ) (qs : List ResolvedParameter) (fp width base calls_left top : ℕ) (w : World) (v : kernel.World)
    (stage : IsStage Cell Library fp width base (suc w.depth) top (length qs))
    (parameters : ParametersStand K.layouts Cell home_of layout_of fp j (suc w.depth) (length qs) qs 0) where
  abbrev depth : ℕ
  depth = suc w.depth

  -- the words of the caller, and the addresses of composite parameters
  abbrev Above : ℕ → Type 0
  Above a = fp ≤ a

  abbrev Stays : ℕ → Type 0
  Stays a = (fp ≤ a) ⊎ HandedSlots fp qs 0 a

  abbrev frame_of : Memory → (spare : ℕ) → Frame
  frame_of memory spare =
      record { fp = fp; width = width; base = base; calls = calls_left; depth = depth; store = w.store; memory = memory; spare = spare; top = top }

  abbrev Given : ℕ → Type 0
  Given = SetBy home_of fp (λ c. ⊥) qs

  abbrev codes : Code → kernel.World → Ended
  codes a u = code.does_code K kcalls fuel width fp calls_left a u

  frame_with : (Keep : ℕ → Type 0) → ((q : Place) (a : ℕ) → Cell q a → Keep a → ⊥) → ((i : ℕ) → base ≤ i → i < width + arguments → Keep (slot_word fp i) → ⊥)
      → (memory : Memory) (spare : ℕ) → IsFrame Cell Keep (frame_of memory spare)
  frame_with Keep unkept hidden memory spare = record {
    apart = stage.apart;
    area = λ q a cell. let low = stage.under q a cell in (stage.low q a cell, omega (arith, low, stage.inside));
    unkept = unkept;
    free = stage.free;
    own = stage.own;
    hidden = hidden;
    inside = stage.inside;
    room = stage.room;
    predefined = stage.predefined;
  }

  above_hidden : (i : ℕ) → i < width + arguments → fp ≤ slot_word fp i → ⊥
  above_hidden i lt above = omega (arith, lt, above, stage.room)

  entering_frame : (memory : Memory) (spare : ℕ) → IsFrame Cell Above (frame_of memory spare)
  entering_frame = frame_with Above (λ q a cell above. let low = stage.under q a cell in omega (arith, low, above)) (λ i le lt above. above_hidden i lt above)

  handed_bare : (rs : List ResolvedParameter) (i : ℕ) → ParametersStand K.layouts Cell home_of layout_of fp j depth (length qs) rs i → (q : Place) (a : ℕ) → Cell q a
      → HandedSlots fp rs i a → ⊥
  handed_bare [] i stand q a cell handed = handed
  handed_bare (r ∷ rs) i stand q a cell (inl here) = stand.0.bare here.0 q a cell here.1
  handed_bare (r ∷ rs) i stand q a cell (inr there) = handed_bare rs (i + 1) stand.1 q a cell there

  handed_hidden : (rs : List ResolvedParameter) (i : ℕ) → ParametersStand K.layouts Cell home_of layout_of fp j depth (length qs) rs i → (k : ℕ) → base ≤ k → k < width + arguments
      → HandedSlots fp rs i (slot_word fp k) → ⊥
  handed_hidden [] i stand k le lt handed = handed
  handed_hidden (r ∷ rs) i stand k le lt (inl here) = let few = stand.0.here in omega (arith, le, lt, here.1, few, stage.few, stage.room)
  handed_hidden (r ∷ rs) i stand k le lt (inr there) = handed_hidden rs (i + 1) stand.1 k le lt there

  body_frame : (memory : Memory) (spare : ℕ) → IsFrame Cell Stays (frame_of memory spare)
  body_frame = frame_with Stays unkept hidden
    where
      unkept : (q : Place) (a : ℕ) → Cell q a → Stays a → ⊥
      unkept q a cell (inl above) = let low = stage.under q a cell in omega (arith, low, above)
      unkept q a cell (inr handed) = handed_bare qs 0 parameters q a cell handed

      hidden : (i : ℕ) → base ≤ i → i < width + arguments → Stays (slot_word fp i) → ⊥
      hidden i le lt (inl above) = above_hidden i lt above
      hidden i le lt (inr handed) = handed_hidden qs 0 parameters i le lt handed

  -- what the caller knows at the end
  called_of : (memory : Memory) (spare l : ℕ) (Set : ℕ → Type 0) (u : World) (t : kernel.World) → ((a : ℕ) → fp ≤ a → memory a ≡ v.memory a)
      → Inside Cell Stays (frame_of memory spare) Set l u t → Called Library fp spare w v (at_depth w.depth u) t
  called_of memory spare l Set u t same h = record {
    depth_is = refl;
    input = h.input;
    library = λ q a here. let cell = stage.library q a here in h.agree q a (cell.0, inr cell.1);
    words = λ a above. h.words a (inl above) ∙ same a above;
    kept = λ q one le. h.kept q one (omega (arith, le));
    seen = observed_less (spare + l) spare u.seen t.seen (omega arith) h.seen;
  }

  -- a library word is no word of this activation's own objects
  library_apart : (r z : Place) (c : ℕ) → Cell r c → r.frame ≡ depth → Library z c → ⊥
  library_apart r z c cell own here =
      let same : same_place r z ≡ (c == c) = stage.apart r z c c cell (stage.library z c here).0 in
      let differ : same_place r z ≡ false = other_frame z r (λ f. omega (arith, f, own, (stage.library z c here).1)) in
      false≢true (sym differ ∙ (same ∙ eq-eqb c c refl))

  module _ (memory : Memory) (spare l : ℕ) (u : World) (t : kernel.World) (h : Inside Cell Stays (frame_of memory spare) Given l u t) where
    abbrev place_of : ResolvedParameter → Place
    place_of q = local_place j depth q.declaration

    abbrev address_of : ResolvedParameter → ℕ
    address_of q = address_at fp (home_of (tree.local_object q.declaration))

    abbrev StandsAt : ResolvedParameter → ℕ → Type 0
    StandsAt q i = ParameterStands K.layouts Cell home_of layout_of fp j depth (length qs) q i

    -- a scalar parameter's slot holds what the store has
    scalar_result : (q : ResolvedParameter) (i : ℕ) → StandsAt q i → IsWord q.shape → ((c : ℕ) → With (λ e. ⊥) (address_of q) (words q.shape) c → Given c)
        → (slot_in fp i t ≡ u.store (place_of q)) × FitsSigned w32 (u.store (place_of q))
    scalar_result q i stand is among =
        let one = word_ends q.shape is in
        let known = h.agree (place_of q) (address_of q) (word_cell Cell q.shape (place_of q) (address_of q) is stand.stands.lies, inl (among (address_of q) (inr (omega arith, omega (arith, one))))) in
        (ap t.memory (sym (stand.scalar is)) ∙ known.0, known.1)

    -- a composite parameter's words are known to the caller
    composite_result : (q : ResolvedParameter) (i : ℕ) → StandsAt q i → ((c : ℕ) → With (λ e. ⊥) (address_of q) (words q.shape) c → Given c)
        → t.memory (slot_word fp i) ≡ pos (address_of q) → Returned Library fp depth i q.shape (place_of q) (at_depth w.depth u) t
    composite_result q i stand among holds = record {
      address = address_of q;
      holds = holds;
      lies = lies_among (Inner Library fp depth u.store t.memory) q.shape (place_of q) (address_of q) inner;
      low = stand.stands.low;
      high = stand.stands.high;
    }
      where
        inner : (r : Place) (c : ℕ) → Among q.shape (place_of q) (address_of q) r c → Inner Library fp depth u.store t.memory r c
        inner r c g =
            let known : Within Cell Given r c = among_lies (Within Cell Given) q.shape (place_of q) (address_of q) r c
            (lies_more (Within Cell (With (λ e. ⊥) (address_of q) (words q.shape))) (Within Cell Given) (λ z d here. (here.0, set_more (With (λ e. ⊥) (address_of q) (words q.shape)) Given among z d here.1))
            q.shape (place_of q) (address_of q) (lies_set Cell (λ e. ⊥) q.shape (place_of q) (address_of q) stand.stands.lies)) g in
            let own = (of_object q.shape (place_of q) (address_of q) r c g).0 in
            (h.agree r c known, (own, (stage.under r c known.0, λ z here. library_apart r z c known.0 own here)))

    results_of : (rs : List ResolvedParameter) (xs : List Argument) (Set : ℕ → Type 0) (i : ℕ) → ((c : ℕ) → SetBy home_of fp Set rs c → Given c)
        → ParametersStand K.layouts Cell home_of layout_of fp j depth (length qs) rs i → AreFor rs xs → ((a : ℕ) → HandedSlots fp rs i a → HandedSlots fp qs 0 a)
        → Addresses home_of fp rs i memory → Results Library fp j depth i rs xs (at_depth w.depth u) t
    results_of rs [] Set i among stand are handed addresses = record {}
    results_of [] (x ∷ xs) Set i among stand are handed addresses = absurd (none are.0)
      where
        none : 1 ≤ 0 → ⊥
        none le = omega (arith, le)
    results_of (q ∷ rs) (of_value x ∷ xs) Set i among stand are handed addresses =
        results_of rs xs (With Set (address_of q) (words q.shape)) (i + 1) among stand.1 are.1.1 (λ a there. handed a (inr there)) addresses.1
    results_of (q ∷ rs) (of_variable s b ∷ xs) Set i among stand are handed addresses = (
      scalar_result q i stand.0 are.1.0.0 (head_given home_of fp q rs Set Given among),
      results_of rs xs (With Set (address_of q) (words q.shape)) (i + 1) among stand.1 are.1.1 (λ a there. handed a (inr there)) addresses.1,
    )
    results_of (q ∷ rs) (of_both s b x ∷ xs) Set i among stand are handed addresses = (
      scalar_result q i stand.0 are.1.0.0 (head_given home_of fp q rs Set Given among),
      results_of rs xs (With Set (address_of q) (words q.shape)) (i + 1) among stand.1 are.1.1 (λ a there. handed a (inr there)) addresses.1,
    )
    results_of (q ∷ rs) (of_composite s ∷ xs) Set i among stand are handed addresses = (
      is_back q.mode (Returned Library fp depth i q.shape (place_of q) (at_depth w.depth u) t)
          (composite_result q i stand.0 (head_given home_of fp q rs Set Given among) (h.words (slot_word fp i) (inr (handed (slot_word fp i) (inl (are.1.0, refl)))) ∙ addresses.0 are.1.0)),
      results_of rs xs (With Set (address_of q) (words q.shape)) (i + 1) among stand.1 are.1.1 (λ a there. handed a (inr there)) addresses.1,
    )

  -- a parameter stands among the words that were set
  parameter_seen : (rs : List ResolvedParameter) (Set : ℕ → Type 0) (i : ℕ) → ((c : ℕ) → SetBy home_of fp Set rs c → Given c)
      → ParametersStand K.layouts Cell home_of layout_of fp j depth (length qs) rs i → (o : tree.Object) → IsParameterOf shape_of rs o
      → Stands (Within Cell Given) (shape_of o) (place_in p j depth o) (address_at fp (home_of o))
  parameter_seen [] Set i among stand o is = absurd is
  parameter_seen (q ∷ rs) Set i among stand o (inl is) =
      let a : ℕ = address_at fp (home_of (tree.local_object q.declaration)) in
      subst (λ s. Stands (Within Cell Given) s (place_in p j depth o) (address_at fp (home_of o))) (sym is.1)
      (subst (λ x. Stands (Within Cell Given) q.shape (place_in p j depth x) (address_at fp (home_of x))) (sym is.0)
      (record {
        lies = lies_more (Within Cell (With (λ e. ⊥) a (words q.shape))) (Within Cell Given)
            (λ z d here. (here.0, set_more (With (λ e. ⊥) a (words q.shape)) Given (head_given home_of fp q rs Set Given among) z d here.1)) q.shape (local_place j depth q.declaration) a
            (lies_set Cell (λ e. ⊥) q.shape (local_place j depth q.declaration) a stand.0.stands.lies);
        low = stand.0.stands.low;
        high = stand.0.stands.high;
      }))
  parameter_seen (q ∷ rs) Set i among stand o (inr is) =
      parameter_seen rs (With Set (address_at fp (home_of (tree.local_object q.declaration))) (words q.shape)) (i + 1) among stand.1 o is

  module _ (Declares : ℕ → Type 0) (Sees : tree.Object → Type 0) (gives : Bool) (spare : ℕ) (exceptions : K.exceptions ≡ top)
      (stand : (d : ℕ) → Declares d → Stands Cell (shape_of (tree.local_object d)) (local_place j (suc w.depth) d) (address_at fp (home_of (tree.local_object d))))
      (visible : (o : tree.Object) → Sees o → Stands Library (shape_of o) (place_in p j (suc w.depth) o) (address_at fp (home_of o)) ⊎ IsParameterOf shape_of qs o)
      (functions : FunctionsDo p calls kcalls Library site Bodies top width fp calls_left) (procedures : ProceduresDo p calls kcalls Library site Bodies top width fp calls_left)
      (full : suc w.depth + calls_left ≡ 512) (width_is : site.width ≡ width) (xs : List Argument) (are : AreFor qs xs) (arguments_stand : ArgumentsStand Library fp w.depth 0 qs xs w v)
      (library : Agree Library w.store v.memory) (input : v.input ≡ w.input) (observed : Observed spare w.seen v.seen) (payment : ℕ) (cheap : payment ≤ 2)
      (b : tree.Block) (plain : IsPlainBlock p j shape_of home_of site Bodies layout_of (content_in K.layouts) Declares top gives Sees false false b) (ends : end_of_block base b ≤ width) where
    -- the states in which the body begins
    abbrev source_begun : World
    source_begun = at_depth depth (ticked w)

    abbrev code_begun : kernel.World
    code_begun = paid payment v

    at_start : Inside Cell Above (frame_of v.memory spare) (λ c. ⊥) (4 + 2) source_begun code_begun
    at_start = record {
      depth_is = refl;
      input = input;
      agree = λ q a here. known q a here.0 here.1;
      words = λ a above. refl;
      kept = λ q one less. refl;
      seen = record { events = observed.events; output = observed.output; cost = omega (arith, observed.cost, cheap) };
    }
      where
        known : (q : Place) (a : ℕ) → Cell q a → ⊥ ⊎ (q.frame ≡ 0) → (v.memory a ≡ w.store q) × FitsSigned w32 (w.store q)
        known q a cell (inl none) = absurd none
        known q a cell (inr outer) = library q a (stage.shared q a cell outer)

    abbrev given_at_start : ArgumentsStand Library fp w.depth 0 qs xs source_begun code_begun
    given_at_start = arguments_stay Library fp w.depth (λ r c here. (stage.library r c here).1) w source_begun v code_begun (λ r le. refl) (λ c le. refl) (λ r c here. refl) xs qs 0 (λ k le lt. refl) arguments_stand

    entered : AllEntered K kcalls fuel Cell Library (frame_of v.memory spare) (entering_frame v.memory spare) home_of layout_of j w.depth (length qs) refl stage.library stage.under stage.small
        stage.few (λ c. ⊥) qs xs 0 4 source_begun code_begun (codes (parameters_code home_of layout_of base 0 qs) code_begun)
    entered = parameters_do K kcalls fuel Cell Library (frame_of v.memory spare) (entering_frame v.memory spare) home_of layout_of j w.depth (length qs) refl stage.library stage.under stage.small
        stage.few qs xs (λ c. ⊥) 0 4 source_begun code_begun parameters are (let same = count_for qs xs are in omega (arith, same)) given_at_start at_start

    same_above : (a : ℕ) → fp ≤ a → entered.t.memory a ≡ v.memory a
    same_above a above = entered.inside.words a above

    body_inside : Inside Cell Stays (frame_of entered.t.memory spare) Given 1 entered.u entered.t
    body_inside = record {
      depth_is = entered.inside.depth_is;
      input = entered.inside.input;
      agree = entered.inside.agree;
      words = λ a stays. refl;
      kept = entered.inside.kept;
      seen = observed_less (spare + (4 + 2)) (spare + 1) entered.u.seen entered.t.seen (omega arith) entered.inside.seen;
    }

    sees : SeesIn p j shape_of home_of site Bodies Sees (Within Cell Given) fp depth
    sees o seen = by_kind (visible o seen)
      where
        by_kind : Stands Library (shape_of o) (place_in p j depth o) (address_at fp (home_of o)) ⊎ IsParameterOf shape_of qs o
            → Stands (Within Cell Given) (shape_of o) (place_in p j depth o) (address_at fp (home_of o))
        by_kind (inl outer) =
            stands_more Library (Within Cell Given) (λ q c here. let cell = stage.library q c here in (cell.0, inr cell.1)) (shape_of o) (place_in p j depth o) (address_at fp (home_of o)) outer
        by_kind (inr is) = parameter_seen qs (λ c. ⊥) 0 (λ c set. set) parameters o is

    abbrev Comes_back : (Back : Option ℤ → World → kernel.World → Type 0) → Type 1
    Comes_back Back =
        Returning p calls j K kcalls fuel Cell shape_of home_of site Bodies Library layout_of Declares Given gives Back fp width calls_left depth top w.store exceptions stand Stays
        (frame_of entered.t.memory spare)

    block_step : (Back : Option ℤ → World → kernel.World → Type 0) → Comes_back Back
        → Step Back false (Failed Cell Stays (frame_of entered.t.memory spare) Given) (Inside Cell Stays (frame_of entered.t.memory spare) Given 0) (does_block p calls fuel j b None entered.u)
        (codes (block_code (names_in p j) shape_of home_of site layout_of base 0 b) entered.t)
    block_step Back back =
        block_does p calls j K kcalls fuel Cell shape_of home_of site Bodies Library layout_of Declares Given gives Back fp width calls_left depth top w.store exceptions stand b Stays base spare
        entered.t.memory Given Sees 0 false false None entered.u entered.t
        (record {
          frame = body_frame entered.t.memory spare;
          may = record {
            calling = record {
              shared = stage.shared;
              library = stage.library;
              local = stage.local;
              above = above;
              deep = stage.deep;
            };
            functions = functions;
            procedures = procedures;
            full = full;
            width_is = width_is;
          };
          back = back;
          took = record {};
        })
        (record { sees = sees; given = λ c set. set }) plain stage.small ends body_inside
      where
        handed_above : (rs : List ResolvedParameter) (i : ℕ) → ParametersStand K.layouts Cell home_of layout_of fp j depth (length qs) rs i → (a : ℕ) → HandedSlots fp rs i a → fp ≤ a + width
        handed_above [] i rest a handed = absurd handed
        handed_above (r ∷ rs) i rest a (inl here) = let few = rest.0.here in omega (arith, here.1, few, stage.few, stage.small, stage.room)
        handed_above (r ∷ rs) i rest a (inr there) = handed_above rs (i + 1) rest.1 a there

        above : (a : ℕ) → Stays a → fp ≤ a + width
        above a (inl high) = omega (arith, high)
        above a (inr handed) = handed_above qs 0 parameters a handed

    -- an exception leaves the body
    stops : (n : ℕ) → n ≤ spare → (x : ℕ) (u : World) (t : kernel.World) → Failed Cell Stays (frame_of entered.t.memory spare) Given x u t
        → ((1 ≤ x) × (x ≤ top)) × Called Library fp n w v (at_depth w.depth u) t
    stops n le x u t h = (h.0, called_less Library fp spare n w v (at_depth w.depth u) t le (called_of entered.t.memory spare 0 Given u t same_above h.1))

    -- what a procedure leaves
    abbrev Finished : World → kernel.World → Type 0
    Finished u t = Called Library fp spare w v u t × Results Library fp j depth 0 qs xs u t

    abbrev ProcedureBack : Option ℤ → World → kernel.World → Type 0
    ProcedureBack None u t = Finished (at_depth w.depth u) t
    ProcedureBack (Some x) u t = ⊥

    finished : (Set : ℕ → Type 0) → ((c : ℕ) → Given c → Set c) → (u : World) (t : kernel.World) → Inside Cell Stays (frame_of entered.t.memory spare) Set 0 u t → Finished (at_depth w.depth u) t
    finished Set given u t h = (
      called_of entered.t.memory spare 0 Set u t same_above h,
      results_of entered.t.memory spare 0 u t (inside_fewer Cell Stays (frame_of entered.t.memory spare) Set Given 0 u t given h) qs xs (λ c. ⊥) 0 (λ c set. set) parameters are (λ a here. here)
          entered.address,
    )

    procedure_back : gives ≡ false → Comes_back ProcedureBack
    procedure_back is = record {
      none = λ same Set given u t h. finished Set given u t h;
      some = λ other Set x u t fits h. absurd (false≢true (sym is ∙ other));
    }

    abbrev ProcedureRuns : Outcome (Option ℤ) → Ended → Type 0
    ProcedureRuns = Runs (λ x u t. ((1 ≤ x) × (x ≤ top)) × Called Library fp spare w v u t) (λ r u t. Called Library fp spare w v u t × Results Library fp j depth 0 qs xs u t)

    procedure_ends : (r : Outcome Flow) (e : Ended)
        → Step ProcedureBack false (Failed Cell Stays (frame_of entered.t.memory spare) Given) (Inside Cell Stays (frame_of entered.t.memory spare) Given 0) r e
        → ProcedureRuns (goes_to (left w.depth r) (λ f. give (result_in f))) (code.back (kernel.goes_on e Ends))
    procedure_ends =
        steps_are ProcedureBack false (Failed Cell Stays (frame_of entered.t.memory spare) Given) (Inside Cell Stays (frame_of entered.t.memory spare) Given 0)
        (λ r e. ProcedureRuns (goes_to (left w.depth r) (λ f. give (result_in f))) (code.back (kernel.goes_on e Ends)))
        (record { raises = λ x y u t same stop. (same, stops spare (omega arith) x u t stop); cut = λ u t seen. seen })
        (λ u t h. finished Given (λ c set. set) u t h) (λ u t is h. absurd (false≢true is)) returned
      where
        returned : (r : Option ℤ) (u : World) (t : kernel.World) → ProcedureBack r u t
            → ProcedureRuns (goes_to (left w.depth (Gives (returns r) u)) (λ f. give (result_in f))) (code.back (kernel.goes_on (kernel.Returns t) Ends))
        returned None u t h = h
        returned (Some x) u t h = absurd h

    -- what the source does in its activation
    abbrev pub source_body : Outcome Flow
    source_body = left w.depth (goes_to (copy_all_in j depth qs xs source_begun) (λ a. does_block p calls fuel j b None))

    abbrev pub code_body : Ended
    code_body = codes (body_code (names_in p j) shape_of home_of site layout_of base gives qs b) code_begun

    body_is : code_body ≡ kernel.goes_on (codes (block_code (names_in p j) shape_of home_of site layout_of base 0 b) entered.t) (codes (ending_code gives))
    body_is = rw (
      joined_does K kcalls fuel width fp calls_left (parameters_code home_of layout_of base 0 qs)
          (joined (block_code (names_in p j) shape_of home_of site layout_of base 0 b) (ending_code gives)) code_begun,
      entered.is,
    )
        (joined_does K kcalls fuel width fp calls_left (block_code (names_in p j) shape_of home_of site layout_of base 0 b) (ending_code gives) entered.t)

    pub procedure_runs : gives ≡ false → ProcedureRuns (goes_to source_body (λ f. give (result_in f))) (code.back code_body)
    procedure_runs is =
        rw (entered.gives, body_is, ap ending_code is)
        (procedure_ends (does_block p calls fuel j b None entered.u) (codes (block_code (names_in p j) shape_of home_of site layout_of base 0 b) entered.t)
        (block_step ProcedureBack (procedure_back is)))

    -- what a function leaves
    abbrev FunctionBack : Option ℤ → World → kernel.World → Type 0
    FunctionBack None u t = ⊥
    FunctionBack (Some x) u t = Called Library fp spare w v (at_depth w.depth u) t × ((slot_in fp 0 t ≡ x) × FitsSigned w32 x)

    resulted : (Set : ℕ → Type 0) (x : ℤ) (u : World) (t : kernel.World) → Inside Cell Stays (frame_of entered.t.memory spare) Set 2 u t
        → Called Library fp spare w v (at_depth w.depth u) (paid 1 (with_slot fp 0 x (paid 1 t)))
    resulted Set x u t h = record {
      depth_is = refl;
      input = h.input;
      library = λ q a here.
          let cell = stage.library q a here in
          let low = stage.lower q a here in
          let known = h.agree q a (cell.0, inr cell.1) in
          (with_word_other (slot_word fp 0) a x t.memory (λ e. omega (arith, e, low)) ∙ known.0, known.1);
      words = λ a above. with_word_other (slot_word fp 0) a x t.memory (λ e. omega (arith, e, above, stage.room)) ∙ (h.words a (inl above) ∙ same_above a above);
      kept = λ q one le. h.kept q one (omega (arith, le));
      seen = record { events = h.seen.events; output = h.seen.output; cost = omega (arith, h.seen.cost) };
    }

    function_back : gives ≡ true → Comes_back FunctionBack
    function_back is = record {
      none = λ other Set given u t h. absurd (false≢true (sym other ∙ is));
      some = λ same Set x u t fits h. (resulted Set x u t h, (with_slot_at fp 0 x (paid 1 t), fits));
    }

    abbrev FunctionRuns : ℕ → Outcome ℤ → Ended → Type 0
    FunctionRuns n = Runs (λ x u t. ((1 ≤ x) × (x ≤ top)) × Called Library fp n w v u t) (λ x u t. Called Library fp n w v u t × ((slot_in fp 0 t ≡ x) × FitsSigned w32 x))

    -- a function that comes to its end raises Program_Error
    at_its_end : (n : ℕ) → n + 1 ≤ spare → (u : World) (t : kernel.World) → Inside Cell Stays (frame_of entered.t.memory spare) Given 0 u t
        → FunctionRuns n (goes_to (goes_to (left w.depth (Gives goes_on u)) (λ f. give (result_in f))) (λ o. result_of o)) (code.back (kernel.goes_on (Ends t) (codes (ending_code true))))
    at_its_end n le u t h =
        let before = called_of entered.t.memory spare 0 Given u t same_above h in (
          refl,
          (
            (omega arith, omega (arith, stage.predefined)),
            record {
              depth_is = before.depth_is;
              input = before.input;
              library = before.library;
              words = before.words;
              kept = before.kept;
              seen = record { events = before.seen.events; output = before.seen.output; cost = omega (arith, before.seen.cost, le) };
            },
          ),
        )

    function_ends : (n : ℕ) → n + 1 ≤ spare → (r : Outcome Flow) (e : Ended)
        → Step FunctionBack false (Failed Cell Stays (frame_of entered.t.memory spare) Given) (Inside Cell Stays (frame_of entered.t.memory spare) Given 0) r e
        → FunctionRuns n (goes_to (goes_to (left w.depth r) (λ f. give (result_in f))) (λ o. result_of o)) (code.back (kernel.goes_on e (codes (ending_code true))))
    function_ends n le =
        steps_are FunctionBack false (Failed Cell Stays (frame_of entered.t.memory spare) Given) (Inside Cell Stays (frame_of entered.t.memory spare) Given 0)
        (λ r e. FunctionRuns n (goes_to (goes_to (left w.depth r) (λ f. give (result_in f))) (λ o. result_of o)) (code.back (kernel.goes_on e (codes (ending_code true)))))
        (record { raises = λ x y u t same stop. (same, stops n (omega (arith, le)) x u t stop); cut = λ u t seen. seen })
        (at_its_end n le) (λ u t is h. absurd (false≢true is)) returned
      where
        returned : (r : Option ℤ) (u : World) (t : kernel.World) → FunctionBack r u t
            → FunctionRuns n (goes_to (goes_to (left w.depth (Gives (returns r) u)) (λ f. give (result_in f))) (λ o. result_of o))
            (code.back (kernel.goes_on (kernel.Returns t) (codes (ending_code true))))
        returned None u t h = absurd h
        returned (Some x) u t h = (called_less Library fp spare n w v (at_depth w.depth u) t (omega (arith, le)) h.0, h.1)

    pub function_runs : gives ≡ true → (n : ℕ) → n + 1 ≤ spare → FunctionRuns n (goes_to (goes_to source_body (λ f. give (result_in f))) (λ o. result_of o)) (code.back code_body)
    function_runs is n le =
        rw (entered.gives, body_is, ap ending_code is)
        (function_ends n le (does_block p calls fuel j b None entered.u) (codes (block_code (names_in p j) shape_of home_of site layout_of base 0 b) entered.t)
        (block_step FunctionBack (function_back is)))
