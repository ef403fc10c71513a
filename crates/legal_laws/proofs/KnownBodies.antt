-- The body of a subprogram, where its specification is known: a well-formed subprogram in the instance.
use Rattle.std.proofs.Common.{◌≡◌, ◌≤◌, ◌+◌, ℕ, suc, Bool, true, false, if◌then◌else◌, List, [], ◌∷◌, ◌++◌, map, length, reverse, Option, Some, None, IfOk, slice_get, refl, sym, ap, ◌∙◌, subst, arith, append_assoc, length-append}
use Rattle.std.specs.Prelude.{◌&&◌, unwrap_or}
use mathlib.Core.List.{reverse-cons}
use Rattle.cov_base.specs.Lists.{Everywhere}
use Rattle.ada_syntax.specs.declared.unit.SubprogramBody.{SubprogramBody}
use Rattle.ada_meaning.specs.Arithmetic.{base_range}
use Rattle.ada_meaning.specs.Declared.{object_shape, object_shapes, is_function, block_gives}
use Rattle.ada_meaning.specs.Objects.{number_of, objects_of, all_objects, handler_objects, block_objects}
use Rattle.ada_meaning.specs.Obligations.{numbers}
use Rattle.ada_meaning.specs.Program.{in_mode, Subprogram, Program}
use Rattle.ada_meaning.specs.Program as program
use Rattle.ada_meaning.specs.Resolved.{shape_in}
use Rattle.ada_meaning.specs.Shape.{Shape, word}
use Rattle.ada_meaning.specs.Tree as tree
use Rattle.ada_meaning.specs.WellFormed.{IsType, IsFrame, most_parameters, StartSees, behind_all, IsSubprogram}
use Rattle.ada_rules.specs.Plan.{◌>>=◌, outcome_after}
use Rattle.ada_rules.specs.Types.{AdaType, subtype_in_tree}
use Rattle.ada_rules.specs.Entities.{Parameter, Region}
use Rattle.ada_rules.specs.Environment.{typed_rule, Words, State, Given, Env, with_local}
use Rattle.ada_rules.specs.Declarations.{Declared, all_declared}
use Rattle.ada_rules.specs.Statements.{stmts_of, Frame, block_of, all_handled, frame_returns}
use Rattle.ada_rules.specs.Statics.{Facts}
use Rattle.ada_rules.specs.Subprograms.{Profile, returning_of, may_end, typed_parameters, body_made, inside_body, body_judged, closed_by}
use Rattle.legal_laws.specs.Bounded.{IsBounded}
use Rattle.legal_laws.specs.Served.{Serves, AreShaped, AreListed, IsFinal, IsFormed}
use Rattle.legal_laws.specs.Standing.{with_types, Stands, ReturnsAs}
use Rattle.legal_laws.specs.Valued.{AreFactsInBase, HaveFacts}
use Rattle.legal_laws.specs.Written.{AreWritten, IsHandledText}
use Rattle.legal_laws.proofs.Passing.{if_test, answered, part_so, typed_so, both_ok, each_ok, weaker_ok, any_answer, every_both}
use Rattle.legal_laws.proofs.Giving.{returns_value, FrameAs, handled_gives}
use Rattle.legal_laws.proofs.Identities.{types_more}
use Rattle.legal_laws.proofs.KnownDeclarations.{AreAllMade, declarations_known}
use Rattle.legal_laws.proofs.KnownStatements.{FrameShown, handled_known, returns_more}
use Rattle.legal_laws.proofs.Leading.{Lead, LeadsOn, declarations_lead}
use Rattle.legal_laws.proofs.LeadingStatements.{handled_lead}
use Rattle.legal_laws.proofs.NumberedObjects.{numbers_joined, Counts, counts_joined, Declares, declarations_count, handled_count}
use Rattle.legal_laws.proofs.NumberedObjects as numbering
use Rattle.legal_laws.proofs.TypedObjects.{AreTyped, Typed, declarations_typed, handled_typed}

abbrev pub head_or : {X : Type 0} → X → List X → X
head_or x [] = x
head_or x (y ∷ ys) = y

pub reversed_length : {X : Type 0} (xs : List X) → length (reverse xs) ≡ length xs
reversed_length [] = refl
reversed_length (x ∷ xs) =
    let rest = reversed_length xs in
    let ends = length-append (reverse xs) (x ∷ []) in
    ap length (reverse-cons x xs) ∙ (ends ∙ omega (arith, rest))

pub mapped_length : {X Y : Type 0} (f : X → Y) (xs : List X) → length (map f xs) ≡ length xs
mapped_length f [] = refl
mapped_length f (x ∷ xs) = ap suc (mapped_length f xs)

pub every_reversed : {X : Type 0} (P : X → Type 0) (xs : List X) → Everywhere P xs → Everywhere P (reverse xs)
every_reversed P [] h = tt
every_reversed P (x ∷ xs) h =
    subst (Everywhere P) (sym (reverse-cons x xs)) (every_both P (reverse xs) (x ∷ []) (every_reversed P xs h.1) (h.0, tt))

every_mapped : {X Y : Type 0} (P : Y → Type 0) (f : X → Y) (xs : List X) → Everywhere (λ x. P (f x)) xs → Everywhere P (map f xs)
every_mapped P f [] h = tt
every_mapped P f (x ∷ xs) h = (h.0, every_mapped P f xs h.1)

every_weaker : {X : Type 0} (P Q : X → Type 0) → ((x : X) → P x → Q x) → (xs : List X) → Everywhere P xs → Everywhere Q xs
every_weaker P Q f [] h = tt
every_weaker P Q f (x ∷ xs) h = (f x h.0, every_weaker P Q f xs h.1)

-- an item behind others, by their number
item_at : {X Y : Type 0} (f : X → Y) (xs ys : List X) (x : X) → slice_get (map f (xs ++ x ∷ ys)) (length xs) ≡ Some (f x)
item_at f [] ys x = refl
item_at f (z ∷ xs) ys x = item_at f xs ys x

module _ (p : Program) (facts : List Facts) (has : HaveFacts p.instances facts) (are : Everywhere AreFactsInBase facts) (inst : ℕ) (sub : Subprogram) where
  abbrev shapes : tree.Object → Shape
  shapes o = object_shape p inst sub o

  abbrev shape_of_words : Words → Shape
  shape_of_words w = shape_in p inst w.subtype

  -- objects have the shapes of the words that were counted for them
  words_shaped : (ws behind : List Words) → map (shape_in p inst) sub.objects ≡ map shape_of_words (reverse ws ++ behind) → AreShaped facts inst p shapes ws
  words_shaped [] behind e = tt
  words_shaped (w ∷ ws) behind e =
      let next = e ∙ ap (map shape_of_words) (ap (λ xs. xs ++ behind) (reverse-cons w ws) ∙ append_assoc (reverse ws) (w ∷ []) behind) in (
        ap (λ o. unwrap_or o (word base_range))
            (ap (λ n. slice_get (object_shapes p inst sub) n) (sym (reversed_length ws))
            ∙ (ap (λ xs. slice_get xs (length (reverse ws))) next ∙ item_at shape_of_words (reverse ws) behind w)),
        words_shaped ws (w ∷ behind) next,
      )

  mapped_more : (xs : List Words) → map (shape_in p inst) (map (λ w. w.subtype) xs) ≡ map shape_of_words (xs ++ [])
  mapped_more [] = refl
  mapped_more (w ∷ ws) = ap (λ zs. shape_of_words w ∷ zs) (mapped_more ws)

  pub objects_shaped : (ws : List Words) → map (λ w. w.subtype) (reverse ws) ≡ sub.objects → AreShaped facts inst p shapes ws
  objects_shaped ws e = words_shaped ws [] (ap (map (shape_in p inst)) (sym e) ∙ mapped_more (reverse ws))

  -- a specification whose parameters are known to the body
  abbrev pub AreOfShape : ℕ → List Parameter → Type 0
  AreOfShape n [] = Unit {0}
  AreOfShape n (q ∷ qs) = (shapes (tree.local_object n) ≡ shape_in p inst (subtype_in_tree q.subtype)) × AreOfShape (n + 1) qs

  pub record IsSpecified (types : AdaType → Type 0) (env : Env) (region : Region) (name : List ℕ) (q : Given Profile) : Type 0 where
    pub stands : Stands p inst shapes types (StartSees p inst sub) (inside_body env region name q.value) q.next
    pub returns : ReturnsAs p inst types (returns_value (returning_of q.value.result)) (returning_of q.value.result)
    pub numbered : q.next.objects ≡ length q.value.parameters
    pub typed : AreTyped p facts has are inst shapes q.next.words
    pub few : length q.value.parameters ≤ most_parameters
    pub given : returns_value (returning_of q.value.result) ≡ true → Everywhere (λ r. r.mode ≡ in_mode) q.value.parameters
    pub shapes_are : AreOfShape 0 q.value.parameters

  -- parameters as the program has them
  parameter_numbers : (n : ℕ) (qs : List Parameter) → map (λ r. r.declaration) (typed_parameters n qs) ≡ numbers n (length qs)
  parameter_numbers n [] = refl
  parameter_numbers n (q ∷ qs) =
      let next : n + 1 ≡ suc n = omega (arith) in
      ap (λ xs. n ∷ xs) (parameter_numbers (n + 1) qs ∙ ap (λ m. numbers m (length qs)) next)

  pub parameter_count : (n : ℕ) (qs : List Parameter) → length (typed_parameters n qs) ≡ length qs
  parameter_count n [] = refl
  parameter_count n (q ∷ qs) = ap suc (parameter_count (n + 1) qs)

  parameter_modes : (n : ℕ) (qs : List Parameter) → Everywhere (λ r. r.mode ≡ in_mode) qs → Everywhere (λ r. r.mode ≡ in_mode) (typed_parameters n qs)
  parameter_modes n [] h = tt
  parameter_modes n (q ∷ qs) h = (h.0, parameter_modes (n + 1) qs h.1)

  abbrev IsProfiled : program.Parameter → Type 0
  IsProfiled r = shape_in p inst r.subtype ≡ object_shape p inst sub (tree.local_object r.declaration)

  parameter_shapes : (n : ℕ) (qs : List Parameter) → AreOfShape n qs → Everywhere IsProfiled (typed_parameters n qs)
  parameter_shapes n [] h = tt
  parameter_shapes n (q ∷ qs) h = (sym h.0, parameter_shapes (n + 1) qs h.1)

  and_false : (b : Bool) → (b && false) ≡ false
  and_false true = refl
  and_false false = refl

  pub gives_as : (b : SubprogramBody) (r : Option Parameter) → may_end b r ≡ true → (frame_returns b.statements && returns_value (returning_of r)) ≡ returns_value (returning_of r)
  gives_as b None ends = and_false (frame_returns b.statements)
  gives_as b (Some q) ends = ap (λ x. x && true) ends

  module _ (types : AdaType → Type 0) (env : Env) (before : State) (b : SubprogramBody) (region : Region) (name : List ℕ) (q : Given Profile)
      (is : IsSpecified types env region name q) (written : AreWritten b.declarations × IsHandledText b.statements) where
    abbrev inside : Env
    inside = inside_body env region name q.value

    abbrev Final : State → Type 0
    Final s = IsFinal facts inst p shapes env.generic s

    abbrev function : Bool
    function = returns_value (returning_of q.value.result)

    abbrev Starts : tree.Object → Type 0
    Starts o = StartSees p inst sub o

    -- what the declarations and the statements of a body come to
    pub record AreDeclarationsOf (x : Declared) : Type 0 where
      pub leads : LeadsOn p facts are inst shapes env.generic q.next x
      pub typed : Final x.next → Typed p facts has are inst shapes q.next x.next
      pub counts : Declares q.next x
      pub made : Final x.next → AreAllMade p facts has are inst shapes types Starts inside x

    pub record IsFrameOf (x : Declared) (f : Given Frame) : Type 0 where
      pub leads : Lead p facts are inst shapes env.generic x.next f
      pub typed : Final x.next → Final f.next → Typed p facts has are inst shapes x.next f.next
      pub counts : numbering.FrameAs x.next f
      pub gives : FrameAs inside (frame_returns b.statements) f
      pub frame : Final x.next → Final f.next → FrameShown p facts has are inst shapes function (behind_all Starts x.made) (with_local inside x.region) f.value

    abbrev made : Declared → Given Frame → State
    made x f = body_made env before q.value (block_of x.made f.value) f.next

    abbrev pub IsBodyOf : State → Type 0
    IsBodyOf t =
        (rest : List Subprogram) → t.subprograms ≡ sub ∷ rest → Serves facts inst env.generic t
        → AreListed facts inst p shapes env.generic t.exceptions_declared → IsFormed p inst sub

    body_formed : (x : Declared) (f : Given Frame) → AreDeclarationsOf x → IsFrameOf x f → may_end b q.value.result ≡ true → IsBodyOf (made x f)
    body_formed x f h k ends rest same serves listed =
        let own = ap (head_or sub) same in
        let objects_are : map (λ w. w.subtype) (reverse f.next.words) ≡ sub.objects = ap (λ s. s.objects) own in
        let body_is : block_of x.made f.value ≡ sub.body = ap (λ s. s.body) own in
        let parameters_are : typed_parameters 0 q.value.parameters ≡ sub.parameters = ap (λ s. s.parameters) own in
        let all : Final f.next = record {
          serves = record { met = serves.met; constants = serves.constants; limits = serves.limits };
          shaped = objects_shaped f.next.words objects_are;
          listed = listed;
        } in
        let at_x : Final x.next = k.leads.back (h.leads.counted is.stands.counted) all in
        let at_q : Final q.next = h.leads.back is.stands.counted at_x in
        let counted = k.leads.counted (h.leads.counted is.stands.counted) in
        let body = counts_joined q.next x.next f.next (map number_of x.made) (all_objects (stmts_of f.value.statements) ++ handler_objects f.value.handlers) h.counts k.counts in
        let gives : block_gives (block_of x.made f.value) ≡ function = k.gives ∙ gives_as b q.value.result ends in
        let giving : is_function sub ≡ function = ap block_gives (sym body_is) ∙ gives in
        let typed = k.typed at_x all (h.typed at_x is.typed) in
        let formed : IsSubprogram p inst sub = record {
          numbered = all_numbered x f body counted objects_are body_is parameters_are;
          types = subst (Everywhere IsType) (sym (ap (map (shape_in p inst)) (sym objects_are) ∙ mapped_more (reverse f.next.words) ∙ ap (map shape_of_words) (sym_nil (reverse f.next.words))))
              (every_mapped IsType shape_of_words (reverse f.next.words)
              (every_reversed (λ w. IsType (shape_of_words w)) f.next.words
              (every_weaker (λ w. IsType (shape_of_words w) × IsBounded p inst w.subtype) (λ w. IsType (shape_of_words w)) (λ w t. t.0) f.next.words typed)));
          profile = subst (Everywhere IsProfiled) parameters_are (parameter_shapes 0 q.value.parameters is.shapes_are);
          few = subst (λ n. n ≤ most_parameters) (sym (parameter_count 0 q.value.parameters) ∙ ap length parameters_are) is.few;
          given = λ g. subst (Everywhere (λ r. r.mode ≡ in_mode)) parameters_are
              (parameter_modes 0 q.value.parameters (is.given (sym giving ∙ g)));
          frame = subst (λ c. IsFrame p inst shapes c Starts false false sub.body) (sym giving)
              (subst (λ c. IsFrame p inst shapes function Starts false false c) body_is ((h.made at_x).made, k.frame at_x all));
        } in
        record {
          is = formed;
          bounded = subst (Everywhere (IsBounded p inst)) objects_are
              (every_mapped (IsBounded p inst) (λ w. w.subtype) (reverse f.next.words)
              (every_reversed (λ w. IsBounded p inst w.subtype) f.next.words
              (every_weaker (λ w. IsType (shape_of_words w) × IsBounded p inst w.subtype) (λ w. IsBounded p inst w.subtype) (λ w t. t.1) f.next.words typed)));
        }
      where
        sym_nil : (xs : List Words) → xs ++ [] ≡ xs
        sym_nil [] = refl
        sym_nil (w ∷ ws) = ap (λ zs. w ∷ zs) (sym_nil ws)

        all_numbered : (x : Declared) (f : Given Frame)
            → Counts q.next (map number_of x.made ++ (all_objects (stmts_of f.value.statements) ++ handler_objects f.value.handlers)) f.next
            → f.next.objects ≡ length f.next.words → map (λ w. w.subtype) (reverse f.next.words) ≡ sub.objects → block_of x.made f.value ≡ sub.body
            → typed_parameters 0 q.value.parameters ≡ sub.parameters → objects_of sub ≡ numbers 0 (length sub.objects)
        all_numbered x f body counted objects_are body_is parameters_are =
            let own = map number_of x.made ++ (all_objects (stmts_of f.value.statements) ++ handler_objects f.value.handlers) in
            let n = length q.value.parameters in
            let first : map (λ r. r.declaration) sub.parameters ≡ numbers 0 n = ap (map (λ r. r.declaration)) (sym parameters_are) ∙ parameter_numbers 0 q.value.parameters in
            let second : block_objects sub.body ≡ numbers n (length own) =
            ap block_objects (sym body_is) ∙ (body.numbered ∙ ap (λ m. numbers m (length own)) is.numbered) in
            let count : length sub.objects ≡ n + length own =
            sym (ap length objects_are) ∙ (mapped_length (λ w. w.subtype) (reverse f.next.words) ∙ (reversed_length f.next.words
            ∙ (sym counted ∙ (body.next ∙ ap (λ m. m + length own) is.numbered)))) in
            let none : 0 + n ≡ n = omega (arith) in
            (λ i. first i ++ second i) ∙ (ap (λ m. numbers 0 n ++ numbers m (length own)) (sym none) ∙ (sym (numbers_joined 0 n (length own)) ∙ ap (numbers 0) (sym count)))

    declarations_of : IfOk (all_declared inside q.next b.specification.pos b.declarations).answer AreDeclarationsOf
    declarations_of =
        weaker_ok
        (λ x. (LeadsOn p facts are inst shapes env.generic q.next x × (Final x.next → Typed p facts has are inst shapes q.next x.next))
        × (Declares q.next x × (Final x.next → AreAllMade p facts has are inst shapes types Starts inside x)))
        AreDeclarationsOf (all_declared inside q.next b.specification.pos b.declarations).answer
        (both_ok (λ x. LeadsOn p facts are inst shapes env.generic q.next x × (Final x.next → Typed p facts has are inst shapes q.next x.next))
        (λ x. Declares q.next x × (Final x.next → AreAllMade p facts has are inst shapes types Starts inside x))
        (all_declared inside q.next b.specification.pos b.declarations).answer
        (both_ok (LeadsOn p facts are inst shapes env.generic q.next) (λ x. Final x.next → Typed p facts has are inst shapes q.next x.next)
        (all_declared inside q.next b.specification.pos b.declarations).answer
        (declarations_lead p facts are inst shapes inside q.next b.specification.pos b.declarations)
        (declarations_typed p facts has are inst shapes types Starts inside q.next b.specification.pos b.declarations is.stands refl written.0))
        (both_ok (Declares q.next) (λ x. Final x.next → AreAllMade p facts has are inst shapes types Starts inside x)
        (all_declared inside q.next b.specification.pos b.declarations).answer
        (declarations_count inside q.next b.specification.pos b.declarations is.stands.place.step refl)
        (declarations_known p facts has are inst shapes types Starts inside q.next b.specification.pos b.declarations is.stands refl written.0)))
        (λ x h. record { leads = h.0.0; typed = h.0.1; counts = h.1.0; made = h.1.1 })

    module _ (x : Declared) (h : AreDeclarationsOf x) where
      abbrev within : Env
      within = with_local inside x.region

      frame_of : IfOk (all_handled within x.next b.specification.pos b.statements).answer (IsFrameOf x)
      frame_of =
          weaker_ok
          (λ f. (Lead p facts are inst shapes env.generic x.next f × (numbering.FrameAs x.next f × FrameAs inside (frame_returns b.statements) f))
          × (((g : Final x.next) → Final f.next → Typed p facts has are inst shapes x.next f.next)
          × ((g : Final x.next) → Final f.next → FrameShown p facts has are inst shapes function (behind_all Starts x.made) within f.value)))
          (IsFrameOf x) (all_handled within x.next b.specification.pos b.statements).answer
          (both_ok (λ f. Lead p facts are inst shapes env.generic x.next f × (numbering.FrameAs x.next f × FrameAs inside (frame_returns b.statements) f))
          (λ f. ((g : Final x.next) → Final f.next → Typed p facts has are inst shapes x.next f.next)
          × ((g : Final x.next) → Final f.next → FrameShown p facts has are inst shapes function (behind_all Starts x.made) within f.value))
          (all_handled within x.next b.specification.pos b.statements).answer
          (both_ok (Lead p facts are inst shapes env.generic x.next) (λ f. numbering.FrameAs x.next f × FrameAs inside (frame_returns b.statements) f)
          (all_handled within x.next b.specification.pos b.statements).answer
          (handled_lead p facts are inst shapes within x.next b.specification.pos b.statements)
          (both_ok (numbering.FrameAs x.next) (FrameAs inside (frame_returns b.statements)) (all_handled within x.next b.specification.pos b.statements).answer
          (handled_count within x.next b.specification.pos b.statements is.stands.place.step)
          (handled_gives within x.next b.specification.pos b.statements is.stands.place.step)))
          (both_ok (λ f. (g : Final x.next) → Final f.next → Typed p facts has are inst shapes x.next f.next)
          (λ f. (g : Final x.next) → Final f.next → FrameShown p facts has are inst shapes function (behind_all Starts x.made) within f.value)
          (all_handled within x.next b.specification.pos b.statements).answer
          (each_ok (λ (g : Final x.next) f. Final f.next → Typed p facts has are inst shapes x.next f.next) (all_handled within x.next b.specification.pos b.statements).answer
          (λ g. handled_typed p facts has are inst shapes (with_types types (h.made g).new) (behind_all Starts x.made) within x.next b.specification.pos b.statements
          (h.made g).stands written.1))
          (each_ok (λ (g : Final x.next) f. Final f.next → FrameShown p facts has are inst shapes function (behind_all Starts x.made) within f.value)
          (all_handled within x.next b.specification.pos b.statements).answer
          (λ g. handled_known p facts has are inst shapes function (with_types types (h.made g).new) (behind_all Starts x.made) within x.next b.specification.pos b.statements
          (h.made g).stands
          (returns_more p facts has are inst shapes function types (with_types types (h.made g).new) (types_more types (h.made g).new)
          (returning_of q.value.result) is.returns) written.1))))
          (λ f k. record { leads = k.0.0; typed = k.1.0; counts = k.0.1.0; gives = k.0.1.1; frame = k.1.1 })

    -- a body whose specification is known
    pub body_known : IfOk (body_judged env before b region name q).answer IsBodyOf
    body_known =
        answered IsBodyOf b.specification.pos
        (outcome_after (all_declared inside q.next b.specification.pos b.declarations).answer
        (λ x. all_handled (with_local inside x.region) x.next b.specification.pos b.statements
        >>= (λ f. closed_by b.specification.pos b.specification.name b.end_name
        >>= (λ u. typed_rule env.step (made x f) (if may_end b q.value.result then Some (made x f) else None)))))
        (part_so AreDeclarationsOf IsBodyOf (all_declared inside q.next b.specification.pos b.declarations).answer
        (λ x. all_handled (with_local inside x.region) x.next b.specification.pos b.statements
        >>= (λ f. closed_by b.specification.pos b.specification.name b.end_name
        >>= (λ u. typed_rule env.step (made x f) (if may_end b q.value.result then Some (made x f) else None))))
        declarations_of
        (λ x h. part_so (IsFrameOf x) IsBodyOf (all_handled (with_local inside x.region) x.next b.specification.pos b.statements).answer
        (λ f. closed_by b.specification.pos b.specification.name b.end_name
        >>= (λ u. typed_rule env.step (made x f) (if may_end b q.value.result then Some (made x f) else None)))
        (frame_of x h)
        (λ f k. part_so (λ u. Unit {0}) IsBodyOf (closed_by b.specification.pos b.specification.name b.end_name).answer
        (λ u. typed_rule env.step (made x f) (if may_end b q.value.result then Some (made x f) else None))
        (any_answer (closed_by b.specification.pos b.specification.name b.end_name).answer)
        (λ u v. typed_so IsBodyOf env.step (made x f) (if may_end b q.value.result then Some (made x f) else None) is.stands.place.step
        (if_test IsBodyOf (may_end b q.value.result) (Some (made x f)) (λ ends. body_formed x f h k ends))))))
