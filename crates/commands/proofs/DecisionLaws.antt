-- What a report asks of the decisions of an object that was checked, and of the events of its traces.
use Rattle.std.proofs.Common.{◌≡◌, inl, inr, ℕ, zero, suc, ◌<◌, ◌≤◌, Bool, true, false, cond, ◌==◌, IsUtf8, List, [], ◌∷◌, length, drop, Option, Some, None, refl, sym, ap, subst, ◌∙◌, slice_get, slice_index_or, eqb-true}
use Rattle.std.proofs.lemmas.Bool.{and_parts, leb-true, ltb-true}
use Rattle.std.proofs.lemmas.Str.{IsUtf8-from_is_utf8}
use Rattle.std.specs.Str.{is_utf8}
use Rattle.std.specs.List.{list_all, filter_map, cons_option, AllByRecursion}
use Rattle.annotated_report.specs.Caller.{AreEvaluated, AreOfStatements}
use Rattle.annotated_report.specs.Verdicts.{vector_in, vectors_of}
use Rattle.cov_base.specs.declared.event.Event.{Event}
use Rattle.cov_base.specs.declared.event.Event.TheVariants.{Start, Done}
use Rattle.cov_base.specs.declared.event.Vector.{Vector}
use Rattle.cov_base.specs.declared.obligations.DecEntry.{DecEntry}
use Rattle.coverage_set.specs.Consolidated.{IsPossibleEvent}
use Rattle.coverage_set.specs.Covered.{Covered, Has}
use Rattle.decision_map.proofs.Needed.{graph_of_spelled}
use Rattle.decision_map.specs.Decisions.{graph_at}
use Rattle.cov_base.specs.Graph.{Edges}
use Rattle.cov_base.specs.Lists.{Somewhere, Everywhere}
use Rattle.cov_base.specs.Path.{IsPathVector}
use Rattle.commands.specs.Covering.{HasPaths}
use Rattle.object_format.specs.Checked.{IsSound}
use Rattle.object_format.specs.declared.object.Object.{Object}
use Rattle.object_format.specs.Decisions.{AreExpression}
use Rattle.object_format.specs.declared.object.FileEntry.{FileEntry}
use Rattle.object_format.specs.Fields.{are_files, is_decision, is_region, passes_field}
use Rattle.commands.specs.TaskFiles.{entry_names}
use Rattle.commands.specs.Texts.{names_of}
use Rattle.cov_base.specs.declared.obligations.SourceFile.{SourceFile}
use Rattle.json_report.specs.Caller.{AreExplainedInUtf8, AreNamedInUtf8}

-- ---- what holds of all holds of the one in a place

each_at : {X : Type 0} (P : X → Type 0) (xs : List X) (place : ℕ) (x : X) → AllByRecursion P xs → slice_get xs place ≡ Some x → P x
each_at P [] place x all there = absurd (cc there)
each_at P (y ∷ ys) zero x all there = let same : y ≡ x = cc there in subst P same all.0
each_at P (y ∷ ys) (suc place) x all there = each_at P ys place x all.1 there

passes_at : {X : Type 0} (test : X → Bool) (xs : List X) (place : ℕ) (x : X) → list_all test xs ≡ true → slice_get xs place ≡ Some x → test x ≡ true
passes_at test [] place x all there = absurd (cc there)
passes_at test (y ∷ ys) zero x all there = let same : y ≡ x = cc there in ap test (sym same) ∙ (and_parts _ _ all).0
passes_at test (y ∷ ys) (suc place) x all there = passes_at test ys place x (and_parts _ _ all).1 there

-- ---- decisions

decisions_pass : (o : Object) → passes_field o ≡ true
    → list_all (is_decision (length o.files) (length o.obligations.statements)) o.obligations.decisions ≡ true
decisions_pass o field =
    let obliged = (and_parts _ _ (and_parts _ _ (and_parts _ _ field).0).0).1 in
    (and_parts _ _ (and_parts _ _ (and_parts _ _ obliged).0).1).0

in_statement : (files statements : ℕ) (entry : DecEntry) → is_decision files statements entry ≡ true → entry.statement.0 < statements
in_statement files statements entry passes =
    ltb-true entry.statement.0 statements
    (and_parts _ _ (and_parts _ _ (and_parts _ _ (and_parts _ _ (and_parts _ _ (and_parts _ _ passes).0).0).0).0).0).0

-- each decision of a checked object is of one of its statements
pub statements_known : (o : Object) → IsSound o → AreOfStatements o.obligations.decisions (length o.obligations.statements)
statements_known o sound = λ d entry there.
    in_statement (length o.files) (length o.obligations.statements) entry
    (passes_at (is_decision (length o.files) (length o.obligations.statements)) o.obligations.decisions d entry (decisions_pass o sound.field) there)

-- ---- vectors

-- a coverage of an object whose runs can have its events has vectors of paths alone
pub possible_paths : (o : Object) (c : Covered) → c.object ≡ o → ((e : Event) → Has c e → IsPossibleEvent c.object e) → HasPaths o c
possible_paths o c own possible = λ d i vector has.
    subst (λ (x : Object). IsPathVector (graph_at x d.0) vector) own (possible (Done d i vector) has).path

-- the vectors that events give a decision are so, where each of them that an event gives is
all_given : (P : Vector → Type 0) (d : ℕ) (events : List Event) → ((e : Event) (v : Vector) → Somewhere (λ x. x ≡ e) events → vector_in d e ≡ Some v → P v)
    → Everywhere P (filter_map (vector_in d) events)
all_given P d [] each = tt
all_given P d (e ∷ events) each =
    by_vector (vector_in d e) (λ v given. each e v (inl refl) given) (all_given P d events (λ f v there given. each f v (inr there) given))
  where
    by_vector : (found : Option Vector) → ((v : Vector) → found ≡ Some v → P v) → Everywhere P (filter_map (vector_in d) events)
        → Everywhere P (cons_option found (filter_map (vector_in d) events))
    by_vector None here rest = rest
    by_vector (Some v) here rest = (here v refl, rest)

-- the event that gives a decision a vector
of_event : (o : Object) (c : Covered) (d : ℕ) (e : Event) (v : Vector) → HasPaths o c → Has c e → vector_in d e ≡ Some v → IsPathVector (graph_at o d) v
of_event o c d (Start s i) v paths has given = absurd (cc given)
of_event o c d (Done n i vector) v paths has given = by_number (n.0 == d) refl given
  where
    by_number : (b : Bool) → (n.0 == d) ≡ b → cond b (Some vector) None ≡ Some v → IsPathVector (graph_at o d) v
    by_number false is gives = absurd (cc gives)
    by_number true is gives =
        let same : vector ≡ v = cc gives in
        subst (λ (w : Vector). IsPathVector (graph_at o d) w) same
        (subst (λ (m : ℕ). IsPathVector (graph_at o m) vector) (eqb-true n.0 d is) (paths n i vector has))

-- each decision of a checked object is one that a report can judge by the events of a coverage
pub evaluations_known : (o : Object) (c : Covered) (events : List Event) → IsSound o → HasPaths o c
    → ((e : Event) → Somewhere (λ x. x ≡ e) events → Has c e) → AreEvaluated o.obligations.decisions events
evaluations_known o c events sound paths all = λ d entry there.
    let is = each_at (λ (x : DecEntry). AreExpression x.expression.postfix (length x.conditions)) o.obligations.decisions d entry sound.decision there in
    record {
      expression = is.0;
      spelled = is.1;
      placed = sym is.2;
      paths = subst (λ (g : List Edges). Everywhere (IsPathVector g) (vectors_of events d)) (graph_of_spelled o d entry is.0 there is.1)
          (all_given (IsPathVector (graph_at o d)) d events (λ e v there given. of_event o c d e v paths (all e there) given));
    }

-- ---- texts

-- the names of sources are UTF-8, where those of an object's files are
named_alike : (files : List FileEntry) (sources : List SourceFile) → names_of sources ≡ entry_names files → list_all (λ f. is_utf8 f.name) files ≡ true
    → AreNamedInUtf8 sources
named_alike files [] named utf8 = λ n file there. absurd (cc there)
named_alike [] (source ∷ sources) named utf8 = absurd (cc named)
named_alike (f ∷ files) (source ∷ sources) named utf8 = by_place (named_alike files sources later (and_parts _ _ utf8).1)
  where
    first : source.name ≡ f.name
    first = ap (λ (names : List (List ℕ)). slice_index_or names 0 []) named

    later : names_of sources ≡ entry_names files
    later = ap (λ (names : List (List ℕ)). drop 1 names) named

    by_place : AreNamedInUtf8 sources → AreNamedInUtf8 (source ∷ sources)
    by_place rest zero file there =
        let same : source ≡ file = cc there in
        subst IsUtf8 (sym first ∙ ap (λ (s : SourceFile). s.name) same) (IsUtf8-from_is_utf8 f.name (and_parts _ _ utf8).0)
    by_place rest (suc n) file there = rest n file there

-- the part of the check `field` on files
files_passed : (o : Object) → passes_field o ≡ true → are_files o.files ≡ true
files_passed o field = (and_parts _ _ (and_parts _ _ (and_parts _ _ (and_parts _ _ field).0).0).0).1

pub named_in_utf8 : (o : Object) (sources : List SourceFile) → IsSound o → names_of sources ≡ entry_names o.files → AreNamedInUtf8 sources
named_in_utf8 o sources sound named = named_alike o.files sources named (and_parts _ _ (files_passed o sound.field)).1

all_named : (files : List FileEntry) → list_all (λ f. is_utf8 f.name) files ≡ true → AllByRecursion (λ f. IsUtf8 f.name) files
all_named [] utf8 = tt
all_named (f ∷ files) utf8 = (IsUtf8-from_is_utf8 f.name (and_parts _ _ utf8).0, all_named files (and_parts _ _ utf8).1)

-- a checked object lists at most 64 files, by names in UTF-8
pub listed_in_utf8 : (o : Object) → IsSound o → AllByRecursion (λ f. IsUtf8 f.name) o.files
listed_in_utf8 o sound = all_named o.files (and_parts _ _ (files_passed o sound.field)).1

pub few_listed : (o : Object) → IsSound o → length o.files ≤ 64
few_listed o sound = leb-true (length o.files) 64 (and_parts _ _ (and_parts _ _ (files_passed o sound.field)).0).1

-- the justifications of its regions are UTF-8
pub explained_in_utf8 : (o : Object) → IsSound o → AreExplainedInUtf8 o.obligations.regions
explained_in_utf8 o sound = λ n region there.
    let obliged = (and_parts _ _ (and_parts _ _ (and_parts _ _ sound.field).0).0).1 in
    let regions = (and_parts _ _ (and_parts _ _ obliged).1).0 in
    IsUtf8-from_is_utf8 region.why
    (and_parts _ _ (passes_at (is_region (length o.files)) o.obligations.regions n region regions there)).1
