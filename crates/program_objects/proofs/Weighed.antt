-- What is made of a legal program is within the nodes of the expanded program, copies counted.
use Rattle.std.proofs.Common.{◌≡◌, ℕ, suc, ◌+◌, ◌*◌, ◌≤◌, List, [], ◌∷◌, length, map, Option, Some, None, if◌then◌else◌, refl, sym, ap, ◌∙◌, subst, arith}
use Rattle.std.specs.Prelude.{option_map, slice_get, sum_by, unwrap_or}
use Rattle.std.proofs.lemmas.List.{length-map}
use Rattle.std.proofs.lemmas.List.Sums.{sum_by-cons}
use Rattle.std.proofs.lemmas.Option.{slice_get-map}
use Rattle.ada_meaning.specs.Bodies.{Body, StandsIn, bodies_of, instances_of}
use Rattle.ada_meaning.specs.Obligations.{ListedException, is_listed_before, listed, ordered_exceptions}
use Rattle.ada_meaning.specs.Program as meaning
use Rattle.ada_meaning.specs.Types as type
use Rattle.ada_rules.specs.Environment.{World}
use Rattle.ada_rules.specs.Library.{Library as RulesLibrary}
use Rattle.ada_syntax.specs.declared.unit.Unit.{Unit as LibraryUnit}
use Rattle.ada_tree.specs.Programs.{exception_declaration_of, instance_of, parameter_of, program_of, subprogram_of, types_of}
use Rattle.ada_tree.specs.Weights.{IsWeighed, bodies_weight, in_instance, in_instances, stands_in, text_nodes, type_nodes, types_weight as types_in}
use Rattle.ada_tree.specs.Weights as text
use Rattle.ada_tree.specs.declared.program.ExceptionDeclaration.{ExceptionDeclaration}
use Rattle.ada_tree.specs.declared.program.Instance.{Instance}
use Rattle.ada_tree.specs.declared.program.Program.{Program}
use Rattle.ada_tree.specs.declared.program.Subprogram.{Subprogram}
use Rattle.ada_tree.specs.declared.program.UnitEntry.{UnitEntry}
use Rattle.ada_tree.specs.declared.program.UnitRole.{UnitRole}
use Rattle.ada_tree.specs.declared.program.UnitRole.TheVariants.{Once, OfGeneric, InstanceOf}
use Rattle.generic_expand.specs.declared.copies.BodyCopy.{BodyCopy}
use Rattle.generic_expand.specs.Expanded.{copy_of, instances_in}
use Rattle.generic_expand.specs.Limits.{copies_weight, instance_count, node_count, weight_of}
use Rattle.generic_expand.proofs.Exceptions.{as_long, listed_long}
use Rattle.generic_expand.proofs.Weighing.{copies_within, items_within, one_within}
use Rattle.generic_expand.proofs.Weighing as weighing
use Rattle.legal_programs.proofs.Passed.{is_legal, legal_comes}
use Rattle.legal_programs.specs.Walked.{IsLegal}
use Rattle.parsed_texts.specs.legal_counts.specs.TextParts.{AreCounted, exceptions_in as declared_in, nodes_in}
use Rattle.program_weights.specs.Entries.{entries_of}
use Rattle.program_weights.specs.TypeWeights.{types_weight_in}
use Rattle.program_weights.specs.Wholes.{DeclaresTypes, whole_library}
use Rattle.statement_code.proofs.Once.{nodes_weigh}
use Rattle.statement_code.specs.Kernels.{expanded_nodes, nodes_at}
use Rattle.statement_code.specs.Sizes.{block_nodes, subprogram_nodes}
use Rattle.program_objects.specs.Kernels.{nodes_of}
use Rattle.program_objects.specs.Legal.{entries_for, entries_in}
use Rattle.program_objects.specs.Made.{exceptions_in}
use Rattle.program_objects.specs.Texts.{AreUnitsOf}
use Rattle.program_objects.proofs.UnfoldedSizes.{block_alike}

-- each instance counts once
each_once : (is : List meaning.Instance) → sum_by (λ (i : meaning.Instance). 1) is ≡ length is
each_once [] = refl
each_once (i ∷ is) = omega (arith, sum_by-cons (λ (j : meaning.Instance). 1) i is, each_once is)

instances_counted : (us : List UnitEntry) → in_instances (λ g. 1) us ≡ instance_count us
instances_counted [] = refl
instances_counted (u ∷ us) =
    omega (
      arith,
      sum_by-cons (λ (v : UnitEntry). in_instance (λ g. 1) v.role) u us,
      sum_by-cons (λ (v : UnitEntry). instances_in v.role) u us,
      one u.role,
      instances_counted us,
    )
  where
    one : (r : UnitRole) → in_instance (λ g. 1) r ≡ instances_in r
    one Once = refl
    one (OfGeneric g) = refl
    one (InstanceOf g) = refl

-- an exception weighs 1
once_each : (is : List meaning.Instance) (ds : List meaning.ExceptionDeclaration)
    → sum_by (λ (d : meaning.ExceptionDeclaration). length (instances_of d.generic is)) ds
    ≡ sum_by (λ (d : meaning.ExceptionDeclaration). 1 * length (instances_of d.generic is)) ds
once_each is [] = refl
once_each is (d ∷ ds) =
    omega (
      arith,
      sum_by-cons (λ (e : meaning.ExceptionDeclaration). length (instances_of e.generic is)) d ds,
      sum_by-cons (λ (e : meaning.ExceptionDeclaration). 1 * length (instances_of e.generic is)) d ds,
      once_each is ds,
    )

-- What laws say of the text of such programs: what stands in each generic has tokens there, and the instances are those that units are.
module _ (files : ℕ) (units : List LibraryUnit) (main : List ℕ) (p : meaning.Program) (h : AreUnitsOf files units main p) where
  abbrev whole : RulesLibrary
  whole = whole_library units

  abbrev legal : IsLegal (whole_library units) main p
  legal = is_legal (whole_library units) main p h.program.legal

  abbrev entries : List UnitEntry
  entries = entries_for units main

  pub few_entries : node_count (entries_for units main) ≤ 4096
  few_entries = weighing.few_nodes entries h.program.few

  pub few_instance_entries : instance_count (entries_for units main) ≤ 64
  few_instance_entries = weighing.few_instances entries h.program.few_instances

  -- the entries stand in the world that the rules on types come to, which shows the interfaces of the walk
  entries_are : entries_of legal.walked.world whole ≡ entries
  entries_are = sym (ap (entries_in whole) (legal_comes whole main p h.program.legal))

  same_interfaces : legal.walked.world.interfaces ≡ legal.walk.seen.world.interfaces
  same_interfaces = ap (λ (w : World). w.interfaces) legal.walk.world

  abbrev pub HaveTokens : Type 0
  HaveTokens = AreCounted units → (w : World) → w.interfaces ≡ legal.walk.seen.world.interfaces → (g : Option ℕ)
      → nodes_in g p.subprograms + types_weight_in g legal.walked.next.types_declared + declared_in g p.declared ≤ text_nodes g (entries_of w whole)

  abbrev pub AreThoseOfUnits : Type 0
  AreThoseOfUnits = (count : ℕ → ℕ) (w : World) → w.interfaces ≡ legal.walk.seen.world.interfaces
      → sum_by (λ (i : meaning.Instance). count i.generic) p.instances ≡ in_instances count (entries_of w whole)

  module _ (instances : AreThoseOfUnits) where
    instances_are : (count : ℕ → ℕ) → sum_by (λ (i : meaning.Instance). count i.generic) p.instances ≡ in_instances count entries
    instances_are count = instances count legal.walked.world same_interfaces ∙ ap (in_instances count) entries_are

    pub instances_few : length p.instances ≤ 64
    instances_few = omega (arith, each_once p.instances, instances_are (λ g. 1), instances_counted entries, few_instance_entries)

    module _ (counted : AreCounted units) (parts : HaveTokens) where
      have_tokens : (g : Option ℕ)
          → nodes_in g p.subprograms + types_weight_in g legal.walked.next.types_declared + declared_in g p.declared ≤ text_nodes g entries
      have_tokens g =
          subst (λ us. nodes_in g p.subprograms + types_weight_in g legal.walked.next.types_declared + declared_in g p.declared ≤ text_nodes g us) entries_are
          (parts counted legal.walked.world same_interfaces g)

      pub body_small : (m inst : ℕ) (s : meaning.Subprogram) → slice_get p.subprograms m ≡ Some s → StandsIn p s.generic inst
          → subprogram_nodes s ≤ node_count (entries_for units main)
      body_small m inst s at stands =
          one_within (λ (s : meaning.Subprogram). s.generic) subprogram_nodes p.subprograms p entries (λ g. omega (arith, have_tokens g)) instances_are m inst s at stands

      listed_few : length (listed p.declared p.instances) ≤ node_count (entries_for units main)
      listed_few =
          omega (
            arith,
            listed_long p.declared p.instances,
            once_each p.instances p.declared,
            items_within (λ (d : meaning.ExceptionDeclaration). d.generic) (λ d. 1) p.declared p.instances entries (λ g. omega (arith, have_tokens g)) instances_are,
          )

      pub exceptions_few : (length (exceptions_in p) ≤ node_count (entries_for units main)) × (length (listed p.declared p.instances) ≤ node_count (entries_for units main))
      exceptions_few =
          let named = length-map (ordered_exceptions p) (λ (x : ListedException). x.name) in
          let long = as_long is_listed_before (listed p.declared p.instances) in
          (omega (arith, named, long, listed_few), listed_few)

-- a sum over what bodies are copied to
over_copies : (f : BodyCopy → ℕ) (bs : List Body) → sum_by f (map copy_of bs) ≡ sum_by (λ (b : Body). f (copy_of b)) bs
over_copies f [] = refl
over_copies f (b ∷ bs) =
    omega (
      arith,
      sum_by-cons f (copy_of b) (map copy_of bs),
      sum_by-cons (λ (c : Body). f (copy_of c)) b bs,
      over_copies f bs,
    )

-- a typed body has as many nodes as what it is seen as
abbrev weight : Subprogram → ℕ
weight s = suc (length s.parameters + block_nodes s.body)

same_weight : (types : List type.Subtype) (s : Subprogram) → subprogram_nodes (subprogram_of types s) ≡ weight s
same_weight types s = λ i. suc (length-map s.parameters (parameter_of types) i + block_alike types s.body i)

bodies_alike : (g : Option ℕ) (types : List type.Subtype) (ss : List Subprogram) → nodes_in g (map (subprogram_of types) ss) ≡ bodies_weight weight g ss
bodies_alike g types [] = refl
bodies_alike g types (s ∷ ss) =
    omega (
      arith,
      sum_by-cons (λ (r : meaning.Subprogram). if stands_in g r.generic then subprogram_nodes r else 0) (subprogram_of types s) (map (subprogram_of types) ss),
      sum_by-cons (λ (r : Subprogram). if stands_in g r.generic then weight r else 0) s ss,
      ap (λ n. if stands_in g s.generic then n else 0) (same_weight types s),
      bodies_alike g types ss,
    )

declared_alike : (g : Option ℕ) (ds : List ExceptionDeclaration) → declared_in g (map exception_declaration_of ds) ≡ text.exceptions_in g ds
declared_alike g [] = refl
declared_alike g (d ∷ ds) =
    omega (
      arith,
      sum_by-cons (λ (e : meaning.ExceptionDeclaration). if stands_in g e.generic then 1 else 0) (exception_declaration_of d) (map exception_declaration_of ds),
      sum_by-cons (λ (e : ExceptionDeclaration). if stands_in g e.generic then 1 else 0) d ds,
      declared_alike g ds,
    )

instances_alike : (count : ℕ → ℕ) (is : List Instance)
    → sum_by (λ (i : meaning.Instance). count i.generic) (map instance_of is) ≡ sum_by (λ (i : Instance). count i.generic) is
instances_alike count [] = refl
instances_alike count (i ∷ is) =
    omega (
      arith,
      sum_by-cons (λ (j : meaning.Instance). count j.generic) (instance_of i) (map instance_of is),
      sum_by-cons (λ (j : Instance). count j.generic) i is,
      instances_alike count is,
    )

-- the nodes of the bodies of a typed program, copies counted, are what their copies weigh
bodies_copied : (t : Program) → expanded_nodes (program_of t) ≤ copies_weight weight t
bodies_copied t =
    let weighs = nodes_weigh (program_of t) (λ m. unwrap_or (option_map weight (slice_get t.subprograms m)) 0) covers in
    let copies = over_copies (weight_of weight t) (bodies_of (program_of t)) in
    omega (arith, weighs, copies)
  where
    seen : (o : Option Subprogram) → unwrap_or (option_map subprogram_nodes (option_map (subprogram_of (types_of t.types)) o)) 0 ≡ unwrap_or (option_map weight o) 0
    seen None = refl
    seen (Some s) = same_weight (types_of t.types) s

    covers : (m : ℕ) → nodes_at (program_of t).subprograms m ≤ unwrap_or (option_map weight (slice_get t.subprograms m)) 0
    covers m =
        let at = ap (λ o. unwrap_or (option_map subprogram_nodes o) 0) (slice_get-map (subprogram_of (types_of t.types)) t.subprograms m) in
        omega (arith, at, seen (slice_get t.subprograms m))

-- A typed program of these units, whose types weigh no more than the rules count.
module _ (files : ℕ) (units : List LibraryUnit) (main : List ℕ) (t : Program) (h : AreUnitsOf files units main (program_of t))
    (instances : AreThoseOfUnits files units main (program_of t) h) (counted : AreCounted units) (parts : HaveTokens files units main (program_of t) h) where
  abbrev with_entries : Program
  with_entries = record t { units = entries_for units main }

  pub weighed : DeclaresTypes (whole_library units) main t → IsWeighed weight with_entries
  weighed types =
      let is = is_legal (whole_library units) main (program_of t) h.program.legal in
      let declared = types is.walked (legal_comes (whole_library units) main (program_of t) h.program.legal) in
      record {
        text = λ g. omega (
          arith,
          have_tokens files units main (program_of t) h instances counted parts g,
          bodies_alike g (types_of t.types) t.subprograms,
          declared.each g,
          declared_alike g t.declared,
        );
        instances = λ count. sym (instances_alike count t.instances) ∙ instances_are files units main (program_of t) h instances count;
      }

  pub nodes_law : DeclaresTypes (whole_library units) main t → nodes_of t ≤ node_count (entries_for units main)
  nodes_law types = omega (arith, bodies_copied t, copies_within weight with_entries (weighed types))

  pub typed_body_small : (m inst : ℕ) (s : Subprogram) → slice_get t.subprograms m ≡ Some s → StandsIn (program_of t) s.generic inst
      → block_nodes s.body ≤ node_count (entries_for units main)
  typed_body_small m inst s at stands =
      let seen = slice_get-map (subprogram_of (types_of t.types)) t.subprograms m ∙ ap (option_map (subprogram_of (types_of t.types))) at in
      omega (
        arith,
        body_small files units main (program_of t) h instances counted parts m inst (subprogram_of (types_of t.types) s) seen stands,
        same_weight (types_of t.types) s,
      )
