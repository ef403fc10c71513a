-- The object that is built of a legal program and its sources is the sources' object, and cheap.
use Rattle.std.proofs.Common.{◌≡◌, ℕ, ◌*◌, ◌≤◌, ◌<◌, ◌&&◌, Bool, true, nat_lt, nat_le, List, [], ◌∷◌, length, map, sum_by, All, refl, sym, ap, ◌∙◌, subst, arith}
use Rattle.std.specs.List.{list_all, AllByRecursion}
use Rattle.std.specs.Str.{is_utf8, str_to_ascii_lowercase}
use Rattle.std.proofs.lemmas.Bool.Decides.{nat_tests}
use Rattle.std.proofs.lemmas.List.{length-map}
use Rattle.std.proofs.lemmas.List.Elements.{All-from_recursion, recursion_from_All}
use Rattle.ada_meaning.specs.Obligations.{obligations_of}
use Rattle.ada_meaning.specs.Program.{Program}
use Rattle.ada_syntax.specs.Nodes.{unit_nodes}
use Rattle.ada_syntax.specs.declared.unit.Unit.{Unit as LibraryUnit}
use Rattle.ada_parser.specs.Opening.{open_extent}
use Rattle.parsed_texts.specs.legal_counts.specs.ConditionPlaces.{units_conditions}
use Rattle.legal_programs.specs.DecisionPlaces.{units_decisions}
use Rattle.legal_programs.specs.TextPlaces.{units_places}
use Rattle.program_objects.proofs.Legal.{passes_law, behaves_law, in_time_law}
use Rattle.program_objects.proofs.MarksOf.{marks_law}
use Rattle.program_objects.proofs.Placing.{text_bound}
use Rattle.program_objects.specs.Built.{HasPlainName, CanBeNamed, AreLegal, IsBuiltOf}
use Rattle.program_objects.specs.Compiled.{IsCompiled}
use Rattle.program_objects.specs.Exemptions.{exempt_regions, AreRegionsIn}
use Rattle.program_objects.specs.Legal.{entries_for, IsLegal}
use Rattle.program_objects.specs.Source.{entry_of_file, IsObjectOf, IsCheap}
use Rattle.program_objects.specs.Texts.{HasFewCopies, IsOfText}
use Rattle.cov_base.specs.declared.obligations.Obligations.{Obligations}
use Rattle.cov_base.specs.declared.obligations.Region.{Region}
use Rattle.cov_base.specs.declared.obligations.SourceFile.{SourceFile}
use Rattle.cov_base.specs.Lists.{Everywhere}
use Rattle.cov_base.specs.declared.position.Pos.{Pos}
use Rattle.generic_expand.specs.Limits.{node_count}
use Rattle.object_format.specs.Counts.{FileFits}
use Rattle.object_format.specs.Fields.{are_files}
use Rattle.object_format.specs.File.{closed_object}
use Rattle.object_format.specs.Read.{IsObject, HasObject}
use Rattle.object_format.specs.declared.object.FileEntry.{FileEntry}
use Rattle.object_format.specs.declared.object.Object.{Object}
use Rattle.parsed_texts.specs.Parsed.{most_nodes_of_file}
use Rattle.parsed_texts.specs.Places.{AreInFiles, IsInFiles}
use Rattle.parsed_texts.proofs.Conditions.{conditions_within}
use Rattle.parsed_texts.proofs.Decisions.{decisions_within}
use Rattle.parsed_texts.proofs.Statements.{statements_within, units_within}

both_hold : (a b : Bool) → a ≡ true → b ≡ true → (a && b) ≡ true
both_hold a b p q = rw (p, q) refl

-- the sources as files of the object

names_are_utf8 : (files : List SourceFile) → AllByRecursion HasPlainName files → list_all (λ (f : FileEntry). is_utf8 f.name) (map entry_of_file files) ≡ true
names_are_utf8 [] named = refl
names_are_utf8 (f ∷ files) named = both_hold (is_utf8 f.name) (list_all (λ (g : FileEntry). is_utf8 g.name) (map entry_of_file files)) named.0.0 (names_are_utf8 files named.1)

names_fit : (files : List SourceFile) → AllByRecursion HasPlainName files → AllByRecursion FileFits (map entry_of_file files)
names_fit [] named = tt
names_fit (f ∷ files) named = (omega (arith, named.0.1), names_fit files named.1)

counts_files : (n : ℕ) → 0 < n → n ≤ 64 → (nat_lt 0 n && nat_le n 64) ≡ true
counts_files n some few = both_hold (nat_lt 0 n) (nat_le n 64) (grind (arith, nat_tests)) (grind (arith, nat_tests))

entries_are_files : (files : List SourceFile) → CanBeNamed files → are_files (map entry_of_file files) ≡ true
entries_are_files files can =
    let long = length-map files entry_of_file in
    both_hold (nat_lt 0 (length (map entry_of_file files)) && nat_le (length (map entry_of_file files)) 64) (list_all (λ (f : FileEntry). is_utf8 f.name) (map entry_of_file files))
    (counts_files (length (map entry_of_file files)) (omega (arith, long, can.some)) (omega (arith, long, can.few)))
    (names_are_utf8 files (recursion_from_All HasPlainName files can.names))

-- places in so many files
abbrev AreInFilesOf : List Pos → ℕ → Type 0
AreInFilesOf places files = AreInFiles files places

abbrev AreItemsInFilesOf : List LibraryUnit → ℕ → Type 0
AreItemsInFilesOf units files = Everywhere (λ u. IsInFiles files u.item_pos) units

abbrev AreAllInFilesOf : List (List Pos) → ℕ → Type 0
AreAllInFilesOf lists files = Everywhere (AreInFiles files) lists

entered : (files : List SourceFile) (p : Program) (nodes : ℕ) (o : Object) (P : ℕ → Type 0) → IsBuiltOf files p nodes o → P (length files) → P (length o.files)
entered files p nodes o P built within = subst P (sym (ap length built.sources ∙ length-map files entry_of_file)) within

-- obligations with some regions are those with their own
own_regions : (p : Program) (ob : Obligations) (regions : List Region) → ob ≡ obligations_of p regions → ob ≡ obligations_of p ob.regions
own_regions p ob regions is = is ∙ ap (obligations_of p) (sym (ap (λ (x : Obligations). x.regions) is))

-- the exempt regions of the sources stand in the object's files
regions_within : (files : List SourceFile) (p : Program) (nodes : ℕ) (o : Object) → IsBuiltOf files p nodes o → AreRegionsIn (length files) (exempt_regions files)
    → AreRegionsIn (length o.files) o.obligations.regions
regions_within files p nodes o built stand =
    entered files p nodes o (λ (n : ℕ). AreRegionsIn n o.obligations.regions) built
    (subst (AreRegionsIn (length files)) (sym (ap (λ (ob : Obligations). ob.regions) built.obligations)) stand)

compiled_of : (files : List SourceFile) (main : List ℕ) (p : Program) (nodes : ℕ) (o : Object) (legal : AreLegal files main p) → CanBeNamed files → IsBuiltOf files p nodes o
    → IsCompiled legal.units p o
compiled_of files main p nodes o legal can built = record {
  kernel = built.kernel;
  nodes = nodes;
  is_kernel = built.is_kernel;
  holds = built.holds;
  obligations = own_regions p o.obligations (exempt_regions files) built.obligations;
  regions = regions_within files p nodes o built legal.regions;
  files = ap are_files built.sources ∙ entries_are_files files can;
  names = subst (λ fs. All FileFits fs) (sym built.sources) (All-from_recursion FileFits (map entry_of_file files) (names_fit files (recursion_from_All HasPlainName files can.names)));
  items = entered files p nodes o (AreItemsInFilesOf legal.units) built (units_within open_extent (length files) legal.units legal.program.read);
  places = entered files p nodes o (AreInFilesOf (units_places legal.units)) built (statements_within open_extent (length files) legal.units legal.program.read);
  decisions = entered files p nodes o (AreInFilesOf (units_decisions legal.units)) built (decisions_within open_extent (length files) legal.units legal.program.read);
  conditions = entered files p nodes o (AreAllInFilesOf (units_conditions legal.units)) built (conditions_within open_extent (length files) legal.units legal.program.read);
}

-- the closing digest enters none of this
pub closed_is_built : (files : List SourceFile) (p : Program) (nodes : ℕ) (o : Object) → IsBuiltOf files p nodes o → IsBuiltOf files p nodes (closed_object o)
closed_is_built files p nodes o built = record {
  kernel = built.kernel;
  is_kernel = built.is_kernel;
  holds = record {
    items = built.holds.items;
    text = built.holds.text;
    entry = built.holds.entry;
    init_at = built.holds.init_at;
    init = built.holds.init;
    rows = built.holds.rows;
    roles = built.holds.roles;
    exceptions = built.holds.exceptions;
  };
  sources = built.sources;
  obligations = built.obligations;
}

-- what was read and accepted is a legal program
abbrev legal_is : (files : List SourceFile) (main : List ℕ) (p : Program) → AreLegal files main p → IsLegal files main p
legal_is files main p legal = record { units = legal.units; parsed = legal.parsed; program = legal.program.program; exemptions = legal.exemptions }

module _ (files : List SourceFile) (main : List ℕ) (p : Program) (nodes : ℕ) (o : Object) (can : CanBeNamed files) (legal : AreLegal files main p) (text : IsOfText legal.units p)
    (copies : HasFewCopies p) (counted : sum_by unit_nodes legal.units ≤ length files * most_nodes_of_file) (built : IsBuiltOf files p nodes o) where
  abbrev lower : List ℕ
  lower = str_to_ascii_lowercase main

  compiled : IsCompiled legal.units p o
  compiled = compiled_of files main p nodes o legal can built

  -- it can be written
  pub written_law : HasObject o
  written_law = passes_law (length files) legal.units lower p o legal.program text copies can.few counted compiled

  -- what is read back of it is the sources' object
  object_law : IsObject o → IsObjectOf files main p o
  object_law is = record {
    legal = legal_is files main p legal;
    checked = is;
    sources = built.sources;
    obligations = built.obligations;
    marks = marks_law p nodes built.kernel o text.numbered built.is_kernel built.holds;
    behaves = behaves_law (length files) legal.units lower p o legal.program text copies can.few counted compiled;
  }

  cheap_law : nodes ≤ node_count (entries_for legal.units lower) → IsCheap files main p o
  cheap_law small = record {
    legal = legal_is files main p legal;
    in_time = in_time_law (length files) legal.units lower p o legal.program text copies can.few counted compiled;
    small = omega (arith, text_bound p nodes built.kernel o built.is_kernel built.holds, small);
  }

pub closed_law : (files : List SourceFile) (main : List ℕ) (p : Program) (nodes : ℕ) (o : Object) → CanBeNamed files → (legal : AreLegal files main p) → IsOfText legal.units p
    → HasFewCopies p → sum_by unit_nodes legal.units ≤ length files * most_nodes_of_file → nodes ≤ node_count (entries_for legal.units (str_to_ascii_lowercase main))
    → IsBuiltOf files p nodes o → IsObject (closed_object o) → IsObjectOf files main p (closed_object o) × IsCheap files main p (closed_object o)
closed_law files main p nodes o can legal text copies counted small built is =
    let whole = closed_is_built files p nodes o built in
    (object_law files main p nodes (closed_object o) can legal text copies counted whole is, cheap_law files main p nodes (closed_object o) can legal text copies counted whole small)
