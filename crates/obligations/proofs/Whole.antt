-- The obligations of a whole program, of its parts.
use Rattle.std.proofs.Common.{◌≡◌, ℕ, suc, Bool, true, false, List, [], ◌∷◌, ◌++◌, map, Option, Some, None, if◌then◌else◌, refl, sym, ap, ◌∙◌}
use Rattle.std.specs.Prelude.{nat_eq}
use Rattle.std.proofs.lemmas.List.{map-append}
use Rattle.cov_base.specs.declared.obligations.StmtEntry.{StmtEntry}
use Rattle.cov_base.specs.declared.obligations.DecEntry.{DecEntry}
use Rattle.cov_base.specs.declared.obligations.Region.{Region}
use Rattle.cov_base.specs.declared.obligations.InstanceEntry.{InstanceEntry}
use Rattle.cov_base.specs.declared.obligations.Obligations.{Obligations}
use Rattle.ada_meaning.specs.Collected.{in_block, block_labels, labels_of, decisions_of}
use Rattle.ada_meaning.specs.Obligations.{inserted, in_order, statement_entry, decision_entry, instance_entry, no_instance, ListedException, listed_for, listed_by, listed, is_listed_before, ordered_exceptions, obligations_of}
use Rattle.ada_meaning.specs.Types.{Subtype}
use Rattle.ada_tree.proofs.Unfolding.{block_decisions, labels_of_block}
use Rattle.ada_tree.specs.declared.program.ExceptionDeclaration.{ExceptionDeclaration}
use Rattle.ada_tree.specs.declared.program.Instance.{Instance}
use Rattle.ada_tree.specs.declared.program.Program.{Program}
use Rattle.ada_tree.specs.declared.program.Subprogram.{Subprogram}
use Rattle.ada_tree.specs.Programs.{types_of, subprogram_of, instance_of, exception_declaration_of, program_of}
use Rattle.obligations.specs.declared.exceptions.NamedException.{NamedException}
use Rattle.obligations.specs.Entries.{Entries, joined, listed as entries_listed, of_subprograms, predefined}
use Rattle.obligations.specs.Exceptions.{full_name, is_before, in_instances, of_declaration, of_declarations}
use Rattle.obligations.specs.Ordered.{statement_before, decision_before}
use Rattle.obligations.proofs.Lists.{listed_joined, nothing_listed, predefined_are}

-- what is made of items in order is in order
insert_mapped : {X Y : Type 0} (f : X → Y) (p : X → X → Bool) (q : Y → Y → Bool) → ((x y : X) → q (f x) (f y) ≡ p x y)
    → (x : X) (ys : List X) → map f (inserted p x ys) ≡ inserted q (f x) (map f ys)
insert_mapped f p q same x [] = refl
insert_mapped f p q same x (y ∷ ys) =
    by_test (p y x) (ap (λ zs. f y ∷ zs) (insert_mapped f p q same x ys))
    ∙ ap (λ b. if b then f y ∷ inserted q (f x) (map f ys) else f x ∷ f y ∷ map f ys) (sym (same y x))
  where
    by_test : (b : Bool) → f y ∷ map f (inserted p x ys) ≡ f y ∷ inserted q (f x) (map f ys)
        → map f (if b then y ∷ inserted p x ys else x ∷ y ∷ ys) ≡ (if b then f y ∷ inserted q (f x) (map f ys) else f x ∷ f y ∷ map f ys)
    by_test true h = h
    by_test false h = refl

order_mapped : {X Y : Type 0} (f : X → Y) (p : X → X → Bool) (q : Y → Y → Bool) → ((x y : X) → q (f x) (f y) ≡ p x y)
    → (xs : List X) → map f (in_order p xs) ≡ in_order q (map f xs)
order_mapped f p q same [] = refl
order_mapped f p q same (x ∷ xs) = insert_mapped f p q same x (in_order p xs) ∙ ap (inserted q (f x)) (order_mapped f p q same xs)

-- the entries of subprograms are those of the program, whose types are unfolded
entries_are : (types : List Subtype) (ss : List Subprogram)
    → of_subprograms ss ≡ entries_listed (labels_of (map (subprogram_of types) ss)) (decisions_of (map (subprogram_of types) ss))
entries_are types [] = sym nothing_listed
entries_are types (s ∷ ss) =
    let ls = labels_of (map (subprogram_of types) ss) in
    let ds = decisions_of (map (subprogram_of types) ss) in
    ap (joined (entries_listed (block_labels s.body) (in_block s.body))) (entries_are types ss)
    ∙ sym (listed_joined (block_labels s.body) ls (in_block s.body) ds)
    ∙ (λ i. entries_listed (sym (labels_of_block types s.body) i ++ ls) (sym (block_decisions types s.body) i ++ ds))

statements_are : (p : Program) → (of_subprograms p.subprograms).statements ≡ map statement_entry (labels_of (program_of p).subprograms)
unfolding entries_listed
statements_are p = ap (λ (e : Entries). e.statements) (entries_are (types_of p.types) p.subprograms)

decisions_are : (p : Program) → (of_subprograms p.subprograms).decisions ≡ map decision_entry (decisions_of (program_of p).subprograms)
unfolding entries_listed
decisions_are p = ap (λ (e : Entries). e.decisions) (entries_are (types_of p.types) p.subprograms)

-- a declared exception by its places and its name
abbrev named_of : ListedException → NamedException
named_of x = record { place = record { outer = x.outer; inner = x.inner }; name = x.name }

in_generic : (d : ExceptionDeclaration) (g n : ℕ) (is : List Instance)
    → map named_of (listed_for (exception_declaration_of d) g n (map instance_of is)) ≡ in_instances d g is
in_generic d g n [] = refl
in_generic d g n (i ∷ is) = by_test (nat_eq i.generic g) (in_generic d g (suc n) is)
  where
    own : NamedException
    own = record { place = record { outer = i.place; inner = d.place }; name = full_name i.name d.name }

    by_test : (b : Bool) → map named_of (listed_for (exception_declaration_of d) g (suc n) (map instance_of is)) ≡ in_instances d g is
        → map named_of (if b
        then record { entry = record { instance = n; declaration = d.declaration }; outer = i.place; inner = d.place; name = full_name i.name d.name } ∷ listed_for (exception_declaration_of d) g (suc n) (map instance_of is)
        else listed_for (exception_declaration_of d) g (suc n) (map instance_of is))
        ≡ (if b then own ∷ [] else []) ++ in_instances d g is
    by_test true rest = ap (λ xs. own ∷ xs) rest
    by_test false rest = rest

of_one : (g : Option ℕ) (d : ExceptionDeclaration) (is : List Instance)
    → map named_of (listed_by g (exception_declaration_of d) (map instance_of is)) ≡ of_declaration g d is
of_one None d is = refl
of_one (Some g) d is = in_generic d g 1 is

of_all : (ds : List ExceptionDeclaration) (is : List Instance)
    → map named_of (listed (map exception_declaration_of ds) (map instance_of is)) ≡ of_declarations ds is
of_all [] is = refl
of_all (d ∷ ds) is =
    map-append named_of (listed_by d.generic (exception_declaration_of d) (map instance_of is)) (listed (map exception_declaration_of ds) (map instance_of is))
    ∙ (λ i. of_one d.generic d is i ++ of_all ds is i)

names_twice : (xs : List ListedException) → map (λ (x : ListedException). x.name) xs ≡ map (λ (x : NamedException). x.name) (map named_of xs)
names_twice [] = refl
names_twice (x ∷ xs) = ap (λ ys. x.name ∷ ys) (names_twice xs)

names_are : (p : Program) → map (λ (x : NamedException). x.name) (in_order is_before (of_declarations p.declared p.instances))
    ≡ map (λ (x : ListedException). x.name) (ordered_exceptions (program_of p))
names_are p =
    let all = listed (program_of p).declared (program_of p).instances in
    ap (λ xs. map (λ (x : NamedException). x.name) (in_order is_before xs)) (sym (of_all p.declared p.instances))
    ∙ ap (map (λ (x : NamedException). x.name)) (sym (order_mapped named_of is_listed_before is_before (λ x y. refl) all))
    ∙ sym (names_twice (in_order is_listed_before all))

abbrev made : List StmtEntry → List DecEntry → List Region → List InstanceEntry → List (List ℕ) → Obligations
made ss ds rs is xs = record { statements = ss; decisions = ds; regions = rs; instances = is; exceptions = xs }

pub all_parts : (p : Program) (e : Entries) (ss : List StmtEntry) (ds : List DecEntry) (rs : List Region) (is : List InstanceEntry) (xs : List (List ℕ))
    → e ≡ of_subprograms p.subprograms → ss ≡ in_order statement_before e.statements → ds ≡ in_order decision_before e.decisions → rs ≡ []
    → is ≡ no_instance ∷ map instance_entry (map instance_of p.instances)
    → xs ≡ predefined ++ map (λ (x : NamedException). x.name) (in_order is_before (of_declarations p.declared p.instances))
    → made ss ds rs is xs ≡ obligations_of (program_of p) []
all_parts p e ss ds rs is xs all s d r i x = λ k. record {
  statements = (s ∙ ap (λ (z : Entries). in_order statement_before z.statements) all ∙ ap (in_order statement_before) (statements_are p)
      ∙ sym (order_mapped statement_entry _ statement_before (λ a b. refl) (labels_of (program_of p).subprograms))) k;
  decisions = (d ∙ ap (λ (z : Entries). in_order decision_before z.decisions) all ∙ ap (in_order decision_before) (decisions_are p)
      ∙ sym (order_mapped decision_entry _ decision_before (λ a b. refl) (decisions_of (program_of p).subprograms))) k;
  regions = r k;
  instances = i k;
  exceptions = (x ∙ (λ j. predefined_are j ++ names_are p j)) k;
}
