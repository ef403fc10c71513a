-- Declarations of the typed program that are made, and what objects come to.
use Rattle.std.proofs.Common.{◌≡◌, ℕ, ◌+◌, ◌<◌, ◌≤◌, List, [], ◌∷◌, ◌++◌, length, drop, map, sym, ap, ◌∙◌}
use Rattle.std.proofs.lemmas.List.{at_drop_all, at_drop_more, map_push, append_assoc, append-nil}
use Rattle.ada_syntax.specs.declared.name.Identifier.{Identifier}
use Rattle.ada_meaning.specs.Tree as tree
use Rattle.ada_tree.specs.Programs.{unfolded_declaration}
use Rattle.ada_tree.specs.View.{declaration_of}
use Rattle.ada_tree.specs.declared.statement.Declaration.{Declaration}
use Rattle.ada_tree.specs.declared.statement.Declaration.TheVariants as declaration
use Rattle.ada_tree.specs.declared.types.Subtype.{Subtype as TreeSubtype}
use Rattle.ada_rules.specs.Types.{AdaSubtype, subtype_in_tree}
use Rattle.ada_rules.specs.Denoted.{nowhere}
use Rattle.ada_rules.specs.Declarations.{bare_declarations}
use Rattle.ada_entities.specs.EntityViews.{Tables}
use Rattle.program_walk.specs.States.{types_in, subtype_there}
use Rattle.declarations.specs.Locals.{made_of}

pub made_push : (k : Tables) (ds : List Declaration) (d : Declaration)
    → made_of k (ds ++ d ∷ []) ≡ made_of k ds ++ unfolded_declaration (types_in k) (declaration_of d) ∷ []
made_push k ds d =
    ap (map (unfolded_declaration (types_in k))) (map_push declaration_of ds d)
    ∙ map_push (unfolded_declaration (types_in k)) (map declaration_of ds) (declaration_of d)

-- one object without a value more
pub turn_bare : (k : Tables) (t : AdaSubtype) (x : TreeSubtype) (old before after : List Declaration) (first n m : ℕ) (is : List Identifier) (j : ℕ)
    → j < length is → subtype_there k x ≡ subtype_in_tree t → m ≡ n + 1 → after ≡ before ++ declaration.WithoutValue n x ∷ []
    → made_of k before ++ bare_declarations t n (drop j is) ≡ made_of k old ++ bare_declarations t first is
    → made_of k after ++ bare_declarations t m (drop (j + 1) is) ≡ made_of k old ++ bare_declarations t first is
turn_bare k t x old before after first n m is j less tree_is next added h =
    (λ z. made_of k (added z) ++ bare_declarations t (next z) (drop (j + 1) is))
    ∙ (ap (λ ds. ds ++ bare_declarations t (n + 1) (drop (j + 1) is)) (made_push k before (declaration.WithoutValue n x))
    ∙ (append_assoc (made_of k before) (tree.without_value n (subtype_there k x) ∷ []) (bare_declarations t (n + 1) (drop (j + 1) is))
    ∙ (ap (λ y. made_of k before ++ (tree.without_value n y ∷ bare_declarations t (n + 1) (drop (j + 1) is))) tree_is
    ∙ (ap (λ ds. made_of k before ++ ds) (sym (at_drop_more (bare_declarations t n) is j no_name less)) ∙ h))))
  where
    no_name : Identifier
    no_name = record { text = []; pos = nowhere }

pub all_bare : (k : Tables) (t : AdaSubtype) (old made : List Declaration) (first n : ℕ) (is : List Identifier) (j : ℕ) → length is ≤ j
    → made_of k made ++ bare_declarations t n (drop j is) ≡ made_of k old ++ bare_declarations t first is
    → made_of k made ≡ made_of k old ++ bare_declarations t first is
all_bare k t old made first n is j none h =
    sym (append-nil (made_of k made)) ∙ (ap (λ ds. made_of k made ++ ds) (sym (at_drop_all (bare_declarations t n) is j none)) ∙ h)
