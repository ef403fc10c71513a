-- A body that was looked at, as the walk has found it.
use Rattle.std.specs.Prelude.{◌≡◌, ℕ, List, [], ◌∷◌, map, Option}
use Rattle.ada_meaning.specs.Tree as tree
use Rattle.ada_tree.specs.Programs.{unfolded_block}
use Rattle.ada_tree.specs.declared.program.Parameter.{Parameter}
use Rattle.ada_rules.specs.Environment.{State}
use Rattle.ada_entities.specs.EntityViews.{Tables}
use Rattle.program_walk.specs.declared.found.Found.{Found}
use Rattle.program_walk.specs.States.{types_in, subtype_there, word_of, with_found}
use Rattle.specifications.specs.Typed.{parameters_there}

-- The objects of the subprogram are those of its body now: it joins the subprograms with these parameters, and no
-- object is left over.
abbrev pub with_body : Tables → Found → Option ℕ → List Parameter → tree.Block → State → State
with_body k f generic qs b s = record s {
  words = [];
  subprogram_words = record { generic = generic; words = map (word_of k) f.words.items } ∷ s.subprogram_words;
  subprograms = record {
    generic = generic;
    parameters = parameters_there k qs;
    objects = map (λ w. subtype_there k w.subtype) f.words.items;
    body = unfolded_block (types_in k) b;
  } ∷ s.subprograms;
}

abbrev pub RecordsBody : (old new : Found) → Option ℕ → List Parameter → tree.Block → Type 0
RecordsBody old new generic qs b =
    (k : Tables) (s : State) → with_found k new s ≡ with_body k old generic qs b (with_found k old s)
