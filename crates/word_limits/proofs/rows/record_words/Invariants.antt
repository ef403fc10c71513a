-- The words so far, and those of the components that are left, are those of all.
use Rattle.std.proofs.Common.{◌≡◌, ℕ, ◌+◌, List, drop}
use Rattle.ada_meaning.specs.Types as type
use Rattle.ada_rules.specs.Limits.{words_in_fields}
use Rattle.ada_rules.specs.Statics.{Facts}
use Rattle.ada_tree.specs.Programs.{unfolded_components}
use Rattle.ada_tree.specs.View.{components_of}
use Rattle.word_limits.specs.Capped.{capped}
use Rattle.word_limits.specs.Ranges.{IsAt}
use Rattle.word_limits.specs.Rows.{AreRows}
use Rattle.word_limits.proofs.rows.record_words.Given as goal

abbrev pub invariant-loop-component : goal.invariant-loop-component
invariant-loop-component l =
    (capped l.words ≡ l.words)
    × ((is : List Facts) (ts : List type.Subtype) (i : ℕ) → AreRows is ts l.rows → IsAt l.scope i
    → capped (l.words + words_in_fields is i (unfolded_components ts (components_of (drop l.component-index l.components))))
    ≡ capped (words_in_fields is i (unfolded_components ts (components_of l.components))))
