-- The inside of bodies, of the rules' definitions.
use Rattle.std.proofs.Common.{◌≡◌, ℕ, List, map, Ok, ap, ◌∙◌}
use Rattle.cov_base.specs.declared.failure.Failure.{Failure}
use Rattle.ada_syntax.specs.declared.unit.SubprogramBody.{SubprogramBody}
use Rattle.ada_meaning.specs.Tree as tree
use Rattle.ada_tree.specs.Programs.{unfolded_block, unfolded_handlers}
use Rattle.ada_tree.specs.View as view
use Rattle.ada_tree.specs.declared.statement.Declaration.{Declaration}
use Rattle.ada_rules.specs.Plan.{Plan, ◌>>=◌, answer_at}
use Rattle.ada_rules.specs.Entities.{Region}
use Rattle.ada_rules.specs.Environment.{State, Given, given, Env, with_local}
use Rattle.ada_rules.specs.Declarations.{Declared, all_declared}
use Rattle.ada_rules.specs.Statements.{Frame, block_of, all_handled}
use Rattle.ada_rules.specs.Subprograms.{Profile, inside_body, body_made, body_judged}
use Rattle.ada_entities.specs.Answers.{Refuses}
use Rattle.ada_entities.specs.declared.fault.Refusal.{Refusal}
use Rattle.ada_entities.specs.EntityViews.{Tables}
use Rattle.ada_phrases.proofs.Parts.{passes_on, in_part, refused_as}
use Rattle.statements.proofs.NestedLaws.{statements_in}
use Rattle.program_walk.specs.States.{types_in}
use Rattle.statements.specs.Locals.{made_of}
use Rattle.statements.specs.Made.{frame_there}
use Rattle.statements.specs.declared.nested.Frame.{Frame as CodeFrame}
use Rattle.library_units.specs.Inside.{ending}

module _ (env : Env) (before : State) (b : SubprogramBody) (region : Region) (name : List ℕ) (q : Profile) (s : State) where
  abbrev behind_statements : Declared → Given Frame → Plan State
  behind_statements x f = ending env.step b q.result (body_made env before q (block_of x.made f.value) f.next)

  abbrev behind_declarations : Declared → Plan State
  behind_declarations x =
      all_handled (with_local (inside_body env region name q) x.region) x.next b.specification.pos b.statements >>= behind_statements x

  pub declarations_refused : (f : Failure Refusal)
      → Refuses (all_declared (inside_body env region name q) s b.specification.pos b.declarations).answer f
      → Refuses (body_judged env before b region name (given q s)).answer f
  declarations_refused f h =
      in_part b.specification.pos (all_declared (inside_body env region name q) s b.specification.pos b.declarations).answer behind_declarations f h

  module _ (x : Declared) (declared : (all_declared (inside_body env region name q) s b.specification.pos b.declarations).answer ≡ Ok x) where
    behind_them : (body_judged env before b region name (given q s)).answer ≡ answer_at b.specification.pos (behind_declarations x).outcome
    behind_them =
        passes_on b.specification.pos (all_declared (inside_body env region name q) s b.specification.pos b.declarations).answer
        behind_declarations x declared

    pub statements_refused : (f : Failure Refusal)
        → Refuses (all_handled (with_local (inside_body env region name q) x.region) x.next b.specification.pos b.statements).answer f
        → Refuses (body_judged env before b region name (given q s)).answer f
    statements_refused f h =
        refused_as _ _ f behind_them
        (in_part b.specification.pos
        (all_handled (with_local (inside_body env region name q) x.region) x.next b.specification.pos b.statements).answer
        (behind_statements x) f h)

    pub statements_pass : (g : Given Frame)
        → (all_handled (with_local (inside_body env region name q) x.region) x.next b.specification.pos b.statements).answer ≡ Ok g
        → (body_judged env before b region name (given q s)).answer
        ≡ answer_at b.specification.pos (ending env.step b q.result (body_made env before q (block_of x.made g.value) g.next)).outcome
    statements_pass g h =
        behind_them
        ∙ passes_on b.specification.pos
        (all_handled (with_local (inside_body env region name q) x.region) x.next b.specification.pos b.statements).answer
        (behind_statements x) g h

-- a body of the typed program, as the rules make it
pub block_is : (k : Tables) (ds : List Declaration) (f : CodeFrame)
    → unfolded_block (types_in k)
    (tree.block (map view.declaration_of ds) (view.statements_of f.statements.items) (view.handlers_of f.handlers.items))
    ≡ block_of (made_of k ds) (frame_there k f)
block_is k ds f =
    ap (λ ss. tree.block (made_of k ds) ss (unfolded_handlers (types_in k) (view.handlers_of f.handlers.items)))
    (statements_in k (types_in k) f.statements.items)
