-- The bodies in a package take no word of a subprogram that stands behind them, and count as many objects as words.
use Rattle.std.proofs.Common.{◌≡◌, true, List, [], ◌∷◌, Some, IfOk, refl}
use Rattle.cov_base.specs.declared.position.Pos.{Pos}
use Rattle.ada_syntax.specs.declared.unit.BodyItem.{BodyItem}
use Rattle.ada_syntax.specs.declared.unit.BodyItem.TheVariants as item
use Rattle.ada_syntax.specs.declared.unit.SubprogramBody.{SubprogramBody}
use Rattle.ada_rules.specs.Plan.{◌>>=◌, rule}
use Rattle.ada_rules.specs.Environment.{typing, State, Env, with_local}
use Rattle.ada_rules.specs.Subprograms.{packaged_body}
use Rattle.ada_rules.specs.Units.{body_item, body_items}
use Rattle.legal_laws.proofs.Passing.{IfPassed, answered, part_so}
use Rattle.legal_texts.proofs.OfText.{ok_so, packaged_makes}
use Rattle.legal_texts.proofs.PackageParts.{packaged_there}
use Rattle.legal_texts.proofs.UnitCounts.{Count, counts_same, counts_both, item_counts}

packaged_counts : (env : Env) → env.step ≡ typing → (s : State) (b : SubprogramBody) → IfOk (packaged_body env s b).answer (Count s)
packaged_counts env step s b =
    ok_so (Count s) (packaged_body env s b).answer
    (λ g e. let m = packaged_makes env step s b g (packaged_there env s b g e) in counts_same s g.next m.words m.objects)

body_item_counts : (env : Env) → env.is_library ≡ true → env.step ≡ typing → (s : State) (i : BodyItem) → IfPassed (body_item env s i).outcome (Count s)
body_item_counts env library step s (item.Declared i) = item_counts env library s i
body_item_counts env library step s (item.Body b) =
    part_so (Count s) (Count s) (packaged_body env s b).answer (λ r. rule (Some r)) (packaged_counts env step s b) (λ r h. h)

pub body_items_count : (env : Env) → env.is_library ≡ true → env.step ≡ typing → (s : State) (p : Pos) (items : List BodyItem) → IfOk (body_items env s p items).answer (Count s)
body_items_count env library step s p [] = counts_same s s refl refl
body_items_count env library step s p (i ∷ items) =
    answered (Count s) p _
    (part_so (Count s) (Count s) _ (λ r. body_items (with_local env r.value) r.next p items >>= (λ rest. rule (Some rest)))
    (answered (Count s) p (body_item env s i).outcome (body_item_counts env library step s i))
    (λ r h. part_so (Count r.next) (Count s) (body_items (with_local env r.value) r.next p items).answer (λ rest. rule (Some rest))
    (body_items_count (with_local env r.value) library step r.next p items) (λ rest k. counts_both s r.next rest.next h k)))
