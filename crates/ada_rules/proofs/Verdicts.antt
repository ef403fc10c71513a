-- What a verdict says of units.
use Rattle.std.proofs.Common.{◌≡◌, ℕ, List, reverse, Option, Some, None, Result, Ok, Err, ap, sym, ◌∙◌, refl}
use Rattle.cov_base.specs.declared.position.Pos.{Pos}
use Rattle.ada_meaning.specs.Program.{Program}
use Rattle.ada_rules.specs.Statics.{first_unmet}
use Rattle.ada_rules.specs.Environment.{naming, typing}
use Rattle.ada_rules.specs.Library.{Library}
use Rattle.ada_rules.specs.Limits.{first_excess}
use Rattle.ada_rules.specs.Units.{Walked}
use Rattle.ada_rules.specs.Legal.{Checked, unnamed, mistyped, too_large, legal, program_of, refused_or, after_step, after_counts, after_values, after_names, checked_in}
use Rattle.ada_rules.specs.Refusals.{BreaksNames, BreaksTypes, by_form, by_value, looked_at}
use Rattle.ada_rules.proofs.Laws.{refusal_offends, first_unmet_fails}

-- the place of a verdict, by its step
abbrev unnamed_at : Checked → Option Pos
unnamed_at (unnamed p) = Some p
unnamed_at c = None

abbrev mistyped_at : Checked → Option Pos
mistyped_at (mistyped p) = Some p
mistyped_at c = None

abbrev place_or : Option Pos → Pos → Pos
place_or None p = p
place_or (Some q) p = q

same_place : {q p : Pos} → Some q ≡ Some p → q ≡ p
same_place {q} {p} e = ap (λ o. place_or o p) e

none_is_some : {p : Pos} → None ≡ Some p → ⊥
none_is_some e = cc

-- no later step says that a rule on names is broken
counts_named : (o : Option Pos) (x : Program) → unnamed_at (refused_or too_large o (λ u. legal x)) ≡ None
counts_named None x = refl
counts_named (Some p) x = refl

values_named : (o : Option Pos) (c : Checked) → unnamed_at c ≡ None → unnamed_at (refused_or mistyped o (λ u. c)) ≡ None
values_named None c h = h
values_named (Some p) c h = refl

types_named : (l : Library) (main : List ℕ) (r : Result Walked Pos)
    → unnamed_at (after_step mistyped r (λ x. after_values l main x)) ≡ None
types_named l main (Err p) = refl
types_named l main (Ok x) =
    values_named (first_unmet x.world.instances (reverse x.next.demands)) (after_counts l main x)
    (counts_named (first_excess x.world x.next l.units) (program_of x.world x.next main))

names_refused : {A : Type 0} (r : Result A Pos) (c : Checked) (p : Pos) → unnamed_at c ≡ None
    → unnamed_at (after_step unnamed r (λ x. c)) ≡ Some p → r ≡ Err p
names_refused (Err q) c p h e = ap (λ x. Err x) (same_place e)
names_refused (Ok x) c p h e = absurd (none_is_some (sym h ∙ e))

pub names_broken : (l : Library) (main : List ℕ) (p : Pos) → checked_in l main ≡ unnamed p → BreaksNames l main p
names_broken l main p e =
    refusal_offends (looked_at naming l main) p
    (names_refused (looked_at naming l main).answer (after_names l main) p
    (types_named l main (looked_at typing l main).answer) (ap unnamed_at e))

-- the rules on types
counts_typed : (o : Option Pos) (x : Program) → mistyped_at (refused_or too_large o (λ u. legal x)) ≡ None
counts_typed None x = refl
counts_typed (Some p) x = refl

values_typed : (o : Option Pos) (c : Checked) (p : Pos) → mistyped_at c ≡ None
    → mistyped_at (refused_or mistyped o (λ u. c)) ≡ Some p → o ≡ Some p
values_typed None c p h e = absurd (none_is_some (sym h ∙ e))
values_typed (Some q) c p h e = e

types_broken_by : (l : Library) (main : List ℕ) (p : Pos) (r : Result Walked Pos) → (looked_at typing l main).answer ≡ r
    → mistyped_at (after_step mistyped r (λ x. after_values l main x)) ≡ Some p → BreaksTypes l main p
types_broken_by l main p (Err q) h e =
    by_form (refusal_offends (looked_at typing l main) p (h ∙ ap (λ x. Err x) (same_place e)))
types_broken_by l main p (Ok x) h e =
    by_value x h (first_unmet_fails x.world.instances (reverse x.next.demands) p
    (values_typed (first_unmet x.world.instances (reverse x.next.demands)) (after_counts l main x) p
    (counts_typed (first_excess x.world x.next l.units) (program_of x.world x.next main)) e))

behind_names : {A : Type 0} (r : Result A Pos) (c : Checked) (p : Pos)
    → mistyped_at (after_step unnamed r (λ x. c)) ≡ Some p → mistyped_at c ≡ Some p
behind_names (Err q) c p e = absurd (none_is_some e)
behind_names (Ok x) c p e = e

pub types_broken : (l : Library) (main : List ℕ) (p : Pos) → checked_in l main ≡ mistyped p → BreaksTypes l main p
types_broken l main p e =
    types_broken_by l main p (looked_at typing l main).answer refl
    (behind_names (looked_at naming l main).answer (after_names l main) p (ap mistyped_at e))
