-- Parts of units, in a package's own text and from outside.
use Rattle.std.proofs.Common.{◌≡◌, ℕ, Bool, true, false, List, Option, Some, None, if◌then◌else◌, sym, ap, ◌∙◌}
use Rattle.std.proofs.lemmas.Bool.{false≢true}
use Rattle.ada_rules.specs.Entities as rules
use Rattle.ada_rules.specs.Environment.{Env, interface_of}
use Rattle.ada_rules.specs.Expressions.{is_own, part_of_interface, part_of_unit}
use Rattle.ada_entities.specs.declared.entity.Entity.{Entity}
use Rattle.ada_entities.specs.EntityViews.{Tables, region_of}
use Rattle.ada_entities.specs.RegionCode.{region_at}
use Rattle.ada_phrases.specs.Scopes.{text_depth, IsText}

abbrev part_where : Env → ℕ → List ℕ → Bool → Option rules.Entity
part_where env n name b = if b then rules.shown (rules.entity_of name env.own) else part_of_interface env.world name (interface_of env.world n)

pub own_part : (k : Tables) (rs : List (List (List ℕ × Entity))) (env : Env) (own : Option ℕ) (n : ℕ) (name : List ℕ) → IsText k rs env own
    → is_own own n ≡ true → rules.shown (rules.entity_of name (region_of k (region_at text_depth rs))) ≡ part_of_unit env n name
own_part k rs env None n name t h = absurd (false≢true h)
own_part k rs env (Some m) n name t h =
    ap (λ r. rules.shown (rules.entity_of name r)) (sym t.1) ∙ sym (ap (part_where env n name) (ap (λ o. is_own o n) t.0 ∙ h))

pub outer_part : (k : Tables) (rs : List (List (List ℕ × Entity))) (env : Env) (own : Option ℕ) (n : ℕ) (name : List ℕ) → IsText k rs env own
    → is_own own n ≡ false → part_of_interface env.world name (interface_of env.world n) ≡ part_of_unit env n name
outer_part k rs env None n name t h = sym (ap (part_where env n name) (ap (λ o. is_own o n) t ∙ h))
outer_part k rs env (Some m) n name t h = sym (ap (part_where env n name) (ap (λ o. is_own o n) t.0 ∙ h))
