-- A body's name in the region of its package.
use Rattle.std.proofs.Common.{◌≡◌, Bool, true, false, cond, if◌then◌else◌, is_none, List, [], ◌∷◌, ◌++◌, Option, Some, None, Result, Ok, Err, refl, sym, ap, ◌∙◌, ℕ}
use Rattle.std.specs.Cmp.Lexicographic.{bytes_decides}
use Rattle.std.proofs.lemmas.Option.{none-some}
use Rattle.cov_base.specs.declared.position.Pos.{Pos}
use Rattle.ada_syntax.specs.declared.name.Identifier.{Identifier}
use Rattle.ada_rules.specs.Plan.{ruled, answer_at}
use Rattle.ada_rules.specs.Entities as rules
use Rattle.ada_rules.specs.Entities.{Region, entity_of, hidden, key, same_name}
use Rattle.ada_rules.specs.Subprograms.{to_complete, completed}
use Rattle.ada_entities.specs.RegionCode.{declaration}

same_itself : (name : List ℕ) → same_name name name ≡ true
same_itself name = (bytes_decides name name).1 refl

-- what is declared behind others is found, where the name is new
behind_by : (b : Bool) (x : rules.Entity) (o p : Option rules.Entity) → (o ≡ None → p ≡ Some x) → (y : rules.Entity) → cond b (Some y) o ≡ None → cond b (Some y) p ≡ Some x
behind_by true x o p rest y h = absurd (none-some _ (sym h))
behind_by false x o p rest y h = rest h

found_last : (region : Region) (name : List ℕ) (x : rules.Entity) → entity_of name region ≡ None → entity_of name (region ++ (name, x) ∷ []) ≡ Some x
found_last [] name x h = ap (λ b. cond b (Some x) None) (same_itself name)
found_last (e ∷ es) name x h =
    behind_by (same_name name e.0) x (entity_of name es) (entity_of name (es ++ (name, x) ∷ [])) (found_last es name x) e.1 h

declared_by : (region new : Region) (i : Identifier) (x : rules.Entity) (o : Option rules.Entity) → o ≡ None
    → answer_at i.pos (ruled (if is_none o then Some (region ++ (key i, x) ∷ []) else None)) ≡ Ok new → new ≡ region ++ (key i, x) ∷ []
declared_by region new i x None h e = ap (λ r. given_region r) (sym e) where
  given_region : Result Region Pos → Region
  given_region (Ok r) = r
  given_region (Err p) = region
declared_by region new i x (Some y) h e = absurd (none-some _ (sym h))

pub declared_there : (region new : Region) (i : Identifier) (x : rules.Entity) → entity_of (key i) region ≡ None → declaration region i x ≡ Ok new
    → entity_of (key i) new ≡ Some x
declared_there region new i x h e =
    ap (entity_of (key i)) (declared_by region new i x (entity_of (key i) region) h e) ∙ found_last region (key i) x h

module _ (region : Region) (i : Identifier) where
  -- a new name is declared, and is hidden from then on
  pub new_name : entity_of (key i) region ≡ None → (completed region i).answer ≡ declaration region i hidden
  new_name h = ap (λ o. answer_at i.pos (ruled (to_complete region i o))) h

  -- what else stands there is completed, or refuses the body
  pub told : (x : rules.Entity) (o : Option Region) → entity_of (key i) region ≡ Some x → to_complete region i (Some x) ≡ o
      → (completed region i).answer ≡ answer_at i.pos (ruled o)
  told x o h e = ap (λ y. answer_at i.pos (ruled (to_complete region i y))) h ∙ ap (λ y. answer_at i.pos (ruled y)) e
