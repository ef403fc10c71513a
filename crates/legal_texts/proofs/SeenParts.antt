-- What an instance shows is known wherever it is seen: what is known of the text of its generic in the instance, seen through it.
use Rattle.std.proofs.Common.{◌≡◌, ℕ, Bool, true, false, if◌then◌else◌, List, Option, Some, None, option_map, IfSome, refl}
use Rattle.std.specs.Prelude.{is_some}
use Rattle.ada_meaning.specs.Program.{Program}
use Rattle.ada_meaning.specs.Tree as tree
use Rattle.ada_meaning.specs.Types.{here, of_instance}
use Rattle.ada_rules.specs.Types.{AdaType}
use Rattle.ada_rules.specs.Entities.{Entity, hidden, mark, literal, object, formal_object, routine, raisable, component, test_io, unit, Region, entity_of, shown, Actual, object_seen, callee_seen, seen}
use Rattle.ada_rules.specs.Environment.{generic_interface}
use Rattle.ada_rules.specs.Expressions.{unless_formal, part_of_generic}
use Rattle.legal_laws.specs.Known.{IsOneOf, IsEntity, IsRegion}
use Rattle.legal_laws.proofs.SeenEntities.{AreSeenAs, IsPlainEntity, entity_known_seen}
use Rattle.legal_programs.specs.Closed.{IsNoFormal, IsClosedCallee, IsClosedEntity}
use Rattle.legal_programs.specs.Deciding.{IsWhole}
use Rattle.legal_texts.proofs.AnywhereKnown.{shapes, Sees, IsAnywhere}
use Rattle.legal_texts.proofs.UnitParts.{entity_so, shown_so}

module _ (p : Program) (k : ℕ) (actuals : List Actual) (types : AdaType → Type 0) (es : List AdaType) (all : AreSeenAs p 0 k actuals types (IsOneOf es)) where
  -- an object of the instance, outside it
  sees_through : (o : tree.Object) → Sees p k o → Sees p 0 (object_seen k o)
  sees_through (tree.library_object here d) h = h
  sees_through (tree.library_object (of_instance i) d) h = h
  sees_through (tree.local_object d) h = h

  shaped_through : (o : tree.Object) → Sees p k o → shapes p k o ≡ shapes p 0 (object_seen k o)
  shaped_through (tree.library_object here d) h = refl
  shaped_through (tree.library_object (of_instance i) d) h = refl
  shaped_through (tree.local_object d) h = absurd h

  abbrev Plain : Entity → Type 0
  Plain x = IsPlainEntity p 0 k actuals types (IsOneOf es) all (shapes p 0) (shapes p k) (Sees p 0) (Sees p k) sees_through shaped_through x

  no_formal : (c : tree.Callee) → IsClosedCallee (callee_seen k c) → IsNoFormal c
  no_formal tree.test_get h = tt
  no_formal tree.test_put h = tt
  no_formal (tree.subprogram o n) h = tt
  no_formal (tree.formal_subprogram j) h = h

  abbrev Through : Entity → Type 0
  Through x = IsEntity p 0 (IsOneOf es) (shapes p 0) (Sees p 0) (seen k actuals x)

  known_plain : (x : Entity) → Plain x → IsEntity p k types (shapes p k) (Sees p k) x → Through x
  known_plain x plain h =
      entity_known_seen p 0 k actuals types (IsOneOf es) all (shapes p 0) (shapes p k) (Sees p 0) (Sees p k) sees_through shaped_through x plain h

  known_through : (x : Entity) → IsWhole (seen k actuals x) → IsClosedEntity (seen k actuals x) → IsEntity p k types (shapes p k) (Sees p k) x → Through x
  known_through hidden w c h = known_plain hidden tt h
  known_through (mark i t) w c h = known_plain (mark i t) tt h
  known_through (literal t x) w c h = known_plain (literal t x) tt h
  known_through (object v) w c h = known_plain (object v) w h
  known_through (formal_object t e) w c h = known_plain (formal_object t e) tt h
  known_through (routine r) w c h = known_plain (routine r) (no_formal r.callee c.callee) h
  known_through (raisable e) w c h = known_plain (raisable e) tt h
  known_through component w c h = known_plain component tt h
  known_through test_io w c h = known_plain test_io tt h
  known_through (unit n) w c h = known_plain (unit n) tt h

  anywhere_through : (o : Option Entity) → IfSome o (IsEntity p k types (shapes p k) (Sees p k))
      → IfSome (option_map (seen k actuals) o) (λ x. IsWhole x × IsClosedEntity x) → IfSome (option_map (seen k actuals) o) (IsAnywhere p es)
  anywhere_through None h c = tt
  anywhere_through (Some x) h c = record { whole = c.0; closed = c.1; known = known_through x c.0 c.1 h }

  -- what stands in the region of its generic, but formals
  pub shown_through : (formals region : Region) (name : List ℕ) → IsRegion p k types (shapes p k) (Sees p k) region
      → IfSome (part_of_generic k actuals name (generic_interface formals region)) (λ x. IsWhole x × IsClosedEntity x)
      → IfSome (part_of_generic k actuals name (generic_interface formals region)) (IsAnywhere p es)
  shown_through formals region name h closed = anywhere_through (unless_formal formals name (shown (entity_of name region))) not_formal closed
    where
      unless : (b : Bool) (o : Option Entity) → IfSome o (IsEntity p k types (shapes p k) (Sees p k))
          → IfSome (if b then None else o) (IsEntity p k types (shapes p k) (Sees p k))
      unless true o z = tt
      unless false o z = z

      not_formal : IfSome (unless_formal formals name (shown (entity_of name region))) (IsEntity p k types (shapes p k) (Sees p k))
      not_formal =
          unless (is_some (entity_of name formals)) (shown (entity_of name region))
          (shown_so (IsEntity p k types (shapes p k) (Sees p k)) (entity_of name region) (entity_so (IsEntity p k types (shapes p k) (Sees p k)) name region h))
