-- Objects of a subprogram in the step of types: they have the shapes of their subtypes, and are visible behind their declaration.
use Rattle.std.proofs.Common.{◌≡◌, ◌+◌, ℕ, nat_eq, Bool, true, false, if◌then◌else◌, List, [], ◌∷◌, length, Option, Some, None, option_map, IfSome, refl, sym, ap, ◌∙◌, arith, inl, inr}
use Rattle.std.proofs.lemmas.Bool.{eqb-true}
use Rattle.cov_base.specs.Lists.{Everywhere}
use Rattle.ada_syntax.specs.declared.declaration.Constancy.{Constancy}
use Rattle.ada_syntax.specs.declared.declaration.Constancy.TheVariants as constancy
use Rattle.ada_syntax.specs.declared.name.Identifier.{Identifier}
use Rattle.ada_meaning.specs.Program.{Program}
use Rattle.ada_meaning.specs.Resolved.{shape_in}
use Rattle.ada_meaning.specs.Shape.{Shape}
use Rattle.ada_meaning.specs.Tree as tree
use Rattle.ada_meaning.specs.Types.{Static}
use Rattle.ada_meaning.specs.WellFormed.{behind, behind_all, AreDeclarations}
use Rattle.ada_rules.specs.Types.{AdaType, AdaSubtype, range_in, subtype_in_tree}
use Rattle.ada_rules.specs.Entities.{key, Region, redefined}
use Rattle.ada_rules.specs.Environment.{Words, State, Env}
use Rattle.ada_rules.specs.Declarations.{known_constant, object_entity, word_of, local_objects, counted, bare_declarations}
use Rattle.ada_rules.specs.Statics.{Facts}
use Rattle.legal_laws.specs.Kept.{OnlyStatics}
use Rattle.legal_laws.specs.Known.{IsKnownSubtype, IsEntity, IsRegion}
use Rattle.legal_laws.specs.Served.{Serves, AreShaped}
use Rattle.legal_laws.specs.Valued.{AreFactsInBase}
use Rattle.legal_laws.proofs.Constants.{numbered_before}
use Rattle.legal_laws.proofs.KeptStatics.{numbered_only}
use Rattle.legal_laws.proofs.KnownRegions.{redefined_known}

-- what is visible before declarations is visible behind them
pub behind_more : (Sees : tree.Object → Type 0) (ds : List tree.Declaration) (o : tree.Object) → Sees o → behind_all Sees ds o
behind_more Sees [] o h = h
behind_more Sees (d ∷ ds) o h = behind_more (behind Sees _) ds o (inl h)

pub counted_length : (t : AdaSubtype) (is : List Identifier) (ws : List Words) → length (counted t is ws) ≡ length ws + length is
counted_length t [] ws = omega (arith)
counted_length t (i ∷ is) ws = let rest = counted_length t is (word_of t i ∷ ws) in omega (arith, rest)

-- a list of one name
pub of_one : {X : Type 0} (P : X → Type 0) (is : List Identifier) (f : List Identifier → X) (u : Unit {0}) → ((i : Identifier) → is ≡ i ∷ [] → P (f is))
    → IfSome (option_map (λ v. f is) (if nat_eq (length is) 1 then Some u else None)) P
of_one P is f u each = by_count is refl (nat_eq (length is) 1) refl
  where
    two_names : (i j : Identifier) (js : List Identifier) → length (i ∷ (j ∷ js)) ≡ 1 → ⊥
    two_names i j js e = omega (arith, e)

    no_names : length {A = Identifier} [] ≡ 1 → ⊥
    no_names e = omega (arith, e)

    by_count : (js : List Identifier) → is ≡ js → (b : Bool) → nat_eq (length is) 1 ≡ b → IfSome (option_map (λ v. f is) (if b then Some u else None)) P
    by_count js same false e = tt
    by_count [] same true e = absurd (no_names (ap length (sym same) ∙ eqb-true (length is) 1 e))
    by_count (i ∷ []) same true e = each i same
    by_count (i ∷ (j ∷ js)) same true e = absurd (two_names i j js (ap length (sym same) ∙ eqb-true (length is) 1 e))

-- the known value of a constant makes no more than constants
pub constant_keeps : (env : Env) (c : Constancy) (t : AdaSubtype) (f : Static → Option Static) (k : Option Static) (s : State)
    → OnlyStatics s (known_constant env c t f k s).next
constant_keeps env constancy.Constant t f (Some e) s = numbered_only env.generic (range_in t) e (f e) s
constant_keeps env constancy.Constant t f None s = refl
constant_keeps env constancy.Variable t f k s = refl

module _ (facts : List Facts) (are : Everywhere AreFactsInBase facts) (inst : ℕ) (env : Env) where
  pub constant_only : (c : Constancy) (t : AdaSubtype) (f : Static → Option Static) (k : Option Static) (s : State) → OnlyStatics s (known_constant env c t f k s).next
  constant_only constancy.Constant t f (Some e) s = numbered_only env.generic (range_in t) e (f e) s
  constant_only constancy.Constant t f None s = refl
  constant_only constancy.Variable t f k s = refl

  pub constant_before : (c : Constancy) (t : AdaSubtype) (f : Static → Option Static) (k : Option Static) (s : State)
      → Serves facts inst env.generic (known_constant env c t f k s).next → Serves facts inst env.generic s
  constant_before constancy.Constant t f (Some e) s all = numbered_before facts are inst env.generic (range_in t) e (f e) s all
  constant_before constancy.Constant t f None s all = all
  constant_before constancy.Variable t f k s all = all

module _ (p : Program) (inst : ℕ) (shape_of : tree.Object → Shape) (facts : List Facts) where
  abbrev ShapeOf : AdaSubtype → Shape
  ShapeOf t = shape_in p inst (subtype_in_tree t)

  -- objects that are declared together, numbered from here on
  abbrev pub HaveShape : AdaSubtype → ℕ → List Identifier → Type 0
  HaveShape t n [] = Unit {0}
  HaveShape t n (i ∷ is) = (shape_of (tree.local_object n) ≡ ShapeOf t) × HaveShape t (n + 1) is

  abbrev pub AreSeen : (tree.Object → Type 0) → ℕ → List Identifier → Type 0
  AreSeen Sees n [] = Unit {0}
  AreSeen Sees n (i ∷ is) = Sees (tree.local_object n) × AreSeen Sees (n + 1) is

  pub record AreCounted (t : AdaSubtype) (is : List Identifier) (ws : List Words) (n : ℕ) : Type 0 where
    pub before : AreShaped facts inst p shape_of ws
    pub shapes : HaveShape t n is

  pub counted_shapes : (t : AdaSubtype) (is : List Identifier) (ws : List Words) (n : ℕ) → n ≡ length ws → AreShaped facts inst p shape_of (counted t is ws)
      → AreCounted t is ws n
  counted_shapes t [] ws n e all = record { before = all; shapes = tt }
  counted_shapes t (i ∷ is) ws n e all =
      let rest = counted_shapes t is (word_of t i ∷ ws) (n + 1) (omega (arith, e)) all in
      record {
        before = rest.before.1;
        shapes = (ap (λ k. shape_of (tree.local_object k)) e ∙ rest.before.0, rest.shapes);
      }

  -- declarations without a value
  pub bare_declared : (Sees : tree.Object → Type 0) (t : AdaSubtype) (n : ℕ) (is : List Identifier) → HaveShape t n is
      → AreDeclarations p inst shape_of Sees (bare_declarations t n is)
  bare_declared Sees t n [] h = tt
  bare_declared Sees t n (i ∷ is) h = (sym h.0, bare_declared (behind Sees n) t (n + 1) is h.1)

  pub bare_seen : (Sees : tree.Object → Type 0) (t : AdaSubtype) (n : ℕ) (is : List Identifier) → AreSeen (behind_all Sees (bare_declarations t n is)) n is
  bare_seen Sees t n [] = tt
  bare_seen Sees t n (i ∷ is) = (behind_more (behind Sees n) (bare_declarations t (n + 1) is) (tree.local_object n) (inr refl), bare_seen (behind Sees n) t (n + 1) is)

  -- their entities
  pub object_known : (declared : AdaType → Type 0) (Sees : tree.Object → Type 0) (n : ℕ) (c : Constancy) (t : AdaSubtype) (k : Option Static)
      → IsKnownSubtype p inst declared t → Sees (tree.local_object n) → shape_of (tree.local_object n) ≡ ShapeOf t
      → IsEntity p inst declared shape_of Sees (object_entity (tree.local_object n) c t k)
  object_known declared Sees n c t k known seen shape = record { visible = seen; parts = tt; shape = shape; subtype = known }

  pub objects_known : (declared : AdaType → Type 0) (Sees : tree.Object → Type 0) (c : Constancy) (t : AdaSubtype) (k : Option Static) (n : ℕ) (region : Region)
      (is : List Identifier) → IsKnownSubtype p inst declared t → AreSeen Sees n is → HaveShape t n is → IsRegion p inst declared shape_of Sees region
      → IsRegion p inst declared shape_of Sees (local_objects c t k n region is)
  objects_known declared Sees c t k n region [] known seen shapes all = all
  objects_known declared Sees c t k n region (i ∷ is) known seen shapes all =
      objects_known declared Sees c t k (n + 1) (redefined (key i) (object_entity (tree.local_object n) c t k) region) is known seen.1 shapes.1
      (redefined_known p inst declared shape_of Sees (key i) (object_entity (tree.local_object n) c t k) region
      (object_known declared Sees n c t k known seen.0 shapes.0) all)
