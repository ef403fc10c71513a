-- Regions as the code keeps them.
use Rattle.std.proofs.Common.{◌≡◌, ℕ, Bool, true, false, cond, List, [], ◌∷◌, ◌++◌, map, Option, Some, None, option_map, is_some, is_none, Result, Ok, Err, OnOk, if◌then◌else◌, refl, sym, ap, ◌∙◌, true≢false}
use Rattle.std.specs.Map.{lookup}
use Rattle.std.specs.declared.vec.Vec.{Vec}
use Rattle.std.specs.declared.alloc.Global.{Global}
use Rattle.indexmap.specs.IndexMap.{insert_entry}
use Rattle.ada_syntax.specs.declared.name.Identifier.{Identifier}
use Rattle.ada_rules.specs.Plan.{ruled, answer_at}
use Rattle.ada_rules.specs.Entities as rules
use Rattle.ada_rules.specs.Entities.{Region, key, same_name, redefined}
use Rattle.ada_rules.specs.Library.{seen_too}
use Rattle.ada_entities.specs.declared.entity.Entity.{Entity}
use Rattle.ada_entities.specs.EntityViews.{Tables, entity_of, named, region_of}
use Rattle.ada_entities.specs.RegionView.{entry_of}
use Rattle.ada_entities.specs.RegionCode.{declaration, with_entry, Sees, Redefines}

-- a look-up in a map is one in what the map is seen as, and that one is the rules'
pub lookup_entries : (name : List ℕ) (entries : List (Vec ℕ Global × Entity))
    → lookup (λ k. same_name name k.items) entries ≡ lookup (same_name name) (map entry_of entries)
lookup_entries name [] = refl
lookup_entries name (e ∷ es) = ap (λ o. cond (same_name name e.0.items) (Some e.1) o) (lookup_entries name es)

chosen : (k : Tables) (b : Bool) (x : Entity) (o : Option Entity) (p : Option rules.Entity) → option_map (entity_of k) o ≡ p
    → option_map (entity_of k) (cond b (Some x) o) ≡ cond b (Some (entity_of k x)) p
chosen k true x o p h = refl
chosen k false x o p h = h

pub lookup_seen : (k : Tables) (name : List ℕ) (entries : List (List ℕ × Entity))
    → option_map (entity_of k) (lookup (same_name name) entries) ≡ rules.entity_of name (region_of k entries)
lookup_seen k name [] = refl
lookup_seen k name (e ∷ es) =
    chosen k (same_name name e.0) e.1 (lookup (same_name name) es) (rules.entity_of name (region_of k es)) (lookup_seen k name es)

-- an insertion in a map
put_by : (b : Bool) (e : Vec ℕ Global × Entity) (x : Entity) (es fs : List (Vec ℕ Global × Entity)) (gs : List (List ℕ × Entity)) → map entry_of fs ≡ gs
    → map entry_of (if b then (e.0, x) ∷ es else e ∷ fs) ≡ (if b then (e.0.items, x) ∷ map entry_of es else entry_of e ∷ gs)
put_by true e x es fs gs h = refl
put_by false e x es fs gs h = ap (λ gs. entry_of e ∷ gs) h

pub put_seen : (name : Vec ℕ Global) (x : Entity) (entries : List (Vec ℕ Global × Entity))
    → map entry_of (insert_entry (λ a b. same_name a.items b.items) entries name x) ≡ with_entry name.items x (map entry_of entries)
put_seen name x [] = refl
put_seen name x (e ∷ es) = put_by (same_name name.items e.0.items) e x es (insert_entry (λ a b. same_name a.items b.items) es name x) (with_entry name.items x (map entry_of es)) (put_seen name x es)

-- where the name is new, and where it is there
new_by : (k : Tables) (b : Bool) (e : List ℕ × Entity) (name : List ℕ) (x : Entity) (es fs : List (List ℕ × Entity)) (o : Option rules.Entity)
    → (is_none o ≡ true → region_of k fs ≡ region_of k es ++ (name, entity_of k x) ∷ [])
    → is_none (cond b (Some (entity_of k e.1)) o) ≡ true
    → region_of k (if b then (e.0, x) ∷ es else e ∷ fs) ≡ named k e ∷ region_of k es ++ (name, entity_of k x) ∷ []
new_by k true e name x es fs o rest h = absurd (true≢false (sym h))
new_by k false e name x es fs o rest h = ap (λ r. named k e ∷ r) (rest h)

pub put_new : (k : Tables) (name : List ℕ) (x : Entity) (entries : List (List ℕ × Entity)) → is_none (rules.entity_of name (region_of k entries)) ≡ true
    → region_of k (with_entry name x entries) ≡ region_of k entries ++ (name, entity_of k x) ∷ []
put_new k name x [] h = refl
put_new k name x (e ∷ es) h =
    new_by k (same_name name e.0) e name x es (with_entry name x es) (rules.entity_of name (region_of k es)) (put_new k name x es) h

there_by : (k : Tables) (b : Bool) (e : List ℕ × Entity) (x : Entity) (es fs : List (List ℕ × Entity)) (o : Option rules.Entity) (rs : Region)
    → (is_none o ≡ false → region_of k fs ≡ rs)
    → is_none (cond b (Some (entity_of k e.1)) o) ≡ false
    → region_of k (if b then (e.0, x) ∷ es else e ∷ fs) ≡ (if b then (e.0, entity_of k x) ∷ region_of k es else named k e ∷ rs)
there_by k true e x es fs o rs rest h = refl
there_by k false e x es fs o rs rest h = ap (λ r. named k e ∷ r) (rest h)

pub put_there : (k : Tables) (name : List ℕ) (x : Entity) (entries : List (List ℕ × Entity)) → is_none (rules.entity_of name (region_of k entries)) ≡ false
    → region_of k (with_entry name x entries) ≡ redefined name (entity_of k x) (region_of k entries)
put_there k name x [] h = absurd (true≢false h)
put_there k name x (e ∷ es) h =
    there_by k (same_name name e.0) e x es (with_entry name x es) (rules.entity_of name (region_of k es)) (redefined name (entity_of k x) (region_of k es))
    (put_there k name x es) h

absent_by : (b : Bool) (e : List ℕ × rules.Entity) (x : rules.Entity) (es fs : Region) (o : Option rules.Entity)
    → (is_none o ≡ true → fs ≡ es) → is_none (cond b (Some e.1) o) ≡ true → (if b then (e.0, x) ∷ es else e ∷ fs) ≡ e ∷ es
absent_by true e x es fs o rest h = absurd (true≢false (sym h))
absent_by false e x es fs o rest h = ap (λ r. e ∷ r) (rest h)

pub redefined_absent : (name : List ℕ) (x : rules.Entity) (region : Region) → is_none (rules.entity_of name region) ≡ true → redefined name x region ≡ region
redefined_absent name x [] h = refl
redefined_absent name x (e ∷ es) h =
    absent_by (same_name name e.0) e x es (redefined name x es) (rules.entity_of name es) (redefined_absent name x es) h

-- what was found says whether a name is new
pub found_none : {A B : Type 0} (f : A → B) (o : Option A) (p : Option B) (b : Bool) → option_map f o ≡ p → is_some o ≡ b → is_none p ≡ (if b then false else true)
found_none f None p true e h = absurd (true≢false (sym h))
found_none f None p false e h = ap is_none (sym e)
found_none f (Some x) p true e h = ap is_none (sym e)
found_none f (Some x) p false e h = absurd (true≢false h)

-- a declaration of a name, by whether it is new
pub declared_twice : (region : Region) (i : Identifier) (x : rules.Entity) → is_none (rules.entity_of (key i) region) ≡ false
    → declaration region i x ≡ Err i.pos
declared_twice region i x h = ap (λ b. answer_at i.pos (ruled (if b then Some (region ++ (key i, x) ∷ []) else None))) h

pub declared_once : (region : Region) (i : Identifier) (x : rules.Entity) → is_none (rules.entity_of (key i) region) ≡ true
    → declaration region i x ≡ Ok (region ++ (key i, x) ∷ [])
declared_once region i x h = ap (λ b. answer_at i.pos (ruled (if b then Some (region ++ (key i, x) ∷ []) else None))) h

pub declared_last : (k : Tables) (i : Identifier) (x : Entity) (old new : List (List ℕ × Entity)) → new ≡ with_entry (key i) x old
    → is_none (rules.entity_of (key i) (region_of k old)) ≡ true → declaration (region_of k old) i (entity_of k x) ≡ Ok (region_of k new)
declared_last k i x old new e h =
    declared_once (region_of k old) i (entity_of k x) h
    ∙ sym (ap (λ r. Ok (region_of k r)) e ∙ ap (λ r. Ok r) (put_new k (key i) x old h))

pub put_redefines : {E : Type 0} (name : List ℕ) (x : Entity) (old new : List (List ℕ × Entity)) (lower : List ℕ) → lower ≡ name
    → (result : Result (Unit {0}) E) → OnOk result (new ≡ with_entry lower x old)
    → ((k : Tables) → is_none (rules.entity_of name (region_of k old)) ≡ false) → OnOk result (Redefines old name x new)
put_redefines name x old new lower e (Err f) h there = tt
put_redefines name x old new lower e (Ok u) h there =
    λ k. ap (region_of k) (h ∙ ap (λ n. with_entry n x old) e) ∙ put_there k name x old (there k)

-- a name that is seen too
before_by : (b : Bool) (e : List ℕ × rules.Entity) (es fs : Region) (o : Option rules.Entity) → (is_none o ≡ false → fs ≡ es)
    → is_none (cond b (Some e.1) o) ≡ false → (if b then es else fs) ≡ es
before_by true e es fs o rest h = refl
before_by false e es fs o rest h = rest h

pub seen_before : (name : List ℕ) (x : rules.Entity) (region : Region) → is_none (rules.entity_of name region) ≡ false → seen_too name x region ≡ region
seen_before name x [] h = absurd (true≢false h)
seen_before name x (e ∷ es) h =
    ap (λ r. e ∷ r) (before_by (same_name name e.0) e es (seen_too name x es) (rules.entity_of name es) (seen_before name x es) h)

behind_by : (b : Bool) (e : List ℕ × rules.Entity) (es fs gs : Region) (o : Option rules.Entity) → (is_none o ≡ true → fs ≡ gs)
    → is_none (cond b (Some e.1) o) ≡ true → (if b then es else fs) ≡ gs
behind_by true e es fs gs o rest h = absurd (true≢false (sym h))
behind_by false e es fs gs o rest h = rest h

seen_behind : (name : List ℕ) (x : rules.Entity) (region : Region) → is_none (rules.entity_of name region) ≡ true → seen_too name x region ≡ region ++ (name, x) ∷ []
seen_behind name x [] h = refl
seen_behind name x (e ∷ es) h =
    ap (λ r. e ∷ r)
    (behind_by (same_name name e.0) e es (seen_too name x es) (es ++ (name, x) ∷ []) (rules.entity_of name es) (seen_behind name x es) h)

pub seen_last : {E : Type 0} (name : List ℕ) (x : Entity) (old new : List (List ℕ × Entity)) (result : Result (Unit {0}) E)
    → OnOk result (new ≡ with_entry name x old) → ((k : Tables) → is_none (rules.entity_of name (region_of k old)) ≡ true)
    → OnOk result (Sees old name x new)
seen_last name x old new (Err f) h free = tt
seen_last name x old new (Ok u) h free =
    λ k. ap (region_of k) h ∙ (put_new k name x old (free k) ∙ sym (seen_behind name (entity_of k x) (region_of k old) (free k)))
