-- What units add to the exceptions of a program, in both steps.
use Rattle.std.proofs.Common.{◌≡◌, ◌≤◌, ◌+◌, ℕ, false, List, [], ◌∷◌, ◌++◌, Option, Some, None, option_map, IfOk, length, slice_get, refl, ap, arith}
use Rattle.cov_base.specs.declared.position.Pos.{Pos}
use Rattle.ada_syntax.specs.Tree as source
use Rattle.ada_syntax.specs.Tree.{expr_pos}
use Rattle.ada_syntax.specs.declared.unit.Instance.{Instance}
use Rattle.ada_syntax.specs.declared.unit.LibraryItem.{LibraryItem}
use Rattle.ada_syntax.specs.declared.unit.LibraryItem.TheVariants as library
use Rattle.ada_syntax.specs.declared.unit.PackageBody.{PackageBody}
use Rattle.ada_syntax.specs.declared.unit.PackageSpecification.{PackageSpecification}
use Rattle.ada_syntax.specs.declared.unit.SubprogramBody.{SubprogramBody}
use Rattle.ada_syntax.specs.declared.unit.Unit.{Unit as LibraryUnit}
use Rattle.ada_rules.specs.Plan.{Plan, ◌>>=◌, rule}
use Rattle.ada_rules.specs.Types.{type_in, range_in, fits}
use Rattle.ada_rules.specs.Entities.{key, Entity, hidden, formal_object, unit, Region, Actual, object_actual, subtype_seen}
use Rattle.ada_rules.specs.Environment.{Step, typed_rule, World, interface_of, State, Given, given, Env}
use Rattle.ada_rules.specs.Denoted.{nowhere}
use Rattle.ada_rules.specs.Expressions.{itself, denoted, judged, static_part}
use Rattle.ada_rules.specs.Declarations.{in_range}
use Rattle.ada_rules.specs.Subprograms.{specified, declared_only, closed_by, body_judged}
use Rattle.ada_rules.specs.Instances.{formals_declared, generic_named, formals_of, actual_for_name, any_actual, actual_plan, any_plan, actuals_judged}
use Rattle.ada_rules.specs.Library.{Library, unit_named, instance_number}
use Rattle.ada_rules.specs.Units.{env_of, generic_at, is_generic_interface, package_items, body_items, Walked, at_unit, behind_unit, formals_in, in_specification, with_package, package_judged, with_instance, instance_judged, with_subprogram, library_routine, library_subprogram, seen_in, interface_judged, interface_at, all_interfaces, region_of, seen_in_body, in_body, package_body, package_body_of, library_body, routine_entity, bodies_judged, all_bodies_judged}
use Rattle.legal_laws.proofs.Passing.{IfPassed, answered, part_so, typed_either, any_answer}
use Rattle.legal_types.specs.TextGenerics as text
use Rattle.legal_types.specs.TextGenerics.{generic_of_item, shown_in, part_in}
use Rattle.legal_counts.specs.Seen.{shown_of}
use Rattle.legal_counts.proofs.ExceptionNames.{body_exceptions, package_items_exceptions, body_items_exceptions}
use Rattle.legal_counts.proofs.ExceptionDeclarations.{declared_in, AddsBy, Keeps, Adds, keeps_same, Add, name_keeps, keeps_both, Keep, expression_keeps, static_keeps, mapped_keeps, of_keeps, adds_behind}
use Rattle.legal_counts.proofs.ExceptionBodies.{specified_keeps, judged_adds, items_add, body_items_add, formals_keep}

-- actuals
named_actual_keeps : (env : Env) (s : State) (n : ℕ) (before : List Actual) (f : Entity) (x : source.Name)
    → IfPassed (denoted env s x >>= (λ d. typed_rule env.step (given any_actual d.next) (option_map (λ a. given a d.next) (actual_for_name n before f d.value)))).outcome (Keep s)
named_actual_keeps env s n before f x =
    part_so (Keep s) (Keep s) (denoted env s x).answer
    (λ d. typed_rule env.step (given any_actual d.next) (option_map (λ a. given a d.next) (actual_for_name n before f d.value))) (name_keeps env s x)
    (λ d h. typed_either (Keep s) env.step (given any_actual d.next) _ h (mapped_keeps env s d.next (λ a. a) (actual_for_name n before f d.value) h))

judged_actual_keeps : (env : Env) (s : State) (e : source.Expr)
    → IfPassed (judged env itself s e >>= (λ y. typed_rule env.step (given any_actual y.next) None)).outcome (Keep s)
judged_actual_keeps env s e =
    part_so (Keep s) (Keep s) (judged env itself s e).answer (λ y. typed_rule env.step (given any_actual y.next) None) (expression_keeps env s e)
    (λ y h. typed_either (Keep s) env.step (given any_actual y.next) None h tt)

actual_keeps : (env : Env) (s : State) (n : ℕ) (before : List Actual) (f : Entity) (x : source.Expr) → IfPassed (actual_plan env s n before f x).outcome (Keep s)
actual_keeps env s n before (formal_object t e) x =
    part_so (Keep s) (Keep s) (static_part env s (fits (type_in (subtype_seen n before t))) (in_range (range_in (subtype_seen n before t))) x).answer
    (λ v. rule (Some (given (object_actual v.value.value) v.next)))
    (static_keeps env s (fits (type_in (subtype_seen n before t))) (in_range (range_in (subtype_seen n before t))) x) (λ v h. h)
actual_keeps env s n before f (source.named p x) = named_actual_keeps env s n before f x
actual_keeps env s n before f x = judged_actual_keeps env s x

any_keeps : (env : Env) (s : State) (x : source.Expr) → IfPassed (any_plan env s x).outcome (Keep s)
any_keeps env s (source.named p x) =
    part_so (Keep s) (Keep s) (denoted env s x).answer (λ d. rule (Some (given any_actual d.next))) (name_keeps env s x) (λ d h. h)
any_keeps env s x =
    part_so (Keep s) (Keep s) (judged env itself s x).answer (λ y. rule (Some (given any_actual y.next))) (expression_keeps env s x) (λ y h. h)

pub actuals_keep : (env : Env) (s : State) (p : Pos) (n : ℕ) (before : List Actual) (fs : Region) (xs : List source.Expr)
    → IfOk (actuals_judged env s p n before fs xs).answer (Keep s)
actuals_keep env s p n before [] [] = keeps_same s
actuals_keep env s p n before (f ∷ fs) [] =
    answered (Keep s) p _ (typed_either (Keep s) env.step (given before s) None (keeps_same s) tt)
actuals_keep env s p n before [] (x ∷ xs) =
    answered (Keep s) p _
    (part_so (Keep s) (Keep s) _ (λ a. actuals_judged env a.next p n before [] xs >>= (λ rest. typed_rule env.step rest None))
    (answered (Keep s) (expr_pos x) (any_plan env s x).outcome (any_keeps env s x))
    (λ a h. part_so (Keep a.next) (Keep s) (actuals_judged env a.next p n before [] xs).answer (λ rest. typed_rule env.step rest None)
    (actuals_keep env a.next p n before [] xs)
    (λ rest k. let all = keeps_both s a.next rest.next h k in typed_either (Keep s) env.step rest None all tt)))
actuals_keep env s p n before (f ∷ fs) (x ∷ xs) =
    answered (Keep s) p _
    (part_so (Keep s) (Keep s) _ (λ a. actuals_judged env a.next p n (before ++ a.value ∷ []) fs xs >>= (λ rest. rule (Some rest)))
    (answered (Keep s) (expr_pos x) (actual_plan env s n before f.1 x).outcome (actual_keeps env s n before f.1 x))
    (λ a h. part_so (Keep a.next) (Keep s) (actuals_judged env a.next p n (before ++ a.value ∷ []) fs xs).answer (λ rest. rule (Some rest))
    (actuals_keep env a.next p n (before ++ a.value ∷ []) fs xs) (λ rest k. keeps_both s a.next rest.next h k)))

-- what other units see of a unit
abbrev Seen : Option ℕ → ℕ → State → Walked → Type 0
Seen o n s x = Adds o n s x.next

abbrev SeenBy : ℕ → (Option ℕ → ℕ) → State → Walked → Type 0
SeenBy n parts s x = AddsBy n parts s x.next

keeps_at_unit : (s : State) → Keeps s (at_unit s)
keeps_at_unit s = record { exceptions = refl }

module _ (env : Env) (s : State) (p : Pos) (n : ℕ) (x : PackageSpecification) where
  abbrev items_in : Given Region → Plan Walked
  items_in formals =
      package_items (in_specification env n x formals.value) formals.next p x.items
      >>= (λ region. closed_by p x.name x.end_name >>= (λ end. rule (Some (with_package env n x formals.value region))))

  abbrev o : Option ℕ
  o = generic_at x.formals n

  package_adds : IfOk (package_judged env s p n x).answer (Seen o (package_items_exceptions x.items) s)
  package_adds =
      let m = package_items_exceptions x.items in
      answered (Seen o m s) p _
      (part_so (Keep (at_unit s)) (Seen o m s) (formals_declared (in_specification env n x []) (at_unit s) p 0 (formals_in x.formals)).answer items_in
      (formals_keep (in_specification env n x []) (at_unit s) p 0 (formals_in x.formals))
      (λ formals h. part_so (Add o m formals.next) (Seen o m s) (package_items (in_specification env n x formals.value) formals.next p x.items).answer
      (λ region. closed_by p x.name x.end_name >>= (λ end. rule (Some (with_package env n x formals.value region))))
      (items_add (in_specification env n x formals.value) formals.next p x.items)
      (λ region k. part_so (λ u. Unit {0}) (Seen o m s) (closed_by p x.name x.end_name).answer
      (λ end. rule (Some (with_package env n x formals.value region))) (any_answer (closed_by p x.name x.end_name).answer)
      (λ end u. let all = adds_behind o m s (at_unit s) region.next (keeps_at_unit s) (adds_behind o m (at_unit s) formals.next region.next h k) in
      record { most = all.most; each = all.each }))))

instance_adds : (env : Env) (s : State) (p : Pos) (n k : ℕ) (i : Instance) → IfOk (instance_judged env s p n k i).answer (Seen None 0 s)
instance_adds env s p n k i =
    answered (Seen None 0 s) p _
    (part_so (λ g. Unit {0}) (Seen None 0 s) (generic_named env i.generic_name).answer
    (λ g. actuals_judged env (at_unit s) p k [] (formals_of env.world g) i.actuals
    >>= (λ actuals. rule (Some (with_instance env.world p n k i g actuals.value actuals.next))))
    (any_answer (generic_named env i.generic_name).answer)
    (λ g u. part_so (Keep (at_unit s)) (Seen None 0 s) (actuals_judged env (at_unit s) p k [] (formals_of env.world g) i.actuals).answer
    (λ actuals. rule (Some (with_instance env.world p n k i g actuals.value actuals.next)))
    (actuals_keep env (at_unit s) p k [] (formals_of env.world g) i.actuals)
    (λ actuals h. let all = of_keeps None 0 s actuals.next (keeps_both s (at_unit s) actuals.next (keeps_at_unit s) h) in record { most = all.most; each = all.each })))

library_adds : (env : Env) (s : State) (n : ℕ) (b : SubprogramBody) → IfOk (library_subprogram env s n b).answer (Seen None 0 s)
library_adds env s n b =
    answered (Seen None 0 s) b.specification.pos _
    (part_so (Keep (at_unit s)) (Seen None 0 s) (specified env (at_unit s) b.specification).answer
    (λ q. rule (Some (with_subprogram env.world n (library_routine env b q.value) (declared_only s q.next))))
    (specified_keeps env (at_unit s) b.specification)
    (λ q h. let all = of_keeps None 0 s q.next (keeps_both s (at_unit s) q.next (keeps_at_unit s) h) in record { most = all.most; each = all.each }))

-- the names of exceptions in what other units see of a unit, and in its bodies
abbrev pub seen_exceptions : LibraryItem → ℕ
seen_exceptions (library.Package x) = package_items_exceptions x.items
seen_exceptions i = 0

abbrev pub seen_exceptions_of : Option LibraryUnit → ℕ
seen_exceptions_of None = 0
seen_exceptions_of (Some u) = seen_exceptions u.item

abbrev pub seen_exceptions_at : Library → List ℕ → ℕ
seen_exceptions_at l [] = 0
seen_exceptions_at l (n ∷ ns) = seen_exceptions_of (slice_get l.units n) + seen_exceptions_at l ns

-- by the generics
abbrev pub shown_at : Option ℕ → Library → ℕ → ℕ
shown_at g l n = part_in g (shown_of n (slice_get l.units n)) (seen_exceptions_of (slice_get l.units n))

abbrev pub shown_exceptions_at : Library → List ℕ → Option ℕ → ℕ
shown_exceptions_at l [] g = 0
shown_exceptions_at l (n ∷ ns) g = shown_at g l n + shown_exceptions_at l ns g

abbrev pub inner_exceptions : LibraryItem → ℕ
inner_exceptions (library.PackageBody b) = body_items_exceptions b.items
inner_exceptions (library.Subprogram b) = body_exceptions b
inner_exceptions i = 0

abbrev pub inner_exceptions_of : List LibraryUnit → ℕ
inner_exceptions_of [] = 0
inner_exceptions_of (u ∷ us) = inner_exceptions u.item + inner_exceptions_of us

abbrev pub inner_exceptions_in : World → Library → List LibraryUnit → Option ℕ → ℕ
inner_exceptions_in w l [] g = 0
inner_exceptions_in w l (u ∷ us) g = part_in g (generic_of_item w l u.item) (inner_exceptions u.item) + inner_exceptions_in w l us g

by_none : (s t : State) → Keeps s t → AddsBy 0 (λ g. 0) s t
by_none s t h = record {
  most = same (length t.exceptions_declared) (length s.exceptions_declared) (ap length h.exceptions);
  each = λ g. same (declared_in g t.exceptions_declared) (declared_in g s.exceptions_declared) (ap (declared_in g) h.exceptions);
}
  where
    same : (a b : ℕ) → a ≡ b → a ≤ 0 + b
    same a b e = omega (arith, e)

one_and : (o : Option ℕ) (m n : ℕ) (parts : Option ℕ → ℕ) (s t u : State) → Adds o m s t → AddsBy n parts t u → AddsBy (m + n) (λ g. part_in g o m + parts g) s u
one_and o m n parts s t u h k = record {
  most = summed m n (length s.exceptions_declared) (length t.exceptions_declared) (length u.exceptions_declared) h.most k.most;
  each = λ g. summed (part_in g o m) (parts g) (declared_in g s.exceptions_declared) (declared_in g t.exceptions_declared) (declared_in g u.exceptions_declared) (h.each g) (k.each g);
}
  where
    summed : (m n a b c : ℕ) → b ≤ m + a → c ≤ n + b → c ≤ (m + n) + a
    summed m n a b c p q = omega (arith, p, q)

module _ (step : Step) (l : Library) where
  interface_adds : (w : World) (s : State) (n : ℕ) (u : LibraryUnit) (i : LibraryItem)
      → IfOk (interface_judged step l w s n u i).answer (Seen (shown_in n i) (seen_exceptions i) s)
  interface_adds w s n u (library.Package x) = package_adds (env_of step w n (key x.name) (seen_in w l u (unit n))) s u.item_pos n x
  interface_adds w s n u (library.Instance i) =
      instance_adds (env_of step w n (key i.name) (seen_in w l u hidden)) s u.item_pos n (instance_number n l.units) i
  interface_adds w s n u (library.Subprogram b) = library_adds (env_of step w n (key b.specification.name) (seen_in w l u hidden)) s n b
  interface_adds w s n u (library.PackageBody b) = of_keeps None 0 s s (keeps_same s)

  interface_at_adds : (x : Walked) (n : ℕ) (o : Option LibraryUnit) → IfOk (interface_at step l x n o).answer (Seen (shown_of n o) (seen_exceptions_of o) x.next)
  interface_at_adds x n None = of_keeps None 0 x.next x.next (keeps_same x.next)
  interface_at_adds x n (Some u) =
      answered (Seen (shown_in n u.item) (seen_exceptions u.item) x.next) u.pos _
      (part_so (Seen (shown_in n u.item) (seen_exceptions u.item) x.next) (Seen (shown_in n u.item) (seen_exceptions u.item) x.next) (interface_judged step l x.world x.next n u u.item).answer
      (λ y. rule (Some y)) (interface_adds x.world x.next n u u.item) (λ y h. h))

  pub interfaces_add : (x : Walked) (ns : List ℕ) → IfOk (all_interfaces step l x ns).answer (SeenBy (seen_exceptions_at l ns) (shown_exceptions_at l ns) x.next)
  interfaces_add x [] = by_none x.next x.next (keeps_same x.next)
  interfaces_add x (n ∷ ns) =
      let m = seen_exceptions_of (slice_get l.units n) in
      let o = shown_of n (slice_get l.units n) in
      let all = seen_exceptions_at l (n ∷ ns) in
      let parts = shown_exceptions_at l (n ∷ ns) in
      answered (SeenBy all parts x.next) nowhere _
      (part_so (Seen o m x.next) (SeenBy all parts x.next) (interface_at step l x n (slice_get l.units n)).answer
      (λ y. all_interfaces step l y ns >>= (λ rest. rule (Some rest)))
      (interface_at_adds x n (slice_get l.units n))
      (λ y h. part_so (SeenBy (seen_exceptions_at l ns) (shown_exceptions_at l ns) y.next) (SeenBy all parts x.next) (all_interfaces step l y ns).answer (λ rest. rule (Some rest))
      (interfaces_add y ns)
      (λ rest k. one_and o m (seen_exceptions_at l ns) (shown_exceptions_at l ns) x.next y.next rest.next h k)))

  -- bodies
  package_body_adds : (env : Env) (s : State) (p : Pos) (n : ℕ) (b : PackageBody)
      → IfOk (package_body env s p n b).answer (Adds (is_generic_interface (interface_of env.world n) n) (body_items_exceptions b.items) s)
  package_body_adds env s p n b =
      let m = body_items_exceptions b.items in
      answered (Adds (is_generic_interface (interface_of env.world n) n) m s) p _
      (part_so (Add (is_generic_interface (interface_of env.world n) n) m (at_unit s)) (Adds (is_generic_interface (interface_of env.world n) n) m s)
      (body_items (in_body env n (interface_of env.world n) (region_of (interface_of env.world n))) (at_unit s) p b.items).answer
      (λ region. closed_by p b.name b.end_name >>= (λ end. rule (Some (behind_unit (in_body env n (interface_of env.world n) []) n region.next))))
      (body_items_add (in_body env n (interface_of env.world n) (region_of (interface_of env.world n))) (at_unit s) p b.items)
      (λ region h. part_so (λ u. Unit {0}) (Adds (is_generic_interface (interface_of env.world n) n) m s) (closed_by p b.name b.end_name).answer
      (λ end. rule (Some (behind_unit (in_body env n (interface_of env.world n) []) n region.next)))
      (any_answer (closed_by p b.name b.end_name).answer)
      (λ end u. let all = adds_behind (is_generic_interface (interface_of env.world n) n) m s (at_unit s) region.next (keeps_at_unit s) h in record { most = all.most; each = all.each })))

  body_of_adds : (w : World) (s : State) (m : ℕ) (u : LibraryUnit) (b : PackageBody) (o : Option ℕ)
      → IfOk (package_body_of step l w s m u b o).answer (Adds (text.generic_at w o) (body_items_exceptions b.items) s)
  body_of_adds w s m u b None = of_keeps None (body_items_exceptions b.items) s s (keeps_same s)
  body_of_adds w s m u b (Some n) = package_body_adds (env_of step w m (key b.name) (seen_in_body w l n u)) s u.item_pos n b

  library_body_adds : (env : Env) (s : State) (b : SubprogramBody) → IfOk (library_body env s b).answer (Adds env.generic (body_exceptions b) s)
  library_body_adds env s b =
      answered (Adds env.generic (body_exceptions b) s) b.specification.pos _
      (part_so (Keep (at_unit s)) (Adds env.generic (body_exceptions b) s) (specified (record env { is_library = false }) (at_unit s) b.specification).answer
      (λ q. body_judged (record env { is_library = false }) s b [] [] q >>= (λ next. rule (Some next)))
      (specified_keeps (record env { is_library = false }) (at_unit s) b.specification)
      (λ q h. part_so (Adds env.generic (body_exceptions b) s) (Adds env.generic (body_exceptions b) s) (body_judged (record env { is_library = false }) s b [] [] q).answer (λ next. rule (Some next))
      (judged_adds (record env { is_library = false }) s b [] [] q (keeps_both s (at_unit s) q.next (keeps_at_unit s) h)) (λ next k. k)))

  pub bodies_add : (w : World) (s : State) (n : ℕ) (u : LibraryUnit) (i : LibraryItem)
      → IfOk (bodies_judged step l w s n u i).answer (Adds (generic_of_item w l i) (inner_exceptions i) s)
  bodies_add w s n u (library.PackageBody b) = body_of_adds w s n u b (unit_named l.names (key b.name))
  bodies_add w s n u (library.Subprogram b) =
      library_body_adds (env_of step w n (key b.specification.name) (seen_in w l u (routine_entity (interface_of w n)))) s b
  bodies_add w s n u (library.Package x) = of_keeps None 0 s s (keeps_same s)
  bodies_add w s n u (library.Instance i) = of_keeps None 0 s s (keeps_same s)

  pub all_bodies_add : (w : World) (s : State) (n : ℕ) (us : List LibraryUnit)
      → IfOk (all_bodies_judged step l w s n us).answer (AddsBy (inner_exceptions_of us) (inner_exceptions_in w l us) s)
  all_bodies_add w s n [] = by_none s s (keeps_same s)
  all_bodies_add w s n (u ∷ us) =
      let m = inner_exceptions u.item in
      let o = generic_of_item w l u.item in
      let all = m + inner_exceptions_of us in
      let parts = inner_exceptions_in w l (u ∷ us) in
      answered (AddsBy all parts s) nowhere _
      (part_so (Adds o m s) (AddsBy all parts s) _
      (λ x. all_bodies_judged step l w x (n + 1) us >>= (λ rest. rule (Some rest)))
      (answered (Adds o m s) u.pos _
      (part_so (Adds o m s) (Adds o m s) (bodies_judged step l w s n u u.item).answer
      (λ y. rule (Some y)) (bodies_add w s n u u.item) (λ y k. k)))
      (λ x k. part_so (AddsBy (inner_exceptions_of us) (inner_exceptions_in w l us) x) (AddsBy all parts s) (all_bodies_judged step l w x (n + 1) us).answer
      (λ rest. rule (Some rest)) (all_bodies_add w x (n + 1) us)
      (λ rest r. one_and o m (inner_exceptions_of us) (inner_exceptions_in w l us) s x rest k r)))
