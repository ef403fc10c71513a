-- What stands somewhere stands there by the tables of just what is there too, so that what it comes to is the same in all.
use Rattle.std.proofs.Common.{◌≡◌, ℕ, List, ◌∷◌, [], ◌++◌, Option, None, Some, Result, Ok, Err, sym, ap, ◌∙◌}
use Rattle.std.specs.Borrow.{Bor}
use Rattle.cov_base.specs.declared.position.Pos.{Pos}
use Rattle.ada_tree.specs.View.{owner_of}
use Rattle.ada_rules.specs.Entities as rules
use Rattle.ada_rules.specs.Environment.{State, Given, given, Env}
use Rattle.ada_entities.specs.declared.entity.Entity.{Entity}
use Rattle.ada_entities.specs.declared.entity.RoutineName.{RoutineName}
use Rattle.ada_entities.specs.declared.routines.Routine.{Routine}
use Rattle.ada_entities.specs.TypeTable.{tables}
use Rattle.ada_entities.specs.EntityViews.{Tables, awaits_body, routine_by, awaiting, routine_of}
use Rattle.ada_entities.specs.RegionCode.{regions_of}
use Rattle.ada_entities.specs.RoutineViews.{routine_from}
use Rattle.ada_phrases.specs.declared.decisions.Decisions.{Decisions}
use Rattle.ada_phrases.specs.declared.scope.Step.{Step}
use Rattle.ada_phrases.specs.Answers.{counted}
use Rattle.program_walk.specs.declared.site.Site.{Site}
use Rattle.program_walk.specs.declared.symbols.Symbols.{Symbols}
use Rattle.program_walk.specs.Sites.{HoldsUnits, StandsInText, Holds, StandsAt}
use Rattle.program_walk.specs.Exact.{exact}
use Rattle.program_walk.specs.Alone.{IsAlike, IsRoutineAlike, IsRoutineAlone}
use Rattle.program_walk.proofs.StandingLaws.{known_alike, cut, given_cut, text_same, units_stand, regions_stand}
use Rattle.program_walk.proofs.WalkLaws.{exact_begins}

text_alone : (own : Option ℕ) (k l : Tables) (rs : List (List (List ℕ × Entity))) (env : Env) → regions_of k rs ≡ regions_of l rs
    → StandsInText own rs k env → StandsInText own rs l env
text_alone None k l rs env h t = t
text_alone (Some own) k l rs env h t =
    record { package_number = t.package_number; depth = t.depth; text = t.text ∙ text_same k l rs h }

pub holds_alone : (now : Step) (own : Option ℕ) (symbols : Symbols) (k : Tables) (env : Env) → Holds now own symbols k env
    → Holds now own symbols (exact symbols k.spans) env
holds_alone now own symbols k env h =
    let u = h.units in
    let a = known_alike symbols u.known k u.begins in
    let same = regions_stand now own symbols k env h in
    record {
      units = record {
        known = u.known;
        begins = exact_begins symbols k.spans;
        actuals = cut symbols.extent u.actuals;
        given_types = given_cut symbols.extent (tables symbols.types) k.types u.known.instances a.typed.instances u.actuals u.given_types;
        interfaces = (units_stand now own symbols k env h).interfaces;
        standard = u.standard;
      };
      step = h.step;
      inside = h.inside;
      regions = h.regions ∙ ap (λ rs. rs ++ rules.predefined_region ∷ []) same;
      text = text_alone own k (exact symbols k.spans) symbols.regions env same h.text;
    }

-- one answer of the rules has one value
abbrev value_or : {B : Type 0} → B → Result (Given B) Pos → B
value_or x (Ok g) = g.value
value_or x (Err p) = x

pub same_value : {B : Type 0} (x y : B) (n m : State) (r : Result (Given B) Pos) → r ≡ Ok (given x n) → r ≡ Ok (given y m) → x ≡ y
same_value x y n m r h g = ap (value_or x) (sym h ∙ g)

pub comes_alike : {A B : Type 0} (view : Tables → A → B) (site : Site) (old new : Decisions) (answer : Env → State → Result (Given B) Pos) (x : A)
    → ((k : Tables) (env : Env) (s : State) → StandsAt site k env → answer env (counted old s) ≡ Ok (given (view k x) (counted new s)))
    → (k : Tables) (env : Env) → State → StandsAt site k env → IsAlike (λ l. view l x) site.symbols.now k
comes_alike view site old new answer x h k env s st =
    let e = exact site.symbols.now k.spans in
    let alone = holds_alone site.step site.own_package site.symbols.now k env st in
    same_value (view k x) (view e x) (counted new s) (counted new s) (answer env (counted old s)) (h k env s st) (h e env s alone)

-- the subprogram that a name leads to, by what there is alone
pub routine_alone : (symbols : Symbols) (k : Tables) (r : RoutineName) (o : Option (Bor Routine)) → IsRoutineAlike r symbols k
    → IsRoutineAlone symbols r.number o
    → routine_of k r
    ≡ awaiting (awaits_body r.completion) (routine_by (exact symbols k.spans) (owner_of r.seen) (routine_from (exact symbols k.spans) o))
routine_alone symbols k r o alike alone =
    alike ∙ ap (λ x. awaiting (awaits_body r.completion) (routine_by (exact symbols k.spans) (owner_of r.seen) x)) (alone k.spans)
