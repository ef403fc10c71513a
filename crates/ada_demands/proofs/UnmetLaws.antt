-- The demands that are asked next, from what was asked so far.
use Rattle.std.proofs.Common.{◌≡◌, ℕ, Bool, true, false, ◌&&◌, List, [], ◌∷◌, ◌++◌, map, reverse, nat_eq, if◌then◌else◌, Option, Some, None, refl, sym, ap, ◌∙◌}
use Rattle.std.specs.List.{list_all}
use Rattle.std.specs.Option.{option_or}
use Rattle.std.proofs.lemmas.List.{map_push}
use mathlib.Core.List.{reverse-cons}
use Rattle.cov_base.specs.declared.position.Pos.{Pos}
use Rattle.ada_rules.specs.Statics as rules
use Rattle.ada_rules.specs.Statics.{Facts, Made, asked, instantiated, stands_in, made_of, looked_in, holds, failing, failing_in, unmet_behind, first_unmet}
use Rattle.ada_judged.specs.ada_entities.specs.EntityViews.{Tables}
use Rattle.ada_demands.specs.declared.demand.Demand.{Demand}
use Rattle.ada_demands.specs.declared.demand.Asked.{Asked}
use Rattle.ada_demands.specs.declared.demand.Asked.TheVariants as ask
use Rattle.ada_demands.specs.DemandViews.{demand_of, asked_of}
use Rattle.ada_demands.specs.Meeting.{failing_of}
use Rattle.ada_demands.specs.Past.{Past, nothing, with_demand, with_instance, past_behind, asked_in, unmet_next}
use Rattle.ada_demands.specs.declared.spans.ListedSpans.{ListedSpans}
use Rattle.ada_demands.specs.SpanViews.{Begins}

abbrev pub place_unless : Bool → Pos → Option Pos
place_unless true p = None
place_unless false p = Some p

-- a demand fails where it does not hold in all of its instances
pub failing_unless : (instances : List Facts) (ns : List ℕ) (d : rules.Demand)
    → failing instances ns d ≡ place_unless (list_all (λ n. holds instances n d.test) ns) d.place
failing_unless instances [] d = refl
failing_unless instances (n ∷ ns) d = one (holds instances n d.test) (failing instances ns d) (list_all (λ n. holds instances n d.test) ns) d.place (failing_unless instances ns d)
  where
    one : (h : Bool) (o : Option Pos) (b : Bool) (p : Pos) → o ≡ place_unless b p → (if h then o else Some p) ≡ place_unless (h && b) p
    one true o b p e = e
    one false o b p e = refl

-- whatever the order of the instances
all_push : {A : Type 0} (f : A → Bool) (xs : List A) (x : A) → list_all f (xs ++ x ∷ []) ≡ (f x && list_all f xs)
all_push f [] x = refl
all_push f (y ∷ xs) x = ap (λ b. f y && b) (all_push f xs x) ∙ exchanged (f y) (f x) (list_all f xs)
  where
    exchanged : (a b c : Bool) → (a && (b && c)) ≡ (b && (a && c))
    exchanged true b c = refl
    exchanged false true c = refl
    exchanged false false c = refl

all_reversed : {A : Type 0} (f : A → Bool) (xs : List A) → list_all f (reverse xs) ≡ list_all f xs
all_reversed f [] = refl
all_reversed f (x ∷ xs) = ap (list_all f) (reverse-cons x xs) ∙ (all_push f (reverse xs) x ∙ ap (λ b. f x && b) (all_reversed f xs))

failing_reversed : (instances : List Facts) (ns : List ℕ) (d : rules.Demand) → failing instances (reverse ns) d ≡ failing instances ns d
failing_reversed instances ns d =
    failing_unless instances (reverse ns) d
    ∙ (ap (λ b. place_unless b d.place) (all_reversed (λ n. holds instances n d.test) ns) ∙ sym (failing_unless instances ns d))

-- the demands of a generic's text among these
abbrev pub those_of : ℕ → List Demand → List Demand
those_of g [] = []
those_of g (d ∷ ds) = if stands_in (Some g) d.generic then d ∷ those_of g ds else those_of g ds

those_push : (g : ℕ) (ds : List Demand) (d : Demand)
    → those_of g (ds ++ d ∷ []) ≡ (if stands_in (Some g) d.generic then those_of g ds ++ d ∷ [] else those_of g ds)
those_push g [] d = refl
those_push g (x ∷ ds) d = more (stands_in (Some g) x.generic) (stands_in (Some g) d.generic) (those_of g (ds ++ d ∷ [])) (those_of g ds) (those_push g ds d)
  where
    more : (b c : Bool) (whole part : List Demand) → whole ≡ (if c then part ++ d ∷ [] else part)
        → (if b then x ∷ whole else whole) ≡ (if c then (if b then x ∷ part else part) ++ d ∷ [] else (if b then x ∷ part else part))
    more true true whole part e = ap (λ l. x ∷ l) e
    more true false whole part e = ap (λ l. x ∷ l) e
    more false true whole part e = e
    more false false whole part e = e

failing_those : (instances : List Facts) (k : Tables) (g n : ℕ) (ds : List Demand)
    → failing_of instances n (map (demand_of k) (those_of g ds)) ≡ failing_in instances g n (map (demand_of k) ds)
failing_those instances k g n [] = refl
failing_those instances k g n (d ∷ ds) = one (stands_in (Some g) d.generic) (failing_those instances k g n ds)
  where
    one : (b : Bool) → failing_of instances n (map (demand_of k) (those_of g ds)) ≡ failing_in instances g n (map (demand_of k) ds)
        → failing_of instances n (map (demand_of k) (if b then d ∷ those_of g ds else those_of g ds))
        ≡ option_or (if b then failing instances (n ∷ []) (demand_of k d) else None) (failing_in instances g n (map (demand_of k) ds))
    one true e = ap (option_or (failing instances (n ∷ []) (demand_of k d))) e
    one false e = e

-- What is known of what was asked so far, where this is left of all that is asked: the demands and the instances that came,
-- and that what is left behind them is the whole.
pub record Seen (instances : List Facts) (spans : List ListedSpans) (all left : List Asked) (past : ℕ → Past) : Type 0 where
  pub before : List Demand
  pub made : List Made
  pub demands : (g : ℕ) → (past g).demands ≡ those_of g before
  pub instances_of : (g : ℕ) → (past g).instances ≡ reverse (made_of g made)
  pub rest : (k : Tables) → Begins spans k
      → unmet_behind instances (map (demand_of k) before) made (map (asked_of k) left) ≡ first_unmet instances (map (asked_of k) all)

-- with what comes next
abbrev next_before : List Demand → Asked → List Demand
next_before before (ask.Demand d) = before ++ d ∷ []
next_before before (ask.Instantiated m) = before

abbrev next_made : List Made → Asked → List Made
next_made made (ask.Demand d) = made
next_made made (ask.Instantiated m) = record { generic = m.generic; instance = m.instance } ∷ made

demands_behind : (x : Asked) (g : ℕ) (p : Past) (before : List Demand) → p.demands ≡ those_of g before
    → (past_behind x g p).demands ≡ those_of g (next_before before x)
demands_behind (ask.Demand d) g p before e = one (stands_in (Some g) d.generic) ∙ sym (those_push g before d)
  where
    one : (b : Bool) → (if b then with_demand d p else p).demands ≡ (if b then those_of g before ++ d ∷ [] else those_of g before)
    one true = ap (λ ds. ds ++ d ∷ []) e
    one false = e
demands_behind (ask.Instantiated m) g p before e = one (nat_eq m.generic g) ∙ e
  where
    one : (b : Bool) → (if b then with_instance m.instance p else p).demands ≡ p.demands
    one true = refl
    one false = refl

instances_behind : (x : Asked) (g : ℕ) (p : Past) (made : List Made) → p.instances ≡ reverse (made_of g made)
    → (past_behind x g p).instances ≡ reverse (made_of g (next_made made x))
instances_behind (ask.Demand d) g p made e = one (stands_in (Some g) d.generic) ∙ e
  where
    one : (b : Bool) → (if b then with_demand d p else p).instances ≡ p.instances
    one true = refl
    one false = refl
instances_behind (ask.Instantiated m) g p made e = one (nat_eq m.generic g)
  where
    one : (b : Bool) → (if b then with_instance m.instance p else p).instances ≡ reverse (if b then m.instance ∷ made_of g made else made_of g made)
    one true = ap (λ ns. ns ++ m.instance ∷ []) e ∙ sym (reverse-cons m.instance (made_of g made))
    one false = e

module _ (instances : List Facts) (spans : List ListedSpans) (all : List Asked) where
  pub nothing_seen : (past : ℕ → Past) → ((g : ℕ) → past g ≡ nothing) → Seen instances spans all all past
  nothing_seen past empty = record {
    before = [];
    made = [];
    demands = λ g. ap (λ p. p.demands) (empty g);
    instances_of = λ g. ap (λ p. p.instances) (empty g);
    rest = λ k b. refl;
  }

  -- what the rules ask of what comes next
  abbrev next_asked : Tables → List Demand → List Made → Asked → Option Pos
  next_asked k before made (ask.Demand d) = failing instances (looked_in made d.generic) (demand_of k d)
  next_asked k before made (ask.Instantiated m) = failing_in instances m.generic m.instance (map (demand_of k) before)

  in_instances : (past : ℕ → Past) (made : List Made) → ((g : ℕ) → (past g).instances ≡ reverse (made_of g made)) → (generic : Option ℕ) (d : rules.Demand)
      → failing instances (asked_in past generic) d ≡ failing instances (looked_in made generic) d
  in_instances past made h None d = refl
  in_instances past made h (Some g) d = ap (λ ns. failing instances ns d) (h g) ∙ failing_reversed instances (made_of g made) d

  next_is : (left : List Asked) (past : ℕ → Past) (seen : Seen instances spans all left past) (k : Tables) (x : Asked)
      → unmet_next instances k past x ≡ next_asked k seen.before seen.made x
  next_is left past seen k (ask.Demand d) = in_instances past seen.made seen.instances_of d.generic (demand_of k d)
  next_is left past seen k (ask.Instantiated m) =
      ap (λ ds. failing_of instances m.instance (map (demand_of k) ds)) (seen.demands m.generic)
      ∙ failing_those instances k m.generic m.instance seen.before

  -- what is left, behind what comes next
  abbrev behind_next : Tables → List Demand → List Made → Asked → List Asked → Option Pos
  behind_next k before made x left =
      unmet_behind instances (map (demand_of k) (next_before before x)) (next_made made x) (map (asked_of k) left)

  next_first : (k : Tables) (before : List Demand) (made : List Made) (x : Asked) (left : List Asked)
      → unmet_behind instances (map (demand_of k) before) made (map (asked_of k) (x ∷ left))
      ≡ option_or (next_asked k before made x) (behind_next k before made x left)
  next_first k before made (ask.Demand d) left =
      ap (λ ds. option_or (failing instances (looked_in made d.generic) (demand_of k d)) (unmet_behind instances ds made (map (asked_of k) left)))
      (sym (map_push (demand_of k) before d))
  next_first k before made (ask.Instantiated m) left = refl

  whole_is : (left : List Asked) (past : ℕ → Past) (x : Asked) (seen : Seen instances spans all (x ∷ left) past) (k : Tables) → Begins spans k → (o : Option Pos)
      → o ≡ unmet_next instances k past x
      → option_or o (behind_next k seen.before seen.made x left) ≡ first_unmet instances (map (asked_of k) all)
  whole_is left past x seen k b o e =
      ap (λ p. option_or p (behind_next k seen.before seen.made x left)) (e ∙ next_is (x ∷ left) past seen k x)
      ∙ (sym (next_first k seen.before seen.made x left) ∙ seen.rest k b)

  pub seen_more : (left : List Asked) (past grown : ℕ → Past) (x : Asked) → Seen instances spans all (x ∷ left) past
      → ((g : ℕ) → grown g ≡ past_behind x g (past g)) → ((k : Tables) → Begins spans k → None ≡ unmet_next instances k past x)
      → Seen instances spans all left grown
  seen_more left past grown x seen more met = record {
    before = next_before seen.before x;
    made = next_made seen.made x;
    demands = λ g. ap (λ p. p.demands) (more g) ∙ demands_behind x g (past g) seen.before (seen.demands g);
    instances_of = λ g. ap (λ p. p.instances) (more g) ∙ instances_behind x g (past g) seen.made (seen.instances_of g);
    rest = λ k b. whole_is left past x seen k b None (met k b);
  }

  pub seen_unmet : (left : List Asked) (past : ℕ → Past) (x : Asked) (p : Pos) → Seen instances spans all (x ∷ left) past
      → (k : Tables) → Begins spans k → Some p ≡ unmet_next instances k past x → Some p ≡ first_unmet instances (map (asked_of k) all)
  seen_unmet left past x p seen k b e = whole_is left past x seen k b (Some p) e
