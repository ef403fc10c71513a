-- Walks that go on, one behind the other, and refusals after a change.
use Rattle.std.proofs.Common.{◌≡◌, Result, Ok, Err, refl, ◌∙◌, subst}
use Rattle.cov_base.specs.declared.position.Pos.{Pos}
use Rattle.cov_base.specs.declared.failure.Failure.{Failure}
use Rattle.cov_base.specs.declared.failure.Failure.TheVariants.{Fault, WantOfMemory}
use Rattle.ada_rules.specs.Entities.{Region}
use Rattle.ada_rules.specs.Environment.{Env, with_local}
use Rattle.ada_entities.specs.declared.fault.Refusal.{Refusal}
use Rattle.ada_entities.specs.Answers.{Refuses, no_memory, Answers}
use Rattle.ada_entities.specs.EntityViews.{Tables}
use Rattle.ada_demands.specs.SpanViews as spans
use Rattle.ada_demands.specs.SpanViews.{listed}
use Rattle.program_walk.specs.Changes.{IsOpen, ChangesInside}
use Rattle.program_walk.proofs.HideLaws.{then_inside}
use Rattle.program_walk.proofs.PlaceLaws.{local_is}
use Rattle.program_walk.specs.declared.context.Context.{Context}
use Rattle.program_walk.specs.declared.walk.Walk.{Walk}
use Rattle.program_walk.specs.Walks.{Begins, Continues, StandsAt}
use Rattle.program_walk.proofs.Following.{changed_inside}
use Rattle.program_walk.proofs.InsideLaws.{grows_inside, grows_itself}
use Rattle.program_walk.specs.Contexts.{IsIn}
use Rattle.program_walk.specs.Going.{region_in, GoesInside, Keeps, Stays, GoesOn, KeepsOn}

-- what goes on goes on from before
pub inside_continues : (old new : Walk) → GoesInside old new → Continues old new
inside_continues old new g k b = record {
  symbols = g.symbols.begins k b.symbols;
  spans = subst (λ s. spans.Begins (listed s) k) g.spans b.spans;
}

pub keeps_continues : (old new : Walk) → Keeps old new → Continues old new
keeps_continues old new g k b = record {
  symbols = g.symbols.begins k b.symbols;
  spans = subst (λ s. spans.Begins (listed s) k) g.spans b.spans;
}

pub stays_behind : (old middle new : Walk) (f : Failure Refusal) → Continues old middle → Stays middle new f → Stays old new f
stays_behind old middle new (Fault x) a s = λ k b. a k (s k b)
stays_behind old middle new WantOfMemory a s = tt

pub then_goes : (old middle new : Walk) → GoesInside old middle → GoesInside middle new → GoesInside old new
then_goes old middle new a b = record {
  symbols = then_inside old.symbols middle.symbols new.symbols a.symbols b.symbols;
  spans = b.spans ∙ a.spans;
}

-- what is refused after a change is refused
pub refused_behind : {A : Type 0} (old new : Walk) (k : Tables) (f : Failure Refusal) (r : Result A Pos) → Stays old new f → Begins new k
    → (Begins old k → Refuses r f) → Refuses r f
refused_behind old new k (Fault x) r s b h = h (s k b)
refused_behind old new k WantOfMemory r s b h = no_memory

pub answers_behind_change : {A B : Type 0} (view : A → B) (old new : Walk) (k : Tables) (r : Result B Pos) (o : Result A (Failure Refusal))
    → GoesOn old new o → Begins new k → (Begins old k → Answers view r o) → Answers view r o
answers_behind_change view old new k r (Ok x) g b h = h (inside_continues old new g k b)
answers_behind_change view old new k r (Err f) g b h = refused_behind old new k f r g b h

pub then_goes_on : {A : Type 0} (old middle new : Walk) (o : Result A (Failure Refusal)) → GoesInside old middle → GoesOn middle new o → GoesOn old new o
then_goes_on old middle new (Ok x) a g = then_goes old middle new a g
then_goes_on old middle new (Err f) a g = stays_behind old middle new f (inside_continues old middle a) g

-- no change, and more types
pub keeps_inside : (old new : Walk) → IsOpen old.symbols → Keeps old new → GoesInside old new
keeps_inside old new open_now g = record { symbols = grows_inside old.symbols new.symbols open_now g.symbols; spans = g.spans }

pub keeps_goes : {A : Type 0} (old new : Walk) (r : Result A (Failure Refusal)) → IsOpen old.symbols → KeepsOn old new r → GoesOn old new r
keeps_goes old new (Ok x) open_now g = keeps_inside old new open_now g
keeps_goes old new (Err f) open_now g = g

pub goes_nowhere : (w : Walk) → IsOpen w.symbols → GoesInside w w
goes_nowhere w open_now = record { symbols = grows_inside w.symbols w.symbols open_now (grows_itself w.symbols); spans = refl }

pub is_in_local : (c : Context) (env : Env) (r : Region) → IsIn c (with_local env r) → IsIn c env
is_in_local c env r h = record {
  step = h.step;
  instances = h.instances;
  generic = h.generic;
  unit_number = h.unit_number;
  unit_name = h.unit_name;
  subprogram_name = h.subprogram_name;
  level = h.level;
}

-- notes that change leave what was declared
pub goes_noted : (old middle new : Walk) → middle.symbols ≡ old.symbols → middle.spans ≡ old.spans → GoesInside middle new → GoesInside old new
goes_noted old middle new e f g = record {
  symbols = subst (λ s. ChangesInside s new.symbols) e g.symbols;
  spans = g.spans ∙ f;
}

-- what a declaration stands in
module _ (c : Context) (w : Walk) (k : Tables) (env : Env) (h : StandsAt c w k env) where
  pub is_in : IsIn c env
  is_in = record {
    step = h.symbols.step;
    instances = h.instances;
    generic = h.generic;
    unit_number = h.unit_number;
    unit_name = h.unit_name;
    subprogram_name = h.subprogram_name;
    level = h.level;
  }

  pub region_is : env.local ≡ region_in k w
  region_is = local_is c.step c.own_package w.symbols w.symbols k env h.symbols h.symbols.units.begins

  -- and what it stands in when the innermost region has changed
  pub stands_then : (new : Walk) → GoesInside w new → Begins new k → StandsAt c new k (with_local env (region_in k new))
  stands_then new g b = changed_inside c w new g.symbols k env h b

pub ruleset parts = (no_memory)
