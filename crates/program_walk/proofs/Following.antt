-- What a construct is looked at in, as the walk goes on.
use Rattle.std.proofs.Common.{◌≡◌, ℕ, true, List, Option, None, Some, refl, subst, sym}
use Rattle.ada_rules.specs.Environment.{opened, with_local, in_loop, in_handler, Env}
use Rattle.ada_entities.specs.declared.entity.Entity.{Entity}
use Rattle.ada_entities.specs.EntityViews.{Tables, region_of}
use Rattle.program_walk.specs.Sites.{StandsInText}
use Rattle.program_walk.specs.Changes.{Grows, ChangesInside, Opens, Reopens}
use Rattle.program_walk.proofs.PlaceLaws.{holds_grown, holds_opened, holds_reopened, holds_inside}
use Rattle.program_walk.specs.declared.context.Context.{Context}
use Rattle.program_walk.specs.declared.context.Level.TheVariants as level
use Rattle.program_walk.specs.declared.walk.Walk.{Walk}
use Rattle.program_walk.specs.Walks.{StandsAt, with_innermost, IsInside, Leads}

-- where more is declared elsewhere
pub grown : (c : Context) (old new : Walk) → Grows old.symbols new.symbols → Leads c c old new (λ k env. env)
grown c old new g k env h b = record {
  symbols = holds_grown c.step c.own_package old.symbols new.symbols k env h.symbols b.symbols g;
  spans = b.spans;
  instances = h.instances;
  generic = h.generic;
  library = h.library;
  unit_number = h.unit_number;
  unit_name = h.unit_name;
  subprogram_name = h.subprogram_name;
  level = h.level;
  looping = h.looping;
  handling = h.handling;
  returning = h.returning;
}

-- where a region opens inside
in_region : (c : Context) (old new : Walk) → Opens old.symbols new.symbols
    → Leads c (record c { level = level.Inside }) old new (λ k env. opened env)
in_region c old new g k env h b = record {
  symbols = holds_opened c.step c.own_package old.symbols new.symbols k env h.symbols b.symbols g;
  spans = b.spans;
  instances = h.instances;
  generic = h.generic;
  library = h.library;
  unit_number = h.unit_number;
  unit_name = h.unit_name;
  subprogram_name = h.subprogram_name;
  level = refl;
  looping = h.looping;
  handling = h.handling;
  returning = h.returning;
}

pub opened_inside : (c d : Context) (old new : Walk) → IsInside c d → Opens old.symbols new.symbols → Leads c d old new (λ k env. opened env)
opened_inside c d old new e g = subst (λ x. Leads c x old new (λ k env. opened env)) (sym e) (in_region c old new g)

-- where the innermost region changes
pub changed_inside : (c : Context) (old new : Walk) → ChangesInside old.symbols new.symbols → Leads c c old new (with_innermost new)
changed_inside c old new g k env h b = record {
  symbols = holds_inside c.step c.own_package old.symbols new.symbols k env h.symbols b.symbols g;
  spans = b.spans;
  instances = h.instances;
  generic = h.generic;
  library = h.library;
  unit_number = h.unit_number;
  unit_name = h.unit_name;
  subprogram_name = h.subprogram_name;
  level = h.level;
  looping = h.looping;
  handling = h.handling;
  returning = h.returning;
}

-- where a region opens inside that has declarations already
in_full_region : (c : Context) (old new : Walk) (r : List (List ℕ × Entity)) → Reopens old.symbols new.symbols r
    → Leads c (record c { level = level.Inside }) old new (λ k env. with_local (opened env) (region_of k r))
in_full_region c old new r g k env h b = record {
  symbols = holds_reopened c.step c.own_package old.symbols new.symbols k env h.symbols b.symbols r g;
  spans = b.spans;
  instances = h.instances;
  generic = h.generic;
  library = h.library;
  unit_number = h.unit_number;
  unit_name = h.unit_name;
  subprogram_name = h.subprogram_name;
  level = refl;
  looping = h.looping;
  handling = h.handling;
  returning = h.returning;
}

pub reopened_inside : (c d : Context) (old new : Walk) (r : List (List ℕ × Entity)) → IsInside c d → Reopens old.symbols new.symbols r
    → Leads c d old new (λ k env. with_local (opened env) (region_of k r))
reopened_inside c d old new r e g =
    subst (λ x. Leads c x old new (λ k env. with_local (opened env) (region_of k r))) (sym e) (in_full_region c old new r g)

-- further in: the regions and the text of the package are those of before
text_in_loop : (own : Option ℕ) (rs : List (List (List ℕ × Entity))) (k : Tables) (env : Env) → StandsInText own rs k env
    → StandsInText own rs k (in_loop env)
text_in_loop None rs k env t = t
text_in_loop (Some n) rs k env t = record { package_number = t.package_number; depth = t.depth; text = t.text }

text_in_handler : (own : Option ℕ) (rs : List (List (List ℕ × Entity))) (k : Tables) (env : Env) → StandsInText own rs k env
    → StandsInText own rs k (in_handler env)
text_in_handler None rs k env t = t
text_in_handler (Some n) rs k env t = record { package_number = t.package_number; depth = t.depth; text = t.text }

module _ (c : Context) (w : Walk) (k : Tables) (env : Env) (h : StandsAt c w k env) where
  pub looping : StandsAt (record c { is_looping = true }) w k (in_loop env)
  looping = record {
    symbols = record {
      units = h.symbols.units;
      step = h.symbols.step;
      inside = h.symbols.inside;
      regions = h.symbols.regions;
      text = text_in_loop c.own_package w.symbols.regions k env h.symbols.text;
    };
    spans = h.spans;
    instances = h.instances;
    generic = h.generic;
    library = h.library;
    unit_number = h.unit_number;
    unit_name = h.unit_name;
    subprogram_name = h.subprogram_name;
    level = h.level;
    looping = refl;
    handling = h.handling;
    returning = h.returning;
  }

  pub handling : StandsAt (record c { is_handling = true }) w k (in_handler env)
  handling = record {
    symbols = record {
      units = h.symbols.units;
      step = h.symbols.step;
      inside = h.symbols.inside;
      regions = h.symbols.regions;
      text = text_in_handler c.own_package w.symbols.regions k env h.symbols.text;
    };
    spans = h.spans;
    instances = h.instances;
    generic = h.generic;
    library = h.library;
    unit_number = h.unit_number;
    unit_name = h.unit_name;
    subprogram_name = h.subprogram_name;
    level = h.level;
    looping = h.looping;
    handling = refl;
    returning = h.returning;
  }
