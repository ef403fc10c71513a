-- Files that say the same of an object's runs, however these are grouped.
use Rattle.std.specs.Prelude.{◌↔◌, ℕ, List}
use Rattle.cov_base.specs.declared.event.Event.{Event}
use Rattle.cov_base.specs.Lists.{Somewhere}
use Rattle.commands.specs.Content.{Shows, Counts}
use Rattle.object_format.specs.declared.object.Object.{Object}

-- both show the same events, and are of the same runs
pub record TellSame (o : Object) (files others : List (List ℕ)) : Type 0 where
  pub events : (e : Event) → Somewhere (λ bytes. Shows o bytes e) files ↔ Somewhere (λ bytes. Shows o bytes e) others
  pub runs : (digest : List ℕ) → Somewhere (Counts digest) files ↔ Somewhere (Counts digest) others
