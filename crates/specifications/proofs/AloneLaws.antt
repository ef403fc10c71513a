-- A region that opens for parameters, and closes again.
use Rattle.std.proofs.Common.{◌≡◌, ◌∷◌, ap, ◌∙◌, subst}
use Rattle.std.specs.declared.vec.Vec.{Vec}
use Rattle.std.specs.declared.alloc.Global.{Global}
use Rattle.ada_demands.specs.SpanViews as spans
use Rattle.ada_demands.specs.SpanViews.{listed}
use Rattle.ada_rules.specs.Subprograms.{declared_only}
use Rattle.ada_entities.specs.EntityViews.{Tables}
use Rattle.ada_entities.specs.RegionCode.{innermost, enclosing}
use Rattle.program_walk.specs.declared.symbols.Symbols.{Symbols}
use Rattle.program_walk.specs.Changes.{Becomes, Closes, Grows}
use Rattle.program_walk.specs.declared.found.Word.{Word}
use Rattle.program_walk.specs.declared.walk.Walk.{Walk}
use Rattle.program_walk.specs.States.{state_of}
use Rattle.program_walk.specs.Walks.{Continues}
use Rattle.specifications.specs.EnteringParameters.{Enters}

pub closed_again : (a b c : Symbols) → Becomes a b (innermost b.regions ∷ a.regions) a.units → Closes b c → Grows a c
closed_again a b c enters closes = record {
  known = λ h. closes.known (enters.known h);
  stays = λ h k l alike. enters.stays h k l (closes.stays (enters.known h) k l alike);
  begins = λ k h. enters.begins k (closes.begins k h);
  regions = closes.regions ∙ ap enclosing enters.regions;
  units = closes.units ∙ enters.units;
}

-- the walk with other objects of the subprogram
abbrev pub emptied_walk : Walk → Vec Word Global → Walk
emptied_walk w words = record w { found = record w.found { words = words } }

pub emptied_continues : (w : Walk) (words : Vec Word Global) → Continues w (emptied_walk w words)
emptied_continues w words k b = record { symbols = b.symbols; spans = b.spans }

pub enters_continues : (old new : Walk) → Enters old new → Continues old new
enters_continues old new g k b = record {
  symbols = g.symbols.begins k b.symbols;
  spans = subst (λ s. spans.Begins (listed s) k) g.spans b.spans;
}

-- the objects of a subprogram are those of before again
pub restored : (k : Tables) (w second : Walk) (s : Symbols) (words : Vec Word Global) → words ≡ w.found.words
    → state_of k (record second { symbols = s; counts = record second.counts { objects = w.counts.objects }; found = record second.found { words = words } })
    ≡ declared_only (state_of k w) (state_of k second)
restored k w second s words e =
    ap (λ (v : Vec Word Global). state_of k (record second {
      symbols = s;
      counts = record second.counts { objects = w.counts.objects };
      found = record second.found { words = v };
    })) e
