-- What constructs leave as it was, whatever the step: where no limit is passed behind them, none was passed before them; and where they stand
-- not among declarations of the library level, its objects stay what they were.
use Rattle.std.proofs.Common.{◌≡◌, Bool, true, false, List, [], ◌∷◌, refl, sym, ◌∙◌}
use Rattle.cov_base.specs.declared.position.Pos.{Pos}
use Rattle.ada_rules.specs.Environment.{State, exceeded}

pub record IsKept (library : Bool) (s t : State) : Type 0 where
  pub few : t.excesses ≡ [] → s.excesses ≡ []
  pub objects : library ≡ false → t.objects_declared ≡ s.objects_declared

pub kept_same : (library : Bool) (s : State) → IsKept library s s
kept_same library s = record { few = λ h. h; objects = λ e. refl }

pub kept_none : (library : Bool) (s t : State) → t.excesses ≡ s.excesses → t.objects_declared ≡ s.objects_declared → IsKept library s t
kept_none library s t e f = record {
  few = λ h. sym e ∙ h;
  objects = λ g. f;
}

pub kept_both : (library : Bool) (s t u : State) → IsKept library s t → IsKept library t u → IsKept library s u
kept_both library s t u h k = record { few = λ e. h.few (k.few e); objects = λ e. k.objects e ∙ h.objects e }

-- what is kept everywhere
pub kept_inside : (library : Bool) (s t : State) → IsKept false s t → IsKept library s t
kept_inside library s t h = record { few = h.few; objects = λ e. h.objects refl }

pub kept_exceeded : (library : Bool) (s : State) (b : Bool) (p : Pos) → IsKept library s (exceeded b p s)
kept_exceeded library s true p = record { few = λ h. absurd (no_place p s.excesses h); objects = λ e. refl }
  where
    no_place : (q : Pos) (ps : List Pos) → (q ∷ ps) ≡ [] → ⊥
    no_place q ps e = cc
kept_exceeded library s false p = kept_same library s
