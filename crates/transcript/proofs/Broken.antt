-- Where a replay breaks.
use Rattle.std.proofs.Common.{◌≡◌, ℕ, ◌⊎◌, inl, inr, ⊎_elim, ◌↔◌, List, [], ◌∷◌, ◌++◌, length, Option, Some, None, refl, sym, ap, subst, ◌∙◌, arith}
use Rattle.cov_base.specs.Path.{Step}
use Rattle.transcript.specs.Facts.{Facts}
use Rattle.transcript.specs.Visit.{Visit, steps, onto}
use Rattle.transcript.specs.Reading.{Follows, AllFollow}
use Rattle.transcript.specs.Computed.{path_to, done_of}
use Rattle.transcript.specs.Replay.{Keeps, nothing_kept, replay, BreaksAt}
use Rattle.transcript.proofs.Orderly.{Orderly, orderly_none, orderly_more, path_there}
use Rattle.transcript.proofs.Replays.{reached_follows, replay_is, breaks_there}

pub keeps_none : (o : Facts) → Keeps o nothing_kept []
keeps_none o k = refl

-- whether a visit follows is decided
pub follows_or_not : (o : Facts) (past : List Visit) (v : Visit) → Orderly o past → Follows o past v ⊎ (Follows o past v → ⊥)
follows_or_not o past v orderly = by_path (path_to (o.graph v.key.decision) (steps v.key past) v.step.at_node) refl
  where
    by_path : (found : Option (List Step)) → path_to (o.graph v.key.decision) (steps v.key past) v.step.at_node ≡ found → Follows o past v ⊎ (Follows o past v → ⊥)
    by_path (Some path) is = inl (reached_follows o past v path is)
    by_path None is = inr (λ follows.
        let reached = path_there (o.graph v.key.decision) (steps v.key past) v.step.at_node (orderly v.key) follows in
        let off : Some reached.path ≡ None = sym reached.is ∙ is in absurd (cc off))

-- one of these visits is the first that does not follow
record Breaks (o : Facts) (past vs : List Visit) : Type 0 where
  pub earlier : List Visit
  pub visit : Visit
  pub later : List Visit
  pub whole : vs ≡ earlier ++ (visit ∷ later)
  pub follow : AllFollow o past earlier
  pub off : Follows o (onto earlier past) visit → ⊥

follow_or_break : (o : Facts) (vs past : List Visit) → Orderly o past → AllFollow o past vs ⊎ Breaks o past vs
follow_or_break o [] past orderly = inl tt
follow_or_break o (v ∷ vs) past orderly =
    ⊎_elim (λ follows. onward follows (follow_or_break o vs (v ∷ past) (orderly_more o past v orderly follows)))
    (λ off. inr (record { earlier = []; visit = v; later = vs; whole = refl; follow = tt; off = off })) (follows_or_not o past v orderly)
  where
    onward : Follows o past v → AllFollow o (v ∷ past) vs ⊎ Breaks o (v ∷ past) vs → AllFollow o past (v ∷ vs) ⊎ Breaks o past (v ∷ vs)
    onward follows rest =
        ⊎_elim (λ all. inl (follows, all)) (λ breaks. inr (record {
          earlier = v ∷ breaks.earlier;
          visit = breaks.visit;
          later = breaks.later;
          whole = ap (λ (ws : List Visit). v ∷ ws) breaks.whole;
          follow = (follows, breaks.follow);
          off = breaks.off;
        })) rest

breaks_at : (o : Facts) (vs earlier later : List Visit) (v : Visit) → vs ≡ earlier ++ (v ∷ later) → AllFollow o [] earlier → (Follows o (onto earlier []) v → ⊥)
    → (replay o vs).broken ≡ Some (length earlier)
breaks_at o vs earlier later v whole all off =
    subst (λ (ws : List Visit). (replay o ws).broken ≡ Some (length earlier)) (sym whole)
    (breaks_there o earlier v later [] nothing_kept 0 (orderly_none o) (keeps_none o) all off ∙ ap Some (omega arith))

pub replay_follows : (o : Facts) (vs : List Visit) → AllFollow o [] vs → replay o vs ≡ record { events = done_of o [] vs; broken = None }
replay_follows o vs all = replay_is o vs [] nothing_kept 0 (orderly_none o) (keeps_none o) all

pub whole_law : (o : Facts) (vs : List Visit) → ((replay o vs).broken ≡ None) ↔ AllFollow o [] vs
whole_law o vs = (
  λ is. ⊎_elim (λ all. all)
      (λ breaks. let off : Some (length breaks.earlier) ≡ None = sym (breaks_at o vs breaks.earlier breaks.later breaks.visit breaks.whole breaks.follow breaks.off) ∙ is in absurd (cc off))
      (follow_or_break o vs [] (orderly_none o)),
  λ all. rw (replay_follows o vs all) refl,
)

pub broken_law : (o : Facts) (vs : List Visit) (at : ℕ) → ((replay o vs).broken ≡ Some at) ↔ BreaksAt o vs at
broken_law o vs place = (
  λ is. ⊎_elim (λ all. let off : None ≡ Some place = sym ((whole_law o vs).1 all) ∙ is in absurd (cc off))
      (λ breaks. found is breaks) (follow_or_break o vs [] (orderly_none o)),
  λ breaks. breaks_at o vs breaks.earlier breaks.later breaks.visit breaks.whole breaks.follow breaks.off ∙ ap Some (sym breaks.place),
)
  where
    found : (replay o vs).broken ≡ Some place → Breaks o [] vs → BreaksAt o vs place
    found is breaks =
        let both : Some place ≡ Some (length breaks.earlier) = sym is ∙ breaks_at o vs breaks.earlier breaks.later breaks.visit breaks.whole breaks.follow breaks.off in
        record {
          earlier = breaks.earlier;
          visit = breaks.visit;
          later = breaks.later;
          whole = breaks.whole;
          follow = breaks.follow;
          off = breaks.off;
          place = cc;
        }
