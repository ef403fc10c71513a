-- How parts of code compose.
use Rattle.std.proofs.Common.{◌≡◌, ℕ, ◌+◌, ◌*◌, ◌≤◌, None, refl, subst, ◌∙◌, arith}
use Rattle.cov_base.specs.declared.position.DecId.{DecId}
use Rattle.rv_semantics.specs.Past.{Config}
use Rattle.kernel_ir.specs.World.{World, Ended, Ends, Exits, Returns, Raises, Cut, goes_on}
use Rattle.kernel_code.specs.Line.{Site, LineStands, jump}
use Rattle.kernel_code.specs.Goes.{Reaches, Silent}
use Rattle.kernel_code.specs.SimpleCode.{Targets}
use Rattle.kernel_code.specs.Does.{Like, Quiet, Comes, GoesOn, IsRaised, Nothing, Does}
use Rattle.kernel_code.proofs.Goes.{reaches_on}
use Rattle.kernel_code.proofs.Steps.{moved, jumps_to, line_silent}
use Rattle.kernel_code.proofs.Slots.{unpaid, like_kept, quiet_kept}

pub quiet_on : (site : Site) (fp left : ℕ) (Out : DecId → Type 0) (a b c : Config) → Quiet site.facts fp left Out a b → Quiet site.facts fp left Out b c → Quiet site.facts fp left Out a c
quiet_on site fp left Out a b c one next = record {
  paths = λ k apart n. next.paths k apart n ∙ one.paths k apart n;
  keeps = λ x above below. next.keeps x above below ∙ one.keeps x above below;
}

pub quiet_weaker : (site : Site) (fp left : ℕ) (Out Wider : DecId → Type 0) (a b : Config) → ((d : DecId) → Out d → Wider d) → Quiet site.facts fp left Wider a b → Quiet site.facts fp left Out a b
quiet_weaker site fp left Out Wider a b wider quiet = record {
  paths = λ k apart n. quiet.paths k (apart.0, λ same. wider k.decision (apart.1 same)) n;
  keeps = quiet.keeps;
}

module _ (site : Site) (exceptions own fp left : ℕ) where
  module _ (Out : DecId → Type 0) where
    -- a part, and another one behind it
    pub comes_on : (spared first second : ℕ) (w v u : World) (c : Config) (there to : ℕ) (Also : Config → Type 0) (one : Comes site own fp left Out first w c there Nothing v)
        → Comes site own fp left Out second v one.end to Also u → spared ≤ first + second → Comes site own fp left Out spared w c to Also u
    comes_on spared first second w v u c there to Also one next enough =
        let spent = one.spent in
        let spent_next = next.spent in
        record {
          end = next.end;
          steps = one.steps + next.steps;
          reaches = reaches_on site.image one.steps next.steps c one.end next.end one.reaches next.reaches;
          there = next.there;
          like = next.like;
          quiet = quiet_on site fp left Out c one.end next.end one.quiet next.quiet;
          spent = (let e : one.steps + next.steps + spared + 32 * w.seen.cost ≤ 32 * u.seen.cost = omega arith in e);
          also = next.also;
        }

    pub goes_later : (fuel least steps : ℕ) (c d : Config) (u : World) → Reaches site.image steps c d → GoesOn site least d u → fuel ≤ steps + least → GoesOn site fuel c u
    goes_later fuel least steps c d u reaches on enough =
        let held = on.enough in
        record {
          end = on.end;
          steps = steps + on.steps;
          reaches = reaches_on site.image steps on.steps c d on.end reaches on.reaches;
          enough = omega arith;
          shows = on.shows;
        }

    pub does_on : (fuel least spared first second : ℕ) (w v : World) (c : Config) (t : Targets) (there to : ℕ) (ended : Ended) (one : Comes site own fp left Out first w c there Nothing v)
        → Does site exceptions own fp left least Out second v one.end t to ended → spared ≤ first + second → fuel ≤ one.steps + least
        → Does site exceptions own fp left fuel Out spared w c t to ended
    does_on fuel least spared first second w v c t there to (Ends u) one next s f = comes_on spared first second w v u c there to Nothing one next s
    does_on fuel least spared first second w v c t there to (Exits u) one next s f = comes_on spared first second w v u c there t.exit_to Nothing one next s
    does_on fuel least spared first second w v c t there to (Returns u) one next s f = comes_on spared first second w v u c there t.return_to Nothing one next s
    does_on fuel least spared first second w v c t there to (Raises e u) one next s f = comes_on spared first second w v u c there t.raise_to (IsRaised exceptions e) one next s
    does_on fuel least spared first second w v c t there to (Cut u) one next s f = goes_later fuel least one.steps c one.end u one.reaches next f

    pub comes_spared : (spared first : ℕ) (w u : World) (c : Config) (to : ℕ) (Also : Config → Type 0) → spared ≤ first → Comes site own fp left Out first w c to Also u → Comes site own fp left Out spared w c to Also u
    comes_spared spared first w u c to Also s one =
        let spent = one.spent in
        record {
          end = one.end;
          steps = one.steps;
          reaches = one.reaches;
          there = one.there;
          like = one.like;
          quiet = one.quiet;
          spent = (let e : one.steps + spared + 32 * w.seen.cost ≤ 32 * u.seen.cost = omega arith in e);
          also = one.also;
        }

    -- a jump behind a part
    abbrev pub jump_on : (spared : ℕ) (w v : World) (c : Config) (there to : ℕ) → LineStands site own there (jump to)
        → (one : Comes site own fp left Out (1 + spared) w c there Nothing v) → Comes site own fp left Out spared w c to Nothing v
    jump_on spared w v c there to stands one =
        let end = moved one.end None (site.address own to) in
        let silent : Silent site.facts one.end.past end.past = line_silent site own there (jump to) one.end None (site.address own to) stands one.there refl refl in
        let spent = one.spent in
        record {
          end = end;
          steps = one.steps + 1;
          reaches = reaches_on site.image one.steps 1 c one.end end one.reaches (jumps_to site own there to one.end stands one.there);
          there = refl;
          like = subst (λ u. Like site fp left u end) (unpaid v) (like_kept site fp left 0 v one.end end one.like (record { zeroth = refl; stack = refl; frame = refl; input = refl; output = refl; silent = silent }) refl);
          quiet = quiet_on site fp left Out c one.end end one.quiet (quiet_kept site fp left Out one.end end silent refl);
          spent = (let e : one.steps + 1 + spared + 32 * w.seen.cost ≤ 32 * v.seen.cost = omega arith in e);
          also = tt;
        }

    pub does_jump : (fuel spared : ℕ) (w : World) (c : Config) (t : Targets) (there to : ℕ) (ended : Ended) → LineStands site own there (jump to)
        → Does site exceptions own fp left fuel Out (1 + spared) w c t there ended → Does site exceptions own fp left fuel Out spared w c t to ended
    does_jump fuel spared w c t there to (Ends u) stands one = jump_on spared w u c there to stands one
    does_jump fuel spared w c t there to (Exits u) stands one = comes_spared spared (1 + spared) w u c t.exit_to Nothing (omega arith) one
    does_jump fuel spared w c t there to (Returns u) stands one = comes_spared spared (1 + spared) w u c t.return_to Nothing (omega arith) one
    does_jump fuel spared w c t there to (Raises e u) stands one = comes_spared spared (1 + spared) w u c t.raise_to (IsRaised exceptions e) (omega arith) one
    does_jump fuel spared w c t there to (Cut u) stands one = one

    -- what comes after a part that may end otherwise
    pub does_then : (fuel : ℕ) (w : World) (c : Config) (t : Targets) (there to : ℕ) (ended : Ended) (f : World → Ended)
        → Does site exceptions own fp left fuel Out 0 w c t there ended
        → ((v : World) (d : Config) → Like site fp left v d → d.state.pc ≡ site.address own there → Does site exceptions own fp left fuel Out 0 v d t to (f v))
        → Does site exceptions own fp left fuel Out 0 w c t to (goes_on ended f)
    does_then fuel w c t there to (Ends v) f one next = does_on fuel fuel 0 0 0 w v c t there to (f v) one (next v one.end one.like one.there) (omega arith) (omega arith)
    does_then fuel w c t there to (Exits v) f one next = one
    does_then fuel w c t there to (Returns v) f one next = one
    does_then fuel w c t there to (Raises e v) f one next = one
    does_then fuel w c t there to (Cut v) f one next = one

  -- a part that holds fewer decisions
  abbrev pub comes_weaker : (Out Wider : DecId → Type 0) → ((d : DecId) → Out d → Wider d) → (spared : ℕ) (w u : World) (c : Config) (to : ℕ) (Also : Config → Type 0)
      → Comes site own fp left Wider spared w c to Also u → Comes site own fp left Out spared w c to Also u
  comes_weaker Out Wider wider spared w u c to Also one = record {
    end = one.end;
    steps = one.steps;
    reaches = one.reaches;
    there = one.there;
    like = one.like;
    quiet = quiet_weaker site fp left Out Wider c one.end wider one.quiet;
    spent = one.spent;
    also = one.also;
  }

  pub does_weaker : (Out Wider : DecId → Type 0) → ((d : DecId) → Out d → Wider d) → (fuel spared : ℕ) (w : World) (c : Config) (t : Targets) (to : ℕ) (ended : Ended)
      → Does site exceptions own fp left fuel Wider spared w c t to ended → Does site exceptions own fp left fuel Out spared w c t to ended
  does_weaker Out Wider wider fuel spared w c t to (Ends u) one = comes_weaker Out Wider wider spared w u c to Nothing one
  does_weaker Out Wider wider fuel spared w c t to (Exits u) one = comes_weaker Out Wider wider spared w u c t.exit_to Nothing one
  does_weaker Out Wider wider fuel spared w c t to (Returns u) one = comes_weaker Out Wider wider spared w u c t.return_to Nothing one
  does_weaker Out Wider wider fuel spared w c t to (Raises e u) one = comes_weaker Out Wider wider spared w u c t.raise_to (IsRaised exceptions e) one
  does_weaker Out Wider wider fuel spared w c t to (Cut u) one = one
