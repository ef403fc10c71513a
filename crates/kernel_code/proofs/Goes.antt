-- How machines that carry their past go on, and straight lines.
use Rattle.std.proofs.Common.{◌≡◌, ℕ, ◌+◌, ◌*◌, ◌%◌, ◌≤◌, List, [], ◌∷◌, ◌++◌, map, length, Bool, Option, Some, None, refl, sym, ap, subst, ◌∙◌, arith}
use Rattle.std.proofs.lemmas.List.{append-nil}
use Rattle.rv_isa.specs.declared.instr.Instr.{Instr}
use Rattle.rv_semantics.specs.declared.stepped.Seen.{Seen}
use Rattle.rv_semantics.specs.Layout.{memory_bytes}
use Rattle.rv_semantics.specs.State.{Image, State}
use Rattle.rv_semantics.specs.Step.{seen}
use Rattle.rv_semantics.specs.Past.{Config, exec}
use Rattle.placed_code.specs.Code.{StandsAt, HasAt}
use Rattle.placed_code.specs.Stretch.{config, Leads}
use Rattle.placed_code.specs.Straight.{IsStraight, after_one}
use Rattle.placed_code.proofs.Straights.{straight_goes, one_further}
use Rattle.transcript.specs.Facts.{Facts, Condition}
use Rattle.transcript.specs.Visit.{visit_at, visit_of}
use Rattle.kernel_code.specs.Behind.{told}
use Rattle.kernel_code.specs.Line.{Line, Site, HasLines}
use Rattle.kernel_code.specs.Goes.{Reaches, Silent, gone, StraightLinesGo}

pub reaches_none : (image : Image) (c : Config) → Reaches image 0 c c
reaches_none image c = record { by = λ k. ap (λ n. exec image n c) (let e : k + 0 ≡ k = omega arith in e) }

pub reaches_on : (image : Image) (n m : ℕ) (c c' c'' : Config) → Reaches image n c c' → Reaches image m c' c'' → Reaches image (n + m) c c''
reaches_on image n m c c' c'' a b = record {
  by = λ k.
      let e : k + (n + m) ≡ k + m + n = omega arith in
      ap (λ j. exec image j c) e ∙ (a.by (k + m) ∙ b.by k);
}

pub reaches_as : (image : Image) (n m : ℕ) (c c' : Config) → n ≡ m → Reaches image n c c' → Reaches image m c c'
reaches_as image n m c c' e a = subst (λ j. Reaches image j c c') e a

-- what a stretch leads to is reached
pub reaches_by : (image : Image) (s : State) (input : _) (es : List Seen) (os : _) (s' : State) (input' : _) (put : _) (past : List Seen)
    → Leads image s input es os s' input' → Reaches image (length es) (config s input put past) (config s' input' (put ++ os) (Rattle.std.proofs.Common.reverse es ++ past))
reaches_by image s input es os s' input' put past leads = record { by = λ k. leads.carried k put past }

pub silent_none : (o : Facts) (past : List Seen) → Silent o past past
silent_none o past = record { says = refl; same = refl; order = λ h. h }

pub silent_on : (o : Facts) (a b c : List Seen) → Silent o a b → Silent o b c → Silent o a c
silent_on o a b c one next = record {
  says = next.says ∙ one.says;
  same = next.same ∙ one.same;
  order = λ h. next.order (one.order h);
}

-- an instruction that is no branch makes no visit
pub no_visit : (o : Facts) (pc x8 : ℕ) → visit_of o (record { pc = pc; edge = None; x8 = x8 }) ≡ None
no_visit o pc x8 = by_condition (o.condition pc)
  where
    by_condition : (c : Option Condition) → visit_at c x8 None ≡ None
    by_condition None = refl
    by_condition (Some c) = refl

pub no_condition : (o : Facts) (s : Seen) → o.condition s.pc ≡ None → visit_of o s ≡ None
no_condition o s is = rw is refl

-- an instruction without a row that makes no visit tells nothing
pub silent_one : (o : Facts) (s : Seen) (past : List Seen) → o.row s.pc ≡ None → visit_of o s ≡ None → Silent o past (s ∷ past)
silent_one o s past no_row none = record {
  says = says;
  same = rw none refl;
  order = λ h. (rw none tt, h);
}
  where
    says : told o (s ∷ past) ≡ told o past
    says = rw (no_row, none) refl

-- one instruction
one_stands : (image : Image) (pc : ℕ) (i : Instr) → pc % 4 ≡ 0 → StandsAt image pc i → HasAt image pc (i ∷ [])
one_stands image pc i aligned stands = (stands, let within = stands.within in let e : pc + 4 ≤ memory_bytes = omega arith in e)

pub one_goes : (image : Image) (c : Config) (i : Instr) → c.state.pc % 4 ≡ 0 → StandsAt image c.state.pc i → IsStraight image c.state i → Reaches image 1 c (gone c (i ∷ []))
one_goes image c i aligned stands straight =
    subst (λ put. Reaches image 1 c (config (after_one c.state i) c.input put (seen c.state None ∷ c.past))) (append-nil c.output)
    (reaches_by image c.state c.input (seen c.state None ∷ []) [] (after_one c.state i) c.input c.output c.past
    (straight_goes image c.state c.input (i ∷ []) (one_stands image c.state.pc i aligned stands) (straight, tt)))

pub straight_lines_go : StraightLinesGo
straight_lines_go site own place c [] has at straight = record {
  reaches = reaches_none site.image c;
  arrives = at ∙ ap (λ p. site.address own p) (let e : place ≡ place + 0 = omega arith in e);
  silent = silent_none site.facts c.past;
}
straight_lines_go site own place c (i ∷ is) has at straight =
    let stands : StandsAt site.image c.state.pc i = subst (λ a. StandsAt site.image a i) (sym at) has.0.item in
    let aligned : c.state.pc % 4 ≡ 0 = subst (λ a. a % 4 ≡ 0) (sym at) has.0.aligned in
    let c1 : Config = gone c (i ∷ []) in
    let there : c1.state.pc ≡ site.address own (place + 1) = one_further site.image c.state i straight.0 ∙ (ap (λ a. a + 4) at ∙ sym has.0.next) in
    let rest = straight_lines_go site own (place + 1) c1 is has.1 there straight.1 in
    record {
      reaches = reaches_as site.image (1 + length is) (length (i ∷ is)) c (gone c (i ∷ is)) (let e : 1 + length is ≡ length (i ∷ is) = omega arith in e)
          (reaches_on site.image 1 (length is) c c1 (gone c (i ∷ is)) (one_goes site.image c i aligned stands straight.0) rest.reaches);
      arrives = rest.arrives ∙ ap (λ p. site.address own p) (let e : place + 1 + length is ≡ place + length (i ∷ is) = omega arith in e);
      silent = silent_on site.facts c.past c1.past (gone c (i ∷ is)).past
          (silent_one site.facts (seen c.state None) c.past (subst (λ a. site.facts.row a ≡ None) (sym at) has.0.row) (no_visit site.facts c.state.pc (c.state.reg 8)))
          rest.silent;
    }

-- lines in parts
pub has_front : (site : Site) (own place : ℕ) (xs ys : List Line) → HasLines site own place (xs ++ ys) → HasLines site own place xs
has_front site own place [] ys h = tt
has_front site own place (x ∷ xs) ys h = (h.0, has_front site own (place + 1) xs ys h.1)

pub has_at : (site : Site) (own from to : ℕ) (xs : List Line) → from ≡ to → HasLines site own from xs → HasLines site own to xs
has_at site own from to xs e h = subst (λ p. HasLines site own p xs) e h

pub has_back : (site : Site) (own place to : ℕ) (xs ys : List Line) → place + length xs ≡ to → HasLines site own place (xs ++ ys) → HasLines site own to ys
has_back site own place to [] ys e h = has_at site own place to ys (let f : place ≡ to = omega arith in f) h
has_back site own place to (x ∷ xs) ys e h =
    has_back site own (place + 1) to xs ys (let f : place + 1 + length xs ≡ to = omega arith in f) h.1
