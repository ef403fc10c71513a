-- A node of a decision: the branch of its condition, and where its edges lead.
use Rattle.std.proofs.Common.{◌≡◌, ℕ, ◌-◌, ◌*◌, ◌^◌, ◌==◌, ◌<◌, Bool, true, false, not, nat_lt, List, ◌∷◌, Some, None, sym, ap, subst, ◌∙◌, arith}
use Rattle.std.proofs.lemmas.Bool.Decides.{nat_tests}
use Rattle.std.proofs.lemmas.Int.{ints}
use Rattle.cov_base.specs.declared.position.DecId.{DecId}
use Rattle.cov_base.specs.declared.position.InstId.{InstId}
use Rattle.cov_base.specs.declared.event.Event.TheVariants.{Done}
use Rattle.rv_semantics.specs.declared.stepped.Seen.{Seen}
use Rattle.rv_semantics.specs.Arithmetic.{sum_32, signed, flag}
use Rattle.rv_semantics.specs.Step.{seen}
use Rattle.rv_semantics.specs.Past.{Config}
use Rattle.cov_base.specs.Graph.{node, leaf, next_in}
use Rattle.cov_base.specs.Path.{Step, vector_of}
use Rattle.transcript.specs.Facts.{Facts}
use Rattle.transcript.specs.Visit.{Key, Visit, visit_of}
use Rattle.ada_meaning.specs.Arithmetic.{is_true}
use Rattle.kernel_ir.specs.World.{World}
use Rattle.kernel_code.specs.Behind.{told, InOrder, come_to}
use Rattle.kernel_code.specs.Line.{Site}
use Rattle.kernel_code.specs.Goes.{Silent}
use Rattle.kernel_code.specs.Does.{IsFair, HasRoom, Like, Apart}
use Rattle.kernel_code.proofs.Slots.{paths_kept}
use Rattle.kernel_code.proofs.Visits.{Decides, others_stay, in_order_with, leads_to_node, leads_to_leaf}

-- x10 is not 0 where the slot is 1
pub node_test : (v z : ℕ) → v < 2 ^ 32 → z ≡ 0 → not (flag (nat_lt (sum_32 v (2 ^ 32 - 1)) 1) == z) ≡ is_true (signed v)
node_test v z small is = grind (arith, ints, nat_tests)

-- the visit that the branch of a condition makes
abbrev pub visit_to : DecId → InstId → (x8 n : ℕ) → Bool → Visit
visit_to d i x8 n value = record { key = record { decision = d; instance = i; x8 = x8 }; step = record { at_node = n; value = value } }

-- the key of an evaluation in a frame
abbrev pub evaluation : (fp : ℕ) → DecId → InstId → Key
evaluation fp d i = record { decision = d; instance = i; x8 = 4 * fp }

visit_is : (o : Facts) (d : DecId) (i : InstId) (n pc x8 end : ℕ) (value : Bool)
    → o.condition pc ≡ Some (record { decision = d; at_node = n; when_taken = true; instance = i }) → x8 ≡ end
    → visit_of o (record { pc = pc; edge = Some value; x8 = x8 }) ≡ Some (visit_to d i end n value)
visit_is o d i n pc x8 end true is same = rw is (ap (λ x. Some (visit_to d i x n true)) same)
visit_is o d i n pc x8 end false is same = rw is (ap (λ x. Some (visit_to d i x n false)) same)

module _ (site : Site) (exceptions own fp left bound : ℕ) (fair : IsFair site exceptions) (room : HasRoom fp bound) (Out : DecId → Type 0) (d : DecId) (i : InstId) (out : Out d → ⊥) where
  abbrev own_key : Key
  own_key = evaluation fp d i

  -- a machine at the branch of a condition, and what was told behind it
  module _ (q n j p_next to : ℕ) (value : Bool) (v : World) (c g : Config) (path : List Step)
      (like : Like site fp left v c) (silent : Silent site.facts c.past g.past)
      (at_branch : g.state.pc ≡ site.address own q) (row : site.facts.row (site.address own q) ≡ None)
      (condition : site.facts.condition (site.address own q) ≡ Some (record { decision = d; at_node = n; when_taken = true; instance = i }))
      (frame : g.state.reg 8 ≡ c.state.reg 8)
      (has : come_to site.facts own_key c.past n ≡ Some path) where
    abbrev behind : List Seen
    behind = seen g.state (Some value) ∷ g.past

    decides_here : Decides site.facts (seen g.state (Some value)) (visit_to d i (4 * fp) n value)
    decides_here = record {
      row = subst (λ a. site.facts.row a ≡ None) (sym at_branch) row;
      visit = visit_is site.facts d i n g.state.pc (g.state.reg 8) (4 * fp) value
          (subst (λ a. site.facts.condition a ≡ Some (record { decision = d; at_node = n; when_taken = true; instance = i })) (sym at_branch) condition) (frame ∙ like.frame);
    }

    has_there : come_to site.facts own_key g.past n ≡ Some path
    has_there = paths_kept site c g silent own_key n ∙ has

    pub order_behind : InOrder site.facts behind
    order_behind = in_order_with site.facts (seen g.state (Some value)) (visit_to d i (4 * fp) n value) g.past path decides_here has_there (silent.order like.shows.order)

    pub others_behind : (k : Key) → Apart fp Out k → (m : ℕ) → come_to site.facts k behind m ≡ come_to site.facts k c.past m
    others_behind k apart m =
        others_stay site.facts (seen g.state (Some value)) (visit_to d i (4 * fp) n value) g.past decides_here k
        (λ same. out (subst (λ x. Out x) (ap (λ (l : Key). l.decision) same) (apart.1 (ap (λ (l : Key). l.x8) same)))) m
        ∙ paths_kept site c g silent k m

    pub node_behind : (m : ℕ) → next_in (site.facts.graph d) n value ≡ node m
        → (come_to site.facts own_key behind m ≡ Some (record { at_node = n; value = value } ∷ path)) × (told site.facts behind ≡ told site.facts c.past)
    node_behind m leads =
        let on = leads_to_node site.facts fair.facts (seen g.state (Some value)) (visit_to d i (4 * fp) n value) g.past path m decides_here has_there leads in
        (on.0, on.1 ∙ silent.says)

    pub leaf_behind : (outcome : Bool) → next_in (site.facts.graph d) n value ≡ leaf outcome
        → told site.facts behind ≡ Done d i (vector_of (record { at_node = n; value = value } ∷ path)) ∷ told site.facts c.past
    leaf_behind outcome leads =
        leads_to_leaf site.facts (seen g.state (Some value)) (visit_to d i (4 * fp) n value) g.past path outcome decides_here has_there leads
        ∙ ap (λ es. Done d i (vector_of (record { at_node = n; value = value } ∷ path)) ∷ es) silent.says
