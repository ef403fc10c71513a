-- The events of an execution are those of the program's obligations.
use Rattle.std.proofs.Common.{◌≡◌, ℕ, zero, suc, ℤ, List, [], ◌∷◌, ◌++◌, map, reverse, Option, Some, None, nat_lt, slice_get, inl, inr, refl, sym, ap, subst}
use Rattle.std.proofs.lemmas.List.{reverse-append}
use Rattle.cov_base.specs.declared.event.Event.{Event}
use Rattle.cov_base.specs.Lists.{Everywhere, Somewhere}
use Rattle.cov_base.specs.Graph.{graph}
use Rattle.cov_base.specs.Path.{IsPathVector}
use Rattle.ada_meaning.specs.Tree.{shape_of}
use Rattle.ada_meaning.specs.Program.{Subprogram, Program}
use Rattle.ada_meaning.specs.Resolved.{storage_error, parameter_in}
use Rattle.ada_meaning.specs.Calls.{Argument, Calls}
use Rattle.ada_meaning.specs.Collected.{in_block, block_labels, labels_of, decisions_of}
use Rattle.ada_meaning.specs.Events.{IsEventOf}
use Rattle.ada_meaning.specs.Execution.{deepest, result_in, called, calls_in, initial, exec, events_at}
use Rattle.ada_meaning.specs.State.{world_of}
use Rattle.ada_meaning.proofs.Quiet.{depth_now_quiet, raise_quiet}
use Rattle.ada_meaning.proofs.QuietParts.{copy_all_in_quiet, copy_all_back_quiet}
use Rattle.ada_meaning.proofs.Keeping.{in_first, in_second, Keeps, bind_keeps, then_keeps, if_keeps, framed_keeps, quiet_keeps, out_of_fuel_keeps, give_keeps, tick_keeps}
use Rattle.ada_meaning.proofs.EventsExpressions.{CallsKeep, IsKnown}
use Rattle.ada_meaning.proofs.EventsStatements.{IsStart, block_keeps}

-- the events of a subprogram, if there is one, are of the kind
abbrev IsFair : (Event → Type 0) → Option Subprogram → Type 0
IsFair Q None = Unit {0}
IsFair Q (Some s) = Everywhere (IsKnown Q) (in_block s.body) × Everywhere (IsStart Q) (block_labels s.body)

all_fair : (Q : Event → Type 0) (ss : List Subprogram) → Everywhere (IsKnown Q) (decisions_of ss) → Everywhere (IsStart Q) (labels_of ss)
    → (n : ℕ) → IsFair Q (slice_get ss n)
all_fair Q [] known started n = tt
all_fair Q (s ∷ ss) known started zero =
    (in_first (IsKnown Q) (in_block s.body) (decisions_of ss) known, in_first (IsStart Q) (block_labels s.body) (labels_of ss) started)
all_fair Q (s ∷ ss) known started (suc n) =
    all_fair Q ss (in_second (IsKnown Q) (in_block s.body) (decisions_of ss) known) (in_second (IsStart Q) (block_labels s.body) (labels_of ss) started) n

module _ {Q : Event → Type 0} (p : Program) (fair : (n : ℕ) → IsFair Q (slice_get p.subprograms n)) where
  called_keeps : {calls : Calls} → CallsKeep Q calls → (fuel inst : ℕ) (s : Option Subprogram) → IsFair Q s → (arguments : List Argument)
      → Keeps Q (called p calls fuel inst s arguments)
  called_keeps keep fuel inst None known arguments = give_keeps None
  called_keeps keep fuel inst (Some s) known arguments = then_keeps tick_keeps (bind_keeps (quiet_keeps depth_now_quiet) (λ depth.
      if_keeps (nat_lt depth deepest)
      (bind_keeps (quiet_keeps depth_now_quiet) (λ d. bind_keeps (framed_keeps (then_keeps
      (quiet_keeps (copy_all_in_quiet inst (suc d) (map (parameter_in p inst) s.parameters) arguments))
      (block_keeps p keep fuel inst s.body None known.0 known.1))) (λ f.
      then_keeps (quiet_keeps (copy_all_back_quiet inst (suc d) (map (parameter_in p inst) s.parameters) arguments)) (give_keeps (result_in f)))))
      (quiet_keeps (raise_quiet storage_error))))

  calls_keep : (fuel : ℕ) → CallsKeep Q (calls_in p fuel)
  calls_keep zero j n arguments = out_of_fuel_keeps
  calls_keep (suc fuel) j n arguments = called_keeps (calls_keep fuel) (suc fuel) j (slice_get p.subprograms n) (fair n) arguments

everywhere_map : {X : Type 0} (P R : X → Type 0) (xs : List X) → ((x : X) → P x → R x) → Everywhere P xs → Everywhere R xs
everywhere_map P R [] f all = tt
everywhere_map P R (x ∷ xs) f all = (f x all.0, everywhere_map P R xs f all.1)

-- each item is somewhere in its list
is_there : {X : Type 0} (xs : List X) → Everywhere (λ x. Somewhere (λ y. y ≡ x) xs) xs
is_there [] = tt
is_there (x ∷ xs) = (inl refl, everywhere_map (λ z. Somewhere (λ y. y ≡ z) xs) (λ z. Somewhere (λ y. y ≡ z) (x ∷ xs)) xs (λ z h. inr h) (is_there xs))

somewhere_map : {X : Type 0} (P R : X → Type 0) (xs : List X) → ((x : X) → P x → R x) → Somewhere P xs → Somewhere R xs
somewhere_map P R [] f none = elim none [ ]
somewhere_map P R (x ∷ xs) f (inl h) = inl (f x h)
somewhere_map P R (x ∷ xs) f (inr h) = inr (somewhere_map P R xs f h)

-- the decisions of a program are named by its events
named_decisions : (p : Program) → Everywhere (IsKnown (IsEventOf p)) (decisions_of p.subprograms)
named_decisions p = everywhere_map (λ h. Somewhere (λ g. g ≡ h) (decisions_of p.subprograms)) (IsKnown (IsEventOf p)) (decisions_of p.subprograms)
    (λ h there inst v path. somewhere_map (λ g. g ≡ h)
    (λ g. (g.label.number ≡ h.label.number) × IsPathVector (graph (shape_of g.test)) v) (decisions_of p.subprograms)
    (λ g same. subst (λ k. (k.label.number ≡ h.label.number) × IsPathVector (graph (shape_of k.test)) v) (sym same) (refl, path)) there)
    (is_there (decisions_of p.subprograms))

named_labels : (p : Program) → Everywhere (IsStart (IsEventOf p)) (labels_of p.subprograms)
named_labels p = everywhere_map (λ l. Somewhere (λ k. k ≡ l) (labels_of p.subprograms)) (IsStart (IsEventOf p)) (labels_of p.subprograms)
    (λ l there inst. somewhere_map (λ k. k ≡ l) (λ k. k.number ≡ l.number) (labels_of p.subprograms) (λ k same. ap (λ x. x.number) same) there)
    (is_there (labels_of p.subprograms))

everywhere_both : {X : Type 0} (P : X → Type 0) (xs ys : List X) → Everywhere P xs → Everywhere P ys → Everywhere P (xs ++ ys)
everywhere_both P [] ys h k = k
everywhere_both P (x ∷ xs) ys h k = (h.0, everywhere_both P xs ys h.1 k)

everywhere_reverse : {X : Type 0} (P : X → Type 0) (xs : List X) → Everywhere P xs → Everywhere P (reverse xs)
everywhere_reverse P [] h = tt
everywhere_reverse P (x ∷ xs) h = subst (Everywhere P) (sym (reverse-append (x ∷ []) xs))
    (everywhere_both P (reverse xs) (x ∷ []) (everywhere_reverse P xs h.1) (h.0, tt))

-- events name obligations
pub events_law : (p : Program) (fuel : ℕ) (input : List ℤ) → Everywhere (IsEventOf p) (events_at p fuel input)
events_law p fuel input = everywhere_reverse (IsEventOf p) (world_of (exec p fuel input)).seen.events
    ((calls_keep p (all_fair (IsEventOf p) p.subprograms (named_decisions p) (named_labels p)) fuel 0 p.main []).at_world (initial p input) tt)
