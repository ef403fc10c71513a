-- What a trace that fits its object says of its history.
use Rattle.std.proofs.Common.{◌≡◌, ℕ, ◌+◌, Bool, true, false, not, cond, List, [], ◌∷◌, Option, Some, None, refl, option_map}
use Rattle.std.specs.List.{position_from}
use Rattle.std.specs.Option.{option_or}
use Rattle.decision_map.specs.Fits.{foreign, beyond_exceptions, not_a_block, wrong_edge, wrong_address, not_flat, fault_of}
use Rattle.decision_map.specs.Kinds.{kinds_of_text}
use Rattle.decision_map.specs.Roles.{needs_history}
use Rattle.decision_map.specs.declared.fault.FitFault.TheVariants.{HistoryAddress}
use Rattle.cov_base.specs.Lists.{Everywhere}
use Rattle.object_format.specs.declared.object.Object.{Object}
use Rattle.trace_format.specs.declared.trace.HistoryEntry.{HistoryEntry}
use Rattle.trace_format.specs.Trace.{TraceFile}
use Rattle.coverage_set.specs.Read.{AreKept}

-- no fault in the first of two checks, nor in the rest
no_first : {X : Type 0} (a b : Option X) → option_or a b ≡ None → a ≡ None
no_first None b none = refl
no_first (Some x) b none = absurd (cc none)

no_rest : {X : Type 0} (a b : Option X) → option_or a b ≡ None → b ≡ None
no_rest None b none = none
no_rest (Some x) b none = absurd (cc none)

no_place : (place : Option ℕ) → option_map HistoryAddress place ≡ None → place ≡ None
no_place None none = refl
no_place (Some at) none = absurd (cc none)

-- where no test of a list is met, each fails
none_passes : {X : Type 0} (test : X → Bool) (xs : List X) (n : ℕ) → position_from (λ x. not (test x)) n xs ≡ None → Everywhere (λ x. test x ≡ true) xs
none_passes test [] n none = tt
none_passes test (x ∷ xs) n none = by_test (test x) refl none (none_passes test xs)
  where
    by_test : (b : Bool) → test x ≡ b → cond (not b) (Some n) (position_from (λ y. not (test y)) (n + 1) xs) ≡ None
        → ((m : ℕ) → position_from (λ y. not (test y)) m xs ≡ None → Everywhere (λ y. test y ≡ true) xs) → Everywhere (λ y. test y ≡ true) (x ∷ xs)
    by_test true is rest later = (is, later (n + 1) rest)
    by_test false is rest later = absurd (cc rest)

pub history_kept : (o : Object) (t : TraceFile) → fault_of o t ≡ None → AreKept o t.history
history_kept o t fits =
    let kinds = kinds_of_text o.text in
    let one = no_rest (foreign o t) _ fits in
    let two = no_rest (beyond_exceptions o t) _ one in
    let three = no_rest (not_a_block kinds t.blocks) _ two in
    let four = no_rest (wrong_edge kinds t.blocks) _ three in
    let address : wrong_address (needs_history o) t.history ≡ None = no_first (wrong_address (needs_history o) t.history) (not_flat t.blocks t.history) four in
    none_passes (λ (h : HistoryEntry). needs_history o h.address) t.history 0 (no_place _ address)
