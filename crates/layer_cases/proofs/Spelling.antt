-- Postfix bytes, read from the first to the last.
use Rattle.std.proofs.Common.{◌≡◌, ℕ, ◌<◌, ◌≤◌, ◌+◌, ◌-◌, Bool, true, false, not, ◌&&◌, List, [], ◌∷◌, ◌++◌, length, append_assoc, refl, ap, subst, sym, ◌∙◌, inl, inr, arith}
use Rattle.std.proofs.lemmas.Bool.Decides.{eqb_tells}
use Rattle.cov_base.specs.Expr.{Expr, condition, negation, operator, size, operator_byte, postfix_from, is_negation, negates_once, IsPostfixOf}

-- of expressions that were read, the latest first: how many conditions they have
abbrev pub sizes : List Expr → ℕ
sizes [] = 0
sizes (e ∷ older) = sizes older + size e

-- their bytes
abbrev pub spelled : List Expr → List ℕ
spelled [] = []
spelled (e ∷ older) = spelled older ++ postfix_from (sizes older) e

-- whether no negation stands directly in a negation
abbrev pub all_once : List Expr → Bool
all_once [] = true
all_once (e ∷ older) = negates_once e && all_once older

-- whether the latest one is a negation
abbrev pub ends_negated : List Expr → Bool
ends_negated [] = false
ends_negated (e ∷ older) = is_negation e

-- what was read of postfix bytes: so many conditions and operands, the latest a negation or not
pub record IsRead (bytes : List ℕ) (conditions operands : ℕ) (negated : Bool) : Type 0 where
  pub stack : List Expr
  pub spells : bytes ≡ spelled stack
  pub counts : sizes stack ≡ conditions
  pub stands : length stack ≡ operands
  pub once : all_once stack ≡ true
  pub ends : ends_negated stack ≡ negated

pub read_nothing : IsRead [] 0 0 false
read_nothing = record { stack = []; spells = refl; counts = refl; stands = refl; once = refl; ends = refl }

pub read_condition : (bytes : List ℕ) (n k byte : ℕ) (negated : Bool) → IsRead bytes n k negated → byte ≡ n →
    IsRead (bytes ++ byte ∷ []) (n + 1) (k + 1) false
read_condition bytes n k byte negated r is = record {
  stack = condition ∷ r.stack;
  spells = ap (λ bs. bs ++ byte ∷ []) r.spells ∙ ap (λ m. spelled r.stack ++ m ∷ []) (is ∙ sym r.counts);
  counts = ap (λ m. m + 1) r.counts;
  stands = let h = r.stands in omega arith;
  once = r.once;
  ends = refl;
}

negated_once : (a b c : Bool) → a ≡ false → (b && c) ≡ true → (not a && b && c) ≡ true
negated_once false b c h l = l
negated_once true b c h l = let bad : ⊥ = cc in absurd bad

negate_stack : (bytes : List ℕ) (n k : ℕ) (stack : List Expr) → bytes ≡ spelled stack → sizes stack ≡ n → length stack ≡ k →
    all_once stack ≡ true → ends_negated stack ≡ false → 0 < k → IsRead (bytes ++ 32 ∷ []) n k true
negate_stack bytes n k [] spells counts stands once ends some = absurd (let bad : ⊥ = omega arith in bad)
negate_stack bytes n k (e ∷ older) spells counts stands once ends some = record {
  stack = negation e ∷ older;
  spells = ap (λ bs. bs ++ 32 ∷ []) spells ∙ append_assoc (spelled older) (postfix_from (sizes older) e) (32 ∷ []);
  counts = counts;
  stands = stands;
  once = negated_once (is_negation e) (negates_once e) (all_once older) ends once;
  ends = refl;
}

pub read_not : (bytes : List ℕ) (n k byte : ℕ) (negated : Bool) → IsRead bytes n k negated → negated ≡ false → 0 < k → byte ≡ 32 →
    IsRead (bytes ++ byte ∷ []) n k true
read_not bytes n k byte negated r off some is =
    subst (λ b. IsRead (bytes ++ b ∷ []) n k true) (sym is)
    (negate_stack bytes n k r.stack r.spells r.counts r.stands r.once (r.ends ∙ off) some)

three_once : (a b c : Bool) → (a && (b && c)) ≡ true → (b && a && c) ≡ true
three_once true true c h = h
three_once true false c h = h
three_once false b c h = let bad : ⊥ = cc in absurd bad

join_stack : (neutral : Bool) (bytes : List ℕ) (n k : ℕ) (stack : List Expr) → bytes ≡ spelled stack → sizes stack ≡ n → length stack ≡ k →
    all_once stack ≡ true → 1 < k → IsRead (bytes ++ operator_byte neutral ∷ []) n (k - 1) false
join_stack neutral bytes n k [] spells counts stands once some = absurd (let bad : ⊥ = omega arith in bad)
join_stack neutral bytes n k (right ∷ []) spells counts stands once some = absurd (let bad : ⊥ = omega arith in bad)
join_stack neutral bytes n k (right ∷ left ∷ older) spells counts stands once some = record {
  stack = operator neutral left right ∷ older;
  spells = ap (λ bs. bs ++ operator_byte neutral ∷ []) spells
      ∙ append_assoc (spelled older ++ postfix_from (sizes older) left) (postfix_from (sizes older + size left) right) (operator_byte neutral ∷ [])
      ∙ append_assoc (spelled older) (postfix_from (sizes older) left) (postfix_from (sizes older + size left) right ++ operator_byte neutral ∷ []);
  counts = let h = counts in omega arith;
  stands = omega arith;
  once = three_once (negates_once right) (negates_once left) (all_once older) once;
  ends = refl;
}

pub read_operator : (bytes : List ℕ) (n k byte : ℕ) (negated : Bool) → IsRead bytes n k negated → 1 < k → 32 < byte → byte < 35 →
    IsRead (bytes ++ byte ∷ []) n (k - 1) false
read_operator bytes n k byte negated r some low high =
    elim (eqb_tells byte 33) [
      | inl is ↦ subst (λ b. IsRead (bytes ++ b ∷ []) n (k - 1) false) (sym is.1)
          (join_stack true bytes n k r.stack r.spells r.counts r.stands r.once some)
      | inr other ↦
          let ne = other.1 in
          let is : byte ≡ 34 = omega arith in
          subst (λ b. IsRead (bytes ++ b ∷ []) n (k - 1) false) (sym is)
          (join_stack false bytes n k r.stack r.spells r.counts r.stands r.once some)
    ]

one_read : (bytes : List ℕ) (n : ℕ) (stack : List Expr) → bytes ≡ spelled stack → sizes stack ≡ n → length stack ≡ 1 →
    all_once stack ≡ true → n ≤ 32 → (e : Expr) × IsPostfixOf bytes e
one_read bytes n [] spells counts stands once fits = absurd (let bad : ⊥ = omega arith in bad)
one_read bytes n (e ∷ []) spells counts stands once fits =
    (e, record { spelled = spells; fits = let h = counts in omega arith; once = and_is (negates_once e) once })
  where
    and_is : (b : Bool) → (b && true) ≡ true → b ≡ true
    and_is true h = refl
    and_is false h = h
one_read bytes n (e ∷ other ∷ older) spells counts stands once fits = absurd (let bad : ⊥ = omega arith in bad)

pub read_all : (bytes : List ℕ) (n k : ℕ) (negated : Bool) → IsRead bytes n k negated → k ≡ 1 → n ≤ 32 → (e : Expr) × IsPostfixOf bytes e
read_all bytes n k negated r is fits = one_read bytes n r.stack r.spells r.counts (r.stands ∙ is) r.once fits
