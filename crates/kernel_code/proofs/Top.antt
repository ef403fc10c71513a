-- All bodies do what calls mean, and so does the start.
use Rattle.std.proofs.Common.{◌≡◌, ℕ, zero, suc, ◌+◌, ◌≤◌, ◌<◌, List, [], ◌∷◌, length, slice_get, Some, refl, sym, subst, arith}
use Rattle.cov_base.specs.Lists.{Everywhere}
use Rattle.kernel_ir.specs.declared.kernel.Kernel.{Kernel}
use Rattle.kernel_ir.specs.declared.simple.Simple.{Simple}
use Rattle.kernel_ir.specs.Meaning.{calls_in, executed, does_code}
use Rattle.kernel_ir.specs.Limits.{most_arguments, widest, CodeFits, IsWellFormed, IsWithin}
use Rattle.kernel_code.specs.Line.{Site}
use Rattle.kernel_code.specs.SimpleCode.{Targets}
use Rattle.kernel_code.specs.Code.{code_lines, body_targets}
use Rattle.kernel_code.specs.Calls.{IsDeep, BodyDoes, CallsDo, setting, Holds}
use Rattle.kernel_code.specs.Parts.{SimpleDoes}
use Rattle.kernel_code.proofs.Goes.{reaches_none, has_front}
use Rattle.kernel_code.proofs.Lengths.{code_long}
use Rattle.kernel_code.proofs.Parts.{code_does}
use Rattle.kernel_code.proofs.Bodies.{body_does, has_code}

-- an item of a list
pub record Item {X : Type 0} (xs : List X) (n : ℕ) : Type 0 where
  pub item : X
  pub is : slice_get xs n ≡ Some item

pub item_at : {X : Type 0} (xs : List X) (n : ℕ) → n < length xs → Item xs n
item_at [] n below = absurd (omega arith)
item_at (x ∷ xs) zero below = record { item = x; is = refl }
item_at (x ∷ xs) (suc n) below = let there = item_at xs n (omega arith) in record { item = there.item; is = there.is }

pub each_is : {X : Type 0} (P : X → Type 0) (xs : List X) (n : ℕ) (x : X) → Everywhere P xs → slice_get xs n ≡ Some x → P x
each_is P [] n x all is = absurd (cc is)
each_is P (y ∷ xs) zero x all is = subst P (let e : y ≡ x = cc in e) all.0
each_is P (y ∷ xs) (suc n) x all is = each_is P xs n x all.1 is

module _ (site : Site) (k : Kernel) (holds : Holds site k) (formed : IsWellFormed site.facts.graph k) (within : IsWithin k)
    (simple_does : (own fp left width n : ℕ) → IsDeep fp left → width + most_arguments ≤ widest → (Out : _) (t : Targets) (p : ℕ) (s : Simple) → SimpleDoes site k own fp left (width + most_arguments) (suc n) Out (setting k width) t p s) where
  pub calls_do : (n : ℕ) → CallsDo site k (calls_in k n) n
  calls_do zero f fp left back w c is_body deep like there is_back aligned small = record {
    end = c;
    steps = 0;
    reaches = reaches_none site.image c;
    enough = omega arith;
    shows = like.shows;
  }
  calls_do (suc n) f fp left back w c is_body deep like there is_back aligned small =
      let body = item_at k.bodies f is_body in
      let b = body.item in
      let width = each_is (λ b. (1 ≤ b.width) × (b.width + most_arguments ≤ widest)) k.bodies f b within.widths body.is in
      let fits = each_is (λ b. CodeFits k (b.width + most_arguments) site.facts.graph b.code) k.bodies f b formed.bodies body.is in
      let has = holds.bodies f b body.is in
      let e = setting k b.width in
      let long = code_long e (body_targets b.code) 2 b.code in
      let lines = has_code site k.exceptions f fp left back holds.fair deep e b.code has long aligned small in
      subst (λ found. BodyDoes site k.exceptions fp left (suc n) back w c (executed k (calls_in k n) (suc n) found fp left w)) (sym body.is)
      (body_does site k.exceptions f fp left back holds.fair deep e b.code has long aligned small (suc n) (does_code k (calls_in k n) (suc n) b.width fp left b.code)
      (code_does site k (calls_in k n) n (f + 1) fp left b.width holds.fair formed.predefined formed.exceptions (calls_do n) deep width.0 width.1
      (simple_does (f + 1) fp left b.width n deep width.1) b.code (body_targets b.code) 2 (λ d. ⊥) (λ d o. absurd o) fits
      (has_front site (f + 1) 2 (code_lines e (body_targets b.code) 2 b.code) (Rattle.kernel_code.proofs.Bodies.last_lines site k.exceptions f fp left back holds.fair deep e b.code has long aligned small) lines))
      w c like there is_back)
