-- Bodies have the numbers of their copies.
use Rattle.std.proofs.Common.{◌≡◌, ℕ, suc, nat_eq, Bool, true, false, cond, ◌&&◌, List, [], ◌∷◌, map, Some, option_map, slice_get, refl, ap, ◌∙◌}
use Rattle.std.proofs.lemmas.Option.{slice_get-map}
use Rattle.ada_meaning.specs.Bodies.{Body, bodies_of, IsBody}
use Rattle.ada_tree.specs.declared.program.Program.{Program}
use Rattle.ada_tree.specs.Programs.{program_of}
use Rattle.generic_expand.specs.Expanded.{copy_of, copies_of}
use Rattle.statement_code.specs.Kernels.{place_of}
use Rattle.statement_code.proofs.Places.{body_at_place}
use Rattle.storage_layout.specs.Layouts.{layouts_of}
use Rattle.storage_layout.specs.Library.{library_places}
use Rattle.lower.specs.Context.{bodies_before}
use Rattle.lower.specs.Kernel.{bodies_of_copies, body_by, body_of_copy}

both : (a b : Bool) → (a && b) ≡ (b && a)
both true true = refl
both true false = refl
both false true = refl
both false false = refl

pub number_is : (j m : ℕ) (bs : List Body) → bodies_before j m (map copy_of bs) ≡ place_of j m bs
number_is j m [] = refl
number_is j m (b ∷ bs) = λ i. cond (both (nat_eq b.instance j) (nat_eq b.subprogram m) i) 0 (suc (number_is j m bs i))

module _ (p : Program) where
  -- the body with the number of a copy is that copy's
  pub body_is : (j m : ℕ) → IsBody (program_of p) (record { instance = j; subprogram = m })
      → slice_get (bodies_of_copies p (library_places p) (copies_of (program_of p)) (layouts_of p).laid (copies_of (program_of p))) (bodies_before j m (copies_of (program_of p)))
      ≡ Some (body_by p (library_places p) (copies_of (program_of p)) (layouts_of p).laid j (slice_get p.subprograms m))
  body_is j m is =
      let bs = bodies_of (program_of p) in
      let code = body_of_copy p (library_places p) (copies_of (program_of p)) (layouts_of p).laid in
      slice_get-map code (map copy_of bs) (bodies_before j m (map copy_of bs))
      ∙ ap (option_map code) (slice_get-map copy_of bs (bodies_before j m (map copy_of bs)) ∙ ap (option_map copy_of) (ap (slice_get bs) (number_is j m bs) ∙ body_at_place (program_of p) j m is))
