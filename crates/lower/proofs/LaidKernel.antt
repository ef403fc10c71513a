-- The kernel of a typed program is laid out.
use Rattle.std.proofs.Common.{◌≡◌, ℕ, ◌+◌, List, map, Option, Some, slice_get, refl, sym, ap, ◌∙◌, subst, arith}
use Rattle.std.proofs.lemmas.List.{length-map}
use Rattle.cov_base.specs.Lists.{Everywhere}
use Rattle.ada_meaning.specs.Bodies.{bodies_of, StandsIn, IsBody}
use Rattle.ada_meaning.specs.Declared.{object_shape}
use Rattle.ada_meaning.specs.Program as meaning
use Rattle.ada_meaning.specs.Program.{body_target}
use Rattle.ada_meaning.specs.Obligations.{numbers}
use Rattle.ada_meaning.specs.Resolved.{parameters_of}
use Rattle.ada_meaning.specs.WellFormed.{IsWellFormed, IsSubprogram}
use Rattle.ada_meaning.proofs.FormedLaws.{body_formed}
use Rattle.ada_tree.specs.declared.program.Program.{Program}
use Rattle.ada_tree.specs.declared.program.Subprogram.{Subprogram}
use Rattle.ada_tree.specs.Programs.{program_of, raisable_of, subprogram_of, types_of}
use Rattle.ada_resolved.specs.Sizes.{words}
use Rattle.generic_expand.specs.declared.copies.BodyCopy.{BodyCopy}
use Rattle.generic_expand.specs.Expanded.{copy_of, copies_of}
use Rattle.kernel_ir.specs.declared.kernel.Body.{Body as CodeBody}
use Rattle.kernel_ir.specs.declared.kernel.Kernel.{Kernel}
use Rattle.kernel_ir.specs.Sequence.{joined}
use Rattle.statement_code.specs.Bodies.{body_code, ending_code, parameters_code}
use Rattle.statement_code.specs.Kernels.{Scheme}
use Rattle.statement_code.specs.Laid.{IsLaidOut, IsLaidKernel}
use Rattle.statement_code.specs.Programs.{Plan}
use Rattle.storage_layout.specs.Layouts.{HasWord, layouts_of}
use Rattle.storage_layout.specs.Library.{library_places}
use Rattle.lower.specs.Context.{Surroundings, home_by, layout_by, names_by, parameter_at, shape_by, site_by}
use Rattle.lower.specs.Kernel.{body_by, body_in, body_of_copy, kernel_for, surroundings_in}
use Rattle.lower.specs.Schemes.{plan_by, plan_in, scheme_for}
use Rattle.lower.specs.Standing.{AreTypesNamed, IsWithinLimits}
use Rattle.lower.proofs.Copies.{body_is, number_is}
use Rattle.lower.proofs.LaidProgram.{fit_law, small_law}
use Rattle.lower.proofs.LibraryLaws.{IsLibraryLaid, library_laid}
use Rattle.lower.proofs.Names.{body_parameters, names_are, stated}
use Rattle.lower.proofs.Plans as plans
use Rattle.lower.proofs.Types.{meant}
use Rattle.lower.proofs.Unfolded.{block_is}

module _ (p : Program) where
  abbrev P : meaning.Program
  P = program_of p

  abbrev copies : List BodyCopy
  copies = copies_of (program_of p)

  abbrev K : Kernel
  K = kernel_for p (copies_of (program_of p))

  abbrev scheme : Scheme
  scheme = scheme_for p (copies_of (program_of p))

  abbrev around : (j : ℕ) → Subprogram → Surroundings
  around j s = surroundings_in p (library_places p) (copies_of (program_of p)) (layouts_of p).laid j s

  module _ (well : IsWellFormed P) (named : AreTypesNamed p) (limits : IsWithinLimits p) where
    abbrev library : IsLibraryLaid p
    library = library_laid p well limits.library

    -- a body of the kernel
    module _ (j m : ℕ) (s : Subprogram) (at : slice_get p.subprograms m ≡ Some s) (stands : StandsIn P s.generic j) where
      abbrev declared : meaning.Subprogram
      declared = subprogram_of (types_of p.types) s

      abbrev c : Surroundings
      c = around j s

      abbrev plan : Plan
      plan = plan_in p (copies_of (program_of p)) j s

      parameters_are : map (parameter_at c j) s.parameters ≡ parameters_of P (body_target j m)
      parameters_are = body_parameters c named limits j m declared (record { subprogram = s; at = at; is = refl; stands = stands })

      code_is : ◌≡◌ {A = CodeBody} (body_in p (library_places p) (copies_of (program_of p)) (layouts_of p).laid j s) (record {
        code = body_code (names_by c) plan.shape_of plan.home_of (record { width = plan.width; body = scheme.number }) plan.layout_of plan.base plan.gives (parameters_of P (body_target j m)) declared.body;
        width = plan.width;
      })
      code_is = λ i. record {
        code = joined (parameters_code (home_by c) (layout_by c) plan.base 0 (parameters_are i))
            (joined (sym (block_is (types_of p.types) (names_by c) (shape_by c) (home_by c) (site_by c) (layout_by c) plan.base 0 s.body) i) (ending_code plan.gives));
        width = plan.width;
      }

      laid_out : IsBody P (record { instance = j; subprogram = m }) → IsSubprogram P j declared → IsLaidOut P K scheme j m declared plan
      laid_out is formed = record {
        names = names_by c;
        named = names_are c named limits (object_shape P j declared);
        is_body = body_is p j m is ∙ (ap (λ (o : Option Subprogram). Some (body_by p (library_places p) (copies_of (program_of p)) (layouts_of p).laid j o)) at ∙ ap Some code_is);
        gives = refl;
        locals = sym (formed.numbered ∙ ap (numbers 0) (length-map s.objects (meant p)));
        shapes = plans.shapes p (copies_of (program_of p)) j s limits m at stands formed;
        sizes = plans.sizes p (copies_of (program_of p)) j s limits m at stands formed;
        layouts = plans.layouts p (copies_of (program_of p)) j s limits m at stands formed named;
        filled = plans.filled p (copies_of (program_of p)) j s limits m at stands formed named;
        laid = plans.laid p (copies_of (program_of p)) j s limits m at stands formed;
        parameters = plans.parameters p (copies_of (program_of p)) j s limits m at stands formed named;
        outside = library.outside j s;
        few = plans.few p (copies_of (program_of p)) j s limits m at stands formed;
        small = plans.small_base p (copies_of (program_of p)) j s limits m at stands formed;
        narrow = plans.narrow p (copies_of (program_of p)) j s limits m at stands formed;
        ends = plans.ends p (copies_of (program_of p)) j s limits m at stands formed;
      }

    bodies : (j m : ℕ) (is : IsBody P (record { instance = j; subprogram = m })) → IsLaidOut P K scheme j m is.declared (scheme.plan_of j m)
    bodies j m is =
        let st = stated p j m is in
        let formed = body_formed P (record { instance = j; subprogram = m }) well is in
        subst (λ (x : meaning.Subprogram × Plan). IsLaidOut P K scheme j m x.0 x.1) (λ i. (sym st.is i, plan_by p (copies_of (program_of p)) j (sym st.at i)))
        (laid_out j m st.subprogram st.at st.stands is (subst (IsSubprogram P j) st.is formed))

    pub kernel_law : Everywhere HasWord (layouts_of p).layouts → IsLaidKernel P K scheme
    kernel_law words = record {
      many = length-map (copies_of (program_of p)) (body_of_copy p (library_places p) (copies_of (program_of p)) (layouts_of p).laid) ∙ length-map (bodies_of P) copy_of;
      numbers = λ j m is. number_is j m (bodies_of P);
      main_is = refl;
      bodies = bodies;
      apart = library.apart;
      above = library.above;
      room = library.room;
      addressed = library.addressed;
      objects = library.objects;
      begins = library.begins;
      library = library.library;
      library_words = library.word_sizes;
      library_few = library.library_few;
      layouts = fit_law p named.types words;
      contents = small_law p named.types;
      exceptions = ap (λ (n : ℕ). 4 + n) (sym (length-map p.exceptions raisable_of));
      exceptions_few = let few = limits.exceptions in omega (arith, few);
    }
