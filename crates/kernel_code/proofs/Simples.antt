-- Operations that hold no others do what they mean.
use Rattle.std.proofs.Common.{◌≡◌, ℕ, suc, ◌^◌, ◌≤◌, ◌<◌, length, arith}
use Rattle.cov_base.specs.declared.position.DecId.{DecId}
use Rattle.rv_semantics.specs.Past.{Config}
use Rattle.kernel_ir.specs.declared.kernel.Kernel.{Kernel}
use Rattle.kernel_ir.specs.declared.simple.Simple.{Simple}
use Rattle.kernel_ir.specs.declared.simple.Simple.TheVariants as simple
use Rattle.kernel_ir.specs.World.{World}
use Rattle.kernel_ir.specs.Limits.{most_words}
use Rattle.kernel_code.specs.Line.{Site, HasLines}
use Rattle.kernel_code.specs.SimpleCode.{Targets, Setting, simple_lines}
use Rattle.kernel_code.specs.Does.{IsFair, HasRoom, Like}
use Rattle.kernel_code.specs.Parts.{SimpleDoes}
use Rattle.kernel_code.proofs.Sets.{Ready, number_does, move_does, compare_does, complement_does, offset_does, advance_does, frame_address_does, library_address_does, read_library_does}
use Rattle.kernel_code.proofs.Operators.{arithmetic_does}
use Rattle.kernel_code.proofs.CheckedOps.{negate_does, absolute_does, within_does, index_does, load_does, store_does, write_library_does}
use Rattle.kernel_code.proofs.Outside.{start_does, raise_does, put_does, raise_slot_does, get_does}
use Rattle.kernel_code.proofs.Copies.{copy_does}

module _ (site : Site) (k : Kernel) (own fp left bound n : ℕ) (fair : IsFair site k.exceptions) (room : HasRoom fp bound) (predefined : 4 ≤ k.exceptions) (few : k.exceptions < 2 ^ 31) (library : length k.library ≤ most_words)
    (Out : DecId → Type 0) (e : Setting) (same : e.exceptions ≡ k.exceptions) (t : Targets) (p : ℕ)
    (fill_does : (to l : ℕ) → SimpleDoes site k own fp left bound (suc n) Out e t p (simple.Fill to l)) where
  ready : (s : Simple) → HasLines site own p (simple_lines e t.raise_to p s) → (w : World) (c : Config) → Like site fp left w c → c.state.pc ≡ site.address own p → Ready site own fp left e t.raise_to p s w c
  ready s has w c like there = record { has = has; there = there; like = like }

  pub simple_does : (s : Simple) → SimpleDoes site k own fp left bound (suc n) Out e t p s
  simple_does (simple.Number to x) (in_to, fits) has w c like there =
      number_does site k.exceptions own fp left bound fair room Out e t.raise_to p to x w c in_to fits (ready (simple.Number to x) has w c like there)
  simple_does (simple.Move to j) (in_to, in_j) has w c like there =
      move_does site k.exceptions own fp left bound fair room Out e t.raise_to p to j w c in_to in_j (ready (simple.Move to j) has w c like there)
  simple_does (simple.Compare o to i j) (in_to, in_i, in_j) has w c like there =
      compare_does site k.exceptions own fp left bound fair room Out e t.raise_to p o to i j w c in_to in_i in_j (ready (simple.Compare o to i j) has w c like there)
  simple_does (simple.Complement to j) (in_to, in_j) has w c like there =
      complement_does site k.exceptions own fp left bound fair room Out e t.raise_to p to j w c in_to in_j (ready (simple.Complement to j) has w c like there)
  simple_does (simple.Negate to j) (in_to, in_j) has w c like there =
      negate_does site k.layouts k.exceptions own fp left bound fair room predefined Out (suc n) t p e w c like there to j in_to in_j has
  simple_does (simple.Absolute to j) (in_to, in_j) has w c like there =
      absolute_does site k.layouts k.exceptions own fp left bound fair room predefined Out (suc n) t p e w c like there to j in_to in_j has
  simple_does (simple.Arithmetic o to i j) (in_to, in_i, in_j) has w c like there =
      arithmetic_does site k.layouts k.exceptions own fp left bound fair room predefined Out (suc n) t p e to i j in_to in_i in_j w c like there o has
  simple_does (simple.Within to lower upper) (in_to, fits_lower, fits_upper) has w c like there =
      within_does site k.layouts k.exceptions own fp left bound fair room predefined Out (suc n) t p e w c like there to lower upper in_to fits_lower fits_upper has
  simple_does (simple.Index to j lower upper size) (in_to, in_j, fits_lower, fits_upper, small) has w c like there =
      index_does site k.layouts k.exceptions own fp left bound fair room predefined Out (suc n) t p e w c like there to j lower upper size in_to in_j fits_lower fits_upper small has
  simple_does (simple.Offset to i j) (in_to, in_i, in_j) has w c like there =
      offset_does site k.exceptions own fp left bound fair room Out e t.raise_to p to i j w c in_to in_i in_j (ready (simple.Offset to i j) has w c like there)
  simple_does (simple.Advance to j x) (in_to, in_j, fits) has w c like there =
      advance_does site k.exceptions own fp left bound fair room Out e t.raise_to p to j x w c in_to in_j fits (ready (simple.Advance to j x) has w c like there)
  simple_does (simple.FrameAddress to j) (in_to, in_j) has w c like there =
      frame_address_does site k.exceptions own fp left bound fair room Out e t.raise_to p to j w c in_to in_j (ready (simple.FrameAddress to j) has w c like there)
  simple_does (simple.LibraryAddress to word) (in_to, known) has w c like there =
      library_address_does site k.exceptions own fp left bound fair room Out e t.raise_to p to word w c in_to (omega arith) (ready (simple.LibraryAddress to word) has w c like there)
  simple_does (simple.Load to j) (in_to, in_j) has w c like there =
      load_does site k.layouts k.exceptions own fp left bound fair room predefined Out (suc n) t p e w c like there to j in_to in_j has
  simple_does (simple.Store j to) (in_j, in_to) has w c like there =
      store_does site k.layouts k.exceptions own fp left bound fair room predefined Out (suc n) t p e w c like there j to in_j in_to has
  simple_does (simple.ReadLibrary to word) (in_to, known) has w c like there =
      read_library_does site k.exceptions own fp left bound fair room Out e t.raise_to p to word w c in_to (omega arith) (ready (simple.ReadLibrary to word) has w c like there)
  simple_does (simple.WriteLibrary word from) (known, in_from) has w c like there =
      write_library_does site k.layouts k.exceptions own fp left bound fair room predefined Out (suc n) t p e w c like there word from (omega arith) in_from has
  simple_does (simple.Copy to j words) (in_to, in_j, small) has w c like there =
      copy_does site k.layouts k.exceptions own fp left bound fair room predefined Out (suc n) t p e w c like there to j words in_to in_j small has
  simple_does (simple.Fill to l) fits has w c like there = fill_does to l fits has w c like there
  simple_does (simple.Start s i) fits has w c like there =
      start_does site k.layouts k.exceptions own fp left bound fair room predefined Out (suc n) t p e w c like there s i has
  simple_does (simple.Get to) in_to has w c like there =
      get_does site k.layouts k.exceptions own fp left bound fair room predefined Out (suc n) t p e w c like there to in_to has
  simple_does (simple.Put from) in_from has w c like there =
      put_does site k.layouts k.exceptions own fp left bound fair room predefined Out (suc n) t p e w c like there from in_from has
  simple_does (simple.Raise x) (some, known) has w c like there =
      raise_does site k.layouts k.exceptions own fp left bound fair room predefined Out (suc n) t p e w c like there x some known few has
  simple_does (simple.RaiseSlot from) in_from has w c like there =
      raise_slot_does site k.layouts k.exceptions own fp left bound fair room predefined Out (suc n) t p e w c like there from in_from few same has
