-- What code depends on, as the definition of a kernel's code has it.
use Rattle.kernel_code.specs.SimpleCode.{Setting}
use Rattle.kernel_code.specs.declared.frame.Frame.{Frame}

abbrev pub setting_of : Frame → Setting
setting_of f = record { width = f.width; exceptions = f.exceptions; layouts = f.layouts.now; first_layout = f.first_layout }
