-- The slots that code names.
use Rattle.std.specs.Prelude.{ℕ, List, [], Option, Some, None}
use Rattle.slot_code.specs.Quick.{QuickView}
use Rattle.slot_code.specs.declared.code.Code.{Code}

-- the window of quick code, if there is some
abbrev pub window_in : Option QuickView → List ℕ
window_in None = []
window_in (Some quick) = quick.window

abbrev pub window_of : Code → List ℕ
window_of code = window_in code.quick
