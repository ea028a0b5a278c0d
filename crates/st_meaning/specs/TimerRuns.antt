-- Timers over lists of calls.
use Rattle.std.specs.Prelude.{◌≡◌, ℕ, ℤ, pos, ◌-ℤ◌, ◌≤ℤ◌, List, [], ◌∷◌, ◌++◌, fold, Bool, true, false}
use Rattle.st_meaning.specs.StandardBlocks.{Timer}

-- a call: its moment, IN, and a PT that is not below 0
pub record TimerCall : Type 0 where
  pub now : ℕ
  pub input : Bool
  pub pt : ℕ

abbrev pub TimerStep : Type 0
TimerStep = ℕ → Bool → ℤ → Timer → Timer

-- a timer before its first call
abbrev pub fresh_timer : Timer
fresh_timer = record { q = false; et = pos 0; run = false; start = pos 0 }

abbrev pub called_timer : TimerStep → Timer → TimerCall → Timer
called_timer step t c = step c.now c.input (pos c.pt) t

-- a timer after calls
abbrev pub timer_after : TimerStep → List TimerCall → Timer
timer_after step calls = fold (called_timer step) fresh_timer calls

abbrev pub AllOn : List TimerCall → Type 0
AllOn [] = Unit {0}
AllOn (c ∷ calls) = (c.input ≡ true) × AllOn calls

-- IN was TRUE at the first of the last calls and ever since, and that was at least `pt` ago
pub record WasOnFor (calls : List TimerCall) (pt now : ℕ) : Type 0 where
  pub before : List TimerCall
  pub first : TimerCall
  pub since : List TimerCall
  pub parts : calls ≡ before ++ first ∷ since
  pub on : AllOn (first ∷ since)
  pub long : pos pt ≤ℤ (pos now -ℤ pos first.now)
