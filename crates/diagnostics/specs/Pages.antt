-- The bytes that may reach a terminal.
use Rattle.std.specs.Prelude.{ℕ, ◌==◌, nat_le, Bool, ◌&&◌, ◌||◌}

-- a character that prints as it is: 32 to 126
abbrev pub is_printable : ℕ → Bool
is_printable b = nat_le 32 b && nat_le b 126

-- a printable character, TAB or LF
abbrev pub is_shown : ℕ → Bool
is_shown b = is_printable b || ((b == 9) || (b == 10))
