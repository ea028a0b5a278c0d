-- The place of a refusal.
use Rattle.std.specs.Prelude.{ℕ, ◌-◌, [], ◌∷◌, length, drop}
use Rattle.st_parse.specs.declared.fault.Refusal.TheVariants.{Unexpected, Deep}
use Rattle.st_parse.specs.declared.fault.ReadError.{ReadError}
use Rattle.st_parse.specs.declared.fault.ReadError.TheVariants as errors
use Rattle.st_parse.specs.declared.fault.ParseError.{ParseError}
use Rattle.st_parse.specs.declared.fault.ParseError.TheVariants as told
use Rattle.st_parse.specs.Tokens.{Tokens}

-- where the last token ends
abbrev pub end_of : ℕ → Tokens → ℕ
end_of end [] = end
end_of end (t ∷ ts) = end_of t.end ts

-- where the first of the tokens begins, or the place given if there is none
abbrev pub start_of : ℕ → Tokens → ℕ
start_of end [] = end
start_of end (t ∷ ts) = t.start

-- the token from which `n` are left, or the end of the last if none is left
abbrev pub place_left : Tokens → ℕ → ℕ
place_left ts n = start_of (end_of 0 ts) (drop (length ts - n) ts)

abbrev pub parse_error : Tokens → ReadError → ParseError
parse_error ts errors.Memory = told.Memory
parse_error ts (errors.Refused Deep) = told.Deep
parse_error ts (errors.Refused (Unexpected n)) = told.Unexpected (place_left ts n)
