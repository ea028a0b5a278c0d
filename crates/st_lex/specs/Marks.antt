-- Marks: the longest fits first.
use Rattle.std.specs.Prelude.{ℕ, List, [], ◌∷◌, length, nat_eq, ◌==◌, if◌then◌else◌, Option, Some, None, codes}
use Rattle.std.specs.List.{starts_with}
use Rattle.st_lex.specs.declared.mark.Mark.{Mark}
use Rattle.st_lex.specs.declared.mark.Mark.TheVariants as m
use Rattle.st_lex.specs.declared.keyword.Keyword.TheVariants as k
use Rattle.st_lex.specs.declared.token.TokenKind.TheVariants as kinds
use Rattle.st_lex.specs.declared.fault.LexFault.TheVariants as faults
use Rattle.st_lex.specs.declared.front.Front.{Front}
use Rattle.st_lex.specs.declared.front.Front.TheVariants as fronts

-- the longer ones first
abbrev pub marks : List (List ℕ × Mark)
marks =
    (codes ":=", m.Assign) ∷ (codes "=>", m.Arrow) ∷ (codes "..", m.Range) ∷
    (codes "<=", m.LessOrEqual) ∷ (codes ">=", m.GreaterOrEqual) ∷ (codes "<>", m.NotEqual) ∷
    (codes "<", m.Less) ∷ (codes ">", m.Greater) ∷ (codes "=", m.Equal) ∷
    (codes "+", m.Plus) ∷ (codes "-", m.Minus) ∷ (codes "*", m.Star) ∷ (codes "/", m.Slash) ∷
    (codes "(", m.Open) ∷ (codes ")", m.Close) ∷ (codes "[", m.OpenBracket) ∷ (codes "]", m.CloseBracket) ∷
    (codes ",", m.Comma) ∷ (codes ";", m.Semicolon) ∷ (codes ":", m.Colon) ∷ (codes ".", m.Dot) ∷ []

-- the first entry of the table that the text begins with, with its length
abbrev pub leading : {X : Type 0} → List (List ℕ × X) → List ℕ → Option (X × ℕ)
leading [] text = None
leading (row ∷ rows) text = if starts_with nat_eq text row.0 then Some (row.1, length row.0) else leading rows text

unfoldable pub longest_mark : List ℕ → Option (Mark × ℕ)
longest_mark text = leading marks text

abbrev pub read_mark : Option (Mark × ℕ) → Front
read_mark None = fronts.Fault faults.Byte 0
read_mark (Some found) = fronts.Token (kinds.Mark found.0) found.1

-- `&` is another spelling of AND; bytes that aren't a mark are a fault here
abbrev pub mark_front : List ℕ → Front
mark_front [] = fronts.Fault faults.Byte 0
mark_front (b ∷ bs) = if b == 38 then fronts.Token (kinds.Keyword k.And) 1 else read_mark (longest_mark (b ∷ bs))
