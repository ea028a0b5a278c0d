use Rattle.std.proofs.Common.{◌≡◌, map, Bool, ◌-◌}
use Rattle.st_lex.specs.declared.token.TokenKind.{TokenKind}
use Rattle.st_parse.specs.Parsers.{Parser, several, loops, gather}
use Rattle.st_parse.specs.Calls.{Tests, CallsRead}
use Rattle.st_parse.proofs.list.several.Given as goal

abbrev pub invariant-loop-turn : goal.invariant-loop-turn
invariant-loop-turn g l = (f : TokenKind → Bool) (p : Parser g.T.Tree.Mirror)
    → Tests (λ ts r. g.B.Fn.post l.fn.begins (ts, tt) r) f
    → CallsRead g.T.Tree.view (λ ts r. g.I.Fn.post l.fn.item (ts, tt) r) p
    → several f p (map g.T.Tree.view l.fn.found.items) l.fn.tokens
    ≡ loops f (gather p) (l._turn-end - l._turn) (map g.T.Tree.view l.found.items) l.tokens
