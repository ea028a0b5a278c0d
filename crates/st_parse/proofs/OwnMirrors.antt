-- Readings of parts that are their own mirrors.
use Rattle.std.proofs.Common.{List, Result, Ok, Err, Vec, Global, Bor, ap, ◌∙◌}
use Rattle.std.specs.Vec.{vec_items}
use Rattle.std.proofs.lemmas.List.{map-id}
use Rattle.st_lex.specs.declared.token.Token.{Token}
use Rattle.st_parse.specs.declared.fault.Refusal.{Refusal}
use Rattle.st_parse.specs.declared.fault.ReadError.{ReadError}
use Rattle.st_parse.specs.Tokens.{Tokens}
use Rattle.st_parse.specs.Parsers.{Reads, as_is, each}

pub plainly :
    {A : Type 0} (r : Result (Vec A Global × Bor (List Token)) ReadError) (q : Result (List A × Tokens) Refusal)
    → Reads (each as_is) r q → Reads vec_items r q
plainly (Ok x) q e = e ∙ ap (λ (xs : List _). Ok (xs, x.1.now)) (map-id x.0.items)
plainly (Err x) q e = e
