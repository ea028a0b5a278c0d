-- A recursion on a count of turns, beside a loop that counts up.
use Rattle.std.proofs.Common.{◌≡◌, sym, ap, ◌∙◌, ℕ, suc, ◌+◌, ◌-◌, ◌<◌, ◌≤◌, Bool, true, false, List, [], ◌∷◌, ◌++◌}
use Rattle.std.proofs.Common.{map, arith}
use Rattle.std.specs.Prelude.{Ok, if◌then◌else◌}
use Rattle.std.proofs.lemmas.List.{map-append}
use Rattle.st_lex.specs.declared.token.TokenKind.{TokenKind}
use Rattle.st_parse.specs.Tokens.{Tokens, next}
use Rattle.st_parse.specs.Parsers.{Parser, Outcome, and_then, pure, loops, gather}

pub one_more : {X : Type 0} {x : X} (f : ℕ → X) (n at : ℕ) → at < n → x ≡ f (n - at) → x ≡ f (suc (n - (at + 1)))
one_more f n at below e = let turn : n - at ≡ suc (n - (at + 1)) = omega arith in e ∙ ap f turn

pub no_more : {X : Type 0} {x : X} (f : ℕ → X) (n at : ℕ) → n ≤ at → x ≡ f (n - at) → x ≡ f 0
no_more f n at done e = let none : n - at ≡ 0 = omega arith in e ∙ ap f none

-- the result of the turns if the tokens don't go on, if one more is taken, and if none is left
pub stopped : {S : Type 0} (f : TokenKind → Bool) (step : S → Parser S) (n at : ℕ) (s : S) (ts : Tokens)
    (whole : Outcome S) → at < n → whole ≡ loops f step (n - at) s ts → next f ts ≡ false → whole ≡ Ok (s, ts)
unfolding loops
stopped f step n at s ts whole below e stops =
    let rest = loops f step (n - (at + 1)) in
    let turn : whole ≡ (if next f ts then and_then (step s ts) rest else Ok (s, ts)) =
    one_more (λ m. loops f step m s ts) n at below e in
    turn ∙ ap (λ b. if b then and_then (step s ts) rest else Ok (s, ts)) stops

pub went_on : {S : Type 0} (f : TokenKind → Bool) (step : S → Parser S) (n at : ℕ) (s more : S) (ts us : Tokens)
    (whole : Outcome S) → at < n → whole ≡ loops f step (n - at) s ts → next f ts ≡ true → step s ts ≡ Ok (more, us)
    → whole ≡ loops f step (n - (at + 1)) more us
unfolding loops
went_on f step n at s more ts us whole below e goes taken =
    let rest = loops f step (n - (at + 1)) in
    let turn : whole ≡ (if next f ts then and_then (step s ts) rest else Ok (s, ts)) =
    one_more (λ m. loops f step m s ts) n at below e in
    turn ∙ ap (λ b. if b then and_then (step s ts) rest else Ok (s, ts)) goes ∙ ap (λ o. and_then o rest) taken

pub ended : {S : Type 0} (f : TokenKind → Bool) (step : S → Parser S) (n at : ℕ) (s : S) (ts : Tokens)
    (whole : Outcome S) → n ≤ at → whole ≡ loops f step (n - at) s ts → whole ≡ Ok (s, ts)
unfolding loops
ended f step n at s ts whole done e = no_more (λ m. loops f step m s ts) n at done e

-- the same for one more item of a list
pub gathered : {A B : Type 0} (v : A → B) (f : TokenKind → Bool) (item : Parser B) (n at : ℕ) (found more : List A)
    (x : A) (ts us : Tokens) (whole : Outcome (List B)) → at < n
    → whole ≡ loops f (gather item) (n - at) (map v found) ts → next f ts ≡ true → item ts ≡ Ok (v x, us)
    → more ≡ found ++ x ∷ [] → whole ≡ loops f (gather item) (n - (at + 1)) (map v more) us
gathered v f item n at found more x ts us whole below e goes read pushed =
    let both = map v found ++ v x ∷ [] in
    let one = ap (λ o. and_then o (λ y. pure (map v found ++ y ∷ []))) read in
    went_on f (gather item) n at (map v found) both ts us whole below e goes one
    ∙ ap (λ l. loops f (gather item) (n - (at + 1)) l us) (sym (ap (map v) pushed ∙ map-append v found (x ∷ [])))
