-- A repeated or an optional part is read.
use Rattle.std.proofs.Common.{◌≡◌, ℕ, ◌<◌, Bool, true, false, List, [], ◌∷◌, length, Some, None, Ok, refl, ap, arith}
use Rattle.std.specs.List.{AllByRecursion}
use Rattle.st_types.specs.declared.identifier.Identifier.{Identifier}
use Rattle.st_lex.specs.declared.token.TokenKind.{TokenKind}
use Rattle.st_lex.specs.declared.token.TokenKind.TheVariants.{Keyword}
use Rattle.st_lex.specs.declared.mark.Mark.TheVariants as m
use Rattle.st_lex.specs.declared.keyword.Keyword.{Keyword as KeywordType}
use Rattle.st_parse.specs.Tokens.{Tokens, next, Is, is, keyword, name, is_mark}
use Rattle.st_parse.specs.Parsers.{Parser, one, by_kind, several, listed, after_comma as comma}
use Rattle.st_parse.specs.Laws.{Grammar}
use Rattle.st_parse.proofs.Complete.{one_complete, keyword_kind, Repeats, repeats_halt, repeats_step}
use Rattle.st_parse.proofs.Complete.{several_complete, after_comma_complete, comma_next, listed_complete}
use Rattle.st_parse.proofs.ExpressionFacts.{is_less}
use Rattle.st_parse.specs.Lists.{Many, no_more, one_more, Several, several as at_least, AfterComma, after_comma, Listed}
use Rattle.st_parse.specs.Lists.{listed as with_commas}
use Rattle.st_parse.specs.Reading.{optional, many, at_least_one}

module _ {A : Type 0} (f : TokenKind → Bool) (P : Parser A) (One : Grammar A) (L : A → Type 0)
    (item : (ts : Tokens) (x : A) (us : Tokens) → One ts x us → L x → P ts ≡ Ok (x, us)) where
  module _ (starts : (ts : Tokens) (x : A) (us : Tokens) → One ts x us → next f ts ≡ true)
      (less : (ts : Tokens) (x : A) (us : Tokens) → One ts x us → length us < length ts) where
    many_repeats : {ts us : Tokens} {xs : List A} → Many One ts xs us → AllByRecursion L xs → next f us ≡ false
        → Repeats f P ts xs us
    many_repeats (no_more {ts}) low miss = repeats_halt f P ts miss
    many_repeats (one_more {ts} {us} {vs} {x} {xs} o r) low miss = repeats_step f P ts us vs x xs (starts ts x us o)
        (item ts x us o low.0) (less ts x us o) (many_repeats r low.1 miss)

    pub many_complete : {ts us : Tokens} {xs : List A} → Many One ts xs us → AllByRecursion L xs → next f us ≡ false
        → many f P ts ≡ Ok (xs, us)
    unfolding many
    many_complete {ts = ts} {us = us} {xs = xs} r low miss = several_complete f P ts us [] xs (many_repeats r low miss)

    pub at_least_one_complete : {ts us : Tokens} {xs : List A} → Several One ts xs us → AllByRecursion L xs
        → next f us ≡ false → at_least_one f P ts ≡ Ok (xs, us)
    unfolding at_least_one
    at_least_one_complete (at_least {ts} {us} {vs} {x} {xs} o r) low miss =
        rw (item ts x us o low.0) (several_complete f P us vs (x ∷ []) xs (many_repeats r low.1 miss))

pub optional_none : {A : Type 0} (f : TokenKind → Bool) (P : Parser A) (ts : Tokens) → next f ts ≡ false
    → optional f P ts ≡ Ok (None, ts)
unfolding optional
optional_none f P ts miss = rw miss refl

pub optional_some : {A : Type 0} (f : TokenKind → Bool) (P : Parser A) {ts us : Tokens} {x : A} → next f ts ≡ true
    → P ts ≡ Ok (x, us) → optional f P ts ≡ Ok (Some x, us)
unfolding optional
optional_some f P hit eq = rw (hit, eq) refl

-- names separated by commas
names_repeat : {ts us : Tokens} {xs : List Identifier} → Many (AfterComma (Is name)) ts xs us
    → next (is_mark m.Comma) us ≡ false → Repeats (is_mark m.Comma) (comma (one name)) ts xs us
names_repeat (no_more {ts}) miss = repeats_halt (is_mark m.Comma) (comma (one name)) ts miss
names_repeat (one_more {ts} {us} {vs} {x} {xs} (after_comma c n) r) miss =
    let short : length us < length ts = (let a = is_less c.1 in let b = is_less n in omega arith) in
    repeats_step (is_mark m.Comma) (comma (one name)) ts us vs x xs (comma_next c)
    (after_comma_complete (one name) c (one_complete n)) short (names_repeat r miss)

pub names_complete : {ts us : Tokens} {xs : List Identifier} → Listed (Is name) ts xs us
    → next (is_mark m.Comma) us ≡ false → listed (one name) ts ≡ Ok (xs, us)
names_complete (with_commas n r) miss = listed_complete (one name) (one_complete n) (names_repeat r miss)

-- names after a first one
pub names_behind_complete : {ts us vs : Tokens} {x : Identifier} {xs : List Identifier} → Is name ts x us
    → Many (AfterComma (Is name)) us xs vs → next (is_mark m.Comma) vs ≡ false
    → several (is_mark m.Comma) (comma (one name)) (x ∷ []) us ≡ Ok (x ∷ xs, vs)
names_behind_complete {us = us} {vs = vs} {x = x} {xs = xs} n r miss =
    several_complete (is_mark m.Comma) (comma (one name)) us vs (x ∷ []) xs (names_repeat r miss)

-- by a first keyword
pub by_keyword_complete : {A : Type 0} (F : TokenKind → Parser A) (w : KeywordType) {ts us : Tokens} {at : ℕ}
    → Is (keyword w) ts at us → by_kind F ts ≡ F (Keyword w) ts
by_keyword_complete F w {at = at} (is {t} {us} eq) = ap (λ (k : TokenKind). F k (t ∷ us)) (keyword_kind w t at eq)
