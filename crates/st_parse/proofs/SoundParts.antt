-- Repeated and optional parts are sound: a part that is read is of the grammar.
use Rattle.std.proofs.Common.{◌≡◌, ◌<◌, ◌≤◌, Bool, false, List, [], ◌∷◌, length, Option, Some, None, IfSome, sym, subst}
use Rattle.std.proofs.Common.{arith}
use Rattle.std.specs.List.{AllByRecursion}
use Rattle.st_types.specs.declared.identifier.Identifier.{Identifier}
use Rattle.st_lex.specs.declared.token.Token.{Token}
use Rattle.st_lex.specs.declared.token.TokenKind.{TokenKind}
use Rattle.st_lex.specs.declared.mark.Mark.TheVariants as m
use Rattle.st_parse.specs.Tokens.{Tokens, next, Is, mark, name, is_mark}
use Rattle.st_parse.specs.Parsers.{one, several, listed, after_comma as comma}
use Rattle.st_parse.specs.Laws.{Grammar}
use Rattle.st_parse.proofs.Sound.{Family, Any, Seq, Made, made}
use Rattle.st_parse.proofs.SoundReadings.{Sound, sound_then, sound_pure, sound_as, sound_under, sound_if}
use Rattle.st_parse.proofs.SoundReadings.{sound_mark, sound_name}
use Rattle.st_parse.proofs.SoundLists.{Each, More, sound_several, sound_listed}
use Rattle.st_parse.proofs.ExpressionFacts.{is_less}
use Rattle.st_parse.specs.Lists.{Many, no_more, one_more, Several, several as at_least, AfterComma, after_comma, Listed}
use Rattle.st_parse.specs.Lists.{listed as with_commas, Optional, absent, present}
use Rattle.st_parse.specs.Reading.{optional, many, at_least_one}

pub each_all : {A : Type 0} (L : A → Type 0) (xs : List A) → Each L xs → AllByRecursion L xs
each_all L [] all = tt
each_all L (x ∷ xs) all = (all.0, each_all L xs all.1)

-- ---- each takes a token

pub many_less : {A : Type 0} {One : Grammar A} (less : (ts : Tokens) (x : A) (us : Tokens) → One ts x us
    → length us < length ts) {ts us : Tokens} {xs : List A} → Many One ts xs us → length us ≤ length ts
many_less less no_more = omega arith
many_less less (one_more {ts} {us} {vs} {x} o r) = let a = less ts x us o in let b = many_less less r in omega arith

pub several_less : {A : Type 0} {One : Grammar A} (less : (ts : Tokens) (x : A) (us : Tokens) → One ts x us
    → length us < length ts) {ts us : Tokens} {xs : List A} → Several One ts xs us → length us < length ts
several_less less (at_least {ts} {us} {vs} {x} o r) = let a = less ts x us o in let b = many_less less r in omega arith

comma_less : {A : Type 0} {One : Grammar A} (less : (ts : Tokens) (x : A) (us : Tokens) → One ts x us
    → length us < length ts) (ts : Tokens) (x : A) (us : Tokens) → AfterComma One ts x us → length us < length ts
comma_less less rs y ws (after_comma {ts} {us} {vs} {x} c o) = let a = is_less c.1 in let b = less us x vs o in
    omega arith

pub listed_less : {A : Type 0} {One : Grammar A} (less : (ts : Tokens) (x : A) (us : Tokens) → One ts x us
    → length us < length ts) {ts us : Tokens} {xs : List A} → Listed One ts xs us → length us < length ts
listed_less less (with_commas {ts} {us} {vs} {x} o r) = let a = less ts x us o in
    let b = many_less (comma_less less) r in omega arith

pub optional_less : {A : Type 0} {One : Grammar A} (less : (ts : Tokens) (x : A) (us : Tokens) → One ts x us
    → length us < length ts) {ts us : Tokens} {o : Option A} → Optional One ts o us → length us ≤ length ts
optional_less less absent = omega arith
optional_less less (present {ts} {us} {x} o) = let a = less ts x us o in omega arith

pub token_less : {A : Type 0} (of : Token → Option A) (ts : Tokens) (x : A) (us : Tokens) → Is of ts x us
    → length us < length ts
token_less of ts x us i = is_less i

-- ---- reading

module _ {A : Type 0} (f : TokenKind → Bool) (P : Family A) (One : Grammar A) (L : A → Type 0)
    (less : (ts : Tokens) (x : A) (us : Tokens) → One ts x us → length us < length ts) where
  abbrev Behind : List A → Grammar (List A)
  Behind = More f P One (Many One) L (λ ts. no_more) (λ ts x us xs vs o r. one_more o r) less

  all_many : (ts : Tokens) (ys : List A) (us : Tokens) → Behind [] ts ys us → Many One ts ys us
  all_many ts ys us r = subst (λ (zs : List A). Many One ts zs us) (sym r.2) r.1

  pub sound_many : {C : Type 0} → Sound C P One (λ x us. L x)
      → Sound C (λ e. many f (P e)) (Many One) (λ xs us. AllByRecursion L xs × (next f us ≡ false))
  unfolding many
  sound_many p = sound_as all_many (λ xs us d. (each_all L xs d.0, d.1))
      (sound_several f P One (Many One) L (λ ts. no_more) (λ ts x us xs vs o r. one_more o r) less [] (λ c. tt) p)

  all_several : (ts : Tokens) (ys : List A) (us : Tokens) → Seq One (λ x. Behind (x ∷ [])) ts ys us
      → Several One ts ys us
  all_several ts ys us s = subst (λ (zs : List A). Several One ts zs us) (sym s.3.2) (at_least s.2 s.3.1)

  pub sound_at_least_one : {C : Type 0} → Sound C P One (λ x us. L x)
      → Sound C (λ e. at_least_one f (P e)) (Several One) (λ xs us. AllByRecursion L xs × (next f us ≡ false))
  unfolding at_least_one
  sound_at_least_one p = sound_as all_several (λ xs us d. (each_all L xs d.0, d.1)) (sound_then p (λ x.
      sound_several f P One (Many One) L (λ ts. no_more) (λ ts x us xs vs o r. one_more o r) less (x ∷ [])
      (λ c. (c.1.1, tt)) (sound_under (λ c. c.0) p)))

module _ {A : Type 0} (f : TokenKind → Bool) (P : Family A) (One : Grammar A) (L : A → Type 0) where
  there : (ts : Tokens) (o : Option A) (us : Tokens) → Seq One (λ x. Made (Some x)) ts o us → Optional One ts o us
  there ts o us (x, vs, i, made eq) = subst (λ (z : Option A). Optional One ts z vs) (sym eq) (present i)

  not_there : (ts : Tokens) (o : Option A) (us : Tokens) → Made None ts o us → Optional One ts o us
  not_there ts o us (made eq) = subst (λ (z : Option A). Optional One ts z ts) (sym eq) absent

  pub sound_optional : {C : Type 0} → Sound C P One (λ x us. L x)
      → Sound C (λ e. optional f (P e)) (Optional One) (λ o us. IfSome o L)
  unfolding optional
  sound_optional p = sound_if f
      (sound_as there (λ o us d. d) (sound_then p (λ x. sound_pure (Some x) (λ o us. IfSome o L) (λ c us. c.1.1))))
      (sound_as not_there (λ o us d. d) (sound_pure None (λ o us. IfSome o L) (λ c us. tt)))

-- names separated by commas
pub sound_names : {C : Type 0}
    → Sound C (λ e. listed (one name)) (Listed (Is name)) (λ xs us. next (is_mark m.Comma) us ≡ false)
sound_names = sound_as (λ ts xs us r. r) (λ xs us d. d.1)
    (sound_listed (λ e. one name) (Is name) (Many (AfterComma (Is name))) (Listed (Is name)) (λ x. Unit {0})
    (λ ts. no_more) (λ ts us x vs xs ws c o r. one_more (after_comma c o) r) (token_less name)
    (λ ts x us xs vs o r. with_commas o r)
    (sound_as (λ ts x us i. i) (λ x us d. tt) sound_name))

-- names after a first one
abbrev pub ListedFrom : Identifier → Tokens → List Identifier → Tokens → Type 0
ListedFrom x us xs vs = (ts : Tokens) → Is name ts x us → Listed (Is name) ts xs vs

abbrev NextName : Grammar Identifier
NextName = Seq (Is (mark m.Comma)) (λ at. Is name)

next_less : (ts : Tokens) (x : Identifier) (us : Tokens) → NextName ts x us → length us < length ts
next_less ts x us (at, vs, c, n) = let a = is_less c in let b = is_less n in omega arith

next_names : (ts : Tokens) (x : Identifier) (us : Tokens) (xs : List Identifier) (vs : Tokens) → NextName ts x us
    → Many (AfterComma (Is name)) us xs vs → Many (AfterComma (Is name)) ts (x ∷ xs) vs
next_names ts x us xs vs (at, ws, c, n) r = one_more (after_comma (at, c) n) r

sound_next : {C : Type 0} → Sound C (λ e. comma (one name)) NextName (λ x us. Unit {0})
unfolding comma
sound_next = sound_then (sound_mark m.Comma) (λ at. sound_as (λ ts x us i. i) (λ x us d. tt) sound_name)

all_from : (x : Identifier) (us : Tokens) (ys : List Identifier) (vs : Tokens)
    → More (is_mark m.Comma) (λ e. comma (one name)) NextName (Many (AfterComma (Is name))) (λ x. Unit {0})
    (λ ts. no_more) next_names next_less (x ∷ []) us ys vs → ListedFrom x us ys vs
all_from x us ys vs r ts n = subst (λ (zs : List Identifier). Listed (Is name) ts zs vs) (sym r.2) (with_commas n r.1)

pub sound_names_behind : {C : Type 0} (x : Identifier)
    → Sound C (λ e. several (is_mark m.Comma) (comma (one name)) (x ∷ [])) (ListedFrom x) Any
sound_names_behind x = sound_as (all_from x) (λ xs us d. tt)
    (sound_several (is_mark m.Comma) (λ e. comma (one name)) NextName (Many (AfterComma (Is name))) (λ x. Unit {0})
    (λ ts. no_more) next_names next_less (x ∷ []) (λ c. (tt, tt)) sound_next)
