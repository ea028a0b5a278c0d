-- Repeated and optional parts of the grammar.
use Rattle.std.specs.Prelude.{List, [], ◌∷◌, Option, Some, None}
use Rattle.st_lex.specs.declared.mark.Mark.TheVariants as m
use Rattle.st_parse.specs.Tokens.{Tokens, mark, Passes}

-- any number of them
pub data Many {A : Type 0} (One : Tokens → A → Tokens → Type 0) : Tokens → List A → Tokens → Type 0 where
  no_more : {ts : Tokens} → Many One ts [] ts
  one_more : {ts us vs : Tokens} {x : A} {xs : List A} → One ts x us → Many One us xs vs → Many One ts (x ∷ xs) vs

-- one or more
pub data Several {A : Type 0} (One : Tokens → A → Tokens → Type 0) : Tokens → List A → Tokens → Type 0 where
  several : {ts us vs : Tokens} {x : A} {xs : List A} → One ts x us → Many One us xs vs → Several One ts (x ∷ xs) vs

pub data AfterComma {A : Type 0} (One : Tokens → A → Tokens → Type 0) : Tokens → A → Tokens → Type 0 where
  after_comma : {ts us vs : Tokens} {x : A} → Passes (mark m.Comma) ts us → One us x vs → AfterComma One ts x vs

-- one or more, with commas between them
pub data Listed {A : Type 0} (One : Tokens → A → Tokens → Type 0) : Tokens → List A → Tokens → Type 0 where
  listed : {ts us vs : Tokens} {x : A} {xs : List A} → One ts x us → Many (AfterComma One) us xs vs
      → Listed One ts (x ∷ xs) vs

-- one, or nothing
pub data Optional {A : Type 0} (One : Tokens → A → Tokens → Type 0) : Tokens → Option A → Tokens → Type 0 where
  absent : {ts : Tokens} → Optional One ts None ts
  present : {ts us : Tokens} {x : A} → One ts x us → Optional One ts (Some x) us
