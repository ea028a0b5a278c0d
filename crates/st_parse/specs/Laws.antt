-- The meaning of a reading's answers for the grammar.
use Rattle.std.specs.Prelude.{◌≡◌, ℕ, [], ◌∷◌, ◌++◌, length, Result, Ok, Err}
use denote.Bor.{Bor}
use Rattle.st_parse.specs.declared.fault.Refusal.TheVariants.{Unexpected, Deep}
use Rattle.st_parse.specs.declared.fault.ReadError.{ReadError}
use Rattle.st_parse.specs.declared.fault.ReadError.TheVariants as errors
use Rattle.st_parse.specs.Tokens.{Tokens}

-- a production: R ts x us says that the tokens ts are those of x and then us
abbrev pub Grammar : Type 0 → Type 1
Grammar A = Tokens → A → Tokens → Type 0

-- nothing, or the same first token
abbrev pub SameHead : Tokens → Tokens → Type 0
SameHead [] more = more ≡ []
SameHead (t ∷ ts) more = (us : Tokens) × (more ≡ t ∷ us)

-- The tokens begin a text of the grammar: others after them complete it, whatever follows.
pub record IsPrefix {A : Type 0} (R : Grammar A) (front : Tokens) : Type 0 where
  pub more : Tokens
  pub tree : A
  pub whole : (after : Tokens) → R (front ++ (more ++ after)) tree after

-- x is read from the tokens, and us are left. E says what may follow it, which depends on the next token alone.
pub record IsRead {A : Type 0} (R : Grammar A) (E : Tokens → Type 0) (ts : Tokens) (x : A) (us : Tokens) : Type 0 where
  pub front : Tokens
  pub parts : ts ≡ front ++ us
  -- it is of the grammar, whatever follows
  pub whole : (after : Tokens) → R (front ++ after) x after
  -- and nothing else is read if the same token comes next
  pub only : (more : Tokens) (y : A) (vs : Tokens) → SameHead us more → E vs → R (front ++ more) y vs
      → (y ≡ x) × (vs ≡ more)

-- The token from which n are left is unexpected: the tokens before it begin a text, and with it they begin none, of
-- any depth.
pub record IsUnexpected {A : Type 0} (R : Grammar A) (E : Tokens → Type 0) (ts : Tokens) (n : ℕ) : Type 0 where
  pub front : Tokens
  pub rest : Tokens
  pub parts : ts ≡ front ++ rest
  pub count : length rest ≡ n
  pub begun : IsPrefix R front
  pub none : (more : Tokens) (y : A) (vs : Tokens) → SameHead rest more → E vs → R (front ++ more) y vs → ⊥

-- Some prefix of the tokens begins a text, and every text that begins with it is too deep.
pub record IsTooDeep {A : Type 0} (R : Grammar A) (E : Tokens → Type 0) (L : A → Type 0) (ts : Tokens) : Type 0 where
  pub front : Tokens
  pub rest : Tokens
  pub parts : ts ≡ front ++ rest
  pub begun : IsPrefix R front
  pub none : (more : Tokens) (y : A) (vs : Tokens) → E vs → R (front ++ more) y vs → L y → ⊥

-- the refusal applies
abbrev pub Applies : {A : Type 0} → Grammar A → (Tokens → Type 0) → (A → Type 0) → Tokens → ReadError → Type 0
Applies R E L ts errors.Memory = Unit {0}
Applies R E L ts (errors.Refused (Unexpected n)) = IsUnexpected R E ts n
Applies R E L ts (errors.Refused Deep) = IsTooDeep R E L ts

-- this tree and these tokens after it, unless an allocation failed
abbrev pub GivesTree : {X A : Type 0} → (X → A × Tokens) → Result X ReadError → A → Tokens → Type 0
GivesTree view (Ok found) x us = view found ≡ (x, us)
GivesTree view (Err errors.Memory) x us = Unit {0}
GivesTree view (Err (errors.Refused f)) x us = ⊥

-- the same for a result that holds the tokens after it
abbrev pub Finds : {X A : Type 0} → (X → A) → Result (X × Bor Tokens) ReadError → A → Tokens → Type 0
Finds view result x us = GivesTree (λ r. (view r.0, r.1.now)) result x us

-- anything may follow it
abbrev pub Anywhere : Tokens → Type 0
Anywhere us = Unit {0}
