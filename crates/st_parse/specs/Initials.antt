-- The grammar of initial values.
use Rattle.std.specs.Prelude.{◌≡◌, ℕ, List, [], ◌∷◌}
use Rattle.st_types.specs.declared.identifier.Identifier.{Identifier}
use Rattle.st_types.specs.declared.literal.Number.{Number}
use Rattle.st_types.specs.declared.literal.Literal.{Literal}
use Rattle.st_types.specs.declared.literal.Literal.TheVariants as literals
use Rattle.st_lex.specs.declared.mark.Mark.TheVariants as m
use Rattle.st_types.specs.Initials.{Initial, Element, Member, elements_of, members_of}
use Rattle.st_types.specs.Initials as i
use Rattle.st_parse.specs.Tokens.{Tokens, mark, name, whole, constant as constant_of, negative_at, Is, Passes}

-- a literal or the name of a value, or a number with a `-` directly before it
pub data IsConstant : Tokens → Literal → Tokens → Type 0 where
  literal : {ts us : Tokens} {l : Literal} → Is constant_of ts l us → IsConstant ts l us
  negative : {ts us vs : Tokens} {l : Literal} (at : ℕ) (n : Number) → Is (mark m.Minus) ts at us → Is whole us n vs
      → l ≡ literals.Number (negative_at at n) → IsConstant ts l vs

mutual
  pub data IsInitial : Tokens → Initial → Tokens → Type 0 where
    constant : {ts us : Tokens} {x : Initial} (l : Literal) → IsConstant ts l us → x ≡ i.constant l → IsInitial ts x us
    list : {ts us vs ws : Tokens} {x : Initial} (at : ℕ) (xs : List Element) → Is (mark m.OpenBracket) ts at us
        → IsElements us xs vs → Passes (mark m.CloseBracket) vs ws
        → x ≡ i.list at (elements_of xs) → IsInitial ts x ws
    structure : {ts us vs ws : Tokens} {x : Initial} (at : ℕ) (xs : List Member) → Is (mark m.Open) ts at us
        → IsMembers us xs vs → Passes (mark m.Close) vs ws
        → x ≡ i.structure at (members_of xs) → IsInitial ts x ws

  pub data IsElements : Tokens → List Element → Tokens → Type 0 where
    elements : {ts us vs : Tokens} {x : Element} {xs : List Element} → IsElement ts x us → IsMoreElements us xs vs
        → IsElements ts (x ∷ xs) vs

  pub data IsMoreElements : Tokens → List Element → Tokens → Type 0 where
    no_more_elements : {ts : Tokens} → IsMoreElements ts [] ts
    next_element : {ts us vs ws : Tokens} {x : Element} {xs : List Element} → Passes (mark m.Comma) ts us
        → IsElement us x vs → IsMoreElements vs xs ws → IsMoreElements ts (x ∷ xs) ws

  pub data IsElement : Tokens → Element → Tokens → Type 0 where
    single : {ts us : Tokens} {x : Element} (v : Initial) → IsInitial ts v us → x ≡ i.single v → IsElement ts x us
    repeated : {ts us vs ws zs : Tokens} {x : Element} (n : Number) (v : Initial) → Is whole ts n us
        → Passes (mark m.Open) us vs → IsInitial vs v ws → Passes (mark m.Close) ws zs
        → x ≡ i.repeated n v → IsElement ts x zs
    defaults : {ts us vs ws : Tokens} {x : Element} (n : Number) → Is whole ts n us → Passes (mark m.Open) us vs
        → Passes (mark m.Close) vs ws → x ≡ i.defaults n → IsElement ts x ws

  pub data IsMembers : Tokens → List Member → Tokens → Type 0 where
    members : {ts us vs : Tokens} {x : Member} {xs : List Member} → IsMember ts x us → IsMoreMembers us xs vs
        → IsMembers ts (x ∷ xs) vs

  pub data IsMoreMembers : Tokens → List Member → Tokens → Type 0 where
    no_more_members : {ts : Tokens} → IsMoreMembers ts [] ts
    next_member : {ts us vs ws : Tokens} {x : Member} {xs : List Member} → Passes (mark m.Comma) ts us
        → IsMember us x vs → IsMoreMembers vs xs ws → IsMoreMembers ts (x ∷ xs) ws

  pub data IsMember : Tokens → Member → Tokens → Type 0 where
    member : {ts us vs ws : Tokens} {y : Member} (x : Identifier) (v : Initial) → Is name ts x us
        → Passes (mark m.Assign) us vs → IsInitial vs v ws → y ≡ (x, v) → IsMember ts y ws
