-- One text has one list of tokens, or one first fault.
use Rattle.std.proofs.Common.{◌≡◌, ℕ, ◌+◌, ◌≤◌, List, [], ◌∷◌, ◌++◌, length, take, drop, refl, sym, ap, ◌∙◌}
use Rattle.std.proofs.Common.{append_assoc, arith, ◌-◌, length-drop}
use Rattle.std.proofs.lemmas.List.{drop-drop, append-nil, take_all}
use Rattle.st_lex.specs.declared.token.TokenKind.{TokenKind}
use Rattle.st_lex.specs.declared.front.Front.{Front}
use Rattle.st_lex.specs.declared.front.Front.TheVariants as fronts
use Rattle.st_lex.specs.declared.fault.LexFault.{LexFault}
use Rattle.st_lex.specs.declared.token.Token.{Token}
use Rattle.st_lex.specs.Texts.{Spells, ends, blank, token, HasFault, here, after_blank, after_token}
use Rattle.st_lex.specs.Fronts.{IsWithin, front_of}

-- one text has one list of tokens
pub one_list : {at : ℕ} {text : List ℕ} {a b : List Token} → Spells at text a → Spells at text b → a ≡ b
one_list (ends e) (ends f) = refl
one_list (ends e) (blank n f s) = cc
one_list (ends e) (token k n f s) = cc
one_list (blank n e s) (ends f) = cc
one_list (blank n e s) (blank m f t) = let k : m ≡ n = cc in let t' = rw k at t in one_list s t'
one_list (blank n e s) (token k m f t) = cc
one_list (token k n e s) (ends f) = cc
one_list (token k n e s) (blank m f t) = cc
one_list (token k n e s) (token l m f t) = let q : m ≡ n = cc in let r : l ≡ k = cc in let t' = rw q at t in
    let rest = one_list s t' in cc

-- if there is a fault there are no tokens
pub no_list : {at : ℕ} {text : List ℕ} {a : List Token} {fault : LexFault} {place : ℕ} → HasFault at text fault place
    → Spells at text a → ⊥
no_list (here n e) (ends f) = cc
no_list (here n e) (blank m f s) = cc
no_list (here n e) (token k m f s) = cc
no_list (after_blank n e b) (ends f) = cc
no_list (after_blank n e b) (blank m f t) = let k : m ≡ n = cc in let t' = rw k at t in no_list b t'
no_list (after_blank n e b) (token k m f t) = cc
no_list (after_token k n e b) (ends f) = cc
no_list (after_token k n e b) (blank m f t) = cc
no_list (after_token k n e b) (token l m f t) = let q : m ≡ n = cc in let t' = rw q at t in no_list b t'

pub rest_is : (text : List ℕ) (at : ℕ) → take (length text - at) (drop at text) ≡ drop at text
rest_is text at = take_all _ _ (omega (arith, length-drop at text))

abbrev pub Shown : List ℕ → ℕ → Front → Type 0
Shown text at front = front ≡ front_of (take (length text - at) (drop at text))

front_at : (text : List ℕ) (at : ℕ) (front : Front) → Shown text at front → front_of (drop at text) ≡ front
front_at text at front e = sym (e ∙ ap front_of (rest_is text at))

pub blank_within : (text : List ℕ) (at n : ℕ) (front : Front) → at ≤ length text
    → IsWithin (length (take (length text - at) (drop at text))) front → front ≡ fronts.Blank n → at + n ≤ length text
blank_within text at n front le h e = let w = rw (e, rest_is text at) at h in let m : n ≤ length (drop at text) = w.1 in
    omega (arith, length-drop at text)

pub token_within : (text : List ℕ) (at n : ℕ) (kind : TokenKind) (front : Front) → at ≤ length text
    → IsWithin (length (take (length text - at) (drop at text))) front → front ≡ fronts.Token kind n
    → at + n ≤ length text
token_within text at n kind front le h e = let w = rw (e, rest_is text at) at h in
    let m : n ≤ length (drop at text) = w.1 in omega (arith, length-drop at text)

pub over_blank : (text : List ℕ) (at n : ℕ) (front : Front) (tokens : List Token) → Shown text at front
    → front ≡ fronts.Blank n → Spells (at + n) (drop (at + n) text) tokens → Spells at (drop at text) tokens
over_blank text at n front tokens e f s = blank n (front_at text at front e ∙ f) (rw (drop-drop n at text) s)

pub over_token : (text : List ℕ) (at n : ℕ) (kind : TokenKind) (front : Front) (tokens : List Token)
    → Shown text at front → front ≡ fronts.Token kind n → Spells (at + n) (drop (at + n) text) tokens
    → Spells at (drop at text) (record { kind = kind; start = at; end = at + n } ∷ tokens)
over_token text at n kind front tokens e f s = token kind n (front_at text at front e ∙ f) (rw (drop-drop n at text) s)

pub past_blank : (text : List ℕ) (at n : ℕ) (front : Front) (fault : LexFault) (place : ℕ) → Shown text at front
    → front ≡ fronts.Blank n → HasFault (at + n) (drop (at + n) text) fault place
    → HasFault at (drop at text) fault place
past_blank text at n front fault place e f s = after_blank n (front_at text at front e ∙ f) (rw (drop-drop n at text) s)

pub past_token : (text : List ℕ) (at n : ℕ) (kind : TokenKind) (front : Front) (fault : LexFault) (place : ℕ)
    → Shown text at front → front ≡ fronts.Token kind n → HasFault (at + n) (drop (at + n) text) fault place
    → HasFault at (drop at text) fault place
past_token text at n kind front fault place e f s =
    after_token kind n (front_at text at front e ∙ f) (rw (drop-drop n at text) s)

pub at_end : (text : List ℕ) (at : ℕ) (tokens : List Token) (front : Front) → Shown text at front → front ≡ fronts.End
    → ((tail : List Token) → Spells at (drop at text) tail → Spells 0 text (tokens ++ tail)) → Spells 0 text tokens
at_end text at tokens front e f so_far = rw (append-nil tokens) at (so_far [] (ends (front_at text at front e ∙ f)))

pub at_fault : (text : List ℕ) (at n : ℕ) (fault : LexFault) (front : Front) → Shown text at front
    → front ≡ fronts.Fault fault n
    → ((fault : LexFault) (place : ℕ) → HasFault at (drop at text) fault place → HasFault 0 text fault place)
    → HasFault 0 text fault (at + n)
at_fault text at n fault front e f so_far = so_far fault (at + n) (here n (front_at text at front e ∙ f))

pub pushed : (t : Token) (text : List ℕ) (old new tail : List Token) → new ≡ old ++ t ∷ []
    → Spells 0 text (old ++ t ∷ tail) → Spells 0 text (new ++ tail)
pushed t text old new tail e s = rw e (rw (append_assoc old (t ∷ []) tail) s)
