-- Each text has tokens or a first fault, and not both.
use Rattle.std.proofs.Common.{◌≡◌, ℕ, zero, suc, ◌+◌, ◌<◌, ◌≤◌, List, [], ◌∷◌, ◌⊎◌, length, drop, refl, arith, inl, inr}
use Rattle.std.proofs.Common.{length-drop}
use Rattle.st_lex.specs.declared.token.TokenKind.{TokenKind}
use Rattle.st_lex.specs.declared.fault.LexFault.{LexFault}
use Rattle.st_lex.specs.declared.front.Front.{Front}
use Rattle.st_lex.specs.declared.front.Front.TheVariants as fronts
use Rattle.st_lex.specs.Fronts.{front_of}
use Rattle.st_lex.specs.Texts.{ends, blank, token, HasFault, here, after_blank, after_token}
use Rattle.st_lex.specs.Laws.{IsSpelled, IsBroken}
use Rattle.st_lex.proofs.Orders.{within}

pub one_fault : {at : ℕ} {text : List ℕ} {f g : LexFault} {p q : ℕ} → HasFault at text f p → HasFault at text g q
    → (f ≡ g) × (p ≡ q)
one_fault (here n e) (here m h) = let k : m ≡ n = cc in (cc, cc)
one_fault (here n e) (after_blank m h t) = absurd (cc)
one_fault (here n e) (after_token k m h t) = absurd (cc)
one_fault (after_blank n e s) (here m h) = absurd (cc)
one_fault (after_blank n e s) (after_blank m h t) = let k : m ≡ n = cc in let t' = rw k at t in one_fault s t'
one_fault (after_blank n e s) (after_token k m h t) = absurd (cc)
one_fault (after_token k n e s) (here m h) = absurd (cc)
one_fault (after_token k n e s) (after_blank m h t) = absurd (cc)
one_fault (after_token k n e s) (after_token l m h t) = let q : m ≡ n = cc in let t' = rw q at t in one_fault s t'

abbrev pub IsDecided : ℕ → List ℕ → Type 0
IsDecided at text = IsSpelled at text ⊎ IsBroken at text

over_blank : (at n : ℕ) (text : List ℕ) → front_of text ≡ fronts.Blank n → IsDecided (at + n) (drop n text)
    → IsDecided at text
over_blank at n text e (inl s) = inl (s.0, blank n e s.1)
over_blank at n text e (inr b) = inr (b.0, b.1, after_blank n e b.2)

over_token : (at n : ℕ) (kind : TokenKind) (text : List ℕ) → front_of text ≡ fronts.Token kind n
    → IsDecided (at + n) (drop n text) → IsDecided at text
over_token at n kind text e (inl s) = inl (record { kind = kind; start = at; end = at + n } ∷ s.0, token kind n e s.1)
over_token at n kind text e (inr b) = inr (b.0, b.1, after_token kind n e b.2)

step : (at : ℕ) (text : List ℕ) (front : Front) → front_of text ≡ front
    → ((n : ℕ) → 0 < n → n ≤ length text → IsDecided (at + n) (drop n text)) → IsDecided at text
step at text fronts.End e rest = inl ([], ends e)
step at text (fronts.Blank n) e rest = let w : (0 < n) × (n ≤ length text) = within text (fronts.Blank n) e in
    over_blank at n text e (rest n w.0 w.1)
step at text (fronts.Token kind n) e rest = let w : (0 < n) × (n ≤ length text) = within text (fronts.Token kind n) e in
    over_token at n kind text e (rest n w.0 w.1)
step at text (fronts.Fault fault n) e rest = inr (fault, at + n, here n e)

decided : (most at : ℕ) (text : List ℕ) → length text ≤ most → IsDecided at text
decided zero at text le = step at text (front_of text) refl (λ n some within. absurd (omega arith))
decided (suc most) at text le = step at text (front_of text) refl
    (λ n some within. decided most (at + n) (drop n text) (omega (arith, length-drop n text)))

pub each_is_decided : (text : List ℕ) → IsDecided 0 text
each_is_decided text = decided (length text) 0 text (omega arith)
