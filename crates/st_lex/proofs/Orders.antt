-- Laws of the tokens of a text, by induction on its spelling.
use Rattle.std.proofs.Common.{◌≡◌, ℕ, ◌+◌, ◌-◌, ◌<◌, ◌≤◌, Bool, List, [], ◌∷◌, ◌&&◌, length, take, drop, refl, sym, ap}
use Rattle.std.proofs.Common.{subst, ◌∙◌, arith, length-drop}
use Rattle.std.specs.Prelude.{slice_index}
use Rattle.std.proofs.lemmas.List.{drop-drop, get_or-drop, drop_all, length-take-le}
use Rattle.st_types.specs.declared.limits.TheConstants.{MAX_SOURCE_BYTES}
use Rattle.st_lex.specs.declared.token.TokenKind.{TokenKind}
use Rattle.st_lex.specs.declared.token.Token.{Token}
use Rattle.st_lex.specs.declared.front.Front.{Front}
use Rattle.st_lex.specs.declared.front.Front.TheVariants as fronts
use Rattle.st_lex.specs.Characters.{is_word_character}
use Rattle.st_lex.specs.Fronts.{front_of, IsWithin}
use Rattle.st_lex.specs.Texts.{Spells, ends, blank, token, Lexes}
use Rattle.st_lex.specs.Laws.{AreInOrder, Each, IsItsSlice, IsParted, IsWholeToken}
use Rattle.st_lex.proofs.Within.{front_within}
use Rattle.st_lex.proofs.Sound.{IsSound, IsCut, front_sound}

pub within : (text : List ℕ) (front : Front) → front_of text ≡ front → IsWithin (length text) front
within text front e = subst (IsWithin (length text)) e (front_within text)

sound : (text : List ℕ) (front : Front) → front_of text ≡ front → IsSound text front
sound text front e = subst (IsSound text) e (front_sound text)

earlier : (from to end : ℕ) (tokens : List Token) → from ≤ to → AreInOrder to end tokens → AreInOrder from end tokens
earlier from to end [] = λ le h. omega arith
earlier from to end (t ∷ ts) = λ le h. (omega (arith, h.0), h.1, h.2)

end_is : (at n : ℕ) (text : List ℕ) → n ≤ length text → at + n + length (drop n text) ≡ at + length text
end_is at n text le = omega (arith, length-drop n text)

in_order : {at : ℕ} {text : List ℕ} {tokens : List Token} → Spells at text tokens
    → AreInOrder at (at + length text) tokens
in_order (ends e) = omega arith
in_order {at} {text} {tokens} (blank n e s) =
    let w : (0 < n) × (n ≤ length text) = within text (fronts.Blank n) e in
    earlier at (at + n) (at + length text) tokens (omega arith)
    (subst (λ m. AreInOrder (at + n) m tokens) (end_is at n text w.1) (in_order s))
in_order {at} {text} (token {tokens} kind n e s) =
    let w : (0 < n) × (n ≤ length text) = within text (fronts.Token kind n) e in
    (omega arith, omega (arith, w.0), subst (λ m. AreInOrder (at + n) m tokens) (end_is at n text w.1) (in_order s))

pub all_in_order : (text : List ℕ) (tokens : List Token) → Lexes text tokens → AreInOrder 0 (length text) tokens
all_in_order text tokens s = let e : 0 + length text ≡ length text = omega arith in
    subst (λ m. AreInOrder 0 m tokens) e (in_order s.spells)

-- slices

empty_ends : front_of [] ≡ fronts.End
unfolding front_of
empty_ends = refl

abbrev pub token_at : TokenKind → ℕ → ℕ → Token
token_at kind start end = record { kind = kind; start = start; end = end }

alone : (word : List ℕ) (kind : TokenKind) (n m : ℕ) → length word ≡ n → front_of word ≡ fronts.Token kind n → m ≡ n
    → Spells 0 word (token_at kind 0 m ∷ [])
alone word kind n m len e same =
    let rest : front_of (drop n word) ≡ fronts.End = ap front_of (drop_all n word (omega (arith, len))) ∙ empty_ends in
    let s : Spells 0 word (token_at kind 0 (0 + n) ∷ []) = token kind n e (ends rest) in
    let same' : 0 + n ≡ m = omega (arith, same) in
    subst (λ x. Spells 0 word (token_at kind 0 x ∷ [])) same' s

its_slice : (whole : List ℕ) (at n : ℕ) (kind : TokenKind) → length whole ≤ MAX_SOURCE_BYTES
    → n ≤ length (drop at whole) → front_of (take n (drop at whole)) ≡ fronts.Token kind n
    → IsItsSlice whole (token_at kind at (at + n))
its_slice whole at n kind short le e =
    let len : length (take n (drop at whole)) ≡ n = length-take-le n (drop at whole) le in
    let m : n ≡ at + n - at = omega arith in
    subst (λ x. Lexes (take x (drop at whole)) (token_at kind 0 (at + n - at) ∷ [])) m
    (record {
      short = omega (arith, len, length-drop at whole);
      spells =
          alone (take n (drop at whole)) kind n (at + n - at) len e (sym m);
    })

-- longest runs

abbrev pub W : ℕ → Bool
W b = is_word_character b

parted : (whole : List ℕ) (at n : ℕ) → 0 < n → IsCut (drop at whole) n → IsParted whole (at + n)
parted whole at n h cut = λ _.
    let i : at + (n - 1) ≡ at + n - 1 = omega arith in
    let e : slice_index (drop at whole) (n - 1) ≡ slice_index whole (at + n - 1) = get_or-drop at whole (n - 1) 0
    ∙ ap (slice_index whole) i in
    let f : slice_index (drop at whole) n ≡ slice_index whole (at + n) = get_or-drop at whole n 0 in
    sym (ap (λ y. W (slice_index whole (at + n - 1)) && W y) f)
    ∙ sym (ap (λ x. W x && W (slice_index (drop at whole) n)) e) ∙ cut

abbrev pub IsLawful : List ℕ → Token → Type 0
IsLawful whole t = IsItsSlice whole t × IsWholeToken whole t

lawful : {at : ℕ} {text : List ℕ} {tokens : List Token} (whole : List ℕ) → length whole ≤ MAX_SOURCE_BYTES
    → text ≡ drop at whole → IsParted whole at → Spells at text tokens → Each (IsLawful whole) tokens
lawful whole short q p (ends e) = tt
lawful {at} {text} {tokens} whole short q p (blank n e s) =
    let w : (0 < n) × (n ≤ length text) = within text (fronts.Blank n) e in
    let cut : IsCut text n = sound text (fronts.Blank n) e in
    lawful whole short (ap (drop n) q ∙ drop-drop n at whole) (parted whole at n w.0 (subst (λ x. IsCut x n) q cut)) s
lawful {at} {text} whole short q p (token {tokens} kind n e s) =
    let w : (0 < n) × (n ≤ length text) = within text (fronts.Token kind n) e in
    let f : IsCut text n × (front_of (take n text) ≡ fronts.Token kind n) = sound text (fronts.Token kind n) e in
    let behind : IsParted whole (at + n) = parted whole at n w.0 (subst (λ x. IsCut x n) q f.0) in
    let slice : IsItsSlice whole (token_at kind at (at + n)) = its_slice whole at n kind short
    (subst (λ x. n ≤ length x) q w.1) (subst (λ x. front_of (take n x) ≡ fronts.Token kind n) q f.1) in
    ((slice, (p, behind)), lawful whole short (ap (drop n) q ∙ drop-drop n at whole) behind s)

firsts : (whole : List ℕ) (tokens : List Token) → Each (IsLawful whole) tokens → Each (IsItsSlice whole) tokens
firsts whole [] = λ h. tt
firsts whole (t ∷ ts) = λ h. (h.0.0, firsts whole ts h.1)

seconds : (whole : List ℕ) (tokens : List Token) → Each (IsLawful whole) tokens → Each (IsWholeToken whole) tokens
seconds whole [] = λ h. tt
seconds whole (t ∷ ts) = λ h. (h.0.1, seconds whole ts h.1)

all_lawful : (text : List ℕ) (tokens : List Token) → Lexes text tokens → Each (IsLawful text) tokens
all_lawful text tokens s = lawful {at = 0} text s.short refl (λ h. absurd (omega arith)) s.spells

pub each_is_its_slice : (text : List ℕ) (tokens : List Token) → Lexes text tokens → Each (IsItsSlice text) tokens
each_is_its_slice text tokens s = firsts text tokens (all_lawful text tokens s)

pub each_is_whole : (text : List ℕ) (tokens : List Token) → Lexes text tokens → Each (IsWholeToken text) tokens
each_is_whole text tokens s = seconds text tokens (all_lawful text tokens s)
