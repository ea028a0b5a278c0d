-- Lists that are read item by item are sound.
use Rattle.std.proofs.Common.{◌≡◌, ℕ, ◌<◌, Bool, true, false, List, [], ◌∷◌, ◌++◌, length, refl, sym, ap, subst, ◌∙◌}
use Rattle.std.proofs.Common.{arith, append_assoc}
use Rattle.std.proofs.lemmas.List.{append-nil}
use Rattle.st_lex.specs.declared.token.TokenKind.{TokenKind}
use Rattle.st_lex.specs.declared.mark.Mark.TheVariants as m
use Rattle.st_parse.specs.Tokens.{Tokens, next, Is, is, mark, is_mark, Passes}
use Rattle.st_parse.specs.Parsers.{pure, gather, several, after_comma, listed}
use Rattle.st_parse.specs.Laws.{Grammar, IsPrefix}
use Rattle.st_parse.proofs.Sound.{Family, Told, Tells, Seq, Made, made, made_begins, then_at, told_pure}
use Rattle.st_parse.proofs.SoundTurns.{told_turns}
use Rattle.st_parse.proofs.SoundReadings.{Sound, sound_then, sound_as, sound_under, sound_mark}

-- each element of the list has the property
abbrev pub Each : {A : Type 0} → (A → Type 0) → List A → Type 0
Each L [] = Unit {0}
Each L (x ∷ xs) = L x × Each L xs

pub each_push : {A : Type 0} (L : A → Type 0) (found : List A) (x : A) → Each L found → L x → Each L (found ++ x ∷ [])
each_push L [] x all l = (l, tt)
each_push L (y ∷ found) x all l = (all.0, each_push L found x all.1 l)

module _ {A : Type 0} (f : TokenKind → Bool) (P : Family A) (One : Grammar A) (Rest : Grammar (List A)) (L : A → Type 0)
    (nil : (ts : Tokens) → Rest ts [] ts) (cons : (ts : Tokens) (x : A) (us : Tokens) (xs : List A) (vs : Tokens)
    → One ts x us → Rest us xs vs → Rest ts (x ∷ xs) vs)
    (less : (ts : Tokens) (x : A) (us : Tokens) → One ts x us → length us < length ts) where
  -- after those that were found
  abbrev pub More : List A → Grammar (List A)
  More found ts ys us = (xs : List A) × Rest ts xs us × (ys ≡ found ++ xs)

  abbrev Step : List A → Grammar (List A)
  Step found = Seq One (λ x. Made (found ++ x ∷ []))

  gathered : (found : List A) (ts : Tokens) (x : A) (vs : Tokens) (ys : List A) (us : Tokens) (zs : List A)
      (ws : Tokens) → One ts x vs → Made (found ++ x ∷ []) vs ys us → More ys us zs ws → More found ts zs ws
  gathered found ts x vs ys us zs ws o (made eq) t =
      (x ∷ t.0, cons ts x us t.0 ws o t.1, t.2 ∙ (ap (λ (qs : List A). qs ++ t.0) eq ∙ append_assoc found (x ∷ []) t.0))

  more : (found : List A) (ts : Tokens) (ys : List A) (us : Tokens) (zs : List A) (ws : Tokens) → Step found ts ys us
      → More ys us zs ws → More found ts zs ws
  more found ts ys us zs ws s t = gathered found ts s.0 s.1 ys us zs ws s.2 s.3 t

  shorter : (found : List A) (ts : Tokens) (x : A) (vs : Tokens) (ys : List A) (us : Tokens) → One ts x vs
      → Made (found ++ x ∷ []) vs ys us → length us < length ts
  shorter found ts x vs ys us o (made eq) = less ts x us o

  abbrev All : List A → Tokens → Type 0
  All xs us = Each L xs

  gather_told : (found : List A) (ts : Tokens) → Each L found → Told P One (λ x us. L x) ts (P 0 ts)
      → Told (λ e. gather (P e) found) (Step found) All ts (gather (P 0) found ts)
  gather_told found ts all told = then_at P (λ x e. pure (found ++ x ∷ [])) One (λ x. Made (found ++ x ∷ []))
      (λ x us. L x) All (λ x. made_begins (found ++ x ∷ [])) ts (P 0 ts) told
      (λ x us eq k. told_pure (found ++ x ∷ []) All us (each_push L found x all k.low))

  pub told_several : (found : List A) → Each L found
      → ((ts : Tokens) → next f ts ≡ true → Told P One (λ x us. L x) ts (P 0 ts))
      → Tells (λ e. several f (P e) found) (More found) (λ xs us. Each L xs × (next f us ≡ false))
  told_several found all tells ts = told_turns f (λ e s. gather (P e) s) More Step All
      (λ s us. ([], nil us, sym (append-nil s))) more (λ s us s' vs o. shorter s us o.0 o.1 s' vs o.2 o.3)
      (λ s us i hit. gather_told s us i (tells us hit)) found ts all

  pub more_begins : (found : List A) → IsPrefix (More found) []
  more_begins found = record { more = []; tree = found ++ []; whole = λ after. ([], nil after, refl) }

  pub sound_several : {C : Type 0} (found : List A) → (C → Each L found) → Sound C P One (λ x us. L x)
      → Sound C (λ e. several f (P e) found) (More found) (λ xs us. Each L xs × (next f us ≡ false))
  sound_several found all p =
      record { begins = more_begins found; tells = λ c. told_several found (all c) (λ ts hit. p.tells c ts) }

-- ---- with commas

module _ {A : Type 0} (P : Family A) (One : Grammar A) (Rest List1 : Grammar (List A)) (L : A → Type 0)
    (nil : (ts : Tokens) → Rest ts [] ts)
    (cons : (ts : Tokens) (us : Tokens) (x : A) (vs : Tokens) (xs : List A) (ws : Tokens) → Passes (mark m.Comma) ts us
    → One us x vs → Rest vs xs ws → Rest ts (x ∷ xs) ws)
    (less : (ts : Tokens) (x : A) (us : Tokens) → One ts x us → length us < length ts)
    (make : (ts : Tokens) (x : A) (us : Tokens) (xs : List A) (vs : Tokens) → One ts x us → Rest us xs vs
    → List1 ts (x ∷ xs) vs) where
  abbrev Comma : Grammar A
  Comma = Seq (Is (mark m.Comma)) (λ at. One)

  sound_after_comma : {C : Type 0} → Sound C P One (λ x us. L x) → Sound C (λ e. after_comma (P e)) Comma (λ x us. L x)
  unfolding after_comma
  sound_after_comma p = sound_then (sound_mark m.Comma) (λ at. sound_under (λ c. c.0) p)

  comma_less : (ts : Tokens) (at : ℕ) (us : Tokens) (x : A) (vs : Tokens) → Is (mark m.Comma) ts at us → One us x vs
      → length vs < length ts
  comma_less ts at us x vs (is eq) o = let short = less us x vs o in omega arith

  rest_cons : (ts : Tokens) (x : A) (us : Tokens) (xs : List A) (vs : Tokens) → Comma ts x us → Rest us xs vs
      → Rest ts (x ∷ xs) vs
  rest_cons ts x us xs vs c r = cons ts c.1 x us xs vs (c.0, c.2) c.3 r

  abbrev Others : List A → Grammar (List A)
  Others = More (is_mark m.Comma) (λ e. after_comma (P e)) Comma Rest L nil rest_cons
      (λ ts x us c. comma_less ts c.0 c.1 x us c.2 c.3)

  all_listed : (ts : Tokens) (ys : List A) (vs : Tokens) → Seq One (λ x. Others (x ∷ [])) ts ys vs → List1 ts ys vs
  all_listed ts ys vs s = subst (λ (zs : List A). List1 ts zs vs) (sym s.3.2) (make ts s.0 s.1 s.3.0 vs s.2 s.3.1)

  -- items after a first one
  pub sound_more : {C : Type 0} (x : A) → (C → L x) → Sound C P One (λ x us. L x)
      → Sound C (λ e. several (is_mark m.Comma) (after_comma (P e)) (x ∷ []))
      (λ ts ys us. (xs : List A) × Rest ts xs us × (ys ≡ (x ∷ []) ++ xs))
      (λ xs us. Each L xs × (next (is_mark m.Comma) us ≡ false))
  sound_more x low p = sound_several (is_mark m.Comma) (λ e. after_comma (P e)) Comma Rest L nil rest_cons
      (λ ts x us c. comma_less ts c.0 c.1 x us c.2 c.3) (x ∷ []) (λ c. (low c, tt)) (sound_after_comma p)

  pub sound_listed : {C : Type 0} → Sound C P One (λ x us. L x)
      → Sound C (λ e. listed (P e)) List1 (λ xs us. Each L xs × (next (is_mark m.Comma) us ≡ false))
  unfolding listed
  sound_listed p = sound_as all_listed (λ x us d. d) (sound_then p (λ x.
      sound_as (λ ts ys us r. r) (λ x us d. d) (sound_more x (λ c. c.1.1) (sound_under (λ c. c.0) p))))
