-- Turns are sound, as many as the tokens need.
use Rattle.std.proofs.Common.{◌≡◌, ℕ, zero, suc, ◌<◌, ◌≤◌, Bool, true, false, [], ◌∷◌, ◌++◌, length, Ok, Err, refl, sym}
use Rattle.std.proofs.Common.{ap, subst, ◌∙◌, arith, inl, inr, append_assoc}
use Rattle.std.proofs.lemmas.Bool.{cases_Bool}
use Rattle.st_lex.specs.declared.token.TokenKind.{TokenKind}
use Rattle.st_parse.specs.declared.fault.Refusal.{Refusal}
use Rattle.st_parse.specs.declared.fault.Refusal.TheVariants.{Unexpected, Deep}
use Rattle.st_parse.specs.Tokens.{Tokens, next}
use Rattle.st_parse.specs.Parsers.{Outcome, Parser, and_then, loops, turns}
use Rattle.st_parse.specs.Laws.{Grammar, SameHead, IsPrefix}
use Rattle.st_parse.proofs.Sound.{Kept, Told, same_front, next_same}

pub halts : {S : Type 0} (f : TokenKind → Bool) (step : S → Parser S) (n : ℕ) (s : S) (ts : Tokens) → next f ts ≡ false
    → loops f step n s ts ≡ Ok (s, ts)
unfolding loops
halts f step zero s ts eq = refl
halts f step (suc n) s ts eq = rw eq refl

pub turn_is : {S : Type 0} (f : TokenKind → Bool) (step : S → Parser S) (n : ℕ) (s : S) (ts : Tokens) → next f ts ≡ true
    → loops f step (suc n) s ts ≡ and_then (step s ts) (loops f step n)
unfolding loops
turn_is f step n s ts eq = rw eq refl

-- fewer tokens are left than before
abbrev pub Shorter : Tokens → Tokens → Type 0
Shorter us ts = length us < length ts

module _ {S : Type 0} (f : TokenKind → Bool) (step : ℕ → S → Parser S) (T One : S → Grammar S) (I : S → Tokens → Type 0)
    (stop : (s : S) (ts : Tokens) → T s ts s ts)
    (more : (s : S) (ts : Tokens) (s' : S) (us : Tokens) (x : S) (vs : Tokens) → One s ts s' us → T s' us x vs
    → T s ts x vs)
    (less : (s : S) (ts : Tokens) (s' : S) (us : Tokens) → One s ts s' us → length us < length ts)
    (tells : (s : S) (ts : Tokens) → I s ts → next f ts ≡ true → Told (λ e. step e s) (One s) I ts (step 0 s ts)) where
  record KeptTurns (s : S) (ts : Tokens) (x : S) (us : Tokens) : Type 0 where
    pub front : Tokens
    pub parts : ts ≡ front ++ us
    pub again : (e n : ℕ) (rest : Tokens) → SameHead us rest → length (front ++ rest) ≤ n
        → loops f (step e) n s (front ++ rest) ≡ Ok (x, rest)
    pub is : (after : Tokens) → T s (front ++ after) x after
    pub low : I x us
    pub ends : next f us ≡ false

  record LostTurns (s : S) (ts : Tokens) (n : ℕ) : Type 0 where
    pub front : Tokens
    pub rest : Tokens
    pub parts : ts ≡ front ++ rest
    pub count : length rest ≡ n
    pub again : (e n : ℕ) (other : Tokens) → SameHead rest other → length (front ++ other) ≤ n
        → loops f (step e) n s (front ++ other) ≡ Err (Unexpected (length other))
    pub begun : IsPrefix (T s) front

  record SunkTurns (s : S) (ts : Tokens) : Type 0 where
    pub front : Tokens
    pub rest : Tokens
    pub parts : ts ≡ front ++ rest
    pub head : (other : Tokens) → SameHead ts (front ++ other)
    pub again : (n : ℕ) (other : Tokens) → length (front ++ other) ≤ n
        → loops f (step 0) n s (front ++ other) ≡ Err Deep
    pub begun : IsPrefix (T s) front

  abbrev Turned : S → Tokens → Outcome S → Type 0
  Turned s ts (Ok p) = KeptTurns s ts p.0 p.1
  Turned s ts (Err (Unexpected n)) = LostTurns s ts n
  Turned s ts (Err Deep) = SunkTurns s ts

  stopped : (s : S) (ts : Tokens) → I s ts → next f ts ≡ false → KeptTurns s ts s ts
  stopped s ts i eq = record {
    front = [];
    parts = refl;
    again = λ e n rest same le. halts f (step e) n s rest (next_same f ts rest same ∙ eq);
    is = λ after. stop s after;
    low = i;
    ends = eq;
  }

  onward : (s : S) (ts : Tokens) (s' : S) (us : Tokens) → next f ts ≡ true
      → (k : Kept (λ e. step e s) (One s) I ts s' us) → (e n : ℕ) (rest : Tokens) → SameHead us rest
      → length (k.front ++ rest) ≤ n
      → (m : ℕ) × (loops f (step e) n s (k.front ++ rest) ≡ loops f (step e) m s' rest) × (length rest ≤ m)
  onward s ts s' us hit k e zero rest same le = let short = less s (k.front ++ rest) s' rest (k.is rest) in
      absurd (omega arith)
  onward s ts s' us hit k e (suc m) rest same le =
      let short = less s (k.front ++ rest) s' rest (k.is rest) in
      let goes : next f (k.front ++ rest) ≡ true =
      next_same f ts (k.front ++ rest) (same_front k.front us ts rest k.parts same) ∙ hit in (
        m,
        turn_is f (step e) m s (k.front ++ rest) goes
            ∙ ap (λ (r : Outcome S). and_then r (loops f (step e) m)) (k.again e rest same),
        omega arith,
      )

  begun_onward : (s : S) (s' : S) (front others : Tokens) → ((after : Tokens) → One s (front ++ after) s' after)
      → IsPrefix (T s') others → IsPrefix (T s) (front ++ others)
  begun_onward s s' front others is b = record {
    more = b.more;
    tree = b.tree;
    whole = λ after. subst (λ (zs : Tokens). T s zs b.tree after) (sym (append_assoc front others (b.more ++ after)))
        (more s (front ++ (others ++ (b.more ++ after))) s' (others ++ (b.more ++ after)) b.tree after
        (is (others ++ (b.more ++ after))) (b.whole after));
  }

  after_turn : (s : S) (ts : Tokens) (s' : S) (us : Tokens) → next f ts ≡ true
      → (k : Kept (λ e. step e s) (One s) I ts s' us) → (r : Outcome S) → Turned s' us r → Turned s ts r
  after_turn s ts s' us hit k (Ok y) l = record {
    front = k.front ++ l.front;
    parts = k.parts ∙ ap (λ (vs : Tokens). k.front ++ vs) l.parts ∙ sym (append_assoc k.front l.front y.1);
    again = λ e n rest same le.
        let same' = same_front l.front y.1 us rest l.parts same in
        let long : length (k.front ++ (l.front ++ rest)) ≤ n =
        subst (λ (zs : Tokens). length zs ≤ n) (append_assoc k.front l.front rest) le in
        let o = onward s ts s' us hit k e n (l.front ++ rest) same' long in
        ap (loops f (step e) n s) (append_assoc k.front l.front rest) ∙ (o.1 ∙ l.again e o.0 rest same o.2);
    is = λ after. subst (λ (zs : Tokens). T s zs y.0 after) (sym (append_assoc k.front l.front after))
        (more s (k.front ++ (l.front ++ after)) s' (l.front ++ after) y.0 after (k.is (l.front ++ after)) (l.is after));
    low = l.low;
    ends = l.ends;
  }
  after_turn s ts s' us hit k (Err (Unexpected j)) l = record {
    front = k.front ++ l.front;
    rest = l.rest;
    parts = k.parts ∙ ap (λ (vs : Tokens). k.front ++ vs) l.parts ∙ sym (append_assoc k.front l.front l.rest);
    count = l.count;
    again = λ e n rest same le.
        let same' = same_front l.front l.rest us rest l.parts same in
        let long : length (k.front ++ (l.front ++ rest)) ≤ n =
        subst (λ (zs : Tokens). length zs ≤ n) (append_assoc k.front l.front rest) le in
        let o = onward s ts s' us hit k e n (l.front ++ rest) same' long in
        ap (loops f (step e) n s) (append_assoc k.front l.front rest) ∙ (o.1 ∙ l.again e o.0 rest same o.2);
    begun = begun_onward s s' k.front l.front k.is l.begun;
  }
  after_turn s ts s' us hit k (Err Deep) l = record {
    front = k.front ++ l.front;
    rest = l.rest;
    parts = k.parts ∙ ap (λ (vs : Tokens). k.front ++ vs) l.parts ∙ sym (append_assoc k.front l.front l.rest);
    head = λ rest. subst (λ (zs : Tokens). SameHead ts zs) (sym (append_assoc k.front l.front rest))
        (same_front k.front us ts (l.front ++ rest) k.parts (l.head rest));
    again = λ n rest le.
        let long : length (k.front ++ (l.front ++ rest)) ≤ n =
        subst (λ (zs : Tokens). length zs ≤ n) (append_assoc k.front l.front rest) le in
        let o = onward s ts s' us hit k 0 n (l.front ++ rest) (l.head rest) long in
        ap (loops f (step 0) n s) (append_assoc k.front l.front rest) ∙ (o.1 ∙ l.again o.0 rest o.2);
    begun = begun_onward s s' k.front l.front k.is l.begun;
  }

  -- a turn that fails
  some_turns : (n : ℕ) (ts : Tokens) → next f ts ≡ true → length ts ≤ n → (m : ℕ) × (n ≡ suc m)
  some_turns n [] hit le = absurd cc
  some_turns zero (t ∷ ts) hit le = absurd (omega arith)
  some_turns (suc m) (t ∷ ts) hit le = (m, refl)

  fails_with : (e n : ℕ) (s : S) (ts : Tokens) (d : Refusal) → next f ts ≡ true → length ts ≤ n → step e s ts ≡ Err d
      → loops f (step e) n s ts ≡ Err d
  fails_with e n s ts d hit le eq =
      let m = some_turns n ts hit le in
      rw m.1 (turn_is f (step e) m.0 s ts hit ∙ ap (λ (r : Outcome S). and_then r (loops f (step e) m.0)) eq)

  begun_turn : (s : S) (front : Tokens) → IsPrefix (One s) front → IsPrefix (T s) front
  begun_turn s front b = record {
    more = b.more;
    tree = b.tree;
    whole =
        λ after. more s (front ++ (b.more ++ after)) b.tree after b.tree after (b.whole after) (stop b.tree after);
  }

  one_turn : (n : ℕ) (s : S) (ts : Tokens) → next f ts ≡ true
      → ((s' : S) (us : Tokens) → length us ≤ n → I s' us → Turned s' us (loops f (step 0) n s' us)) → length ts ≤ suc n
      → (r : Outcome S) → Told (λ e. step e s) (One s) I ts r
      → Turned s ts (and_then r (loops f (step 0) n))
  one_turn n s ts hit others le (Ok p) k =
      let short = less s (k.front ++ p.1) p.0 p.1 (k.is p.1) in
      let same : length ts ≡ length (k.front ++ p.1) = ap length k.parts in
      after_turn s ts p.0 p.1 hit k (loops f (step 0) n p.0 p.1) (others p.0 p.1 (omega arith) k.low)
  one_turn n s ts hit others le (Err (Unexpected j)) l = record {
    front = l.front;
    rest = l.rest;
    parts = l.parts;
    count = l.count;
    again = λ e m rest same long. fails_with e m s (l.front ++ rest) (Unexpected (length rest)) (next_same f ts
        (l.front ++ rest) (same_front l.front l.rest ts rest l.parts same) ∙ hit) long (l.again e rest same);
    begun = begun_turn s l.front l.begun;
  }
  one_turn n s ts hit others le (Err Deep) l = record {
    front = l.front;
    rest = l.rest;
    parts = l.parts;
    head = l.head;
    again = λ m rest long. fails_with 0 m s (l.front ++ rest) Deep
        (next_same f ts (l.front ++ rest) (l.head rest) ∙ hit) long (l.again rest);
    begun = begun_turn s l.front l.begun;
  }

  all_turns : (n : ℕ) (s : S) (ts : Tokens) → length ts ≤ n → I s ts → Turned s ts (loops f (step 0) n s ts)
  unfolding loops
  all_turns n s [] le i = rw (halts f (step 0) n s [] refl) (stopped s [] i refl)
  all_turns zero s (t ∷ ts) le i = absurd (omega arith)
  all_turns (suc n) s (t ∷ ts) le i = elim (cases_Bool (f t.kind)) [
    | inl hit ↦ rw hit (one_turn n s (t ∷ ts) hit (all_turns n) le (step 0 s (t ∷ ts)) (tells s (t ∷ ts) i hit))
    | inr miss ↦ rw miss (stopped s (t ∷ ts) i miss)
  ]

  -- and how they end
  abbrev pub Ended : S → Tokens → Type 0
  Ended s ts = I s ts × (next f ts ≡ false)

  as_told : (s : S) (ts : Tokens) (r : Outcome S) → Turned s ts r → Told (λ e. turns f (step e) s) (T s) Ended ts r
  unfolding turns
  as_told s ts (Ok p) k = record {
    front = k.front;
    parts = k.parts;
    again =
        λ e rest same. k.again e (length (k.front ++ rest)) rest same (omega arith);
    is = k.is;
    low = (k.low, k.ends);
  }
  as_told s ts (Err (Unexpected n)) l = record {
    front = l.front;
    rest = l.rest;
    parts = l.parts;
    count = l.count;
    again = λ e rest same. l.again e (length (l.front ++ rest)) rest same (omega arith);
    begun = l.begun;
  }
  as_told s ts (Err Deep) l = record {
    front = l.front;
    rest = l.rest;
    parts = l.parts;
    head = l.head;
    again =
        λ rest. l.again (length (l.front ++ rest)) rest (omega arith);
    begun = l.begun;
  }

  pub told_turns : (s : S) (ts : Tokens) → I s ts
      → Told (λ e. turns f (step e) s) (T s) Ended ts (turns f (step 0) s ts)
  unfolding turns
  told_turns s ts i = as_told s ts (loops f (step 0) (length ts) s ts) (all_turns (length ts) s ts (omega arith) i)
