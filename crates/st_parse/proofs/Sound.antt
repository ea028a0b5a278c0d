-- The judgement of a reading, whatever its answer: the part that is read is of the grammar, and the tokens before a
-- refusal begin a text of it. Each way of combining readings is proved once.
use Rattle.std.proofs.Common.{◌≡◌, ℕ, ◌<◌, Bool, true, false, [], ◌∷◌, ◌++◌, length, Option, Some, None, Ok, Err, refl}
use Rattle.std.proofs.Common.{sym, ap, subst, ◌∙◌, arith, inl, inr, append_assoc}
use Rattle.std.proofs.lemmas.Bool.{cases_Bool}
use Rattle.st_lex.specs.declared.token.Token.{Token}
use Rattle.st_lex.specs.declared.token.TokenKind.{TokenKind}
use Rattle.st_parse.specs.declared.fault.Refusal.TheVariants.{Unexpected, Deep}
use Rattle.st_parse.specs.Tokens.{Tokens, next, Is, is}
use Rattle.st_parse.specs.Parsers.{Outcome, Parser, and_then, ◌>>=◌, pure, taken, one, by_kind, if_next, guard}
use Rattle.st_parse.specs.Parsers.{too_deep, sunk}
use Rattle.st_parse.specs.Laws.{Grammar, SameHead, IsPrefix}

-- a reading, for each additional depth
abbrev pub Family : Type 0 → Type 0
Family A = ℕ → Parser A

-- x was read: it is of the grammar, whatever follows, and it is read at each greater depth if the next token is the same
pub record Kept {A : Type 0} (P : Family A) (R : Grammar A) (D : A → Tokens → Type 0) (ts : Tokens) (x : A)
    (us : Tokens) : Type 0 where
  pub front : Tokens
  pub parts : ts ≡ front ++ us
  pub again : (e : ℕ) (more : Tokens) → SameHead us more → P e (front ++ more) ≡ Ok (x, more)
  pub is : (after : Tokens) → R (front ++ after) x after
  pub low : D x us

-- a token was unexpected: the tokens before it begin a text, and at any depth the same next token is unexpected there
pub record Lost {A : Type 0} (P : Family A) (R : Grammar A) (ts : Tokens) (n : ℕ) : Type 0 where
  pub front : Tokens
  pub rest : Tokens
  pub parts : ts ≡ front ++ rest
  pub count : length rest ≡ n
  pub again : (e : ℕ) (more : Tokens) → SameHead rest more → P e (front ++ more) ≡ Err (Unexpected (length more))
  pub begun : IsPrefix R front

-- it was too deep: whatever follows a prefix, which begins a text
pub record Sunk {A : Type 0} (P : Family A) (R : Grammar A) (ts : Tokens) : Type 0 where
  pub front : Tokens
  pub rest : Tokens
  pub parts : ts ≡ front ++ rest
  pub head : (more : Tokens) → SameHead ts (front ++ more)
  pub again : (more : Tokens) → P 0 (front ++ more) ≡ Err Deep
  pub begun : IsPrefix R front

abbrev pub Told : {A : Type 0} → Family A → Grammar A → (A → Tokens → Type 0) → Tokens → Outcome A → Type 0
Told P R D ts (Ok p) = Kept P R D ts p.0 p.1
Told P R D ts (Err (Unexpected n)) = Lost P R ts n
Told P R D ts (Err Deep) = Sunk P R ts

abbrev pub Tells : {A : Type 0} → Family A → Grammar A → (A → Tokens → Type 0) → Type 0
Tells P R D = (ts : Tokens) → Told P R D ts (P 0 ts)

-- nothing more is known about the part that was read
abbrev pub Any : {A : Type 0} → A → Tokens → Type 0
Any x us = Unit {0}

-- ---- productions, combined like readings

abbrev pub Seq : {A B : Type 0} → Grammar A → (A → Grammar B) → Grammar B
Seq {A} R S ts y vs = (x : A) × (us : Tokens) × R ts x us × S x us y vs

pub data Made {A : Type 0} (y : A) : Tokens → A → Tokens → Type 0 where
  made : {ts : Tokens} {x : A} → x ≡ y → Made y ts x ts

pub made_begins : {A : Type 0} (y : A) → IsPrefix (Made y) []
made_begins y = record { more = []; tree = y; whole = λ after. made refl }

pub seq_begins : {A B : Type 0} (R : Grammar A) (S : A → Grammar B) (front : Tokens) → IsPrefix R front
    → ((x : A) → IsPrefix (S x) []) → IsPrefix (Seq R S) front
seq_begins R S front b some =
    let o = some b.tree in
    record {
      more = b.more ++ o.more;
      tree = o.tree;
      whole = λ after. subst (λ (zs : Tokens). Seq R S (front ++ zs) o.tree after)
          (sym (append_assoc b.more o.more after)) (b.tree, o.more ++ after, b.whole (o.more ++ after), o.whole after);
    }

pub begins_as : {A : Type 0} (R R' : Grammar A) → ((ts : Tokens) (x : A) (us : Tokens) → R ts x us → R' ts x us)
    → (front : Tokens) → IsPrefix R front → IsPrefix R' front
begins_as R R' f front b = record {
  more = b.more;
  tree = b.tree;
  whole =
      λ after. f (front ++ (b.more ++ after)) b.tree after (b.whole after);
}

pub one_begins : {A : Type 0} (of : Token → Option A) (t : Token) (x : A) → of t ≡ Some x → IsPrefix (Is of) []
one_begins of t x eq = record { more = t ∷ []; tree = x; whole = λ after. is eq }

pub token_begins : {A : Type 0} (of : Token → Option A) (t : Token) (x : A) → of t ≡ Some x → IsPrefix (Is of) (t ∷ [])
token_begins of t x eq = record { more = []; tree = x; whole = λ after. is eq }

-- ---- heads

pub same_tokens : (ts : Tokens) → SameHead ts ts
same_tokens [] = refl
same_tokens (t ∷ ts) = (ts, refl)

-- two continuations with the same first token have the same first token after a front
pub same_front : (front rest ts more : Tokens) → ts ≡ front ++ rest → SameHead rest more → SameHead ts (front ++ more)
same_front [] rest ts more e h = rw e h
same_front (t ∷ front) rest ts more e h = rw e (front ++ more, refl)

pub next_same : (f : TokenKind → Bool) (ts more : Tokens) → SameHead ts more → next f more ≡ next f ts
next_same f [] more same = ap (next f) same
next_same f (t ∷ ts) more same = ap (next f) same.1

-- ---- one after another

module _ {A B : Type 0} (P : Family A) (Q : A → Family B) (R : Grammar A) (S : A → Grammar B) (D : A → Tokens → Type 0)
    (E : B → Tokens → Type 0) where
  abbrev pub Both : Family B
  Both e = P e >>= (λ x. Q x e)

  begun_after : (ts : Tokens) (x : A) (us : Tokens) → (k : Kept P R D ts x us) → (front : Tokens) → IsPrefix (S x) front
      → IsPrefix (Seq R S) (k.front ++ front)
  begun_after ts x us k front b = record {
    more = b.more;
    tree = b.tree;
    whole =
        λ after. subst (λ (zs : Tokens). Seq R S zs b.tree after) (sym (append_assoc k.front front (b.more ++ after)))
        (x, front ++ (b.more ++ after), k.is (front ++ (b.more ++ after)), b.whole after);
  }

  after_kept : (ts : Tokens) (x : A) (us : Tokens) → Kept P R D ts x us → (r : Outcome B) → Told (Q x) (S x) E us r
      → Told Both (Seq R S) E ts r
  after_kept ts x us k (Ok y) l = record {
    front = k.front ++ l.front;
    parts = k.parts ∙ ap (λ (vs : Tokens). k.front ++ vs) l.parts ∙ sym (append_assoc k.front l.front y.1);
    again = λ e more same. ap (Both e) (append_assoc k.front l.front more)
        ∙ (ap (λ (r : Outcome A). and_then r (λ z. Q z e))
        (k.again e (l.front ++ more) (same_front l.front y.1 us more l.parts same)) ∙ l.again e more same);
    is = λ after. subst (λ (zs : Tokens). Seq R S zs y.0 after) (sym (append_assoc k.front l.front after))
        (x, l.front ++ after, k.is (l.front ++ after), l.is after);
    low = l.low;
  }
  after_kept ts x us k (Err (Unexpected n)) l = record {
    front = k.front ++ l.front;
    rest = l.rest;
    parts = k.parts ∙ ap (λ (vs : Tokens). k.front ++ vs) l.parts ∙ sym (append_assoc k.front l.front l.rest);
    count = l.count;
    again = λ e more same. ap (Both e) (append_assoc k.front l.front more)
        ∙ (ap (λ (r : Outcome A). and_then r (λ z. Q z e))
        (k.again e (l.front ++ more) (same_front l.front l.rest us more l.parts same)) ∙ l.again e more same);
    begun = begun_after ts x us k l.front l.begun;
  }
  after_kept ts x us k (Err Deep) l = record {
    front = k.front ++ l.front;
    rest = l.rest;
    parts = k.parts ∙ ap (λ (vs : Tokens). k.front ++ vs) l.parts ∙ sym (append_assoc k.front l.front l.rest);
    head = λ more. subst (λ (zs : Tokens). SameHead ts zs) (sym (append_assoc k.front l.front more))
        (same_front k.front us ts (l.front ++ more) k.parts (l.head more));
    again = λ more. ap (Both 0) (append_assoc k.front l.front more)
        ∙ (ap (λ (r : Outcome A). and_then r (λ z. Q z 0)) (k.again 0 (l.front ++ more) (l.head more)) ∙ l.again more);
    begun = begun_after ts x us k l.front l.begun;
  }

  pub then_at : ((x : A) → IsPrefix (S x) []) → (ts : Tokens) (r : Outcome A) → Told P R D ts r
      → ((x : A) (us : Tokens) → r ≡ Ok (x, us) → Kept P R D ts x us → Told (Q x) (S x) E us (Q x 0 us))
      → Told Both (Seq R S) E ts (and_then r (λ x. Q x 0))
  then_at some ts (Ok p) k go = after_kept ts p.0 p.1 k (Q p.0 0 p.1) (go p.0 p.1 refl k)
  then_at some ts (Err (Unexpected n)) l go = record {
    front = l.front;
    rest = l.rest;
    parts = l.parts;
    count = l.count;
    again = λ e more same. ap (λ (r : Outcome A). and_then r (λ z. Q z e)) (l.again e more same);
    begun = seq_begins R S l.front l.begun some;
  }
  then_at some ts (Err Deep) l go = record {
    front = l.front;
    rest = l.rest;
    parts = l.parts;
    head = l.head;
    again = λ more. ap (λ (r : Outcome A). and_then r (λ z. Q z 0)) (l.again more);
    begun = seq_begins R S l.front l.begun some;
  }

  pub restored_then : ((x : A) → IsPrefix (S x) []) → Tells P R D
      → ((x : A) (us : Tokens) → D x us → Told (Q x) (S x) E us (Q x 0 us)) → Tells Both (Seq R S) E
  restored_then some tells go ts = then_at some ts (P 0 ts) (tells ts) (λ x us eq k. go x us k.low)

-- ---- other forms of the same

pub told_as : {A : Type 0} (P : Family A) (R R' : Grammar A) (D D' : A → Tokens → Type 0)
    → ((ts : Tokens) (x : A) (us : Tokens) → R ts x us → R' ts x us) → ((x : A) (us : Tokens) → D x us → D' x us)
    → (ts : Tokens) (r : Outcome A) → Told P R D ts r → Told P R' D' ts r
told_as P R R' D D' f g ts (Ok p) k = record {
  front = k.front;
  parts = k.parts;
  again = k.again;
  is =
      λ after. f (k.front ++ after) p.0 after (k.is after);
  low = g p.0 p.1 k.low;
}
told_as P R R' D D' f g ts (Err (Unexpected n)) l = record {
  front = l.front;
  rest = l.rest;
  parts = l.parts;
  count =
      l.count;
  again = l.again;
  begun = begins_as R R' f l.front l.begun;
}
told_as P R R' D D' f g ts (Err Deep) l = record {
  front = l.front;
  rest = l.rest;
  parts = l.parts;
  head = l.head;
  again = l.again;
  begun = begins_as R R' f l.front l.begun;
}

-- a reading that agrees with another one if the tokens begin this way
pub told_agree : {A : Type 0} (P Q : Family A) (R : Grammar A) (D : A → Tokens → Type 0) (ts : Tokens) (r : Outcome A)
    → ((e : ℕ) (more : Tokens) → SameHead ts more → Q e more ≡ P e more) → Told P R D ts r → Told Q R D ts r
told_agree P Q R D ts (Ok p) agree k = record {
  front = k.front;
  parts = k.parts;
  again = λ e more same. agree e
      (k.front ++ more) (same_front k.front p.1 ts more k.parts same) ∙ k.again e more same;
  is = k.is;
  low = k.low;
}
told_agree P Q R D ts (Err (Unexpected n)) agree l =
    record {
      front = l.front;
      rest = l.rest;
      parts = l.parts;
      count = l.count;
      again = λ e more same.
          agree e (l.front ++ more) (same_front l.front l.rest ts more l.parts same) ∙ l.again e more same;
      begun = l.begun;
    }
told_agree P Q R D ts (Err Deep) agree l = record {
  front = l.front;
  rest = l.rest;
  parts = l.parts;
  head = l.head;
  again = λ more. agree 0 (l.front ++ more) (l.head more) ∙ l.again more;
  begun = l.begun;
}

-- ---- leaves

pub told_pure : {A : Type 0} (y : A) (D : A → Tokens → Type 0) (ts : Tokens) → D y ts
    → Told (λ e. pure y) (Made y) D ts (Ok (y, ts))
told_pure y D ts low =
    record { front = []; parts = refl; again = λ e more same. refl; is = λ after. made refl; low = low }

-- a first token that is unexpected
pub told_refuse : {A : Type 0} (P : Family A) (R : Grammar A) (D : A → Tokens → Type 0) (ts : Tokens) → IsPrefix R []
    → ((e : ℕ) (more : Tokens) → SameHead ts more → P e more ≡ Err (Unexpected (length more)))
    → Told P R D ts (Err (Unexpected (length ts)))
told_refuse P R D ts some h = record { front = []; rest = ts; parts = refl; count = refl; again = h; begun = some }

one_at : {A : Type 0} (of : Token → Option A) → IsPrefix (Is of) [] → (t : Token) (ts : Tokens) (o : Option A) → of t ≡ o
    → Told (λ e. one of) (Is of) Any (t ∷ ts) (taken o t ts)
one_at of some t ts None eq =
    told_refuse (λ e. one of) (Is of) Any (t ∷ ts) some (λ e more same. rw same.1 (rw eq refl))
one_at of some t ts (Some x) eq =
    record { front = t ∷ []; parts = refl; again = λ e more same. rw eq refl; is = λ after. is eq; low = tt }

pub told_one : {A : Type 0} (of : Token → Option A) → IsPrefix (Is of) [] → Tells (λ e. one of) (Is of) Any
told_one of some [] = told_refuse (λ e. one of) (Is of) Any [] some (λ e more same. rw same refl)
told_one of some (t ∷ ts) = one_at of some t ts (of t) refl

-- ---- choices

module _ {A : Type 0} (f : TokenKind → Bool) (P Q : Family A) (R : Grammar A) (D : A → Tokens → Type 0) where
  pub told_if : (ts : Tokens) → (next f ts ≡ true → Told P R D ts (P 0 ts))
      → (next f ts ≡ false → Told Q R D ts (Q 0 ts))
      → Told (λ e. if_next f (P e) (Q e)) R D ts (if_next f (P 0) (Q 0) ts)
  told_if ts hits misses = elim (cases_Bool (next f ts)) [
    | inl hit ↦ rw hit (told_agree P (λ e. if_next f (P e) (Q e)) R D ts (P 0 ts)
        (λ e more same. let h : next f more ≡ true = next_same f ts more same ∙ hit in rw h refl) (hits hit))
    | inr miss ↦ rw miss (told_agree Q (λ e. if_next f (P e) (Q e)) R D ts (Q 0 ts)
        (λ e more same. let h : next f more ≡ false = next_same f ts more same ∙ miss in rw h refl) (misses miss))
  ]

pub told_by_kind : {A : Type 0} (F : ℕ → TokenKind → Parser A) (R : Grammar A) (D : A → Tokens → Type 0) → IsPrefix R []
    → ((t : Token) (ts : Tokens) → Told (λ e. F e t.kind) R D (t ∷ ts) (F 0 t.kind (t ∷ ts)))
    → Tells (λ e. by_kind (F e)) R D
told_by_kind F R D some tells [] = told_refuse (λ e. by_kind (F e)) R D [] some (λ e more same. rw same refl)
told_by_kind F R D some tells (t ∷ ts) = told_agree (λ e. F e t.kind) (λ e. by_kind (F e)) R D (t ∷ ts)
    (F 0 t.kind (t ∷ ts)) (λ e more same. rw same.1 refl) (tells t ts)

-- if no depth is left
module _ {A : Type 0} (f : TokenKind → Bool) (P : Family A) (R : Grammar A) (D : A → Tokens → Type 0)
    (some : IsPrefix R []) (starts : (t : Token) → f t.kind ≡ true → IsPrefix R (t ∷ []))
    (none : (ts : Tokens) → P 0 ts ≡ too_deep f ts)
    (other : (e : ℕ) (ts : Tokens) → next f ts ≡ false → P e ts ≡ Err (Unexpected (length ts))) where
  sunk_at : (ts : Tokens) (b : Bool) → next f ts ≡ b → Told P R D ts (sunk b ts)
  sunk_at ts false eq = told_refuse P R D ts some (λ e more same. other e more (next_same f ts more same ∙ eq))
  sunk_at [] true eq = absurd cc
  sunk_at (t ∷ ts) true eq = record {
    front = t ∷ [];
    rest = ts;
    parts = refl;
    head = λ more. (more, refl);
    again =
        λ more. none (t ∷ more) ∙ ap (λ (b : Bool). sunk b (t ∷ more)) eq;
    begun = starts t eq;
  }

  pub told_too_deep : Tells P R D
  told_too_deep ts = rw (none ts) (sunk_at ts (next f ts) refl)

-- a test of depth, before a token that is known
module _ {A : Type 0} (b : ℕ → Bool) (P : Family A) (R : Grammar A) (D : A → Tokens → Type 0) where
  guard_at : (t : Token) (ts : Tokens) → IsPrefix R (t ∷ []) → (c : Bool) → b 0 ≡ c → (c ≡ false → (e : ℕ) → b e ≡ false)
      → (c ≡ false → Told P R D (t ∷ ts) (P 0 (t ∷ ts)))
      → Told (λ e. guard (b e) (P e)) R D (t ∷ ts) (guard c (P 0) (t ∷ ts))
  guard_at t ts some true eq up told = record {
    front = t ∷ [];
    rest = ts;
    parts = refl;
    head =
        λ more. (more, refl);
    again = λ more. rw eq refl;
    begun = some;
  }
  guard_at t ts some false eq up told = told_agree P (λ e. guard (b e) (P e)) R D (t ∷ ts) (P 0 (t ∷ ts))
      (λ e more same. let h = up refl e in rw h refl) (told refl)

  pub told_guard : (t : Token) (ts : Tokens) → IsPrefix R (t ∷ []) → (b 0 ≡ false → (e : ℕ) → b e ≡ false)
      → (b 0 ≡ false → Told P R D (t ∷ ts) (P 0 (t ∷ ts)))
      → Told (λ e. guard (b e) (P e)) R D (t ∷ ts) (guard (b 0) (P 0) (t ∷ ts))
  told_guard t ts some up told = guard_at t ts some (b 0) refl up told

-- the same reading at other depths, none less than the first
pub told_shift : {A : Type 0} (P : Family A) (g : ℕ → ℕ) (R : Grammar A) (D : A → Tokens → Type 0) → g 0 ≡ 0
    → (ts : Tokens) (r : Outcome A) → Told P R D ts r → Told (λ e. P (g e)) R D ts r
told_shift P g R D none ts (Ok p) k =
    record { front = k.front; parts = k.parts; again = λ e more same. k.again (g e) more same; is = k.is; low = k.low }
told_shift P g R D none ts (Err (Unexpected n)) l = record {
  front = l.front;
  rest = l.rest;
  parts = l.parts;
  count =
      l.count;
  again = λ e more same. l.again (g e) more same;
  begun = l.begun;
}
told_shift P g R D none ts (Err Deep) l = record {
  front = l.front;
  rest = l.rest;
  parts = l.parts;
  head = l.head;
  again = λ more. rw none (l.again more);
  begun = l.begun;
}

-- of those that begin differently
abbrev pub Unless : {A : Type 0} → (TokenKind → Bool) → Grammar A → Grammar A
Unless f R ts x us = R ts x us × (next f ts ≡ false)

module _ {A : Type 0} (f : TokenKind → Bool) (P : Family A) (R : Grammar A) (D : A → Tokens → Type 0) (some :
    IsPrefix (Unless f R) []) (less : (ts : Tokens) (x : A) (us : Tokens) → R ts x us → length us < length ts) where
  front_same : (front us ts after : Tokens) → ts ≡ front ++ us → next f ts ≡ false
      → length after < length (front ++ after) → next f (front ++ after) ≡ false
  front_same [] us ts after eq miss short = absurd (omega arith)
  front_same (t ∷ front) us ts after eq miss short = let e : next f ts ≡ f t.kind = ap (next f) eq in sym e ∙ miss

  begun_unless : (front rest ts : Tokens) → ts ≡ front ++ rest → next f ts ≡ false → IsPrefix R front
      → IsPrefix (Unless f R) front
  begun_unless [] rest ts eq miss b = some
  begun_unless (t ∷ front) rest ts eq miss b = let e : next f ts ≡ f t.kind = ap (next f) eq in
      record { more = b.more; tree = b.tree; whole = λ after. (b.whole after, sym e ∙ miss) }

  pub told_unless : (ts : Tokens) (r : Outcome A) → next f ts ≡ false → Told P R D ts r → Told P (Unless f R) D ts r
  told_unless ts (Ok p) miss k = record {
    front = k.front;
    parts = k.parts;
    again = k.again;
    is = λ after. (
      k.is after,
      front_same k.front p.1 ts after k.parts miss (less (k.front ++ after) p.0 after (k.is after)),
    );
    low = k.low;
  }
  told_unless ts (Err (Unexpected n)) miss l = record {
    front = l.front;
    rest = l.rest;
    parts = l.parts;
    count =
        l.count;
    again = l.again;
    begun = begun_unless l.front l.rest ts l.parts miss l.begun;
  }
  told_unless ts (Err Deep) miss l = record {
    front = l.front;
    rest = l.rest;
    parts = l.parts;
    head = l.head;
    again =
        l.again;
    begun = begun_unless l.front l.rest ts l.parts miss l.begun;
  }
