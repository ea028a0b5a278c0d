-- The lines of the retained variables, read back.
use Rattle.std.proofs.Common.{◌≡◌, ◌∙◌, ap, sym, refl, subst, ℕ, Bool, true, false, List, [], ◌∷◌, ◌++◌, map, if◌then◌else◌}
use Rattle.std.proofs.Common.{Option, Some, None, IfSome, option_map, append_assoc, append-nil, drop, length, get_or, ◌+◌, ◌<◌}
use Rattle.std.proofs.Math.Seq.{drop-length}
use Rattle.std.proofs.lemmas.List.{drop_more}
use Rattle.std.specs.List.{AllByRecursion}
use Rattle.st_types.specs.declared.kind.Kind.{Kind}
use Rattle.st_types.specs.Values.{Datum, IsHeld}
use Rattle.st_meaning.specs.declared.plan.PlanVariable.{PlanVariable}
use Rattle.serial_core.specs.Retained.{paired, retained_kinds, retained_paths}
use Rattle.std.specs.Prelude.{codes}
use Rattle.st_meaning.specs.Layouts.{Enumerations, path_text}
use Rattle.st_print.specs.Spelling.{value_text}
use Rattle.trace.specs.Reads.{BeginsWith, IsRestAfter}
use Rattle.trace.proofs.ReadLemmas.{begins_as, begins_behind, begins_not}
use Rattle.trace.specs.Heads.{AreKept, kept_lines}
use Rattle.trace.specs.Texts.{keep_line, keep_text}
use Rattle.std.proofs.lemmas.Option.{some_pair_parts}

-- with the names of these enumerated types
module _ (types : Enumerations) where
  -- the value of a variable
  abbrev pub MayHold : PlanVariable → Datum → Type 0
  MayHold v d = (d.kind ≡ v.initial.kind) × IsHeld d

  -- there is no variable
  pub kept_none : (text : List ℕ) → BeginsWith (AreKept []) (kept_lines types []) text (Some ([], text))
  kept_none text = (((refl, tt), refl), only)
    where
      only : (ws : List Datum) (rest : List ℕ) → AreKept [] ws → text ≡ kept_lines types [] ws ++ rest
          → ◌≡◌ {A = Option (List Datum × List ℕ)} (Some ([], text)) (Some (ws, rest))
      only [] rest may is = ap (λ t. Some ([], t)) is
      only (w ∷ ws) rest may is = let bad = may.0 in absurd (cc)

  abbrev KeptIf : PlanVariable → List PlanVariable → Bool → List Datum → Type 0
  KeptIf v vs r ws = (map (λ d. d.kind) ws ≡ (if r then v.initial.kind ∷ retained_kinds vs else retained_kinds vs))
      × AllByRecursion IsHeld ws

  abbrev lines_if : PlanVariable → List PlanVariable → Bool → List Datum → List ℕ
  lines_if v vs r ws = keep_text types (paired (if r then v.path ∷ retained_paths vs else retained_paths vs) ws)

  abbrev ReadIf : PlanVariable → List PlanVariable → List ℕ → Option (List Datum × List ℕ) → Bool → Type 0
  ReadIf v vs text o r = BeginsWith (KeptIf v vs r) (lines_if v vs r) text o

  -- a variable that is not retained has no line
  pub kept_skip : (v : PlanVariable) (vs : List PlanVariable) (text : List ℕ) (o : Option (List Datum × List ℕ))
      → v.retained ≡ false → BeginsWith (AreKept vs) (kept_lines types vs) text o
      → BeginsWith (AreKept (v ∷ vs)) (kept_lines types (v ∷ vs)) text o
  kept_skip v vs text o is rest = subst (ReadIf v vs text o) (sym is) rest

  kinds_are : (a b : Kind) (xs ys : List Kind) → a ∷ xs ≡ b ∷ ys → (a ≡ b) × (xs ≡ ys)
  kinds_are a b xs ys e = (cc, cc)

  abbrev pub with_first : Datum → Option (List Datum × List ℕ) → Option (List Datum × List ℕ)
  with_first w o =
      option_map {T = List Datum × List ℕ} {U = List Datum × List ℕ} (λ p. (w ∷ p.0, p.1)) o

  -- a retained variable has its line, and then the others have theirs
  pub kept_more : (v : PlanVariable) (vs : List PlanVariable) (text mid : List ℕ) (w : Datum)
      (o : Option (List Datum × List ℕ)) → v.retained ≡ true
      → BeginsWith (MayHold v) (keep_line types v.path) text (Some (w, mid)) → BeginsWith (AreKept vs) (kept_lines types vs) mid o
      → BeginsWith (AreKept (v ∷ vs)) (kept_lines types (v ∷ vs)) text (with_first w o)
  kept_more v vs text mid w o is first next = subst (ReadIf v vs text (with_first w o)) (sym is) (there o next.0, only)
    where
      there : (u : Option (List Datum × List ℕ)) → IfSome u (λ p. AreKept vs p.0 × (mid ≡ kept_lines types vs p.0 ++ p.1))
          → IfSome (with_first w u) (λ p. KeptIf v vs true p.0 × (text ≡ lines_if v vs true p.0 ++ p.1))
      there None h = tt
      there (Some (ws, rest)) h = (
        (ap (λ k. k ∷ map (λ d. d.kind) ws) first.0.0.0 ∙ ap (λ ks. v.initial.kind ∷ ks) h.0.0, (first.0.0.1, h.0.1)),
        first.0.1 ∙ ap (λ t. keep_line types v.path w ++ t) h.1
            ∙ sym (append_assoc (keep_line types v.path w) (kept_lines types vs ws) rest),
      )

      only : (ws : List Datum) (rest : List ℕ) → KeptIf v vs true ws → text ≡ lines_if v vs true ws ++ rest
          → with_first w o ≡ Some (ws, rest)
      only [] rest may e = let bad = may.0 in absurd (cc)
      only (x ∷ xs) rest may e =
          let kinds = kinds_are _ _ _ _ may.0 in
          let one = some_pair_parts w x mid (kept_lines types vs xs ++ rest) (first.1 x (kept_lines types vs xs ++ rest) (kinds.0, may.1.0)
          (e ∙ append_assoc (keep_line types v.path x) (kept_lines types vs xs) rest)) in
          let more = next.1 xs rest (kinds.1, may.1.1) one.1 in
          ap (with_first w) more ∙ ap (λ d. Some (d ∷ xs, rest)) one.0

  -- it has none
  pub kept_not : (v : PlanVariable) (vs : List PlanVariable) (text : List ℕ) → v.retained ≡ true
      → BeginsWith (MayHold v) (keep_line types v.path) text None → BeginsWith (AreKept (v ∷ vs)) (kept_lines types (v ∷ vs)) text None
  kept_not v vs text is first = subst (ReadIf v vs text None) (sym is) (tt, only)
    where
      only : (ws : List Datum) (rest : List ℕ) → KeptIf v vs true ws → text ≡ lines_if v vs true ws ++ rest
          → ◌≡◌ {A = Option (List Datum × List ℕ)} None (Some (ws, rest))
      only [] rest may e = let bad = may.0 in absurd (cc)
      only (x ∷ xs) rest may e =
          let kinds = kinds_are _ _ _ _ may.0 in
          let bad = first.1 x (kept_lines types vs xs ++ rest) (kinds.0, may.1.0)
          (e ∙ append_assoc (keep_line types v.path x) (kept_lines types vs xs) rest) in absurd (cc)

  -- after these values
  abbrev pub with_all : List Datum → Option (List Datum × List ℕ) → Option (List Datum × List ℕ)
  with_all ws o = option_map {T = List Datum × List ℕ} {U = List Datum × List ℕ} (λ p. (ws ++ p.0, p.1)) o

  pub all_none : (o : Option (List Datum × List ℕ)) → with_all [] o ≡ o
  all_none None = refl
  all_none (Some p) = refl

  pub all_more : (ws : List Datum) (w : Datum) (o : Option (List Datum × List ℕ))
      → with_all ws (with_first w o) ≡ with_all (ws ++ w ∷ []) o
  all_more ws w None = refl
  all_more ws w (Some p) = ap (λ ds. Some (ds, p.1)) (sym (append_assoc ws (w ∷ []) p.0))

  -- a variable's line, by its words and the text after them
  line_is : (v : PlanVariable) (words : List ℕ) → words ≡ (codes "keep " ++ path_text v.path) ++ codes " " → (d : Datum)
      → words ++ (value_text types d ++ 10 ∷ []) ≡ keep_line types v.path d
  line_is v words is d = ap (λ w. w ++ (value_text types d ++ 10 ∷ [])) is
      ∙ sym (append_assoc ((codes "keep " ++ path_text v.path) ++ codes " ") (value_text types d) (10 ∷ []))

  pub keep_begins : (v : PlanVariable) (text field words : List ℕ) (o : Option (Datum × List ℕ))
      → words ≡ (codes "keep " ++ path_text v.path) ++ codes " " → IsRestAfter text words (Some field)
      → BeginsWith (MayHold v) (λ d. value_text types d ++ 10 ∷ []) field o → BeginsWith (MayHold v) (keep_line types v.path) text o
  keep_begins v text field words o is follows next =
      begins_as (MayHold v) (MayHold v) (λ d. words ++ (value_text types d ++ 10 ∷ [])) (keep_line types v.path) text o
      (λ d may. may) (λ d may. may) (line_is v words is)
      (begins_behind (MayHold v) (λ d. value_text types d ++ 10 ∷ []) text field words o follows next)

  pub keep_not : (v : PlanVariable) (text words : List ℕ) → words ≡ (codes "keep " ++ path_text v.path) ++ codes " "
      → IsRestAfter text words None → BeginsWith (MayHold v) (keep_line types v.path) text None
  keep_not v text words is follows =
      begins_as (MayHold v) (MayHold v) (λ d. words ++ (value_text types d ++ 10 ∷ [])) (keep_line types v.path) text None
      (λ d may. may) (λ d may. may) (line_is v words is)
      (begins_not (MayHold v) (λ d. value_text types d ++ 10 ∷ []) text words follows)

  -- ---- one variable after another

  -- the lines of these variables are read, if those from this one on are
  abbrev pub IsReadTo : List PlanVariable → ℕ → List ℕ → List ℕ → List Datum → Type 0
  IsReadTo vs i whole text values = (o : Option (List Datum × List ℕ))
      → BeginsWith (AreKept (drop i vs)) (kept_lines types (drop i vs)) text o
      → BeginsWith (AreKept vs) (kept_lines types vs) whole (with_all values o)

  pub kept_next : (vs : List PlanVariable) (i : ℕ) (v : PlanVariable) (whole text mid : List ℕ) (values : List Datum)
      (w : Datum) → i < length vs → v ≡ get_or vs i v → v.retained ≡ true
      → BeginsWith (MayHold v) (keep_line types v.path) text (Some (w, mid)) → IsReadTo vs i whole text values
      → IsReadTo vs (i + 1) whole mid (values ++ w ∷ [])
  kept_next vs i v whole text mid values w small is retained first so_far o next =
      let here : drop i vs ≡ v ∷ drop (i + 1) vs = drop_more vs i v small ∙ ap (λ x. x ∷ drop (i + 1) vs) (sym is) in
      subst (λ (u : Option (List Datum × List ℕ)). BeginsWith (AreKept vs) (kept_lines types vs) whole u) (all_more values w o)
      (so_far (with_first w o) (subst (λ l. BeginsWith (AreKept l) (kept_lines types l) text (with_first w o)) (sym here)
      (kept_more v (drop (i + 1) vs) text mid w o retained first next)))

  pub kept_past : (vs : List PlanVariable) (i : ℕ) (v : PlanVariable) (whole text : List ℕ) (values : List Datum)
      → i < length vs → v ≡ get_or vs i v → v.retained ≡ false → IsReadTo vs i whole text values
      → IsReadTo vs (i + 1) whole text values
  kept_past vs i v whole text values small is retained so_far o next =
      let here : drop i vs ≡ v ∷ drop (i + 1) vs = drop_more vs i v small ∙ ap (λ x. x ∷ drop (i + 1) vs) (sym is) in
      so_far o (subst (λ l. BeginsWith (AreKept l) (kept_lines types l) text o) (sym here)
      (kept_skip v (drop (i + 1) vs) text o retained next))

  pub kept_stop : (vs : List PlanVariable) (i : ℕ) (v : PlanVariable) (whole text : List ℕ) (values : List Datum)
      → i < length vs → v ≡ get_or vs i v → v.retained ≡ true → BeginsWith (MayHold v) (keep_line types v.path) text None
      → IsReadTo vs i whole text values → BeginsWith (AreKept vs) (kept_lines types vs) whole None
  kept_stop vs i v whole text values small is retained none so_far =
      let here : drop i vs ≡ v ∷ drop (i + 1) vs = drop_more vs i v small ∙ ap (λ x. x ∷ drop (i + 1) vs) (sym is) in
      so_far None (subst (λ l. BeginsWith (AreKept l) (kept_lines types l) text None) (sym here)
      (kept_not v (drop (i + 1) vs) text retained none))

  pub kept_end : (vs : List PlanVariable) (i : ℕ) (whole text : List ℕ) (values : List Datum) → i ≡ length vs
      → IsReadTo vs i whole text values → BeginsWith (AreKept vs) (kept_lines types vs) whole (Some (values, text))
  kept_end vs i whole text values at so_far =
      let end : drop i vs ≡ [] = ap (λ n. drop n vs) at ∙ drop-length vs in
      subst (λ ds. BeginsWith (AreKept vs) (kept_lines types vs) whole (Some (ds, text))) (append-nil values)
      (so_far (Some ([], text)) (subst (λ l. BeginsWith (AreKept l) (kept_lines types l) text (Some ([], text))) (sym end)
      (kept_none text)))
