-- The variables of a text and the lines of a record, as they are written and as a start takes them.
use Rattle.std.proofs.Common.{◌≡◌, ◌∙◌, ap, refl, sym, ℕ, Bool, true, false, if◌then◌else◌, List, [], ◌∷◌, ◌++◌, map, filter}
use Rattle.std.proofs.Common.{Option, Some, None, length}
use Rattle.std.specs.Prelude.{bytes_eq, is_none, is_some, option_map, unwrap_or}
use Rattle.std.specs.List.{find, flat_map}
use Rattle.st_types.specs.Values.{Datum}
use Rattle.st_meaning.specs.declared.plan.PlanVariable.{PlanVariable}
use Rattle.st_meaning.specs.Layouts.{Enumerations, layout_text, path_text, type_text}
use Rattle.st_meaning.specs.Restarts.{KeptLine, is_line_of, restarted, restored_value}
use Rattle.retain_records.specs.Records.{Content}
use Rattle.retain_store.specs.Recovered.{Recovered, TooLong, Refused, Found, Nothing}
use Rattle.retain_store.specs.Kept.{IsLast, record_in}
use Rattle.retain_records.specs.ContentLines.{Words, words_at, line_then, lines_in, kept_in}
use Rattle.retain_records.specs.Matching.{numbered_by}
use Rattle.retain_show.specs.declared.fate.Changes.{Changes}
use Rattle.retain_show.specs.Shown.{generation_shown, moment_shown, shown_text}
use Rattle.retain_show.specs.Against as against
use Rattle.retain_show.specs.Against.{Line, changes_in, changes_of, changes_shown, dropped_lines, dropped_shown, fates_shown}
use Rattle.retain_show.specs.Against.{fate_by, fate_of, line_with_path, valued_lines, retained, saved_shown, variable_shown}
use Rattle.retain_show.specs.Against.{was_shown, with_value, word_of}
use Rattle.retain_show.specs.InitialLines.{all_changes, all_shown, fate_in, is_dropped, kept_line, match_shown, matched, own_line, initial_line}
use Rattle.std.proofs.lemmas.Option.{same_Some}

-- the lines of a record are those that a start takes
lines_next : (o : Option Words) (d : Datum) (others : List ℕ → List Line) (more : List ℕ → List KeptLine)
    → ((text : List ℕ) → map kept_line (others text) ≡ more text)
    → map kept_line (against.line_then o d others) ≡ line_then o d more
lines_next None d others more again = refl
lines_next (Some w) d others more again =
    ap (λ ls. record { path = w.path; spelling = w.spelling; number = d.number } ∷ ls) (again w.behind)

pub lines_told : (text : List ℕ) (ds : List Datum) → map kept_line (valued_lines text ds) ≡ lines_in text ds
lines_told text [] = refl
lines_told text (d ∷ ds) =
    lines_next (words_at text) d (λ behind. valued_lines behind ds) (λ behind. lines_in behind ds)
    (λ behind. lines_told behind ds)

some_same : (d : Datum) (o : Option KeptLine) → is_some (option_map (numbered_by d) o) ≡ is_some o
some_same d None = refl
some_same d (Some l) = refl

-- the value that a retained variable starts with
value_same : (v : PlanVariable) (o : Option KeptLine)
    → unwrap_or (option_map (numbered_by v.initial) o) v.initial ≡ restored_value v o
value_same v None = refl
value_same v (Some l) = refl

module _ (types : Enumerations) (lines : List Line) where
  fate_same : (v : PlanVariable)
      → fate_in (matched lines (initial_line types v)) ≡ fate_of types (map kept_line lines) lines v
  fate_same v =
      ap (λ b. fate_by b (is_some (line_with_path (path_text v.path) lines)))
      (some_same v.initial (own_line lines (initial_line types v)))

  starts_with : (v : PlanVariable) → v.retained ≡ true
      → unwrap_or (option_map (numbered_by v.initial) (own_line lines (initial_line types v))) v.initial
      ≡ restarted types (map kept_line lines) v
  starts_with v is =
      value_same v (own_line lines (initial_line types v))
      ∙ ap (λ b. if b then restored_value v (find (is_line_of types v) (map kept_line lines)) else v.initial) (sym is)

  one_same : (v : PlanVariable) → v.retained ≡ true
      → match_shown types (matched lines (initial_line types v)) ≡ variable_shown types (map kept_line lines) lines v
  one_same v is =
      let other = line_with_path (path_text v.path) lines in
      let value = unwrap_or (option_map (numbered_by v.initial) (own_line lines (initial_line types v))) v.initial in
      ap (λ f. word_of f ++ with_value types (path_text v.path) (type_text types v.initial.kind) value
      ++ was_shown f other ++ 10 ∷ []) (fate_same v)
      ∙ ap (λ d. word_of (fate_of types (map kept_line lines) lines v)
      ++ with_value types (path_text v.path) (type_text types v.initial.kind) d
      ++ was_shown (fate_of types (map kept_line lines) lines v) other ++ 10 ∷ []) (starts_with v is)

  next_same : (v : PlanVariable) (b : Bool) (vs : List PlanVariable) → v.retained ≡ b
      → flat_map (match_shown types) (map (matched lines) (map (initial_line types) vs))
      ≡ flat_map (variable_shown types (map kept_line lines) lines) vs
      → flat_map (match_shown types) (map (matched lines) (map (initial_line types) (if b then v ∷ vs else vs)))
      ≡ flat_map (variable_shown types (map kept_line lines) lines) (if b then v ∷ vs else vs)
  next_same v true vs is rest =
      ap (λ t. t ++ flat_map (match_shown types) (map (matched lines) (map (initial_line types) vs))) (one_same v is)
      ∙ ap (λ t. variable_shown types (map kept_line lines) lines v ++ t) rest
  next_same v false vs is rest = rest

  variables_same : (vs : List PlanVariable)
      → flat_map (match_shown types) (map (matched lines) (map (initial_line types) (retained vs)))
      ≡ flat_map (variable_shown types (map kept_line lines) lines) (retained vs)
  variables_same [] = refl
  variables_same (v ∷ vs) = next_same v v.retained (retained vs) refl (variables_same vs)

  fates_same : (vs : List PlanVariable) → map fate_in (map (matched lines) (map (initial_line types) vs))
      ≡ map (fate_of types (map kept_line lines) lines) vs
  fates_same [] = refl
  fates_same (v ∷ vs) =
      ap (λ f. f ∷ map fate_in (map (matched lines) (map (initial_line types) vs))) (fate_same v)
      ∙ ap (λ fs. fate_of types (map kept_line lines) lines v ∷ fs) (fates_same vs)

  none_next : (v : PlanVariable) (b : Bool) (o : Option Line) (u : Option PlanVariable) → is_none o ≡ is_none u
      → is_none (if b then Some (initial_line types v) else o) ≡ is_none (if b then Some v else u)
  none_next v true o u rest = refl
  none_next v false o u rest = rest

  none_same : (l : Line) (vs : List PlanVariable)
      → is_dropped (map (initial_line types) vs) l ≡ is_none (find (λ v. bytes_eq l.path (path_text v.path)) vs)
  none_same l [] = refl
  none_same l (v ∷ vs) =
      none_next v (bytes_eq l.path (path_text v.path)) (line_with_path l.path (map (initial_line types) vs))
      (find (λ v. bytes_eq l.path (path_text v.path)) vs) (none_same l vs)

  pub filter_same : (vs : List PlanVariable) (ls : List Line)
      → filter (is_dropped (map (initial_line types) vs)) ls
      ≡ filter (λ l. is_none (find (λ v. bytes_eq l.path (path_text v.path)) vs)) ls
  filter_same vs [] = refl
  filter_same vs (l ∷ ls) =
      ap (λ b. if b then l ∷ filter (is_dropped (map (initial_line types) vs)) ls
      else filter (is_dropped (map (initial_line types) vs)) ls) (none_same l vs)
      ∙ ap (λ rest. if is_none (find (λ v. bytes_eq l.path (path_text v.path)) vs) then l ∷ rest else rest)
      (filter_same vs ls)

  pub counted_same : (vs : List PlanVariable)
      → all_changes lines (map (initial_line types) (retained vs))
      ≡ changes_in types (map kept_line lines) lines (retained vs)
  counted_same vs =
      let rs = retained vs in
      let ws = map (initial_line types) rs in
      ap (λ fs. changes_of fs (length (filter (is_dropped ws) lines))) (fates_same rs)
      ∙ ap (λ ls. changes_of (map (fate_of types (map kept_line lines) lines) rs) (length ls)) (filter_same rs lines)

  pub shown_same : (vs : List PlanVariable)
      → all_shown types lines (map (initial_line types) (retained vs))
      ≡ fates_shown types (map kept_line lines) lines (retained vs)
  shown_same vs =
      let rs = retained vs in
      let ws = map (initial_line types) rs in
      let kept = map kept_line lines in
      ap (λ t. t ++ flat_map dropped_shown (filter (is_dropped ws) lines) ++ changes_shown (all_changes lines ws))
      (variables_same vs)
      ∙ ap (λ ls. flat_map (variable_shown types kept lines) rs ++ flat_map dropped_shown ls
      ++ changes_shown (all_changes lines ws)) (filter_same rs lines)
      ∙ ap (λ c. flat_map (variable_shown types kept lines) rs
      ++ flat_map dropped_shown (dropped_lines types kept lines rs) ++ changes_shown c) (counted_same vs)

-- how many there are of each in a record of another layout text
pub changes_found : (types : Enumerations) (vs : List PlanVariable) (generation : ℕ) (c : Content) (ws lines : List Line)
    (layout : List ℕ) (told_changes : Changes) → ws ≡ map (initial_line types) (retained vs)
    → lines ≡ valued_lines c.layout c.values → false ≡ bytes_eq c.layout layout → layout ≡ layout_text types vs
    → told_changes ≡ all_changes lines ws
    → ◌≡◌ {A = Option Changes} (Some told_changes) (against.changes types vs (Found generation c))
changes_found types vs generation c ws lines layout told_changes e f g h i =
    let told_lines = valued_lines c.layout c.values in
    let all = changes_in types (kept_in c).lines told_lines (retained vs) in
    ap Some (i ∙ ap (λ x. all_changes lines x) e ∙ ap (λ x. all_changes x (map (initial_line types) (retained vs))) f
    ∙ counted_same types told_lines vs
    ∙ ap (λ k. changes_in types k told_lines (retained vs)) (lines_told c.layout c.values))
    ∙ ap (λ (b : Bool). if b then None else Some all) (g ∙ ap (bytes_eq c.layout) h)

-- none if the layout text is the same
pub changes_same : (types : Enumerations) (vs : List PlanVariable) (generation : ℕ) (c : Content) (layout : List ℕ)
    → true ≡ bytes_eq c.layout layout → layout ≡ layout_text types vs
    → ◌≡◌ {A = Option Changes} None (against.changes types vs (Found generation c))
changes_same types vs generation c layout g h =
    let all = changes_in types (kept_in c).lines (valued_lines c.layout c.values) (retained vs) in
    ap (λ (b : Bool). if b then None else Some all) (g ∙ ap (bytes_eq c.layout) h)

-- the text for a file without a record
pub first_written : (types : Enumerations) (vs : List PlanVariable) (ws lines : List Line)
    → ws ≡ map (initial_line types) (retained vs) → lines ≡ []
    → shown_text Nothing ++ all_shown types lines ws ++ saved_shown true 0 ≡ against.against types vs Nothing
first_written types vs ws lines e f =
    ap (λ x. shown_text Nothing ++ all_shown types lines x ++ saved_shown true 0) e
    ∙ ap (λ x. shown_text Nothing ++ all_shown types x (map (initial_line types) (retained vs)) ++ saved_shown true 0) f
    ∙ ap (λ t. shown_text Nothing ++ t ++ saved_shown true 0) (shown_same types [] vs)

-- the text for a file with a record
pub next_written : (types : Enumerations) (vs : List PlanVariable) (generation : ℕ) (c : Content) (ws lines : List Line)
    (same : Bool) (layout : List ℕ) → ws ≡ map (initial_line types) (retained vs) → lines ≡ valued_lines c.layout c.values
    → same ≡ bytes_eq c.layout layout → layout ≡ layout_text types vs
    → generation_shown generation ++ moment_shown c.moment ++ all_shown types lines ws ++ saved_shown same generation
    ≡ against.against types vs (Found generation c)
next_written types vs generation c ws lines same layout e f g h =
    let head = generation_shown generation ++ moment_shown c.moment in
    let told_lines = valued_lines c.layout c.values in
    let rs = retained vs in
    ap (λ x. head ++ all_shown types lines x ++ saved_shown same generation) e
    ∙ ap (λ x. head ++ all_shown types x (map (initial_line types) rs) ++ saved_shown same generation) f
    ∙ ap (λ t. head ++ t ++ saved_shown same generation) (shown_same types told_lines vs)
    ∙ ap (λ k. head ++ fates_shown types k told_lines rs ++ saved_shown same generation)
    (lines_told c.layout c.values)
    ∙ ap (λ b. head ++ fates_shown types (kept_in c).lines told_lines rs ++ saved_shown b generation)
    (g ∙ ap (bytes_eq c.layout) h)

-- the last record of a store, with its generation
pub found_is : (last : Recovered) (generation : ℕ) (c : Content) → ◌≡◌ {A = Option Content} (Some c) (record_in last)
    → IsLast generation last → last ≡ Found generation c
found_is TooLong generation c e is = absurd is
found_is Refused generation c e is = absurd is
found_is Nothing generation c e is = absurd (cc)
found_is (Found g d) generation c e (same, _) = ap (λ x. Found x d) same ∙ ap (Found generation) (sym (same_Some c d e))
