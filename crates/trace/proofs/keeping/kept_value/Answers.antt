use Rattle.std.specs.Vec.{vec_items}
use Rattle.std.proofs.Common.{map, Some, None, List, ℕ, subst, ◌≡◌, ◌++◌, ◌∷◌, [], option_map, Option}
use Rattle.st_types.specs.declared.kind.Kind.{Kind}
use Rattle.st_types.specs.Values.{Datum, IsHeld}
use Rattle.st_print.specs.Spelling.{value_text}
use Rattle.trace.specs.Reads.{BeginsWith, IsRestAfter}
use Rattle.trace.proofs.KeepLemmas.{keep_begins, keep_not}
use Rattle.trace.proofs.keeping.kept_value.Goals as goal

pub returns-in-Some : goal.returns-in-Some
returns-in-Some c =
    let o : Option (Datum × List ℕ) = option_map (λ p. (p.0, p.1.now)) c.first_value.result in
    keep_begins (map vec_items c.args.types.now) c.args.variable.now c.args.text.now c.in-Some.field.now c.in_ok-words.words.items o c.in_ok-words.ensures
    (subst (λ (w : List ℕ). IsRestAfter c.args.text.now w (Some c.in-Some.field.now)) c.deref.ensures.value
    c.in-Some.ensures)
    (subst (λ (k : Kind). BeginsWith (λ (v : Datum). (v.kind ≡ k) × IsHeld v) (λ v. value_text (map vec_items c.args.types.now) v ++ 10 ∷ [])
    c.in-Some.field.now o) c.kind.ensures c.first_value.ensures)

pub returns : goal.returns
returns c =
    keep_not (map vec_items c.args.types.now) c.args.variable.now c.args.text.now c.in_ok-words.words.items c.in_ok-words.ensures
    (subst (λ (w : List ℕ). IsRestAfter c.args.text.now w None) c.deref.ensures.value c.in-None.ensures)
