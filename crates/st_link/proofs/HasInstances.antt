-- Whether some of a unit's variables are instances.
use Rattle.std.proofs.Common.{◌≡◌, refl, sym, ap, ◌∙◌, ℕ, ◌+◌, ◌<◌, List, [], ◌∷◌, ◌++◌, map, take, drop, length}
use Rattle.std.proofs.Common.{slice_index_or, Bool, true, false, if◌then◌else◌, Option}
use Rattle.std.specs.Prelude.{is_some}
use Rattle.std.proofs.lemmas.List.{map-append, take-append-drop}
use Rattle.st_meaning.specs.NameTypes.{Declared}
use Rattle.layout.specs.Types.{instance_of}
use Rattle.slot_trees.specs.declared.statement.BlockCode.{BlockCode}
use Rattle.st_link.specs.LinkVariables.{variable_view}
use Rattle.st_link.specs.Tables.{IsCode, has_some, instances_in}
use Rattle.st_link.specs.declared.variables.Variable.{Variable}
use Rattle.st_link.proofs.UnitInstances.{instances_after, instances_first}
use Rattle.st_link.proofs.SymbolLemmas.{more_taken}

split : (xs : List Variable) (i : ℕ) (v : Variable) → i < length xs → v ≡ slice_index_or xs i v
    → map variable_view xs
    ≡ (map variable_view (take i xs) ++ variable_view v ∷ []) ++ map variable_view (drop (i + 1) xs)
split xs i v below is =
    ap (map variable_view) (sym (take-append-drop (i + 1) xs))
    ∙ map-append variable_view (take (i + 1) xs) (drop (i + 1) xs)
    ∙ ap (λ vs. vs ++ map variable_view (drop (i + 1) xs))
    (ap (map variable_view) (more_taken xs i v below is) ∙ map-append variable_view (take i xs) (v ∷ []))

pub some_there : (text : Declared) (xs : List Variable) (i : ℕ) (v : Variable) (c : Option BlockCode) (b : Bool)
    → i < length xs → v ≡ slice_index_or xs i v → IsCode text c (instance_of text (variable_view v).declared)
    → b ≡ is_some c → b ≡ true → true ≡ has_some (instances_in text (map variable_view xs))
some_there text xs i v c b below is code shown there =
    let vs = map variable_view (take i xs) in
    let rest = map variable_view (drop (i + 1) xs) in
    let one : has_some (instances_in text (variable_view v ∷ [])) ≡ true =
    instances_first text (variable_view v) []
    ∙ ap (λ t. if t then true else false) (sym (code.there) ∙ sym shown ∙ there) in
    sym (ap (λ ws. has_some (instances_in text ws)) (split xs i v below is)
    ∙ instances_after text (vs ++ variable_view v ∷ []) rest
    ∙ ap (λ t. if t then true else has_some (instances_in text rest))
    (instances_after text vs (variable_view v ∷ [])
    ∙ ap (λ t. if has_some (instances_in text vs) then true else t) one ∙ either (has_some (instances_in text vs))))
  where
    either : (t : Bool) → (if t then true else true) ≡ true
    either true = refl
    either false = refl

pub none_more : (text : Declared) (xs : List Variable) (i : ℕ) (v : Variable) (c : Option BlockCode) (b : Bool)
    → i < length xs → v ≡ slice_index_or xs i v → IsCode text c (instance_of text (variable_view v).declared)
    → b ≡ is_some c → b ≡ false → has_some (instances_in text (map variable_view (take i xs))) ≡ false
    → has_some (instances_in text (map variable_view (take (i + 1) xs))) ≡ false
none_more text xs i v c b below is code shown absent none =
    let vs = map variable_view (take i xs) in
    let one : has_some (instances_in text (variable_view v ∷ [])) ≡ false =
    instances_first text (variable_view v) []
    ∙ ap (λ t. if t then true else false) (sym (code.there) ∙ sym shown ∙ absent) in
    ap (λ ws. has_some (instances_in text ws))
    (ap (map variable_view) (more_taken xs i v below is) ∙ map-append variable_view (take i xs) (v ∷ []))
    ∙ instances_after text vs (variable_view v ∷ [])
    ∙ ap (λ t. if t then true else has_some (instances_in text (variable_view v ∷ []))) none ∙ one
