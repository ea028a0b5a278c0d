-- The composition of a type of the text that is at most as deep as the language allows.
use Rattle.std.proofs.Common.{◌≡◌, ℕ, zero, suc, ◌≤◌, Bool, true, ◌&&◌, List, [], ◌∷◌, refl, sym, ap, ◌∙◌, arith}
use Rattle.std.specs.List.{list_all}
use Rattle.st_types.specs.declared.data_type.VariableType.{VariableType}
use Rattle.st_meaning.specs.NameTypes.{Declared}
use Rattle.layout.specs.Types.{NamedSite, Composition, of_kind, of_elements, of_parts, composition_of, element_of}
use Rattle.layout.specs.Types.{composed_shape, shape_within, parts_within, is_within_depth}
use Rattle.layout.proofs.DepthLemmas.{expanded_whole}
use Rattle.std.proofs.lemmas.Bool.{and_parts}

-- a property of each part
module _ (within other : VariableType → Bool)
    (more : (t : VariableType) → within t ≡ true → other t ≡ true) where
  more_parts : (ds : List NamedSite) → list_all (λ d. within d.site.declared) ds ≡ true
      → list_all (λ d. other d.site.declared) ds ≡ true
  more_parts [] h = refl
  more_parts (d ∷ ds) h =
      let b = and_parts (within d.site.declared) (list_all (λ d. within d.site.declared) ds) h in
      ap (λ x. x && list_all (λ d. other d.site.declared) ds) (more d.site.declared b.0) ∙ more_parts ds b.1

  more_composed : (c : Composition) → parts_within within c ≡ true → parts_within other c ≡ true
  more_composed (of_kind k) h = refl
  more_composed (of_elements a) h = more (element_of a) h
  more_composed (of_parts w ds) h = more_parts ds h

within_more : (text : Declared) (n m : ℕ) (t : VariableType) → is_within_depth n text t ≡ true → n ≤ m
    → is_within_depth m text t ≡ true
unfolding is_within_depth
within_more text zero m t h le = absurd (cc)
within_more text (suc n) zero t h le = absurd (omega arith)
within_more text (suc n) (suc m) t h le =
    more_composed (is_within_depth n text) (is_within_depth m text) (λ u g. within_more text n m u g (omega arith))
    (composition_of text t) h

-- its shape, by those of its parts
pub composed_whole : (n : ℕ) (text : Declared) (t : VariableType) (c : Composition) → composition_of text t ≡ c
    → is_within_depth n text t ≡ true → shape_within n text t ≡ composed_shape (shape_within n text) c
unfolding shape_within
composed_whole n text t c is h =
    sym (expanded_whole text n (suc n) t h (omega arith)) ∙ ap (composed_shape (shape_within n text)) is

-- each part is at most this deep too
pub parts_expanded : (n : ℕ) (text : Declared) (t : VariableType) (c : Composition) → composition_of text t ≡ c
    → is_within_depth n text t ≡ true → parts_within (is_within_depth n text) c ≡ true
unfolding is_within_depth
parts_expanded n text t c is h =
    ap (parts_within (is_within_depth n text)) (sym is) ∙ within_more text n (suc n) t h (omega arith)
