-- The functions and blocks of a linked text are found by number as by name, and are linked.
use Rattle.std.proofs.Common.{◌≡◌, inl, inr, ℕ, suc, ◌+◌, Bool, true, false, if◌then◌else◌, List, [], ◌∷◌}
use Rattle.std.proofs.Common.{slice_get, Option, Some, None, option_map, refl, sym, ap, ◌∙◌, subst, arith}
use Rattle.std.specs.Prelude.{bytes_eq}
use Rattle.std.specs.List.{list_all}
use Rattle.st_types.specs.declared.data_type.SimpleType.{SimpleType}
use Rattle.st_types.specs.declared.unit.UnitSort.{UnitSort}
use Rattle.st_types.specs.declared.unit.UnitSort.TheVariants as sorts
use Rattle.st_types.specs.Units.{OrganisationUnit}
use Rattle.st_meaning.specs.NameTypes.{Declared}
use Rattle.st_meaning.specs.Scopes.{Name, Function, Block, function_in, block_in}
use Rattle.st_meaning.specs.StandardBlocks.{StandardBlock, block_of, members_of}
use Rattle.layout.specs.LayoutVariables.{Owned}
use Rattle.layout.specs.Libraries.{function_of_unit, function_then, functions_among, block_of_unit, block_then}
use Rattle.layout.specs.Libraries.{blocks_among, library_of}
use Rattle.layout.specs.Names.{are_different, names_of_sites, variable_names, has_different_variables}
use Rattle.layout.specs.Names.{has_different_fields, are_types_and_units_different}
use Rattle.layout.specs.Shapes.{Parts}
use Rattle.layout.specs.VariableSlots.{are_declared_once}
use Rattle.layout.specs.TextLayouts.{slots_of}
use Rattle.layout.specs.Types.{sites_of_blocks}
use Rattle.layout.proofs.NameLemmas.{variables_once}
use Rattle.slot_trees.specs.SlotTrees.{own_block, standard_block, SlotStmts, SlotFunction, SlotLibrary}
use Rattle.slot_trees.specs.Tables.{named_in}
use Rattle.slot_trees.specs.LinkedTexts.{parts_of_members, HasFunction, HasBlock, IsStandard}
use Rattle.slot_trees.specs.LinkedTexts.{IsLibraryLink, IsBlockLink}
use Rattle.slot_trees.specs.TextNumbers.{numbered_from, function_name_then, function_names, block_name_then}
use Rattle.slot_trees.specs.TextNumbers.{block_names}
use Rattle.slot_trees.specs.TextNumbers.{standard_codes, own_codes, members_of_block, members_then, own_members}
use Rattle.slot_trees.specs.TextNumbers.{standard_members, numbers_of}
use Rattle.slot_trees.specs.TextLinks.{linked_then, sites_of_call, linked_function, linked_function_then}
use Rattle.slot_trees.specs.TextLinks.{linked_functions}
use Rattle.slot_trees.specs.TextLinks.{linked_block, linked_block_then, linked_blocks, library_with, linked_library}
use Rattle.slot_trees.specs.Orderly.{has_orderly_variables, are_units_orderly}
use Rattle.slot_trees.proofs.NamedLemmas.{named_split, named_first, named_behind, named_mapped, standard_code}
use Rattle.slot_trees.proofs.NamedLemmas.{standard_member}
use Rattle.slot_trees.proofs.FunctionLinks.{function_link}
use Rattle.slot_trees.proofs.BlockLinks.{block_link}
use Rattle.st_types.proofs.TestLemmas.{without_zero}
use Rattle.st_types.proofs.OptionLemmas.{some_is, map_some, then_some}
use Rattle.std.proofs.lemmas.Bool.{and_parts}

-- the first of a linked list, and the others
pub record IsLinkedList {A : Type 0} (o : Option A) (rest : Option (List A)) (ys : List A) : Type 0 where
  pub first : A
  pub others : List A
  pub first_is : o ≡ Some first
  pub others_are : rest ≡ Some others
  pub all : first ∷ others ≡ ys

pub linked_list : {A : Type 0} (o : Option A) (rest : Option (List A)) (ys : List A) → linked_then o rest ≡ Some ys
    → IsLinkedList o rest ys
linked_list o rest ys h =
    let t = then_some (λ y. option_map (λ zs. y ∷ zs) rest) o ys h in
    let m = map_some (λ zs. t.0 ∷ zs) rest ys t.2 in
    record { first = t.0; others = m.0; first_is = t.1; others_are = m.1; all = m.2 }

-- a function by its name and its number, if the first one has the number n
record IsFunction (text : Declared) (named : List Function) (fs : List SlotFunction) (x : Name) (n i : ℕ)
    : Type 0 where
  pub unit : OrganisationUnit
  pub result : SimpleType
  pub linked : SlotFunction
  pub position : ℕ
  pub there : function_in named x ≡ Some (function_of_unit text result unit)
  pub numbered : slice_get fs position ≡ Some linked
  pub number : i ≡ n + position
  pub is : linked_function text result unit ≡ Some linked
  pub differ : are_different (variable_names (sorts.Function result) unit) ≡ true

module _ (text : Declared) (x : Name) (i : ℕ) where
  function_later : (f : Function) (named : List Function) (g : SlotFunction) (gs : List SlotFunction) (n : ℕ)
      → bytes_eq x f.name ≡ false → IsFunction text named gs x (suc n) i → IsFunction text (f ∷ named) (g ∷ gs) x n i
  function_later f named g gs n e d =
      let there = d.there in let number = d.number in
      record {
        unit = d.unit;
        result = d.result;
        linked = d.linked;
        position = suc d.position;
        there = rw e there;
        numbered = d.numbered;
        number = omega arith;
        is = d.is;
        differ = d.differ;
      }

  function_first : (v : OrganisationUnit) (t : SimpleType) (named : List Function) (g : SlotFunction)
      (gs : List SlotFunction) (n : ℕ) → bytes_eq x v.name.name ≡ true → n ≡ i → linked_function text t v ≡ Some g
      → are_different (variable_names (sorts.Function t) v) ≡ true
      → IsFunction text (function_of_unit text t v ∷ named) (g ∷ gs) x n i
  function_first v t named g gs n e number is differ = record {
    unit = v;
    result = t;
    linked = g;
    position = 0;
    there = rw e refl;
    numbered = refl;
    number = omega (arith, number);
    is = is;
    differ = differ;
  }

  function_test : (v : OrganisationUnit) (t : SimpleType) (named : List Function) (names : List Name) (g : SlotFunction)
      (gs : List SlotFunction) (n : ℕ) → linked_function text t v ≡ Some g
      → are_different (variable_names (sorts.Function t) v) ≡ true
      → (named_in (numbered_from (suc n) names) x ≡ Some i → IsFunction text named gs x (suc n) i) → (b : Bool)
      → bytes_eq x v.name.name ≡ b → (if b then Some n else named_in (numbered_from (suc n) names) x) ≡ Some i
      → IsFunction text (function_of_unit text t v ∷ named) (g ∷ gs) x n i
  function_test v t named names g gs n is differ ih true e h =
      function_first v t named g gs n e (some_is h) is differ
  function_test v t named names g gs n is differ ih false e h =
      function_later (function_of_unit text t v) named g gs n e (ih h)

  function_by_sort : (v : OrganisationUnit) (us : List OrganisationUnit) (n : ℕ) (fs : List SlotFunction)
      → ((m : ℕ) (gs : List SlotFunction) → linked_functions text us ≡ Some gs
      → named_in (numbered_from m (function_names us)) x ≡ Some i
      → IsFunction text (functions_among text us) gs x m i)
      → (s : UnitSort) → are_different (variable_names s v) ≡ true
      → linked_function_then text s v (linked_functions text us) ≡ Some fs
      → named_in (numbered_from n (function_name_then s v.name.name (function_names us))) x ≡ Some i
      → IsFunction text (function_then text s v (functions_among text us)) fs x n i
  function_by_sort v us n fs ih (sorts.Function t) differ l h =
      let p = linked_list (linked_function text t v) (linked_functions text us) fs l in
      subst (λ hs. IsFunction text (function_of_unit text t v ∷ functions_among text us) hs x n i) p.all
      (function_test v t (functions_among text us) (function_names us) p.first p.others n p.first_is differ
      (ih (suc n) p.others p.others_are) (bytes_eq x v.name.name) refl h)
  function_by_sort v us n fs ih sorts.FunctionBlock differ l h = ih n fs l h
  function_by_sort v us n fs ih sorts.Program differ l h = ih n fs l h

  function_numbered : (us : List OrganisationUnit) (n : ℕ) (fs : List SlotFunction)
      → list_all has_different_variables us ≡ true → linked_functions text us ≡ Some fs
      → named_in (numbered_from n (function_names us)) x ≡ Some i
      → IsFunction text (functions_among text us) fs x n i
  function_numbered [] n fs all l h = absurd (cc)
  function_numbered (v ∷ us) n fs all l h =
      let b = and_parts (has_different_variables v) (list_all has_different_variables us) all in
      function_by_sort v us n fs (λ m gs k g. function_numbered us m gs b.1 k g) v.sort b.0 l h

-- a block by its name and its number
record IsBlock (text : Declared) (vs : List Owned) (named : List Block) (known : List (Name × Parts))
    (codes : List SlotStmts) (x : Name) (n i : ℕ) : Type 0 where
  pub unit : OrganisationUnit
  pub linked : SlotStmts
  pub position : ℕ
  pub there : block_in named x ≡ Some (block_of_unit text unit)
  pub members : named_in known x ≡ Some (members_of_block text unit)
  pub numbered : slice_get codes position ≡ Some linked
  pub number : i ≡ n + position
  pub is : linked_block text vs unit ≡ Some linked
  pub differ : are_different (names_of_sites (sites_of_blocks unit.blocks)) ≡ true
  pub orderly : has_orderly_variables text unit ≡ true

module _ (text : Declared) (vs : List Owned) (x : Name) (i : ℕ) where
  block_later : (b : Block) (named : List Block) (ps : Parts) (known : List (Name × Parts)) (c : SlotStmts)
      (cs : List SlotStmts) (n : ℕ) → bytes_eq x b.name ≡ false → IsBlock text vs named known cs x (suc n) i
      → IsBlock text vs (b ∷ named) ((b.name, ps) ∷ known) (c ∷ cs) x n i
  block_later b named ps known c cs n e d =
      let there = d.there in let members = d.members in let number = d.number in
      record {
        unit = d.unit;
        linked = d.linked;
        position = suc d.position;
        there = rw e there;
        members = rw e members;
        numbered = d.numbered;
        number = omega arith;
        is = d.is;
        differ = d.differ;
        orderly = d.orderly;
      }

  block_first : (v : OrganisationUnit) (named : List Block) (known : List (Name × Parts)) (c : SlotStmts)
      (cs : List SlotStmts) (n : ℕ) → bytes_eq x v.name.name ≡ true → n ≡ i → linked_block text vs v ≡ Some c
      → are_different (names_of_sites (sites_of_blocks v.blocks)) ≡ true → has_orderly_variables text v ≡ true
      → IsBlock text vs (block_of_unit text v ∷ named) ((v.name.name, members_of_block text v) ∷ known) (c ∷ cs) x n i
  block_first v named known c cs n e number is differ orderly = record {
    unit = v;
    linked = c;
    position = 0;
    there = rw e refl;
    members = rw e refl;
    numbered = refl;
    number = omega (arith, number);
    is = is;
    differ = differ;
    orderly = orderly;
  }

  block_test : (v : OrganisationUnit) (named : List Block) (known : List (Name × Parts)) (names : List Name)
      (c : SlotStmts) (cs : List SlotStmts) (n : ℕ) → linked_block text vs v ≡ Some c
      → are_different (names_of_sites (sites_of_blocks v.blocks)) ≡ true → has_orderly_variables text v ≡ true
      → (named_in (numbered_from (suc n) names) x ≡ Some i → IsBlock text vs named known cs x (suc n) i) → (b : Bool)
      → bytes_eq x v.name.name ≡ b → (if b then Some n else named_in (numbered_from (suc n) names) x) ≡ Some i
      → IsBlock text vs (block_of_unit text v ∷ named) ((v.name.name, members_of_block text v) ∷ known) (c ∷ cs) x n i
  block_test v named known names c cs n is differ orderly ih true e h =
      block_first v named known c cs n e (some_is h) is differ orderly
  block_test v named known names c cs n is differ orderly ih false e h =
      block_later (block_of_unit text v) named (members_of_block text v) known c cs n e (ih h)

  block_by_sort : (v : OrganisationUnit) (us : List OrganisationUnit) (n : ℕ) (cs : List SlotStmts)
      → has_orderly_variables text v ≡ true
      → ((m : ℕ) (ds : List SlotStmts) → linked_blocks text vs us ≡ Some ds
      → named_in (numbered_from m (block_names us)) x ≡ Some i
      → IsBlock text vs (blocks_among text us) (own_members text us) ds x m i)
      → (s : UnitSort) → are_different (variable_names s v) ≡ true
      → linked_block_then text vs s v (linked_blocks text vs us) ≡ Some cs
      → named_in (numbered_from n (block_name_then s v.name.name (block_names us))) x ≡ Some i
      → IsBlock text vs (block_then text s v (blocks_among text us)) (members_then text s v (own_members text us)) cs x
      n i
  block_by_sort v us n cs orderly ih sorts.FunctionBlock differ l h =
      let p = linked_list (linked_block text vs v) (linked_blocks text vs us) cs l in
      subst
      (λ ds. IsBlock text vs (block_of_unit text v ∷ blocks_among text us)
      ((v.name.name, members_of_block text v) ∷ own_members text us) ds x n i) p.all
      (block_test v (blocks_among text us) (own_members text us) (block_names us) p.first p.others n p.first_is differ
      orderly (ih (suc n) p.others p.others_are) (bytes_eq x v.name.name) refl h)
  block_by_sort v us n cs orderly ih (sorts.Function t) differ l h = ih n cs l h
  block_by_sort v us n cs orderly ih sorts.Program differ l h = ih n cs l h

  block_numbered : (us : List OrganisationUnit) (n : ℕ) (cs : List SlotStmts)
      → list_all has_different_variables us ≡ true → list_all (has_orderly_variables text) us ≡ true
      → linked_blocks text vs us ≡ Some cs → named_in (numbered_from n (block_names us)) x ≡ Some i
      → IsBlock text vs (blocks_among text us) (own_members text us) cs x n i
  block_numbered [] n cs all orderly l h = absurd (cc)
  block_numbered (v ∷ us) n cs all orderly l h =
      let b = and_parts (has_different_variables v) (list_all has_different_variables us) all in
      let c = and_parts (has_orderly_variables text v) (list_all (has_orderly_variables text) us) orderly in
      block_by_sort v us n cs c.0 (λ m ds k g. block_numbered us m ds b.1 c.1 k g) v.sort b.0 l h

-- numbers of standard blocks and of blocks of the text
code_is : (o : Option StandardBlock) (i : ℕ) → option_map standard_block o ≡ Some (own_block i) → ⊥
code_is None i h = cc
code_is (Some k) i h = let e : standard_block k ≡ own_block i = some_is h in cc

standard_is : (o : Option StandardBlock) (k : StandardBlock) → option_map standard_block o ≡ Some (standard_block k)
    → o ≡ Some k
standard_is None k h = absurd (cc)
standard_is (Some j) k h = let e : standard_block j ≡ standard_block k = some_is h in cc

no_standard : (o : Option StandardBlock) → option_map standard_block o ≡ None → o ≡ None
no_standard None h = refl
no_standard (Some k) h = absurd (cc)

number_is : (o : Option ℕ) (i : ℕ) → option_map own_block o ≡ Some (own_block i) → o ≡ Some i
number_is None i h = absurd (cc)
number_is (Some j) i h = let e : own_block j ≡ own_block i = some_is h in cc

no_number : (o : Option ℕ) (k : StandardBlock) → option_map own_block o ≡ Some (standard_block k) → ⊥
no_number None k h = cc
no_number (Some j) k h = let e : own_block j ≡ standard_block k = some_is h in cc

module _ (text : Declared) (vs : List Owned) (code : SlotLibrary)
    (once : are_declared_once text vs ≡ true) (differ : are_types_and_units_different text ≡ true)
    (orderly : are_units_orderly text ≡ true) (h : linked_library text vs ≡ Some code) where
  units_differ : list_all has_different_variables text.units ≡ true
  units_differ =
      (and_parts (list_all (λ t. has_different_fields t.definition) text.types)
      (list_all has_different_variables text.units) differ).1

  -- and_parts lists of the library
  record AreLinked : Type 0 where
    functions : linked_functions text text.units ≡ Some code.functions
    blocks : linked_blocks text vs text.units ≡ Some code.blocks

  are_linked : AreLinked
  are_linked =
      let t = then_some (λ fs. option_map (library_with fs) (linked_blocks text vs text.units))
      (linked_functions text text.units) code h in
      let m = map_some (library_with t.0) (linked_blocks text vs text.units) code t.2 in
      record { functions = t.1 ∙ ap (λ c. Some c.functions) m.2; blocks = m.1 ∙ ap (λ c. Some c.blocks) m.2 }

  has_function : (f : Name) (i : ℕ) → named_in (numbers_of text).functions f ≡ Some i
      → HasFunction (library_of text) code (numbers_of text) f i
  has_function f i g =
      let d = function_numbered text f i text.units 0 code.functions units_differ are_linked.functions g in
      record {
        named = function_of_unit text d.result d.unit;
        linked = d.linked;
        there = d.there;
        numbered = subst (λ j. slice_get code.functions j ≡ Some d.linked) (without_zero i d.position d.number) d.numbered;
        link = function_link text d.result d.unit d.linked
            (variables_once text differ (sites_of_call d.result d.unit) d.differ) d.is;
      }

  own_has : (b : Name) (i : ℕ) (ps : Parts) → block_of b ≡ None
      → named_in (own_codes 0 (block_names text.units)) b ≡ Some (own_block i)
      → named_in (numbers_of text).members b ≡ Some ps
      → HasBlock (slots_of text vs) (library_of text) code (numbers_of text) b i ps
  own_has b i ps own g m =
      let numbered = named_mapped own_block (numbered_from 0 (block_names text.units)) b in
      let d = block_numbered text vs b i text.units 0 code.blocks units_differ orderly are_linked.blocks
      (number_is (named_in (numbered_from 0 (block_names text.units)) b) i (sym numbered ∙ g)) in
      let members : members_of_block text d.unit ≡ ps =
      some_is (sym d.members
      ∙ sym (named_behind standard_members (own_members text text.units) b
      (standard_member b ∙ ap (option_map (λ k. parts_of_members (members_of k))) own)) ∙ m) in
      record {
        named = block_of_unit text d.unit;
        linked = d.linked;
        own = own;
        there = d.there;
        numbered = subst (λ j. slice_get code.blocks j ≡ Some d.linked) (without_zero i d.position d.number) d.numbered;
        link = subst
            (λ qs. IsBlockLink (slots_of text vs) (numbers_of text) qs (block_of_unit text d.unit) d.linked) members
            (block_link text d.unit d.differ d.orderly vs once d.linked d.is);
      }

  has_block : (b : Name) (i : ℕ) (ps : Parts) → named_in (numbers_of text).blocks b ≡ Some (own_block i)
      → named_in (numbers_of text).members b ≡ Some ps
      → HasBlock (slots_of text vs) (library_of text) code (numbers_of text) b i ps
  has_block b i ps g m =
      elim (named_split standard_codes (own_codes 0 (block_names text.units)) b (own_block i) g) [
        | inl k ↦ absurd (code_is (block_of b) i (sym (standard_code b) ∙ k))
        | inr k ↦ own_has b i ps (no_standard (block_of b) (sym (standard_code b) ∙ k.0)) k.1 m
      ]

  is_standard : (b : Name) (k : StandardBlock) (ps : Parts)
      → named_in (numbers_of text).blocks b ≡ Some (standard_block k)
      → named_in (numbers_of text).members b ≡ Some ps → IsStandard b k ps
  is_standard b k ps g m =
      elim (named_split standard_codes (own_codes 0 (block_names text.units)) b (standard_block k) g) [
        | inl j ↦
            let is = standard_is (block_of b) k (sym (standard_code b) ∙ j) in
            record {
              there = is;
              members = sym (some_is (sym (named_first standard_members (own_members text text.units) b
                  (parts_of_members (members_of k))
                  (standard_member b ∙ ap (option_map (λ i. parts_of_members (members_of i))) is)) ∙ m));
            }
        | inr j ↦ absurd
            (no_number (named_in (numbered_from 0 (block_names text.units)) b) k
            (sym (named_mapped own_block (numbered_from 0 (block_names text.units)) b) ∙ j.1))
      ]

  pub library_link : IsLibraryLink (slots_of text vs) (library_of text) code (numbers_of text)
  library_link = record { functions = has_function; blocks = has_block; standards = is_standard }
