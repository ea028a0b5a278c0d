-- Members that are kept one by one.
use Rattle.std.proofs.Common.{◌≡◌, refl, sym, ap, subst, ◌∙◌, arith, ℕ, ◌+◌, ◌≤◌, List, [], ◌∷◌, Bool, true, false}
use Rattle.std.proofs.Common.{◌&&◌, if◌then◌else◌, Option, Some, None, option_map}
use Rattle.std.specs.Prelude.{bytes_eq}
use Rattle.std.specs.List.{list_all}
use Rattle.st_types.specs.declared.limits.TheConstants.{MAX_PATHS}
use Rattle.st_types.specs.declared.data_type.VariableType.{VariableType}
use Rattle.st_rules.specs.declared.limits.TheConstants.{MAX_TYPE_DEPTH}
use Rattle.st_meaning.specs.NameTypes.{Declared}
use Rattle.st_meaning.specs.Scopes.{Name}
use Rattle.symbols.specs.Agreeing.{Agree}
use Rattle.symbols.specs.Found.{or_found}
use Rattle.symbols.specs.PlaceTypes.{place_type_view}
use Rattle.layout.specs.Shapes.{Shape, size, sizes}
use Rattle.layout.specs.Types.{is_within_depth, shape_of_type}
use Rattle.layout.specs.Sizes.{capped_size}
use Rattle.slot_trees.specs.Tables.{Part, part_at, part_after}
use Rattle.st_link.specs.Members.{member_found}
use Rattle.st_link.specs.NamedMembers.{NamedType}
use Rattle.st_link.specs.Shapes.{AreExpanded, HasAllButLast, HasParts, IsMemberPlace, typed_parts}
use Rattle.st_link.specs.declared.members.MemberPlace.{MemberPlace}
use Rattle.st_link.specs.declared.aggregates.Aggregate.{Aggregate}
use Rattle.std.proofs.lemmas.Bool.{and_parts}

cut_small : (a : ℕ) → a ≤ MAX_PATHS + 1 → capped_size a ≡ a
cut_small a small = grind (arith, small)

cut_behind : (size own other more : ℕ) → own ≡ capped_size other → capped_size (capped_size (size + own) + more) ≡ capped_size (size + (other + more))
cut_behind size own other more is = grind (arith, is)

-- a member of those after one of this size
later_place : (text : Declared) (before after own : ℕ) (sh : Shape) (r : Option MemberPlace) (e : Option Part)
    → own ≡ capped_size (size sh) → after ≡ capped_size (before + own) → Agree (IsMemberPlace text after) r e
    → Agree (IsMemberPlace text before) r (option_map (part_after (size sh)) e)
later_place text before after own sh None None is moved a = tt
later_place text before after own sh None (Some e) is moved a = absurd a
later_place text before after own sh (Some m) None is moved a = absurd a
later_place text before after own sh (Some m) (Some e) is moved a = record {
  offset = a.offset ∙ ap (λ n. capped_size (n + e.offset)) moved ∙ cut_behind before own (size sh) e.offset is;
  shape = a.shape;
  expanded = a.expanded;
}

none_more : (a b : ℕ) → a ≡ 0 → capped_size b ≡ capped_size (a + b)
none_more a b h = ap capped_size (omega (arith, h))

pub or_found_twice : {A : Type 0} (a b c : Option A) → or_found a (or_found b c) ≡ or_found (or_found a b) c
or_found_twice None b c = refl
or_found_twice (Some x) b c = refl

pub grown_first : (text : Declared) (es : List NamedType) (w : Aggregate) → AreExpanded text es → w.size ≡ 0
    → ((x : Name) → member_found w.members x ≡ None) → HasAllButLast text es es w
grown_first text es w expanded none empty = record {
  expanded = expanded;
  room = omega (arith, none);
  slots = none_more w.size (sizes (typed_parts text es)) none;
  members = λ x r a.
      let here : Agree (IsMemberPlace text 0) r (part_at (typed_parts text es) x) =
      subst (λ n. Agree (IsMemberPlace text n) r (part_at (typed_parts text es) x)) none a in
      subst (λ o. Agree (IsMemberPlace text 0) (or_found o r) (part_at (typed_parts text es) x)) (sym (empty x)) here;
}

pub grown_next : (text : Declared) (es left : List NamedType) (e : NamedType) (m : MemberPlace) (own : ℕ) (w v :
    Aggregate)
    → m.offset ≡ w.size → place_type_view m.declared ≡ e.1 → own ≡ capped_size (size (shape_of_type text e.1))
    → ((x : Name) → member_found v.members x
    ≡ or_found (member_found w.members x) (if bytes_eq x e.0 then Some m else None))
    → v.size ≡ capped_size (w.size + own) → HasAllButLast text es (e ∷ left) w → HasAllButLast text es left v
grown_next text es left e m own w v at declared is added moved g =
    let b = and_parts (is_within_depth MAX_TYPE_DEPTH text e.1)
    (list_all (λ f. is_within_depth MAX_TYPE_DEPTH text f.1) left) g.expanded in
    record {
      expanded = b.1;
      room = grind (arith, moved);
      slots = g.slots ∙ sym (ap (λ n. capped_size (n + sizes (typed_parts text left))) moved
          ∙ cut_behind w.size own (size (shape_of_type text e.1)) (sizes (typed_parts text left)) is);
      members = λ x r a.
          let one = if bytes_eq x e.0 then Some m else None in
          subst (λ o. Agree (IsMemberPlace text 0) o (part_at (typed_parts text es) x))
          (or_found_twice (member_found w.members x) one r ∙ ap (λ o. or_found o r) (sym (added x)))
          (g.members x (or_found one r) (here x r (bytes_eq x e.0) b.0 a));
    }
  where
    here : (x : Name) (r : Option MemberPlace) (same : Bool) → is_within_depth MAX_TYPE_DEPTH text e.1 ≡ true
        → Agree (IsMemberPlace text v.size) r (part_at (typed_parts text left) x)
        → Agree (IsMemberPlace text w.size) (or_found (if same then Some m else None) r)
        (if same then Some (record { offset = 0; shape = shape_of_type text e.1 })
        else option_map (part_after (size (shape_of_type text e.1))) (part_at (typed_parts text left) x))
    here x r true deep a = record {
      offset = at ∙ sym (cut_small w.size g.room) ∙ ap capped_size (grind (arith));
      shape = ap (shape_of_type text) (sym declared);
      expanded = ap (is_within_depth MAX_TYPE_DEPTH text) declared ∙ deep;
    }
    here x r false deep a =
        later_place text w.size v.size own (shape_of_type text e.1) r (part_at (typed_parts text left) x) is moved a

pub grown_all : (text : Declared) (es : List NamedType) (w : Aggregate) → HasAllButLast text es [] w → HasParts text es w
grown_all text es w g = record {
  slots = sym (cut_small w.size g.room) ∙ ap capped_size (grind (arith)) ∙ sym g.slots;
  members = λ x.
      subst (λ o. Agree (IsMemberPlace text 0) o (part_at (typed_parts text es) x)) (nothing_behind (member_found
      w.members x))
      (g.members x None tt);
}
  where
    nothing_behind : (o : Option MemberPlace) → or_found o None ≡ o
    nothing_behind None = refl
    nothing_behind (Some m) = refl
