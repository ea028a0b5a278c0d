-- The variables of a unit as sites come from its declarations.
use Rattle.std.proofs.Common.{◌≡◌, inl, inr, Bool, true, false, if◌then◌else◌, List, [], ◌∷◌, ◌++◌, map}
use Rattle.std.proofs.Common.{Option, refl, sym, ap}
use Rattle.std.specs.List.{list_all}
use Rattle.st_types.specs.declared.identifier.Identifier.{Identifier}
use Rattle.st_types.specs.declared.declaration.Retention.{Retention}
use Rattle.st_types.specs.Declarations.{Declaration, VariableBlock}
use Rattle.st_meaning.specs.Bodies.{is_external}
use Rattle.st_meaning.specs.NameTypes.{Declared}
use Rattle.st_meaning.specs.ResolvedUnits.{resolved_type, resolved_declaration, resolved_block}
use Rattle.layout.specs.Types.{NamedSite, with_site, site_of_declaration, sites_of_declarations, retention_of}
use Rattle.layout.specs.Types.{sites_of_blocks}
use Rattle.st_link.proofs.Among.{Among, here, later, in_either}

-- the members of a list all of which pass
pub all_from : {A : Type 0} (p : A → Bool) (xs : List A) → ((a : A) → Among a xs → p a ≡ true)
    → list_all p xs ≡ true
all_from p [] h = refl
all_from p (x ∷ xs) h = rw (h x here) (all_from p xs (λ a among. h a (later among)))

record FromMap {A B : Type 0} (f : A → B) (xs : List A) (b : B) : Type 0 where
  pub one : A
  pub among : Among one xs
  pub is : f one ≡ b

from_map : {A B : Type 0} (f : A → B) (xs : List A) (b : B) → Among b (map f xs) → FromMap f xs b
from_map f [] b h = elim h [ ]
from_map f (x ∷ xs) b here = record { one = x; among = here; is = refl }
from_map f (x ∷ xs) b (later h) =
    let i = from_map f xs b h in record { one = i.one; among = later i.among; is = i.is }

-- a site with its declaration
pub record IsDeclaredIn (bs : List VariableBlock) (e : NamedSite) : Type 0 where
  pub block : VariableBlock
  pub there : Among block bs
  pub own : is_external block.section ≡ false
  pub declaration : Declaration
  pub among : Among declaration block.declarations
  pub one : Identifier
  pub name : Among one declaration.names
  pub named : e.name ≡ one.name
  pub declared : e.site.declared ≡ resolved_type declaration.declared

record InDeclarations (ds : List Declaration) (e : NamedSite) : Type 0 where
  pub declaration : Declaration
  pub among : Among declaration ds
  pub one : Identifier
  pub name : Among one declaration.names
  pub named : e.name ≡ one.name
  pub declared : e.site.declared ≡ resolved_type declaration.declared

module _ (text : Declared) (e : NamedSite) where
  in_declarations : (keep : Option Retention) (ds : List Declaration)
      → Among e (sites_of_declarations keep (map (resolved_declaration text) ds)) → InDeclarations ds e
  in_declarations keep [] h = elim h [ ]
  in_declarations keep (d ∷ ds) h =
      let s = site_of_declaration keep (resolved_declaration text d) in
      elim (in_either (map (with_site s) d.names) (sites_of_declarations keep (map (resolved_declaration text) ds)) h) [
        | inl k ↦
            let i = from_map (with_site s) d.names e k in
            record {
              declaration = d;
              among = here;
              one = i.one;
              name = i.among;
              named = ap (λ z. z.name) (sym i.is);
              declared = ap (λ z. z.site.declared) (sym i.is);
            }
        | inr k ↦
            let i = in_declarations keep ds k in
            record {
              declaration = i.declaration;
              among = later i.among;
              one = i.one;
              name = i.name;
              named = i.named;
              declared = i.declared;
            }
      ]

  in_later : (b : VariableBlock) (bs : List VariableBlock) → IsDeclaredIn bs e → IsDeclaredIn (b ∷ bs) e
  in_later b bs i = record {
    block = i.block;
    there = later i.there;
    own = i.own;
    declaration = i.declaration;
    among = i.among;
    one = i.one;
    name = i.name;
    named = i.named;
    declared = i.declared;
  }

  by_section : (b : VariableBlock) (bs : List VariableBlock)
      → (Among e (sites_of_blocks (map (resolved_block text) bs)) → IsDeclaredIn bs e) → (external : Bool)
      → is_external b.section ≡ external
      → Among e (if external then sites_of_blocks (map (resolved_block text) bs)
      else sites_of_declarations (retention_of b.section) (map (resolved_declaration text) b.declarations)
      ++ sites_of_blocks (map (resolved_block text) bs))
      → IsDeclaredIn (b ∷ bs) e
  by_section b bs ih true is h = in_later b bs (ih h)
  by_section b bs ih false is h =
      elim (in_either
      (sites_of_declarations (retention_of b.section) (map (resolved_declaration text) b.declarations))
      (sites_of_blocks (map (resolved_block text) bs)) h) [
        | inl k ↦
            let i = in_declarations (retention_of b.section) b.declarations k in
            record {
              block = b;
              there = here;
              own = is;
              declaration = i.declaration;
              among = i.among;
              one = i.one;
              name = i.name;
              named = i.named;
              declared = i.declared;
            }
        | inr k ↦ in_later b bs (ih k)
      ]

  pub declared_in_blocks : (bs : List VariableBlock) → Among e (sites_of_blocks (map (resolved_block text) bs))
      → IsDeclaredIn bs e
  declared_in_blocks [] h = elim h [ ]
  declared_in_blocks (b ∷ bs) h =
      by_section b bs (declared_in_blocks bs) (is_external b.section) refl h
