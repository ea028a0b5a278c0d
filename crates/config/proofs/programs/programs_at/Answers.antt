use Rattle.std.proofs.Common.{rules, ◌≡◌, ◌∙◌, ◌++◌, ◌∷◌, List, ℕ, sym, ap, false, length, drop, map}
use Rattle.std.specs.Prelude.{nat_lt}
use Rattle.slot_code.specs.Codes.{code_view}
use Rattle.slot_code.specs.declared.code.Code.{Code}
use Rattle.config.specs.declared.places.Place.{Place}
use Rattle.config.specs.Programs.{CodedInstance, instances_from}
use Rattle.config.proofs.ProgramLemmas.{no_place}
use Rattle.config.proofs.programs.programs_at.Goals as goal

-- a code for which there is no place leaves the instances as they are
without_place : (n : ℕ) (places : List Place) (made all : List CodedInstance) (code : Code) (rest left : List Code)
    → left ≡ code ∷ rest → nat_lt n (length places) ≡ false
    → made ++ instances_from n (drop n places) (map code_view left) ≡ all
    → made ++ instances_from n (drop n places) (map code_view rest) ≡ all
without_place n places made all code rest left more none is =
    ap (λ xs. made ++ xs) (no_place n places (code_view code) (map code_view rest) none)
    ∙ ap (λ xs. made ++ instances_from n (drop n places) (map code_view xs)) (sym more) ∙ is

pub loop-code-preserved : goal.loop-code-preserved
loop-code-preserved c =
    without_place (length c.loop-code.programs.items) c.args.places.now _ _ c.in-Some.code c.next.new.self.rest.items
    c.loop-code.code-iterator.rest.items (search rules) (search rules) c.loop-code.invariant
