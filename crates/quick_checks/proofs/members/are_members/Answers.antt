use Rattle.std.proofs.Common.{◌≡◌, ◌+◌, ℕ, inl, inr, map, subst, sym}
use Rattle.std.specs.Prelude.{Some, slice_get}
use Rattle.st_types.specs.declared.kind.Kind.{Kind}
use Rattle.st_meaning.specs.StandardBlocks.{BlockMember, members_of}
use Rattle.symbols.specs.Standard.{block_view}
use Rattle.symbols.specs.declared.standard_blocks.StandardBlock as code_block
use Rattle.symbols.specs.declared.standard_blocks.StandardBlock.TheVariants.{Ctd, Ctu, Ctud, FTrig, RTrig, Rs, Sr}
use Rattle.symbols.specs.declared.standard_blocks.StandardBlock.TheVariants.{Tof, Ton, Tp}
use Rattle.quick_trees.specs.Calls.{AreMembers}
use Rattle.quick_checks.specs.declared.draft.QuickDraft.{QuickDraft}
use Rattle.quick_checks.specs.Members.{IsMember}
use Rattle.quick_checks.specs.Checking.{frame_of}
use Rattle.quick_checks.proofs.Instances.{members_stand}
use Rattle.quick_checks.proofs.members.are_members.Goals as goal

of_block : (d : QuickDraft) (now : ℕ) (block b : code_block.StandardBlock) (first word : ℕ) → block ≡ b
    → ((k : ℕ) (t : Kind) → slice_get (map (λ (x : BlockMember). x.1) (members_of (block_view b))) k ≡ Some t
    → IsMember (frame_of d 0) (first + k) (word + k) t)
    → AreMembers (frame_of d now) (members_of (block_view block)) first word
of_block d now block b first word is h =
    subst (λ x. AreMembers (frame_of d now) (members_of (block_view x)) first word) (sym is)
    (members_stand (frame_of d now) (members_of (block_view b)) first word
    (λ k t e. (let one = h k t e in record { of_type = one.of_type; has = one.has })))

pub returns-in-Sr : goal.returns-in-Sr
returns-in-Sr c = λ yes now. elim c.in-Sr.is [
  | inl e ↦ of_block c.args.draft.now now c.args.block Sr c.args.first c.args.word e (c.are_kinds.ensures yes)
  | inr (inl e) ↦ of_block c.args.draft.now now c.args.block Rs c.args.first c.args.word e (c.are_kinds.ensures yes)
  | inr (inr (inl e)) ↦ of_block c.args.draft.now now c.args.block RTrig c.args.first c.args.word e
      (c.are_kinds.ensures yes)
  | inr (inr (inr e)) ↦ of_block c.args.draft.now now c.args.block FTrig c.args.first c.args.word e
      (c.are_kinds.ensures yes)
]

pub returns-in-Ctu : goal.returns-in-Ctu
returns-in-Ctu c = λ yes now. elim c.in-Ctu.is [
  | inl e ↦ of_block c.args.draft.now now c.args.block Ctu c.args.first c.args.word e
      (c.are_kinds-in-Ctu.ensures yes)
  | inr e ↦ of_block c.args.draft.now now c.args.block Ctd c.args.first c.args.word e
      (c.are_kinds-in-Ctu.ensures yes)
]

pub returns-in-Ton : goal.returns-in-Ton
returns-in-Ton c = λ yes now. elim c.in-Ton.is [
  | inl e ↦ of_block c.args.draft.now now c.args.block Ton c.args.first c.args.word e
      (c.are_kinds-in-Ton.ensures yes)
  | inr (inl e) ↦ of_block c.args.draft.now now c.args.block Tof c.args.first c.args.word e
      (c.are_kinds-in-Ton.ensures yes)
  | inr (inr e) ↦ of_block c.args.draft.now now c.args.block Tp c.args.first c.args.word e
      (c.are_kinds-in-Ton.ensures yes)
]

pub returns-in-Ctud : goal.returns-in-Ctud
returns-in-Ctud c = λ yes now. of_block c.args.draft.now now c.args.block Ctud c.args.first c.args.word c.in-Ctud.is
    (c.are_kinds-in-Ctud.ensures yes)
