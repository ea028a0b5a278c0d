-- An area of a file in which the other one is closed.
use Rattle.std.proofs.Common.{◌≡◌, ◌∙◌, ap, refl, inl, inr, ℕ, ◌<◌, List, length, arith}
use Rattle.std.proofs.Common.{get_or}
use Rattle.std.specs.Prelude.{slice_set}
use Rattle.std.proofs.lemmas.Bool.Decides.{nat_tests}
use Rattle.std.proofs.lemmas.List.{length-set, get_or-set_same, get_or-set_other}
use Rattle.retain_store.specs.declared.shape.TheConstants.{FILE_BYTES}
use Rattle.retain_store.specs.Areas.{alone}
use Rattle.retain_store.specs.Recovered.{Area, Closed, Damaged, Open, recovered, area}
use Rattle.retain_store.proofs.AreaLemmas.{recovered_shut, same_area, shut_area}
use Rattle.retain_show.specs.declared.areas.TheConstants.{SECOND}
use Rattle.retain_show.specs.Shown.{alone_shown, area_shown, areas_shown, both_shown}

-- the only area is shown
alone_is : (a : Area) → alone_shown (alone a) ≡ area_shown a
alone_is Closed = refl
alone_is Damaged = refl
alone_is (Open g c) = refl

module _ (file : List ℕ) (size : length file ≡ FILE_BYTES) where
  same_size : (at : ℕ) → length (slice_set file at 0) ≡ FILE_BYTES
  same_size at = length-set file at 0 ∙ size

  is_shut : (at : ℕ) → at < FILE_BYTES → area at (slice_set file at 0) ≡ Closed
  is_shut at small =
      let gate : get_or (slice_set file at 0) at 0 ≡ 0 = get_or-set_same file at 0 0 (omega (arith, size, small)) in
      shut_area at (slice_set file at 0) (λ e. absurd (omega (arith, gate, e)))

  without_second : alone_shown (recovered (slice_set file SECOND 0)) ≡ area_shown (area 0 file)
  without_second =
      ap alone_shown (recovered_shut SECOND (slice_set file SECOND 0) (inr refl) (same_size SECOND)
      (is_shut SECOND (omega arith)))
      ∙ alone_is (area 0 (slice_set file SECOND 0))
      ∙ ap area_shown (same_area 0 (slice_set file SECOND 0) file (omega (arith, same_size SECOND)) (omega (arith, size))
      (λ i low high. get_or-set_other file SECOND i 0 0 (λ e. absurd (omega (arith, e, high)))))

  without_first : alone_shown (recovered (slice_set file 0 0)) ≡ area_shown (area SECOND file)
  without_first =
      ap alone_shown (recovered_shut 0 (slice_set file 0 0) (inl refl) (same_size 0) (is_shut 0 (omega arith)))
      ∙ alone_is (area SECOND (slice_set file 0 0))
      ∙ ap area_shown (same_area SECOND (slice_set file 0 0) file (omega (arith, same_size 0)) (omega (arith, size))
      (λ i low high. get_or-set_other file 0 i 0 0 (λ e. absurd (omega (arith, e, low)))))

  pub both_areas : (first second : List ℕ) → first ≡ alone_shown (recovered (slice_set file SECOND 0))
      → second ≡ alone_shown (recovered (slice_set file 0 0)) → both_shown first second ≡ areas_shown file
  both_areas first second is_first is_second =
      ap (λ x. both_shown x second) (is_first ∙ without_second)
      ∙ ap (both_shown (area_shown (area 0 file))) (is_second ∙ without_first) ∙ grind (arith, nat_tests)
