-- `nedrubal::nedrubal_band_limit` meets its contract: every number is handed on by its bits, read back, and made
-- unsigned once.
use Rattle.std.proofs.Common.{rules, ◌≡◌, w64, SFits, ℕ, ℤ}
use mir.Facts.{to_z-of_z}
use Rattle.paper_desk.specs.Gateway.{band_call}
use Rattle.paper.specs.declared.GivenStatics.{GivenStatics}
use Rattle.nedrubal.proofs.Handed.{read_is_unsigned, none, more, given_of_numbers}
use Rattle.nedrubal.proofs.nedrubal_band_limit.Goals as goal

same : {g g' : GivenStatics} {p p' s1 s1' k k' c c' side side' : ℕ} {repo repo' : ℤ}
    → g ≡ g' → p ≡ p' → s1 ≡ s1' → k ≡ k' → repo ≡ repo' → c ≡ c' → side ≡ side'
    → band_call g p s1 k repo c side ≡ band_call g' p' s1' k' repo' c' side'
same of-g of-p of-s1 of-k of-repo of_c of-side =
    λ i. band_call (of-g i) (of-p i) (of-s1 i) (of-k i) (of-repo i) (of_c i) (of-side i)

pub returns : goal.returns
returns c =
    let f = c.ranges in
    let answered : SFits w64 c.band_answer.result = search rules in
    rw (to_z-of_z answered, c.band_answer.ensures)
    (same
    (given_of_numbers (search (none, more, f) depth 60) c.given_of-given.ensures)
    (read_is_unsigned f.p c.unsigned.ensures)
    (read_is_unsigned f.s1 c.unsigned-2.ensures)
    (read_is_unsigned f.k c.unsigned-3.ensures)
    (to_z-of_z f.repo)
    (read_is_unsigned f.c c.unsigned-4.ensures)
    (read_is_unsigned f.side c.unsigned-5.ensures))
