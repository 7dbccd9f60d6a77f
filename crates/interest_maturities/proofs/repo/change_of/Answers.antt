-- `change_of` meets its contract: the greater of the two distances.
use Rattle.paper_interest.specs.Interest.{change_of}
use Rattle.interest_maturities.proofs.Bits.{rate_kept_in_bits}
use Rattle.interest_maturities.proofs.repo.change_of.Goals as goal

pub returns : goal.returns
unfolding change_of
returns c =
    let k = c.args.k in
    rw (c.max.ensures, c.apart-2.ensures, c.apart.ensures)
    (simp (
      rate_kept_in_bits k.r c.requires.r,
      rate_kept_in_bits k.r1 c.requires.r1,
      rate_kept_in_bits
          k.r2 c.requires.r2,
    ))
