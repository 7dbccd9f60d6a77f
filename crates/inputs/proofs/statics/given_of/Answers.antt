-- `inputs::given_of` meets its contract, number by number.
use Rattle.paper.specs.Ranges.{given_of}
use Rattle.inputs.proofs.statics.given_of.Goals as goal

pub returns : goal.returns
unfolding given_of
returns c =
    λ i. record {
      lot = c.number_at.ensures i;
      h = c.number_at-2.ensures i;
      q = c.number_at-3.ensures i;
      aup = c.number_at-4.ensures i;
      adown = c.number_at-5.ensures i;
      wait = c.number_at-6.ensures i;
      rh1 = c.number_at-7.ensures i;
      rh2 = c.number_at-8.ensures i;
      rh3 = c.number_at-9.ensures i;
      liq = c.number_at-10.ensures i;
      min1 = c.number_at-11.ensures i;
      min2 = c.number_at-12.ensures i;
      min3 = c.number_at-13.ensures i;
      smax = c.number_at-14.ensures i;
      xpr = c.number_at-15.ensures i;
      shift = c.number_at-16.ensures i;
      pchmax = c.number_at-17.ensures i;
      pclmax = c.number_at-18.ensures i;
      w = c.number_at-19.ensures i;
      u = c.number_at-20.ensures i;
      monitoring = c.number_at-21.ensures i;
      ewma = c.number_at-22.ensures i;
      uevening = c.number_at-23.ensures i;
      autochange = c.number_at-24.ensures i;
      eveningmax = c.number_at-25.ensures i;
      useexternal = c.number_at-26.ensures i;
    }
