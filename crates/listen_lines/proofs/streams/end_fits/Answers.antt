-- `end_fits` meets its contract: the count and the sum are compared.
use Rattle.listen_lines.proofs.StreamParts.{end_fits_is}
use Rattle.listen_lines.proofs.streams.end_fits.Goals as goal

pub returns : goal.returns
returns c =
    end_fits_is _ _ _ _ c.count_said.ensures c.sum_said.ensures
