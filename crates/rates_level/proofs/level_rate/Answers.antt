-- `level_rate` meets its contract: the least rate that covers the level's requirement, from its guess.
use Rattle.rates_level.proofs.Reach.{level_is_sought, least_rate_is_level_rate}
use Rattle.rates_level.proofs.level_rate.Goals as goal

pub rate_near-requires-clause-sought : goal.rate_near-requires-clause-sought
rate_near-requires-clause-sought c =
    rw (c.level_of.ensures, c.squares_of-squares.ensures)
    (level_is_sought c.args.st c.args.m c.args.tentative c.requires.rate_statics c.requires.m_le_ahead_most.0
    c.requires.m_le_ahead_most.1 c.args.level)

pub of-requires : goal.of-requires
of-requires c = c.rate_near.ensures.1

pub returns : goal.returns
returns c =
    rw (c.of.ensures, c.rate_near.ensures.0, c.level_of.ensures, c.squares_of-squares.ensures)
    (least_rate_is_level_rate c.args.st c.args.level c.args.m c.args.tentative c.requires.rate_statics)
