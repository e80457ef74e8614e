-- One task of lent columns. Assumes nothing.
use Rattle.rounds.proofs.Here.{fits_at}
use Rattle.rounds.proofs.judge_at.Goals as goal

pub own_of-own-requires-clause-doubled : goal.own_of-own-requires-clause-doubled
own_of-own-requires-clause-doubled c = (c.requires.doubled, fits_at c.requires.judgeable c.args.i c.requires.here.0 c.requires.doubled)
