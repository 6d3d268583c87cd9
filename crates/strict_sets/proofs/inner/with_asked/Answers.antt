-- `strict_sets::inner::with_asked` meets its contract.
use Rattle.strict_sets.proofs.Placing.{not_theirs_there, open_told}
use Rattle.strict_sets.proofs.inner.with_asked.Goals as goal

pub half-same-requires : goal.half-same-requires
half-same-requires c = (c.requires.0, c.requires.1.today, c.requires.1.comes)

pub raised-pawn-requires : goal.raised-pawn-requires
raised-pawn-requires c = (c.requires.0, c.requires.1.today, c.requires.1.comes)

pub few_today-few-requires : goal.few_today-few-requires
few_today-few-requires c = c.requires.1.today

pub men_back-men-requires : goal.men_back-men-requires
men_back-men-requires c = (c.requires.1.today.sound, c.requires.1.comes.source_in, not_theirs_there c.args.p c.args.s c.args.x c.requires.1.comes)

pub returns : goal.returns
returns c = open_told c.args.p c.args.s c.args.x c.requires.1 c.requires.3 c.requires.4 c.requires.2 c.half-same.ensures c.raised-pawn.ensures c.few_today-few.ensures c.men_back-men.ensures c.choose.ensures c.choose-2.ensures
