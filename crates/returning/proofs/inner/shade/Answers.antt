-- `returning::inner::shade` meets its contract.
use Rattle.returning.proofs.Shades.{shade_is}
use Rattle.returning.proofs.inner.shade.Goals as goal

pub returns : goal.returns
returns c = rw (c.choose.ensures, c.has.ensures, c.dark_squares-dark.ensures, c.light_squares-light.ensures) (shade_is c.args.s c.requires)
