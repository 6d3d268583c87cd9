-- `moves::inner::possible` meets its contract.
use mathlib.Core.Path.{◌∙◌, ap}
use native.Mathlib.Omega.{arith}
use Rattle.geometry.specs.declared.Color.{Color}
use Rattle.laws.specs.Men.{man_number}
use Rattle.laws.specs.Boards.{men_in, pos_at}
use Rattle.position.specs.inner.Edits.{man_with}
use Rattle.position.proofs.Editing.{is_man}
use Rattle.moves.proofs.Steps.{impossible, in_range, possible_is}
use Rattle.moves.proofs.inner.possible.Goals as goal

pub returns-then-r : goal.returns-then-r
returns-then-r c = impossible (pos_at c.args.p) c.args.r c.args.k c.if-r.true

pub man_number-v-requires : goal.man_number-v-requires
man_number-v-requires c = let h = in_range c.args.r.source c.args.r.target c.args.r.uncaptured c.if-r.false in omega (arith, h.2)

pub mark_ok-fits-requires : goal.mark_ok-fits-requires
mark_ok-fits-requires c = let h = in_range c.args.r.source c.args.r.target c.args.r.uncaptured c.if-r.false in (c.man_at-x.ensures.1, h.0)

pub goes-requires : goal.goes-requires
goes-requires c = let h = in_range c.args.r.source c.args.r.target c.args.r.uncaptured c.if-r.false in ((c.requires.0, c.requires.1), record { from_in = h.1; to_in = h.0; man_in = c.man_at-x.ensures.1; man_is = is_man (men_in c.args.p c.args.r.target) c.man_at-x.ensures.0 })

pub returns : goal.returns
returns c = possible_is (pos_at c.args.p) c.args.r c.args.k _ (in_range c.args.r.source c.args.r.target c.args.r.uncaptured c.if-r.false) c.man_at-x.ensures.0 c.man_at-y.ensures.0
    (c.man_number-v.ensures.0 ∙ ap (λ (d : Color). man_number (man_with d c.args.r.uncaptured)) c.other.ensures) c.way_of-w.ensures c.is_of-mine.ensures c.mark_ok-fits.ensures c.goes.ensures
