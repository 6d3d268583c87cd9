-- `castling::inner::kings_way` meets its contract.
use mathlib.Core.Path.{◌∙◌, ap₂}
use Rattle.laws.specs.Attacks.{attackers_of}
use Rattle.laws.specs.Boards.{men_in}
use Rattle.castling.proofs.inner.kings_way.Goals as goal

pub returns : goal.returns
returns c =
    let m = men_in c.args.e in
    λ i. record {
      home = (c.attackers-home.ensures ∙ ap₂ (attackers_of m) c.other-enemy.ensures c.king_home-from.ensures.0) i;
      crossed = (c.attackers-crossed.ensures ∙ ap₂ (attackers_of m) c.other-enemy.ensures c.rook_to-over.ensures.0) i;
      reached = (c.attackers-reached.ensures ∙ ap₂ (attackers_of m) c.other-enemy.ensures c.king_to-to.ensures.0) i;
    }
