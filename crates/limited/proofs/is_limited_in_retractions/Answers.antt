-- `limited::is_limited_in_retractions` meets its contract.
use mathlib.Core.Path.{◌≡◌, sym, ◌∙◌}
use lib.ListN.{get_or, length}
use mir.Syntax.{w64}
use mir.Val.{Fits}
use borrow.Author.Rules.{rules}
use Rattle.retraction_gen.proofs.Seen.{seen_whole}
use Rattle.limited.proofs.Fitting.{limited_refused, limited_on}
use Rattle.refusal.proofs.Saying.{handed_on}
use Rattle.limited.proofs.is_limited_in_retractions.Goals as goal

pub limited_from-requires : goal.limited_from-requires
limited_from-requires c = let b = c.args.b in (c.between_table-t.ensures, seen_whole b (let e : length b.pieces ≡ 6 = search rules in e) (let e : length b.colors ≡ 2 = search rules in e) (λ i. let f : Fits w64 (get_or b.pieces i 0) = search rules in f.fits) (λ i. let f : Fits w64 (get_or b.colors i 0) = search rules in f.fits) (sym c.gate.ensures ∙ c.in_ok-gate.was))

pub returns-in_err-gate : goal.returns-in_err-gate
returns-in_err-gate c = rw (handed_on _ _ c.from_residual.ensures.1) (limited_refused _ _ c.gate.ensures _ c.in_err-gate.was)

pub returns : goal.returns
returns c = limited_on _ _ c.gate.ensures c.limited_from.result c.in_ok-gate.was c.limited_from.ensures
