-- The plies meet their contracts. The measure of each is the depth.
use native.Mathlib.Omega.{arith}
use borrow.Author.Rules.{rules}
use Rattle.history.proofs.Searching.{at_end, found_is, ended, place_on, asks_earlier, yes_with, no_with}
use Rattle.history.proofs.plies.+black_ply_white_ply.Goals as goal

pub black_ply-white_ply-requires : goal.black_ply-white_ply-requires
black_ply-white_ply-requires t c = let e = asks_earlier _ c.requires.1 _ (found_is _ _ c.strict_from.ensures c.requires.1 c.in-Ok-Some.is c.in-Ok-Some.field-0-is).1.past c.requires.2 c.earlier.ensures in (omega (arith, c.if-depth-eq0.false), (c.requires.0, e.0, e.1))

pub black_ply-returns-in-Some : goal.black_ply-returns-in-Some
black_ply-returns-in-Some t c = yes_with c.args.b c.requires.1 c.args.depth c.loop-x.at c.loop-x.invariant.0 c.loop-x.invariant.2 _ (found_is _ _ c.strict_from.ensures c.requires.1 c.in-Ok-Some.is c.in-Ok-Some.field-0-is) c.earlier.ensures c.white_ply.ensures c.in-Some.is c.after_move.ensures

pub black_ply-loop-x-preserved : goal.black_ply-loop-x-preserved
black_ply-loop-x-preserved t c = (c.loop-x.invariant.0, (place_on _ _ c.strict_from.ensures c.requires.1 c.in-Ok-Some.is c.in-Ok-Some.field-0-is).1, no_with c.args.b c.requires.1 c.args.depth c.loop-x.at c.loop-x.invariant.0 c.loop-x.invariant.2 _ (found_is _ _ c.strict_from.ensures c.requires.1 c.in-Ok-Some.is c.in-Ok-Some.field-0-is) c.earlier.ensures c.white_ply.ensures c.in_default-white_ply.is)

pub black_ply-returns-in_default : goal.black_ply-returns-in_default
black_ply-returns-in_default t c = at_end c.args.b c.requires.1 c.args.depth c.loop-x.at c.loop-x.invariant.0 c.loop-x.invariant.2 (ended _ _ c.strict_from.ensures c.requires.1 (search rules))

pub white_ply-black_ply-requires : goal.white_ply-black_ply-requires
white_ply-black_ply-requires t c = let e = asks_earlier _ c.requires.1 _ (found_is _ _ c.strict_from.ensures c.requires.1 c.in-Ok-Some.is c.in-Ok-Some.field-0-is).1.past c.requires.2 c.earlier.ensures in (omega (arith, c.if-depth-eq0.false), (c.requires.0, e.0, e.1))

pub white_ply-returns-in-Some : goal.white_ply-returns-in-Some
white_ply-returns-in-Some t c = yes_with c.args.b c.requires.1 c.args.depth c.loop-x.at c.loop-x.invariant.0 c.loop-x.invariant.2 _ (found_is _ _ c.strict_from.ensures c.requires.1 c.in-Ok-Some.is c.in-Ok-Some.field-0-is) c.earlier.ensures c.black_ply.ensures c.in-Some.is c.after_move.ensures

pub white_ply-loop-x-preserved : goal.white_ply-loop-x-preserved
white_ply-loop-x-preserved t c = (c.loop-x.invariant.0, (place_on _ _ c.strict_from.ensures c.requires.1 c.in-Ok-Some.is c.in-Ok-Some.field-0-is).1, no_with c.args.b c.requires.1 c.args.depth c.loop-x.at c.loop-x.invariant.0 c.loop-x.invariant.2 _ (found_is _ _ c.strict_from.ensures c.requires.1 c.in-Ok-Some.is c.in-Ok-Some.field-0-is) c.earlier.ensures c.black_ply.ensures c.in_default-black_ply.is)

pub white_ply-returns-in_default : goal.white_ply-returns-in_default
white_ply-returns-in_default t c = at_end c.args.b c.requires.1 c.args.depth c.loop-x.at c.loop-x.invariant.0 c.loop-x.invariant.2 (ended _ _ c.strict_from.ensures c.requires.1 (search rules))
