-- `strict_search::inner::places::size_of` meets its contract.
use native.Mathlib.Omega.{arith}
use lib.Bits.{bit_and}
use Rattle.strict_search.proofs.Sizes.{size_le, product_le, size_is}
use Rattle.strict_search.proofs.Jumping.{count_none}
use Rattle.strict_search.proofs.inner.places.size_of.Goals as goal

pub returns-then-all-eq0 : goal.returns-then-all-eq0
returns-then-all-eq0 c = count_none c.args.w c.if-all-eq0.true

pub overflow_add-result : goal.overflow_add-result
overflow_add-result c = omega (arith, size_le c.args.w.plain c.count-plain.ensures, size_le c.args.w.marked c.count-marked.ensures)

pub overflow_add-result-2 : goal.overflow_add-result-2
overflow_add-result-2 c = omega (arith, size_le c.args.w.taking c.count-taking.ensures, size_le c.args.w.both c.count-both.ensures)

pub overflow_mul-result : goal.overflow_mul-result
overflow_mul-result c = omega (arith, product_le (size_le c.args.w.taking c.count-taking.ensures) (size_le c.args.w.both c.count-both.ensures) (size_le (bit_and c.args.w.men 62) c.count-men.ensures))

pub overflow_add-result-3 : goal.overflow_add-result-3
overflow_add-result-3 c = omega (arith, size_le c.args.w.plain c.count-plain.ensures, size_le c.args.w.marked c.count-marked.ensures, product_le (size_le c.args.w.taking c.count-taking.ensures) (size_le c.args.w.both c.count-both.ensures) (size_le (bit_and c.args.w.men 62) c.count-men.ensures))

pub returns : goal.returns
returns c = rw (c.count-plain.ensures, c.count-taking.ensures, c.count-marked.ensures, c.count-both.ensures) (size_is c.args.w _ c.count-men.ensures)
