-- `words::inner::put_deed` meets its contract.
use mathlib.Core.Path.{sym, ◌∙◌}
use native.Mathlib.Omega.{arith}
use borrow.Author.Tests.{lt-ltb, le-ltb}
use Rattle.output.proofs.Adding.{adds_nothing}
use Rattle.words.specs.Words.{bytes_in, bytes}
use Rattle.words.proofs.Worded.{name_added}
use Rattle.words.proofs.inner.put_deed.Goals as goal

pub returns-then-r-gt0 : goal.returns-then-r-gt0
unfolding bytes_in
returns-then-r-gt0 c = rw (lt-ltb _ _ c.if-r-gt0.true) (name_added (bytes ", taking a ") c.args.r.uncaptured (omega arith) c.requires c.put-a.ensures c.put_name.ensures)

pub returns-then-is_passant : goal.returns-then-is_passant
unfolding bytes_in
returns-then-is_passant c = rw (le-ltb _ _ c.if-r-gt0.false, sym c.is_passant.ensures ∙ c.if-is_passant.true) c.put.ensures

pub returns-then-is_castling : goal.returns-then-is_castling
unfolding bytes_in
returns-then-is_castling c = rw (le-ltb _ _ c.if-r-gt0.false, sym c.is_passant.ensures ∙ c.if-is_passant.false, sym c.is_castling.ensures ∙ c.if-is_castling.true) c.put-then-is_castling.ensures

pub returns : goal.returns
returns c = rw (le-ltb _ _ c.if-r-gt0.false, sym c.is_passant.ensures ∙ c.if-is_passant.false, sym c.is_castling.ensures ∙ c.if-is_castling.false) (adds_nothing _ _)
