-- `place::inner::words_at` meets its contract.
use Rattle.std.proofs.Common.{◌≡◌, ℕ, ◌+◌, ◌-◌, arith}
use Rattle.std.proofs.lemmas.List.{get_or-take, get_or-drop}
use Rattle.place.proofs.Words.{words_are}
use Rattle.place.proofs.inner.words_at.Goals as goal

pub returns : goal.returns
returns c =
    let e : c.args.k + 16 - c.args.k ≡ 16 = omega arith in
    words_are c.args.table.now c.copy_from_slice.new.self c.args.k 16 c.copy_from_slice.ensures.len
    (λ j h. rw (c.copy_from_slice.ensures.after, e, get_or-take {A = ℕ} 16 _ j 0 h) (get_or-drop {A = ℕ} c.args.k c.args.table.now j 0))
