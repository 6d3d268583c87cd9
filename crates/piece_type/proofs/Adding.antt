-- What a run of statements adds to `movelist`, statement by statement.
use mathlib.Core.Path.{◌≡◌, refl, sym, ap, ◌∙◌, subst}
use mathlib.Core.Bool.{Bool, true, false, not, cond}
use mathlib.Core.List.{List, [], ◌∷◌, ◌++◌, append-nil, append_assoc}
use Prim.Native.Nat.{ℕ, zero, suc, ◌<◌, ◌≤◌}
use native.Mathlib.Nat.{le_refl}
use native.Mathlib.Omega.{arith}
use lib.Dec.{eqb}
use Rattle.squares.specs.Squares.{has}
use Rattle.squares.specs.Members.{list_to, members, for_each, concat}
use Rattle.retraction_list.specs.declared.SourceAndTargets.{SourceAndTargets}
use Rattle.retraction_list.specs.declared.UnCaptureKind.{UnCaptureKind}
use Rattle.retraction_list.specs.Entries.{entry_of, offered}
use Rattle.piece_type.specs.Statements.{Run, ◌>>◌, push, skip, when, for}

pub record Adds (run : Run) (es : List SourceAndTargets) : Type 0 where
  pub added : (movelist : List SourceAndTargets) → run movelist ≡ movelist ++ es

pub adds_same : {f : Run} {xs ys : List SourceAndTargets} → Adds f xs → xs ≡ ys → Adds f ys
adds_same {f} p e = subst (λ (l : List SourceAndTargets). Adds f l) e p

pub adds_skip : Adds skip []
unfolding skip
adds_skip = record { added = λ l. sym (append-nil l) }

pub adds_push : (e : SourceAndTargets) → Adds (push e) (e ∷ [])
unfolding push
adds_push e = record { added = λ l. refl }

pub adds_then : {f g : Run} {xs ys : List SourceAndTargets} → Adds f xs → Adds g ys → Adds (f >> g) (xs ++ ys)
unfolding ◌>>◌
adds_then {f} {g} {xs} {ys} p q = record { added = λ l. q.added (f l) ∙ ap (λ (m : List SourceAndTargets). m ++ ys) (p.added l) ∙ append_assoc l xs ys }

-- with nothing after it
pub adds_before : {f g : Run} {xs : List SourceAndTargets} → Adds f xs → Adds g [] → Adds (f >> g) xs
adds_before {xs} p q = adds_same (adds_then p q) (append-nil xs)

pub adds_when : (t : Bool) {f : Run} {xs : List SourceAndTargets} → Adds f xs → Adds (when t f) (cond t xs [])
unfolding when
adds_when true p = record { added = λ l. p.added l }
adds_when false p = record { added = λ l. sym (append-nil l) }

pub adds_unless : (t : Bool) {f : Run} {xs : List SourceAndTargets} → Adds f xs → Adds (when (not t) f) (cond t [] xs)
adds_unless true p = adds_when false p
adds_unless false p = adds_when true p

pub adds_never : (f : Run) → Adds (when false f) []
unfolding when
adds_never f = record { added = λ l. sym (append-nil l) }

pub adds_if : (t : Bool) {f g : Run} {xs ys : List SourceAndTargets} → Adds f xs → Adds g ys → Adds (cond t f g) (cond t xs ys)
adds_if true p q = p
adds_if false p q = q

-- `if targets != EMPTY { movelist.push_unchecked(SourceAndTargets::new(source, targets, kind, unpromotion)); }`
abbrev pub offer : ℕ → ℕ → UnCaptureKind → Bool → Run
offer s t k u = when (not (eqb t 0)) (push (entry_of s t k u))

pub adds_offer : (s : ℕ) {t t' : ℕ} {k k' : UnCaptureKind} (u : Bool) → t ≡ t' → k ≡ k' → Adds (offer s t k u) (offered s t' k' u)
unfolding offered
adds_offer s {t} {k = k} u p q = adds_same (adds_unless (eqb t 0) (adds_push (entry_of s t k u))) (cc)

-- a loop over the members of a set, each of them a square
module _ (f : ℕ → Run) (g : ℕ → List SourceAndTargets) (turn : (src : ℕ) → src < 64 → Adds (f src) (g src)) where
  abbrev over : List ℕ → Run
  over ks movelist = for_each (λ l src. f src l) movelist ks

  adds_one : (k : ℕ) (ks : List ℕ) → k < 64 → Adds (over ks) (concat g ks) → Adds (over (k ∷ ks)) (concat g (k ∷ ks))
  unfolding for_each concat ◌>>◌
  adds_one k ks h p = adds_then (turn k h) p

  adds_up_to : (n : ℕ) (p : ℕ → Bool) (ks : List ℕ) → n ≤ 64 → Adds (over ks) (concat g ks) → Adds (over (list_to n p ++ ks)) (concat g (list_to n p ++ ks))
  unfolding list_to
  adds_up_to zero p ks h q = q
  adds_up_to (suc n) p ks h q =
      subst (λ (l : List ℕ). Adds (over l) (concat g l)) (sym (append_assoc (list_to n p) (cond (p n) (n ∷ []) []) ks))
      (adds_up_to n p (cond (p n) (n ∷ []) [] ++ ks) (omega arith) (go (p n)))
    where
      go : (t : Bool) → Adds (over (cond t (n ∷ []) [] ++ ks)) (concat g (cond t (n ∷ []) [] ++ ks))
      go true = adds_one n ks h q
      go false = q

  pub adds_for : (set : ℕ) → Adds (for set f) (concat g (members set))
  unfolding for members for_each concat
  adds_for set =
      subst (λ (l : List ℕ). Adds (over l) (concat g l)) (append-nil (list_to 64 (has set)))
      (adds_up_to 64 (has set) [] (le_refl 64) (record { added = λ l. sym (append-nil l) }))
