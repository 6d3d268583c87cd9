-- Walking un-made positions loses no chain: each un-made position says no more than any earlier one, and a chain to a position is one to
-- whatever says less.
use mathlib.Core.Path.{◌≡◌, refl, sym, ap, ◌∙◌, subst, fun_ext}
use mathlib.Core.Logic.{◌⊎◌, inl, inr, ◌↔◌}
use mathlib.Core.Bool.{Bool, true, false, not, false≢true}
use mathlib.Core.List.{List, [], ◌∷◌}
use Prim.Native.Nat.{ℕ}
use lib.Dec.{eqb}
use borrow.Author.Tests.{eq-eqb}
use Rattle.squares.specs.Tests.{◌and◌, ◌or◌}
use Rattle.geometry.specs.Colors.{behind}
use Rattle.laws.specs.declared.EnPassantFlag.{EnPassantFlag}
use Rattle.laws.specs.declared.EnPassantFlag.TheVariants.{Any}
use Rattle.laws.specs.declared.ChessRetraction.{ChessRetraction}
use Rattle.laws.specs.declared.Side.{Side}
use Rattle.laws.specs.declared.Way.{Way}
use Rattle.laws.specs.declared.Way.TheVariants.{Plain as plain, Passant as passant, Castle as castling}
use Rattle.laws.specs.Positions.{Rights, Pos, king_home, corner}
use Rattle.laws.specs.Acceptance.{accepted}
use Rattle.laws.specs.Moves.{way, goes, keeps, replayed, possible}
use Rattle.laws.specs.Unmaking.{state_before, unmade}
use Rattle.laws.specs.Strictness.{agrees, Gives, Past}
use Rattle.chains.specs.inner.Walks.{PosChain, Under}
use Rattle.squares.proofs.Testing.{both, left, right, or_right}
use Rattle.laws.proofs.Mans.{castling_is, state_named}
use Rattle.laws.proofs.Facts.{Accepts, accepts, accepted_by, Possible, possibly, possible_by}
use Rattle.laws.proofs.Retracting.{kind_today, can_retract}
use Rattle.laws.proofs.Rights.{fewer}
use Rattle.laws.proofs.Demand3.{unmade_back, rights_back, sound, complete}

-- an earlier position's rights cut down, so that the move comes to the rights σ and no more. A king that castles keeps none, so that its own right stays
abbrev cut : Pos → ChessRetraction → Rights → Pos
cut e r σ = record {
  men = e.men;
  turn = e.turn;
  rights = λ c d. e.rights c d and (σ c d or not (keeps r.target r.source c d));
  state = e.state;
  terms = e.terms;
}

cut_under : (e : Pos) (r : ChessRetraction) (σ : Rights) → Under (cut e r σ) e
cut_under e r σ = record { men = refl; turn = refl; terms = refl; rights = λ c d h. left _ _ h; state = inr refl }

-- the cut rights come to σ
cut_kept : (a s k : Bool) → (s ≡ true → (a and k) ≡ true) → ((a and (s or not k)) and k) ≡ s
unfolding ◌and◌ ◌or◌
cut_kept true true true f = refl
cut_kept true true false f = f refl
cut_kept true false true f = refl
cut_kept true false false f = refl
cut_kept false true k f = absurd (false≢true (f refl))
cut_kept false false k f = refl

castles : (e : Pos) (t s : ℕ) (d : Side) → t ≡ king_home e.turn → not (keeps t s e.turn d) ≡ true
unfolding ◌and◌
castles e t s d q =
    ap (λ (b : Bool). not (not b and not (eqb t (corner e.turn d)) and not (eqb s (king_home e.turn)) and not (eqb s (corner e.turn d)))) (eq-eqb _ _ q)

going : (w : Way) (e : Pos) (r : ChessRetraction) (σ : Rights) (t s u : ℕ) → ((d : Side) → w ≡ castling d → not (keeps r.target r.source e.turn d) ≡ true)
    → goes e w t s u ≡ true → goes (cut e r σ) w t s u ≡ true
going plain e r σ t s u f g = g
going passant e r σ t s u f g = g
going (castling d) e r σ t s u f g = both (both (left _ _ (left _ _ g)) (both (right _ _ (left _ _ g)) (or_right (σ e.turn d) (f d refl)))) (right _ _ g)

-- a move to p is one to whatever says less, from an earlier position that says less
gives_under : (e p q : Pos) (r : ChessRetraction) (k : ℕ) → Gives e p r k → Under q p → Gives (cut e r q.rights) q r k
gives_under e p q r k g u = record {
  is_accepted = accepted_by (cut e r q.rights) (record {
    kings = a.kings;
    pawns = a.pawns;
    rights = fewer e.men e.rights (cut e r q.rights).rights (λ c d h. left _ _ h) a.rights;
    state = a.state;
    calm = a.calm;
  });
  few_souls = g.few_souls;
  could_step = g.could_step;
  is_legal = both (both can (right _ _ (left _ _ g.is_legal))) (right _ _ g.is_legal);
  same_men = g.same_men ∙ sym u.men;
  same_turn = g.same_turn ∙ sym u.turn;
  same_rights = fun_ext λ c. fun_ext λ d. cut_kept (e.rights c d) (q.rights c d) (keeps r.target r.source c d)
      (λ h. ap (λ (ρ : Rights). ρ c d) g.same_rights ∙ u.rights c d h);
  same_terms = g.same_terms ∙ sym u.terms;
  same_state = state_of u.state;
}
  where
    a : Accepts e
    a = accepts e g.is_accepted

    move : Possible e r k
    move = possibly e r k (left _ _ (left _ _ g.is_legal))

    can : possible (cut e r q.rights) r k ≡ true
    can = possible_by (cut e r q.rights) r k (record {
      source_in = move.source_in;
      target_in = move.target_in;
      small = move.small;
      mine = move.mine;
      taken = move.taken;
      marked = move.marked;
      going = going (way (e.men r.target) r.target r.source r.uncaptured) e r q.rights r.target r.source r.uncaptured
          (λ d z. castles e r.target r.source d (castling_is (e.men r.target) r.target r.source r.uncaptured e.turn d move.mine z).0) move.going;
    })

    state_of : (q.state ≡ Any) ⊎ (q.state ≡ p.state) → agrees q.state (replayed e r k).state ≡ true
    state_of (inl z) = ap (λ (st : EnPassantFlag). agrees st (replayed e r k).state) z
    state_of (inr z) = ap (λ (st : EnPassantFlag). agrees st (replayed e r k).state) z ∙ g.same_state

pub chain_under : (l : List ChessRetraction) (p q : Pos) → Under q p → PosChain l p → PosChain l q
chain_under [] p q u h = tt
chain_under (r ∷ l) p q u h =
    (cut h.0 r q.rights, h.1, gives_under h.0 p q r h.1 h.2 u, chain_under l h.0 (cut h.0 r q.rights) (cut_under h.0 r q.rights) h.3)

-- the un-made position says no more than any earlier one
pub unmade_under : (e p : Pos) (r : ChessRetraction) (k : ℕ) → Gives e p r k → Under (unmade p r) e
unmade_under e p r k h =
    subst (λ (q : Pos). Under (unmade q r) e)
    (λ i. record { men = h.same_men i; turn = h.same_turn i; rights = h.same_rights i; state = p.state; terms = h.same_terms i })
    (subst (λ (q : Pos). Under q e) (sym (unmade_back e r k p.state h.is_accepted h.is_legal)) (record {
      men = refl;
      turn = refl;
      terms = refl;
      rights = rights_back e r k p.state h.is_accepted h.is_legal;
      state = state_of (way (e.men r.target) r.target r.source r.uncaptured) (possibly e r k (left _ _ (left _ _ h.is_legal))).going;
    }))
  where
    state_of : (v : Way) → goes e v r.target r.source r.uncaptured ≡ true
        → (state_before v e.turn r.source ≡ Any) ⊎ (state_before v e.turn r.source ≡ e.state)
    state_of plain g = inl refl
    state_of passant g = inr (sym (state_named e.state (behind e.turn r.source) (right _ _ g)))
    state_of (castling d) g = inl refl

-- what any earlier position gives, the un-made one gives
pub unmade_gives : (e p : Pos) (r : ChessRetraction) (k : ℕ) → accepted p ≡ true → Gives e p r k → Gives (unmade p r) p r (kind_today p r)
unmade_gives e p r k ok g = sound p r ok (complete e p r k g)

pub can_retract_lem : (e p : Pos) (r : ChessRetraction) (k : ℕ) → Gives e p r k → can_retract p r ≡ true
can_retract_lem e p r k g = left _ _ (left _ _ (left _ _ (left _ _ (complete e p r k g))))

-- a chain whose latest ply is r: r has a past, and the others end in the un-made position
pub chain_step : (p : Pos) (r : ChessRetraction) (l : List ChessRetraction) → accepted p ≡ true → PosChain (r ∷ l) p ↔ (Past p r × PosChain l (unmade p r))
chain_step p r l ok = (
  (λ h. ((h.0, h.1, h.2), chain_under l h.0 (unmade p r) (unmade_under h.0 p r h.1 h.2) h.3)),
  (λ h. (unmade p r, kind_today p r, unmade_gives h.0.0 p r h.0.1 ok h.0.2, h.1)),
)
