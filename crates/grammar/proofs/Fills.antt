-- Induction over derivations; and that the derived trees are the good ones, written as they are derived. No line for any form.
use mathlib.Core.Path.{◌≡◌, refl, ap}
use mathlib.Core.List.{List, ◌∷◌}
use mathlib.Core.Bool.{Bool, true, false}
use Prim.Native.Nat.{ℕ}
use lib.Dec.{T}
use Rattle.token.specs.declared.Token.{Token}
use Rattle.token.specs.declared.Code.{Code}
use Rattle.kinds.specs.declared.form.Form.{Form}
use Rattle.grammar.specs.Site.{Site, ok, in_head}
use Rattle.grammar.specs.Tree.{head, head_of, Tree, Forest, node, nil, ◌▸◌}
use Rattle.grammar.specs.Layout.{Lay, end, stop, tok, kid, layout, attr_of, attr, attrs, fit_kids, good, goods, Good, fill, wr, wrs}
use Rattle.grammar.specs.Derives.{token, lo_of, Stops, Derives, Follows, derive, d_end, d_stop, d_tok, d_kid}
use Rattle.grammar.specs.Shape.{codes}
use Rattle.grammar.proofs.Tests.{and_i}

abbrev pub Rel : Type 1
Rel = Site → Tree → List Token → List Token → Type 0

-- A layout filled with children that stand in a relation D to their sites and tokens.
pub data Fills (D : Rel) : Bool → Lay → Forest → List Token → List Token → ℕ → ℕ → Type 0 where
  fill_end : {b : Bool} {r : List Token} {h : ℕ} → Fills D b end nil r r h h
  fill_stop : {b : Bool} {ks r : List Token} {h0 h : ℕ} → Stops b ks r h0 h → Fills D b stop nil ks r h0 h
  fill_tok : {b : Bool} {c : Code} {ls : Lay} {us : Forest} {ks r : List Token} {h0 l i h : ℕ} → Fills D b ls us ks r i h → Fills D b (tok c ls) us (token c l i ∷ ks) r h0 h
  fill_kid : {b i : Bool} {s : Site} {ls : Lay} {u : Tree} {us : Forest} {ks js r : List Token} {h0 h : ℕ} → D s u ks js → Fills D b ls us js r (head_of u).hi h → Fills D b (kid i s ls) (u ▸ us) ks r h0 h

abbrev pub Step : Rel → Type 0
Step C = (f : Form) (s : Site) (us : Forest) (ks r : List Token) (h : ℕ) → T (ok s (attr_of f (attrs us))) → Fills C (in_head s) (layout f (attrs us)) us ks r 0 h → C s (node (head f (lo_of ks) h) us) ks r

module _ (C : Rel) (step : Step C) where
  mutual
    pub fold : {s : Site} {t : Tree} {ks r : List Token} → Derives s t ks r → C s t ks r
    fold (derive f d) = step _ _ _ _ _ _ f (fold_all d)

    pub fold_all : {b : Bool} {ls : Lay} {us : Forest} {ks r : List Token} {h0 h : ℕ} → Follows b ls us ks r h0 h → Fills C b ls us ks r h0 h
    fold_all d_end = fill_end
    fold_all (d_stop e) = fill_stop e
    fold_all (d_tok d) = fill_tok (fold_all d)
    fold_all (d_kid a d) = fill_kid (fold a) (fold_all d)

-- What is derived is good, and is written so.
abbrev Is : Rel
Is s t ks r = T (ok s (attr t)) × Good t × (codes ks ≡ wr (in_head s) t (codes r))

is_fill : {b : Bool} {ls : Lay} {us : Forest} {ks r : List Token} {h0 h : ℕ} → Fills Is b ls us ks r h0 h → T (fit_kids ls (attrs us)) × T (goods us) × (codes ks ≡ fill b ls (wrs us) (codes r))
unfolding attrs goods wrs
is_fill fill_end = (tt, tt, refl)
is_fill {b = true} (fill_stop e) = (tt, tt, ap codes e.0)
is_fill {b = false} (fill_stop e) = (tt, tt, ap codes e.1)
is_fill (fill_tok d) = let (f2, g2, w2) = is_fill d in (f2, g2, (cc))
is_fill (fill_kid (f, g, w) d) = let (f2, g2, w2) = is_fill d in (and_i _ _ f f2, and_i _ _ g g2, (cc))

is_step : Step Is
unfolding good wr attr
is_step f s us ks r h k d = let (f2, g2, w2) = is_fill d in (k, and_i _ _ f2 g2, w2)

pub derives_good : {s : Site} {t : Tree} {ks r : List Token} → Derives s t ks r → T (ok s (attr t)) × Good t × (codes ks ≡ wr (in_head s) t (codes r))
derives_good d = fold Is is_step d
