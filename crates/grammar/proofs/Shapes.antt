-- Tokens that are spelled as a good tree is written have a reading of the tree's shape. No line for any form.
use mathlib.Core.Path.{◌≡◌, refl, sym, ◌∙◌, ap, subst}
use mathlib.Core.List.{List, [], ◌∷◌}
use mathlib.Core.Bool.{Bool, true, false}
use Prim.Native.Nat.{ℕ}
use lib.Dec.{T}
use Rattle.token.specs.declared.Token.{Token}
use Rattle.token.specs.declared.Code.{Code}
use Rattle.kinds.specs.declared.form.Form.{Form}
use Rattle.grammar.specs.Codes.{semicolon}
use Rattle.grammar.specs.Site.{Attr, Site, ok, in_head}
use Rattle.grammar.specs.Tree.{head, head_of, Tree, Forest, node, nil, ◌▸◌}
use Rattle.grammar.specs.Layout.{Lay, end, stop, tok, kid, layout, attr_of, attr, attrs, fit_kids, good, goods, Good, fill, wr, wrs}
use Rattle.grammar.specs.Derives.{token, lo_of, Derives, Follows, derive, d_end, d_stop, d_tok, d_kid}
use Rattle.grammar.specs.Shape.{codes, shape, shapes}
use Rattle.grammar.proofs.Tests.{and_l, and_r}

-- The attributes do not look at places.
mutual
  unfolding attr attrs shape shapes

  attr_shape : (t : Tree) → attr (shape t) ≡ attr t
  attr_shape (node h us) = ap (attr_of h.form) (attrs_shape us)

  attrs_shape : (us : Forest) → attrs (shapes us) ≡ attrs us
  attrs_shape nil = refl
  attrs_shape (u ▸ us) = rw (attr_shape u, attrs_shape us)

same_attrs : (us vs : Forest) → shapes us ≡ shapes vs → attrs us ≡ attrs vs
same_attrs us vs e = sym (attrs_shape us) ∙ (ap attrs e ∙ attrs_shape vs)

-- The tokens ks begin with a tree of the shape of t, and what follows has the codes k.
abbrev Read : Site → Tree → List Token → List Code → Type 0
Read s t ks k = (u : Tree) × (r : List Token) × (shape u ≡ shape t) × (codes r ≡ k) × Derives s u ks r

abbrev Has : Tree → Type 0
Has t = (s : Site) → T (ok s (attr t)) → (ks : List Token) (k : List Code) → codes ks ≡ wr (in_head s) t k → Read s t ks k

abbrev Have : Forest → Type 0
Have nil = Unit {0}
Have (u ▸ us) = Has u × Have us

abbrev Filled : Bool → Lay → Forest → List Token → List Code → ℕ → Type 0
Filled b ls us ks k h0 = (vs : Forest) × (r : List Token) × (h : ℕ) × (shapes vs ≡ shapes us) × (codes r ≡ k) × Follows b ls vs ks r h0 h

abbrev none? : List Code → Bool
none? [] = true
none? (c ∷ k) = false

first : (ks : List Token) (c : Code) (k : List Code) → codes ks ≡ c ∷ k → (l : ℕ) × (h : ℕ) × (js : List Token) × (ks ≡ token c l h ∷ js) × (codes js ≡ k)
first [] c k e = absurd (subst (λ (x : List Code). T (none? x)) e tt)
first (t ∷ ks) c k e =
    let a : t.code ≡ c = cc in
    let b : codes ks ≡ k = cc in
    (t.lo, t.hi, ks, ap (λ (x : Code). token x t.lo t.hi ∷ ks) a, b)

follows : (b : Bool) (ls : Lay) (us : Forest) → T (fit_kids ls (attrs us)) → Have us → (ks : List Token) (k : List Code) (h0 : ℕ) → codes ks ≡ fill b ls (wrs us) k → Filled b ls us ks k h0
unfolding attrs wrs shapes
follows b end nil f h ks k h0 e = (nil, ks, h0, refl, e, d_end)
follows b end (u ▸ us) f h ks k h0 e = absurd f
follows true stop nil f h ks k h0 e = (nil, ks, h0, refl, e, d_stop (refl, refl))
follows false stop nil f h ks k h0 e = let (l, i, js, q, w) = first ks semicolon k e in (nil, js, i, refl, w, d_stop (l, q))
follows b stop (u ▸ us) f h ks k h0 e = absurd f
follows b (tok c ls) us f h ks k h0 e =
    let (l, i, js, q, w) = first ks c _ e in
    let (vs, r, hh, s, cr, d) = follows b ls us f h js k i w in
    (vs, r, hh, s, cr, subst (λ (x : List Token). Follows b (tok c ls) vs x r h0 hh) (sym q) (d_tok d))
follows b (kid i s ls) nil f h ks k h0 e = absurd f
follows b (kid i s ls) (u ▸ us) f h ks k h0 e =
    let (v, js, sv, cj, dv) = h.0 s (and_l (ok s (attr u)) _ f) ks _ e in
    let (vs, r, hh, ss, cr, d) = follows b ls us (and_r (ok s (attr u)) _ f) h.1 js k (head_of v).hi cj in
    (v ▸ vs, r, hh, (cc), cr, d_kid dv d)

reread : (f : Form) (l0 h0 : ℕ) (us : Forest) (s : Site) → T (ok s (attr_of f (attrs us))) → (ks : List Token) (k : List Code) → Filled (in_head s) (layout f (attrs us)) us ks k 0 → Read s (node (head f l0 h0) us) ks k
unfolding shape
reread f l0 h0 us s o ks k (vs, r, hh, ss, cr, d) =
    let e : attrs us ≡ attrs vs = same_attrs us vs (sym ss) in (
      node (head f (lo_of ks) hh) vs,
      r,
      ap (node (head f 0 0)) ss,
      cr,
      derive (subst (λ (cs : List Attr). T (ok s (attr_of f cs))) e o) (subst (λ (cs : List Attr). Follows (in_head s) (layout f cs) vs ks r 0 hh) e d),
    )

mutual
  unfolding good goods attr wr

  pub good_reads : (t : Tree) → Good t → Has t
  good_reads (node h us) g s o ks k e =
      reread h.form h.lo h.hi us s o ks k (follows (in_head s) (layout h.form (attrs us)) us (and_l (fit_kids (layout h.form (attrs us)) (attrs us)) _ g) (good_all us (and_r (fit_kids (layout h.form (attrs us)) (attrs us)) _ g)) ks k 0 e)

  good_all : (us : Forest) → T (goods us) → Have us
  good_all nil g = tt
  good_all (u ▸ us) g = (good_reads u (and_l (good u) _ g), good_all us (and_r (good u) _ g))
