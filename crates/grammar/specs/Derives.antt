-- The derivations: which tokens read as which tree.
--
--   Derives s t ks r       the tree t, at the site s, is what the tokens ks begin with, and r is what follows it
--   Follows b l us ks r h0 h   the tokens ks begin with the layout l filled by the trees us (b: in a head), and r is what
--                          follows; h0 is where the token before ks ends, h where the last token before r does
--
-- A record's place runs from its first token's lo to its last token's hi; with no token it is 0 to 0.
--
-- Assumes nothing.
use Rattle.std.specs.Prelude.{ℕ, ◌≡◌, Bool, true, false, List, [], ◌∷◌, T}
use Rattle.token.specs.declared.Token.{Token}
use Rattle.token.specs.declared.Code.{Code}
use Rattle.kinds.specs.declared.form.Form.{Form}
use Rattle.grammar.specs.Codes.{semicolon}
use Rattle.grammar.specs.Site.{Site, ok, in_head}
use Rattle.grammar.specs.Tree.{head, head_of, Tree, Forest, node, nil, ◌▸◌}
use Rattle.grammar.specs.Layout.{Lay, end, stop, tok, kid, layout, attr_of, attrs}

abbrev pub token : Code → ℕ → ℕ → Token
token c l h = record { code = c; lo = l; hi = h }

-- Where the first token begins.
abbrev pub lo_of : List Token → ℕ
lo_of [] = 0
lo_of (k ∷ ks) = k.lo

-- How a Var ends: with nothing in a head, with a `;` elsewhere.
abbrev pub Stops : Bool → List Token → List Token → ℕ → ℕ → Type 0
Stops true ks r h0 h = (ks ≡ r) × (h0 ≡ h)
Stops false ks r h0 h = (l : ℕ) × (ks ≡ token semicolon l h ∷ r)

mutual
  pub data Derives : Site → Tree → List Token → List Token → Type 0 where
    derive : {s : Site} {f : Form} {us : Forest} {ks r : List Token} {h : ℕ} → T (ok s (attr_of f (attrs us))) → Follows (in_head s) (layout f (attrs us)) us ks r 0 h → Derives s (node (head f (lo_of ks) h) us) ks r

  pub data Follows : Bool → Lay → Forest → List Token → List Token → ℕ → ℕ → Type 0 where
    d_end : {b : Bool} {r : List Token} {h : ℕ} → Follows b end nil r r h h
    d_stop : {b : Bool} {ks r : List Token} {h0 h : ℕ} → Stops b ks r h0 h → Follows b stop nil ks r h0 h
    d_tok : {b : Bool} {c : Code} {ls : Lay} {us : Forest} {ks r : List Token} {h0 l i h : ℕ} → Follows b ls us ks r i h → Follows b (tok c ls) us (token c l i ∷ ks) r h0 h
    d_kid : {b i : Bool} {s : Site} {ls : Lay} {u : Tree} {us : Forest} {ks js r : List Token} {h0 h : ℕ} → Derives s u ks js → Follows b ls us js r (head_of u).hi h → Follows b (kid i s ls) (u ▸ us) ks r h0 h
