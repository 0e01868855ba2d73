-- Nothing of level 16 has an `in` in the open, and no Var of one Name without value: so the left side of a ForIn needs no rule of its own for `in`.
use mathlib.Core.Path.{◌≡◌, refl, subst}
use mathlib.Core.List.{List, [], ◌∷◌}
use mathlib.Core.Bool.{Bool, true, false, cond, not, ◌||◌}
use Prim.Native.Nat.{ℕ}
use lib.Dec.{T, leb}
use Rattle.token.specs.declared.Token.{Token}
use Rattle.kinds.specs.declared.operator.BinaryOperator.TheVariants as binary
use Rattle.kinds.specs.declared.form.Form.{Form}
use Rattle.kinds.specs.declared.form.Form.TheVariants as form
use Rattle.kinds.specs.declared.form.Binding.TheVariants as binding
use Rattle.kinds.specs.declared.form.Key.TheVariants as key
use Rattle.kinds.specs.declared.form.Own.TheVariants as own
use Rattle.kinds.specs.declared.form.Arguments.TheVariants as arguments
use Rattle.kinds.specs.declared.form.Link.TheVariants as link
use Rattle.kinds.specs.declared.form.Entry.TheVariants as entry
use Rattle.kinds.specs.declared.level.Slot.{Slot}
use Rattle.kinds.specs.declared.level.Slot.TheVariants as slot
use Rattle.kinds.specs.Levels.{level, fits}
use Rattle.grammar.specs.Codes.{close_paren, equals}
use Rattle.grammar.specs.Site.{valued, Attr, is_sort, is_expression, Site, at, block_only, plain_name, valued_name}
use Rattle.grammar.specs.Tree.{Tree, Forest, nil, ◌▸◌}
use Rattle.grammar.specs.Layout.{Lay, end, tok, kid, commas, listed, layout, attr_of, attr, attrs, any_open, but_last, names}
use Rattle.grammar.proofs.Tests.{all, and_l, and_r, imp, mp}
use Rattle.grammar.proofs.Laws.{standings, at_standing}
use Rattle.grammar.proofs.Fills.{Fills, fill_end, fill_tok, fill_kid}
use Rattle.grammar.proofs.Steps.{tight, Claim}

-- Lists between brackets open nothing.
shut_commas : (s : Site) (ds : List Attr) (ls : Lay) (cs : List Attr) → ((cs : List Attr) → any_open ls cs ≡ false) → any_open (commas true s ds ls) cs ≡ false
shut_commas s [] ls cs h = h cs
shut_commas s (d ∷ ds) ls [] h = refl
shut_commas s (d ∷ ds) ls (c ∷ cs) h = shut_commas s ds ls cs h

shut_listed : (s : Site) (ds : List Attr) (ls : Lay) (cs : List Attr) → ((cs : List Attr) → any_open ls cs ≡ false) → any_open (listed s ds ls) cs ≡ false
shut_listed s [] ls cs h = h cs
shut_listed s (d ∷ ds) ls [] h = refl
shut_listed s (d ∷ ds) ls (c ∷ cs) h = shut_commas s ds ls cs h

over_block : (cs : List Attr) → any_open (tok close_paren (kid true block_only end)) cs ≡ false
over_block [] = refl
over_block (c ∷ cs) = refl

none : (x : Bool) → x ≡ false → T (not x)
none true e = absurd (subst T e tt)
none false e = tt

-- What stands first in the open, and then nothing.
first_shut : (x y : Bool) → T (not x) → y ≡ false → T (not (x || y))
first_shut true y h e = absurd h
first_shut false y h e = none y e

cond_then : (x a b : Bool) → T x → T a → T (cond x a b)
cond_then true a b h k = k
cond_then false a b h k = absurd h

tight_by : (p : Slot) → T (all (λ s. imp (fits p s) (leb 16 (level s))) standings) → (a : Attr) → T (is_expression a) → T (fits p a.standing) → T (tight a)
tight_by p h a e f = cond_then (is_expression a) _ _ e (mp (fits p a.standing) _ (at_standing (λ s. imp (fits p s) (leb 16 (level s))) h a.standing) f)

pub tight_at : (p : Slot) → T (all (λ s. imp (fits p s) (leb 16 (level s))) standings) → {u : Tree} {ks js : List Token} → Claim (at p) u ks js → T (tight (attr u))
tight_at p h {u} a = tight_by p h (attr u) (and_l (is_expression (attr u)) _ a.fit) (and_r (is_expression (attr u)) _ a.fit)

tight_name : {u : Tree} {ks js : List Token} → Claim plain_name u ks js → T (tight (attr u))
tight_name {u} a = tight_by slot.Identifier tt (attr u) (and_l (is_expression (attr u)) _ a.fit) (and_r (attr u).single _ (and_r (is_expression (attr u)) _ a.fit))

-- A Var of one Name without value.
one_name : {b : Bool} (u : Tree) (x : Bool) (l m : Lay) {ks r : List Token} {h0 h : ℕ} → T (not x) → Fills Claim b (cond x l (kid false plain_name m)) (u ▸ nil) ks r h0 h → ((cs : List Attr) → any_open m cs ≡ false) → T (not (any_open (cond x l (kid false plain_name m)) (attr u ∷ [])))
one_name u true l m n d e = absurd n
one_name u false l m n (fill_kid a d) e = first_shut (attr u).bare_in _ (a.shut (tight_name a)) (e [])

pub shut : (f : Form) (b : Bool) {us : Forest} {ks r : List Token} {h0 h : ℕ} → Fills Claim b (layout f (attrs us)) us ks r h0 h → T (tight (attr_of f (attrs us))) → T (not (attr_of f (attrs us)).bare_in)
unfolding attrs
shut form.Free b d t = absurd t
shut (form.Name binding.Plain) b d t = tt
shut (form.Name binding.Valued) b d t = absurd t
shut form.Num b d t = tt
shut form.Str b d t = tt
shut (form.Word w) b d t = tt
shut form.This b d t = tt
shut form.Array b {us = us} d t = none _ (shut_listed _ (attrs us) _ (attrs us) (λ cs. refl))
shut form.Object b {us = us} d t = none _ (shut_listed _ (attrs us) _ (attrs us) (λ cs. refl))
shut (form.Prop k) b d t = absurd t
shut (form.Fn own.Nameless) b {us = us} d t = none _ (shut_listed _ (but_last (attrs us)) _ (attrs us) over_block)
shut (form.Fn own.Named) b (fill_tok (fill_kid {u = u} {us = us} a d)) t = first_shut (attr u).bare_in _ (a.shut (tight_name a)) (shut_listed _ (but_last (attrs us)) _ (attrs us) over_block)
shut form.Arrow b d t = absurd t
shut (form.Unary o) b d t = absurd t
shut (form.Update o z) b d t = absurd t
shut (form.Bin binary.Coalesce) b d t = absurd t
shut (form.Bin binary.Or) b d t = absurd t
shut (form.Bin binary.And) b d t = absurd t
shut (form.Bin binary.BitOr) b d t = absurd t
shut (form.Bin binary.BitXor) b d t = absurd t
shut (form.Bin binary.BitAnd) b d t = absurd t
shut (form.Bin binary.Equal) b d t = absurd t
shut (form.Bin binary.NotEqual) b d t = absurd t
shut (form.Bin binary.StrictEqual) b d t = absurd t
shut (form.Bin binary.StrictNotEqual) b d t = absurd t
shut (form.Bin binary.Less) b d t = absurd t
shut (form.Bin binary.LessOrEqual) b d t = absurd t
shut (form.Bin binary.Greater) b d t = absurd t
shut (form.Bin binary.GreaterOrEqual) b d t = absurd t
shut (form.Bin binary.In) b d t = absurd t
shut (form.Bin binary.Instanceof) b d t = absurd t
shut (form.Bin binary.LeftShift) b d t = absurd t
shut (form.Bin binary.RightShift) b d t = absurd t
shut (form.Bin binary.UnsignedRightShift) b d t = absurd t
shut (form.Bin binary.Add) b d t = absurd t
shut (form.Bin binary.Subtract) b d t = absurd t
shut (form.Bin binary.Multiply) b d t = absurd t
shut (form.Bin binary.Divide) b d t = absurd t
shut (form.Bin binary.Remainder) b d t = absurd t
shut (form.Bin binary.Exponent) b d t = absurd t
shut (form.Assign o) b d t = absurd t
shut form.Cond b d t = absurd t
shut form.Seq b d t = absurd t
shut form.Paren b (fill_tok (fill_kid a (fill_tok fill_end))) t = tt
shut form.Call b (fill_kid {u = u} {us = us} a (fill_tok d)) t = first_shut (attr u).bare_in _ (a.shut (tight_at slot.Call tt a)) (shut_listed _ (attrs us) _ (attrs us) (λ cs. refl))
shut (form.New arguments.Listed) b (fill_tok (fill_kid {u = u} {us = us} a (fill_tok d))) t = first_shut (attr u).bare_in _ (a.shut (tight_at slot.Member tt a)) (shut_listed _ (attrs us) _ (attrs us) (λ cs. refl))
shut (form.New arguments.Unlisted) b (fill_tok (fill_kid {u = u} a fill_end)) t = first_shut (attr u).bare_in _ (a.shut (tight_at slot.New tt a)) refl
shut (form.Member key.Fixed) b (fill_kid {u = u} a (fill_tok (fill_kid x fill_end))) t = first_shut (attr u).bare_in _ (a.shut (tight_at slot.Call tt a)) refl
shut (form.Member key.Computed) b (fill_kid {u = u} a (fill_tok (fill_kid x (fill_tok fill_end)))) t = first_shut (attr u).bare_in _ (a.shut (tight_at slot.Call tt a)) refl
shut (form.Chain link.Name entry.Optional) b (fill_kid {u = u} a (fill_tok (fill_kid x fill_end))) t = first_shut (attr u).bare_in _ (a.shut (tight_at slot.Optional tt a)) refl
shut (form.Chain link.Key entry.Optional) b (fill_kid {u = u} a (fill_tok (fill_tok (fill_kid x (fill_tok fill_end))))) t = first_shut (attr u).bare_in _ (a.shut (tight_at slot.Optional tt a)) refl
shut (form.Chain link.Call entry.Optional) b (fill_kid {u = u} {us = us} a (fill_tok (fill_tok d))) t = first_shut (attr u).bare_in _ (a.shut (tight_at slot.Optional tt a)) (shut_listed _ (attrs us) _ (attrs us) (λ cs. refl))
shut (form.Chain link.Name entry.Tail) b (fill_kid {u = u} a (fill_tok (fill_kid x fill_end))) t = first_shut (attr u).bare_in _ (a.shut (tight_at slot.Chain tt a)) refl
shut (form.Chain link.Key entry.Tail) b (fill_kid {u = u} a (fill_tok (fill_kid x (fill_tok fill_end)))) t = first_shut (attr u).bare_in _ (a.shut (tight_at slot.Chain tt a)) refl
shut (form.Chain link.Call entry.Tail) b (fill_kid {u = u} {us = us} a (fill_tok d)) t = first_shut (attr u).bare_in _ (a.shut (tight_at slot.Chain tt a)) (shut_listed _ (attrs us) _ (attrs us) (λ cs. refl))
shut form.Await b d t = absurd t
shut form.Yield b d t = absurd t
shut form.Script b d t = absurd t
shut form.ExprStmt b d t = absurd t
shut form.Var b {us = nil} d t = absurd t
shut form.Var b {us = u ▸ nil} (fill_tok d) t = one_name u (is_sort valued (attr u)) (kid false valued_name (tok equals (names [] true))) (names [] false) t d (λ cs. refl)
shut form.Var b {us = u ▸ (v ▸ us)} d t = absurd t
shut form.Return b d t = absurd t
shut form.If b d t = absurd t
shut form.While b d t = absurd t
shut (form.For i e u) b d t = absurd t
shut form.ForIn b d t = absurd t
shut form.Block b d t = absurd t
shut form.Labeled b d t = absurd t
shut form.Empty b d t = absurd t
shut (form.Hole z) b d t = absurd t
