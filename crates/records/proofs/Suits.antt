-- A derived tree is formed: what fits its site, with levels, beginnings and `in`, is of the site's sort.
use Rattle.std.proofs.Common.{Bool, true, false, ◌||◌, T, List}
use Rattle.kinds.specs.Levels.{fits}
use Rattle.kinds.specs.declared.form.Form.{Form}
use Rattle.kinds.specs.declared.form.Form.TheVariants as form
use Rattle.kinds.specs.declared.form.Binding.TheVariants as binding
use Rattle.grammar.specs.Tree.{Tree, Forest, node, nil, ◌▸◌, head_of}
use Rattle.grammar.specs.Site.{Attr, expression, statement, block, declaration, Site, at, start, body, block_only, stmt, closed, init, var_init, var_in, prop, plain_name, valued_name, key_name, root, ok}
use Rattle.grammar.specs.Layout.{Lay, end, stop, tok, kid, layout, attr_of, attr, attrs, fit_kids, good, goods}
use Rattle.grammar.proofs.Tests.{and_l, and_r, and_i, or_l, or_r}
use Rattle.grammar.proofs.Exact.{derived_good}
use Rattle.records.specs.Formed.{of, holed, value_like, statement_like, suited, suits, formed, all_formed, DerivedSound}

plain_suited : (f : Form) (cs : List Attr) → T (ok plain_name (attr_of f cs)) → T (suited plain_name f)
plain_suited form.Free cs h = h
plain_suited (form.Name binding.Plain) cs h = tt
plain_suited (form.Name binding.Valued) cs h = h
plain_suited form.Num cs h = h
plain_suited form.Str cs h = h
plain_suited (form.Word w) cs h = h
plain_suited form.This cs h = h
plain_suited form.Array cs h = h
plain_suited form.Object cs h = h
plain_suited (form.Prop k) cs h = h
plain_suited (form.Fn o) cs h = h
plain_suited form.Arrow cs h = h
plain_suited (form.Unary o) cs h = h
plain_suited (form.Update o s) cs h = h
plain_suited (form.Bin o) cs h = h
plain_suited (form.Assign o) cs h = h
plain_suited form.Cond cs h = h
plain_suited form.Seq cs h = h
plain_suited form.Paren cs h = h
plain_suited form.Call cs h = h
plain_suited (form.New a) cs h = h
plain_suited (form.Member k) cs h = h
plain_suited (form.Chain l e) cs h = h
plain_suited form.Await cs h = h
plain_suited form.Yield cs h = h
plain_suited form.Script cs h = h
plain_suited form.ExprStmt cs h = h
plain_suited form.Var cs h = h
plain_suited form.Return cs h = h
plain_suited form.If cs h = h
plain_suited form.While cs h = h
plain_suited (form.For i t u) cs h = h
plain_suited form.ForIn cs h = h
plain_suited form.Block cs h = h
plain_suited form.Labeled cs h = h
plain_suited form.Empty cs h = h
plain_suited (form.Hole s) cs h = h

key_suited : (f : Form) (cs : List Attr) → T (ok key_name (attr_of f cs)) → T (suited key_name f)
key_suited form.Free cs h = h
key_suited (form.Name binding.Plain) cs h = tt
key_suited (form.Name binding.Valued) cs h = h
key_suited form.Num cs h = tt
key_suited form.Str cs h = tt
key_suited (form.Word w) cs h = h
key_suited form.This cs h = h
key_suited form.Array cs h = h
key_suited form.Object cs h = h
key_suited (form.Prop k) cs h = h
key_suited (form.Fn o) cs h = h
key_suited form.Arrow cs h = h
key_suited (form.Unary o) cs h = h
key_suited (form.Update o s) cs h = h
key_suited (form.Bin o) cs h = h
key_suited (form.Assign o) cs h = h
key_suited form.Cond cs h = h
key_suited form.Seq cs h = h
key_suited form.Paren cs h = h
key_suited form.Call cs h = h
key_suited (form.New a) cs h = h
key_suited (form.Member k) cs h = h
key_suited (form.Chain l e) cs h = h
key_suited form.Await cs h = h
key_suited form.Yield cs h = h
key_suited form.Script cs h = h
key_suited form.ExprStmt cs h = h
key_suited form.Var cs h = h
key_suited form.Return cs h = h
key_suited form.If cs h = h
key_suited form.While cs h = h
key_suited (form.For i t u) cs h = h
key_suited form.ForIn cs h = h
key_suited form.Block cs h = h
key_suited form.Labeled cs h = h
key_suited form.Empty cs h = h
key_suited (form.Hole s) cs h = h

value : (f : Form) → T (of expression f) → T (value_like f)
value f h = or_l (of expression f) (holed expression f) h

either : (a b c : Bool) → (T a → T c) → (T b → T c) → T (a || b) → T c
either true b c x y h = x h
either false b c x y h = y h

statement_suited : (f : Form) → T (of statement f || (of block f || of declaration f)) → T (statement_like f)
statement_suited f h =
    either (of statement f) (of block f || of declaration f) (statement_like f)
    (λ x. or_l (of statement f) (of block f || (of declaration f || holed statement f)) x)
    (λ y. or_r (of statement f) (of block f || (of declaration f || holed statement f)) (either (of block f) (of declaration f) (of block f || (of declaration f || holed statement f)) (λ x. or_l (of block f) (of declaration f || holed statement f) x) (λ x. or_r (of block f) (of declaration f || holed statement f) (or_l (of declaration f) (holed statement f) x)) y))
    h

pub ok_suited : (s : Site) (f : Form) (cs : List Attr) → T (ok s (attr_of f cs)) → T (suited s f)
ok_suited (at p) f cs h = value f (and_l (of expression f) (fits p (attr_of f cs).standing) h)
ok_suited start f cs h = value f (and_l (of expression f) _ h)
ok_suited body f cs h =
    either (of block f) _ (of block f || value_like f)
    (λ x. or_l (of block f) (value_like f) x)
    (λ x. or_r (of block f) (value_like f) (value f (and_l (of expression f) _ x)))
    h
ok_suited block_only f cs h = h
ok_suited stmt f cs h = statement_suited f h
ok_suited closed f cs h = statement_suited f (and_l (of statement f || (of block f || of declaration f)) _ h)
ok_suited init f cs h = value f (and_l (of expression f) _ h)
ok_suited var_init f cs h = and_l (of declaration f) _ h
ok_suited var_in f cs h = and_l (of declaration f) _ h
ok_suited prop f cs h = h
ok_suited plain_name f cs h = plain_suited f cs h
ok_suited valued_name f cs h = h
ok_suited key_name f cs h = key_suited f cs h
ok_suited root f cs h = h

tree_suited : (s : Site) (u : Tree) → T (ok s (attr u)) → T (suited s (head_of u).form)
unfolding attr
tree_suited s (node h us) x = ok_suited s h.form (attrs us) x

pub fit_suits : (l : Lay) (us : Forest) → T (fit_kids l (attrs us)) → T (suits l us)
unfolding attrs
fit_suits end nil h = h
fit_suits end (u ▸ us) h = h
fit_suits stop nil h = h
fit_suits stop (u ▸ us) h = h
fit_suits (tok c ls) us h = fit_suits ls us h
fit_suits (kid i s ls) nil h = h
fit_suits (kid i s ls) (u ▸ us) h =
    and_i (suited s (head_of u).form) (suits ls us) (tree_suited s u (and_l (ok s (attr u)) (fit_kids ls (attrs us)) h))
    (fit_suits ls us (and_r (ok s (attr u)) (fit_kids ls (attrs us)) h))

mutual
  unfolding good goods formed all_formed

  pub good_formed : (t : Tree) → T (good t) → T (formed t)
  good_formed (node h us) x =
      and_i (suits (layout h.form (attrs us)) us) (all_formed us)
      (fit_suits (layout h.form (attrs us)) us (and_l (fit_kids (layout h.form (attrs us)) (attrs us)) (goods us) x))
      (goods_formed us (and_r (fit_kids (layout h.form (attrs us)) (attrs us)) (goods us) x))

  pub goods_formed : (us : Forest) → T (goods us) → T (all_formed us)
  goods_formed nil x = tt
  goods_formed (u ▸ us) x =
      and_i (formed u) (all_formed us) (good_formed u (and_l (good u) (goods us) x)) (goods_formed us (and_r (good u) (goods us) x))

pub derived_sound : DerivedSound
derived_sound ts t r d =
    let g = derived_good ts t r in
    record { root = tree_suited root t g.0; formed = good_formed t g.1; nests = d }
