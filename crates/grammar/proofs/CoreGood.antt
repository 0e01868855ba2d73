-- A good tree has no empty sequence, so it has a core form that its rules come to.
use mathlib.Core.List.{[]}
use lib.Dec.{T}
use Rattle.kinds.specs.declared.form.Form.{Form}
use Rattle.kinds.specs.declared.form.Form.TheVariants as form
use Rattle.kinds.specs.declared.operator.Side.TheVariants as side
use Rattle.grammar.specs.Tree.{Forest, node, nil, ◌▸◌}
use Rattle.grammar.specs.Layout.{layout, fit_kids, attrs, good, goods}
use Rattle.grammar.specs.Core.{form_role}
use Rattle.grammar.specs.Rewriting.{full, Full, Fulls, GoodFull}
use Rattle.grammar.proofs.Tests.{and_l, and_r}
use Rattle.grammar.proofs.CoreForm.{any_full}

nil_full : (f : Form) → T (fit_kids (layout f []) []) → T (full (form_role f) nil)
nil_full form.Free h = tt
nil_full (form.Name b) h = tt
nil_full form.Num h = tt
nil_full form.Str h = tt
nil_full (form.Word w) h = tt
nil_full form.This h = tt
nil_full form.Array h = tt
nil_full form.Object h = tt
nil_full (form.Prop p) h = tt
nil_full (form.Fn o) h = tt
nil_full form.Arrow h = tt
nil_full (form.Unary o) h = absurd h
nil_full (form.Update o side.Before) h = tt
nil_full (form.Update o side.After) h = tt
nil_full (form.Bin o) h = absurd h
nil_full (form.Assign o) h = tt
nil_full form.Cond h = tt
nil_full form.Seq h = absurd h
nil_full form.Paren h = tt
nil_full form.Call h = tt
nil_full (form.New a) h = tt
nil_full (form.Member p) h = tt
nil_full (form.Chain l e) h = tt
nil_full form.Await h = tt
nil_full form.Yield h = tt
nil_full form.Script h = tt
nil_full form.ExprStmt h = tt
nil_full form.Var h = tt
nil_full form.Return h = tt
nil_full form.If h = tt
nil_full form.While h = tt
nil_full (form.For i t u) h = tt
nil_full form.ForIn h = tt
nil_full form.Block h = tt
nil_full form.Labeled h = tt
nil_full form.Empty h = tt
nil_full (form.Hole z) h = tt

own_full : (f : Form) (us : Forest) → T (fit_kids (layout f (attrs us)) (attrs us)) → T (full (form_role f) us)
unfolding attrs
own_full f nil h = nil_full f h
own_full f (u ▸ us) h = any_full (form_role f) (u ▸ us) tt

mutual
  unfolding good goods Full Fulls

  pub good_full : GoodFull
  good_full (node h us) g = (own_full h.form us (and_l (fit_kids (layout h.form (attrs us)) (attrs us)) _ g), goods_full us (and_r (fit_kids (layout h.form (attrs us)) (attrs us)) _ g))

  goods_full : (us : Forest) → T (goods us) → Fulls us
  goods_full nil g = tt
  goods_full (u ▸ us) g = (good_full u (and_l (good u) _ g), goods_full us (and_r (good u) _ g))
