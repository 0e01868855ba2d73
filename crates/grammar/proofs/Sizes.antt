-- Every record but a script writes a token of its own, so a reading has at most one record more than tokens.
use mathlib.Core.List.{List, []}
use mathlib.Core.Path.{refl, ap}
use mathlib.Core.Bool.{Bool, true, false}
use Prim.Native.Nat.{ℕ, ◌+◌, max, ◌≤◌, ◌<◌}
use native.Mathlib.Omega.{arith}
use lib.Dec.{T}
use lib.ListN.{length}
use Rattle.token.specs.declared.Token.{Token}
use Rattle.kinds.specs.declared.form.Form.{Form}
use Rattle.kinds.specs.declared.form.Form.TheVariants as form
use Rattle.kinds.specs.declared.form.Key.TheVariants as key
use Rattle.kinds.specs.declared.form.Link.TheVariants as link
use Rattle.kinds.specs.declared.form.Entry.TheVariants as entry
use Rattle.kinds.specs.declared.operator.Side.TheVariants as side
use Rattle.grammar.specs.Site.{Attr, Site, at, start, body, block_only, stmt, closed, init, var_init, var_in, prop, plain_name, valued_name, key_name, root, ok, in_head}
use Rattle.grammar.specs.Tree.{head, Tree, Forest, node, nil, ◌▸◌, size, sizes, depth, depths}
use Rattle.grammar.specs.Layout.{Lay, end, stop, tok, kid, layout, attr_of, attrs}
use Rattle.grammar.specs.Derives.{lo_of, Derives, derive}
use Rattle.grammar.specs.Claim.{is_part, SizesBounded}
use Rattle.grammar.proofs.Tests.{and_l, and_r}
use Rattle.grammar.proofs.Fills.{Rel, Fills, fill_end, fill_stop, fill_tok, fill_kid, Step, fold_all}
use Rattle.grammar.proofs.Every.{nowhere}
use Rattle.grammar.proofs.Places.{rootless, all_parts}

abbrev owns : Lay → Bool
owns end = false
owns stop = false
owns (tok c ls) = true
owns (kid i s ls) = owns ls

abbrev Small : Rel
Small s t ks r = T (is_part s) → size t + length r ≤ length ks

small_fills : {b : Bool} {ls : Lay} {us : Forest} {ks r : List Token} {h0 h : ℕ} → T (rootless ls) → Fills Small b ls us ks r h0 h → sizes us + length r ≤ length ks
unfolding sizes
small_fills t fill_end = omega arith
small_fills {b = true} t (fill_stop e) = omega (arith, ap length e.0)
small_fills {b = false} t (fill_stop e) = omega (arith, ap length e.1)
small_fills t (fill_tok d) = omega (arith, small_fills t d)
small_fills t (fill_kid {s = s} a d) = omega (arith, a (and_l (is_part s) _ t), small_fills (and_r (is_part s) _ t) d)

smaller_fills : {b : Bool} {ls : Lay} {us : Forest} {ks r : List Token} {h0 h : ℕ} → T (rootless ls) → T (owns ls) → Fills Small b ls us ks r h0 h → sizes us + length r < length ks
unfolding sizes
smaller_fills t o fill_end = absurd o
smaller_fills t o (fill_stop e) = absurd o
smaller_fills t o (fill_tok d) = omega (arith, small_fills t d)
smaller_fills t o (fill_kid {s = s} a d) = omega (arith, a (and_l (is_part s) _ t), smaller_fills (and_r (is_part s) _ t) o d)

by_own : (f : Form) (s : Site) (us : Forest) {ks r : List Token} {h : ℕ} → T (owns (layout f (attrs us))) → Fills Small (in_head s) (layout f (attrs us)) us ks r 0 h → Small s (node (head f (lo_of ks) h) us) ks r
unfolding size
by_own f s us o d p = omega (arith, smaller_fills (all_parts f (attrs us)) o d)

no_script : (s : Site) (cs : List Attr) → T (is_part s) → T (ok s (attr_of form.Script cs)) → ⊥
no_script (at p) cs q h = h
no_script start cs p h = h
no_script body cs p h = h
no_script block_only cs p h = h
no_script stmt cs p h = h
no_script closed cs p h = h
no_script init cs p h = h
no_script var_init cs p h = h
no_script var_in cs p h = h
no_script prop cs p h = h
no_script plain_name cs p h = h
no_script valued_name cs p h = h
no_script key_name cs p h = h
no_script root cs p h = p

small : Step Small
small form.Free s us ks r h k d = absurd (nowhere s _ refl k)
small (form.Name b) s us ks r h k d = by_own (form.Name b) s us tt d
small form.Num s us ks r h k d = by_own form.Num s us tt d
small form.Str s us ks r h k d = by_own form.Str s us tt d
small (form.Word w) s us ks r h k d = by_own (form.Word w) s us tt d
small form.This s us ks r h k d = by_own form.This s us tt d
small form.Array s us ks r h k d = by_own form.Array s us tt d
small form.Object s us ks r h k d = by_own form.Object s us tt d
small (form.Prop key.Fixed) s us ks r h k d = by_own (form.Prop key.Fixed) s us tt d
small (form.Prop key.Computed) s us ks r h k d = by_own (form.Prop key.Computed) s us tt d
small (form.Fn o) s us ks r h k d = by_own (form.Fn o) s us tt d
small form.Arrow s us ks r h k d = by_own form.Arrow s us tt d
small (form.Unary o) s us ks r h k d = by_own (form.Unary o) s us tt d
small (form.Update o side.Before) s us ks r h k d = by_own (form.Update o side.Before) s us tt d
small (form.Update o side.After) s us ks r h k d = by_own (form.Update o side.After) s us tt d
small (form.Bin o) s us ks r h k d = by_own (form.Bin o) s us tt d
small (form.Assign o) s us ks r h k d = by_own (form.Assign o) s us tt d
small form.Cond s us ks r h k d = by_own form.Cond s us tt d
small form.Seq s us ks r h k d = by_own form.Seq s us tt d
small form.Paren s us ks r h k d = by_own form.Paren s us tt d
small form.Call s us ks r h k d = by_own form.Call s us tt d
small (form.New a) s us ks r h k d = by_own (form.New a) s us tt d
small (form.Member key.Fixed) s us ks r h k d = by_own (form.Member key.Fixed) s us tt d
small (form.Member key.Computed) s us ks r h k d = by_own (form.Member key.Computed) s us tt d
small (form.Chain link.Name entry.Optional) s us ks r h k d = by_own (form.Chain link.Name entry.Optional) s us tt d
small (form.Chain link.Name entry.Tail) s us ks r h k d = by_own (form.Chain link.Name entry.Tail) s us tt d
small (form.Chain link.Key entry.Optional) s us ks r h k d = by_own (form.Chain link.Key entry.Optional) s us tt d
small (form.Chain link.Key entry.Tail) s us ks r h k d = by_own (form.Chain link.Key entry.Tail) s us tt d
small (form.Chain link.Call entry.Optional) s us ks r h k d = by_own (form.Chain link.Call entry.Optional) s us tt d
small (form.Chain link.Call entry.Tail) s us ks r h k d = by_own (form.Chain link.Call entry.Tail) s us tt d
small form.Await s us ks r h k d = by_own form.Await s us tt d
small form.Yield s us ks r h k d = by_own form.Yield s us tt d
small form.ExprStmt s us ks r h k d = by_own form.ExprStmt s us tt d
small form.Var s us ks r h k d = by_own form.Var s us tt d
small form.Return s us ks r h k d = by_own form.Return s us tt d
small form.If s us ks r h k d = by_own form.If s us tt d
small form.While s us ks r h k d = by_own form.While s us tt d
small (form.For i t u) s us ks r h k d = by_own (form.For i t u) s us tt d
small form.ForIn s us ks r h k d = by_own form.ForIn s us tt d
small form.Block s us ks r h k d = by_own form.Block s us tt d
small form.Labeled s us ks r h k d = by_own form.Labeled s us tt d
small form.Empty s us ks r h k d = by_own form.Empty s us tt d
small form.Script s us ks r h k d = λ p. absurd (no_script s (attrs us) p k)
small (form.Hole z) s us ks r h k d = absurd (nowhere s _ refl k)

max_sum : (a b x y : ℕ) → a ≤ x → b ≤ y → max a b ≤ x + y
max_sum a b x y h k = omega (arith, h, k)

-- Depth is at most size.
mutual
  unfolding depth depths size sizes

  deep : (t : Tree) → depth t ≤ size t
  deep (node h us) = omega (arith, deeps us)

  deeps : (us : Forest) → depths us ≤ sizes us
  deeps nil = omega arith
  deeps (u ▸ us) = max_sum (depth u) (depths us) (size u) (sizes us) (deep u) (deeps us)

pub sizes_bounded : SizesBounded
unfolding size
sizes_bounded ts t d = (few d, deep t)
  where
    few : {t : Tree} → Derives root t ts [] → size t ≤ length ts + 1
    few (derive {f = f} {us = us} k d) = omega (arith, small_fills (all_parts f (attrs us)) (fold_all Small small d))
