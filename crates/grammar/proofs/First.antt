-- What the tokens of a tree begin with, and that there are some: no line for any form but one test of the table.
use mathlib.Core.Path.{◌≡◌, refl, ap, subst}
use mathlib.Core.List.{List, [], ◌∷◌}
use mathlib.Core.Bool.{Bool, true, false, cond, not, ◌&&◌, ◌||◌}
use Prim.Native.Nat.{ℕ, ◌≤◌, ◌<◌}
use native.Mathlib.Omega.{arith}
use lib.Dec.{T}
use lib.ListN.{length}
use Rattle.token.specs.Same.{same_code}
use Rattle.token.specs.declared.Token.{Token}
use Rattle.kinds.specs.declared.operator.UnaryOperator.TheVariants as unary
use Rattle.kinds.specs.declared.operator.UpdateOperator.TheVariants as update
use Rattle.kinds.specs.declared.form.Constant.TheVariants as constant
use Rattle.kinds.specs.declared.form.Form.{Form}
use Rattle.kinds.specs.declared.form.Form.TheVariants as form
use Rattle.kinds.specs.declared.form.Binding.TheVariants as binding
use Rattle.kinds.specs.declared.form.Key.TheVariants as key
use Rattle.kinds.specs.declared.form.Link.TheVariants as link
use Rattle.kinds.specs.declared.form.Entry.TheVariants as entry
use Rattle.kinds.specs.declared.operator.Side.TheVariants as side
use Rattle.grammar.specs.Codes.{open_paren, open_bracket, close_brace, word_else}
use Rattle.grammar.specs.Site.{Begin, script, declaration, block, nothing, property, Attr, is_sort, is_expression, is_statement, is_other, Site, at, start, body, block_only, stmt, closed, init, var_init, var_in, prop, plain_name, valued_name, key_name, root, ok}
use Rattle.grammar.specs.Tree.{Forest}
use Rattle.grammar.specs.Layout.{Lay, end, stop, tok, kid, layout, attr_of, attr, attrs, begin_of}
use Rattle.grammar.specs.Derives.{token}
use Rattle.grammar.specs.Parser.{starts, opens, first_opens}
use Rattle.grammar.proofs.Tests.{and_l, and_r, and_i, no_both, imp, mp}
use Rattle.grammar.proofs.Fills.{Fills, fill_end, fill_stop, fill_tok, fill_kid}
use Rattle.grammar.proofs.Steps.{Claim, firsts, token_begin, not_starts, not_script_lem}
use Rattle.grammar.proofs.Lists.{first_opens_lem}

-- Sites that only an expression takes.
abbrev expr_site : Site → Bool
expr_site (at p) = true
expr_site start = true
expr_site body = false
expr_site block_only = false
expr_site stmt = false
expr_site closed = false
expr_site init = true
expr_site var_init = false
expr_site var_in = false
expr_site prop = false
expr_site plain_name = true
expr_site valued_name = false
expr_site key_name = true
expr_site root = false

site_expression : (s : Site) (a : Attr) → T (expr_site s) → T (ok s a) → T (is_expression a)
site_expression (at p) a h k = and_l (is_expression a) _ k
site_expression start a h k = and_l (is_expression a) _ k
site_expression body a h k = absurd h
site_expression block_only a h k = absurd h
site_expression stmt a h k = absurd h
site_expression closed a h k = absurd h
site_expression init a h k = and_l (is_expression a) _ k
site_expression var_init a h k = absurd h
site_expression var_in a h k = absurd h
site_expression prop a h k = absurd h
site_expression plain_name a h k = and_l (is_expression a) _ k
site_expression valued_name a h k = absurd h
site_expression key_name a h k = and_l (is_expression a) _ k
site_expression root a h k = absurd h

abbrev alone_at : List Token → Bool
alone_at ks = is_other (token_begin ks) && (not (starts open_bracket ks) && not (starts open_paren ks))

-- A form begins with a token that its sort can begin with, or with an expression.
abbrev first_ok : Form → List Attr → Lay → Bool
first_ok f cs end = is_sort script (attr_of f cs) || is_sort nothing (attr_of f cs)
first_ok f cs stop = false
first_ok f cs (tok c ls) = firsts (attr_of f cs) (token c 0 0 ∷ []) && imp (is_expression (attr_of f cs) && (attr_of f cs).single) (alone_at (token c 0 0 ∷ []))
first_ok f cs (kid i s ls) = is_sort script (attr_of f cs) || (expr_site s && ((not (is_sort block (attr_of f cs)) && not (is_sort declaration (attr_of f cs))) && not (is_expression (attr_of f cs) && (attr_of f cs).single)))

first_ok_lem : (f : Form) (cs : List Attr) → T (first_ok f cs (layout f cs))
first_ok_lem form.Free cs = tt
first_ok_lem (form.Name binding.Plain) cs = tt
first_ok_lem (form.Name binding.Valued) cs = tt
first_ok_lem form.Num cs = tt
first_ok_lem form.Str cs = tt
first_ok_lem (form.Word constant.Null) cs = tt
first_ok_lem (form.Word constant.True) cs = tt
first_ok_lem (form.Word constant.False) cs = tt
first_ok_lem form.This cs = tt
first_ok_lem form.Array cs = tt
first_ok_lem form.Object cs = tt
first_ok_lem (form.Prop key.Fixed) cs = tt
first_ok_lem (form.Prop key.Computed) cs = tt
first_ok_lem (form.Fn o) cs = tt
first_ok_lem form.Arrow cs = tt
first_ok_lem (form.Unary unary.Minus) cs = tt
first_ok_lem (form.Unary unary.Plus) cs = tt
first_ok_lem (form.Unary unary.Not) cs = tt
first_ok_lem (form.Unary unary.BitNot) cs = tt
first_ok_lem (form.Unary unary.Typeof) cs = tt
first_ok_lem (form.Unary unary.Void) cs = tt
first_ok_lem (form.Unary unary.Delete) cs = tt
first_ok_lem (form.Update update.Increment side.Before) cs = tt
first_ok_lem (form.Update update.Increment side.After) cs = tt
first_ok_lem (form.Update update.Decrement side.Before) cs = tt
first_ok_lem (form.Update update.Decrement side.After) cs = tt
first_ok_lem (form.Bin o) cs = tt
first_ok_lem (form.Assign o) cs = tt
first_ok_lem form.Cond cs = tt
first_ok_lem form.Seq cs = tt
first_ok_lem form.Paren cs = tt
first_ok_lem form.Call cs = tt
first_ok_lem (form.New a) cs = tt
first_ok_lem (form.Member k) cs = tt
first_ok_lem (form.Chain link.Name entry.Optional) cs = tt
first_ok_lem (form.Chain link.Name entry.Tail) cs = tt
first_ok_lem (form.Chain link.Key entry.Optional) cs = tt
first_ok_lem (form.Chain link.Key entry.Tail) cs = tt
first_ok_lem (form.Chain link.Call entry.Optional) cs = tt
first_ok_lem (form.Chain link.Call entry.Tail) cs = tt
first_ok_lem form.Await cs = tt
first_ok_lem form.Yield cs = tt
first_ok_lem form.Script [] = tt
first_ok_lem form.Script (c ∷ cs) = tt
first_ok_lem form.ExprStmt cs = tt
first_ok_lem form.Var cs = tt
first_ok_lem form.Return cs = tt
first_ok_lem form.If cs = tt
first_ok_lem form.While cs = tt
first_ok_lem (form.For i t u) cs = tt
first_ok_lem form.ForIn cs = tt
first_ok_lem form.Block cs = tt
first_ok_lem form.Labeled cs = tt
first_ok_lem form.Empty cs = tt
first_ok_lem (form.Hole s) cs = tt

cond3 : (x y z a b c : Bool) → T a → T b → T c → T (cond x a (cond y b (cond z c true)))
cond3 true y z a b c h k l = h
cond3 false true z a b c h k l = k
cond3 false false true a b c h k l = l
cond3 false false false a b c h k l = tt

not_t : (x : Bool) → x ≡ false → T (not x)
not_t true e = absurd (subst T e tt)
not_t false e = tt

imp_no : (x y : Bool) → T (not x) → T (imp x y)
imp_no true y h = absurd h
imp_no false y h = tt

opens_firsts : (a : Attr) (ks : List Token) → T (not (is_sort block a) && not (is_sort declaration a)) → T (first_opens ks) → T (firsts a ks)
opens_firsts a [] n h = absurd h
opens_firsts a (k ∷ ks) n h =
    let x : T (not (same_code k.code close_brace)) = not_t _ (not_starts close_brace opens refl k h) in
    let y : T (not (same_code k.code word_else)) = not_t _ (not_starts word_else opens refl k h) in
    cond3 (is_expression a) (is_statement a) (is_sort property a) _ _ _ h (and_i _ _ x (and_i _ _ y (and_i _ _ (imp_no (is_sort block a) _ (and_l (not (is_sort block a)) _ n)) (imp_no (is_sort declaration a) _ (and_r (not (is_sort block a)) _ n))))) x

pub le_fills : {b : Bool} {ls : Lay} {us : Forest} {ks r : List Token} {h0 h : ℕ} → Fills Claim b ls us ks r h0 h → length r ≤ length ks
le_fills fill_end = omega arith
le_fills {b = true} (fill_stop s) = omega (arith, ap length s.0)
le_fills {b = false} (fill_stop s) = omega (arith, ap length s.1)
le_fills (fill_tok d) = omega (arith, le_fills d)
le_fills (fill_kid a d) = omega (arith, le_fills d, a.le)

no_or : (x y : Bool) → T (not x) → T (x || y) → T y
no_or true y n h = absurd n
no_or false y n h = h

pub record Facts (a : Attr) (b : Begin) (ks r : List Token) : Type 0 where
  pub less : length r < length ks
  pub firstly : T (firsts a ks)
  pub begin : T (is_expression a) → b ≡ token_begin ks
  pub alone : T (is_expression a && a.single) → T (alone_at ks)

first_facts : (f : Form) (cs : List Attr) (b : Bool) (ls : Lay) {us : Forest} {ks r : List Token} {h0 h : ℕ} → T (not (is_sort script (attr_of f cs))) → T (not (is_sort nothing (attr_of f cs))) → T (first_ok f cs ls) → Fills Claim b ls us ks r h0 h → Facts (attr_of f cs) (begin_of ls (attrs us)) ks r
unfolding attrs
first_facts f cs b end n m h fill_end = absurd (no_both _ (no_or (is_sort script (attr_of f cs)) _ n h) m)
first_facts f cs b stop n m h d = absurd h
first_facts f cs b (tok c ls) n m h (fill_tok d) = record {
  less = omega (arith, le_fills d);
  firstly = and_l (firsts (attr_of f cs) (token c 0 0 ∷ [])) _ h;
  begin = λ e. refl;
  alone = λ e. mp (is_expression (attr_of f cs) && (attr_of f cs).single) _ (and_r (firsts (attr_of f cs) (token c 0 0 ∷ [])) _ h) e;
}
first_facts f cs b (kid i s ls) {ks = ks} n m h (fill_kid {u = u} a d) =
    let h2 : T (expr_site s && ((not (is_sort block (attr_of f cs)) && not (is_sort declaration (attr_of f cs))) && not (is_expression (attr_of f cs) && (attr_of f cs).single))) = no_or (is_sort script (attr_of f cs)) _ n h in
    let ie : T (is_expression (attr u)) = site_expression s (attr u) (and_l (expr_site s) _ h2) a.fit in
    let h3 : T ((not (is_sort block (attr_of f cs)) && not (is_sort declaration (attr_of f cs))) && not (is_expression (attr_of f cs) && (attr_of f cs).single)) = and_r (expr_site s) _ h2 in
    record {
      less = omega (arith, le_fills d, a.less (not_script_lem (attr u).sort ie));
      firstly = opens_firsts (attr_of f cs) ks (and_l (not (is_sort block (attr_of f cs)) && not (is_sort declaration (attr_of f cs))) _ h3) (first_opens_lem a ie);
      begin = λ e. a.begin ie;
      alone = λ e. absurd (no_both _ e (and_r (not (is_sort block (attr_of f cs)) && not (is_sort declaration (attr_of f cs))) _ h3));
    }

pub facts : (f : Form) (us : Forest) (b : Bool) {ks r : List Token} {h0 h : ℕ} → T (not (is_sort script (attr_of f (attrs us)))) → T (not (is_sort nothing (attr_of f (attrs us)))) → Fills Claim b (layout f (attrs us)) us ks r h0 h → Facts (attr_of f (attrs us)) (begin_of (layout f (attrs us)) (attrs us)) ks r
facts f us b n m d = first_facts f (attrs us) b (layout f (attrs us)) n m (first_ok_lem f (attrs us)) d
