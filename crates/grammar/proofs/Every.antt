-- Every derivation is found by the reader: the claim holds of every form.
use mathlib.Core.Path.{◌≡◌, refl, ap, subst}
use mathlib.Core.List.{List}
use mathlib.Core.Bool.{Bool, true, false, not, ◌&&◌, ◌||◌}
use Prim.Native.Nat.{ℕ}
use lib.Dec.{T, eqb}
use Rattle.token.specs.declared.Token.{Token}
use Rattle.kinds.specs.declared.form.Form.{Form}
use Rattle.kinds.specs.declared.form.Form.TheVariants as form
use Rattle.kinds.specs.declared.form.Binding.TheVariants as binding
use Rattle.grammar.specs.Site.{Sort, block, declaration, script, nothing, sort_rank, Attr, is_sort, is_expression, is_statement, Site, at, start, body, block_only, stmt, closed, init, var_init, var_in, prop, plain_name, valued_name, key_name, root, ok, in_head}
use Rattle.grammar.specs.Tree.{head, Forest, node}
use Rattle.grammar.specs.Layout.{layout, attr_of, attr, attrs}
use Rattle.grammar.specs.Derives.{lo_of}
use Rattle.grammar.specs.Parser.{Goal, ex, stm, blk, dec, prp, nam, scr}
use Rattle.grammar.proofs.Tests.{and_l}
use Rattle.grammar.proofs.Fills.{Fills}
use Rattle.grammar.proofs.Steps.{Claim, Through, To, goes, ok_after}
use Rattle.grammar.specs.Layout.{begin_of}
use Rattle.grammar.proofs.Fills.{Step}
use Rattle.grammar.proofs.First.{Facts, facts, le_fills}
use Rattle.grammar.proofs.Shut.{shut as stays-shut}
use Rattle.grammar.proofs.Balance.{skip_fills, balanced}
use Rattle.grammar.proofs.Expressions.{read_array, read_object, read_prop, read_fn, read_arrow, read_paren, read_unary, read_await, read_update, read_binary, read_assign, read_cond, read_seq}
use Rattle.grammar.proofs.Suffixes.{read_call, read_member, read_chain, read_new, read_yield, read_name, read_num, read_str, read_word, read_this}
use Rattle.grammar.proofs.Statements.{read_expr_stmt, read_labeled, read_empty, read_while, read_return, read_if, read_block, read_for, read_for_in}
use Rattle.grammar.proofs.Declarations.{read_var}

whole : (f : Form) (s : Site) {us : Forest} {ks r : List Token} {h : ℕ} → T (not (is_sort script (attr_of f (attrs us)))) → T (not (is_sort nothing (attr_of f (attrs us)))) → T (ok s (attr_of f (attrs us))) → Fills Claim (in_head s) (layout f (attrs us)) us ks r 0 h → To (in_head s) (node (head f (lo_of ks) h) us) ks r → Claim s (node (head f (lo_of ks) h) us) ks r
unfolding attr
whole f s {us} {ks} {r} {h} n m k d to =
    let x : Facts (attr_of f (attrs us)) (begin_of (layout f (attrs us)) (attrs us)) ks r = facts f us (in_head s) n m d in
    record { fit = k; lo = refl; le = le_fills d; less = λ z. x.less; firstly = x.firstly; begin = x.begin; alone = x.alone; shut = stays-shut f (in_head s) d; skips = λ e. skip_fills d e e (balanced f (attrs us) e); to = to }

-- A script is read by itself, not as a part.
script_claim : (s : Site) {us : Forest} {ks r : List Token} {h : ℕ} → T (ok s (attr_of form.Script (attrs us))) → Fills Claim (in_head s) (layout form.Script (attrs us)) us ks r 0 h → Claim s (node (head form.Script (lo_of ks) h) us) ks r
unfolding attr
script_claim s {us} {ks} {r} {h} k d = record { fit = k; lo = refl; le = le_fills d; less = λ z. absurd z; firstly = tt; begin = λ e. absurd e; alone = λ e. absurd e; shut = λ e. absurd e; skips = λ e. skip_fills d e e (balanced form.Script (attrs us) e); to = record { via = go } }
  where
    go : (b : Bool) (q : Goal) → T (goes (in_head s) q (attr (node (head form.Script (lo_of ks) h) us))) → T (b || not (attr (node (head form.Script (lo_of ks) h) us)).bare_in) → T (ok_after b q (attr (node (head form.Script (lo_of ks) h) us)) r) → Through b q (node (head form.Script (lo_of ks) h) us) ks r
    go b (ex p) g nb ga = absurd g
    go b stm g nb ga = absurd g
    go b blk g nb ga = absurd g
    go b dec g nb ga = absurd g
    go b prp g nb ga = absurd g
    go b nam g nb ga = absurd g
    go b scr g nb ga = absurd g

no_body : (x y z : Bool) → x ≡ false → y ≡ false → T (x || (y && z)) → ⊥
no_body true y z e g h = subst T e tt
no_body false true z e g h = subst T g tt
no_body false false z e g h = h

-- A free record and a hole stand nowhere.
pub nowhere : (s : Site) (a : Attr) → a.sort ≡ nothing → T (ok s a) → ⊥
nowhere (at p) a e h = subst T (ap (λ (x : Sort). eqb 0 (sort_rank x)) e) (and_l (is_expression a) _ h)
nowhere start a e h = subst T (ap (λ (x : Sort). eqb 0 (sort_rank x)) e) (and_l (is_expression a) _ h)
nowhere body a e h = no_body (is_sort block a) (is_expression a) _ (ap (λ (x : Sort). eqb 2 (sort_rank x)) e) (ap (λ (x : Sort). eqb 0 (sort_rank x)) e) h
nowhere block_only a e h = subst T (ap (λ (x : Sort). eqb 2 (sort_rank x)) e) h
nowhere stmt a e h = subst T (ap (λ (x : Sort). eqb 1 (sort_rank x) || (eqb 2 (sort_rank x) || eqb 3 (sort_rank x))) e) h
nowhere closed a e h = subst T (ap (λ (x : Sort). eqb 1 (sort_rank x) || (eqb 2 (sort_rank x) || eqb 3 (sort_rank x))) e) (and_l (is_statement a) _ h)
nowhere init a e h = subst T (ap (λ (x : Sort). eqb 0 (sort_rank x)) e) (and_l (is_expression a) _ h)
nowhere var_init a e h = subst T (ap (λ (x : Sort). eqb 3 (sort_rank x)) e) (and_l (is_sort declaration a) _ h)
nowhere var_in a e h = subst T (ap (λ (x : Sort). eqb 3 (sort_rank x)) e) (and_l (is_sort declaration a) _ h)
nowhere prop a e h = subst T (ap (λ (x : Sort). eqb 4 (sort_rank x)) e) h
nowhere plain_name a e h = subst T (ap (λ (x : Sort). eqb 0 (sort_rank x)) e) (and_l (is_expression a) _ h)
nowhere valued_name a e h = subst T (ap (λ (x : Sort). eqb 5 (sort_rank x)) e) h
nowhere key_name a e h = subst T (ap (λ (x : Sort). eqb 0 (sort_rank x)) e) (and_l (is_expression a) _ h)
nowhere root a e h = subst T (ap (λ (x : Sort). eqb 6 (sort_rank x)) e) h

pub claim : Step Claim
claim form.Free s us ks r h k d = absurd (nowhere s _ refl k)
claim (form.Name binding.Plain) s us ks r h k d = whole (form.Name binding.Plain) s tt tt k d (read_name binding.Plain s d)
claim (form.Name binding.Valued) s us ks r h k d = whole (form.Name binding.Valued) s tt tt k d (read_name binding.Valued s d)
claim form.Num s us ks r h k d = whole form.Num s tt tt k d (read_num s d)
claim form.Str s us ks r h k d = whole form.Str s tt tt k d (read_str s d)
claim (form.Word w) s us ks r h k d = whole (form.Word w) s tt tt k d (read_word w s d)
claim form.This s us ks r h k d = whole form.This s tt tt k d (read_this s d)
claim form.Array s us ks r h k d = whole form.Array s tt tt k d (read_array s d)
claim form.Object s us ks r h k d = whole form.Object s tt tt k d (read_object s d)
claim (form.Prop p) s us ks r h k d = whole (form.Prop p) s tt tt k d (read_prop p s d)
claim (form.Fn o) s us ks r h k d = whole (form.Fn o) s tt tt k d (read_fn o s d)
claim form.Arrow s us ks r h k d = whole form.Arrow s tt tt k d (read_arrow s d)
claim (form.Unary o) s us ks r h k d = whole (form.Unary o) s tt tt k d (read_unary o s d)
claim (form.Update o z) s us ks r h k d = whole (form.Update o z) s tt tt k d (read_update o z s d)
claim (form.Bin o) s us ks r h k d = whole (form.Bin o) s tt tt k d (read_binary o s d)
claim (form.Assign o) s us ks r h k d = whole (form.Assign o) s tt tt k d (read_assign o s d)
claim form.Cond s us ks r h k d = whole form.Cond s tt tt k d (read_cond s d)
claim form.Seq s us ks r h k d = whole form.Seq s tt tt k d (read_seq s d)
claim form.Paren s us ks r h k d = whole form.Paren s tt tt k d (read_paren s d)
claim form.Call s us ks r h k d = whole form.Call s tt tt k d (read_call s d)
claim (form.New a) s us ks r h k d = whole (form.New a) s tt tt k d (read_new a s d)
claim (form.Member p) s us ks r h k d = whole (form.Member p) s tt tt k d (read_member p s d)
claim (form.Chain l e) s us ks r h k d = whole (form.Chain l e) s tt tt k d (read_chain l e s d)
claim form.Await s us ks r h k d = whole form.Await s tt tt k d (read_await s d)
claim form.Yield s us ks r h k d = whole form.Yield s tt tt k d (read_yield s d)
claim form.Script s us ks r h k d = script_claim s k d
claim form.ExprStmt s us ks r h k d = whole form.ExprStmt s tt tt k d (read_expr_stmt s d)
claim form.Var s us ks r h k d = whole form.Var s tt tt k d (read_var (in_head s) d)
claim form.Return s us ks r h k d = whole form.Return s tt tt k d (read_return s d)
claim form.If s us ks r h k d = whole form.If s tt tt k d (read_if s d)
claim form.While s us ks r h k d = whole form.While s tt tt k d (read_while s d)
claim (form.For i t u) s us ks r h k d = whole (form.For i t u) s tt tt k d (read_for i t u s d)
claim form.ForIn s us ks r h k d = whole form.ForIn s tt tt k d (read_for_in s d)
claim form.Block s us ks r h k d = whole form.Block s tt tt k d (read_block s d)
claim form.Labeled s us ks r h k d = whole form.Labeled s tt tt k d (read_labeled s d)
claim form.Empty s us ks r h k d = whole form.Empty s tt tt k d (read_empty s d)
claim (form.Hole z) s us ks r h k d = absurd (nowhere s _ refl k)
