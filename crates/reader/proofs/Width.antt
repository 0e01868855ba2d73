-- A tree that is found has no more records than tokens (a script one more), and nests no deeper.
use Rattle.std.proofs.Common.{◌≡◌, ℕ, zero, suc, ◌+◌, ◌≤◌, Bool, true, false, cond, T, List, [], ◌∷◌, length, ap, subst, arith}
use mathlib.Core.Option.{none, some, none-ne-some}
use Rattle.token.specs.Same.{same_code}
use Rattle.token.specs.declared.Token.{Token}
use Rattle.grammar.proofs.Tests.{and_l, and_r}
use Rattle.grammar.specs.Tree.{head_of, Tree, Forest, node, nil, ◌▸◌, size, sizes, depth, depths}
use Rattle.grammar.specs.Layout.{attr}
use Rattle.grammar.specs.Parser.{Goal, mode, Do, fail, fin, eat, sub, peek, more, items, stms, operand, names, behind, prefix, frame_do, frame, next, goes_on, settle, Ran, ran, bind, exec, begun, grown_on, parse, loop, perform}
use Rattle.reader.specs.Reads.{own}
use Rattle.reader.specs.Width.{plain, not_script}
use Rattle.grammar.proofs.Written.{bind_inv, some_one}
use Rattle.reader.proofs.Eats.{own_settle, own_true, frame_eats}
use Rattle.reader.proofs.Plain.{settled, prefix_plain, frame_plain, goal_eats}

abbrev WP : ℕ → Type 0
WP n = (b : Bool) (q : Goal) (ks : List Token) (t : Tree) (r : List Token) → T (not_script q) → parse n b q ks ≡ some (t, r) → size t + length r ≤ length ks

abbrev WL : ℕ → Type 0
WL n = (b : Bool) (q : Goal) (t : Tree) (ks : List Token) (u : Tree) (r : List Token) → loop n b q t ks ≡ some (u, r) → size u + length r ≤ size t + length ks

abbrev WR : ℕ → Type 0
WR n = (b : Bool) (s : Do) (h : ℕ) (ks : List Token) (y : Ran) → T (plain s) → perform n b s h ks ≡ some y → sizes y.kids + own s + length y.left ≤ length ks

eaten_by : (n : ℕ) → WR n → (b : Bool) (s : Do) (ks : List Token) (k : Token) (y : Ran) (g : Bool) → T (plain s) → cond g (perform n b s k.hi ks) none ≡ some y → sizes y.kids + 1 + length y.left ≤ length (k ∷ ks)
eaten_by n ih b s ks k y true p e = omega (arith, ih b s k.hi ks y p e)
eaten_by n ih b s ks k y false p e = absurd (none-ne-some y e)

exec_width : (n : ℕ) → WP n → WR n → (b : Bool) (s : Do) (h : ℕ) (ks : List Token) (y : Ran) → T (plain s) → exec (parse n) (perform n) b s h ks ≡ some y → sizes y.kids + own s + length y.left ≤ length ks
unfolding sizes
exec_width n wp wr b fail h ks y p e = absurd (none-ne-some y e)
exec_width n wp wr b (fin f) h ks y p e = let i : ran f nil h ks ≡ y = some_one _ _ e in subst (λ (z : Ran). sizes z.kids + 0 + length z.left ≤ length ks) i (omega arith)
exec_width n wp wr b (eat c s) h [] y p e = absurd (none-ne-some y e)
exec_width n wp wr b (eat c s) h (k ∷ ks) y p e = eaten_by n wr b s ks k y (same_code k.code c) p e
exec_width n wp wr b (sub m q s) h ks y p e =
    let (x, h1, h2) = bind_inv (parse n (mode m b) q ks) _ y e in
    let (z, h3, h4) = bind_inv (perform n b s (head_of x.0).hi x.1) _ y h2 in
    let i : ran z.form (x.0 ▸ z.kids) z.upto z.left ≡ y = some_one _ _ h4 in
    let a : size x.0 + length x.1 ≤ length ks = wp (mode m b) q ks x.0 x.1 (and_l (not_script q) _ p) h1 in
    let d : sizes z.kids + own s + length z.left ≤ length x.1 = wr b s (head_of x.0).hi x.1 z (and_r (not_script q) _ p) h3 in
    subst (λ (w : Ran). sizes w.kids + own s + length w.left ≤ length ks) i (omega (arith, a, d))
exec_width n wp wr b (peek c s t) h ks y p e = absurd (none-ne-some y e)
exec_width n wp wr b (more m q s) h ks y p e = absurd (none-ne-some y e)
exec_width n wp wr b (items q c s) h ks y p e = absurd (none-ne-some y e)
exec_width n wp wr b (stms s) h ks y p e = absurd (none-ne-some y e)
exec_width n wp wr b (operand s t) h ks y p e = absurd (none-ne-some y e)
exec_width n wp wr b (names s) h ks y p e = absurd (none-ne-some y e)
exec_width n wp wr b (behind s) h ks y p e = absurd (none-ne-some y e)

loop_by : (n : ℕ) → WL n → WR n → (b : Bool) (q : Goal) (t : Tree) (ks : List Token) (u : Tree) (r : List Token) (g : Bool) → cond g (bind (perform n b (frame_do (next ks) (attr t).standing) (head_of t).hi ks) (λ y. loop n b q (grown_on t y) y.left)) (some (t, ks)) ≡ some (u, r) → size u + length r ≤ size t + length ks
unfolding size
loop_by n wl wr b q t ks u r true h =
    let (y, h1, h2) = bind_inv (perform n b (frame_do (next ks) (attr t).standing) (head_of t).hi ks) _ (u, r) h in
    omega (arith, wl b q (grown_on t y) y.left u r h2, wr b (frame_do (next ks) (attr t).standing) (head_of t).hi ks y (frame_plain (next ks) (attr t).standing) h1, own_true (frame_do (next ks) (attr t).standing) (frame_eats (next ks) (attr t).standing))
loop_by n wl wr b q t ks u r false h = let e = some_one (t, ks) (u, r) h in let a : size t ≡ size u = ap (λ (x : Tree × List Token). size x.0) e in let d : length ks ≡ length r = ap (λ (x : Tree × List Token). length x.1) e in omega (arith, a, d)

widths : (n : ℕ) → WP n × WL n × WR n
unfolding parse loop perform size
widths zero = (λ b q ks t r p h. absurd (none-ne-some (t, r) h), λ b q t ks u r h. absurd (none-ne-some (u, r) h), λ b s h ks y p e. absurd (none-ne-some y e))
widths (suc n) =
    let ih : WP n × WL n × WR n = widths n in (
      λ b q ks t r p h.
          let (y, h1, h2) = bind_inv (perform n b (prefix q ks) 0 ks) _ (t, r) h in
          omega (arith, ih.1 b q (begun ks y) y.left t r h2, ih.2 b (prefix q ks) 0 ks y (prefix_plain q ks) h1, own_true (prefix q ks) (goal_eats q ks p)),
      λ b q t ks u r h. loop_by n ih.1 ih.2 b q t ks u r (goes_on b q (attr t) (frame (next ks))) h,
      λ b s h ks y p e. let x = exec_width n ih.0 ih.2 b (settle s ks) h ks y (settled s ks p) e in omega (arith, x, own_settle s ks),
    )

pub width : (n : ℕ) → WR n
width n = (widths n).2

mutual
  unfolding depth size depths sizes

  pub depth_size : (t : Tree) → depth t ≤ size t
  depth_size (node h us) = omega (arith, depths_sizes us)

  pub depths_sizes : (us : Forest) → depths us ≤ sizes us
  depths_sizes nil = omega arith
  depths_sizes (u ▸ us) = omega (arith, depth_size u, depths_sizes us)
