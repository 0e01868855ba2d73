-- More steps change no answer of the grammar's reader, and its loop never makes a tree less deep.
use Rattle.std.proofs.Common.{◌≡◌, ℕ, zero, suc, ◌+◌, ◌-◌, ◌≤◌, Bool, true, false, cond, List, [], ◌∷◌, refl, ap, subst, arith}
use mathlib.Core.Option.{Option, none, some, none-ne-some}
use Rattle.token.specs.Same.{same_code}
use Rattle.token.specs.declared.Token.{Token}
use Rattle.grammar.specs.Tree.{head_of, Tree, depth}
use Rattle.grammar.specs.Layout.{attr}
use Rattle.grammar.specs.Parser.{Goal, mode, Do, fail, fin, eat, sub, peek, more, items, stms, operand, names, behind, prefix, frame_do, frame, next, goes_on, settle, Ran, bind, Res, exec, begun, grown_on, parse, loop, perform}
use Rattle.grammar.proofs.Written.{bind_inv, some_one}

-- o answers no more than o'
abbrev ◌⊑◌ : {B : Type 0} → Option B → Option B → Type 0
◌⊑◌ {B} o o' = (y : B) → o ≡ some y → o' ≡ some y

infix 40 ◌⊑◌
same : {B : Type 0} (o : Option B) → o ⊑ o
same o y h = h

bind_mono : {A B : Type 0} (o o' : Option A) (f f' : A → Option B) → o ⊑ o' → ((a : A) → f a ⊑ f' a) → bind o f ⊑ bind o' f'
bind_mono none o' f f' le lf y h = absurd (none-ne-some y h)
bind_mono (some x) o' f f' le lf y h = rw (le x refl) (lf x y h)

cond_mono : {B : Type 0} (b : Bool) (x x' z z' : Option B) → x ⊑ x' → z ⊑ z' → cond b x z ⊑ cond b x' z'
cond_mono true x x' z z' l k = l
cond_mono false x x' z z' l k = k

module _ (P P' : Bool → Goal → List Token → Res) (R R' : Bool → Do → ℕ → List Token → Option Ran) (lP : (b : Bool) (q : Goal) (ks : List Token) → P b q ks ⊑ P' b q ks) (lR : (b : Bool) (s : Do) (h : ℕ) (ks : List Token) → R b s h ks ⊑ R' b s h ks) where
  exec_mono : (b : Bool) (s : Do) (h : ℕ) (ks : List Token) → exec P R b s h ks ⊑ exec P' R' b s h ks
  exec_mono b fail h ks = same none
  exec_mono b (fin f) h ks = same _
  exec_mono b (eat c s) h [] = same none
  exec_mono b (eat c s) h (k ∷ ks) = cond_mono (same_code k.code c) _ _ _ _ (lR b s k.hi ks) (same none)
  exec_mono b (sub m q s) h ks = bind_mono _ _ _ _ (lP (mode m b) q ks) λ x. bind_mono _ _ _ _ (lR b s (head_of x.0).hi x.1) λ y. same _
  exec_mono b (peek c s t) h ks = same none
  exec_mono b (more m q s) h ks = same none
  exec_mono b (items q c s) h ks = same none
  exec_mono b (stms s) h ks = same none
  exec_mono b (operand s t) h ks = same none
  exec_mono b (names s) h ks = same none
  exec_mono b (behind s) h ks = same none

abbrev OneMore : ℕ → Type 0
OneMore n = ((b : Bool) (q : Goal) (ks : List Token) → parse n b q ks ⊑ parse (suc n) b q ks) × ((b : Bool) (q : Goal) (t : Tree) (ks : List Token) → loop n b q t ks ⊑ loop (suc n) b q t ks) × ((b : Bool) (s : Do) (h : ℕ) (ks : List Token) → perform n b s h ks ⊑ perform (suc n) b s h ks)

one_more : (n : ℕ) → OneMore n
unfolding parse loop perform
one_more zero = (λ b q ks y h. absurd (none-ne-some y h), λ b q t ks y h. absurd (none-ne-some y h), λ b s h ks y e. absurd (none-ne-some y e))
one_more (suc n) =
    let ih : OneMore n = one_more n in (
      λ b q ks. bind_mono (perform n b (prefix q ks) 0 ks) (perform (suc n) b (prefix q ks) 0 ks) (λ y. loop n b q (begun ks y) y.left) (λ y. loop (suc n) b q (begun ks y) y.left) (ih.2 b (prefix q ks) 0 ks) (λ y. ih.1 b q (begun ks y) y.left),
      λ b q t ks. cond_mono (goes_on b q (attr t) (frame (next ks))) _ _ (some (t, ks)) (some (t, ks)) (bind_mono (perform n b (frame_do (next ks) (attr t).standing) (head_of t).hi ks) (perform (suc n) b (frame_do (next ks) (attr t).standing) (head_of t).hi ks) (λ y. loop n b q (grown_on t y) y.left) (λ y. loop (suc n) b q (grown_on t y) y.left) (ih.2 b (frame_do (next ks) (attr t).standing) (head_of t).hi ks) (λ y. ih.1 b q (grown_on t y) y.left)) (same (some (t, ks))),
      λ b s h ks. exec_mono (parse n) (parse (suc n)) (perform n) (perform (suc n)) ih.0 ih.2 b (settle s ks) h ks,
    )

abbrev up : ℕ → ℕ → ℕ
up zero n = n
up (suc d) n = suc (up d n)

up_is : (d n : ℕ) → up d n ≡ d + n
up_is zero n = omega arith
up_is (suc d) n = omega (arith, up_is d n)

reach : (n m : ℕ) → n ≤ m → up (m - n) n ≡ m
reach n m le = omega (arith, up_is (m - n) n)

up_p : (d n : ℕ) (b : Bool) (q : Goal) (ks : List Token) (x : Tree × List Token) → parse n b q ks ≡ some x → parse (up d n) b q ks ≡ some x
up_p zero n b q ks x h = h
up_p (suc d) n b q ks x h = (one_more (up d n)).0 b q ks x (up_p d n b q ks x h)

up_r : (d n : ℕ) (b : Bool) (s : Do) (h : ℕ) (ks : List Token) (y : Ran) → perform n b s h ks ≡ some y → perform (up d n) b s h ks ≡ some y
up_r zero n b s h ks y e = e
up_r (suc d) n b s h ks y e = (one_more (up d n)).2 b s h ks y (up_r d n b s h ks y e)

pub raise_p : (n m : ℕ) (b : Bool) (q : Goal) (ks : List Token) (x : Tree × List Token) → n ≤ m → parse n b q ks ≡ some x → parse m b q ks ≡ some x
raise_p n m b q ks x le h = subst (λ k. parse k b q ks ≡ some x) (reach n m le) (up_p (m - n) n b q ks x h)

pub raise_r : (n m : ℕ) (b : Bool) (s : Do) (h : ℕ) (ks : List Token) (y : Ran) → n ≤ m → perform n b s h ks ≡ some y → perform m b s h ks ≡ some y
raise_r n m b s h ks y le e = subst (λ k. perform k b s h ks ≡ some y) (reach n m le) (up_r (m - n) n b s h ks y e)

grow_by : (n : ℕ) (b : Bool) (q : Goal) (t : Tree) (ks : List Token) (u : Tree) (r : List Token) (g : Bool) → ((v : Tree) (js : List Token) → loop n b q v js ≡ some (u, r) → depth v ≤ depth u) → cond g (bind (perform n b (frame_do (next ks) (attr t).standing) (head_of t).hi ks) (λ y. loop n b q (grown_on t y) y.left)) (some (t, ks)) ≡ some (u, r) → depth t ≤ depth u
unfolding depth
grow_by n b q t ks u r true ih h =
    let (y, h1, h2) = bind_inv (perform n b (frame_do (next ks) (attr t).standing) (head_of t).hi ks) _ _ h in
    omega (arith, ih (grown_on t y) y.left h2)
grow_by n b q t ks u r false ih h = let e : depth t ≡ depth u = ap (λ (x : Tree × List Token). depth x.0) (some_one (t, ks) (u, r) h) in omega (arith, e)

-- the loop keeps what it has
pub grow : (n : ℕ) (b : Bool) (q : Goal) (t : Tree) (ks : List Token) (u : Tree) (r : List Token) → loop n b q t ks ≡ some (u, r) → depth t ≤ depth u
unfolding loop
grow zero b q t ks u r h = absurd (none-ne-some (u, r) h)
grow (suc n) b q t ks u r h = grow_by n b q t ks u r (goes_on b q (attr t) (frame (next ks))) (λ v js e. grow n b q v js u r e) h
