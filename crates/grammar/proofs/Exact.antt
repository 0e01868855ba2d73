-- The reader accepts exactly the token lists that have a reading, and gives it; so no token list has two.
use mathlib.Core.Path.{◌≡◌, refl, sym, subst}
use mathlib.Core.List.{List, [], ◌∷◌}
use mathlib.Core.Bool.{Bool, true, false, cond, ◌&&◌}
use mathlib.Core.Option.{none, some, none-ne-some}
use Prim.Native.Nat.{ℕ, zero, suc, ◌+◌, ◌*◌, ◌≤◌}
use native.Mathlib.Omega.{arith}
use lib.Dec.{T}
use lib.ListN.{length}
use Rattle.token.specs.Same.{same_code}
use Rattle.token.proofs.Same.{same_one, same_self}
use Rattle.token.specs.declared.Token.{Token}
use Rattle.token.specs.declared.Code.{Code}
use Rattle.kinds.specs.declared.form.Form.{Form}
use Rattle.kinds.specs.declared.form.Form.TheVariants as form
use Rattle.kinds.specs.declared.form.Binding.TheVariants as binding
use Rattle.grammar.specs.Codes.{word_else}
use Rattle.grammar.specs.Site.{root, ok}
use Rattle.grammar.specs.Tree.{head, Tree, Forest, node}
use Rattle.grammar.specs.Layout.{end, layout, attr_of, attr, attrs, good, Good, wr}
use Rattle.grammar.specs.Derives.{lo_of, Derives, Follows, derive}
use Rattle.grammar.specs.Shape.{codes}
use Rattle.grammar.specs.Parser.{Res, scr, stms, fin, at_stop, starts, parse, loop}
use Rattle.grammar.specs.Read.{same_codes, empty, entire, checked, read}
use Rattle.grammar.specs.Claim.{Unambiguous, ReadDerives, DerivedGood, GoodDerives, PartGood, PartDerives}
use Rattle.grammar.proofs.Tests.{and_l, and_r, and_i, is_true}
use Rattle.grammar.proofs.Fills.{Fills, fill_end, fold_all, derives_good}
use Rattle.grammar.proofs.Shapes.{good_reads}
use Rattle.grammar.proofs.Steps.{Claim, Runs, run_fin}
use Rattle.grammar.proofs.Lists.{statements_run}
use Rattle.grammar.proofs.Every.{claim}

script_end : {us : Forest} {ks : List Token} {h0 hh : ℕ} → Fills Claim false end us ks [] h0 hh → (at_stop ks ≡ true) × (starts word_else ks ≡ false) × Runs true (fin form.Script) us ks [] h0 hh form.Script
script_end fill_end = (refl, refl, run_fin refl)

script_runs : {us : Forest} {ts : List Token} {h : ℕ} → Follows false (layout form.Script (attrs us)) us ts [] 0 h → Runs true (stms (fin form.Script)) us ts [] 0 h form.Script
script_runs {us} {ts} {h} d = statements_run false true end (fin form.Script) form.Script [] h (λ us ks h0 d. script_end d) (attrs us) (fold_all Claim claim d)

script_found : {us : Forest} {ts : List Token} {h : ℕ} → Follows false (layout form.Script (attrs us)) us ts [] 0 h → (n : ℕ) → 8 * length ts + 6 ≤ n → parse n true scr ts ≡ some (node (head form.Script (lo_of ts) h) us, [])
unfolding parse loop
script_found d zero l = absurd (omega arith)
script_found d (suc zero) l = absurd (omega arith)
script_found {us} {ts} {h} d (suc (suc n)) l = rw ((script_runs d).done (suc n) (omega arith))

found_by : (f : Form) {us : Forest} {ts : List Token} {h : ℕ} → T (ok root (attr_of f (attrs us))) → Follows false (layout f (attrs us)) us ts [] 0 h → (n : ℕ) → 8 * length ts + 6 ≤ n → parse n true scr ts ≡ some (node (head f (lo_of ts) h) us, [])
found_by form.Free k d n m = absurd k
found_by (form.Name binding.Plain) k d n l = absurd k
found_by (form.Name binding.Valued) k d n l = absurd k
found_by form.Num k d n m = absurd k
found_by form.Str k d n m = absurd k
found_by (form.Word w) k d n m = absurd k
found_by form.This k d n m = absurd k
found_by form.Array k d n m = absurd k
found_by form.Object k d n m = absurd k
found_by (form.Prop p) k d n m = absurd k
found_by (form.Fn o) k d n m = absurd k
found_by form.Arrow k d n m = absurd k
found_by (form.Unary o) k d n m = absurd k
found_by (form.Update o z) k d n m = absurd k
found_by (form.Bin o) k d n m = absurd k
found_by (form.Assign o) k d n m = absurd k
found_by form.Cond k d n m = absurd k
found_by form.Seq k d n m = absurd k
found_by form.Paren k d n m = absurd k
found_by form.Call k d n m = absurd k
found_by (form.New a) k d n m = absurd k
found_by (form.Member p) k d n m = absurd k
found_by (form.Chain l e) k d n m = absurd k
found_by form.Await k d n m = absurd k
found_by form.Yield k d n m = absurd k
found_by form.Script k d n l = script_found d n l
found_by form.ExprStmt k d n m = absurd k
found_by form.Var k d n m = absurd k
found_by form.Return k d n m = absurd k
found_by form.If k d n m = absurd k
found_by form.While k d n m = absurd k
found_by (form.For i t u) k d n m = absurd k
found_by form.ForIn k d n m = absurd k
found_by form.Block k d n m = absurd k
found_by form.Labeled k d n m = absurd k
found_by form.Empty k d n m = absurd k
found_by (form.Hole z) k d n m = absurd k

found : {t : Tree} {ts : List Token} → Derives root t ts [] → (n : ℕ) → 8 * length ts + 6 ≤ n → parse n true scr ts ≡ some (t, [])
found (derive {f = f} k d) n l = found_by f k d n l

-- The test of the reader.
codes_refl : (cs : List Code) → T (same_codes cs cs)
codes_refl [] = tt
codes_refl (c ∷ cs) = and_i (same_code c c) _ (same_self c) (codes_refl cs)

codes_path : (cs ds : List Code) → T (same_codes cs ds) → cs ≡ ds
codes_path [] [] h = refl
codes_path [] (d ∷ ds) h = absurd h
codes_path (c ∷ cs) [] h = absurd h
codes_path (c ∷ cs) (d ∷ ds) h = let a : c ≡ d = same_one c d (and_l (same_code c d) _ h) in let b : cs ≡ ds = codes_path cs ds (and_r (same_code c d) _ h) in cc

codes_none : (r : List Token) → codes r ≡ [] → r ≡ []
codes_none [] e = refl
codes_none (k ∷ ks) e = absurd (subst (λ (x : List Code). T (some? x)) e tt)
  where
    some? : List Code → Bool
    some? [] = false
    some? (c ∷ cs) = true

reads_found : (ts : List Token) (t : Tree) → Derives root t ts [] → read ts ≡ some t
unfolding read
reads_found ts t d =
    let (o, g, w) = derives_good d in
    let e : entire ts t [] ≡ true = is_true _ (and_i (ok root (attr t)) _ o (and_i (good t) _ g (subst (λ (x : List Code). T (same_codes (codes ts) x)) w (codes_refl (codes ts))))) in
    rw (found d (8 * length ts + 8) (omega arith), e)

pub cond_some : {A : Type 0} (b : Bool) (x y : A) → cond b (some x) none ≡ some y → T b × (x ≡ y)
cond_some true x y h = (tt, (cc))
cond_some false x y h = absurd (none-ne-some y h)

-- What the reader accepts is a good script that is written so.
accepted : (ts : List Token) (x : Res) (t : Tree) → checked ts x ≡ some t → T (ok root (attr t)) × Good t × (wr false t [] ≡ codes ts)
accepted ts none t h = absurd (none-ne-some t h)
accepted ts (some x) t h =
    let (e, q) = cond_some (entire ts x.0 x.1) x.0 t h in
    let e2 : T (ok root (attr x.0) && (good x.0 && same_codes (codes ts) (wr false x.0 []))) = and_r (empty x.1) _ e in
    let e3 : T (good x.0 && same_codes (codes ts) (wr false x.0 [])) = and_r (ok root (attr x.0)) _ e2 in
    subst (λ (t : Tree). T (ok root (attr t)) × Good t × (wr false t [] ≡ codes ts)) q (and_l (ok root (attr x.0)) _ e2, and_l (good x.0) _ e3, sym (codes_path (codes ts) (wr false x.0 []) (and_r (good x.0) _ e3)))

pub part_good : PartGood
part_good s t ks r d = derives_good d

pub part_derives : PartDerives
part_derives s t o g ks k e = good_reads t g s o ks k e

pub derived_good : DerivedGood
derived_good ts t d = let (o, g, w) = derives_good d in (o, g, sym w)

pub good_derives : GoodDerives
good_derives ts t o g w = let (u, r, s, c, d) = good_reads t g root o ts [] (sym w) in (u, s, subst (λ (r : List Token). Derives root u ts r) (codes_none r c) d)

reads_of : (ts : List Token) (t : Tree) → read ts ≡ some t → Derives root t ts []
unfolding read
reads_of ts t h =
    let (o, g, w) = accepted ts (parse (8 * length ts + 8) true scr ts) t h in
    let (u, s, d) = good_derives ts t o g w in
    let k : read ts ≡ some u = reads_found ts u d in
    let q : u ≡ t = cc in
    subst (λ (t : Tree). Derives root t ts []) q d

pub read_derives : ReadDerives
read_derives ts t = (reads_of ts t, reads_found ts t)

pub unambiguous : Unambiguous
unambiguous ts t u a b =
    let x : read ts ≡ some t = reads_found ts t a in
    let y : read ts ≡ some u = reads_found ts u b in
    cc
