-- Whole scripts.
use Rattle.std.proofs.Common.{◌≡◌, ℕ, zero, suc, ◌+◌, ◌*◌, ◌<◌, ◌≤◌, Bool, true, false, cond, T, eqb, ltb, List, [], ◌∷◌, length, sym, refl, ap, ◌∙◌, subst, arith, ltb-false, ltb-true}
use Rattle.std.specs.Prelude.{◌==◌}
use Rattle.std.proofs.lemmas.List.{nil_from_length}
use mathlib.Core.Option.{none, some, none-ne-some}
use Rattle.token.specs.declared.Token.{Token}
use Rattle.kinds.specs.declared.form.Form.{Form}
use Rattle.kinds.specs.declared.form.Form.TheVariants as form
use Rattle.grammar.specs.Tree.{head, head_of, Tree, Forest, node, nil, ◌▸◌, depth, depths}
use Rattle.grammar.specs.Site.{root, ok, sort_rank}
use Rattle.grammar.specs.Layout.{attr, good, Good, sort_of}
use Rattle.grammar.specs.Derives.{lo_of}
use Rattle.grammar.specs.Claim as claim
use Rattle.grammar.specs.Read.{empty, entire, checked, read}
use Rattle.grammar.specs.Parser.{stm, scr, free, sub, stms, fin, at_stop, Ran, ran, Res, exec, begun, parse, loop, perform}
use Rattle.grammar.proofs.Tests.{and_l, is_true}
use Rattle.grammar.proofs.Exact.{cond_some, read_derives, good_derives, derived_good}
use Rattle.grammar.proofs.Written.{bind_inv, some_one, found_written}
use Rattle.reader.specs.Reads.{Reads}
use Rattle.recognizer.specs.Reads.{Shape, Started, Made, NotMade}
use Rattle.reader.specs.Width.{NotScript, refused_of}
use Rattle.recognizer.specs.Width.{Whole, Scripted}
use Rattle.recognizer.specs.declared.found.Found.{Found}
use Rattle.recognizer.specs.declared.found.Parts.{Parts}
use Rattle.reader.specs.declared.unread.Unread.{Unread}
use Rattle.reader.specs.declared.unread.Unread.TheVariants.{NoDerivation, TooDeep}
use Rattle.reader.proofs.Fuel.{raise_p}
use Rattle.reader.proofs.Width.{width, depth_size, depths_sizes}
use Rattle.recognizer.proofs.Trees.{shape_node, holds_nil, row_at}
use Rattle.reader.specs.Rows.{single}
use Rattle.records.specs.declared.build.Children.{Children}

-- The reading of a script is what the grammar's reader finds.
no_rest : (r : List Token) → T (empty r) → r ≡ []
no_rest [] h = refl
no_rest (k ∷ ks) h = absurd h

checked_inv : (ts : List Token) (x : Res) (u : Tree) → checked ts x ≡ some u → x ≡ some (u, [])
checked_inv ts none u h = absurd (none-ne-some u h)
checked_inv ts (some x) u h =
    let (e, q) = cond_some (entire ts x.0 x.1) x.0 u h in
    let r : x.1 ≡ [] = no_rest x.1 (and_l (empty x.1) _ e) in
    rw (sym q, sym r) refl

found : (ts : List Token) (u : Tree) → claim.Reads ts u → parse (8 * length ts + 8) true scr ts ≡ some (u, [])
unfolding read
found ts u d = checked_inv ts (parse (8 * length ts + 8) true scr ts) u ((read_derives ts u).1 d)

scr_inv : (n : ℕ) (ts : List Token) (u : Tree) (r : List Token) → parse n true scr ts ≡ some (u, r) → (m : ℕ) × (y : Ran) × (perform m true (stms (fin form.Script)) 0 ts ≡ some y) × (begun ts y ≡ u) × (y.left ≡ r)
unfolding parse loop
scr_inv zero ts u r h = absurd (none-ne-some (u, r) h)
scr_inv (suc zero) ts u r h = let (y, h1, h2) = bind_inv (perform zero true (stms (fin form.Script)) 0 ts) (λ (y : Ran). loop zero true scr (begun ts y) y.left) (u, r) h in absurd (none-ne-some (u, r) h2)
scr_inv (suc (suc n)) ts u r h =
    let (y, h1, h2) = bind_inv (perform (suc n) true (stms (fin form.Script)) 0 ts) _ (u, r) h in
    let e = some_one (begun ts y, y.left) (u, r) h2 in
    (suc n, y, h1, ap (λ (x : Tree × List Token). x.0) e, ap (λ (x : Tree × List Token). x.1) e)

-- the statements of a script make a script
scripts_by : (n : ℕ) (b : Bool) (g : Form) (h : ℕ) (ks : List Token) (y : Ran) (z : Bool) → ((j : ℕ) (js : List Token) (w : Ran) → perform n b (stms (fin g)) j js ≡ some w → w.form ≡ g) → exec (parse n) (perform n) b (cond z (fin g) (sub free stm (stms (fin g)))) h ks ≡ some y → y.form ≡ g
scripts_by n b g h ks y true ih e = ap (λ (x : Ran). x.form) (sym (some_one (ran g nil h ks) y e))
scripts_by n b g h ks y false ih e =
    let (x, h1, h2) = bind_inv (parse n true stm ks) _ y e in
    let (w, h3, h4) = bind_inv (perform n b (stms (fin g)) (head_of x.0).hi x.1) _ y h2 in
    ap (λ (r : Ran). r.form) (sym (some_one (ran w.form (x.0 ▸ w.kids) w.upto w.left) y h4)) ∙ ih (head_of x.0).hi x.1 w h3

scripts : (n : ℕ) (b : Bool) (g : Form) (h : ℕ) (ks : List Token) (y : Ran) → perform n b (stms (fin g)) h ks ≡ some y → y.form ≡ g
unfolding perform
scripts zero b g h ks y e = absurd (none-ne-some y e)
scripts (suc n) b g h ks y e = scripts_by n b g h ks y (at_stop ks) (λ j js w. scripts n b g j js w) e

depth_begun : (ts : List Token) (y : Ran) → depth (begun ts y) ≡ 1 + depths y.kids
unfolding depth
depth_begun ts y = refl

-- no reading is deeper than its tokens are many, but for the script itself
shallow : (ts : List Token) (u : Tree) → claim.Reads ts u → depth u ≤ 1 + length ts
shallow ts u d =
    let (m, y, h1, h2, h3) = scr_inv (8 * length ts + 8) ts u [] (found ts u d) in
    let w : depth (begun ts y) ≤ 1 + length ts = omega (arith, depth_begun ts y, depths_sizes y.kids, width m true (stms (fin form.Script)) 0 ts y tt h1) in
    subst (λ (t : Tree). depth t ≤ 1 + length ts) h2 w

module _ (ts : List Token) (r0 : Children) (p : Parts) (st : Started ts r0 p) where
  run_at : (m : ℕ) (y : Ran) → perform m true (stms (fin form.Script)) 0 ts ≡ some y → perform m true (stms (fin form.Script)) p.hi p.ahead.now ≡ some y
  run_at m y h = rw (st.hi, st.ahead) h

  pub no_script : NotMade true (stms (fin form.Script)) p 511 NoDerivation → NotScript ts NoDerivation
  no_script nm u d = let (m, y, h1, h2, h3) = scr_inv (8 * length ts + 8) ts u [] (found ts u d) in nm m y (run_at m y h1)

  deep : NotMade true (stms (fin form.Script)) p 511 TooDeep → (u : Tree) → claim.Reads ts u → 512 < depth u
  deep nm u d =
      let (m, y, h1, h2, h3) = scr_inv (8 * length ts + 8) ts u [] (found ts u d) in
      let w : 512 < depth (begun ts y) = omega (arith, depth_begun ts y, nm m y (run_at m y h1)) in
      subst (λ (t : Tree). 512 < depth t) h2 w

  pub deep_long : 500 ≤ length ts → NotMade true (stms (fin form.Script)) p 511 TooDeep → NotScript ts TooDeep
  deep_long le nm = (le, deep nm)

  pub deep_short : length ts < 500 → NotMade true (stms (fin form.Script)) p 511 TooDeep → NotScript ts NoDerivation
  deep_short lt nm u d = absurd (omega (arith, deep nm u d, shallow ts u d))

  refuse_by : NotMade true (stms (fin form.Script)) p 511 TooDeep → (b : Bool) → ltb (length ts) 500 ≡ b → NotScript ts (cond b NoDerivation TooDeep)
  refuse_by nm true e = deep_short (ltb-true (length ts) 500 e) nm
  refuse_by nm false e = deep_long (ltb-false (length ts) 500 e) nm

  pub refuse : (e : Unread) → NotMade true (stms (fin form.Script)) p 511 e → NotScript ts (refused_of (length ts) e)
  refuse NoDerivation nm = no_script nm
  refuse TooDeep nm = refuse_by nm (ltb (length ts) 500) refl

  module _ {K : Type 0} (R : K → K → Children → Forest → Type 0) (e0 x0 : K) (f : Found) (m : Made true (stms (fin form.Script)) p R e0 x0 f) where
    abbrev t0 : Tree
    t0 = node (head f.traits.form (lo_of ts) f.hi) m.run.0

    shaped : Shape t0 f
    shaped = shape_node m.run.0 f (lo_of ts) (sym (m.lo ∙ rw st.lo refl)) (m.run.2 nil (holds_nil ts r0 p st))

    scr_reads : Reads true scr ts t0 f.ahead.now
    unfolding parse loop
    scr_reads = (m.run.1.0 + 2, go)
      where
        go : (n : ℕ) → m.run.1.0 + 2 ≤ n → parse n true scr ts ≡ some (t0, f.ahead.now)
        go zero le = absurd (omega arith)
        go (suc zero) le = absurd (omega arith)
        go (suc (suc n)) le = let e : perform (suc n) true (stms (fin form.Script)) 0 ts ≡ some (ran f.traits.form m.run.0 f.hi f.ahead.now) = rw (st.hi, st.ahead) at (m.run.1.1 (suc n) (omega arith)) in rw e

    only : (u : Tree) → claim.Reads ts u → (u ≡ t0) × ([] ≡ f.ahead.now)
    only u d =
        let k : ℕ = scr_reads.0 in
        let a : parse (k + (8 * length ts + 8)) true scr ts ≡ some (t0, f.ahead.now) = scr_reads.1 (k + (8 * length ts + 8)) (omega arith) in
        let c : parse (k + (8 * length ts + 8)) true scr ts ≡ some (u, []) = raise_p (8 * length ts + 8) (k + (8 * length ts + 8)) true scr ts (u, []) (omega arith) (found ts u d) in
        let e = some_one (u, []) (t0, f.ahead.now) (sym c ∙ a) in
        (ap (λ (x : Tree × List Token). x.0) e, ap (λ (x : Tree × List Token). x.1) e)

    kept : R e0 e0 r0 nil → R x0 e0 (single f.slot) (t0 ▸ nil)
    kept rn = row_at R x0 e0 f (lo_of ts) m.run.0 (sym (m.lo ∙ rw st.lo refl)) (m.rows e0 nil (subst (λ (r : Children). R e0 e0 r nil) (sym st.row) rn))

    pub left_over : false ≡ (length f.ahead.now == 0) → NotScript ts NoDerivation
    left_over off u d =
        let z : false ≡ true = subst (λ (ks : List Token). false ≡ (length ks == 0)) (sym (only u d).1) off in
        let x : ◌≡◌ {A = ℕ} 0 1 = cc in
        omega arith

    pub whole : R e0 e0 r0 nil → true ≡ (length f.ahead.now == 0) → Whole ts R e0 x0 f
    whole rn off =
        let none_left : f.ahead.now ≡ [] = nil_from_length f.ahead.now (grind (arith, off)) in
        record { tree = t0; shape = shaped; found = subst (λ (r : List Token). Reads true scr ts t0 r) none_left scr_reads; only = λ u d. (only u d).0; few = omega (arith, m.few, st.records, ap length st.ahead); row = kept rn; done = none_left }

-- Whether its children fit, and how deep it nests.
begun_script : (ts : List Token) (y : Ran) → y.form ≡ form.Script → T (ok root (attr (begun ts y)))
unfolding attr
begun_script ts y e = subst (λ (g : Form). T (eqb 6 (sort_rank (sort_of g)))) (sym e) tt

module _ {K : Type 0} (ts : List Token) (R : K → K → Children → Forest → Type 0) (e0 x0 : K) (f : Found) (w : Whole ts R e0 x0 f) where
  pub unfit : f.good ≡ false → NotScript ts NoDerivation
  unfit n u d =
      let g : good w.tree ≡ true = is_true (good w.tree) (subst Good (w.only u d) (derived_good ts u d).1) in
      let z : true ≡ false = sym g ∙ w.shape.fit ∙ n in
      let x : ◌≡◌ {A = ℕ} 0 1 = cc in
      omega arith

  pub too_deep : 512 ≤ f.below.depth → NotScript ts TooDeep
  too_deep lt = (omega (arith, w.few, w.shape.records, w.shape.nests, depth_size w.tree), λ u d. subst (λ (t : Tree). 512 < depth t) (sym (w.only u d)) (omega (arith, w.shape.nests)))

  a_script : T (ok root (attr w.tree))
  a_script = let (m, y, h1, h2, h3) = scr_inv w.found.0 ts w.tree [] (w.found.1 w.found.0 (omega arith)) in subst (λ (t : Tree). T (ok root (attr t))) h2 (begun_script ts y (scripts m true form.Script 0 ts y h1))

  -- a good tree that is written with the tokens has a reading, and no other tree can be one
  derived : f.good ≡ true → claim.Reads ts w.tree
  derived fit =
      let v = found_written w.found.0 true scr ts w.tree [] (w.found.1 w.found.0 (omega arith)) in
      let (u, e, d) = good_derives ts w.tree a_script (subst T (sym (w.shape.fit ∙ fit)) tt) (sym v) in
      subst (λ (t : Tree). claim.Reads ts t) (w.only u d) d

  -- the same, answered without the tokens
  pub scripted : (g : Found) → Shape w.tree g → g.below.records ≡ f.below.records → g.slot ≡ f.slot → g.ahead.now ≡ [] → f.good ≡ true → f.below.depth < 512 → Scripted ts R e0 x0 g
  scripted g s n k d fit un = record { tree = w.tree; derived = derived fit; shape = s; nests = omega (arith, w.shape.nests); few = omega (arith, n, w.few); row = rw k w.row; done = d }
