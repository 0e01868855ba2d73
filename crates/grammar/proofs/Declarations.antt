-- How a Var is read: Names, some with values, up to its `;` or, in a head, to what follows.
use mathlib.Core.Path.{◌≡◌, refl, sym, subst}
use mathlib.Core.List.{List, ◌∷◌}
use mathlib.Core.Bool.{Bool, true, false, cond, not, ◌&&◌, ◌||◌}
use Prim.Native.Nat.{ℕ}
use native.Mathlib.Omega.{arith}
use lib.Dec.{T, eqb}
use Rattle.token.specs.declared.Token.{Token}
use Rattle.kinds.specs.declared.form.Form.TheVariants as form
use Rattle.kinds.specs.declared.level.Slot.TheVariants as slot
use Rattle.grammar.specs.Codes.{semicolon, comma, equals, word_var}
use Rattle.grammar.specs.Site.{Sort, valued, script, sort_rank, is_sort, plain_name, valued_name}
use Rattle.grammar.specs.Tree.{head, Tree, Forest, node, nil, ◌▸◌}
use Rattle.grammar.specs.Layout.{tok, kid, layout, attr, attrs, any_open, names as names_of}
use Rattle.grammar.specs.Derives.{token, lo_of}
use Rattle.grammar.specs.Parser.{Goal, ex, stm, blk, dec, prp, nam, scr, same, Do, fin, eat, sub, names, behind, starts, next, frame}
use Rattle.grammar.proofs.Sorts.{by_sort}
use Rattle.grammar.proofs.Tests.{and_l, and_r, and_i, or_l, is_false}
use Rattle.grammar.proofs.Laws.{closes, end_closes, comma_closes}
use Rattle.grammar.proofs.Fills.{Fills, fill_stop, fill_tok, fill_kid}
use Rattle.grammar.proofs.Steps.{Claim, Through, To, Parses, Runs, goes, ok_after, stop as stops, run_fin, run_eat, run_sub, run_as, run_else, begin_eat, behind_none}
use Rattle.grammar.proofs.Lists.{nor_l, nor_r, parses_at, name_expression}
use Rattle.grammar.specs.Derives.{Stops}
use Rattle.grammar.specs.Layout.{var_of}

valued_not_script : (s : Sort) → T (eqb 5 (sort_rank s)) → T (not (eqb 6 (sort_rank s)))
valued_not_script s h = by_sort (λ s. eqb 5 (sort_rank s)) (λ s. not (eqb 6 (sort_rank s))) tt s h

name_not_script : (s : Sort) → T (eqb 0 (sort_rank s)) → T (not (eqb 6 (sort_rank s)) && not (eqb 5 (sort_rank s)))
name_not_script s h = by_sort (λ s. eqb 0 (sort_rank s)) (λ s. not (eqb 6 (sort_rank s)) && not (eqb 5 (sort_rank s))) tt s h

cond_then : (x a b : Bool) → T x → T a → T (cond x a b)
cond_then true a b h k = k
cond_then false a b h k = absurd h

cond_else : (x a b : Bool) → T (not x) → T b → T (cond x a b)
cond_else true a b h k = absurd h
cond_else false a b h k = k

or_right : (x y : Bool) → T y → T (x || y)
or_right true y h = tt
or_right false y h = h

not_of : (x : Bool) → x ≡ false → T (not x)
not_of true e = absurd (subst T e tt)
not_of false e = tt

-- The Names as children.
parses_valued : {u : Tree} {ks js : List Token} → Claim valued_name u ks js → T (starts equals js) → Parses true nam u ks js
parses_valued {u} {ks} {js} a e = record { less = a.less (valued_not_script (attr u).sort a.fit); done = λ n hn. (a.to.via true nam (or_l (is_sort valued (attr u)) _ a.fit) tt (cond_then (is_sort valued (attr u)) _ _ a.fit e)).on 1 (u, js) (stops true nam u js refl) n (omega arith) }

parses_plain : {u : Tree} {ks js : List Token} → Claim plain_name u ks js → starts equals js ≡ false → Parses true nam u ks js
parses_plain {u} {ks} {js} a e =
    let z = name_not_script (attr u).sort (name_expression a) in
    record { less = a.less (and_l (not (is_sort script (attr u))) _ z); done = λ n hn. (a.to.via true nam (or_right (is_sort valued (attr u)) _ a.fit) tt (cond_else (is_sort valued (attr u)) _ _ (and_r (not (is_sort script (attr u))) _ z) (not_of _ e))).on 1 (u, js) (stops true nam u js refl) n (omega arith) }

module _ (hd b : Bool) (s : Do) (r : List Token) (hh : ℕ) (k : (ks : List Token) (h0 : ℕ) → Stops hd ks r h0 hh → T (closes b slot.Assignment (frame (next ks)) && (not (starts comma ks) && not (starts equals ks))) × Runs b s nil ks r h0 hh form.Var) where
  -- What stands behind a Name without value, and behind a value.
  behind_next : (us : Forest) {ks : List Token} {h0 : ℕ} → Fills Claim hd (names_of (attrs us) false) us ks r h0 hh → T (closes b slot.Assignment (frame (next ks))) × (starts equals ks ≡ false)
  unfolding attrs
  behind_next nil {ks = ks} (fill_stop e) =
      let z = (k _ _ e).0 in
      (and_l (closes b slot.Assignment (frame (next ks))) _ z, is_false _ (and_r (not (starts comma ks)) _ (and_r (closes b slot.Assignment (frame (next ks))) _ z)))
  behind_next (u ▸ us) (fill_tok d) = (comma_closes b, refl)

  -- Behind a Name (false), or at its value (true).
  abbrev state : Bool → Do
  state true = sub same (ex slot.Assignment) (behind s)
  state false = behind s

  abbrev Rest : Forest → Type 0
  Rest us = (v : Bool) (ks : List Token) (h0 : ℕ) → Fills Claim hd (names_of (attrs us) v) us ks r h0 hh → T (b || not (any_open (names_of (attrs us) v) (attrs us))) → Runs b (state v) us ks r h0 hh form.Var

  item_run : (u : Tree) (us : Forest) (x : Bool) {ks : List Token} {h0 : ℕ} → Rest us → Fills Claim hd (cond x (kid false valued_name (tok equals (names_of (attrs us) true))) (kid false plain_name (names_of (attrs us) false))) (u ▸ us) ks r h0 hh → T (b || not (any_open (cond x (kid false valued_name (tok equals (names_of (attrs us) true))) (kid false plain_name (names_of (attrs us) false))) (attr u ∷ attrs us))) → Runs b (names s) (u ▸ us) ks r h0 hh form.Var
  item_run u us true ih (fill_kid a (fill_tok d)) nb = run_sub refl (parses_valued a tt) (run_eat refl (ih true _ _ d (nor_r b _ _ nb)))
  item_run u us false ih (fill_kid a d) nb = let (c, e) = behind_next us d in run_sub refl (parses_plain a e) (run_else e (ih false _ _ d (nor_r b _ _ nb)))

  rest_run : (us : Forest) → Rest us
  unfolding attrs
  rest_run nil true ks h0 d nb = elim d [ ]
  rest_run (v ▸ us) true ks h0 (fill_kid a d) nb = run_sub refl (parses_at tt a (nor_l b _ _ nb) (behind_next us d).0) (rest_run us false _ _ d (nor_r b _ _ nb))
  rest_run nil false ks h0 (fill_stop e) nb =
      let z = k _ _ e in
      run_as (behind_none s ks (is_false _ (and_l (not (starts comma ks)) _ (and_r (closes b slot.Assignment (frame (next ks))) _ z.0)))) z.1
  rest_run (u ▸ us) false ks h0 (fill_tok d) nb = run_eat refl (item_run u us (is_sort valued (attr u)) (rest_run us) d nb)

  pub var_run : (us : Forest) {ks : List Token} {h0 : ℕ} → Fills Claim hd (var_of (attrs us)) us ks r h0 hh → T (b || not (any_open (var_of (attrs us)) (attrs us))) → Runs b (names s) us ks r h0 hh form.Var
  unfolding attrs
  var_run nil d nb = elim d [ ]
  var_run (u ▸ us) d nb = item_run u us (is_sort valued (attr u)) (rest_run us) d nb

-- A Var ends with a `;`, or in a head with nothing.
semicolon_end : (b : Bool) (r : List Token) (hh : ℕ) (ks : List Token) (h0 : ℕ) → Stops false ks r h0 hh → T (closes b slot.Assignment (frame (next ks)) && (not (starts comma ks) && not (starts equals ks))) × Runs b (eat semicolon (fin form.Var)) nil ks r h0 hh form.Var
semicolon_end b r hh ks h0 (l, e) = subst (λ (ks : List Token). T (closes b slot.Assignment (frame (next ks)) && (not (starts comma ks) && not (starts equals ks))) × Runs b (eat semicolon (fin form.Var)) nil ks r h0 hh form.Var) (sym e) (and_i _ _ (end_closes b slot.Assignment) tt, run_eat refl (run_fin refl))

head_end : (b : Bool) (r : List Token) (hh : ℕ) → T (closes b slot.Assignment (frame (next r)) && (not (starts comma r) && not (starts equals r))) → (ks : List Token) (h0 : ℕ) → Stops true ks r h0 hh → T (closes b slot.Assignment (frame (next ks)) && (not (starts comma ks) && not (starts equals ks))) × Runs b (fin form.Var) nil ks r h0 hh form.Var
head_end b r hh ga ks h0 (e, g) = subst (λ (ks : List Token). T (closes b slot.Assignment (frame (next ks)) && (not (starts comma ks) && not (starts equals ks))) × Runs b (fin form.Var) nil ks r h0 hh form.Var) (sym e) (subst (λ (h : ℕ). T (closes b slot.Assignment (frame (next r)) && (not (starts comma r) && not (starts equals r))) × Runs b (fin form.Var) nil r r h0 h form.Var) g (ga, run_fin refl))

pub read_var : (hd : Bool) {us : Forest} {ks r : List Token} {h : ℕ} → Fills Claim hd (layout form.Var (attrs us)) us ks r 0 h → To hd (node (head form.Var (lo_of ks) h) us) ks r
unfolding attr attrs
read_var true {us} {ks} {r} {h} (fill_tok {ks = js} {l = l} {i = i} d) = record { via = go }
  where
    go : (b : Bool) (q : Goal) → T (goes true q (attr (node (head form.Var l h) us))) → T (b || not (attr (node (head form.Var l h) us)).bare_in) → T (ok_after b q (attr (node (head form.Var l h) us)) r) → Through b q (node (head form.Var l h) us) (token word_var l i ∷ js) r
    go b (ex p) g nb ga = absurd g
    go b stm g nb ga = absurd g
    go b blk g nb ga = absurd g
    go b dec g nb ga = begin_eat refl (var_run true b (fin form.Var) r h (head_end b r h ga) us d nb)
    go b prp g nb ga = absurd g
    go b nam g nb ga = absurd g
    go b scr g nb ga = absurd g
read_var false {us} {ks} {r} {h} (fill_tok {ks = js} {l = l} {i = i} d) = record { via = go }
  where
    go : (b : Bool) (q : Goal) → T (goes false q (attr (node (head form.Var l h) us))) → T (b || not (attr (node (head form.Var l h) us)).bare_in) → T (ok_after b q (attr (node (head form.Var l h) us)) r) → Through b q (node (head form.Var l h) us) (token word_var l i ∷ js) r
    go b (ex p) g nb ga = absurd g
    go b stm g nb ga = begin_eat refl (var_run false b (eat semicolon (fin form.Var)) r h (semicolon_end b r h) us d nb)
    go b blk g nb ga = absurd g
    go b dec g nb ga = absurd g
    go b prp g nb ga = absurd g
    go b nam g nb ga = absurd g
    go b scr g nb ga = absurd g
