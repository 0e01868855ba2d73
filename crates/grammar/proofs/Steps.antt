-- What the reader does with a derivation: the claim that is proved by induction over derivations, and its steps.
use mathlib.Core.Path.{◌≡◌, refl, sym, ◌∙◌, ap, subst}
use mathlib.Core.List.{List, [], ◌∷◌}
use mathlib.Core.Bool.{Bool, true, false, cond, not, ◌&&◌, ◌||◌}
use mathlib.Core.Option.{some}
use Prim.Native.Nat.{ℕ, zero, suc, ◌+◌, ◌-◌, ◌*◌, ◌≤◌, ◌<◌}
use native.Mathlib.Omega.{arith}
use lib.Dec.{T, leb, eqb}
use lib.ListN.{length}
use Rattle.token.specs.Same.{same_code}
use Rattle.token.proofs.Same.{same_one, same_self}
use Rattle.token.specs.declared.Token.{Token}
use Rattle.token.specs.declared.Code.{Code}
use Rattle.kinds.specs.Levels.{level, fits}
use Rattle.kinds.specs.declared.form.Form.{Form}
use Rattle.kinds.specs.declared.level.Slot.{Slot}
use Rattle.kinds.specs.declared.level.Slot.TheVariants as slot
use Rattle.grammar.specs.Codes.{open_paren, open_bracket, open_brace, close_brace, comma, equals, word_else, word_var}
use Rattle.grammar.specs.Site.{Sort, block, declaration, property, valued, script, sort_rank, Attr, Begin, other, is_other, is_sort, is_expression, is_statement, Site, ok, in_head}
use Rattle.grammar.specs.Tree.{head, head_of, Tree, Forest, node, nil, ◌▸◌}
use Rattle.grammar.specs.Layout.{attr, code_begin}
use Rattle.grammar.specs.Derives.{token, lo_of}
use Rattle.grammar.specs.Parser.{Goal, ex, stm, blk, dec, prp, nam, scr, Mode, mode, free, Do, fin, eat, sub, peek, more, items, stms, operand, behind, starts, skip, first_opens, at_stop, prefix, frame_do, After, after, next, Frame, frame, takes, goes_on, settle, ran, parse, loop, perform}
use Rattle.grammar.proofs.Sorts.{by_sort}
use Rattle.grammar.proofs.Tests.{imp, and_i, is_true}
use Rattle.grammar.proofs.Laws.{called, guard, ends, closes, ends_guard, ends_stop, closure}

-- What the tokens of a tree begin with, by its sort.
abbrev pub firsts : Attr → List Token → Bool
firsts a ks = cond (is_expression a) (first_opens ks) (cond (is_statement a) (not (at_stop ks) && (not (starts word_else ks) && (imp (is_sort block a) (starts open_brace ks) && imp (is_sort declaration a) (starts word_var ks)))) (cond (is_sort property a) (not (starts close_brace ks)) true))

abbrev pub token_begin : List Token → Begin
token_begin [] = other
token_begin (k ∷ ks) = code_begin k.code

-- For which goal a tree is read (h: it stands in a head).
abbrev pub goes : Bool → Goal → Attr → Bool
goes h (ex p) a = is_expression a && (called p && fits p a.standing)
goes h stm a = is_statement a && not h
goes h blk a = is_sort block a
goes h dec a = is_sort declaration a && h
goes h prp a = is_sort property a
goes h nam a = is_sort valued a || (is_expression a && (a.single && fits slot.Identifier a.standing))
goes h scr a = false

abbrev pub is_end : Frame → Bool
is_end g = closes true slot.Expression g

-- What may stand behind a tree that was read for a goal.
abbrev pub ok_after : Bool → Goal → Attr → List Token → Bool
ok_after b (ex p) a r = guard b p a.standing (frame (next r))
ok_after b stm a r = not (a.dangles && starts word_else r)
ok_after b blk a r = true
ok_after b dec a r = closes b slot.Assignment (frame (next r)) && (not (starts comma r) && not (starts equals r))
ok_after b prp a r = closes true slot.Assignment (frame (next r))
ok_after b nam a r = cond (is_sort valued a) (starts equals r) (not (starts equals r))
ok_after b scr a r = true

-- If the reader goes on behind t to some answer, with enough steps, then it comes to that answer from the tokens of t.
pub record Through (b : Bool) (q : Goal) (t : Tree) (ks r : List Token) : Type 0 where
  pub on : (N : ℕ) (x : Tree × List Token) → ((m : ℕ) → N ≤ m → loop m b q t r ≡ some x) → (n : ℕ) → N + 8 * length ks ≤ n + 8 * length r → parse n b q ks ≡ some x

pub record To (h : Bool) (t : Tree) (ks r : List Token) : Type 0 where
  pub via : (b : Bool) (q : Goal) → T (goes h q (attr t)) → T (b || not (attr t).bare_in) → T (ok_after b q (attr t) r) → Through b q t ks r

-- Of level 16, or a Var of one Name without value: no `in` stands in the open in such a tree.
abbrev pub tight : Attr → Bool
tight a = cond (is_expression a) (leb 16 (level a.standing)) (is_sort declaration a && a.single)

pub record Claim (s : Site) (t : Tree) (ks r : List Token) : Type 0 where
  pub fit : T (ok s (attr t))
  pub lo : (head_of t).lo ≡ lo_of ks
  pub le : length r ≤ length ks
  pub less : T (not (is_sort script (attr t))) → length r < length ks
  pub firstly : T (firsts (attr t) ks)
  pub begin : T (is_expression (attr t)) → (attr t).begin ≡ token_begin ks
  pub alone : T (is_expression (attr t) && (attr t).single) → T (is_other (token_begin ks) && (not (starts open_bracket ks) && not (starts open_paren ks)))
  pub shut : T (tight (attr t)) → T (not (attr t).bare_in)
  pub skips : (d : ℕ) → skip d ks ≡ skip d r
  pub to : To (in_head s) t ks r

-- A child is read, and the reader stops behind it; the rest of a record is done.
pub record Parses (b : Bool) (q : Goal) (u : Tree) (ks js : List Token) : Type 0 where
  pub less : length js < length ks
  pub done : (n : ℕ) → 8 * length ks + 1 ≤ n + 8 * length js → parse n b q ks ≡ some (u, js)

pub record Runs (b : Bool) (s : Do) (us : Forest) (ks r : List Token) (h0 h : ℕ) (f : Form) : Type 0 where
  pub le : length r ≤ length ks
  pub done : (n : ℕ) → 8 * length ks + 4 ≤ n + 8 * length r → perform n b s h0 ks ≡ some (ran f us h r)

-- Codes.
pub same_true : (c : Code) → same_code c c ≡ true
same_true c = is_true (same_code c c) (same_self c)

-- Behind a token that does something else, the token c does not stand.
pub not_starts : (c : Code) (Q : Code → Bool) → Q c ≡ false → (k : Token) → T (Q k.code) → same_code k.code c ≡ false
not_starts c Q e k h = go (same_code k.code c) refl
  where
    go : (x : Bool) → same_code k.code c ≡ x → x ≡ false
    go false e2 = refl
    go true e2 = absurd (subst T (ap Q (same_one k.code c (subst T (sym e2) tt)) ∙ e) h)

pub no_start : (c : Code) (Q : After → Bool) → Q (after c) ≡ false → (r : List Token) → T (Q (next r)) → starts c r ≡ false
no_start c Q e [] h = refl
no_start c Q e (k ∷ ks) h = not_starts c (λ d. Q (after d)) e k h

-- The steps of the reader.
pub stop : (b : Bool) (q : Goal) (t : Tree) (r : List Token) → goes_on b q (attr t) (frame (next r)) ≡ false → (m : ℕ) → 1 ≤ m → loop m b q t r ≡ some (t, r)
unfolding loop
stop b q t r e zero h = absurd (omega arith)
stop b q t r e (suc m) h = rw e

pub peek_yes : (c : Code) (s t : Do) (ks : List Token) → starts c ks ≡ true → settle (peek c s t) ks ≡ settle s ks
peek_yes c s t ks e = rw e

pub peek_no : (c : Code) (s t : Do) (ks : List Token) → starts c ks ≡ false → settle (peek c s t) ks ≡ settle t ks
peek_no c s t ks e = rw e

pub items_none : (q : Goal) (c : Code) (s : Do) (ks : List Token) → starts c ks ≡ true → settle (items q c s) ks ≡ settle s ks
items_none q c s ks e = rw e

pub items_some : (q : Goal) (c : Code) (s : Do) (ks : List Token) → starts c ks ≡ false → settle (items q c s) ks ≡ sub free q (more free q s)
items_some q c s ks e = rw e

pub more_none : (m : Mode) (q : Goal) (s : Do) (ks : List Token) → starts comma ks ≡ false → settle (more m q s) ks ≡ settle s ks
more_none m q s ks e = rw e

pub stms_none : (s : Do) (ks : List Token) → at_stop ks ≡ true → settle (stms s) ks ≡ settle s ks
stms_none s ks e = rw e

pub stms_some : (s : Do) (ks : List Token) → at_stop ks ≡ false → settle (stms s) ks ≡ sub free stm (stms s)
stms_some s ks e = rw e

pub operand_some : (s t : Do) (ks : List Token) → first_opens ks ≡ true → settle (operand s t) ks ≡ settle s ks
operand_some s t ks e = rw e

pub operand_none : (s t : Do) (ks : List Token) → first_opens ks ≡ false → settle (operand s t) ks ≡ settle t ks
operand_none s t ks e = rw e

pub behind_none : (s : Do) (ks : List Token) → starts comma ks ≡ false → settle (behind s) ks ≡ settle s ks
behind_none s ks e = rw e

pub run_fin : {b : Bool} {s : Do} {r : List Token} {h : ℕ} {f : Form} → settle s r ≡ fin f → Runs b s nil r r h h f
unfolding perform
run_fin {b} {s} {r} {h} {f} e = record { le = omega arith; done = go }
  where
    go : (n : ℕ) → 8 * length r + 4 ≤ n + 8 * length r → perform n b s h r ≡ some (ran f nil h r)
    go zero l = absurd (omega arith)
    go (suc n) l = rw e

pub run_eat : {b : Bool} {s u : Do} {us : Forest} {c : Code} {l i h0 h : ℕ} {ks r : List Token} {f : Form} → settle s (token c l i ∷ ks) ≡ eat c u → Runs b u us ks r i h f → Runs b s us (token c l i ∷ ks) r h0 h f
unfolding perform
run_eat {b} {s} {u} {us} {c} {l} {i} {h0} {h} {ks} {r} {f} e p = record { le = omega arith; done = go }
  where
    go : (n : ℕ) → 8 * length (token c l i ∷ ks) + 4 ≤ n + 8 * length r → perform n b s h0 (token c l i ∷ ks) ≡ some (ran f us h r)
    go zero k = absurd (omega arith)
    go (suc n) k = rw (e, same_true c) (p.done n (omega arith))

pub run_sub : {b : Bool} {m : Mode} {q : Goal} {s s2 : Do} {u : Tree} {us : Forest} {h0 h : ℕ} {ks js r : List Token} {f : Form} → settle s ks ≡ sub m q s2 → Parses (mode m b) q u ks js → Runs b s2 us js r (head_of u).hi h f → Runs b s (u ▸ us) ks r h0 h f
unfolding perform
run_sub {b} {m} {q} {s} {s2} {u} {us} {h0} {h} {ks} {js} {r} {f} e p k = record { le = omega arith; done = go }
  where
    go : (n : ℕ) → 8 * length ks + 4 ≤ n + 8 * length r → perform n b s h0 ks ≡ some (ran f (u ▸ us) h r)
    go zero z = absurd (omega arith)
    go (suc n) z = rw (e, p.done n (omega arith), k.done n (omega arith))

-- What is done depends on the look ahead alone.
pub run_as : {b : Bool} {s s2 : Do} {us : Forest} {ks r : List Token} {h0 h : ℕ} {f : Form} → settle s2 ks ≡ settle s ks → Runs b s us ks r h0 h f → Runs b s2 us ks r h0 h f
unfolding perform
run_as {b} {s} {s2} {us} {ks} {r} {h0} {h} {f} e p = record { le = p.le; done = go }
  where
    go : (n : ℕ) → 8 * length ks + 4 ≤ n + 8 * length r → perform n b s2 h0 ks ≡ some (ran f us h r)
    go zero z = p.done zero z
    go (suc n) z = rw e (p.done (suc n) z)

-- The look ahead at one token.
pub run_if : {b : Bool} {c : Code} {s t : Do} {us : Forest} {ks r : List Token} {h0 h : ℕ} {f : Form} → starts c ks ≡ true → Runs b s us ks r h0 h f → Runs b (peek c s t) us ks r h0 h f
run_if {c = c} {s = s} {t = t} {ks = ks} e p = run_as (peek_yes c s t ks e) p

pub run_else : {b : Bool} {c : Code} {s t : Do} {us : Forest} {ks r : List Token} {h0 h : ℕ} {f : Form} → starts c ks ≡ false → Runs b t us ks r h0 h f → Runs b (peek c s t) us ks r h0 h f
run_else {c = c} {s = s} {t = t} {ks = ks} e p = run_as (peek_no c s t ks e) p

-- A form that begins with a token.
pub begin_eat : {b : Bool} {q : Goal} {s : Do} {us : Forest} {c : Code} {l i h : ℕ} {ks r : List Token} {f : Form} → settle (prefix q (token c l i ∷ ks)) (token c l i ∷ ks) ≡ eat c s → Runs b s us ks r i h f → Through b q (node (head f l h) us) (token c l i ∷ ks) r
unfolding parse perform
begin_eat {b} {q} {s} {us} {c} {l} {i} {h} {ks} {r} {f} e p = record { on = go }
  where
    go : (N : ℕ) (x : Tree × List Token) → ((m : ℕ) → N ≤ m → loop m b q (node (head f l h) us) r ≡ some x) → (n : ℕ) → N + 8 * length (token c l i ∷ ks) ≤ n + 8 * length r → parse n b q (token c l i ∷ ks) ≡ some x
    go N x k zero z = absurd (omega (arith, p.le))
    go N x k (suc zero) z = absurd (omega (arith, p.le))
    go N x k (suc (suc n)) z = rw (e, same_true c, p.done n (omega arith)) (k (suc n) (omega (arith, p.le)))

-- A form that begins with a child which does not decide it.
pub begin_sub : {b : Bool} {m : Mode} {q g : Goal} {s : Do} {u : Tree} {us : Forest} {h : ℕ} {ks js r : List Token} {f : Form} → settle (prefix q ks) ks ≡ sub m g s → Parses (mode m b) g u ks js → length r < length js → Runs b s us js r (head_of u).hi h f → Through b q (node (head f (lo_of ks) h) (u ▸ us)) ks r
unfolding parse perform
begin_sub {b} {m} {q} {g} {s} {u} {us} {h} {ks} {js} {r} {f} e p lj d = record { on = go }
  where
    go : (N : ℕ) (x : Tree × List Token) → ((m : ℕ) → N ≤ m → loop m b q (node (head f (lo_of ks) h) (u ▸ us)) r ≡ some x) → (n : ℕ) → N + 8 * length ks ≤ n + 8 * length r → parse n b q ks ≡ some x
    go N x k zero z = absurd (omega (arith, p.less))
    go N x k (suc zero) z = absurd (omega (arith, p.less))
    go N x k (suc (suc n)) z = rw (e, p.done n (omega arith), d.done n (omega (arith, p.less))) (k (suc n) (omega (arith, p.less)))

-- A form that begins with an expression, decided by the token behind it.
pub begin_frame : {s0 : Site} {u : Tree} {us : Forest} {c : Code} {l i h : ℕ} {ks js r : List Token} {f : Form} {b : Bool} {p : Slot} {s : Do} → Claim s0 u ks (token c l i ∷ js) → T (is_expression (attr u)) → T (called p) → T (takes b p (attr u).standing (frame (after c))) → T (b || not (attr u).bare_in) → T (ok_after b (ex p) (attr u) (token c l i ∷ js)) → frame_do (after c) (attr u).standing ≡ eat c s → Runs b s us js r i h f → Through b (ex p) (node (head f (lo_of ks) h) (u ▸ us)) ks r
unfolding loop perform
begin_frame {s0} {u} {us} {c} {l} {i} {h} {ks} {js} {r} {f} {b} {p} {s} a ie cp tk nb ga e d = record { on = all }
  where
    on : goes_on b (ex p) (attr u) (frame (after c)) ≡ true
    on = is_true _ (and_i (is_expression (attr u)) _ ie tk)

    go : (N : ℕ) (x : Tree × List Token) → ((m : ℕ) → N ≤ m → loop m b (ex p) (node (head f (head_of u).lo h) (u ▸ us)) r ≡ some x) → (m : ℕ) → N + 8 * length (token c l i ∷ js) - 8 * length r ≤ m → loop m b (ex p) u (token c l i ∷ js) ≡ some x
    go N x k zero hm = absurd (omega (arith, d.le))
    go N x k (suc zero) hm = absurd (omega (arith, d.le))
    go N x k (suc (suc m)) hm = rw (on, e, same_true c, d.done m (omega (arith, d.le))) (k (suc m) (omega (arith, d.le)))

    all : (N : ℕ) (x : Tree × List Token) → ((m : ℕ) → N ≤ m → loop m b (ex p) (node (head f (lo_of ks) h) (u ▸ us)) r ≡ some x) → (n : ℕ) → N + 8 * length ks ≤ n + 8 * length r → parse n b (ex p) ks ≡ some x
    all N x k n z =
        (a.to.via b (ex p) (and_i (is_expression (attr u)) _ ie (and_i (called p) _ cp (closure b p (attr u).standing (frame (after c)) cp tk))) nb ga).on (N + 8 * length (token c l i ∷ js) - 8 * length r) x (go N x (λ m hm. rw a.lo (k m hm))) n (omega (arith, d.le, a.le))

-- An expression is no script.
pub not_script_lem : (s : Sort) → T (eqb 0 (sort_rank s)) → T (not (eqb 6 (sort_rank s)))
not_script_lem s h = by_sort (λ s. eqb 0 (sort_rank s)) (λ s. not (eqb 6 (sort_rank s))) tt s h

-- A child that is an expression.
pub parses : {s : Site} {t : Tree} {ks r : List Token} → Claim s t ks r → (b : Bool) (p : Slot) → T (is_expression (attr t)) → T (called p) → T (fits p (attr t).standing) → T (b || not (attr t).bare_in) → T (ends b p (attr t).standing (frame (next r))) → Parses b (ex p) t ks r
parses {s} {t} {ks} {r} a b p ie c f nb e = record { less = a.less (not_script_lem (attr t).sort ie); done = λ n hn. (a.to.via b (ex p) (and_i (is_expression (attr t)) _ ie (and_i (called p) _ c f)) nb (ends_guard b p (attr t).standing (frame (next r)) e)).on 1 (t, r) (stop b (ex p) t r (off (is_expression (attr t)) (ends_stop b p (attr t).standing (frame (next r)) e))) n (omega arith) }
  where
    off : (x : Bool) {y : Bool} → y ≡ false → (x && y) ≡ false
    off true e = e
    off false e = refl
