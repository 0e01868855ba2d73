-- Lists of children: items between brackets, statements one after the other.
use mathlib.Core.Path.{◌≡◌, refl}
use mathlib.Core.List.{List, [], ◌∷◌}
use mathlib.Core.Bool.{Bool, true, false, cond, not, ◌&&◌, ◌||◌}
use Prim.Native.Nat.{ℕ}
use native.Mathlib.Omega.{arith}
use lib.Dec.{T, eqb}
use Rattle.token.specs.Same.{same_code}
use Rattle.token.specs.declared.Token.{Token}
use Rattle.token.specs.declared.Code.{Code}
use Rattle.kinds.specs.Levels.{fits}
use Rattle.kinds.specs.declared.form.Form.{Form}
use Rattle.kinds.specs.declared.level.Slot.{Slot}
use Rattle.kinds.specs.declared.level.Slot.TheVariants as slot
use Rattle.grammar.specs.Codes.{open_paren, open_bracket, open_brace, close_paren, comma, word_else, word_var}
use Rattle.grammar.specs.Site.{Sort, block, declaration, sort_rank, Attr, is_sort, is_expression, is_statement, Site, at, stmt, closed, plain_name, is_other}
use Rattle.grammar.specs.Tree.{Tree, Forest}
use Rattle.grammar.specs.Layout.{Lay, tok, commas, listed, run, attr, attrs, any_open}
use Rattle.grammar.specs.Parser.{Goal, ex, stm, Mode, free, mode, Do, eat, more, items, stms, starts, opens, first_opens, at_stop, after, next, Frame, f_seq, f_end, frame}
use Rattle.grammar.proofs.Sorts.{by_sort}
use Rattle.grammar.proofs.Tests.{imp, and_l, and_r, and_i, is_false}
use Rattle.grammar.proofs.Laws.{called, closes, closes_ends, end_closes, comma_closes, edge_name}
use Rattle.grammar.proofs.Fills.{Fills, fill_tok, fill_kid}
use Rattle.grammar.proofs.Steps.{Claim, Parses, Runs, token_begin, not_starts, stop, parses, run_eat, run_sub, run_as, items_none, items_some, more_none, stms_none, stms_some}

-- `b`, or neither of x and y.
pub nor_l : (b x y : Bool) → T (b || not (x || y)) → T (b || not x)
nor_l true x y h = tt
nor_l false true y h = h
nor_l false false y h = tt

pub nor_r : (b x y : Bool) → T (b || not (x || y)) → T (b || not y)
nor_r true x y h = tt
nor_r false true y h = absurd h
nor_r false false y h = h

pub cond_t : (x a b : Bool) → T x → T (cond x a b) → T a
cond_t true a b h k = k
cond_t false a b h k = absurd h

pub cond_f : (x a b : Bool) → T (not x) → T (cond x a b) → T b
cond_f true a b h k = absurd h
cond_f false a b h k = k

-- An expression begins with a token that opens one.
pub first_opens_lem : {s : Site} {u : Tree} {ks js : List Token} → Claim s u ks js → T (is_expression (attr u)) → T (first_opens ks)
first_opens_lem {u = u} {ks = ks} a ie = cond_t (is_expression (attr u)) (first_opens ks) _ ie a.firstly

pub first_not : (c : Code) → opens c ≡ false → (ks : List Token) → T (first_opens ks) → starts c ks ≡ false
first_not c e [] h = refl
first_not c e (k ∷ ks) h = not_starts c opens e k h

pub at_expression : {p : Slot} {u : Tree} {ks js : List Token} → Claim (at p) u ks js → T (is_expression (attr u))
at_expression {p} {u} a = and_l (is_expression (attr u)) _ a.fit

pub at_fits : {p : Slot} {u : Tree} {ks js : List Token} → Claim (at p) u ks js → T (fits p (attr u).standing)
at_fits {p} {u} a = and_r (is_expression (attr u)) _ a.fit

pub parses_at : {p : Slot} {u : Tree} {ks js : List Token} {b : Bool} → T (called p) → Claim (at p) u ks js → T (b || not (attr u).bare_in) → T (closes b p (frame (next js))) → Parses b (ex p) u ks js
parses_at {p} {u} {ks} {js} {b} c a nb g = parses a b p (at_expression a) c (at_fits a) nb (closes_ends b p (attr u).standing (frame (next js)) g (at_fits a))

module _ (h b : Bool) (m : Mode) (q : Goal) (i : Bool) (site : Site) (ls : Lay) (s : Do) (f : Form) (r : List Token) (hh : ℕ) (G : Frame → Bool) (rd : (u : Tree) (ks js : List Token) → Claim site u ks js → T (mode m b || not (attr u).bare_in) → T (G (frame (next js))) → Parses (mode m b) q u ks js) (gc : T (G f_seq)) (kg : (us : Forest) (ks : List Token) (h0 : ℕ) → Fills Claim h ls us ks r h0 hh → T (G (frame (next ks))) × (starts comma ks ≡ false)) (kr : (us : Forest) (ks : List Token) (h0 : ℕ) → Fills Claim h ls us ks r h0 hh → T (b || not (any_open ls (attrs us))) → Runs b s us ks r h0 hh f) where
  pub after_item : (cs : List Attr) {us : Forest} {ks : List Token} {h0 : ℕ} → Fills Claim h (commas i site cs ls) us ks r h0 hh → T (G (frame (next ks)))
  after_item [] d = (kg _ _ _ d).0
  after_item (c ∷ cs) (fill_tok d) = gc

  pub more_runs : (cs : List Attr) {us : Forest} {ks : List Token} {h0 : ℕ} → Fills Claim h (commas i site cs ls) us ks r h0 hh → T (mode m b || not (any_open (commas false site cs ls) (attrs us))) → T (b || not (any_open (commas i site cs ls) (attrs us))) → Runs b (more m q s) us ks r h0 hh f
  unfolding attrs
  more_runs [] d nm nb = run_as (more_none m q s _ (kg _ _ _ d).1) (kr _ _ _ d nb)
  more_runs (c ∷ cs) (fill_tok (fill_kid a d)) nm nb = run_eat refl (run_sub refl (rd _ _ _ a (nor_l (mode m b) _ _ nm) (after_item cs d)) (more_runs cs d (nor_r (mode m b) _ _ nm) (nor_r b _ _ nb)))

-- Items up to a closing token.
module _ (h b : Bool) (q : Goal) (site : Site) (c0 : Code) (ls : Lay) (s : Do) (f : Form) (r : List Token) (hh : ℕ) (G : Frame → Bool) (rd : (u : Tree) (ks js : List Token) → Claim site u ks js → T (true || not (attr u).bare_in) → T (G (frame (next js))) → Parses true q u ks js) (gc : T (G f_seq)) (ge : T (G (frame (after c0)))) (nc : same_code c0 comma ≡ false) (ss : same_code c0 c0 ≡ true) (first : (u : Tree) (ks js : List Token) → Claim site u ks js → starts c0 ks ≡ false) (k : (us : Forest) (ks : List Token) (h0 : ℕ) → Fills Claim h ls us ks r h0 hh → T (b || not (any_open ls (attrs us))) → Runs b s us ks r h0 hh f) where
  close_next : (us : Forest) (ks : List Token) (h0 : ℕ) → Fills Claim h (tok c0 ls) us ks r h0 hh → T (G (frame (next ks))) × (starts comma ks ≡ false)
  close_next us ks h0 (fill_tok d) = (ge, nc)

  close : (us : Forest) (ks : List Token) (h0 : ℕ) → Fills Claim h (tok c0 ls) us ks r h0 hh → T (b || not (any_open ls (attrs us))) → Runs b (eat c0 s) us ks r h0 hh f
  close us ks h0 (fill_tok d) nb = run_eat refl (k _ _ _ d nb)

  pub items_run : (cs : List Attr) {us : Forest} {ks : List Token} {h0 : ℕ} → Fills Claim h (listed site cs (tok c0 ls)) us ks r h0 hh → T (b || not (any_open (listed site cs (tok c0 ls)) (attrs us))) → Runs b (items q c0 (eat c0 s)) us ks r h0 hh f
  unfolding attrs
  items_run [] {ks = ks} (fill_tok d) nb = run_as (items_none q c0 (eat c0 s) ks ss) (close _ _ _ (fill_tok d) nb)
  items_run (c ∷ cs) (fill_kid a d) nb =
      run_sub (items_some q c0 (eat c0 s) _ (first _ _ _ a)) (rd _ _ _ a tt (after_item h b free q true site (tok c0 ls) (eat c0 s) f r hh G rd gc close_next close cs d)) (more_runs h b free q true site (tok c0 ls) (eat c0 s) f r hh G rd gc close_next close cs d tt nb)

-- Arguments and elements.
pub list_runs : {h b : Bool} {c0 : Code} {ls : Lay} {s : Do} {f : Form} {r : List Token} {hh : ℕ} → frame (after c0) ≡ f_end → same_code c0 comma ≡ false → same_code c0 c0 ≡ true → opens c0 ≡ false → ((us : Forest) (ks : List Token) (h0 : ℕ) → Fills Claim h ls us ks r h0 hh → T (b || not (any_open ls (attrs us))) → Runs b s us ks r h0 hh f) → (cs : List Attr) {us : Forest} {ks : List Token} {h0 : ℕ} → Fills Claim h (listed (at slot.Assignment) cs (tok c0 ls)) us ks r h0 hh → T (b || not (any_open (listed (at slot.Assignment) cs (tok c0 ls)) (attrs us))) → Runs b (items (ex slot.Assignment) c0 (eat c0 s)) us ks r h0 hh f
list_runs {h} {b} {c0} {ls} {s} {f} {r} {hh} fe nc ss op k cs d nb =
    items_run h b (ex slot.Assignment) (at slot.Assignment) c0 ls s f r hh (closes true slot.Assignment) (λ u ks js a nb g. parses_at tt a nb g) (comma_closes true) (rw fe (end_closes true slot.Assignment)) nc ss (λ u ks js a. first_not c0 op ks (first_opens_lem a (at_expression a))) k cs d nb

-- A Name is a single token.
pub name_expression : {u : Tree} {ks js : List Token} → Claim plain_name u ks js → T (is_expression (attr u))
name_expression {u} a = and_l (is_expression (attr u)) _ a.fit

pub name_fits : {u : Tree} {ks js : List Token} → Claim plain_name u ks js → T (fits slot.Identifier (attr u).standing)
name_fits {u} a = and_r (attr u).single _ (and_r (is_expression (attr u)) _ a.fit)

pub name_alone : {u : Tree} {ks js : List Token} → Claim plain_name u ks js → T (is_other (token_begin ks) && (not (starts open_bracket ks) && not (starts open_paren ks)))
name_alone {u} a = a.alone (and_i (is_expression (attr u)) _ (name_expression a) (and_l (attr u).single _ (and_r (is_expression (attr u)) _ a.fit)))

pub parses_name : {u : Tree} {ks js : List Token} → Claim plain_name u ks js → T (closes true slot.Identifier (frame (next js))) → Parses true (ex slot.Identifier) u ks js
parses_name {u} {ks} {js} a g = parses a true slot.Identifier (name_expression a) tt (name_fits a) tt (closes_ends true slot.Identifier (attr u).standing (frame (next js)) g (name_fits a))

-- Parameters.
pub names_run : {h b : Bool} {ls : Lay} {s : Do} {f : Form} {r : List Token} {hh : ℕ} → ((us : Forest) (ks : List Token) (h0 : ℕ) → Fills Claim h ls us ks r h0 hh → T (b || not (any_open ls (attrs us))) → Runs b s us ks r h0 hh f) → (cs : List Attr) {us : Forest} {ks : List Token} {h0 : ℕ} → Fills Claim h (listed plain_name cs (tok close_paren ls)) us ks r h0 hh → T (b || not (any_open (listed plain_name cs (tok close_paren ls)) (attrs us))) → Runs b (items (ex slot.Identifier) close_paren (eat close_paren s)) us ks r h0 hh f
names_run {h} {b} {ls} {s} {f} {r} {hh} k cs d nb =
    items_run h b (ex slot.Identifier) plain_name close_paren ls s f r hh (closes true slot.Identifier) (λ u ks js a nb g. parses_name a g) (edge_name f_seq tt) (edge_name f_end tt) refl refl (λ u ks js a. first_not close_paren refl ks (first_opens_lem a (name_expression a))) k cs d nb

-- Statements.
pub statement_not_script : (s : Sort) → T (eqb 1 (sort_rank s) || (eqb 2 (sort_rank s) || eqb 3 (sort_rank s))) → T (not (eqb 6 (sort_rank s)))
statement_not_script s h = by_sort (λ s. eqb 1 (sort_rank s) || (eqb 2 (sort_rank s) || eqb 3 (sort_rank s))) (λ s. not (eqb 6 (sort_rank s))) tt s h

pub statement_not_expression : (s : Sort) → T (eqb 1 (sort_rank s) || (eqb 2 (sort_rank s) || eqb 3 (sort_rank s))) → T (not (eqb 0 (sort_rank s)))
statement_not_expression s h = by_sort (λ s. eqb 1 (sort_rank s) || (eqb 2 (sort_rank s) || eqb 3 (sort_rank s))) (λ s. not (eqb 0 (sort_rank s))) tt s h

no_else : (d x : Bool) → x ≡ false → T (not (d && x))
no_else true x e = rw e tt
no_else false x e = tt

closed_else : (d x : Bool) → T (not d) → T (not (d && x))
closed_else true x h = absurd h
closed_else false x h = tt

pub parses_statement : {u : Tree} {ks js : List Token} → Claim stmt u ks js → starts word_else js ≡ false → Parses true stm u ks js
parses_statement {u} {ks} {js} a e = record { less = a.less (statement_not_script (attr u).sort a.fit); done = λ n hn. (a.to.via true stm (and_i (is_statement (attr u)) true a.fit tt) tt (no_else (attr u).dangles _ e)).on 1 (u, js) (stop true stm u js refl) n (omega arith) }

-- The last child of a statement: what stands behind the statement stands behind it.
pub parses_last : {u : Tree} {ks js : List Token} → Claim stmt u ks js → T (not ((attr u).dangles && starts word_else js)) → Parses true stm u ks js
parses_last {u} {ks} {js} a e = record { less = a.less (statement_not_script (attr u).sort a.fit); done = λ n hn. (a.to.via true stm (and_i (is_statement (attr u)) true a.fit tt) tt e).on 1 (u, js) (stop true stm u js refl) n (omega arith) }

pub parses_closed : {u : Tree} {ks js : List Token} → Claim closed u ks js → Parses true stm u ks js
parses_closed {u} {ks} {js} a =
    let st : T (is_statement (attr u)) = and_l (is_statement (attr u)) _ a.fit in
    record { less = a.less (statement_not_script (attr u).sort st); done = λ n hn. (a.to.via true stm (and_i (is_statement (attr u)) true st tt) tt (closed_else (attr u).dangles _ (and_r (is_statement (attr u)) _ a.fit))).on 1 (u, js) (stop true stm u js refl) n (omega arith) }

pub statement_first : {u : Tree} {ks js : List Token} → Claim stmt u ks js → T (not (at_stop ks) && (not (starts word_else ks) && (imp (is_sort block (attr u)) (starts open_brace ks) && imp (is_sort declaration (attr u)) (starts word_var ks))))
statement_first {u} {ks} a = cond_t (is_statement (attr u)) _ _ a.fit (cond_f (is_expression (attr u)) (first_opens ks) _ (statement_not_expression (attr u).sort a.fit) a.firstly)

module _ (h b : Bool) (ls : Lay) (s : Do) (f : Form) (r : List Token) (hh : ℕ) (k : (us : Forest) (ks : List Token) (h0 : ℕ) → Fills Claim h ls us ks r h0 hh → (at_stop ks ≡ true) × (starts word_else ks ≡ false) × Runs b s us ks r h0 hh f) where
  behind_statement : (cs : List Attr) {us : Forest} {ks : List Token} {h0 : ℕ} → Fills Claim h (run cs ls) us ks r h0 hh → starts word_else ks ≡ false
  behind_statement [] d = (k _ _ _ d).1
  behind_statement (c ∷ cs) {ks = ks} (fill_kid a d) = is_false _ (and_l (not (starts word_else ks)) _ (and_r (not (at_stop ks)) _ (statement_first a)))

  pub statements_run : (cs : List Attr) {us : Forest} {ks : List Token} {h0 : ℕ} → Fills Claim h (run cs ls) us ks r h0 hh → Runs b (stms s) us ks r h0 hh f
  statements_run [] d = let (x, y, z) = k _ _ _ d in run_as (stms_none s _ x) z
  statements_run (c ∷ cs) {ks = ks} (fill_kid a d) =
      let e : at_stop ks ≡ false = is_false _ (and_l (not (at_stop ks)) _ (statement_first a)) in
      run_sub (stms_some s ks e) (parses_statement a (behind_statement cs d)) (statements_run cs d)
