-- How each form of statement is read.
use mathlib.Core.Path.{◌≡◌, refl, ◌∙◌, ap, subst}
use mathlib.Core.List.{List, [], ◌∷◌}
use mathlib.Core.Bool.{Bool, true, false, cond, not, ◌&&◌, ◌||◌}
use Prim.Native.Nat.{ℕ}
use native.Mathlib.Omega.{arith}
use lib.Dec.{T, eqb}
use Rattle.token.specs.Same.{same_code}
use Rattle.token.specs.declared.Token.{Token}
use Rattle.token.specs.declared.Code.{Code}
use Rattle.kinds.specs.declared.form.Form.{Form}
use Rattle.kinds.specs.declared.form.Form.TheVariants as form
use Rattle.kinds.specs.declared.level.Slot.TheVariants as slot
use Rattle.grammar.specs.Codes.{open_brace, close_brace, semicolon, comma, colon, equals, word_in, word_var, word_else}
use Rattle.grammar.specs.Site.{Sort, expression, statement, block, declaration, property, valued, script, nothing, sort_rank, Begin, Attr, is_sort, is_expression, is_statement, is_other, Site, at, init, var_init, var_in, in_head}
use Rattle.grammar.specs.Tree.{head, head_of, Tree, Forest, node, nil, ◌▸◌}
use Rattle.grammar.specs.Layout.{end, tok, layout, attr, attrs, code_begin}
use Rattle.grammar.specs.Derives.{token, lo_of}
use Rattle.grammar.specs.Parser.{Goal, ex, stm, blk, dec, prp, nam, scr, free, shut, Do, fin, eat, sub, peek, stms, starts, opens, first_opens, at_stop, prefix, next, f_in, f_end, frame, settle, in_or, for_test}
use Rattle.grammar.proofs.Sorts.{by_sort}
use Rattle.grammar.proofs.Tests.{and_l, and_r, and_i, is_true, is_false, imp, mp}
use Rattle.grammar.proofs.Laws.{closes, closes_ends, end_closes, in_closes, in_closes_item}
use Rattle.grammar.proofs.Fills.{Fills, fill_end, fill_tok, fill_kid}
use Rattle.grammar.proofs.Steps.{tight, Claim, Through, To, Parses, Runs, goes, ok_after, token_begin, not_starts, stop as stops, parses, run_fin, run_eat, run_sub, run_if, run_else, begin_eat, begin_sub}
use Rattle.grammar.proofs.Lists.{cond_t, cond_f, first_opens_lem, first_not, at_expression, parses_at, name_expression, name_alone, parses_statement, parses_last, parses_closed, statements_run}
use Rattle.grammar.proofs.Lists.{statement_not_expression}
use Rattle.grammar.proofs.Shut.{tight_at}
use Rattle.kinds.specs.Levels.{level}
use lib.Dec.{leb}

-- A statement that is neither a Block nor a Var is read as a statement alone.
on_stm : {h : Bool} {t : Tree} {ks r : List Token} → (attr t).sort ≡ statement → ((b : Bool) → T (not ((attr t).dangles && starts word_else r)) → Through b stm t ks r) → To h t ks r
on_stm {h} {t} {ks} {r} e1 F = record { via = go }
  where
    sorted : (P : Sort → Bool) → P statement ≡ false → T (P (attr t).sort) → ⊥
    sorted P e k = subst T (ap P e1 ∙ e) k

    named : (x y z : Bool) → (T x → ⊥) → (T y → ⊥) → T (x || (y && z)) → ⊥
    named true y z n m k = n tt
    named false true z n m k = m tt
    named false false z n m k = k

    go : (b : Bool) (q : Goal) → T (goes h q (attr t)) → T (b || not (attr t).bare_in) → T (ok_after b q (attr t) r) → Through b q t ks r
    go b (ex p) g nb ga = absurd (sorted (λ s. eqb 0 (sort_rank s)) refl (and_l (is_expression (attr t)) _ g))
    go b stm g nb ga = F b ga
    go b blk g nb ga = absurd (sorted (λ s. eqb 2 (sort_rank s)) refl g)
    go b dec g nb ga = absurd (sorted (λ s. eqb 3 (sort_rank s)) refl (and_l (is_sort declaration (attr t)) _ g))
    go b prp g nb ga = absurd (sorted (λ s. eqb 4 (sort_rank s)) refl g)
    go b nam g nb ga = absurd (named (is_sort valued (attr t)) (is_expression (attr t)) _ (sorted (λ s. eqb 5 (sort_rank s)) refl) (sorted (λ s. eqb 0 (sort_rank s)) refl) g)
    go b scr g nb ga = absurd g

plain_prefix : (ks : List Token) → T (first_opens ks) → T (is_other (token_begin ks)) → settle (prefix stm ks) ks ≡ sub free (ex slot.Expression) (peek colon (eat colon (sub free stm (fin form.Labeled))) (eat semicolon (fin form.ExprStmt)))
plain_prefix [] h k = absurd h
plain_prefix (t ∷ ks) h k = let e : (opens t.code && is_other (code_begin t.code)) ≡ true = is_true _ (and_i (opens t.code) _ h k) in rw e

pub read_expr_stmt : (s : Site) {us : Forest} {ks r : List Token} {h : ℕ} → Fills Claim (in_head s) (layout form.ExprStmt (attrs us)) us ks r 0 h → To (in_head s) (node (head form.ExprStmt (lo_of ks) h) us) ks r
unfolding attr attrs
read_expr_stmt s {ks = ks} {r = r} (fill_kid {u = u} a (fill_tok fill_end)) =
    let ie : T (is_expression (attr u)) = and_l (is_expression (attr u)) _ a.fit in
    let ot : T (is_other (token_begin ks)) = subst (λ (z : Begin). T (is_other z)) (a.begin ie) (and_r (is_expression (attr u)) _ a.fit) in
    on_stm refl (λ b ga. begin_sub (plain_prefix ks (first_opens_lem a ie) ot) (parses a true slot.Expression ie tt tt tt (closes_ends true slot.Expression (attr u).standing f_end (end_closes true slot.Expression) tt)) (omega arith) (run_eat refl (run_fin refl)))

pub read_labeled : (s : Site) {us : Forest} {ks r : List Token} {h : ℕ} → Fills Claim (in_head s) (layout form.Labeled (attrs us)) us ks r 0 h → To (in_head s) (node (head form.Labeled (lo_of ks) h) us) ks r
unfolding attr attrs
read_labeled s {ks = ks} (fill_kid {u = u} a (fill_tok (fill_kid x fill_end))) =
    let ie : T (is_expression (attr u)) = name_expression a in
    on_stm refl (λ b ga. begin_sub (plain_prefix ks (first_opens_lem a ie) (and_l (is_other (token_begin ks)) _ (name_alone a))) (parses a true slot.Expression ie tt tt tt (closes_ends true slot.Expression (attr u).standing f_end (end_closes true slot.Expression) tt)) (omega (arith, x.le)) (run_eat refl (run_sub refl (parses_last x ga) (run_fin refl))))

pub read_empty : (s : Site) {us : Forest} {ks r : List Token} {h : ℕ} → Fills Claim (in_head s) (layout form.Empty (attrs us)) us ks r 0 h → To (in_head s) (node (head form.Empty (lo_of ks) h) us) ks r
unfolding attr attrs
read_empty s (fill_tok fill_end) = on_stm refl (λ b ga. begin_eat refl (run_fin refl))

pub read_while : (s : Site) {us : Forest} {ks r : List Token} {h : ℕ} → Fills Claim (in_head s) (layout form.While (attrs us)) us ks r 0 h → To (in_head s) (node (head form.While (lo_of ks) h) us) ks r
unfolding attr attrs
read_while s (fill_tok (fill_tok (fill_kid a (fill_tok (fill_kid x fill_end))))) =
    on_stm refl (λ b ga. begin_eat refl (run_eat refl (run_sub refl (parses_at tt a tt (end_closes true slot.Expression)) (run_eat refl (run_sub refl (parses_last x ga) (run_fin refl))))))

pub read_return : (s : Site) {us : Forest} {ks r : List Token} {h : ℕ} → Fills Claim (in_head s) (layout form.Return (attrs us)) us ks r 0 h → To (in_head s) (node (head form.Return (lo_of ks) h) us) ks r
unfolding attr attrs
read_return s {us = nil} (fill_tok (fill_tok fill_end)) = on_stm refl (λ b ga. begin_eat refl (run_eat refl (run_fin refl)))
read_return s {us = u ▸ us} (fill_tok (fill_kid {ks = ks} a (fill_tok fill_end))) =
    on_stm refl (λ b ga. begin_eat refl (run_else (first_not semicolon refl ks (first_opens_lem a (at_expression a))) (run_sub refl (parses_at tt a tt (end_closes true slot.Expression)) (run_eat refl (run_fin refl)))))

pub read_if : (s : Site) {us : Forest} {ks r : List Token} {h : ℕ} → Fills Claim (in_head s) (layout form.If (attrs us)) us ks r 0 h → To (in_head s) (node (head form.If (lo_of ks) h) us) ks r
unfolding attr attrs
read_if s {us = nil} (fill_tok (fill_tok d)) = elim d [ ]
read_if s {us = e ▸ nil} (fill_tok (fill_tok (fill_kid a (fill_tok d)))) = elim d [ ]
read_if s {us = e ▸ (x ▸ nil)} {r = r} (fill_tok (fill_tok (fill_kid a (fill_tok (fill_kid y fill_end))))) =
    on_stm refl (λ b ga.
    let n : starts word_else r ≡ false = is_false _ ga in
    begin_eat refl (run_eat refl (run_sub refl (parses_at tt a tt (end_closes true slot.Expression)) (run_eat refl (run_sub refl (parses_statement y n) (run_else n (run_fin refl)))))))
read_if s {us = e ▸ (x ▸ (z ▸ us))} (fill_tok (fill_tok (fill_kid a (fill_tok (fill_kid y (fill_tok (fill_kid w fill_end))))))) =
    on_stm refl (λ b ga. begin_eat refl (run_eat refl (run_sub refl (parses_at tt a tt (end_closes true slot.Expression)) (run_eat refl (run_sub refl (parses_closed y) (run_eat refl (run_sub refl (parses_last w ga) (run_fin refl))))))))

-- A Block is a statement, and the body of a function.
block_end : {h b : Bool} {us : Forest} {ks r : List Token} {h0 hh : ℕ} → Fills Claim h (tok close_brace end) us ks r h0 hh → (at_stop ks ≡ true) × (starts word_else ks ≡ false) × Runs b (eat close_brace (fin form.Block)) us ks r h0 hh form.Block
block_end (fill_tok fill_end) = (refl, refl, run_eat refl (run_fin refl))

pub read_block : (s : Site) {us : Forest} {ks r : List Token} {h : ℕ} → Fills Claim (in_head s) (layout form.Block (attrs us)) us ks r 0 h → To (in_head s) (node (head form.Block (lo_of ks) h) us) ks r
unfolding attr attrs
read_block s {us} {ks} {r} {h} (fill_tok {ks = js} {l = l} {i = i} d) = record { via = go }
  where
    all : (b : Bool) → Runs b (stms (eat close_brace (fin form.Block))) us js r i h form.Block
    all b = statements_run (in_head s) b (tok close_brace end) (eat close_brace (fin form.Block)) form.Block r h (λ us ks h0 d. block_end d) (attrs us) d

    go : (b : Bool) (q : Goal) → T (goes (in_head s) q (attr (node (head form.Block l h) us))) → T (b || not (attr (node (head form.Block l h) us)).bare_in) → T (ok_after b q (attr (node (head form.Block l h) us)) r) → Through b q (node (head form.Block l h) us) (token open_brace l i ∷ js) r
    go b (ex p) g nb ga = absurd g
    go b stm g nb ga = begin_eat refl (all b)
    go b blk g nb ga = begin_eat refl (all b)
    go b dec g nb ga = absurd g
    go b prp g nb ga = absurd g
    go b nam g nb ga = absurd g
    go b scr g nb ga = absurd g

-- The heads of For and ForIn.
declaration_statement : (s : Sort) → T (eqb 3 (sort_rank s)) → T (eqb 1 (sort_rank s) || (eqb 2 (sort_rank s) || eqb 3 (sort_rank s)))
declaration_statement s h = by_sort (λ s. eqb 3 (sort_rank s)) (λ s. eqb 1 (sort_rank s) || (eqb 2 (sort_rank s) || eqb 3 (sort_rank s))) tt s h

declaration_not_script : (s : Sort) → T (eqb 3 (sort_rank s)) → T (not (eqb 6 (sort_rank s)))
declaration_not_script s h = by_sort (λ s. eqb 3 (sort_rank s)) (λ s. not (eqb 6 (sort_rank s))) tt s h

-- A Var begins with `var`.
var_first : {s : Site} {u : Tree} {ks js : List Token} → Claim s u ks js → T (is_sort declaration (attr u)) → T (starts word_var ks)
var_first {u = u} {ks = ks} a e =
    let st : T (is_statement (attr u)) = declaration_statement (attr u).sort e in
    mp (is_sort declaration (attr u)) _ (and_r (imp (is_sort block (attr u)) (starts open_brace ks)) _ (and_r (not (starts word_else ks)) _ (and_r (not (at_stop ks)) _ (cond_t (is_statement (attr u)) _ _ st (cond_f (is_expression (attr u)) _ _ (statement_not_expression (attr u).sort st) a.firstly))))) e

var_no_semicolon : (ks : List Token) → T (starts word_var ks) → starts semicolon ks ≡ false
var_no_semicolon [] h = refl
var_no_semicolon (k ∷ ks) h = not_starts semicolon (λ c. same_code c word_var) refl k h

parses_var : {s : Site} {u : Tree} {ks js : List Token} → Claim s u ks js → T (in_head s) → T (is_sort declaration (attr u)) → T (not (attr u).bare_in) → T (closes false slot.Assignment (frame (next js)) && (not (starts comma js) && not (starts equals js))) → Parses false dec u ks js
parses_var {s} {u} {ks} {js} a hd e nb ga = record { less = a.less (declaration_not_script (attr u).sort e); done = λ n hn. (a.to.via false dec (and_i (is_sort declaration (attr u)) _ e hd) nb ga).on 1 (u, js) (stops false dec u js refl) n (omega arith) }

-- The first part of a head, before a `;` or an `in`.
init_run : {b : Bool} {f : Form} {u : Tree} {us : Forest} {l i : ℕ} {ks js r : List Token} {h0 h : ℕ} → Claim (cond (is_sort declaration (attr u)) var_init init) u ks (token semicolon l i ∷ js) → Runs b in_or us (token semicolon l i ∷ js) r (head_of u).hi h f → Runs b (peek semicolon (for_test false) (peek word_var (sub shut dec in_or) (sub shut (ex slot.Expression) in_or))) (u ▸ us) ks r h0 h f
init_run {b} {f} {u} {us} {l} {i} {ks} {js} {r} {h0} {h} a p = go (is_sort declaration (attr u)) a
  where
    go : (x : Bool) → Claim (cond x var_init init) u ks (token semicolon l i ∷ js) → Runs b (peek semicolon (for_test false) (peek word_var (sub shut dec in_or) (sub shut (ex slot.Expression) in_or))) (u ▸ us) ks r h0 h f
    go true a =
        let e : T (is_sort declaration (attr u)) = and_l (is_sort declaration (attr u)) _ a.fit in
        run_else (var_no_semicolon ks (var_first a e)) (run_if (is_true _ (var_first a e)) (run_sub refl (parses_var a tt e (and_r (is_sort declaration (attr u)) _ a.fit) (and_i _ _ (end_closes false slot.Assignment) tt)) p))
    go false a =
        let ie : T (is_expression (attr u)) = and_l (is_expression (attr u)) _ a.fit in
        run_else (first_not semicolon refl ks (first_opens_lem a ie)) (run_else (first_not word_var refl ks (first_opens_lem a ie)) (run_sub refl (parses a false slot.Expression ie tt tt (and_r (is_expression (attr u)) _ a.fit) (closes_ends false slot.Expression (attr u).standing f_end (end_closes false slot.Expression) tt)) p))

tight_var : (a : Attr) → T (is_sort declaration a && a.single) → T (tight a)
tight_var a h = go a.sort (and_l (is_sort declaration a) _ h)
  where
    go : (s : Sort) → T (eqb 3 (sort_rank s)) → T (cond (eqb 0 (sort_rank s)) (leb 16 (level a.standing)) (eqb 3 (sort_rank s) && a.single))
    go expression k = absurd k
    go statement k = absurd k
    go block k = absurd k
    go declaration k = and_r (is_sort declaration a) _ h
    go property k = absurd k
    go valued k = absurd k
    go script k = absurd k
    go nothing k = absurd k

left_run : {b : Bool} {f : Form} {u : Tree} {us : Forest} {l i : ℕ} {ks js r : List Token} {h0 h : ℕ} → Claim (cond (is_sort declaration (attr u)) var_in (at slot.Target)) u ks (token word_in l i ∷ js) → Runs b in_or us (token word_in l i ∷ js) r (head_of u).hi h f → Runs b (peek semicolon (for_test false) (peek word_var (sub shut dec in_or) (sub shut (ex slot.Expression) in_or))) (u ▸ us) ks r h0 h f
left_run {b} {f} {u} {us} {l} {i} {ks} {js} {r} {h0} {h} a p = go (is_sort declaration (attr u)) a
  where
    go : (x : Bool) → Claim (cond x var_in (at slot.Target)) u ks (token word_in l i ∷ js) → Runs b (peek semicolon (for_test false) (peek word_var (sub shut dec in_or) (sub shut (ex slot.Expression) in_or))) (u ▸ us) ks r h0 h f
    go true a =
        let e : T (is_sort declaration (attr u)) = and_l (is_sort declaration (attr u)) _ a.fit in
        run_else (var_no_semicolon ks (var_first a e)) (run_if (is_true _ (var_first a e)) (run_sub refl (parses_var a tt e (a.shut (tight_var (attr u) a.fit)) (and_i _ _ in_closes_item tt)) p))
    go false a =
        let ie : T (is_expression (attr u)) = and_l (is_expression (attr u)) _ a.fit in
        run_else (first_not semicolon refl ks (first_opens_lem a ie)) (run_else (first_not word_var refl ks (first_opens_lem a ie)) (run_sub refl (parses a false slot.Expression ie tt tt (a.shut (tight_at slot.Target tt a)) (closes_ends false slot.Expression (attr u).standing f_in in_closes tt)) p))

pub read_for_in : (s : Site) {us : Forest} {ks r : List Token} {h : ℕ} → Fills Claim (in_head s) (layout form.ForIn (attrs us)) us ks r 0 h → To (in_head s) (node (head form.ForIn (lo_of ks) h) us) ks r
unfolding attr attrs
read_for_in s (fill_tok (fill_tok (fill_kid a (fill_tok (fill_kid c (fill_tok (fill_kid d fill_end))))))) =
    on_stm refl (λ b ga. begin_eat refl (run_eat refl (left_run a (run_eat refl (run_sub refl (parses_at tt c tt (end_closes true slot.Expression)) (run_eat refl (run_sub refl (parses_last d ga) (run_fin refl))))))))

expression_part : {f : Form} {b : Bool} {c : Code} {s t : Do} {u : Tree} {us : Forest} {ks js r : List Token} {h0 h : ℕ} → opens c ≡ false → Claim (at slot.Expression) u ks js → frame (next js) ≡ f_end → Runs b t us js r (head_of u).hi h f → Runs b (peek c s (sub free (ex slot.Expression) t)) (u ▸ us) ks r h0 h f
expression_part {ks = ks} o a e p = run_else (first_not _ o ks (first_opens_lem a (at_expression a))) (run_sub refl (parses_at tt a tt (rw e (end_closes true slot.Expression))) p)

pub read_for : (i t u : Bool) (s : Site) {us : Forest} {ks r : List Token} {h : ℕ} → Fills Claim (in_head s) (layout (form.For i t u) (attrs us)) us ks r 0 h → To (in_head s) (node (head (form.For i t u) (lo_of ks) h) us) ks r
unfolding attr attrs
read_for true true true s (fill_tok (fill_tok (fill_kid a (fill_tok (fill_kid x (fill_tok (fill_kid y (fill_tok (fill_kid z fill_end))))))))) = on_stm refl (λ b ga. begin_eat refl (run_eat refl (init_run a (run_eat refl (expression_part refl x refl (run_eat refl (expression_part refl y refl (run_eat refl (run_sub refl (parses_last z ga) (run_fin refl))))))))))
read_for true true false s (fill_tok (fill_tok (fill_kid a (fill_tok (fill_kid x (fill_tok (fill_tok (fill_kid z fill_end)))))))) = on_stm refl (λ b ga. begin_eat refl (run_eat refl (init_run a (run_eat refl (expression_part refl x refl (run_eat refl (run_eat refl (run_sub refl (parses_last z ga) (run_fin refl)))))))))
read_for true false true s (fill_tok (fill_tok (fill_kid a (fill_tok (fill_tok (fill_kid y (fill_tok (fill_kid z fill_end)))))))) = on_stm refl (λ b ga. begin_eat refl (run_eat refl (init_run a (run_eat refl (run_eat refl (expression_part refl y refl (run_eat refl (run_sub refl (parses_last z ga) (run_fin refl)))))))))
read_for true false false s (fill_tok (fill_tok (fill_kid a (fill_tok (fill_tok (fill_tok (fill_kid z fill_end))))))) = on_stm refl (λ b ga. begin_eat refl (run_eat refl (init_run a (run_eat refl (run_eat refl (run_eat refl (run_sub refl (parses_last z ga) (run_fin refl))))))))
read_for false true true s (fill_tok (fill_tok (fill_tok (fill_kid x (fill_tok (fill_kid y (fill_tok (fill_kid z fill_end)))))))) = on_stm refl (λ b ga. begin_eat refl (run_eat refl (run_eat refl (expression_part refl x refl (run_eat refl (expression_part refl y refl (run_eat refl (run_sub refl (parses_last z ga) (run_fin refl)))))))))
read_for false true false s (fill_tok (fill_tok (fill_tok (fill_kid x (fill_tok (fill_tok (fill_kid z fill_end))))))) = on_stm refl (λ b ga. begin_eat refl (run_eat refl (run_eat refl (expression_part refl x refl (run_eat refl (run_eat refl (run_sub refl (parses_last z ga) (run_fin refl))))))))
read_for false false true s (fill_tok (fill_tok (fill_tok (fill_tok (fill_kid y (fill_tok (fill_kid z fill_end))))))) = on_stm refl (λ b ga. begin_eat refl (run_eat refl (run_eat refl (run_eat refl (expression_part refl y refl (run_eat refl (run_sub refl (parses_last z ga) (run_fin refl))))))))
read_for false false false s (fill_tok (fill_tok (fill_tok (fill_tok (fill_tok (fill_kid z fill_end)))))) = on_stm refl (λ b ga. begin_eat refl (run_eat refl (run_eat refl (run_eat refl (run_eat refl (run_sub refl (parses_last z ga) (run_fin refl)))))))
