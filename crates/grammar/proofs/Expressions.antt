-- How each form of expression is read: its tokens and children one by one, and what may stand behind it.
use mathlib.Core.Path.{◌≡◌, refl, sym, ◌∙◌, ap, subst}
use mathlib.Core.List.{List, [], ◌∷◌}
use mathlib.Core.Bool.{Bool, true, false, cond, not, ◌&&◌, ◌||◌}
use Prim.Native.Nat.{ℕ}
use native.Mathlib.Omega.{arith}
use lib.Dec.{T, eqb}
use Rattle.token.specs.Same.{same_code}
use Rattle.token.specs.declared.Token.{Token}
use Rattle.token.specs.declared.operator.AssignOperator.{AssignOperator}
use Rattle.kinds.specs.declared.operator.UnaryOperator.{UnaryOperator}
use Rattle.kinds.specs.declared.operator.UnaryOperator.TheVariants as unary_op
use Rattle.kinds.specs.declared.operator.UpdateOperator.{UpdateOperator}
use Rattle.kinds.specs.declared.operator.UpdateOperator.TheVariants as update_op
use Rattle.kinds.specs.declared.operator.BinaryOperator.{BinaryOperator}
use Rattle.kinds.specs.declared.operator.BinaryOperator.TheVariants as binary
use Rattle.kinds.specs.declared.form.Form.{Form}
use Rattle.kinds.specs.declared.form.Form.TheVariants as form
use Rattle.kinds.specs.declared.form.Key.{Key}
use Rattle.kinds.specs.declared.form.Key.TheVariants as key
use Rattle.kinds.specs.declared.form.Own.{Own}
use Rattle.kinds.specs.declared.form.Own.TheVariants as own
use Rattle.kinds.specs.declared.operator.Side.{Side}
use Rattle.kinds.specs.declared.operator.Side.TheVariants as side
use Rattle.kinds.specs.declared.level.Slot.{Slot}
use Rattle.kinds.specs.declared.level.Slot.TheVariants as slot
use Rattle.kinds.specs.Levels.{Standing, binary_standing, fits}
use Rattle.grammar.specs.Codes.{open_paren, close_paren, open_bracket, open_brace, close_brace, comma, colon, arrow, word_function, word_else, unary_code, binary_code}
use Rattle.grammar.specs.Site.{Sort, expression, block, declaration, property, valued, sort_rank, Begin, brace, function, other, Attr, is_sort, is_expression, is_statement, is_other, is_brace, Site, at, body, block_only, prop, plain_name, in_head}
use Rattle.grammar.specs.Tree.{head, head_of, Tree, Forest, node, nil, ◌▸◌}
use Rattle.grammar.specs.Layout.{Lay, end, tok, kid, commas, listed, layout, in_operator, attr, attrs, any_open, but_last}
use Rattle.kinds.specs.Levels.{left_slot, right_slot}
use Rattle.grammar.specs.Derives.{token, lo_of}
use Rattle.grammar.specs.Parser.{Goal, ex, stm, blk, dec, prp, nam, scr, same, free, fin, eat, sub, peek, starts, skip, at_stop, prefix, frame_do, After, operates, after, next, f_seq, f_asg, f_cnd, f_post, f_call, f_end, frame, binary_frame, takes, settle, arrow_do, paren_do}
use Rattle.grammar.proofs.Sorts.{by_sort}
use Rattle.grammar.proofs.Tests.{and_l, and_r, and_i, is_true, is_false, imp, mp}
use Rattle.grammar.proofs.Laws.{called, guard, closes, closes_ends, guard_real, guard_first, is_never, is_comma, edge_unary, edge_assignment, edge_conditional, edge_update, edge_binary, edge_sequence, edge_name, end_closes, comma_closes, target_call}
use Rattle.grammar.proofs.Fills.{Fills, fill_end, fill_tok, fill_kid}
use Rattle.grammar.proofs.Steps.{Claim, Through, To, Parses, Runs, goes, ok_after, token_begin, no_start, stop as stops, parses, run_fin, run_eat, run_sub, run_if, run_else, begin_eat, begin_sub, begin_frame}
use Rattle.grammar.proofs.Lists.{nor_l, nor_r, cond_t, cond_f, at_expression, at_fits, parses_at, after_item, more_runs, items_run, list_runs, names_run, name_alone, parses_name}

-- An expression is read for a slot alone.
pub on_ex : {h : Bool} {t : Tree} {ks r : List Token} → (attr t).sort ≡ expression → (attr t).single ≡ false → ((b : Bool) (p : Slot) → T (called p) → T (fits p (attr t).standing) → T (b || not (attr t).bare_in) → T (guard b p (attr t).standing (frame (next r))) → Through b (ex p) t ks r) → To h t ks r
on_ex {h} {t} {ks} {r} e1 e2 F = record { via = go }
  where
    sorted : (P : Sort → Bool) → P expression ≡ false → T (P (attr t).sort) → ⊥
    sorted P e k = subst T (ap P e1 ∙ e) k

    go : (b : Bool) (q : Goal) → T (goes h q (attr t)) → T (b || not (attr t).bare_in) → T (ok_after b q (attr t) r) → Through b q t ks r
    go b (ex p) g nb ga = let g2 : T (called p && fits p (attr t).standing) = and_r (is_expression (attr t)) _ g in F b p (and_l (called p) _ g2) (and_r (called p) _ g2) nb ga
    go b stm g nb ga = absurd (sorted (λ s. eqb 1 (sort_rank s) || (eqb 2 (sort_rank s) || eqb 3 (sort_rank s))) refl (and_l (is_statement (attr t)) _ g))
    go b blk g nb ga = absurd (sorted (λ s. eqb 2 (sort_rank s)) refl g)
    go b dec g nb ga = absurd (sorted (λ s. eqb 3 (sort_rank s)) refl (and_l (is_sort declaration (attr t)) _ g))
    go b prp g nb ga = absurd (sorted (λ s. eqb 4 (sort_rank s)) refl g)
    go b nam g nb ga = absurd (named (is_sort valued (attr t)) (is_expression (attr t)) (attr t).single _ (sorted (λ s. eqb 5 (sort_rank s)) refl) e2 g)
      where
        named : (x y z w : Bool) → (T x → ⊥) → z ≡ false → T (x || (y && (z && w))) → ⊥
        named true y z w n e k = n tt
        named false true z w n e k = subst T (ap (λ (z : Bool). z && w) e) k
        named false false z w n e k = k
    go b scr g nb ga = absurd g

pub end_run : {h b : Bool} {f : Form} {us : Forest} {ks r : List Token} {h0 hh : ℕ} → Fills Claim h end us ks r h0 hh → Runs b (fin f) us ks r h0 hh f
end_run fill_end = run_fin refl

-- Blocks and properties as children.
pub parses_block : {u : Tree} {s : Site} {ks js : List Token} → Claim s u ks js → T (is_sort block (attr u)) → Parses true blk u ks js
parses_block {u} {s} {ks} {js} a e = record { less = a.less (block_not_script (attr u).sort e); done = λ n hn. (a.to.via true blk e tt tt).on 1 (u, js) (stops true blk u js refl) n (omega arith) }
  where
    block_not_script : (s : Sort) → T (eqb 2 (sort_rank s)) → T (not (eqb 6 (sort_rank s)))
    block_not_script s h = by_sort (λ s. eqb 2 (sort_rank s)) (λ s. not (eqb 6 (sort_rank s))) tt s h

prop_not_script : (s : Sort) → T (eqb 4 (sort_rank s)) → T (not (eqb 6 (sort_rank s)))
prop_not_script s h = by_sort (λ s. eqb 4 (sort_rank s)) (λ s. not (eqb 6 (sort_rank s))) tt s h

prop_not_others : (s : Sort) → T (eqb 4 (sort_rank s)) → T (not (eqb 0 (sort_rank s)) && not (eqb 1 (sort_rank s) || (eqb 2 (sort_rank s) || eqb 3 (sort_rank s))))
prop_not_others s h = by_sort (λ s. eqb 4 (sort_rank s)) (λ s. not (eqb 0 (sort_rank s)) && not (eqb 1 (sort_rank s) || (eqb 2 (sort_rank s) || eqb 3 (sort_rank s)))) tt s h

parses_prop : {u : Tree} {ks js : List Token} → Claim prop u ks js → T (closes true slot.Assignment (frame (next js))) → Parses true prp u ks js
parses_prop {u} {ks} {js} a g = record { less = a.less (prop_not_script (attr u).sort a.fit); done = λ n hn. (a.to.via true prp a.fit tt g).on 1 (u, js) (stops true prp u js refl) n (omega arith) }

prop_first : {u : Tree} {ks js : List Token} → Claim prop u ks js → starts close_brace ks ≡ false
prop_first {u} {ks} a =
    let z = prop_not_others (attr u).sort a.fit in
    is_false _ (cond_t (is_sort property (attr u)) _ _ a.fit (cond_f (is_statement (attr u)) _ _ (and_r (not (is_expression (attr u))) _ z) (cond_f (is_expression (attr u)) _ _ (and_l (not (is_expression (attr u))) _ z) a.firstly)))

-- The tokens of operators.
unary_prefix : (o : UnaryOperator) (p : Slot) (l i : ℕ) (ks : List Token) → settle (prefix (ex p) (token (unary_code o) l i ∷ ks)) (token (unary_code o) l i ∷ ks) ≡ eat (unary_code o) (sub same (ex slot.Unary) (fin (form.Unary o)))
unary_prefix unary_op.Minus p l i ks = refl
unary_prefix unary_op.Plus p l i ks = refl
unary_prefix unary_op.Not p l i ks = refl
unary_prefix unary_op.BitNot p l i ks = refl
unary_prefix unary_op.Typeof p l i ks = refl
unary_prefix unary_op.Void p l i ks = refl
unary_prefix unary_op.Delete p l i ks = refl

after_binary : (o : BinaryOperator) → after (binary_code o) ≡ operates o
after_binary binary.Coalesce = refl
after_binary binary.Or = refl
after_binary binary.And = refl
after_binary binary.BitOr = refl
after_binary binary.BitXor = refl
after_binary binary.BitAnd = refl
after_binary binary.Equal = refl
after_binary binary.NotEqual = refl
after_binary binary.StrictEqual = refl
after_binary binary.StrictNotEqual = refl
after_binary binary.Less = refl
after_binary binary.LessOrEqual = refl
after_binary binary.Greater = refl
after_binary binary.GreaterOrEqual = refl
after_binary binary.In = refl
after_binary binary.Instanceof = refl
after_binary binary.LeftShift = refl
after_binary binary.RightShift = refl
after_binary binary.UnsignedRightShift = refl
after_binary binary.Add = refl
after_binary binary.Subtract = refl
after_binary binary.Multiply = refl
after_binary binary.Divide = refl
after_binary binary.Remainder = refl
after_binary binary.Exponent = refl

or_false : (b : Bool) → T (b || false) → T b
or_false true h = tt
or_false false h = h

takes_binary : (o : BinaryOperator) (b : Bool) (p : Slot) (s : Standing) → T (b || not (in_operator o)) → T (fits (left_slot o) s) → T (fits p (binary_standing o)) → T (takes b p s (binary_frame o))
takes_binary binary.Coalesce b p s n l f = and_i _ _ l f
takes_binary binary.Or b p s n l f = and_i _ _ l f
takes_binary binary.And b p s n l f = and_i _ _ l f
takes_binary binary.BitOr b p s n l f = and_i _ _ l f
takes_binary binary.BitXor b p s n l f = and_i _ _ l f
takes_binary binary.BitAnd b p s n l f = and_i _ _ l f
takes_binary binary.Equal b p s n l f = and_i _ _ l f
takes_binary binary.NotEqual b p s n l f = and_i _ _ l f
takes_binary binary.StrictEqual b p s n l f = and_i _ _ l f
takes_binary binary.StrictNotEqual b p s n l f = and_i _ _ l f
takes_binary binary.Less b p s n l f = and_i _ _ l f
takes_binary binary.LessOrEqual b p s n l f = and_i _ _ l f
takes_binary binary.Greater b p s n l f = and_i _ _ l f
takes_binary binary.GreaterOrEqual b p s n l f = and_i _ _ l f
takes_binary binary.In b p s n l f = and_i b _ (or_false b n) (and_i (fits slot.Relational s) _ l f)
takes_binary binary.Instanceof b p s n l f = and_i _ _ l f
takes_binary binary.LeftShift b p s n l f = and_i _ _ l f
takes_binary binary.RightShift b p s n l f = and_i _ _ l f
takes_binary binary.UnsignedRightShift b p s n l f = and_i _ _ l f
takes_binary binary.Add b p s n l f = and_i _ _ l f
takes_binary binary.Subtract b p s n l f = and_i _ _ l f
takes_binary binary.Multiply b p s n l f = and_i _ _ l f
takes_binary binary.Divide b p s n l f = and_i _ _ l f
takes_binary binary.Remainder b p s n l f = and_i _ _ l f
takes_binary binary.Exponent b p s n l f = and_i _ _ l f

guard_binary : (o : BinaryOperator) (b : Bool) (p : Slot) (s : Standing) → T (fits (left_slot o) s) → T (guard b p s (binary_frame o))
guard_binary binary.Coalesce b p s l = guard_first b p s _ tt l
guard_binary binary.Or b p s l = guard_first b p s _ tt l
guard_binary binary.And b p s l = guard_first b p s _ tt l
guard_binary binary.BitOr b p s l = guard_first b p s _ tt l
guard_binary binary.BitXor b p s l = guard_first b p s _ tt l
guard_binary binary.BitAnd b p s l = guard_first b p s _ tt l
guard_binary binary.Equal b p s l = guard_first b p s _ tt l
guard_binary binary.NotEqual b p s l = guard_first b p s _ tt l
guard_binary binary.StrictEqual b p s l = guard_first b p s _ tt l
guard_binary binary.StrictNotEqual b p s l = guard_first b p s _ tt l
guard_binary binary.Less b p s l = guard_first b p s _ tt l
guard_binary binary.LessOrEqual b p s l = guard_first b p s _ tt l
guard_binary binary.Greater b p s l = guard_first b p s _ tt l
guard_binary binary.GreaterOrEqual b p s l = guard_first b p s _ tt l
guard_binary binary.In b p s l = guard_first b p s _ tt l
guard_binary binary.Instanceof b p s l = guard_first b p s _ tt l
guard_binary binary.LeftShift b p s l = guard_first b p s _ tt l
guard_binary binary.RightShift b p s l = guard_first b p s _ tt l
guard_binary binary.UnsignedRightShift b p s l = guard_first b p s _ tt l
guard_binary binary.Add b p s l = guard_first b p s _ tt l
guard_binary binary.Subtract b p s l = guard_first b p s _ tt l
guard_binary binary.Multiply b p s l = guard_first b p s _ tt l
guard_binary binary.Divide b p s l = guard_first b p s _ tt l
guard_binary binary.Remainder b p s l = guard_first b p s _ tt l
guard_binary binary.Exponent b p s l = guard_first b p s _ tt l

called_right : (o : BinaryOperator) → T (called (right_slot o))
called_right binary.Coalesce = tt
called_right binary.Or = tt
called_right binary.And = tt
called_right binary.BitOr = tt
called_right binary.BitXor = tt
called_right binary.BitAnd = tt
called_right binary.Equal = tt
called_right binary.NotEqual = tt
called_right binary.StrictEqual = tt
called_right binary.StrictNotEqual = tt
called_right binary.Less = tt
called_right binary.LessOrEqual = tt
called_right binary.Greater = tt
called_right binary.GreaterOrEqual = tt
called_right binary.In = tt
called_right binary.Instanceof = tt
called_right binary.LeftShift = tt
called_right binary.RightShift = tt
called_right binary.UnsignedRightShift = tt
called_right binary.Add = tt
called_right binary.Subtract = tt
called_right binary.Multiply = tt
called_right binary.Divide = tt
called_right binary.Remainder = tt
called_right binary.Exponent = tt

-- Leaves.
pub read_array : (s : Site) {us : Forest} {ks r : List Token} {h : ℕ} → Fills Claim (in_head s) (layout form.Array (attrs us)) us ks r 0 h → To (in_head s) (node (head form.Array (lo_of ks) h) us) ks r
unfolding attr attrs
read_array s {us} (fill_tok d) = on_ex refl refl (λ b p cp fp nb ga. begin_eat refl (list_runs refl refl refl refl (λ us ks h0 d nb. end_run d) (attrs us) d nb))

pub read_object : (s : Site) {us : Forest} {ks r : List Token} {h : ℕ} → Fills Claim (in_head s) (layout form.Object (attrs us)) us ks r 0 h → To (in_head s) (node (head form.Object (lo_of ks) h) us) ks r
unfolding attr attrs
read_object s {us} {r = r} {h = h} (fill_tok d) = on_ex refl refl (λ b p cp fp nb ga. begin_eat refl (items_run (in_head s) b prp prop close_brace end (fin form.Object) form.Object r h (closes true slot.Assignment) (λ u ks js a nb g. parses_prop a g) (comma_closes true) (end_closes true slot.Assignment) refl refl (λ u ks js a. prop_first a) (λ us ks h0 d nb. end_run d) (attrs us) d nb))

-- A property is read for its own goal.
on_prop : {h : Bool} {t : Tree} {ks r : List Token} → (attr t).sort ≡ property → ((b : Bool) → T (closes true slot.Assignment (frame (next r))) → Through b prp t ks r) → To h t ks r
on_prop {h} {t} {ks} {r} e1 F = record { via = go }
  where
    sorted : (P : Sort → Bool) → P property ≡ false → T (P (attr t).sort) → ⊥
    sorted P e k = subst T (ap P e1 ∙ e) k

    go : (b : Bool) (q : Goal) → T (goes h q (attr t)) → T (b || not (attr t).bare_in) → T (ok_after b q (attr t) r) → Through b q t ks r
    go b (ex p) g nb ga = absurd (sorted (λ s. eqb 0 (sort_rank s)) refl (and_l (is_expression (attr t)) _ g))
    go b stm g nb ga = absurd (sorted (λ s. eqb 1 (sort_rank s) || (eqb 2 (sort_rank s) || eqb 3 (sort_rank s))) refl (and_l (is_statement (attr t)) _ g))
    go b blk g nb ga = absurd (sorted (λ s. eqb 2 (sort_rank s)) refl g)
    go b dec g nb ga = absurd (sorted (λ s. eqb 3 (sort_rank s)) refl (and_l (is_sort declaration (attr t)) _ g))
    go b prp g nb ga = F b ga
    go b nam g nb ga = absurd (named (is_sort valued (attr t)) (is_expression (attr t)) _ (sorted (λ s. eqb 5 (sort_rank s)) refl) (sorted (λ s. eqb 0 (sort_rank s)) refl) g)
      where
        named : (x y z : Bool) → (T x → ⊥) → (T y → ⊥) → T (x || (y && z)) → ⊥
        named true y z n m k = n tt
        named false true z n m k = m tt
        named false false z n m k = k
    go b scr g nb ga = absurd g

prop_prefix : (ks : List Token) → starts open_bracket ks ≡ false → settle (prefix prp ks) ks ≡ sub free (ex slot.PropertyName) (eat colon (sub free (ex slot.Assignment) (fin (form.Prop key.Fixed))))
prop_prefix ks e = rw e

pub read_prop : (k : Key) (s : Site) {us : Forest} {ks r : List Token} {h : ℕ} → Fills Claim (in_head s) (layout (form.Prop k) (attrs us)) us ks r 0 h → To (in_head s) (node (head (form.Prop k) (lo_of ks) h) us) ks r
unfolding attr attrs
read_prop key.Fixed s {ks = ks} (fill_kid {u = u} a (fill_tok (fill_kid x fill_end))) =
    let ie : T (is_expression (attr u)) = and_l (is_expression (attr u)) _ a.fit in
    let ft : T (fits slot.PropertyName (attr u).standing) = and_r (attr u).single _ (and_r (is_expression (attr u)) _ a.fit) in
    let al : T (is_other (token_begin ks) && (not (starts open_bracket ks) && not (starts open_paren ks))) = a.alone (and_i (is_expression (attr u)) _ ie (and_l (attr u).single _ (and_r (is_expression (attr u)) _ a.fit))) in
    let e : starts open_bracket ks ≡ false = is_false _ (and_l (not (starts open_bracket ks)) _ (and_r (is_other (token_begin ks)) _ al)) in
    on_prop refl (λ b ga. begin_sub (prop_prefix ks e) (parses a true slot.PropertyName ie tt ft tt (closes_ends true slot.PropertyName (attr u).standing f_end (end_closes true slot.PropertyName) ft)) (omega (arith, x.le)) (run_eat refl (run_sub refl (parses_at tt x tt ga) (run_fin refl))))
read_prop key.Computed s (fill_tok (fill_kid a (fill_tok (fill_tok (fill_kid x fill_end))))) =
    on_prop refl (λ b ga. begin_eat refl (run_sub refl (parses_at tt a tt (end_closes true slot.Assignment)) (run_eat refl (run_eat refl (run_sub refl (parses_at tt x tt ga) (run_fin refl))))))

-- Functions.
block_run : {h b : Bool} {f : Form} {us : Forest} {ks r : List Token} {h0 hh : ℕ} → Fills Claim h (kid true block_only end) us ks r h0 hh → Runs b (sub free blk (fin f)) us ks r h0 hh f
block_run (fill_kid a fill_end) = run_sub refl (parses_block a a.fit) (run_fin refl)

pub read_fn : (o : Own) (s : Site) {us : Forest} {ks r : List Token} {h : ℕ} → Fills Claim (in_head s) (layout (form.Fn o) (attrs us)) us ks r 0 h → To (in_head s) (node (head (form.Fn o) (lo_of ks) h) us) ks r
unfolding attr attrs
read_fn own.Nameless s {us} (fill_tok (fill_tok d)) = on_ex refl refl (λ b p cp fp nb ga. begin_eat refl (run_eat refl (names_run (λ us ks h0 d nb. block_run d) (but_last (attrs us)) d nb)))
read_fn own.Named s (fill_tok (fill_kid {us = us} {ks = ks} a (fill_tok d))) =
    let e : starts open_paren ks ≡ false = is_false _ (and_r (not (starts open_bracket ks)) _ (and_r (is_other (token_begin ks)) _ (name_alone a))) in
    on_ex refl refl (λ b p cp fp nb ga. begin_eat refl (run_else e (run_sub refl (parses_name a (edge_name f_call tt)) (run_eat refl (names_run (λ us ks h0 d nb. block_run d) (but_last (attrs us)) d (nor_r b _ _ nb))))))

skip_rest : {h : Bool} (cs : List Attr) (ls : Lay) {us : Forest} {ks r : List Token} {h0 hh : ℕ} → Fills Claim h (commas true plain_name cs (tok close_paren (tok arrow ls))) us ks r h0 hh → starts arrow (skip 0 ks) ≡ true
skip_rest [] ls (fill_tok (fill_tok d)) = refl
skip_rest (c ∷ cs) ls (fill_tok (fill_kid a d)) = ap (starts arrow) (a.skips 0) ∙ skip_rest cs ls d

skip_params : {h : Bool} (cs : List Attr) (ls : Lay) {us : Forest} {ks r : List Token} {h0 hh : ℕ} → Fills Claim h (listed plain_name cs (tok close_paren (tok arrow ls))) us ks r h0 hh → starts arrow (skip 0 ks) ≡ true
skip_params [] ls (fill_tok (fill_tok d)) = refl
skip_params (c ∷ cs) ls (fill_kid a d) = ap (starts arrow) (a.skips 0) ∙ skip_rest cs ls d

arrow_prefix : (p : Slot) (l i : ℕ) (ks : List Token) → starts arrow (skip 0 ks) ≡ true → settle (prefix (ex p) (token open_paren l i ∷ ks)) (token open_paren l i ∷ ks) ≡ arrow_do
arrow_prefix p l i ks e = rw e

paren_prefix : (p : Slot) (l i : ℕ) (ks : List Token) → starts arrow (skip 0 ks) ≡ false → settle (prefix (ex p) (token open_paren l i ∷ ks)) (token open_paren l i ∷ ks) ≡ paren_do
paren_prefix p l i ks e = rw e

no_brace : (ks : List Token) → T (not (is_brace (token_begin ks))) → starts open_brace ks ≡ false
no_brace [] h = refl
no_brace (k ∷ ks) h = go (same_code k.code open_brace) h
  where
    go : (x : Bool) → T (not (is_brace (cond x brace (cond (same_code k.code word_function) function other)))) → x ≡ false
    go true h = absurd h
    go false h = refl

block_first : {s : Site} {u : Tree} {ks js : List Token} → Claim s u ks js → T (is_sort block (attr u)) → T (starts open_brace ks)
block_first {u = u} {ks = ks} a e =
    let st : T (is_statement (attr u)) = block_statement (attr u).sort e in
    mp (is_sort block (attr u)) _ (and_l (imp (is_sort block (attr u)) (starts open_brace ks)) _ (and_r (not (starts word_else ks)) _ (and_r (not (at_stop ks)) _ (cond_t (is_statement (attr u)) _ _ st (cond_f (is_expression (attr u)) _ _ (block_not_expression (attr u).sort e) a.firstly))))) e
  where
    block_statement : (s : Sort) → T (eqb 2 (sort_rank s)) → T (eqb 1 (sort_rank s) || (eqb 2 (sort_rank s) || eqb 3 (sort_rank s)))
    block_statement s h = by_sort (λ s. eqb 2 (sort_rank s)) (λ s. eqb 1 (sort_rank s) || (eqb 2 (sort_rank s) || eqb 3 (sort_rank s))) tt s h

    block_not_expression : (s : Sort) → T (eqb 2 (sort_rank s)) → T (not (eqb 0 (sort_rank s)))
    block_not_expression s h = by_sort (λ s. eqb 2 (sort_rank s)) (λ s. not (eqb 0 (sort_rank s))) tt s h

body_run : {b : Bool} {u : Tree} {ks r : List Token} {h0 : ℕ} → Claim body u ks r → T (b || not (attr u).bare_in) → T (closes b slot.Assignment (frame (next r))) → Runs b (peek open_brace (sub free blk (fin form.Arrow)) (sub same (ex slot.Assignment) (fin form.Arrow))) (u ▸ nil) ks r h0 (head_of u).hi form.Arrow
body_run {b} {u} {ks} {r} {h0} a nb g = go (is_sort block (attr u)) refl a.fit
  where
    go : (x : Bool) → is_sort block (attr u) ≡ x → T (x || (is_expression (attr u) && (fits slot.Assignment (attr u).standing && not (is_brace (attr u).begin)))) → Runs b (peek open_brace (sub free blk (fin form.Arrow)) (sub same (ex slot.Assignment) (fin form.Arrow))) (u ▸ nil) ks r h0 (head_of u).hi form.Arrow
    go true e f = run_if (is_true _ (block_first a (subst T (sym e) tt))) (run_sub refl (parses_block a (subst T (sym e) tt)) (run_fin refl))
    go false e f =
        let ie : T (is_expression (attr u)) = and_l (is_expression (attr u)) _ f in
        let f2 : T (fits slot.Assignment (attr u).standing && not (is_brace (attr u).begin)) = and_r (is_expression (attr u)) _ f in
        let ft : T (fits slot.Assignment (attr u).standing) = and_l (fits slot.Assignment (attr u).standing) _ f2 in
        let nbr : T (not (is_brace (token_begin ks))) = subst (λ (z : Begin). T (not (is_brace z))) (a.begin ie) (and_r (fits slot.Assignment (attr u).standing) _ f2) in
        run_else (no_brace ks nbr) (run_sub refl (parses a b slot.Assignment ie tt ft nb (closes_ends b slot.Assignment (attr u).standing (frame (next r)) g ft)) (run_fin refl))

arrow_body_lem : {h b : Bool} {us : Forest} {ks r : List Token} {h0 hh : ℕ} → Fills Claim h (tok arrow (kid false body end)) us ks r h0 hh → T (b || not (any_open (kid false body end) (attrs us))) → T (closes b slot.Assignment (frame (next r))) → Runs b (eat arrow (peek open_brace (sub free blk (fin form.Arrow)) (sub same (ex slot.Assignment) (fin form.Arrow)))) us ks r h0 hh form.Arrow
unfolding attrs
arrow_body_lem {b = b} (fill_tok (fill_kid a fill_end)) nb g = run_eat refl (body_run a (nor_l b _ _ nb) g)

pub read_arrow : (s : Site) {us : Forest} {ks r : List Token} {h : ℕ} → Fills Claim (in_head s) (layout form.Arrow (attrs us)) us ks r 0 h → To (in_head s) (node (head form.Arrow (lo_of ks) h) us) ks r
unfolding attr attrs
read_arrow s {us} {r = r} (fill_tok {ks = ks} {l = l} {i = i} d) =
    on_ex refl refl (λ b p cp fp nb ga. begin_eat (arrow_prefix p l i ks (skip_params (but_last (attrs us)) (kid false body end) d)) (names_run (λ us ks h0 d nb. arrow_body_lem d nb (edge_assignment b p (frame (next r)) cp fp ga)) (but_last (attrs us)) d nb))

pub read_paren : (s : Site) {us : Forest} {ks r : List Token} {h : ℕ} → Fills Claim (in_head s) (layout form.Paren (attrs us)) us ks r 0 h → To (in_head s) (node (head form.Paren (lo_of ks) h) us) ks r
unfolding attr attrs
read_paren s {r = r} (fill_tok {ks = ks} {l = l} {i = i} (fill_kid {u = u} a (fill_tok fill_end))) =
    on_ex refl refl (λ b p cp fp nb ga. begin_eat (paren_prefix p l i ks (ap (starts arrow) (a.skips 0) ∙ no_start arrow (λ z. not (is_never (frame z))) refl r (guard_real b p _ (frame (next r)) ga))) (run_sub refl (parses_at tt a tt (end_closes true slot.Expression)) (run_eat refl (run_fin refl))))

-- Operators before their operand.
pub read_unary : (o : UnaryOperator) (s : Site) {us : Forest} {ks r : List Token} {h : ℕ} → Fills Claim (in_head s) (layout (form.Unary o) (attrs us)) us ks r 0 h → To (in_head s) (node (head (form.Unary o) (lo_of ks) h) us) ks r
unfolding attr attrs
read_unary o s {r = r} (fill_tok {l = l} {i = i} (fill_kid {ks = ks} a fill_end)) =
    on_ex refl refl (λ b p cp fp nb ga. begin_eat (unary_prefix o p l i ks) (run_sub refl (parses_at tt a (nor_l b _ _ nb) (edge_unary b p (frame (next r)) cp fp ga)) (run_fin refl)))

pub read_await : (s : Site) {us : Forest} {ks r : List Token} {h : ℕ} → Fills Claim (in_head s) (layout form.Await (attrs us)) us ks r 0 h → To (in_head s) (node (head form.Await (lo_of ks) h) us) ks r
unfolding attr attrs
read_await s {r = r} (fill_tok (fill_kid a fill_end)) =
    on_ex refl refl (λ b p cp fp nb ga. begin_eat refl (run_sub refl (parses_at tt a (nor_l b _ _ nb) (edge_unary b p (frame (next r)) cp fp ga)) (run_fin refl)))

pub read_update : (o : UpdateOperator) (z : Side) (s : Site) {us : Forest} {ks r : List Token} {h : ℕ} → Fills Claim (in_head s) (layout (form.Update o z) (attrs us)) us ks r 0 h → To (in_head s) (node (head (form.Update o z) (lo_of ks) h) us) ks r
unfolding attr attrs
read_update update_op.Increment side.Before s {r = r} (fill_tok (fill_kid {u = u} a fill_end)) =
    let ft : T (fits slot.Call (attr u).standing) = target_call (attr u).standing (at_fits a) in
    on_ex refl refl (λ b p cp fp nb ga. begin_eat refl (run_sub refl (parses a b slot.Call (at_expression a) tt ft (nor_l b _ _ nb) (closes_ends b slot.Call (attr u).standing (frame (next r)) (edge_update b p (frame (next r)) cp fp ga) ft)) (run_fin refl)))
read_update update_op.Increment side.After s (fill_kid {u = u} a (fill_tok fill_end)) =
    on_ex refl refl (λ b p cp fp nb ga. begin_frame a (at_expression a) cp (and_i _ _ (at_fits a) fp) (nor_l b _ _ nb) (guard_first b p (attr u).standing f_post tt (at_fits a)) refl (run_fin refl))
read_update update_op.Decrement side.Before s {r = r} (fill_tok (fill_kid {u = u} a fill_end)) =
    let ft : T (fits slot.Call (attr u).standing) = target_call (attr u).standing (at_fits a) in
    on_ex refl refl (λ b p cp fp nb ga. begin_eat refl (run_sub refl (parses a b slot.Call (at_expression a) tt ft (nor_l b _ _ nb) (closes_ends b slot.Call (attr u).standing (frame (next r)) (edge_update b p (frame (next r)) cp fp ga) ft)) (run_fin refl)))
read_update update_op.Decrement side.After s (fill_kid {u = u} a (fill_tok fill_end)) =
    on_ex refl refl (λ b p cp fp nb ga. begin_frame a (at_expression a) cp (and_i _ _ (at_fits a) fp) (nor_l b _ _ nb) (guard_first b p (attr u).standing f_post tt (at_fits a)) refl (run_fin refl))

-- Operators between operands.
pub read_binary : (o : BinaryOperator) (s : Site) {us : Forest} {ks r : List Token} {h : ℕ} → Fills Claim (in_head s) (layout (form.Bin o) (attrs us)) us ks r 0 h → To (in_head s) (node (head (form.Bin o) (lo_of ks) h) us) ks r
unfolding attr attrs
read_binary o s {r = r} (fill_kid {u = u} a (fill_tok (fill_kid x fill_end))) =
    on_ex refl refl (λ b p cp fp nb ga.
    let nk = nor_r b (in_operator o) _ nb in
    begin_frame a (at_expression a) cp
    (subst (λ (z : After). T (takes b p (attr u).standing (frame z))) (sym (after_binary o)) (takes_binary o b p (attr u).standing (nor_l b (in_operator o) _ nb) (at_fits a) fp))
    (nor_l b _ _ nk)
    (subst (λ (z : After). T (guard b p (attr u).standing (frame z))) (sym (after_binary o)) (guard_binary o b p (attr u).standing (at_fits a)))
    (ap (λ (z : After). frame_do z (attr u).standing) (after_binary o))
    (run_sub refl (parses_at (called_right o) x (nor_l b _ _ (nor_r b _ _ nk)) (edge_binary o b p (frame (next r)) cp fp ga)) (run_fin refl)))

pub read_assign : (o : AssignOperator) (s : Site) {us : Forest} {ks r : List Token} {h : ℕ} → Fills Claim (in_head s) (layout (form.Assign o) (attrs us)) us ks r 0 h → To (in_head s) (node (head (form.Assign o) (lo_of ks) h) us) ks r
unfolding attr attrs
read_assign o s {r = r} (fill_kid {u = u} a (fill_tok (fill_kid x fill_end))) =
    on_ex refl refl (λ b p cp fp nb ga. begin_frame a (at_expression a) cp (and_i _ _ (at_fits a) fp) (nor_l b _ _ nb) (guard_first b p (attr u).standing f_asg tt (at_fits a)) refl (run_sub refl (parses_at tt x (nor_l b _ _ (nor_r b _ _ nb)) (edge_assignment b p (frame (next r)) cp fp ga)) (run_fin refl)))

pub read_cond : (s : Site) {us : Forest} {ks r : List Token} {h : ℕ} → Fills Claim (in_head s) (layout form.Cond (attrs us)) us ks r 0 h → To (in_head s) (node (head form.Cond (lo_of ks) h) us) ks r
unfolding attr attrs
read_cond s {r = r} (fill_kid {u = u} a (fill_tok (fill_kid x (fill_tok (fill_kid y fill_end))))) =
    on_ex refl refl (λ b p cp fp nb ga. begin_frame a (at_expression a) cp (and_i _ _ (at_fits a) fp) (nor_l b _ _ nb) (guard_first b p (attr u).standing f_cnd tt (at_fits a)) refl (run_sub refl (parses_at tt x tt (end_closes true slot.Assignment)) (run_eat refl (run_sub refl (parses_at tt y (nor_l b _ _ (nor_r b _ _ nb)) (edge_conditional b p (frame (next r)) cp fp ga)) (run_fin refl)))))

seq_end : {h : Bool} (b : Bool) {us : Forest} {ks r : List Token} {h0 hh : ℕ} → T (closes b slot.Assignment (frame (next r))) → starts comma r ≡ false → Fills Claim h end us ks r h0 hh → T (closes b slot.Assignment (frame (next ks))) × (starts comma ks ≡ false)
seq_end b c e fill_end = (c, e)

pub read_seq : (s : Site) {us : Forest} {ks r : List Token} {h : ℕ} → Fills Claim (in_head s) (layout form.Seq (attrs us)) us ks r 0 h → To (in_head s) (node (head form.Seq (lo_of ks) h) us) ks r
unfolding attr attrs
read_seq s {r = r} {h = h} (fill_kid {u = u} a (fill_tok (fill_kid {us = us} x d))) =
    on_ex refl refl (λ b p cp fp nb ga.
    let ed = edge_sequence b p (frame (next r)) cp fp ga in
    let cl : T (closes b slot.Assignment (frame (next r))) = and_r (not (is_comma (frame (next r)))) _ ed in
    let nc : starts comma r ≡ false = no_start comma (λ z. not (is_comma (frame z))) refl r (and_l (not (is_comma (frame (next r)))) _ ed) in
    let n1 = nor_r b _ _ nb in
    begin_frame a (at_expression a) cp (and_i _ _ (at_fits a) fp) (nor_l b _ _ nb) (guard_first b p (attr u).standing f_seq tt (at_fits a)) refl
    (run_sub refl (parses_at tt x (nor_l b _ _ n1) (after_item (in_head s) b same (ex slot.Assignment) false (at slot.Assignment) end (fin form.Seq) form.Seq r h (closes b slot.Assignment) (λ u ks js a nb g. parses_at tt a nb g) (comma_closes b) (λ us ks h0 d. seq_end b cl nc d) (λ us ks h0 d nb. end_run d) (attrs us) d))
    (more_runs (in_head s) b same (ex slot.Assignment) false (at slot.Assignment) end (fin form.Seq) form.Seq r h (closes b slot.Assignment) (λ u ks js a nb g. parses_at tt a nb g) (comma_closes b) (λ us ks h0 d. seq_end b cl nc d) (λ us ks h0 d nb. end_run d) (attrs us) d (nor_r b _ _ n1) (nor_r b _ _ n1))))
