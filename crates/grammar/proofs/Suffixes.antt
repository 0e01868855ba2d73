-- How calls, members, chains, `new` and `yield` are read, and single tokens.
use mathlib.Core.Path.{◌≡◌, refl, ◌∙◌, ap, subst}
use mathlib.Core.List.{List, [], ◌∷◌}
use mathlib.Core.Bool.{Bool, true, false, cond, not, ◌&&◌, ◌||◌}
use Prim.Native.Nat.{ℕ}
use lib.Dec.{T, eqb}
use Rattle.token.specs.declared.Token.{Token}
use Rattle.token.specs.declared.Code.{Code}
use Rattle.token.specs.declared.Code.TheVariants as code
use Rattle.token.specs.declared.word.Word.TheVariants as word
use Rattle.token.specs.declared.punctuator.Punctuator.TheVariants as punctuator
use Rattle.token.specs.declared.operator.Operator.TheVariants as operator
use Rattle.kinds.specs.declared.form.Constant.{Constant}
use Rattle.kinds.specs.declared.form.Constant.TheVariants as constant
use Rattle.kinds.specs.declared.form.Form.{Form}
use Rattle.kinds.specs.declared.form.Form.TheVariants as form
use Rattle.kinds.specs.declared.form.Binding.{Binding}
use Rattle.kinds.specs.declared.form.Binding.TheVariants as binding
use Rattle.kinds.specs.declared.form.Key.{Key}
use Rattle.kinds.specs.declared.form.Key.TheVariants as key
use Rattle.kinds.specs.declared.form.Arguments.{Arguments}
use Rattle.kinds.specs.declared.form.Arguments.TheVariants as arguments
use Rattle.kinds.specs.declared.form.Link.{Link}
use Rattle.kinds.specs.declared.form.Link.TheVariants as link
use Rattle.kinds.specs.declared.form.Entry.{Entry}
use Rattle.kinds.specs.declared.form.Entry.TheVariants as entry
use Rattle.kinds.specs.declared.level.Slot.{Slot}
use Rattle.kinds.specs.declared.level.Slot.TheVariants as slot
use Rattle.kinds.specs.Levels.{Standing, optional, call, call_member, member, is_c, is_o, fits}
use Rattle.grammar.specs.Codes.{open_paren, close_paren, open_bracket, close_bracket, dot, equals}
use Rattle.grammar.specs.Site.{Sort, expression, declaration, valued, sort_rank, is_sort, is_expression, is_statement, is_other, Site, in_head}
use Rattle.grammar.specs.Tree.{head, Tree, Forest, node, nil, ◌▸◌}
use Rattle.grammar.specs.Layout.{layout, attr, attrs}
use Rattle.grammar.specs.Derives.{token, lo_of}
use Rattle.grammar.specs.Parser.{Goal, ex, stm, blk, dec, prp, nam, scr, free, Do, fin, eat, sub, items, operand, starts, opens, first_opens, prefix, frame_do, after, next, Frame, f_mem, f_call, f_link, frame, grown, settle}
use Rattle.grammar.proofs.Tests.{and_l, and_r, and_i, is_true, is_false, no_both}
use Rattle.grammar.proofs.Laws.{called, guard, closes, guard_real, guard_first, is_call, is_both, edge_assignment, edge_bare_new, edge_name, no_list, callee, no_operand, end_closes, call_optional, chain_optional}
use Rattle.grammar.proofs.Fills.{Fills, fill_end, fill_tok, fill_kid}
use Rattle.grammar.proofs.Steps.{Claim, Through, To, Runs, goes, ok_after, token_begin, no_start, parses, run_fin, run_eat, run_sub, run_as, run_else, begin_eat, begin_frame, operand_some, operand_none}
use Rattle.grammar.proofs.Lists.{nor_l, nor_r, first_opens_lem, at_expression, at_fits, parses_at, list_runs, name_alone, parses_name}
use Rattle.grammar.proofs.Expressions.{on_ex, end_run}

-- Behind an object: `.`, `[` and `(` make a tail exactly on a chain.
grown_member : (s : Standing) (p : Slot) → is_o s ≡ false → T (fits p (cond (is_c s) call_member member)) → T (fits p (grown f_mem s))
grown_member s p e h = rw e h

grown_call : (s : Standing) (p : Slot) → is_o s ≡ false → T (fits p call) → T (fits p (grown f_call s))
grown_call s p e h = rw e h

grown_tail : (g : Frame) (s : Standing) (p : Slot) → grown g s ≡ optional → T (fits p optional) → T (fits p (grown g s))
grown_tail g s p e h = rw e h

member_frame : (s : Standing) → is_o s ≡ false → frame_do (after dot) s ≡ eat dot (sub free (ex slot.Identifier) (fin (form.Member key.Fixed)))
member_frame s e = rw e

key_frame : (s : Standing) → is_o s ≡ false → frame_do (after open_bracket) s ≡ eat open_bracket (sub free (ex slot.Expression) (eat close_bracket (fin (form.Member key.Computed))))
key_frame s e = rw e

call_frame : (s : Standing) → is_o s ≡ false → frame_do (after open_paren) s ≡ eat open_paren (items (ex slot.Assignment) close_paren (eat close_paren (fin form.Call)))
call_frame s e = rw e

tail_name_frame : (s : Standing) → is_o s ≡ true → frame_do (after dot) s ≡ eat dot (sub free (ex slot.Identifier) (fin (form.Chain link.Name entry.Tail)))
tail_name_frame s e = rw e

tail_key_frame : (s : Standing) → is_o s ≡ true → frame_do (after open_bracket) s ≡ eat open_bracket (sub free (ex slot.Expression) (eat close_bracket (fin (form.Chain link.Key entry.Tail))))
tail_key_frame s e = rw e

tail_call_frame : (s : Standing) → is_o s ≡ true → frame_do (after open_paren) s ≡ eat open_paren (items (ex slot.Assignment) close_paren (eat close_paren (fin (form.Chain link.Call entry.Tail))))
tail_call_frame s e = rw e

tail_member : (s : Standing) → is_o s ≡ true → grown f_mem s ≡ optional
tail_member s e = rw e

tail_call : (s : Standing) → is_o s ≡ true → grown f_call s ≡ optional
tail_call s e = rw e

object_first : (s : Standing) → T (fits slot.Call s) → T (fits slot.Optional s)
object_first s h = and_l (fits slot.Optional s) _ (call_optional s h)

object_no_chain : (s : Standing) → T (fits slot.Call s) → is_o s ≡ false
object_no_chain s h = is_false _ (and_r (fits slot.Optional s) _ (call_optional s h))

chain_first : (s : Standing) → T (fits slot.Chain s) → T (fits slot.Optional s)
chain_first s h = and_l (fits slot.Optional s) _ (chain_optional s h)

chain_is : (s : Standing) → T (fits slot.Chain s) → is_o s ≡ true
chain_is s h = is_true _ (and_r (fits slot.Optional s) _ (chain_optional s h))

name_behind : (b : Bool) (p : Slot) (s : Standing) (r : List Token) → T (guard b p s (frame (next r))) → T (closes true slot.Identifier (frame (next r)))
name_behind b p s r ga = edge_name (frame (next r)) (guard_real b p s (frame (next r)) ga)

pub read_call : (s : Site) {us : Forest} {ks r : List Token} {h : ℕ} → Fills Claim (in_head s) (layout form.Call (attrs us)) us ks r 0 h → To (in_head s) (node (head form.Call (lo_of ks) h) us) ks r
unfolding attr attrs
read_call s (fill_kid {u = u} {us = us} a (fill_tok d)) =
    let S = (attr u).standing in
    on_ex refl refl (λ b p cp fp nb ga. begin_frame a (at_expression a) cp (and_i _ _ (object_first S (at_fits a)) (grown_call S p (object_no_chain S (at_fits a)) fp)) (nor_l b _ _ nb) (guard_first b p S f_call tt (object_first S (at_fits a))) (call_frame S (object_no_chain S (at_fits a))) (list_runs refl refl refl refl (λ us ks h0 d nb. end_run d) (attrs us) d (nor_r b _ _ nb)))

pub read_member : (k : Key) (s : Site) {us : Forest} {ks r : List Token} {h : ℕ} → Fills Claim (in_head s) (layout (form.Member k) (attrs us)) us ks r 0 h → To (in_head s) (node (head (form.Member k) (lo_of ks) h) us) ks r
unfolding attr attrs
read_member key.Fixed s {r = r} (fill_kid {u = u} a (fill_tok (fill_kid x fill_end))) =
    let S = (attr u).standing in
    on_ex refl refl (λ b p cp fp nb ga. begin_frame a (at_expression a) cp (and_i _ _ (object_first S (at_fits a)) (grown_member S p (object_no_chain S (at_fits a)) fp)) (nor_l b _ _ nb) (guard_first b p S f_mem tt (object_first S (at_fits a))) (member_frame S (object_no_chain S (at_fits a))) (run_sub refl (parses_name x (name_behind b p _ r ga)) (run_fin refl)))
read_member key.Computed s (fill_kid {u = u} a (fill_tok (fill_kid x (fill_tok fill_end)))) =
    let S = (attr u).standing in
    on_ex refl refl (λ b p cp fp nb ga. begin_frame a (at_expression a) cp (and_i _ _ (object_first S (at_fits a)) (grown_member S p (object_no_chain S (at_fits a)) fp)) (nor_l b _ _ nb) (guard_first b p S f_mem tt (object_first S (at_fits a))) (key_frame S (object_no_chain S (at_fits a))) (run_sub refl (parses_at tt x tt (end_closes true slot.Expression)) (run_eat refl (run_fin refl))))

pub read_chain : (l : Link) (e : Entry) (s : Site) {us : Forest} {ks r : List Token} {h : ℕ} → Fills Claim (in_head s) (layout (form.Chain l e) (attrs us)) us ks r 0 h → To (in_head s) (node (head (form.Chain l e) (lo_of ks) h) us) ks r
unfolding attr attrs
read_chain link.Name entry.Optional s {r = r} (fill_kid {u = u} a (fill_tok (fill_kid {ks = ks} x fill_end))) =
    let S = (attr u).standing in
    let al = and_r (is_other (token_begin ks)) _ (name_alone x) in
    on_ex refl refl (λ b p cp fp nb ga. begin_frame a (at_expression a) cp (and_i _ _ (at_fits a) fp) (nor_l b _ _ nb) (guard_first b p S f_link tt (at_fits a)) refl (run_else (is_false _ (and_r (not (starts open_bracket ks)) _ al)) (run_else (is_false _ (and_l (not (starts open_bracket ks)) _ al)) (run_sub refl (parses_name x (name_behind b p _ r ga)) (run_fin refl)))))
read_chain link.Key entry.Optional s (fill_kid {u = u} a (fill_tok (fill_tok (fill_kid x (fill_tok fill_end))))) =
    let S = (attr u).standing in
    on_ex refl refl (λ b p cp fp nb ga. begin_frame a (at_expression a) cp (and_i _ _ (at_fits a) fp) (nor_l b _ _ nb) (guard_first b p S f_link tt (at_fits a)) refl (run_eat refl (run_sub refl (parses_at tt x tt (end_closes true slot.Expression)) (run_eat refl (run_fin refl)))))
read_chain link.Call entry.Optional s (fill_kid {u = u} {us = us} a (fill_tok (fill_tok d))) =
    let S = (attr u).standing in
    on_ex refl refl (λ b p cp fp nb ga. begin_frame a (at_expression a) cp (and_i _ _ (at_fits a) fp) (nor_l b _ _ nb) (guard_first b p S f_link tt (at_fits a)) refl (run_eat refl (list_runs refl refl refl refl (λ us ks h0 d nb. end_run d) (attrs us) d (nor_r b _ _ nb))))
read_chain link.Name entry.Tail s {r = r} (fill_kid {u = u} a (fill_tok (fill_kid x fill_end))) =
    let S = (attr u).standing in
    on_ex refl refl (λ b p cp fp nb ga. begin_frame a (at_expression a) cp (and_i _ _ (chain_first S (at_fits a)) (grown_tail f_mem S p (tail_member S (chain_is S (at_fits a))) fp)) (nor_l b _ _ nb) (guard_first b p S f_mem tt (chain_first S (at_fits a))) (tail_name_frame S (chain_is S (at_fits a))) (run_sub refl (parses_name x (name_behind b p _ r ga)) (run_fin refl)))
read_chain link.Key entry.Tail s (fill_kid {u = u} a (fill_tok (fill_kid x (fill_tok fill_end)))) =
    let S = (attr u).standing in
    on_ex refl refl (λ b p cp fp nb ga. begin_frame a (at_expression a) cp (and_i _ _ (chain_first S (at_fits a)) (grown_tail f_mem S p (tail_member S (chain_is S (at_fits a))) fp)) (nor_l b _ _ nb) (guard_first b p S f_mem tt (chain_first S (at_fits a))) (tail_key_frame S (chain_is S (at_fits a))) (run_sub refl (parses_at tt x tt (end_closes true slot.Expression)) (run_eat refl (run_fin refl))))
read_chain link.Call entry.Tail s (fill_kid {u = u} {us = us} a (fill_tok d)) =
    let S = (attr u).standing in
    on_ex refl refl (λ b p cp fp nb ga. begin_frame a (at_expression a) cp (and_i _ _ (chain_first S (at_fits a)) (grown_tail f_call S p (tail_call S (chain_is S (at_fits a))) fp)) (nor_l b _ _ nb) (guard_first b p S f_call tt (chain_first S (at_fits a))) (tail_call_frame S (chain_is S (at_fits a))) (list_runs refl refl refl refl (λ us ks h0 d nb. end_run d) (attrs us) d (nor_r b _ _ nb)))

pub read_new : (z : Arguments) (s : Site) {us : Forest} {ks r : List Token} {h : ℕ} → Fills Claim (in_head s) (layout (form.New z) (attrs us)) us ks r 0 h → To (in_head s) (node (head (form.New z) (lo_of ks) h) us) ks r
unfolding attr attrs
read_new arguments.Listed s (fill_tok (fill_kid {u = u} {us = us} a (fill_tok d))) =
    let S = (attr u).standing in
    on_ex refl refl (λ b p cp fp nb ga. begin_eat refl (run_sub refl (parses a b slot.New (at_expression a) tt (and_l (fits slot.New S) _ (callee b S (at_fits a))) (nor_l b _ _ nb) (and_r (fits slot.New S) _ (callee b S (at_fits a)))) (run_eat refl (list_runs refl refl refl refl (λ us ks h0 d nb. end_run d) (attrs us) d (nor_r b _ _ nb)))))
read_new arguments.Unlisted s {r = r} (fill_tok (fill_kid a fill_end)) =
    on_ex refl refl (λ b p cp fp nb ga. begin_eat refl (run_sub refl (parses_at tt a (nor_l b _ _ nb) (edge_bare_new b p (frame (next r)) cp fp ga)) (run_else (no_start open_paren (λ z. not (is_call (frame z))) refl r (no_list b p (frame (next r)) ga)) (run_fin refl))))

-- What begins an expression can stand behind one only as an operator or a list.

opens_both : (c : Code) → T (opens c) → T (is_both (frame (after c)))
opens_both code.Name h = tt
opens_both code.Number h = tt
opens_both code.String h = tt
opens_both (code.Word word.Null) h = tt
opens_both (code.Word word.True) h = tt
opens_both (code.Word word.False) h = tt
opens_both (code.Word word.This) h = tt
opens_both (code.Word word.Function) h = tt
opens_both (code.Word word.Typeof) h = tt
opens_both (code.Word word.Void) h = tt
opens_both (code.Word word.Delete) h = tt
opens_both (code.Word word.In) h = absurd h
opens_both (code.Word word.Instanceof) h = absurd h
opens_both (code.Word word.New) h = tt
opens_both (code.Word word.Await) h = tt
opens_both (code.Word word.Yield) h = tt
opens_both (code.Word word.Var) h = absurd h
opens_both (code.Word word.Return) h = absurd h
opens_both (code.Word word.If) h = absurd h
opens_both (code.Word word.Else) h = absurd h
opens_both (code.Word word.While) h = absurd h
opens_both (code.Word word.For) h = absurd h
opens_both (code.Punctuator punctuator.OpenParen) h = tt
opens_both (code.Punctuator punctuator.CloseParen) h = absurd h
opens_both (code.Punctuator punctuator.OpenBracket) h = tt
opens_both (code.Punctuator punctuator.CloseBracket) h = absurd h
opens_both (code.Punctuator punctuator.OpenBrace) h = tt
opens_both (code.Punctuator punctuator.CloseBrace) h = absurd h
opens_both (code.Punctuator punctuator.Semicolon) h = absurd h
opens_both (code.Punctuator punctuator.Comma) h = absurd h
opens_both (code.Punctuator punctuator.Dot) h = absurd h
opens_both (code.Punctuator punctuator.Colon) h = absurd h
opens_both (code.Punctuator punctuator.Question) h = absurd h
opens_both (code.Punctuator punctuator.QuestionDot) h = absurd h
opens_both (code.Punctuator punctuator.Arrow) h = absurd h
opens_both (code.Operator operator.Not) h = tt
opens_both (code.Operator operator.BitNot) h = tt
opens_both (code.Operator operator.Increment) h = tt
opens_both (code.Operator operator.Decrement) h = tt
opens_both (code.Operator operator.Plus) h = tt
opens_both (code.Operator operator.Minus) h = tt
opens_both (code.Operator operator.Multiply) h = absurd h
opens_both (code.Operator operator.Divide) h = absurd h
opens_both (code.Operator operator.Remainder) h = absurd h
opens_both (code.Operator operator.Exponent) h = absurd h
opens_both (code.Operator operator.LeftShift) h = absurd h
opens_both (code.Operator operator.RightShift) h = absurd h
opens_both (code.Operator operator.UnsignedRightShift) h = absurd h
opens_both (code.Operator operator.Less) h = absurd h
opens_both (code.Operator operator.LessOrEqual) h = absurd h
opens_both (code.Operator operator.Greater) h = absurd h
opens_both (code.Operator operator.GreaterOrEqual) h = absurd h
opens_both (code.Operator operator.Equal) h = absurd h
opens_both (code.Operator operator.NotEqual) h = absurd h
opens_both (code.Operator operator.StrictEqual) h = absurd h
opens_both (code.Operator operator.StrictNotEqual) h = absurd h
opens_both (code.Operator operator.BitAnd) h = absurd h
opens_both (code.Operator operator.BitXor) h = absurd h
opens_both (code.Operator operator.BitOr) h = absurd h
opens_both (code.Operator operator.And) h = absurd h
opens_both (code.Operator operator.Or) h = absurd h
opens_both (code.Operator operator.Coalesce) h = absurd h
opens_both (code.AssignOperator o) h = absurd h

no_opens : (r : List Token) → T (not (is_both (frame (next r)))) → first_opens r ≡ false
no_opens [] h = refl
no_opens (k ∷ ks) h = go (opens k.code) (opens_both k.code)
  where
    go : (x : Bool) → (T x → T (is_both (frame (after k.code)))) → x ≡ false
    go true f = absurd (no_both (is_both (frame (after k.code))) (f tt) h)
    go false f = refl

run_operand : {b : Bool} {s t : Do} {us : Forest} {ks r : List Token} {h0 h : ℕ} {f : Form} → first_opens ks ≡ true → Runs b s us ks r h0 h f → Runs b (operand s t) us ks r h0 h f
run_operand {s = s} {t = t} {ks = ks} e p = run_as (operand_some s t ks e) p

run_alone : {b : Bool} {s t : Do} {us : Forest} {ks r : List Token} {h0 h : ℕ} {f : Form} → first_opens ks ≡ false → Runs b t us ks r h0 h f → Runs b (operand s t) us ks r h0 h f
run_alone {s = s} {t = t} {ks = ks} e p = run_as (operand_none s t ks e) p

pub read_yield : (s : Site) {us : Forest} {ks r : List Token} {h : ℕ} → Fills Claim (in_head s) (layout form.Yield (attrs us)) us ks r 0 h → To (in_head s) (node (head form.Yield (lo_of ks) h) us) ks r
unfolding attr attrs
read_yield s {us = nil} {r = r} (fill_tok fill_end) =
    on_ex refl refl (λ b p cp fp nb ga. begin_eat refl (run_alone (no_opens r (no_operand b p (frame (next r)) cp fp ga)) (run_fin refl)))
read_yield s {us = u ▸ us} {r = r} (fill_tok (fill_kid {ks = ks} a fill_end)) =
    on_ex refl refl (λ b p cp fp nb ga. begin_eat refl (run_operand (is_true _ (first_opens_lem a (at_expression a))) (run_sub refl (parses_at tt a (nor_l b _ _ nb) (edge_assignment b p (frame (next r)) cp fp ga)) (run_fin refl))))

-- A Name is read for a slot, or as a Name of a Var; one with a value only so.
name_prefix : (v : Binding) (l i : ℕ) (r : List Token) → cond {A = Binding} (starts equals r) binding.Valued binding.Plain ≡ v → settle (prefix nam (token code.Name l i ∷ r)) (token code.Name l i ∷ r) ≡ eat code.Name (fin (form.Name v))
name_prefix v l i r e = rw e

pub read_name : (v : Binding) (s : Site) {us : Forest} {ks r : List Token} {h : ℕ} → Fills Claim (in_head s) (layout (form.Name v) (attrs us)) us ks r 0 h → To (in_head s) (node (head (form.Name v) (lo_of ks) h) us) ks r
unfolding attr attrs
read_name binding.Plain s {us} {ks} {r} {h} (fill_tok {l = l} {i = i} fill_end) = record { via = go }
  where
    go : (b : Bool) (q : Goal) → T (goes (in_head s) q (attr (node (head (form.Name binding.Plain) l h) nil))) → T (b || not (attr (node (head (form.Name binding.Plain) l h) nil)).bare_in) → T (ok_after b q (attr (node (head (form.Name binding.Plain) l h) nil)) r) → Through b q (node (head (form.Name binding.Plain) l h) nil) (token code.Name l i ∷ r) r
    go b (ex p) g nb ga = begin_eat refl (run_fin refl)
    go b stm g nb ga = absurd g
    go b blk g nb ga = absurd g
    go b dec g nb ga = absurd g
    go b prp g nb ga = absurd g
    go b nam g nb ga = let e : starts equals r ≡ false = is_false _ ga in begin_eat (name_prefix binding.Plain l i r (rw e)) (run_fin refl)
    go b scr g nb ga = absurd g
read_name binding.Valued s {us} {ks} {r} {h} (fill_tok {l = l} {i = i} fill_end) = record { via = go }
  where
    go : (b : Bool) (q : Goal) → T (goes (in_head s) q (attr (node (head (form.Name binding.Valued) l h) nil))) → T (b || not (attr (node (head (form.Name binding.Valued) l h) nil)).bare_in) → T (ok_after b q (attr (node (head (form.Name binding.Valued) l h) nil)) r) → Through b q (node (head (form.Name binding.Valued) l h) nil) (token code.Name l i ∷ r) r
    go b (ex p) g nb ga = absurd g
    go b stm g nb ga = absurd g
    go b blk g nb ga = absurd g
    go b dec g nb ga = absurd g
    go b prp g nb ga = absurd g
    go b nam g nb ga = let e : starts equals r ≡ true = is_true _ ga in begin_eat (name_prefix binding.Valued l i r (rw e)) (run_fin refl)
    go b scr g nb ga = absurd g

-- A number and a string are single tokens, and no Names.
on_literal : {h : Bool} {t : Tree} {ks r : List Token} → (attr t).sort ≡ expression → fits slot.Identifier (attr t).standing ≡ false → ((b : Bool) (p : Slot) → T (called p) → Through b (ex p) t ks r) → To h t ks r
on_literal {h} {t} {ks} {r} e1 e2 F = record { via = go }
  where
    sorted : (P : Sort → Bool) → P expression ≡ false → T (P (attr t).sort) → ⊥
    sorted P e k = subst T (ap P e1 ∙ e) k

    go : (b : Bool) (q : Goal) → T (goes h q (attr t)) → T (b || not (attr t).bare_in) → T (ok_after b q (attr t) r) → Through b q t ks r
    go b (ex p) g nb ga = F b p (and_l (called p) _ (and_r (is_expression (attr t)) _ g))
    go b stm g nb ga = absurd (sorted (λ s. eqb 1 (sort_rank s) || (eqb 2 (sort_rank s) || eqb 3 (sort_rank s))) refl (and_l (is_statement (attr t)) _ g))
    go b blk g nb ga = absurd (sorted (λ s. eqb 2 (sort_rank s)) refl g)
    go b dec g nb ga = absurd (sorted (λ s. eqb 3 (sort_rank s)) refl (and_l (is_sort declaration (attr t)) _ g))
    go b prp g nb ga = absurd (sorted (λ s. eqb 4 (sort_rank s)) refl g)
    go b nam g nb ga = absurd (named (is_sort valued (attr t)) (is_expression (attr t)) (attr t).single _ (sorted (λ s. eqb 5 (sort_rank s)) refl) e2 g)
      where
        named : (x y z w : Bool) → (T x → ⊥) → w ≡ false → T (x || (y && (z && w))) → ⊥
        named true y z w n e k = n tt
        named false true true w n e k = subst T e k
        named false true false w n e k = k
        named false false z w n e k = k
    go b scr g nb ga = absurd g

pub read_num : (s : Site) {us : Forest} {ks r : List Token} {h : ℕ} → Fills Claim (in_head s) (layout form.Num (attrs us)) us ks r 0 h → To (in_head s) (node (head form.Num (lo_of ks) h) us) ks r
unfolding attr attrs
read_num s (fill_tok fill_end) = on_literal refl refl (λ b p cp. begin_eat refl (run_fin refl))

pub read_str : (s : Site) {us : Forest} {ks r : List Token} {h : ℕ} → Fills Claim (in_head s) (layout form.Str (attrs us)) us ks r 0 h → To (in_head s) (node (head form.Str (lo_of ks) h) us) ks r
unfolding attr attrs
read_str s (fill_tok fill_end) = on_literal refl refl (λ b p cp. begin_eat refl (run_fin refl))

pub read_word : (w : Constant) (s : Site) {us : Forest} {ks r : List Token} {h : ℕ} → Fills Claim (in_head s) (layout (form.Word w) (attrs us)) us ks r 0 h → To (in_head s) (node (head (form.Word w) (lo_of ks) h) us) ks r
unfolding attr attrs
read_word constant.Null s (fill_tok fill_end) = on_ex refl refl (λ b p cp fp nb ga. begin_eat refl (run_fin refl))
read_word constant.True s (fill_tok fill_end) = on_ex refl refl (λ b p cp fp nb ga. begin_eat refl (run_fin refl))
read_word constant.False s (fill_tok fill_end) = on_ex refl refl (λ b p cp fp nb ga. begin_eat refl (run_fin refl))

pub read_this : (s : Site) {us : Forest} {ks r : List Token} {h : ℕ} → Fills Claim (in_head s) (layout form.This (attrs us)) us ks r 0 h → To (in_head s) (node (head form.This (lo_of ks) h) us) ks r
unfolding attr attrs
read_this s (fill_tok fill_end) = on_ex refl refl (λ b p cp fp nb ga. begin_eat refl (run_fin refl))
