-- The productions that a restriction goes with hold.
use mathlib.Core.Path.{◌≡◌, refl, sym, subst}
use mathlib.Core.Bool.{Bool, true, false, cond, not, ◌||◌}
use mathlib.Core.List.{List, ◌∷◌}
use lib.Dec.{T, eqb}
use Rattle.token.specs.Same.{same_code}
use Rattle.token.specs.declared.Token.{Token}
use Rattle.token.specs.declared.Code.{Code}
use Rattle.kinds.specs.Levels.{fits}
use Rattle.kinds.specs.declared.operator.BinaryOperator.{BinaryOperator}
use Rattle.kinds.specs.declared.operator.BinaryOperator.TheVariants as binary
use Rattle.kinds.specs.declared.form.Form.{Form}
use Rattle.kinds.specs.declared.form.Form.TheVariants as form
use Rattle.kinds.specs.declared.level.Slot.TheVariants as slot
use Rattle.grammar.specs.Codes.{open_brace, word_function}
use Rattle.grammar.specs.Site.{Attr, Begin, brace, function, other, is_brace, is_other, is_sort, sort_rank, valued, block, is_expression, is_statement}
use Rattle.grammar.specs.Tree.{Tree, Forest, nil, ◌▸◌, ◌⊕◌}
use Rattle.grammar.specs.Layout.{Lay, end, stop, tok, kid, layout, is_in, in_operator, any_open, code_begin, last_dangles, attr_of, attr, attrs}
use Rattle.grammar.specs.Derives.{derive, d_stop, d_tok}
use Rattle.grammar.specs.Productions.{Expression, AssignmentExpression, StatementExpression, FunctionBody, ConciseBody, NoInExpression, IdentifierName, Statement, StatementBeforeElse}
use Rattle.grammar.specs.Contexts.{NoIn, NoneOpen, NoIns, Lookaheads, BeforeElse, WithoutIn}
use Rattle.grammar.proofs.Tests.{and_l, and_r, and_i, or_l, or_r}
use Rattle.grammar.proofs.Fills.{fold, derives_good}
use Rattle.grammar.proofs.Steps.{Claim}
use Rattle.grammar.proofs.Every.{claim}
use Rattle.grammar.proofs.Sorts.{by_sort}
use Rattle.grammar.proofs.Document.{from_name, from_value, units}

-- The first token decides what an expression begins with.
begins : {t : Tree} {k : Token} {ks r : List Token} → Expression t (k ∷ ks) r → (attr t).begin ≡ code_begin k.code
begins {t} d = let c : Claim _ t _ _ = fold Claim claim d in c.begin (and_l (is_expression (attr t)) _ c.fit)

not_brace : (c : Code) → T (not (same_code c open_brace)) → T (not (is_brace (code_begin c)))
not_brace c h = go (same_code c open_brace) (same_code c word_function) h
  where
    go : (x y : Bool) → T (not x) → T (not (is_brace (cond x brace (cond y function other))))
    go true y h = h
    go false true h = tt
    go false false h = tt

is_unlike : (c : Code) → T (not (same_code c open_brace)) → T (not (same_code c word_function)) → T (is_other (code_begin c))
is_unlike c h k = go (same_code c open_brace) (same_code c word_function) h k
  where
    go : (x y : Bool) → T (not x) → T (not y) → T (is_other (cond x brace (cond y function other)))
    go true y h k = h
    go false true h k = k
    go false false h k = tt

statement_expression : {t : Tree} {k : Token} {ks r : List Token} → T (not (same_code k.code open_brace)) → T (not (same_code k.code word_function)) → Expression t (k ∷ ks) r → StatementExpression t (k ∷ ks) r
unfolding attr
statement_expression {t} {k} {ks} {r} h j d = put d (subst (λ (z : Begin). T (is_other z)) (sym (begins d)) (is_unlike k.code h j))
  where
    put : {t : Tree} {ks r : List Token} → Expression t ks r → T (is_other (attr t).begin) → StatementExpression t ks r
    put (derive {f = f} {us = us} e d) o = derive (and_i _ _ (and_l (is_expression (attr_of f (attrs us))) _ e) o) d

-- Only `in` is `in`.
only_in : (o : BinaryOperator) → (form.Bin o ≡ form.Bin binary.In → ⊥) → T (not (in_operator o))
only_in binary.Coalesce h = tt
only_in binary.Or h = tt
only_in binary.And h = tt
only_in binary.BitOr h = tt
only_in binary.BitXor h = tt
only_in binary.BitAnd h = tt
only_in binary.Equal h = tt
only_in binary.NotEqual h = tt
only_in binary.StrictEqual h = tt
only_in binary.StrictNotEqual h = tt
only_in binary.Less h = tt
only_in binary.LessOrEqual h = tt
only_in binary.Greater h = tt
only_in binary.GreaterOrEqual h = tt
only_in binary.In h = h refl
only_in binary.Instanceof h = tt
only_in binary.LeftShift h = tt
only_in binary.RightShift h = tt
only_in binary.UnsignedRightShift h = tt
only_in binary.Add h = tt
only_in binary.Subtract h = tt
only_in binary.Multiply h = tt
only_in binary.Divide h = tt
only_in binary.Remainder h = tt
only_in binary.Exponent h = tt

only_in_form : (f : Form) → (f ≡ form.Bin binary.In → ⊥) → T (not (is_in f))
only_in_form form.Free h = tt
only_in_form (form.Name b) h = tt
only_in_form form.Num h = tt
only_in_form form.Str h = tt
only_in_form (form.Word w) h = tt
only_in_form form.This h = tt
only_in_form form.Array h = tt
only_in_form form.Object h = tt
only_in_form (form.Prop k) h = tt
only_in_form (form.Fn o) h = tt
only_in_form form.Arrow h = tt
only_in_form (form.Unary o) h = tt
only_in_form (form.Update o s) h = tt
only_in_form (form.Bin o) h = only_in o h
only_in_form (form.Assign o) h = tt
only_in_form form.Cond h = tt
only_in_form form.Seq h = tt
only_in_form form.Paren h = tt
only_in_form form.Call h = tt
only_in_form (form.New a) h = tt
only_in_form (form.Member k) h = tt
only_in_form (form.Chain l e) h = tt
only_in_form form.Await h = tt
only_in_form form.Yield h = tt
only_in_form form.Script h = tt
only_in_form form.ExprStmt h = tt
only_in_form form.Var h = tt
only_in_form form.Return h = tt
only_in_form form.If h = tt
only_in_form form.While h = tt
only_in_form (form.For i t u) h = tt
only_in_form form.ForIn h = tt
only_in_form form.Block h = tt
only_in_form form.Labeled h = tt
only_in_form form.Empty h = tt
only_in_form (form.Hole s) h = tt

neither : (x y : Bool) → T (not x) → T (not y) → T (not (x || y))
neither true y h k = h
neither false y h k = k

none_open : (l : Lay) (us : Forest) → NoneOpen l us → T (not (any_open l (attrs us)))
unfolding attrs
none_open end us h = tt
none_open stop us h = tt
none_open (tok c ls) us h = none_open ls us h
none_open (kid i s ls) nil h = tt
none_open (kid true s ls) (u ▸ us) h = none_open ls us h
none_open (kid false s ls) (u ▸ us) h = neither (attr u).bare_in _ h.0 (none_open ls us h.1)

all_none : (l : Lay) (us : Forest) → NoIns us → NoneOpen l us
all_none end us h = tt
all_none stop us h = tt
all_none (tok c ls) us h = all_none ls us h
all_none (kid i s ls) nil h = tt
all_none (kid true s ls) (u ▸ us) h = all_none ls us h.1
all_none (kid false s ls) (u ▸ us) h = (h.0, all_none ls us h.1)

last_one : (us : Forest) (v : Tree) → last_dangles (attrs (us ⊕ (v ▸ nil))) ≡ (attr v).dangles
unfolding attrs
last_one nil v = refl
last_one (u ▸ nil) v = refl
last_one (u ▸ (w ▸ us)) v = last_one (w ▸ us) v

-- A statement that does not dangle may stand before an else.
closes : {t : Tree} {ks r : List Token} → T (not (attr t).dangles) → Statement t ks r → StatementBeforeElse t ks r
unfolding attr
closes h (derive {f = f} {us = us} e d) = derive (and_i (is_statement (attr_of f (attrs us))) _ e h) d

calm : {v : Tree} {js r : List Token} → StatementBeforeElse v js r → T (not (attr v).dangles)
calm {v} d = and_r (is_statement (attr v)) _ (derives_good d).0

block_body : {t : Tree} {ks r : List Token} → FunctionBody t ks r → ConciseBody t ks r
block_body (derive {f = f} {us = us} e d) = derive (or_l (is_sort block (attr_of f (attrs us))) _ e) d

expression_body : {t : Tree} {k : Token} {ks r : List Token} → T (not (same_code k.code open_brace)) → AssignmentExpression t (k ∷ ks) r → ConciseBody t (k ∷ ks) r
unfolding attr
expression_body {k = k} h d = put d (subst (λ (z : Begin). T (not (is_brace z))) (sym (begins (units.assignment_is_expression d))) (not_brace k.code h))
  where
    put : {t : Tree} {ks r : List Token} → AssignmentExpression t ks r → T (not (is_brace (attr t).begin)) → ConciseBody t ks r
    put (derive {f = f} {us = us} e d) o =
        let a : Attr = attr_of f (attrs us) in
        derive (or_r (is_sort block a) _ (and_i (is_expression a) _ (and_l (is_expression a) _ e) (and_i (fits slot.Assignment a.standing) _ (and_r (is_expression a) _ e) o))) d

no_in_expression : {t : Tree} {ks r : List Token} → NoIn t → Expression t ks r → NoInExpression t ks r
unfolding attr
no_in_expression n (derive {f = f} {us = us} e d) = derive (and_i _ _ (and_l (is_expression (attr_of f (attrs us))) _ e) n) d

-- A plain Name has no value.
one_name : {u : Tree} {ks r : List Token} → IdentifierName u ks r → T (not (is_sort valued (attr u)))
one_name {u} d = by_sort (λ s. eqb 0 (sort_rank s)) (λ s. not (eqb 5 (sort_rank s))) tt (attr u).sort (and_l (is_expression (attr u)) _ (derives_good d).0)

pub lookaheads : Lookaheads
lookaheads = record {
  statement_expression = λ h j d. statement_expression h j d;
  block_body = λ d. block_body d;
  expression_body = λ h d. expression_body h d;
}

pub before_else : BeforeElse
unfolding attr attrs
before_else = record {
  empty_before_else = λ d. closes tt d;
  expression_before_else = λ d. closes tt d;
  var_before_else = λ d. closes tt d;
  return_before_else = λ d. closes tt d;
  block_before_else = λ d. closes tt d;
  if_else_before_else = λ d x. closes (calm x) d;
  while_before_else = λ d x. closes (calm x) d;
  for_before_else = λ i t u us {v}. λ d x. closes (subst (λ (b : Bool). T (not b)) (sym (last_one us v)) (calm x)) d;
  for_in_before_else = λ d x. closes (calm x) d;
  labeled_before_else = λ d x. closes (calm x) d;
}

pub without_in : WithoutIn
unfolding attr attrs
without_in = record {
  no_in = λ n us e o. neither (is_in n.form) _ (only_in_form n.form e) (none_open (layout n.form (attrs us)) us o);
  in_is_open = λ us l h n. n;
  no_in_expression = λ n d. no_in_expression n d;
  init_of_var = λ {us} n d. derive (none_open (layout form.Var (attrs us)) us (all_none (layout form.Var (attrs us)) us n)) (d_tok d);
  var_left = λ a. derive (one_name a) (d_tok (from_name a (d_stop (refl, refl))));
  head_name = λ a d. from_name a d;
  head_value = λ a b d. from_value a b d;
  head_next = λ d. d_tok d;
  head_last = d_stop (refl, refl);
}
