-- The productions of the document hold: each is one line.
use mathlib.Core.Path.{◌≡◌, refl, sym, subst}
use Prim.Native.Nat.{ℕ}
use mathlib.Core.Bool.{Bool, true, false, cond, not}
use mathlib.Core.List.{List, ◌∷◌}
use lib.Dec.{T, eqb}
use Rattle.token.specs.declared.Token.{Token}
use Rattle.kinds.specs.declared.form.Form.TheVariants as form
use Rattle.kinds.specs.declared.form.Key.{Key}
use Rattle.kinds.specs.declared.form.Key.TheVariants as key
use Rattle.kinds.specs.declared.level.Slot.{Slot}
use Rattle.kinds.specs.declared.level.Slot.TheVariants as slot
use Rattle.grammar.specs.Codes.{open_paren, close_paren, open_bracket, close_bracket, dot, equals}
use Rattle.grammar.specs.Site.{ok, is_expression, Sort, declaration, sort_rank, Attr, is_sort, valued, at, init, var_init, var_in, plain_name, valued_name}
use Rattle.grammar.specs.Tree.{head, head_of, Tree, Forest, node, nil, ◌▸◌}
use Rattle.grammar.specs.Layout.{tok, names, var_of, kid, first_standing, attr, attrs, attr_of}
use Rattle.grammar.specs.Derives.{token, lo_of, Derives, Follows, derive, d_end, d_stop, d_tok, d_kid}
use Rattle.kinds.specs.Levels.{member, call_member, primary, is_c, is_target, fits}
use Rattle.grammar.specs.Productions.{Expression, MemberExpression, CallOrMemberExpression, IdentifierName, SimpleTarget, Units, Productions, Lists}
use Rattle.grammar.proofs.Sorts.{by_sort}
use Rattle.grammar.proofs.Tests.{all, and_l, and_r, and_i, imp, mp, is_false}
use Rattle.grammar.proofs.Laws.{standings, at_standing}
use Rattle.grammar.proofs.Fills.{derives_good}

-- What fits the slot p fits q.
lift : (p q : Slot) → T (all (λ s. imp (fits p s) (fits q s)) standings) → {t : Tree} {ks r : List Token} → Derives (at p) t ks r → Derives (at q) t ks r
lift p q h (derive {f = f} {us = us} k d) = derive (and_i (is_expression (attr_of f (attrs us))) _ (and_l (is_expression (attr_of f (attrs us))) _ k) (mp (fits p (attr_of f (attrs us)).standing) _ (at_standing (λ s. imp (fits p s) (fits q s)) h (attr_of f (attrs us)).standing) (and_r (is_expression (attr_of f (attrs us))) _ k))) d

pub units : Units
units = record {
  assignment_is_expression = lift slot.Assignment slot.Expression tt;
  short_circuit_is_assignment = lift slot.ShortCircuit slot.Assignment tt;
  logical_or_is_short_circuit = lift slot.LogicalOr slot.ShortCircuit tt;
  coalesce_is_short_circuit = lift slot.Coalesce slot.ShortCircuit tt;
  logical_and_is_logical_or = lift slot.LogicalAnd slot.LogicalOr tt;
  bitwise_or_is_logical_and = lift slot.BitwiseOr slot.LogicalAnd tt;
  bitwise_or_is_coalesce = lift slot.BitwiseOr slot.Coalesce tt;
  bitwise_xor_is_bitwise_or = lift slot.BitwiseXor slot.BitwiseOr tt;
  bitwise_and_is_bitwise_xor = lift slot.BitwiseAnd slot.BitwiseXor tt;
  equality_is_bitwise_and = lift slot.Equality slot.BitwiseAnd tt;
  relational_is_equality = lift slot.Relational slot.Equality tt;
  shift_is_relational = lift slot.Shift slot.Relational tt;
  additive_is_shift = lift slot.Additive slot.Shift tt;
  multiplicative_is_additive = lift slot.Multiplicative slot.Additive tt;
  exponentiation_is_multiplicative = lift slot.Exponentiation slot.Multiplicative tt;
  unary_is_exponentiation = lift slot.Unary slot.Exponentiation tt;
  update_is_unary = lift slot.Update slot.Unary tt;
  new_is_update = lift slot.New slot.Update tt;
  call_is_update = lift slot.Call slot.Update tt;
  chain_is_update = lift slot.Chain slot.Update tt;
  member_is_new = lift slot.Member slot.New tt;
  member_is_call = lift slot.Member slot.Call tt;
  call_is_optional = lift slot.Call slot.Optional tt;
  chain_is_optional = lift slot.Chain slot.Optional tt;
}

paren_ok : (cs : List Attr) → T (ok (at slot.Member) (attr_of form.Paren cs))
paren_ok cs = go (is_target (first_standing cs))
  where
    go : (t : Bool) → T (fits slot.Member (cond t member primary))
    go true = tt
    go false = tt

call_ok : (k : Key) (cs : List Attr) → T (ok (at slot.Call) (attr_of (form.Member k) cs))
call_ok k cs = go (is_c (first_standing cs))
  where
    go : (c : Bool) → T (fits slot.Call (cond c call_member member))
    go true = tt
    go false = tt

target_ok : (k : Key) (cs : List Attr) → T (ok (at slot.Target) (attr_of (form.Member k) cs))
target_ok k cs = go (is_c (first_standing cs))
  where
    go : (c : Bool) → T (fits slot.Target (cond c call_member member))
    go true = tt
    go false = tt

member_ok : (k : Key) (cs : List Attr) → T (fits slot.Member (first_standing cs)) → T (ok (at slot.Member) (attr_of (form.Member k) cs))
member_ok k cs h = go (is_c (first_standing cs)) (is_false _ (mp (fits slot.Member (first_standing cs)) _ (at_standing (λ s. imp (fits slot.Member s) (not (is_c s))) tt (first_standing cs)) h))
  where
    go : (c : Bool) → c ≡ false → T (fits slot.Member (cond c call_member member))
    go true e = absurd (subst T e tt)
    go false e = tt

paren_target : (cs : List Attr) → T (fits slot.Target (first_standing cs)) → T (ok (at slot.Target) (attr_of form.Paren cs))
paren_target cs h = go (is_target (first_standing cs)) h
  where
    go : (t : Bool) → T t → T (fits slot.Target (cond t member primary))
    go true h = tt
    go false h = absurd h

-- An expression is no Var.
not_declaration : (s : Sort) → T (eqb 0 (sort_rank s)) → eqb 3 (sort_rank s) ≡ false
not_declaration s h = is_false _ (by_sort (λ s. eqb 0 (sort_rank s)) (λ s. not (eqb 3 (sort_rank s))) tt s h)

is_true : (x : Bool) → T x → x ≡ true
is_true true h = refl
is_true false h = absurd h

from_init : {t : Tree} {ks r : List Token} → Derives init t ks r → Derives (cond (is_sort declaration (attr t)) var_init init) t ks r
from_init {t} {ks} {r} d =
    let e : is_sort declaration (attr t) ≡ false = not_declaration (attr t).sort (and_l (is_expression (attr t)) _ (derives_good d).0) in
    subst (λ (b : Bool). Derives (cond b var_init init) t ks r) (sym e) d

from_var_init : {t : Tree} {ks r : List Token} → Derives var_init t ks r → Derives (cond (is_sort declaration (attr t)) var_init init) t ks r
from_var_init {t} {ks} {r} d =
    let e : is_sort declaration (attr t) ≡ true = is_true _ (and_l (is_sort declaration (attr t)) _ (derives_good d).0) in
    subst (λ (b : Bool). Derives (cond b var_init init) t ks r) (sym e) d

from_left : {t : Tree} {ks r : List Token} → Derives (at slot.Target) t ks r → Derives (cond (is_sort declaration (attr t)) var_in (at slot.Target)) t ks r
from_left {t} {ks} {r} d =
    let e : is_sort declaration (attr t) ≡ false = not_declaration (attr t).sort (and_l (is_expression (attr t)) _ (derives_good d).0) in
    subst (λ (b : Bool). Derives (cond b var_in (at slot.Target)) t ks r) (sym e) d

from_var_in : {t : Tree} {ks r : List Token} → Derives var_in t ks r → Derives (cond (is_sort declaration (attr t)) var_in (at slot.Target)) t ks r
from_var_in {t} {ks} {r} d =
    let e : is_sort declaration (attr t) ≡ true = is_true _ (and_l (is_sort declaration (attr t)) _ (derives_good d).0) in
    subst (λ (b : Bool). Derives (cond b var_in (at slot.Target)) t ks r) (sym e) d

-- An expression is no Name with a value.
not_valued : (s : Sort) → T (eqb 0 (sort_rank s)) → eqb 5 (sort_rank s) ≡ false
not_valued s h = is_false _ (by_sort (λ s. eqb 0 (sort_rank s)) (λ s. not (eqb 5 (sort_rank s))) tt s h)

pub from_name : {z : Bool} {u : Tree} {us : Forest} {ks js r : List Token} {h0 h : ℕ} → Derives plain_name u ks js → Follows z (names (attrs us) false) us js r (head_of u).hi h → Follows z (var_of (attrs (u ▸ us))) (u ▸ us) ks r h0 h
unfolding attrs
from_name {z} {u} {us} {ks} {js} {r} {h0} {h} a d =
    let e : is_sort valued (attr u) ≡ false = not_valued (attr u).sort (and_l (is_expression (attr u)) _ (derives_good a).0) in
    subst (λ (x : Bool). Follows z (cond x (kid false valued_name (tok equals (names (attrs us) true))) (kid false plain_name (names (attrs us) false))) (u ▸ us) ks r h0 h) (sym e) (d_kid a d)

pub from_value : {z : Bool} {u v : Tree} {us : Forest} {ks js ls r : List Token} {l i h0 h : ℕ} → Derives valued_name u ks (token equals l i ∷ js) → Derives (at slot.Assignment) v js ls → Follows z (names (attrs us) false) us ls r (head_of v).hi h → Follows z (var_of (attrs (u ▸ (v ▸ us)))) (u ▸ (v ▸ us)) ks r h0 h
unfolding attrs
from_value {z} {u} {v} {us} {ks} {js} {ls} {r} {l} {i} {h0} {h} a b d =
    let e : is_sort valued (attr u) ≡ true = is_true _ (derives_good a).0 in
    subst (λ (x : Bool). Follows z (cond x (kid false valued_name (tok equals (names (attr v ∷ attrs us) true))) (kid false plain_name (names (attr v ∷ attrs us) false))) (u ▸ (v ▸ us)) ks r h0 h) (sym e) (d_kid a (d_tok (d_kid b d)))

child_fits : {p : Slot} {t : Tree} {ks r : List Token} → Derives (at p) t ks r → T (fits p (attr t).standing)
child_fits {p} {t} d = let (f, g, w) = derives_good d in and_r (is_expression (attr t)) _ f

p_parenthesized : {u1 : Tree} {k1 r : List Token} {h0 h2 l0 l2 : ℕ} → Expression u1 k1 (token close_paren l2 h2 ∷ r) → MemberExpression (node (head form.Paren (lo_of (token open_paren l0 h0 ∷ k1)) h2) (u1 ▸ nil)) (token open_paren l0 h0 ∷ k1) r
unfolding attr attrs
p_parenthesized {u1 = u1} a1 = derive (paren_ok (attrs (u1 ▸ nil))) (d_tok (d_kid a1 (d_tok d_end)))

p_member_name : {u0 u2 : Tree} {k0 k2 r : List Token} {h1 l1 : ℕ} → MemberExpression u0 k0 (token dot l1 h1 ∷ k2) → IdentifierName u2 k2 r → MemberExpression (node (head (form.Member key.Fixed) (lo_of k0) (head_of u2).hi) (u0 ▸ (u2 ▸ nil))) k0 r
unfolding attr attrs
p_member_name {u0 = u0} {u2 = u2} a0 a2 = derive (member_ok key.Fixed (attrs (u0 ▸ (u2 ▸ nil))) (child_fits a0)) (d_kid (lift slot.Member slot.Call tt a0) (d_tok (d_kid a2 d_end)))

p_member_key : {u0 u2 : Tree} {k0 k2 r : List Token} {h1 h3 l1 l3 : ℕ} → MemberExpression u0 k0 (token open_bracket l1 h1 ∷ k2) → Expression u2 k2 (token close_bracket l3 h3 ∷ r) → MemberExpression (node (head (form.Member key.Computed) (lo_of k0) h3) (u0 ▸ (u2 ▸ nil))) k0 r
unfolding attr attrs
p_member_key {u0 = u0} {u2 = u2} a0 a2 = derive (member_ok key.Computed (attrs (u0 ▸ (u2 ▸ nil))) (child_fits a0)) (d_kid (lift slot.Member slot.Call tt a0) (d_tok (d_kid a2 (d_tok d_end))))

p_call_name : {u0 u2 : Tree} {k0 k2 r : List Token} {h1 l1 : ℕ} → CallOrMemberExpression u0 k0 (token dot l1 h1 ∷ k2) → IdentifierName u2 k2 r → CallOrMemberExpression (node (head (form.Member key.Fixed) (lo_of k0) (head_of u2).hi) (u0 ▸ (u2 ▸ nil))) k0 r
unfolding attr attrs
p_call_name {u0 = u0} {u2 = u2} a0 a2 = derive (call_ok key.Fixed (attrs (u0 ▸ (u2 ▸ nil)))) (d_kid a0 (d_tok (d_kid a2 d_end)))

p_call_key : {u0 u2 : Tree} {k0 k2 r : List Token} {h1 h3 l1 l3 : ℕ} → CallOrMemberExpression u0 k0 (token open_bracket l1 h1 ∷ k2) → Expression u2 k2 (token close_bracket l3 h3 ∷ r) → CallOrMemberExpression (node (head (form.Member key.Computed) (lo_of k0) h3) (u0 ▸ (u2 ▸ nil))) k0 r
unfolding attr attrs
p_call_key {u0 = u0} {u2 = u2} a0 a2 = derive (call_ok key.Computed (attrs (u0 ▸ (u2 ▸ nil)))) (d_kid a0 (d_tok (d_kid a2 (d_tok d_end))))

p_target_member : {u0 u2 : Tree} {k0 k2 r : List Token} {h1 l1 : ℕ} → CallOrMemberExpression u0 k0 (token dot l1 h1 ∷ k2) → IdentifierName u2 k2 r → SimpleTarget (node (head (form.Member key.Fixed) (lo_of k0) (head_of u2).hi) (u0 ▸ (u2 ▸ nil))) k0 r
unfolding attr attrs
p_target_member {u0 = u0} {u2 = u2} a0 a2 = derive (target_ok key.Fixed (attrs (u0 ▸ (u2 ▸ nil)))) (d_kid a0 (d_tok (d_kid a2 d_end)))

p_target_key : {u0 u2 : Tree} {k0 k2 r : List Token} {h1 h3 l1 l3 : ℕ} → CallOrMemberExpression u0 k0 (token open_bracket l1 h1 ∷ k2) → Expression u2 k2 (token close_bracket l3 h3 ∷ r) → SimpleTarget (node (head (form.Member key.Computed) (lo_of k0) h3) (u0 ▸ (u2 ▸ nil))) k0 r
unfolding attr attrs
p_target_key {u0 = u0} {u2 = u2} a0 a2 = derive (target_ok key.Computed (attrs (u0 ▸ (u2 ▸ nil)))) (d_kid a0 (d_tok (d_kid a2 (d_tok d_end))))

p_target_paren : {u1 : Tree} {k1 r : List Token} {h0 h2 l0 l2 : ℕ} → SimpleTarget u1 k1 (token close_paren l2 h2 ∷ r) → SimpleTarget (node (head form.Paren (lo_of (token open_paren l0 h0 ∷ k1)) h2) (u1 ▸ nil)) (token open_paren l0 h0 ∷ k1) r
unfolding attr attrs
p_target_paren {u1 = u1} a1 = derive (paren_target (attrs (u1 ▸ nil)) (child_fits a1)) (d_tok (d_kid (lift slot.Target slot.Expression tt a1) (d_tok d_end)))

pub productions : Productions
unfolding attr attrs
productions = record {
  this = derive tt (d_tok d_end);
  identifier = derive tt (d_tok d_end);
  number = derive tt (d_tok d_end);
  string = derive tt (d_tok d_end);
  null = derive tt (d_tok d_end);
  true_literal = derive tt (d_tok d_end);
  false_literal = derive tt (d_tok d_end);
  identifier_name = derive tt (d_tok d_end);
  declared_name = derive tt (d_tok d_end);
  named_key = derive tt (d_tok d_end);
  key_string = derive tt (d_tok d_end);
  key_number = derive tt (d_tok d_end);
  array = λ d. derive tt (d_tok d);
  object = λ d. derive tt (d_tok d);
  property = λ a0 a2. derive tt (d_kid a0 (d_tok (d_kid a2 d_end)));
  computed_property = λ a1 a4. derive tt (d_tok (d_kid a1 (d_tok (d_tok (d_kid a4 d_end)))));
  parenthesized = λ a1. p_parenthesized a1;
  function = λ d. derive tt (d_tok d);
  named_function = λ a1 d. derive tt (d_tok (d_kid a1 d));
  new_with_list = λ a1 d. derive tt (d_tok (d_kid a1 d));
  new_without_list = λ a1. derive tt (d_tok (d_kid a1 d_end));
  call = λ a0 d. derive tt (d_kid a0 d);
  member_name = λ a0 a2. p_member_name a0 a2;
  member_key = λ a0 a2. p_member_key a0 a2;
  call_name = λ a0 a2. p_call_name a0 a2;
  call_key = λ a0 a2. p_call_key a0 a2;
  optional_name = λ a0 a2. derive tt (d_kid a0 (d_tok (d_kid a2 d_end)));
  optional_key = λ a0 a3. derive tt (d_kid a0 (d_tok (d_tok (d_kid a3 (d_tok d_end)))));
  optional_call = λ a0 d. derive tt (d_kid a0 (d_tok d));
  tail_name = λ a0 a2. derive tt (d_kid a0 (d_tok (d_kid a2 d_end)));
  tail_key = λ a0 a2. derive tt (d_kid a0 (d_tok (d_kid a2 (d_tok d_end))));
  tail_call = λ a0 d. derive tt (d_kid a0 d);
  target_name = derive tt (d_tok d_end);
  target_member = λ a0 a2. p_target_member a0 a2;
  target_key = λ a0 a2. p_target_key a0 a2;
  target_paren = λ a1. p_target_paren a1;
  increment_before = λ a1. derive tt (d_tok (d_kid a1 d_end));
  increment_after = λ a0. derive tt (d_kid a0 (d_tok d_end));
  decrement_before = λ a1. derive tt (d_tok (d_kid a1 d_end));
  decrement_after = λ a0. derive tt (d_kid a0 (d_tok d_end));
  unary_minus = λ a1. derive tt (d_tok (d_kid a1 d_end));
  unary_plus = λ a1. derive tt (d_tok (d_kid a1 d_end));
  unary_not = λ a1. derive tt (d_tok (d_kid a1 d_end));
  unary_bitnot = λ a1. derive tt (d_tok (d_kid a1 d_end));
  unary_typeof = λ a1. derive tt (d_tok (d_kid a1 d_end));
  unary_void = λ a1. derive tt (d_tok (d_kid a1 d_end));
  unary_delete = λ a1. derive tt (d_tok (d_kid a1 d_end));
  await_expression = λ a1. derive tt (d_tok (d_kid a1 d_end));
  operator_coalesce = λ a0 a2. derive tt (d_kid a0 (d_tok (d_kid a2 d_end)));
  operator_or = λ a0 a2. derive tt (d_kid a0 (d_tok (d_kid a2 d_end)));
  operator_and = λ a0 a2. derive tt (d_kid a0 (d_tok (d_kid a2 d_end)));
  operator_bit_or = λ a0 a2. derive tt (d_kid a0 (d_tok (d_kid a2 d_end)));
  operator_bit_xor = λ a0 a2. derive tt (d_kid a0 (d_tok (d_kid a2 d_end)));
  operator_bit_and = λ a0 a2. derive tt (d_kid a0 (d_tok (d_kid a2 d_end)));
  operator_equal = λ a0 a2. derive tt (d_kid a0 (d_tok (d_kid a2 d_end)));
  operator_not_equal = λ a0 a2. derive tt (d_kid a0 (d_tok (d_kid a2 d_end)));
  operator_strict_equal = λ a0 a2. derive tt (d_kid a0 (d_tok (d_kid a2 d_end)));
  operator_strict_not_equal = λ a0 a2. derive tt (d_kid a0 (d_tok (d_kid a2 d_end)));
  operator_less = λ a0 a2. derive tt (d_kid a0 (d_tok (d_kid a2 d_end)));
  operator_less_or_equal = λ a0 a2. derive tt (d_kid a0 (d_tok (d_kid a2 d_end)));
  operator_greater = λ a0 a2. derive tt (d_kid a0 (d_tok (d_kid a2 d_end)));
  operator_greater_or_equal = λ a0 a2. derive tt (d_kid a0 (d_tok (d_kid a2 d_end)));
  operator_in = λ a0 a2. derive tt (d_kid a0 (d_tok (d_kid a2 d_end)));
  operator_instanceof = λ a0 a2. derive tt (d_kid a0 (d_tok (d_kid a2 d_end)));
  operator_left_shift = λ a0 a2. derive tt (d_kid a0 (d_tok (d_kid a2 d_end)));
  operator_right_shift = λ a0 a2. derive tt (d_kid a0 (d_tok (d_kid a2 d_end)));
  operator_unsigned_right_shift = λ a0 a2. derive tt (d_kid a0 (d_tok (d_kid a2 d_end)));
  operator_add = λ a0 a2. derive tt (d_kid a0 (d_tok (d_kid a2 d_end)));
  operator_subtract = λ a0 a2. derive tt (d_kid a0 (d_tok (d_kid a2 d_end)));
  operator_multiply = λ a0 a2. derive tt (d_kid a0 (d_tok (d_kid a2 d_end)));
  operator_divide = λ a0 a2. derive tt (d_kid a0 (d_tok (d_kid a2 d_end)));
  operator_remainder = λ a0 a2. derive tt (d_kid a0 (d_tok (d_kid a2 d_end)));
  operator_exponent = λ a0 a2. derive tt (d_kid a0 (d_tok (d_kid a2 d_end)));
  conditional = λ a0 a2 a4. derive tt (d_kid a0 (d_tok (d_kid a2 (d_tok (d_kid a4 d_end)))));
  assignment = λ o. λ a0 a2. derive tt (d_kid a0 (d_tok (d_kid a2 d_end)));
  arrow_function = λ d. derive tt (d);
  yield_alone = derive tt (d_tok d_end);
  yield_operand = λ a1. derive tt (d_tok (d_kid a1 d_end));
  sequence = λ a0 a2 d. derive tt (d_kid a0 (d_tok (d_kid a2 d)));
  block_statement = λ d. derive tt (d_tok d);
  function_body = λ d. derive tt (d_tok d);
  var_statement = λ d. derive tt (d_tok d);
  empty_statement = derive tt (d_tok d_end);
  expression_statement = λ a0. derive tt (d_kid a0 (d_tok d_end));
  if_statement = λ a2 a4. derive tt (d_tok (d_tok (d_kid a2 (d_tok (d_kid a4 d_end)))));
  if_else_statement = λ a2 a4 a6. derive tt (d_tok (d_tok (d_kid a2 (d_tok (d_kid a4 (d_tok (d_kid a6 d_end)))))));
  while_statement = λ a2 a4. derive tt (d_tok (d_tok (d_kid a2 (d_tok (d_kid a4 d_end)))));
  for_bare = λ a5. derive tt (d_tok (d_tok (d_tok (d_tok (d_tok (d_kid a5 d_end))))));
  for_u = λ a4 a6. derive tt (d_tok (d_tok (d_tok (d_tok (d_kid a4 (d_tok (d_kid a6 d_end)))))));
  for_t = λ a3 a6. derive tt (d_tok (d_tok (d_tok (d_kid a3 (d_tok (d_tok (d_kid a6 d_end)))))));
  for_tu = λ a3 a5 a7. derive tt (d_tok (d_tok (d_tok (d_kid a3 (d_tok (d_kid a5 (d_tok (d_kid a7 d_end))))))));
  for_i = λ a2 a6. derive tt (d_tok (d_tok (d_kid a2 (d_tok (d_tok (d_tok (d_kid a6 d_end)))))));
  for_iu = λ a2 a5 a7. derive tt (d_tok (d_tok (d_kid a2 (d_tok (d_tok (d_kid a5 (d_tok (d_kid a7 d_end))))))));
  for_it = λ a2 a4 a7. derive tt (d_tok (d_tok (d_kid a2 (d_tok (d_kid a4 (d_tok (d_tok (d_kid a7 d_end))))))));
  for_itu = λ a2 a4 a6 a8. derive tt (d_tok (d_tok (d_kid a2 (d_tok (d_kid a4 (d_tok (d_kid a6 (d_tok (d_kid a8 d_end)))))))));
  for_in_statement = λ a2 a4 a6. derive tt (d_tok (d_tok (d_kid a2 (d_tok (d_kid a4 (d_tok (d_kid a6 d_end)))))));
  return_alone = derive tt (d_tok (d_tok d_end));
  return_value = λ a1. derive tt (d_tok (d_kid a1 (d_tok d_end)));
  labeled_statement = λ a0 a2. derive tt (d_kid a0 (d_tok (d_kid a2 d_end)));
  script = λ d. derive tt (d);
}

pub lists : Lists
unfolding attrs
lists = record {
  no_arguments = d_tok (d_tok d_end);
  arguments = λ d. d_tok d;
  first_argument = λ a d. d_kid a d;
  next_argument = λ a d. d_tok (d_kid a d);
  last_argument = d_tok d_end;
  no_element = d_tok d_end;
  first_element = λ a d. d_kid a d;
  next_element = λ a d. d_tok (d_kid a d);
  last_element = d_tok d_end;
  no_property = d_tok d_end;
  first_property = λ a d. d_kid a d;
  next_property = λ a d. d_tok (d_kid a d);
  last_property = d_tok d_end;
  next_in_sequence = λ a d. d_tok (d_kid a d);
  last_in_sequence = d_end;
  next_statement = λ a d. d_kid a d;
  no_statement = d_tok d_end;
  next_script_statement = λ a d. d_kid a d;
  script_end = d_end;
  init_expression = λ d. from_init d;
  init_var = λ d. from_var_init d;
  left_target = λ d. from_left d;
  left_var = λ d. from_var_in d;
  function_no_parameter = λ a. d_tok (d_tok (d_kid a d_end));
  function_first_parameter = λ a d. d_tok (d_kid a d);
  function_next_parameter = λ a d. d_tok (d_kid a d);
  function_last_parameter = λ a. d_tok (d_kid a d_end);
  arrow_no_parameter = λ a. d_tok (d_tok (d_tok (d_kid a d_end)));
  arrow_first_parameter = λ a d. d_tok (d_kid a d);
  arrow_next_parameter = λ a d. d_tok (d_kid a d);
  arrow_last_parameter = λ a. d_tok (d_tok (d_kid a d_end));
  declare_name = λ a d. from_name a d;
  declare_value = λ a b d. from_value a b d;
  next_declaration = λ d. d_tok d;
  last_declaration = d_stop (_, refl);
}
