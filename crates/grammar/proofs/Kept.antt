-- Every script of the reader keeps its promise: the tables of what each form writes, and of what each token begins, side by side.
use mathlib.Core.Path.{◌≡◌, refl}
use mathlib.Core.List.{List, [], ◌∷◌}
use mathlib.Core.Bool.{Bool, true, false, cond, ◌&&◌}
use lib.Dec.{eqb}
use Rattle.token.specs.declared.Token.{Token}
use Rattle.token.specs.declared.Code.{Code}
use Rattle.token.specs.declared.Code.TheVariants as code
use Rattle.token.specs.declared.word.Word.{Word}
use Rattle.token.specs.declared.word.Word.TheVariants as word
use Rattle.token.specs.declared.punctuator.Punctuator.{Punctuator}
use Rattle.token.specs.declared.punctuator.Punctuator.TheVariants as punctuator
use Rattle.token.specs.declared.operator.Operator.{Operator}
use Rattle.token.specs.declared.operator.Operator.TheVariants as operator
use Rattle.kinds.specs.Levels.{Standing, is_o}
use Rattle.kinds.specs.declared.form.Form.{Form}
use Rattle.kinds.specs.declared.form.Form.TheVariants as form
use Rattle.kinds.specs.declared.form.Binding.TheVariants as binding
use Rattle.kinds.specs.declared.form.Key.TheVariants as key
use Rattle.kinds.specs.declared.form.Link.TheVariants as link
use Rattle.kinds.specs.declared.form.Entry.TheVariants as entry
use Rattle.kinds.specs.declared.level.Slot.{Slot}
use Rattle.kinds.specs.declared.level.Slot.TheVariants as slot
use Rattle.grammar.specs.Codes.{open_paren, close_paren, open_bracket, close_bracket, semicolon, dot, arrow, equals, word_for}
use Rattle.grammar.specs.Site.{Attr, declaration, is_sort, is_other, Site, at, stmt, init, var_init, var_in, prop, plain_name, sort_rank, in_head}
use Rattle.grammar.specs.Tree.{Tree, Forest, nil, ◌▸◌, ◌⊕◌}
use Rattle.grammar.specs.Layout.{Lay, end, tok, child, commas, listed, run, but_last, var_of, part, names as names_of, sort_of, attr, attrs, code_begin, stopped, fill, wr, wrs}
use Rattle.grammar.specs.Parser.{Goal, ex, stm, blk, dec, prp, nam, scr, Do, fin, starts, skip, opens, tail_of, opening, word_do, punctuator_do, operator_do, expr_do, stm_do, stm_opening, stm_word, stm_punctuator, arrow_do, paren_do, plain_do, for_test, in_or, prefix, frame_do, After, operates, assigns, counts, separates, asks, names_it, keys, calls, links, ends, cannot}
use Rattle.grammar.proofs.Promises.{written, run_text, comma_text, list_text, Declared, bare, given, declared_kids, declared_text, all_kids, all_text, Promises, either}

-- Lists, written.
commas_text : (h i : Bool) (s : Site) (cs : List Attr) (us vs : Forest) (ls : Lay) (k : List Code) → cs ≡ attrs us → fill h (commas i s cs ls) (wrs (us ⊕ vs)) k ≡ comma_text (in_head s) us (fill h ls (wrs vs) k)
unfolding attrs wrs
commas_text h i s cs us vs ls k e = rw e (go us)
  where
    go : (us : Forest) → fill h (commas i s (attrs us) ls) (wrs (us ⊕ vs)) k ≡ comma_text (in_head s) us (fill h ls (wrs vs) k)
    go nil = refl
    go (u ▸ us) = rw (go us)

listed_text : (h : Bool) (s : Site) (cs : List Attr) (us vs : Forest) (ls : Lay) (k : List Code) → cs ≡ attrs us → fill h (listed s cs ls) (wrs (us ⊕ vs)) k ≡ list_text (in_head s) us (fill h ls (wrs vs) k)
unfolding attrs wrs
listed_text h s cs us vs ls k e = rw e (go us)
  where
    go : (us : Forest) → fill h (listed s (attrs us) ls) (wrs (us ⊕ vs)) k ≡ list_text (in_head s) us (fill h ls (wrs vs) k)
    go nil = refl
    go (u ▸ us) = rw (commas_text h true s (attrs us) us vs ls k refl)

run_text_lem : (h : Bool) (us : Forest) (ls : Lay) (k : List Code) → fill h (run (attrs (us ⊕ nil)) ls) (wrs (us ⊕ nil)) k ≡ run_text us (fill h ls [] k)
unfolding attrs wrs
run_text_lem h nil ls k = refl
run_text_lem h (u ▸ us) ls k = rw (run_text_lem h us ls k)

attrs_nil : (us : Forest) → attrs (us ⊕ nil) ≡ attrs us
unfolding attrs
attrs_nil nil = refl
attrs_nil (u ▸ us) = rw (attrs_nil us)

attrs_last : (us : Forest) (v : Tree) → but_last (attrs (us ⊕ (v ▸ nil))) ≡ attrs us
unfolding attrs
attrs_last nil v = refl
attrs_last (u ▸ nil) v = refl
attrs_last (u ▸ (w ▸ us)) v = rw (attrs_last (w ▸ us) v)

-- The Names of a Var, written.
declared_text_lem : (h : Bool) (d : Declared) (us : Forest) (k x : List Code) → fill h (names_of (attrs us) false) (wrs us) k ≡ x → fill h (var_of (attrs (declared_kids d us))) (wrs (declared_kids d us)) k ≡ declared_text d x
unfolding attrs wrs
declared_text_lem h (bare u i) us k x e = rw (i, e)
declared_text_lem h (given u v i) us k x e = rw (i, e)

names_text : (h : Bool) (ds : List Declared) (k : List Code) → fill h (names_of (attrs (all_kids ds nil)) false) (wrs (all_kids ds nil)) k ≡ all_text ds (stopped h k)
unfolding attrs wrs
names_text h [] k = refl
names_text h (bare u i ∷ ds) k = rw (declared_text_lem h (bare u i) (all_kids ds nil) k _ (names_text h ds k))
names_text h (given u v i ∷ ds) k = rw (declared_text_lem h (given u v i) (all_kids ds nil) k _ (names_text h ds k))

var_text : (h : Bool) (d : Declared) (ds : List Declared) (k : List Code) → fill h (var_of (attrs (declared_kids d (all_kids ds nil)))) (wrs (declared_kids d (all_kids ds nil))) k ≡ declared_text d (all_text ds (stopped h k))
var_text h d ds k = declared_text_lem h d (all_kids ds nil) k _ (names_text h ds k)

fins : (q : Goal) (ks : List Token) (U : Forest → Forest) (X : List Code → List Code) (b : Bool) (f g : Form) → Promises q ks U X (fin f) → Promises q ks U X (fin g) → Promises q ks U X (fin (cond b f g))
fins q ks U X true f g h k = h
fins q ks U X false f g h k = k

-- Expressions.
abbrev Begins : Goal → List Token → Do → Type 0
Begins q ks s = Promises q ks (λ us. us) (λ k. k) s

module _ (p : Slot) (ks : List Token) where
  word_keeps : (w : Word) → Begins (ex p) ks (word_do w)
  unfolding attrs wrs
  word_keeps word.Null = (λ k. refl, refl)
  word_keeps word.True = (λ k. refl, refl)
  word_keeps word.False = (λ k. refl, refl)
  word_keeps word.This = (λ k. refl, refl)
  word_keeps word.Function = (λ e us js u ls i. (λ k. rw (listed_text false plain_name _ us (u ▸ nil) _ k (attrs_last us u)), refl), λ e v is j us js u ls i. (λ k. rw (listed_text false plain_name _ us (u ▸ nil) _ k (attrs_last us u)), refl))
  word_keeps word.Typeof = λ u js i. (λ k. refl, refl)
  word_keeps word.Void = λ u js i. (λ k. refl, refl)
  word_keeps word.Delete = λ u js i. (λ k. refl, refl)
  word_keeps word.In = tt
  word_keeps word.Instanceof = tt
  word_keeps word.New = λ u js i. (λ e us ls. (λ k. rw (listed_text false (at slot.Assignment) _ us nil _ k (attrs_nil us)), refl), λ e. (λ k. refl, refl))
  word_keeps word.Await = λ u js i. (λ k. refl, refl)
  word_keeps word.Yield = (λ u js i. (λ k. refl, refl), (λ k. refl, refl))
  word_keeps word.Var = tt
  word_keeps word.Return = tt
  word_keeps word.If = tt
  word_keeps word.Else = tt
  word_keeps word.While = tt
  word_keeps word.For = tt

  punctuator_keeps : (o : Punctuator) (js : List Token) → Begins (ex p) ks (punctuator_do o js)
  unfolding attrs wrs
  punctuator_keeps punctuator.OpenParen js = either (ex p) ks (λ us. us) (λ k. k) (starts arrow (skip 0 js)) arrow_do paren_do (λ e us ls. (λ e u is i. (λ k. rw (listed_text false plain_name _ us (u ▸ nil) _ k (attrs_last us u)), refl), λ e u is i. (λ k. rw (listed_text false plain_name _ us (u ▸ nil) _ k (attrs_last us u)), refl))) (λ e u ls i. (λ k. refl, refl))
  punctuator_keeps punctuator.CloseParen js = tt
  punctuator_keeps punctuator.OpenBracket js = λ us ls. (λ k. rw (listed_text false (at slot.Assignment) _ us nil _ k (attrs_nil us)), refl)
  punctuator_keeps punctuator.CloseBracket js = tt
  punctuator_keeps punctuator.OpenBrace js = λ us ls. (λ k. rw (listed_text false prop _ us nil _ k (attrs_nil us)), refl)
  punctuator_keeps punctuator.CloseBrace js = tt
  punctuator_keeps punctuator.Semicolon js = tt
  punctuator_keeps punctuator.Comma js = tt
  punctuator_keeps punctuator.Dot js = tt
  punctuator_keeps punctuator.Colon js = tt
  punctuator_keeps punctuator.Question js = tt
  punctuator_keeps punctuator.QuestionDot js = tt
  punctuator_keeps punctuator.Arrow js = tt

  operator_keeps : (o : Operator) → Begins (ex p) ks (operator_do o)
  unfolding attrs wrs
  operator_keeps operator.Not = λ u js i. (λ k. refl, refl)
  operator_keeps operator.BitNot = λ u js i. (λ k. refl, refl)
  operator_keeps operator.Increment = λ u js i. (λ k. refl, refl)
  operator_keeps operator.Decrement = λ u js i. (λ k. refl, refl)
  operator_keeps operator.Plus = λ u js i. (λ k. refl, refl)
  operator_keeps operator.Minus = λ u js i. (λ k. refl, refl)
  operator_keeps operator.Multiply = tt
  operator_keeps operator.Divide = tt
  operator_keeps operator.Remainder = tt
  operator_keeps operator.Exponent = tt
  operator_keeps operator.LeftShift = tt
  operator_keeps operator.RightShift = tt
  operator_keeps operator.UnsignedRightShift = tt
  operator_keeps operator.Less = tt
  operator_keeps operator.LessOrEqual = tt
  operator_keeps operator.Greater = tt
  operator_keeps operator.GreaterOrEqual = tt
  operator_keeps operator.Equal = tt
  operator_keeps operator.NotEqual = tt
  operator_keeps operator.StrictEqual = tt
  operator_keeps operator.StrictNotEqual = tt
  operator_keeps operator.BitAnd = tt
  operator_keeps operator.BitXor = tt
  operator_keeps operator.BitOr = tt
  operator_keeps operator.And = tt
  operator_keeps operator.Or = tt
  operator_keeps operator.Coalesce = tt

  opening_keeps : (c : Code) (js : List Token) → Begins (ex p) ks (opening c js)
  unfolding attrs wrs
  opening_keeps code.Name js = (λ k. refl, refl)
  opening_keeps code.Number js = (λ k. refl, refl)
  opening_keeps code.String js = (λ k. refl, refl)
  opening_keeps (code.Word w) js = word_keeps w
  opening_keeps (code.Punctuator o) js = punctuator_keeps o js
  opening_keeps (code.Operator o) js = operator_keeps o
  opening_keeps (code.AssignOperator o) js = tt

expr_keeps : (p : Slot) (ks : List Token) → Begins (ex p) ks (expr_do ks)
expr_keeps p [] = tt
expr_keeps p (k ∷ ks) = opening_keeps p (k ∷ ks) k.code ks

-- Statements. What is written of a For from the first `;` on.
abbrev for_text : Bool → Bool → Forest → List Code → List Code
for_text t u us k = fill false (tok semicolon (part t (at slot.Expression) (tok semicolon (part u (at slot.Expression) (tok close_paren (child stmt end)))))) (wrs us) k

for_keeps : (i : Bool) (ks : List Token) (U : Forest → Forest) (X : List Code → List Code) → ((t u : Bool) (us : Forest) (k : List Code) → X (for_text t u us k) ≡ written false (form.For i t u) (U us) k) → Promises stm ks U X (for_test i)
unfolding wrs
for_keeps i ks U X h = (λ e. (λ e v js j. (h false false (v ▸ nil), tt), λ e u js j v ls l. (h false true (u ▸ (v ▸ nil)), tt)), λ e t is z. (λ e v js j. (h true false (t ▸ (v ▸ nil)), tt), λ e u js j v ls l. (h true true (t ▸ (u ▸ (v ▸ nil))), tt)))

in_init : (b c : Bool) → b ≡ c → in_head (cond b var_init init) ≡ c
in_init true c e = e
in_init false c e = e

in_left : (b c : Bool) → b ≡ c → in_head (cond b var_in (at slot.Target)) ≡ c
in_left true c e = e
in_left false c e = e

first_keeps : (c : Bool) (u : Tree) (ks : List Token) → is_sort declaration (attr u) ≡ c → Promises stm ks (λ us. u ▸ us) (λ k. word_for ∷ (open_paren ∷ wr c u k)) in_or
unfolding attrs wrs
first_keeps c u ks i = (λ e v js j w ls l. (λ k. cc (in_left (is_sort declaration (attr u)) c i), tt), λ e. for_keeps true ks (λ us. u ▸ us) (λ k. word_for ∷ (open_paren ∷ wr c u k)) (λ t x us k. cc (in_init (is_sort declaration (attr u)) c i)))

module _ (ks : List Token) where
  stm_word_keeps : (w : Word) → Begins stm ks (stm_word w)
  unfolding attrs wrs
  stm_word_keeps word.Null = tt
  stm_word_keeps word.True = tt
  stm_word_keeps word.False = tt
  stm_word_keeps word.This = tt
  stm_word_keeps word.Function = tt
  stm_word_keeps word.Typeof = tt
  stm_word_keeps word.Void = tt
  stm_word_keeps word.Delete = tt
  stm_word_keeps word.In = tt
  stm_word_keeps word.Instanceof = tt
  stm_word_keeps word.New = tt
  stm_word_keeps word.Await = tt
  stm_word_keeps word.Yield = tt
  stm_word_keeps word.Var = λ d ds js. (λ k. rw (var_text false d ds k), tt)
  stm_word_keeps word.Return = (λ e. (λ k. refl, tt), λ e u js i. (λ k. refl, tt))
  stm_word_keeps word.If = λ u js i v ls j. (λ e w is l. (λ k. refl, tt), λ e. (λ k. refl, tt))
  stm_word_keeps word.Else = tt
  stm_word_keeps word.While = λ u js i v ls j. (λ k. refl, tt)
  stm_word_keeps word.For = (λ e. for_keeps false (tail_of (tail_of ks)) (λ us. us) (λ k. word_for ∷ (open_paren ∷ k)) (λ t u us k. refl), λ e. (λ e u js i. first_keeps true u js i, λ e u js i. first_keeps false u js i))

  stm_punctuator_keeps : (o : Punctuator) → Begins stm ks (stm_punctuator o)
  unfolding attrs wrs
  stm_punctuator_keeps punctuator.OpenParen = tt
  stm_punctuator_keeps punctuator.CloseParen = tt
  stm_punctuator_keeps punctuator.OpenBracket = tt
  stm_punctuator_keeps punctuator.CloseBracket = tt
  stm_punctuator_keeps punctuator.OpenBrace = λ us js. (λ k. rw (run_text_lem false us _ k), tt)
  stm_punctuator_keeps punctuator.CloseBrace = tt
  stm_punctuator_keeps punctuator.Semicolon = (λ k. refl, tt)
  stm_punctuator_keeps punctuator.Comma = tt
  stm_punctuator_keeps punctuator.Dot = tt
  stm_punctuator_keeps punctuator.Colon = tt
  stm_punctuator_keeps punctuator.Question = tt
  stm_punctuator_keeps punctuator.QuestionDot = tt
  stm_punctuator_keeps punctuator.Arrow = tt

  stm_opening_keeps : (c : Code) → Begins stm ks (stm_opening c)
  stm_opening_keeps code.Name = tt
  stm_opening_keeps code.Number = tt
  stm_opening_keeps code.String = tt
  stm_opening_keeps (code.Word w) = stm_word_keeps w
  stm_opening_keeps (code.Punctuator o) = stm_punctuator_keeps o
  stm_opening_keeps (code.Operator o) = tt
  stm_opening_keeps (code.AssignOperator o) = tt

stm_keeps : (ks : List Token) → Begins stm ks (stm_do ks)
unfolding attrs wrs
stm_keeps [] = tt
stm_keeps (k ∷ ks) = either stm (k ∷ ks) (λ us. us) (λ k. k) (opens k.code && is_other (code_begin k.code)) plain_do (stm_opening k.code) (λ e u js i. (λ e v ls j. (λ k. refl, tt), λ e. (λ k. refl, tt))) (λ e. stm_opening_keeps (k ∷ ks) k.code)

known_name : (b : Bool) → eqb 5 (sort_rank (sort_of (form.Name (cond b binding.Valued binding.Plain)))) ≡ b
known_name true = refl
known_name false = refl

pub prefix_keeps : (q : Goal) (ks : List Token) → Begins q ks (prefix q ks)
unfolding attrs wrs
prefix_keeps (ex p) ks = expr_keeps p ks
prefix_keeps stm ks = stm_keeps ks
prefix_keeps blk ks = λ us js. (λ k. rw (run_text_lem false us _ k), tt)
prefix_keeps dec ks = λ d ds js. (λ k. rw (var_text true d ds k), refl)
prefix_keeps prp ks = (λ e u js i v ls j. (λ k. refl, tt), λ e u js i v ls j. (λ k. refl, tt))
prefix_keeps nam ks = (λ k. refl, known_name (starts equals (tail_of ks)))
prefix_keeps scr ks = λ us js. (λ k. rw (run_text_lem false us end k), tt)

-- Behind an expression t.
pub frame_keeps : (p : Slot) (ks : List Token) (t : Tree) (a : After) (s : Standing) → Promises (ex p) ks (λ us. t ▸ us) (λ k. wr false t k) (frame_do a s)
unfolding attrs wrs
frame_keeps p ks t (operates o) s = λ u js i. (λ k. refl, refl)
frame_keeps p ks t (assigns o) s = λ u js i. (λ k. refl, refl)
frame_keeps p ks t (counts o) s = (λ k. refl, refl)
frame_keeps p ks t separates s = λ u js i us ls. (λ k. rw (commas_text false false (at slot.Assignment) _ us nil _ k (attrs_nil us)), refl)
frame_keeps p ks t asks s = λ u js i v ls j. (λ k. refl, refl)
frame_keeps p ks t names_it s = λ u js i. fins (ex p) js (λ us. t ▸ (u ▸ us)) (λ k. wr false t (dot ∷ wr false u k)) (is_o s) (form.Chain link.Name entry.Tail) (form.Member key.Fixed) (λ k. refl, refl) (λ k. refl, refl)
frame_keeps p ks t keys s = λ u js i. fins (ex p) (tail_of js) (λ us. t ▸ (u ▸ us)) (λ k. wr false t (open_bracket ∷ wr false u (close_bracket ∷ k))) (is_o s) (form.Chain link.Key entry.Tail) (form.Member key.Computed) (λ k. refl, refl) (λ k. refl, refl)
frame_keeps p ks t calls s = λ us js. fins (ex p) (tail_of js) (λ vs. t ▸ (us ⊕ vs)) (λ k. wr false t (open_paren ∷ list_text false us (close_paren ∷ k))) (is_o s) (form.Chain link.Call entry.Tail) form.Call (λ k. rw (listed_text false (at slot.Assignment) _ us nil _ k (attrs_nil us)), refl) (λ k. rw (listed_text false (at slot.Assignment) _ us nil _ k (attrs_nil us)), refl)
frame_keeps p ks t links s = (λ e us js. (λ k. rw (listed_text false (at slot.Assignment) _ us nil _ k (attrs_nil us)), refl), λ e. (λ e u js i. (λ k. refl, refl), λ e u js i. (λ k. refl, refl)))
frame_keeps p ks t ends s = tt
frame_keeps p ks t cannot s = tt
