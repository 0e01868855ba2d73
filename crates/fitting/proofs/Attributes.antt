-- A tree's attributes, from its root's form and the summary of its children.
use mathlib.Core.Path.{◌≡◌, refl, sym, ◌∙◌, ap}
use mathlib.Core.Bool.{Bool, true, false, cond, not, ◌&&◌, ◌||◌}
use mathlib.Core.List.{List, [], ◌∷◌}
use lib.Dec.{leb}
use Rattle.token.specs.declared.Code.{Code}
use Rattle.kinds.specs.Levels.{is_c, is_target}
use Rattle.kinds.specs.declared.form.Form.{Form}
use Rattle.kinds.specs.declared.form.Form.TheVariants as form
use Rattle.kinds.specs.declared.form.Constant.{Constant}
use Rattle.kinds.specs.declared.form.Constant.TheVariants as constant
use Rattle.kinds.specs.declared.form.Key.{Key}
use Rattle.kinds.specs.declared.form.Key.TheVariants as key
use Rattle.kinds.specs.declared.form.Own.{Own}
use Rattle.kinds.specs.declared.form.Own.TheVariants as own
use Rattle.kinds.specs.declared.form.Arguments.{Arguments}
use Rattle.kinds.specs.declared.form.Arguments.TheVariants as arguments
use Rattle.kinds.specs.declared.form.Link.{Link}
use Rattle.kinds.specs.declared.form.Link.TheVariants as link
use Rattle.kinds.specs.declared.form.Entry.{Entry}
use Rattle.kinds.specs.declared.form.Entry.TheVariants as entry
use Rattle.kinds.specs.declared.operator.UnaryOperator.{UnaryOperator}
use Rattle.kinds.specs.declared.operator.UnaryOperator.TheVariants as unary
use Rattle.kinds.specs.declared.operator.UpdateOperator.{UpdateOperator}
use Rattle.kinds.specs.declared.operator.UpdateOperator.TheVariants as update
use Rattle.kinds.specs.declared.operator.Side.{Side}
use Rattle.kinds.specs.declared.operator.Side.TheVariants as side
use Rattle.kinds.specs.declared.level.Slot.TheVariants as slot
use Rattle.grammar.specs.Codes.{open_paren, equals}
use Rattle.grammar.specs.Site as site
use Rattle.grammar.specs.Site.{Attr, Site, at, plain_name, valued_name, is_sort, valued}
use Rattle.grammar.specs.Layout as grammar
use Rattle.grammar.specs.Layout.{Lay, end, stop, tok, kid, child, layout, commas, listed, run, names, var_of, rest, but_last, any_open, begin_of, dangles_of, last_dangles, single_of, first_standing, is_in, attr_of}
use Rattle.fitting.specs.Traits.{traits_of}
use Rattle.fitting.specs.Traits as traits
use Rattle.fitting.specs.Summary.{number, first, last, any_bare}
use Rattle.fitting.specs.Derived.{open_of, bare, opening_of, begins, tail_of, dangling, whole_of, declares, one_name}
use Rattle.fitting.specs.declared.traits.Traits.{Traits}
use Rattle.fitting.specs.declared.traits.Begin.{Begin}
use Rattle.std.proofs.Math.Bool.{or-false, and-false}

-- Which children are inside brackets, in order.
abbrev insides : Lay → List Bool
insides end = []
insides stop = []
insides (tok c l) = insides l
insides (kid i s l) = i ∷ insides l

-- The same over the children that are there, and `absent` behind them.
abbrev open_of_leading : List Bool → List Attr → Bool
open_of_leading [] cs = false
open_of_leading (i ∷ is) cs = (not i && (first cs).bare_in) || open_of_leading is (rest cs)

none_open : (is : List Bool) → open_of_leading is [] ≡ false
none_open [] = refl
none_open (i ∷ is) = ap (λ (b : Bool). b || open_of_leading is []) (and-false (not i)) ∙ none_open is

lay_open : (l : Lay) (cs : List Attr) → open_of_leading (insides l) cs ≡ any_open l cs
lay_open end cs = refl
lay_open stop cs = refl
lay_open (tok j l) cs = lay_open l cs
lay_open (kid i s l) [] = none_open (i ∷ insides l)
lay_open (kid i s l) (c ∷ cs) = ap (λ (b : Bool). (not i && c.bare_in) || b) (lay_open l cs)

-- Lists between brackets.
commas_shut : (s : Site) (bs ds : List Attr) (l : Lay) → ((es : List Attr) → false ≡ any_open l es) → false ≡ any_open (commas true s bs l) ds
commas_shut s [] ds l h = h ds
commas_shut s (a ∷ bs) [] l h = refl
commas_shut s (a ∷ bs) (d ∷ ds) l h = commas_shut s bs ds l h

listed_shut : (s : Site) (bs ds : List Attr) (l : Lay) → ((es : List Attr) → false ≡ any_open l es) → false ≡ any_open (listed s bs l) ds
listed_shut s [] ds l h = h ds
listed_shut s (a ∷ bs) [] l h = refl
listed_shut s (a ∷ bs) (d ∷ ds) l h = commas_shut s bs ds l h

run_shut : (bs ds : List Attr) (l : Lay) → ((es : List Attr) → false ≡ any_open l es) → false ≡ any_open (run bs l) ds
run_shut [] ds l h = h ds
run_shut (a ∷ bs) [] l h = refl
run_shut (a ∷ bs) (d ∷ ds) l h = run_shut bs ds l h

heads_shut : (s t : Site) (j : Code) (bs cs : List Attr) (l : Lay) → ((es : List Attr) → false ≡ any_open l es) → (first cs).bare_in || false ≡ any_open (kid false s (tok j (listed t bs l))) cs
heads_shut s t j bs [] l h = refl
heads_shut s t j bs (c ∷ cs) l h = ap (λ (b : Bool). c.bare_in || b) (listed_shut t bs cs l h)

-- What stands behind parameters.
commas_last : (l : Lay) (c : Attr) (cs : List Attr) → any_open l (last (c ∷ cs) ∷ []) ≡ any_open (commas true plain_name (but_last (c ∷ cs)) l) (c ∷ cs)
commas_last l c [] = refl
commas_last l c (d ∷ cs) = commas_last l d cs

listed_last : (l : Lay) (c : Attr) (cs : List Attr) → any_open l (last (c ∷ cs) ∷ []) ≡ any_open (listed plain_name (but_last (c ∷ cs)) l) (c ∷ cs)
listed_last l c [] = refl
listed_last l c (d ∷ cs) = commas_last l d cs

arrow_bare : (cs : List Attr) → (last cs).bare_in ≡ any_open (layout form.Arrow cs) cs
arrow_bare [] = refl
arrow_bare (c ∷ cs) = sym (or-false (last (c ∷ cs)).bare_in) ∙ listed_last _ c cs

fn_bare : (o : Own) (cs : List Attr) → bare (open_of (form.Fn o)) cs ≡ any_open (layout (form.Fn o) cs) cs
fn_bare own.Nameless cs = listed_shut plain_name (but_last cs) cs _ (λ es. lay_open (kid true site.block_only end) es)
fn_bare own.Named [] = refl
fn_bare own.Named (c ∷ cs) = ap (λ (b : Bool). c.bare_in || b) (listed_shut plain_name (but_last cs) cs _ (λ es. lay_open (kid true site.block_only end) es))

-- Lists in the open.
commas_open : (s : Site) (cs : List Attr) → any_bare cs ≡ any_open (commas false s cs end) cs
commas_open s [] = refl
commas_open s (c ∷ cs) = ap (λ (b : Bool). c.bare_in || b) (commas_open s cs)

seq_bare : (cs : List Attr) → any_bare cs ≡ any_open (layout form.Seq cs) cs
seq_bare [] = refl
seq_bare (c ∷ []) = refl
seq_bare (c ∷ (d ∷ cs)) = ap (λ (b : Bool). c.bare_in || (d.bare_in || b)) (commas_open (at slot.Assignment) cs)

named_bare : (v : Bool) (c : Attr) (cs : List Attr) → any_bare cs ≡ any_open (names cs true) cs → any_bare cs ≡ any_open (names cs false) cs → c.bare_in || any_bare cs ≡ any_open (cond v (child valued_name (tok equals (names cs true))) (child plain_name (names cs false))) (c ∷ cs)
named_bare true c cs h g = ap (λ (b : Bool). c.bare_in || b) h
named_bare false c cs h g = ap (λ (b : Bool). c.bare_in || b) g

mutual
  values_bare : (cs : List Attr) → any_bare cs ≡ any_open (names cs true) cs
  values_bare [] = refl
  values_bare (c ∷ cs) = ap (λ (b : Bool). c.bare_in || b) (names_bare cs)

  names_bare : (cs : List Attr) → any_bare cs ≡ any_open (names cs false) cs
  names_bare [] = refl
  names_bare (c ∷ cs) = named_bare (is_sort valued c) c cs (values_bare cs) (names_bare cs)

var_bare : (cs : List Attr) → any_bare cs ≡ any_open (var_of cs) cs
var_bare [] = refl
var_bare (c ∷ cs) = named_bare (is_sort valued c) c cs (values_bare cs) (names_bare cs)

if_bare : (cs : List Attr) → bare (open_of form.If) cs ≡ any_open (layout form.If cs) cs
if_bare [] = refl
if_bare (c ∷ []) = refl
if_bare (c ∷ (d ∷ [])) = refl
if_bare (c ∷ (d ∷ (e ∷ cs))) = refl

-- A list of at most one.
lone_bare : (l : List Attr → Lay) → any_open (l []) [] ≡ false → ((c : Attr) (cs : List Attr) → any_open (l (c ∷ cs)) (c ∷ cs) ≡ c.bare_in || false) → (cs : List Attr) → (first cs).bare_in || false ≡ any_open (l cs) cs
lone_bare l h g [] = sym h
lone_bare l h g (c ∷ cs) = sym (g c cs)

prop_bare : (k : Key) (cs : List Attr) → bare (open_of (form.Prop k)) cs ≡ any_open (layout (form.Prop k) cs) cs
prop_bare key.Fixed cs = lay_open (layout (form.Prop key.Fixed) cs) cs
prop_bare key.Computed cs = lay_open (layout (form.Prop key.Computed) cs) cs

update_bare : (o : UpdateOperator) (s : Side) (cs : List Attr) → (first cs).bare_in || false ≡ any_open (layout (form.Update o s) cs) cs
update_bare o side.Before cs = lay_open (layout (form.Update o side.Before) cs) cs
update_bare o side.After cs = lay_open (layout (form.Update o side.After) cs) cs

new_bare : (a : Arguments) (cs : List Attr) → (first cs).bare_in || false ≡ any_open (layout (form.New a) cs) cs
new_bare arguments.Listed cs = heads_shut (at slot.Member) (at slot.Assignment) open_paren (rest cs) cs _ (λ es. refl)
new_bare arguments.Unlisted cs = lay_open (layout (form.New arguments.Unlisted) cs) cs

member_bare : (k : Key) (cs : List Attr) → (first cs).bare_in || false ≡ any_open (layout (form.Member k) cs) cs
member_bare key.Fixed cs = lay_open (layout (form.Member key.Fixed) cs) cs
member_bare key.Computed cs = lay_open (layout (form.Member key.Computed) cs) cs

chain_bare : (l : Link) (e : Entry) (cs : List Attr) → (first cs).bare_in || false ≡ any_open (layout (form.Chain l e) cs) cs
chain_bare link.Name entry.Optional cs = lay_open (layout (form.Chain link.Name entry.Optional) cs) cs
chain_bare link.Key entry.Optional cs = lay_open (layout (form.Chain link.Key entry.Optional) cs) cs
chain_bare link.Call entry.Optional [] = refl
chain_bare link.Call entry.Optional (c ∷ cs) = ap (λ (b : Bool). c.bare_in || b) (listed_shut (at slot.Assignment) cs cs _ (λ es. refl))
chain_bare link.Name entry.Tail cs = lay_open (layout (form.Chain link.Name entry.Tail) cs) cs
chain_bare link.Key entry.Tail cs = lay_open (layout (form.Chain link.Key entry.Tail) cs) cs
chain_bare link.Call entry.Tail cs = heads_shut (at slot.Chain) (at slot.Assignment) open_paren (rest cs) cs _ (λ es. refl)

for_bare : (i t u : Bool) (cs : List Attr) → bare (open_of (form.For i t u)) cs ≡ any_open (layout (form.For i t u) cs) cs
for_bare true true true cs = lay_open (layout (form.For true true true) cs) cs
for_bare true true false cs = lay_open (layout (form.For true true false) cs) cs
for_bare true false true cs = lay_open (layout (form.For true false true) cs) cs
for_bare true false false cs = lay_open (layout (form.For true false false) cs) cs
for_bare false true true cs = lay_open (layout (form.For false true true) cs) cs
for_bare false true false cs = lay_open (layout (form.For false true false) cs) cs
for_bare false false true cs = lay_open (layout (form.For false false true) cs) cs
for_bare false false false cs = lay_open (layout (form.For false false false) cs) cs

bared : (f : Form) (cs : List Attr) → bare (open_of f) cs ≡ any_open (layout f cs) cs
bared form.Free cs = refl
bared (form.Name b) cs = refl
bared form.Num cs = refl
bared form.Str cs = refl
bared (form.Word w) cs = refl
bared form.This cs = refl
bared form.Array cs = listed_shut (at slot.Assignment) cs cs _ (λ es. refl)
bared form.Object cs = listed_shut site.prop cs cs _ (λ es. refl)
bared (form.Prop k) cs = prop_bare k cs
bared (form.Fn o) cs = fn_bare o cs
bared form.Arrow cs = arrow_bare cs
bared (form.Unary o) cs = lay_open (layout (form.Unary o) cs) cs
bared (form.Update o s) cs = update_bare o s cs
bared (form.Bin o) cs = lay_open (layout (form.Bin o) cs) cs
bared (form.Assign o) cs = lay_open (layout (form.Assign o) cs) cs
bared form.Cond cs = lay_open (layout form.Cond cs) cs
bared form.Seq cs = seq_bare cs
bared form.Paren cs = lay_open (layout form.Paren cs) cs
bared form.Call cs = heads_shut (at slot.Call) (at slot.Assignment) open_paren (rest cs) cs _ (λ es. refl)
bared (form.New a) cs = new_bare a cs
bared (form.Member k) cs = member_bare k cs
bared (form.Chain l e) cs = chain_bare l e cs
bared form.Await cs = lay_open (layout form.Await cs) cs
bared form.Yield cs = lone_bare (layout form.Yield) refl (λ c cs. refl) cs
bared form.Script cs = run_shut cs cs _ (λ es. refl)
bared form.ExprStmt cs = lay_open (layout form.ExprStmt cs) cs
bared form.Var cs = var_bare cs
bared form.Return cs = lone_bare (layout form.Return) refl (λ c cs. refl) cs
bared form.If cs = if_bare cs
bared form.While cs = lay_open (layout form.While cs) cs
bared (form.For i t u) cs = for_bare i t u cs
bared form.ForIn cs = lay_open (layout form.ForIn cs) cs
bared form.Block cs = run_shut cs cs _ (λ es. refl)
bared form.Labeled cs = lay_open (layout form.Labeled cs) cs
bared form.Empty cs = refl
bared (form.Hole s) cs = refl

-- Beginnings.
first_begin_lem : (cs : List Attr) → (first cs).begin ≡ grammar.first_begin cs
first_begin_lem [] = refl
first_begin_lem (c ∷ cs) = refl

word_begin : (w : Constant) (cs : List Attr) → begins (opening_of (form.Word w)) cs ≡ begin_of (layout (form.Word w) cs) cs
word_begin constant.Null cs = refl
word_begin constant.True cs = refl
word_begin constant.False cs = refl

unary_begin : (o : UnaryOperator) (cs : List Attr) → begins (opening_of (form.Unary o)) cs ≡ begin_of (layout (form.Unary o) cs) cs
unary_begin unary.Minus cs = refl
unary_begin unary.Plus cs = refl
unary_begin unary.Not cs = refl
unary_begin unary.BitNot cs = refl
unary_begin unary.Typeof cs = refl
unary_begin unary.Void cs = refl
unary_begin unary.Delete cs = refl

update_begin : (o : UpdateOperator) (s : Side) (cs : List Attr) → begins (opening_of (form.Update o s)) cs ≡ begin_of (layout (form.Update o s) cs) cs
update_begin update.Increment side.Before cs = refl
update_begin update.Decrement side.Before cs = refl
update_begin o side.After cs = first_begin_lem cs

prop_begin : (k : Key) (cs : List Attr) → begins (opening_of (form.Prop k)) cs ≡ begin_of (layout (form.Prop k) cs) cs
prop_begin key.Fixed cs = first_begin_lem cs
prop_begin key.Computed cs = refl

member_begin : (k : Key) (cs : List Attr) → (first cs).begin ≡ begin_of (layout (form.Member k) cs) cs
member_begin key.Fixed cs = first_begin_lem cs
member_begin key.Computed cs = first_begin_lem cs

chain_begin : (l : Link) (e : Entry) (cs : List Attr) → (first cs).begin ≡ begin_of (layout (form.Chain l e) cs) cs
chain_begin link.Name entry.Optional cs = first_begin_lem cs
chain_begin link.Key entry.Optional cs = first_begin_lem cs
chain_begin link.Call entry.Optional cs = first_begin_lem cs
chain_begin link.Name entry.Tail cs = first_begin_lem cs
chain_begin link.Key entry.Tail cs = first_begin_lem cs
chain_begin link.Call entry.Tail cs = first_begin_lem cs

script_begin : (cs : List Attr) → (first cs).begin ≡ begin_of (layout form.Script cs) cs
script_begin [] = refl
script_begin (c ∷ cs) = refl

begun : (f : Form) (cs : List Attr) → begins (opening_of f) cs ≡ begin_of (layout f cs) cs
begun form.Free cs = refl
begun (form.Name b) cs = refl
begun form.Num cs = refl
begun form.Str cs = refl
begun (form.Word w) cs = word_begin w cs
begun form.This cs = refl
begun form.Array cs = refl
begun form.Object cs = refl
begun (form.Prop k) cs = prop_begin k cs
begun (form.Fn o) cs = refl
begun form.Arrow cs = refl
begun (form.Unary o) cs = unary_begin o cs
begun (form.Update o s) cs = update_begin o s cs
begun (form.Bin o) cs = first_begin_lem cs
begun (form.Assign o) cs = first_begin_lem cs
begun form.Cond cs = first_begin_lem cs
begun form.Seq cs = first_begin_lem cs
begun form.Paren cs = refl
begun form.Call cs = first_begin_lem cs
begun (form.New a) cs = refl
begun (form.Member k) cs = member_begin k cs
begun (form.Chain l e) cs = chain_begin l e cs
begun form.Await cs = refl
begun form.Yield cs = refl
begun form.Script cs = script_begin cs
begun form.ExprStmt cs = first_begin_lem cs
begun form.Var cs = refl
begun form.Return cs = refl
begun form.If cs = refl
begun form.While cs = refl
begun (form.For i t u) cs = refl
begun form.ForIn cs = refl
begun form.Block cs = refl
begun form.Labeled cs = first_begin_lem cs
begun form.Empty cs = refl
begun (form.Hole s) cs = refl

-- Ends.
last_dangles_lem : (cs : List Attr) → (last cs).dangles ≡ last_dangles cs
last_dangles_lem [] = refl
last_dangles_lem (c ∷ []) = refl
last_dangles_lem (c ∷ (d ∷ cs)) = last_dangles_lem (d ∷ cs)

three_up : (c d e : Attr) (cs : List Attr) → leb 3 (number (c ∷ (d ∷ (e ∷ cs)))) ≡ true
three_up c d e [] = refl
three_up c d e (f ∷ []) = refl
three_up c d e (f ∷ (g ∷ cs)) = refl

if_dangles_lem : (cs : List Attr) → dangling (tail_of form.If) cs ≡ dangles_of form.If cs
if_dangles_lem [] = refl
if_dangles_lem (c ∷ []) = refl
if_dangles_lem (c ∷ (d ∷ [])) = refl
if_dangles_lem (c ∷ (d ∷ (e ∷ cs))) = ap (λ (b : Bool). cond b (last (e ∷ cs)).dangles true) (three_up c d e cs) ∙ last_dangles_lem (e ∷ cs)

dangled : (f : Form) (cs : List Attr) → dangling (tail_of f) cs ≡ dangles_of f cs
dangled form.Free cs = refl
dangled (form.Name b) cs = refl
dangled form.Num cs = refl
dangled form.Str cs = refl
dangled (form.Word w) cs = refl
dangled form.This cs = refl
dangled form.Array cs = refl
dangled form.Object cs = refl
dangled (form.Prop k) cs = refl
dangled (form.Fn o) cs = refl
dangled form.Arrow cs = refl
dangled (form.Unary o) cs = refl
dangled (form.Update o s) cs = refl
dangled (form.Bin o) cs = refl
dangled (form.Assign o) cs = refl
dangled form.Cond cs = refl
dangled form.Seq cs = refl
dangled form.Paren cs = refl
dangled form.Call cs = refl
dangled (form.New a) cs = refl
dangled (form.Member k) cs = refl
dangled (form.Chain l e) cs = refl
dangled form.Await cs = refl
dangled form.Yield cs = refl
dangled form.Script cs = refl
dangled form.ExprStmt cs = refl
dangled form.Var cs = refl
dangled form.Return cs = refl
dangled form.If cs = if_dangles_lem cs
dangled form.While cs = last_dangles_lem cs
dangled (form.For i t u) cs = last_dangles_lem cs
dangled form.ForIn cs = last_dangles_lem cs
dangled form.Block cs = refl
dangled form.Labeled cs = last_dangles_lem cs
dangled form.Empty cs = refl
dangled (form.Hole s) cs = refl

one_name_lem : (cs : List Attr) → one_name cs ≡ grammar.one_name cs
one_name_lem [] = refl
one_name_lem (c ∷ []) = refl
one_name_lem (c ∷ (d ∷ [])) = refl
one_name_lem (c ∷ (d ∷ (e ∷ []))) = refl
one_name_lem (c ∷ (d ∷ (e ∷ (f ∷ [])))) = refl
one_name_lem (c ∷ (d ∷ (e ∷ (f ∷ (g ∷ cs))))) = refl

singled : (f : Form) (cs : List Attr) → whole_of f || (declares f && one_name cs) ≡ single_of f cs
singled form.Free cs = refl
singled (form.Name b) cs = or-false (grammar.is_plain b)
singled form.Num cs = refl
singled form.Str cs = refl
singled (form.Word w) cs = refl
singled form.This cs = refl
singled form.Array cs = refl
singled form.Object cs = refl
singled (form.Prop k) cs = refl
singled (form.Fn o) cs = refl
singled form.Arrow cs = refl
singled (form.Unary o) cs = refl
singled (form.Update o s) cs = refl
singled (form.Bin o) cs = refl
singled (form.Assign o) cs = refl
singled form.Cond cs = refl
singled form.Seq cs = refl
singled form.Paren cs = refl
singled form.Call cs = refl
singled (form.New a) cs = refl
singled (form.Member k) cs = refl
singled (form.Chain l e) cs = refl
singled form.Await cs = refl
singled form.Yield cs = refl
singled form.Script cs = refl
singled form.ExprStmt cs = refl
singled form.Var cs = one_name_lem cs
singled form.Return cs = refl
singled form.If cs = refl
singled form.While cs = refl
singled (form.For i t u) cs = refl
singled form.ForIn cs = refl
singled form.Block cs = refl
singled form.Labeled cs = refl
singled form.Empty cs = refl
singled (form.Hole s) cs = refl

first_call : (cs : List Attr) → is_c (first cs).standing ≡ is_c (first_standing cs)
first_call [] = refl
first_call (c ∷ cs) = refl

first_target : (cs : List Attr) → is_target (first cs).standing ≡ is_target (first_standing cs)
first_target [] = refl
first_target (c ∷ cs) = refl

-- all of them together
pub attributes : (f : Form) (cs : List Attr) (x : Traits) → traits_of x ≡ first cs → (c t i d n : Bool) (b : Begin) → c ≡ is_c (traits_of x).standing → t ≡ is_target (traits_of x).standing → i ≡ is_in f || bare (open_of f) cs → traits.begin_of b ≡ begins (opening_of f) cs → d ≡ dangling (tail_of f) cs → n ≡ whole_of f || (declares f && one_name cs) → traits_of (record { form = f; over_call = c; over_target = t; bare_in = i; begin = b; dangles = d; single = n }) ≡ attr_of f cs
attributes f cs x ex c t i d n b ec et ei eb ed en =
    let hc : c ≡ is_c (first_standing cs) = ec ∙ ap (λ (a : Attr). is_c a.standing) ex ∙ first_call cs in
    let ht : t ≡ is_target (first_standing cs) = et ∙ ap (λ (a : Attr). is_target a.standing) ex ∙ first_target cs in
    let hi : i ≡ is_in f || any_open (layout f cs) cs = ei ∙ ap (λ (z : Bool). is_in f || z) (bared f cs) in
    let hb : traits.begin_of b ≡ begin_of (layout f cs) cs = eb ∙ begun f cs in
    let hd : d ≡ dangles_of f cs = ed ∙ dangled f cs in
    let hn : n ≡ single_of f cs = en ∙ singled f cs in
    rw (hc, ht, hi, hb, hd, hn) refl
