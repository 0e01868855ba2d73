-- What a form asks of its children is what its layout does.
use mathlib.Core.Path.{◌≡◌, refl, sym, ◌∙◌, ap}
use mathlib.Core.Bool.{Bool, true, false, cond, ◌&&◌}
use mathlib.Core.List.{List, [], ◌∷◌}
use lib.Dec.{leb}
use Rattle.token.specs.declared.Code.{Code}
use Rattle.kinds.specs.declared.form.Form.{Form}
use Rattle.kinds.specs.declared.form.Form.TheVariants as form
use Rattle.kinds.specs.declared.form.Key.{Key}
use Rattle.kinds.specs.declared.form.Key.TheVariants as key
use Rattle.kinds.specs.declared.form.Own.{Own}
use Rattle.kinds.specs.declared.form.Own.TheVariants as own
use Rattle.kinds.specs.declared.form.Arguments.{Arguments}
use Rattle.kinds.specs.declared.form.Arguments.TheVariants as arguments
use Rattle.kinds.specs.declared.form.Link.{Link}
use Rattle.kinds.specs.declared.form.Link.TheVariants as link
use Rattle.kinds.specs.declared.form.Entry.{Entry}
use Rattle.kinds.specs.declared.form.Entry.TheVariants as entry
use Rattle.kinds.specs.declared.operator.UpdateOperator.{UpdateOperator}
use Rattle.kinds.specs.declared.operator.Side.{Side}
use Rattle.kinds.specs.declared.operator.Side.TheVariants as side
use Rattle.kinds.specs.declared.level.Slot.TheVariants as slot
use Rattle.grammar.specs.Codes.{open_paren, close_paren, close_bracket, close_brace, equals, arrow}
use Rattle.grammar.specs.Site.{Attr, Site, at, stmt, body, block_only, prop, plain_name, valued_name, is_sort, valued, ok}
use Rattle.grammar.specs.Layout.{Lay, end, stop, tok, kid, child, layout, fit_kids, commas, listed, run, names, var_of, rest, but_last}
use Rattle.fitting.specs.Summary.{number, last, every, declared}
use Rattle.fitting.specs.Sites.{fit_sites, heads, ends, is_complete, asks}
use Rattle.fitting.specs.declared.summary.Declared.TheVariants.{Nothing, Complete, Unvalued, Wrong}
use Rattle.std.proofs.Math.Bool.{and_assoc, and-true, and-false}

abbrev sites : Lay → List Site
sites end = []
sites stop = []
sites (tok c l) = sites l
sites (kid i s l) = s ∷ sites l

lay_sites : (l : Lay) (cs : List Attr) → fit_sites (sites l) cs ≡ fit_kids l cs
lay_sites end [] = refl
lay_sites end (c ∷ cs) = refl
lay_sites stop [] = refl
lay_sites stop (c ∷ cs) = refl
lay_sites (tok j l) cs = lay_sites l cs
lay_sites (kid i s l) [] = refl
lay_sites (kid i s l) (c ∷ cs) = ap (λ (b : Bool). ok s c && b) (lay_sites l cs)

commas_all : (i : Bool) (s : Site) (c : Code) (cs : List Attr) → every s cs ≡ fit_kids (commas i s cs (tok c end)) cs
commas_all i s c [] = refl
commas_all i s c (x ∷ cs) = ap (λ (b : Bool). ok s x && b) (commas_all i s c cs)

-- and without a token behind the last
commas_end : (i : Bool) (s : Site) (cs : List Attr) → every s cs ≡ fit_kids (commas i s cs end) cs
commas_end i s [] = refl
commas_end i s (x ∷ cs) = ap (λ (b : Bool). ok s x && b) (commas_end i s cs)

listed_all : (s : Site) (c : Code) (cs : List Attr) → every s cs ≡ fit_kids (listed s cs (tok c end)) cs
listed_all s c [] = refl
listed_all s c (x ∷ cs) = ap (λ (b : Bool). ok s x && b) (commas_all true s c cs)

run_all : (c : Code) (cs : List Attr) → every stmt cs ≡ fit_kids (run cs (tok c end)) cs
run_all c [] = refl
run_all c (x ∷ cs) = ap (λ (b : Bool). ok stmt x && b) (run_all c cs)

run_end : (cs : List Attr) → every stmt cs ≡ fit_kids (run cs end) cs
run_end [] = refl
run_end (x ∷ cs) = ap (λ (b : Bool). ok stmt x && b) (run_end cs)

-- parameters, and what stands behind them
commas_but : (l : Lay) (c : Attr) (cs : List Attr) → every plain_name (but_last (c ∷ cs)) && fit_kids l (last (c ∷ cs) ∷ []) ≡ fit_kids (commas true plain_name (but_last (c ∷ cs)) l) (c ∷ cs)
commas_but l c [] = refl
commas_but l c (d ∷ cs) = (and_assoc (ok plain_name c) (every plain_name (but_last (d ∷ cs))) (fit_kids l (last (d ∷ cs) ∷ []))) ∙ ap (λ (b : Bool). ok plain_name c && b) (commas_but l d cs)

listed_but : (l : Lay) (c : Attr) (cs : List Attr) → every plain_name (but_last (c ∷ cs)) && fit_kids l (last (c ∷ cs) ∷ []) ≡ fit_kids (listed plain_name (but_last (c ∷ cs)) l) (c ∷ cs)
listed_but l c [] = refl
listed_but l c (d ∷ cs) = (and_assoc (ok plain_name c) (every plain_name (but_last (d ∷ cs))) (fit_kids l (last (d ∷ cs) ∷ []))) ∙ ap (λ (b : Bool). ok plain_name c && b) (commas_but l d cs)

ends_is : (s : Site) (l : Lay) → ((x : Attr) → ok s x ≡ fit_kids l (x ∷ [])) → (c : Attr) (cs : List Attr) → ends s (c ∷ cs) ≡ fit_kids (listed plain_name (but_last (c ∷ cs)) l) (c ∷ cs)
ends_is s l h c cs = ap (λ (b : Bool). every plain_name (but_last (c ∷ cs)) && b) (h (last (c ∷ cs))) ∙ listed_but l c cs

heads_is : (i : Bool) (s : Site) (j k : Code) (cs : List Attr) → heads s cs ≡ fit_kids (kid i s (tok j (listed (at slot.Assignment) (rest cs) (tok k end)))) cs
heads_is i s j k [] = refl
heads_is i s j k (c ∷ cs) = ap (λ (b : Bool). ok s c && b) (listed_all (at slot.Assignment) k cs)

-- the Names and values of a Var
wrong : (cs : List Attr) → is_complete (declared Wrong cs) ≡ false
wrong [] = refl
wrong (c ∷ cs) = wrong cs

value_by : (b : Bool) (cs : List Attr) (r : Bool) → is_complete (declared Complete cs) ≡ r → is_complete (declared (cond b Complete Wrong) cs) ≡ b && r
value_by true cs r e = e
value_by false cs r e = wrong cs

named_by : (v b : Bool) (c : Attr) (cs : List Attr) → is_sort valued c ≡ v → ok plain_name c ≡ b → is_complete (declared Unvalued cs) ≡ fit_kids (names cs true) cs → is_complete (declared Complete cs) ≡ fit_kids (names cs false) cs → is_complete (declared (cond v Unvalued (cond b Complete Wrong)) cs) ≡ fit_kids (cond v (child valued_name (tok equals (names cs true))) (child plain_name (names cs false))) (c ∷ cs)
named_by true b c cs ev eb h g = h ∙ sym (ap (λ (z : Bool). z && fit_kids (names cs true) cs) ev)
named_by false b c cs ev eb h g = value_by b cs (fit_kids (names cs false) cs) g ∙ sym (ap (λ (z : Bool). z && fit_kids (names cs false) cs) eb)

mutual
  values_are : (cs : List Attr) → is_complete (declared Unvalued cs) ≡ fit_kids (names cs true) cs
  values_are [] = refl
  values_are (c ∷ cs) = value_by (ok (at slot.Assignment) c) cs (fit_kids (names cs false) cs) (names_are cs)

  names_are : (cs : List Attr) → is_complete (declared Complete cs) ≡ fit_kids (names cs false) cs
  names_are [] = refl
  names_are (c ∷ cs) = named_by (is_sort valued c) (ok plain_name c) c cs refl refl (values_are cs) (names_are cs)

var_is : (cs : List Attr) → is_complete (declared Nothing cs) ≡ fit_kids (var_of cs) cs
var_is [] = refl
var_is (c ∷ cs) = named_by (is_sort valued c) (ok plain_name c) c cs refl refl (values_are cs) (names_are cs)

-- two or more
many : (c d : Attr) (cs : List Attr) → leb 2 (number (c ∷ (d ∷ cs))) ≡ true
many c d [] = refl
many c d (e ∷ []) = refl
many c d (e ∷ (f ∷ [])) = refl
many c d (e ∷ (f ∷ (g ∷ cs))) = refl

fn_is : (o : Own) (cs : List Attr) → asks (form.Fn o) cs ≡ fit_kids (layout (form.Fn o) cs) cs
fn_is own.Nameless [] = refl
fn_is own.Nameless (c ∷ cs) = ends_is block_only (tok close_paren (kid true block_only end)) (λ x. sym (and-true (ok block_only x))) c cs
fn_is own.Named [] = refl
fn_is own.Named (c ∷ []) = sym (and-false (ok plain_name c))
fn_is own.Named (c ∷ (d ∷ cs)) = ap (λ (b : Bool). b && ends block_only (c ∷ (d ∷ cs))) (many c d cs) ∙ (and_assoc (ok plain_name c) (every plain_name (but_last (d ∷ cs))) (ok block_only (last (d ∷ cs)))) ∙ ap (λ (b : Bool). ok plain_name c && b) (fn_is own.Nameless (d ∷ cs))

arrow_is : (cs : List Attr) → asks form.Arrow cs ≡ fit_kids (layout form.Arrow cs) cs
arrow_is [] = refl
arrow_is (c ∷ cs) = ends_is body (tok close_paren (tok arrow (child body end))) (λ x. sym (and-true (ok body x))) c cs

seq_is : (cs : List Attr) → asks form.Seq cs ≡ fit_kids (layout form.Seq cs) cs
seq_is [] = refl
seq_is (c ∷ []) = sym (and-false (ok (at slot.Assignment) c))
seq_is (c ∷ (d ∷ cs)) = ap (λ (b : Bool). b && every (at slot.Assignment) (c ∷ (d ∷ cs))) (many c d cs) ∙ ap (λ (b : Bool). ok (at slot.Assignment) c && (ok (at slot.Assignment) d && b)) (commas_end false (at slot.Assignment) cs)

yield_is : (cs : List Attr) → asks form.Yield cs ≡ fit_kids (layout form.Yield cs) cs
yield_is [] = refl
yield_is (c ∷ cs) = lay_sites (layout form.Yield (c ∷ cs)) (c ∷ cs)

return_is : (cs : List Attr) → asks form.Return cs ≡ fit_kids (layout form.Return cs) cs
return_is [] = refl
return_is (c ∷ cs) = lay_sites (layout form.Return (c ∷ cs)) (c ∷ cs)

if_is : (cs : List Attr) → asks form.If cs ≡ fit_kids (layout form.If cs) cs
if_is [] = refl
if_is (c ∷ []) = refl
if_is (c ∷ (d ∷ [])) = lay_sites (layout form.If (c ∷ (d ∷ []))) (c ∷ (d ∷ []))
if_is (c ∷ (d ∷ (e ∷ []))) = lay_sites (layout form.If (c ∷ (d ∷ (e ∷ [])))) (c ∷ (d ∷ (e ∷ [])))
if_is (c ∷ (d ∷ (e ∷ (f ∷ [])))) = lay_sites (layout form.If (c ∷ (d ∷ (e ∷ (f ∷ []))))) (c ∷ (d ∷ (e ∷ (f ∷ []))))
if_is (c ∷ (d ∷ (e ∷ (f ∷ (g ∷ cs))))) = lay_sites (layout form.If (c ∷ (d ∷ (e ∷ (f ∷ (g ∷ cs)))))) (c ∷ (d ∷ (e ∷ (f ∷ (g ∷ cs)))))

new_is : (a : Arguments) (cs : List Attr) → asks (form.New a) cs ≡ fit_kids (layout (form.New a) cs) cs
new_is arguments.Listed cs = heads_is false (at slot.Member) open_paren close_paren cs
new_is arguments.Unlisted cs = lay_sites (layout (form.New arguments.Unlisted) cs) cs

prop_is : (k : Key) (cs : List Attr) → asks (form.Prop k) cs ≡ fit_kids (layout (form.Prop k) cs) cs
prop_is key.Fixed cs = lay_sites (layout (form.Prop key.Fixed) cs) cs
prop_is key.Computed cs = lay_sites (layout (form.Prop key.Computed) cs) cs

member_is : (k : Key) (cs : List Attr) → asks (form.Member k) cs ≡ fit_kids (layout (form.Member k) cs) cs
member_is key.Fixed cs = lay_sites (layout (form.Member key.Fixed) cs) cs
member_is key.Computed cs = lay_sites (layout (form.Member key.Computed) cs) cs

chain_is : (l : Link) (e : Entry) (cs : List Attr) → asks (form.Chain l e) cs ≡ fit_kids (layout (form.Chain l e) cs) cs
chain_is link.Name entry.Optional cs = lay_sites (layout (form.Chain link.Name entry.Optional) cs) cs
chain_is link.Key entry.Optional cs = lay_sites (layout (form.Chain link.Key entry.Optional) cs) cs
chain_is link.Call entry.Optional [] = refl
chain_is link.Call entry.Optional (c ∷ cs) = ap (λ (b : Bool). ok (at slot.Optional) c && b) (listed_all (at slot.Assignment) close_paren cs)
chain_is link.Name entry.Tail cs = lay_sites (layout (form.Chain link.Name entry.Tail) cs) cs
chain_is link.Key entry.Tail cs = lay_sites (layout (form.Chain link.Key entry.Tail) cs) cs
chain_is link.Call entry.Tail cs = heads_is false (at slot.Chain) open_paren close_paren cs

update_is : (o : UpdateOperator) (s : Side) (cs : List Attr) → asks (form.Update o s) cs ≡ fit_kids (layout (form.Update o s) cs) cs
update_is o side.Before cs = lay_sites (layout (form.Update o side.Before) cs) cs
update_is o side.After cs = lay_sites (layout (form.Update o side.After) cs) cs

for_is : (i t u : Bool) (cs : List Attr) → asks (form.For i t u) cs ≡ fit_kids (layout (form.For i t u) cs) cs
for_is true true true cs = lay_sites (layout (form.For true true true) cs) cs
for_is true true false cs = lay_sites (layout (form.For true true false) cs) cs
for_is true false true cs = lay_sites (layout (form.For true false true) cs) cs
for_is true false false cs = lay_sites (layout (form.For true false false) cs) cs
for_is false true true cs = lay_sites (layout (form.For false true true) cs) cs
for_is false true false cs = lay_sites (layout (form.For false true false) cs) cs
for_is false false true cs = lay_sites (layout (form.For false false true) cs) cs
for_is false false false cs = lay_sites (layout (form.For false false false) cs) cs

asked : (f : Form) (cs : List Attr) → asks f cs ≡ fit_kids (layout f cs) cs
asked form.Free cs = lay_sites (layout form.Free cs) cs
asked (form.Name b) cs = lay_sites (layout (form.Name b) cs) cs
asked form.Num cs = lay_sites (layout form.Num cs) cs
asked form.Str cs = lay_sites (layout form.Str cs) cs
asked (form.Word w) cs = lay_sites (layout (form.Word w) cs) cs
asked form.This cs = lay_sites (layout form.This cs) cs
asked form.Array cs = listed_all (at slot.Assignment) close_bracket cs
asked form.Object cs = listed_all prop close_brace cs
asked (form.Prop k) cs = prop_is k cs
asked (form.Fn o) cs = fn_is o cs
asked form.Arrow cs = arrow_is cs
asked (form.Unary o) cs = lay_sites (layout (form.Unary o) cs) cs
asked (form.Update o s) cs = update_is o s cs
asked (form.Bin o) cs = lay_sites (layout (form.Bin o) cs) cs
asked (form.Assign o) cs = lay_sites (layout (form.Assign o) cs) cs
asked form.Cond cs = lay_sites (layout form.Cond cs) cs
asked form.Seq cs = seq_is cs
asked form.Paren cs = lay_sites (layout form.Paren cs) cs
asked form.Call cs = heads_is false (at slot.Call) open_paren close_paren cs
asked (form.New a) cs = new_is a cs
asked (form.Member k) cs = member_is k cs
asked (form.Chain l e) cs = chain_is l e cs
asked form.Await cs = lay_sites (layout form.Await cs) cs
asked form.Yield cs = yield_is cs
asked form.Script cs = run_end cs
asked form.ExprStmt cs = lay_sites (layout form.ExprStmt cs) cs
asked form.Var cs = var_is cs
asked form.Return cs = return_is cs
asked form.If cs = if_is cs
asked form.While cs = lay_sites (layout form.While cs) cs
asked (form.For i t u) cs = for_is i t u cs
asked form.ForIn cs = lay_sites (layout form.ForIn cs) cs
asked form.Block cs = run_all close_brace cs
asked form.Labeled cs = lay_sites (layout form.Labeled cs) cs
asked form.Empty cs = lay_sites (layout form.Empty cs) cs
asked (form.Hole s) cs = lay_sites (layout (form.Hole s) cs) cs

pub asked_by : (f : Form) (cs : List Attr) (b : Bool) → b ≡ asks f cs → b ≡ fit_kids (layout f cs) cs
asked_by f cs b e = e ∙ asked f cs
