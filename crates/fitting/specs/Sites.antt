-- What each form asks of its children, site by site.
--
--   stand ss cs           each of cs may stand at the site of its place in ss, as far as both go
--   fit_sites ss cs       there are as many children as sites in ss, and each may stand at its site
--   heads s cs            the first of cs may stand at the site s, and each other where a value does
--   ends s cs             the last of cs may stand at the site s, and each other is a plain Name
--   asks f cs             children with the attributes cs are those that the form f asks for
--
-- Assumes nothing.
use Rattle.std.specs.Prelude.{Bool, true, false, cond, ◌&&◌, ◌||◌, List, [], ◌∷◌, eqb, leb}
use Rattle.kinds.specs.Levels.{left_slot, right_slot}
use Rattle.kinds.specs.declared.form.Form.{Form}
use Rattle.kinds.specs.declared.form.Form.TheVariants as form
use Rattle.kinds.specs.declared.form.Key.{Key}
use Rattle.kinds.specs.declared.form.Key.TheVariants as key
use Rattle.kinds.specs.declared.form.Own.{Own}
use Rattle.kinds.specs.declared.form.Own.TheVariants as own
use Rattle.kinds.specs.declared.form.Arguments.{Arguments}
use Rattle.kinds.specs.declared.form.Arguments.TheVariants as arguments
use Rattle.kinds.specs.declared.form.Link.{Link}
use Rattle.kinds.specs.declared.form.Link.TheVariants as link
use Rattle.kinds.specs.declared.form.Entry.{Entry}
use Rattle.kinds.specs.declared.form.Entry.TheVariants as entry
use Rattle.kinds.specs.declared.level.Slot.TheVariants as slot
use Rattle.grammar.specs.Site.{Attr, Site, at, start, body, block_only, stmt, closed, prop, plain_name, key_name, ok}
use Rattle.grammar.specs.Layout.{but_last, init_site, left_site}
use Rattle.fitting.specs.Summary.{number, last, every, declared}
use Rattle.fitting.specs.declared.summary.Declared.{Declared}
use Rattle.fitting.specs.declared.summary.Declared.TheVariants.{Nothing, Complete, Unvalued, Wrong}

abbrev pub stand : List Site → List Attr → Bool
stand [] cs = true
stand (s ∷ ss) [] = true
stand (s ∷ ss) (c ∷ cs) = ok s c && stand ss cs

abbrev pub fit_sites : List Site → List Attr → Bool
fit_sites [] [] = true
fit_sites [] (c ∷ cs) = false
fit_sites (s ∷ ss) [] = false
fit_sites (s ∷ ss) (c ∷ cs) = ok s c && fit_sites ss cs

abbrev pub heads : Site → List Attr → Bool
heads s [] = false
heads s (c ∷ cs) = ok s c && every (at slot.Assignment) cs

abbrev pub ends : Site → List Attr → Bool
ends s [] = false
ends s (c ∷ cs) = every plain_name (but_last (c ∷ cs)) && ok s (last (c ∷ cs))

abbrev pub is_complete : Declared → Bool
is_complete Nothing = false
is_complete Complete = true
is_complete Unvalued = false
is_complete Wrong = false

abbrev pub none : List Attr → Bool
none cs = fit_sites [] cs

abbrev pub one : Site → List Attr → Bool
one s cs = fit_sites (s ∷ []) cs

abbrev pub two : Site → Site → List Attr → Bool
two s t cs = fit_sites (s ∷ (t ∷ [])) cs

abbrev pub three : Site → Site → Site → List Attr → Bool
three s t u cs = fit_sites (s ∷ (t ∷ (u ∷ []))) cs

abbrev pub four : Site → Site → Site → Site → List Attr → Bool
four s t u v cs = fit_sites (s ∷ (t ∷ (u ∷ (v ∷ [])))) cs

abbrev pub asks_key : Site → Key → List Attr → Bool
asks_key s key.Fixed cs = two s plain_name cs
asks_key s key.Computed cs = two s (at slot.Expression) cs

abbrev pub asks_link : Site → Link → List Attr → Bool
asks_link s link.Name cs = asks_key s key.Fixed cs
asks_link s link.Key cs = asks_key s key.Computed cs
asks_link s link.Call cs = heads s cs

abbrev pub entry_site : Entry → Site
entry_site entry.Optional = at slot.Optional
entry_site entry.Tail = at slot.Chain

abbrev pub asks_for : Bool → Bool → Bool → Site → List Attr → Bool
asks_for true true true i cs = four i (at slot.Expression) (at slot.Expression) stmt cs
asks_for true true false i cs = three i (at slot.Expression) stmt cs
asks_for true false true i cs = three i (at slot.Expression) stmt cs
asks_for true false false i cs = two i stmt cs
asks_for false true true i cs = three (at slot.Expression) (at slot.Expression) stmt cs
asks_for false true false i cs = two (at slot.Expression) stmt cs
asks_for false false true i cs = two (at slot.Expression) stmt cs
asks_for false false false i cs = one stmt cs

abbrev pub asks_new : Arguments → List Attr → Bool
asks_new arguments.Listed cs = heads (at slot.Member) cs
asks_new arguments.Unlisted cs = one (at slot.New) cs

abbrev pub asks_prop : Key → List Attr → Bool
asks_prop key.Fixed cs = two key_name (at slot.Assignment) cs
asks_prop key.Computed cs = two (at slot.Assignment) (at slot.Assignment) cs

abbrev pub asks_fn : Own → List Attr → Bool
asks_fn own.Nameless cs = ends block_only cs
asks_fn own.Named cs = leb 2 (number cs) && ends block_only cs

abbrev pub asks : Form → List Attr → Bool
asks form.Free cs = none cs
asks (form.Name b) cs = none cs
asks form.Num cs = none cs
asks form.Str cs = none cs
asks (form.Word w) cs = none cs
asks form.This cs = none cs
asks form.Array cs = every (at slot.Assignment) cs
asks form.Object cs = every prop cs
asks (form.Prop k) cs = asks_prop k cs
asks (form.Fn o) cs = asks_fn o cs
asks form.Arrow cs = ends body cs
asks (form.Unary o) cs = one (at slot.Unary) cs
asks (form.Update o s) cs = one (at slot.Target) cs
asks (form.Bin o) cs = two (at (left_slot o)) (at (right_slot o)) cs
asks (form.Assign o) cs = two (at slot.Target) (at slot.Assignment) cs
asks form.Cond cs = three (at slot.ShortCircuit) (at slot.Assignment) (at slot.Assignment) cs
asks form.Seq cs = leb 2 (number cs) && every (at slot.Assignment) cs
asks form.Paren cs = one (at slot.Expression) cs
asks form.Call cs = heads (at slot.Call) cs
asks (form.New a) cs = asks_new a cs
asks (form.Member k) cs = asks_key (at slot.Call) k cs
asks (form.Chain l e) cs = asks_link (entry_site e) l cs
asks form.Await cs = one (at slot.Unary) cs
asks form.Yield cs = none cs || one (at slot.Assignment) cs
asks form.Script cs = every stmt cs
asks form.ExprStmt cs = one start cs
asks form.Var cs = is_complete (declared Nothing cs)
asks form.Return cs = none cs || one (at slot.Expression) cs
asks form.If cs = cond (eqb (number cs) 2) (two (at slot.Expression) stmt cs) (three (at slot.Expression) closed stmt cs)
asks form.While cs = two (at slot.Expression) stmt cs
asks (form.For i t u) cs = asks_for i t u (init_site cs) cs
asks form.ForIn cs = three (left_site cs) (at slot.Expression) stmt cs
asks form.Block cs = every stmt cs
asks form.Labeled cs = two plain_name stmt cs
asks form.Empty cs = none cs
asks (form.Hole s) cs = none cs
