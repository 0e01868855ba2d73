-- What every form writes is balanced in `(` and `)`; so what stands behind a bracket that was opened is found by counting.
use mathlib.Core.Path.{◌≡◌, refl, ◌∙◌, ap}
use mathlib.Core.List.{List, [], ◌∷◌}
use mathlib.Core.Bool.{Bool, true, false, cond}
use mathlib.Core.Option.{Option, none, some, none-ne-some}
use Prim.Native.Nat.{ℕ, zero, suc}
use Rattle.token.specs.Same.{same_code}
use Rattle.token.specs.declared.Token.{Token}
use Rattle.kinds.specs.declared.operator.UnaryOperator.TheVariants as unary
use Rattle.kinds.specs.declared.operator.UpdateOperator.TheVariants as update
use Rattle.kinds.specs.declared.operator.BinaryOperator.TheVariants as binary
use Rattle.kinds.specs.declared.form.Constant.TheVariants as constant
use Rattle.kinds.specs.declared.form.Form.{Form}
use Rattle.kinds.specs.declared.form.Form.TheVariants as form
use Rattle.kinds.specs.declared.form.Key.TheVariants as key
use Rattle.kinds.specs.declared.form.Own.TheVariants as own
use Rattle.kinds.specs.declared.form.Arguments.TheVariants as arguments
use Rattle.kinds.specs.declared.form.Link.TheVariants as link
use Rattle.kinds.specs.declared.form.Entry.TheVariants as entry
use Rattle.kinds.specs.declared.operator.Side.TheVariants as side
use Rattle.grammar.specs.Codes.{open_paren, close_paren}
use Rattle.grammar.specs.Site.{Attr, Site, is_sort, valued}
use Rattle.grammar.specs.Tree.{Forest}
use Rattle.grammar.specs.Layout.{Lay, end, stop, tok, kid, layout, commas, listed, run, names, var_of, rest, but_last}
use Rattle.grammar.specs.Parser.{skip, down}
use Rattle.grammar.proofs.Fills.{Fills, fill_end, fill_stop, fill_tok, fill_kid}
use Rattle.grammar.proofs.Steps.{Claim}

abbrev lower : ℕ → (ℕ → Option ℕ) → Option ℕ
lower zero f = none
lower (suc d) f = f d

-- How many `(` are open behind a layout, if d are before it.
abbrev pub bal : Lay → ℕ → Option ℕ
bal end d = some d
bal stop d = some d
bal (tok c ls) d = cond (same_code c open_paren) (bal ls (suc d)) (cond (same_code c close_paren) (lower d (λ e. bal ls e)) (bal ls d))
bal (kid i s ls) d = bal ls d

over : (x y : Bool) (ls : Lay) (ks r : List Token) → ((d e : ℕ) → bal ls d ≡ some e → skip d ks ≡ skip e r) → (d e : ℕ) → cond x (bal ls (suc d)) (cond y (lower d (λ e. bal ls e)) (bal ls d)) ≡ some e → cond x (skip (suc d) ks) (cond y (down d ks (λ e. skip e ks)) (skip d ks)) ≡ skip e r
over true y ls ks r ih d e h = ih (suc d) e h
over false true ls ks r ih zero e h = absurd (none-ne-some e h)
over false true ls ks r ih (suc d) e h = ih d e h
over false false ls ks r ih d e h = ih d e h

pub skip_fills : {b : Bool} {ls : Lay} {us : Forest} {ks r : List Token} {h0 h : ℕ} → Fills Claim b ls us ks r h0 h → (d e : ℕ) → bal ls d ≡ some e → skip d ks ≡ skip e r
skip_fills {r = r} fill_end d e h = let q : d ≡ e = cc in ap (λ (x : ℕ). skip x r) q
skip_fills {b = true} {r = r} (fill_stop s) d e h = let q : d ≡ e = cc in ap (skip d) s.0 ∙ ap (λ (x : ℕ). skip x r) q
skip_fills {b = false} {r = r} (fill_stop s) d e h = let q : d ≡ e = cc in ap (skip d) s.1 ∙ ap (λ (x : ℕ). skip x r) q
skip_fills {r = r} (fill_tok {c = c} {ls = ls} {ks = ks} t) d e h = over (same_code c open_paren) (same_code c close_paren) ls ks r (skip_fills t) d e h
skip_fills (fill_kid a t) d e h = a.skips d ∙ skip_fills t d e h

bal_commas : (i : Bool) (s : Site) (cs : List Attr) (ls : Lay) (d : ℕ) → bal (commas i s cs ls) d ≡ bal ls d
bal_commas i s [] ls d = refl
bal_commas i s (c ∷ cs) ls d = bal_commas i s cs ls d

bal_listed : (s : Site) (cs : List Attr) (ls : Lay) (d : ℕ) → bal (listed s cs ls) d ≡ bal ls d
bal_listed s [] ls d = refl
bal_listed s (c ∷ cs) ls d = bal_commas true s cs ls d

bal_run : (cs : List Attr) (ls : Lay) (d : ℕ) → bal (run cs ls) d ≡ bal ls d
bal_run [] ls d = refl
bal_run (c ∷ cs) ls d = bal_run cs ls d

bal_cond : (x : Bool) (a b : Lay) (d : ℕ) (z : Option ℕ) → bal a d ≡ z → bal b d ≡ z → bal (cond x a b) d ≡ z
bal_cond true a b d z p q = p
bal_cond false a b d z p q = q

bal_names : (cs : List Attr) (v : Bool) (d : ℕ) → bal (names cs v) d ≡ some d
bal_names [] true d = refl
bal_names (c ∷ cs) true d = bal_names cs false d
bal_names [] false d = refl
bal_names (c ∷ cs) false d = bal_cond (is_sort valued c) _ _ d (some d) (bal_names cs true d) (bal_names cs false d)

bal_var : (cs : List Attr) (d : ℕ) → bal (var_of cs) d ≡ some d
bal_var [] d = refl
bal_var (c ∷ cs) d = bal_cond (is_sort valued c) _ _ d (some d) (bal_names cs true d) (bal_names cs false d)

pub balanced : (f : Form) (cs : List Attr) (d : ℕ) → bal (layout f cs) d ≡ some d
balanced form.Free cs d = refl
balanced (form.Name b) cs d = refl
balanced form.Num cs d = refl
balanced form.Str cs d = refl
balanced (form.Word constant.Null) cs d = refl
balanced (form.Word constant.True) cs d = refl
balanced (form.Word constant.False) cs d = refl
balanced form.This cs d = refl
balanced form.Array cs d = bal_listed _ cs _ d
balanced form.Object cs d = bal_listed _ cs _ d
balanced (form.Prop key.Fixed) cs d = refl
balanced (form.Prop key.Computed) cs d = refl
balanced (form.Fn own.Nameless) cs d = bal_listed _ (but_last cs) _ (suc d)
balanced (form.Fn own.Named) cs d = bal_listed _ (but_last (rest cs)) _ (suc d)
balanced form.Arrow cs d = bal_listed _ (but_last cs) _ (suc d)
balanced (form.Unary unary.Minus) cs d = refl
balanced (form.Unary unary.Plus) cs d = refl
balanced (form.Unary unary.Not) cs d = refl
balanced (form.Unary unary.BitNot) cs d = refl
balanced (form.Unary unary.Typeof) cs d = refl
balanced (form.Unary unary.Void) cs d = refl
balanced (form.Unary unary.Delete) cs d = refl
balanced (form.Update update.Increment side.Before) cs d = refl
balanced (form.Update update.Increment side.After) cs d = refl
balanced (form.Update update.Decrement side.Before) cs d = refl
balanced (form.Update update.Decrement side.After) cs d = refl
balanced (form.Bin binary.Coalesce) cs d = refl
balanced (form.Bin binary.Or) cs d = refl
balanced (form.Bin binary.And) cs d = refl
balanced (form.Bin binary.BitOr) cs d = refl
balanced (form.Bin binary.BitXor) cs d = refl
balanced (form.Bin binary.BitAnd) cs d = refl
balanced (form.Bin binary.Equal) cs d = refl
balanced (form.Bin binary.NotEqual) cs d = refl
balanced (form.Bin binary.StrictEqual) cs d = refl
balanced (form.Bin binary.StrictNotEqual) cs d = refl
balanced (form.Bin binary.Less) cs d = refl
balanced (form.Bin binary.LessOrEqual) cs d = refl
balanced (form.Bin binary.Greater) cs d = refl
balanced (form.Bin binary.GreaterOrEqual) cs d = refl
balanced (form.Bin binary.In) cs d = refl
balanced (form.Bin binary.Instanceof) cs d = refl
balanced (form.Bin binary.LeftShift) cs d = refl
balanced (form.Bin binary.RightShift) cs d = refl
balanced (form.Bin binary.UnsignedRightShift) cs d = refl
balanced (form.Bin binary.Add) cs d = refl
balanced (form.Bin binary.Subtract) cs d = refl
balanced (form.Bin binary.Multiply) cs d = refl
balanced (form.Bin binary.Divide) cs d = refl
balanced (form.Bin binary.Remainder) cs d = refl
balanced (form.Bin binary.Exponent) cs d = refl
balanced (form.Assign o) cs d = refl
balanced form.Cond cs d = refl
balanced form.Seq cs d = bal_commas false _ (rest (rest cs)) _ d
balanced form.Paren cs d = refl
balanced form.Call cs d = bal_listed _ (rest cs) _ (suc d)
balanced (form.New arguments.Listed) cs d = bal_listed _ (rest cs) _ (suc d)
balanced (form.New arguments.Unlisted) cs d = refl
balanced (form.Member key.Fixed) cs d = refl
balanced (form.Member key.Computed) cs d = refl
balanced (form.Chain link.Name entry.Optional) cs d = refl
balanced (form.Chain link.Name entry.Tail) cs d = refl
balanced (form.Chain link.Key entry.Optional) cs d = refl
balanced (form.Chain link.Key entry.Tail) cs d = refl
balanced (form.Chain link.Call entry.Optional) cs d = bal_listed _ (rest cs) _ (suc d)
balanced (form.Chain link.Call entry.Tail) cs d = bal_listed _ (rest cs) _ (suc d)
balanced form.Await cs d = refl
balanced form.Yield [] d = refl
balanced form.Yield (c ∷ cs) d = refl
balanced form.Script cs d = bal_run cs end d
balanced form.ExprStmt cs d = refl
balanced form.Var cs d = bal_var cs d
balanced form.Return [] d = refl
balanced form.Return (c ∷ cs) d = refl
balanced form.If [] d = refl
balanced form.If (c ∷ []) d = refl
balanced form.If (c ∷ (e ∷ [])) d = refl
balanced form.If (c ∷ (e ∷ (g ∷ cs))) d = refl
balanced form.While cs d = refl
balanced (form.For true true true) cs d = refl
balanced (form.For true true false) cs d = refl
balanced (form.For true false true) cs d = refl
balanced (form.For true false false) cs d = refl
balanced (form.For false true true) cs d = refl
balanced (form.For false true false) cs d = refl
balanced (form.For false false true) cs d = refl
balanced (form.For false false false) cs d = refl
balanced form.ForIn cs d = refl
balanced form.Block cs d = bal_run cs _ d
balanced form.Labeled cs d = refl
balanced form.Empty cs d = refl
balanced (form.Hole s) cs d = refl
