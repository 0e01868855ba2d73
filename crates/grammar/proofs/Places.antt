-- A record's place runs from its first token's lo to its last token's hi.
use mathlib.Core.Path.{◌≡◌, refl, sym, ◌∙◌, ap, subst}
use mathlib.Core.List.{List, [], ◌∷◌, ◌++◌, append_assoc}
use mathlib.Core.Bool.{Bool, true, false, cond, not, ◌&&◌, ◌||◌}
use Prim.Native.Nat.{ℕ, ◌<◌}
use native.Mathlib.Omega.{arith}
use lib.Dec.{T, eqb}
use lib.ListN.{length}
use Rattle.token.specs.declared.Token.{Token}
use Rattle.token.specs.declared.Code.TheVariants as code
use Rattle.token.specs.declared.punctuator.Punctuator.TheVariants as punctuator
use Rattle.kinds.specs.declared.form.Form.{Form}
use Rattle.kinds.specs.declared.form.Form.TheVariants as form
use Rattle.kinds.specs.declared.form.Key.TheVariants as key
use Rattle.kinds.specs.declared.form.Own.TheVariants as own
use Rattle.kinds.specs.declared.form.Arguments.TheVariants as arguments
use Rattle.kinds.specs.declared.form.Link.TheVariants as link
use Rattle.kinds.specs.declared.form.Entry.TheVariants as entry
use Rattle.kinds.specs.declared.operator.Side.TheVariants as side
use Rattle.kinds.specs.declared.level.Slot.TheVariants as slot
use Rattle.grammar.specs.Site.{Sort, expression, statement, block, declaration, property, valued, script, nothing, sort_rank, Attr, is_sort, is_expression, is_statement, Site, at, start, body, block_only, stmt, closed, init, var_init, var_in, prop, plain_name, valued_name, key_name, root, ok}
use Rattle.grammar.specs.Tree.{head_of, Forest}
use Rattle.grammar.specs.Layout.{Lay, end, stop, tok, kid, layout, commas, listed, run, names, var_of, rest, but_last, init_site, left_site, attr, attrs}
use Rattle.grammar.specs.Derives.{token, lo_of}
use Rattle.grammar.specs.Claim.{is_part, hi_of, PartsPlaced, ScriptsPlaced}
use Rattle.grammar.proofs.Tests.{and_l, and_r, and_i}
use Rattle.grammar.proofs.Fills.{Rel, Fills, fill_end, fill_stop, fill_tok, fill_kid, Step, fold}
use Rattle.grammar.proofs.Steps.{Claim}
use Rattle.grammar.proofs.Every.{claim}

-- No layout has a script as a child.
abbrev pub rootless : Lay → Bool
rootless end = true
rootless stop = true
rootless (tok c ls) = rootless ls
rootless (kid i s ls) = is_part s && rootless ls

rootless_commas : (i : Bool) (s : Site) (cs : List Attr) (ls : Lay) → T (is_part s) → T (rootless ls) → T (rootless (commas i s cs ls))
rootless_commas i s [] ls p h = h
rootless_commas i s (c ∷ cs) ls p h = and_i (is_part s) _ p (rootless_commas i s cs ls p h)

rootless_listed : (s : Site) (cs : List Attr) (ls : Lay) → T (is_part s) → T (rootless ls) → T (rootless (listed s cs ls))
rootless_listed s [] ls p h = h
rootless_listed s (c ∷ cs) ls p h = and_i (is_part s) _ p (rootless_commas true s cs ls p h)

rootless_run : (cs : List Attr) (ls : Lay) → T (rootless ls) → T (rootless (run cs ls))
rootless_run [] ls h = h
rootless_run (c ∷ cs) ls h = rootless_run cs ls h

rootless_cond : (x : Bool) (a b : Lay) → T (rootless a) → T (rootless b) → T (rootless (cond x a b))
rootless_cond true a b p q = p
rootless_cond false a b p q = q

rootless_names : (cs : List Attr) (v : Bool) → T (rootless (names cs v))
rootless_names [] true = tt
rootless_names (c ∷ cs) true = rootless_names cs false
rootless_names [] false = tt
rootless_names (c ∷ cs) false = rootless_cond (is_sort valued c) _ _ (rootless_names cs true) (rootless_names cs false)

rootless_var : (cs : List Attr) → T (rootless (var_of cs))
rootless_var [] = tt
rootless_var (c ∷ cs) = rootless_cond (is_sort valued c) _ _ (rootless_names cs true) (rootless_names cs false)

part_cond : (x : Bool) (s t : Site) → T (is_part s) → T (is_part t) → T (is_part (cond x s t))
part_cond true s t p q = p
part_cond false s t p q = q

part_init : (cs : List Attr) → T (is_part (init_site cs))
part_init [] = tt
part_init (c ∷ cs) = part_cond (is_sort declaration c) var_init init tt tt

part_left : (cs : List Attr) → T (is_part (left_site cs))
part_left [] = tt
part_left (c ∷ cs) = part_cond (is_sort declaration c) var_in (at slot.Target) tt tt

pub all_parts : (f : Form) (cs : List Attr) → T (rootless (layout f cs))
all_parts form.Free cs = tt
all_parts (form.Name b) cs = tt
all_parts form.Num cs = tt
all_parts form.Str cs = tt
all_parts (form.Word w) cs = tt
all_parts form.This cs = tt
all_parts form.Array cs = rootless_listed _ cs _ tt tt
all_parts form.Object cs = rootless_listed _ cs _ tt tt
all_parts (form.Prop key.Fixed) cs = tt
all_parts (form.Prop key.Computed) cs = tt
all_parts (form.Fn own.Nameless) cs = rootless_listed _ (but_last cs) _ tt tt
all_parts (form.Fn own.Named) cs = rootless_listed _ (but_last (rest cs)) _ tt tt
all_parts form.Arrow cs = rootless_listed _ (but_last cs) _ tt tt
all_parts (form.Unary o) cs = tt
all_parts (form.Update o side.Before) cs = tt
all_parts (form.Update o side.After) cs = tt
all_parts (form.Bin o) cs = tt
all_parts (form.Assign o) cs = tt
all_parts form.Cond cs = tt
all_parts form.Seq cs = rootless_commas false _ (rest (rest cs)) _ tt tt
all_parts form.Paren cs = tt
all_parts form.Call cs = rootless_listed _ (rest cs) _ tt tt
all_parts (form.New arguments.Listed) cs = rootless_listed _ (rest cs) _ tt tt
all_parts (form.New arguments.Unlisted) cs = tt
all_parts (form.Member key.Fixed) cs = tt
all_parts (form.Member key.Computed) cs = tt
all_parts (form.Chain link.Name entry.Optional) cs = tt
all_parts (form.Chain link.Name entry.Tail) cs = tt
all_parts (form.Chain link.Key entry.Optional) cs = tt
all_parts (form.Chain link.Key entry.Tail) cs = tt
all_parts (form.Chain link.Call entry.Optional) cs = rootless_listed _ (rest cs) _ tt tt
all_parts (form.Chain link.Call entry.Tail) cs = rootless_listed _ (rest cs) _ tt tt
all_parts form.Await cs = tt
all_parts form.Yield [] = tt
all_parts form.Yield (c ∷ cs) = tt
all_parts form.Script cs = rootless_run cs end tt
all_parts form.ExprStmt cs = tt
all_parts form.Var cs = rootless_var cs
all_parts form.Return [] = tt
all_parts form.Return (c ∷ cs) = tt
all_parts form.If [] = tt
all_parts form.If (c ∷ []) = tt
all_parts form.If (c ∷ (e ∷ [])) = tt
all_parts form.If (c ∷ (e ∷ (g ∷ cs))) = tt
all_parts form.While cs = tt
all_parts (form.For true true true) cs = and_i (is_part (init_site cs)) _ (part_init cs) tt
all_parts (form.For true true false) cs = and_i (is_part (init_site cs)) _ (part_init cs) tt
all_parts (form.For true false true) cs = and_i (is_part (init_site cs)) _ (part_init cs) tt
all_parts (form.For true false false) cs = and_i (is_part (init_site cs)) _ (part_init cs) tt
all_parts (form.For false true true) cs = tt
all_parts (form.For false true false) cs = tt
all_parts (form.For false false true) cs = tt
all_parts (form.For false false false) cs = tt
all_parts form.ForIn cs = and_i (is_part (left_site cs)) _ (part_left cs) tt
all_parts form.Block cs = rootless_run cs _ tt
all_parts form.Labeled cs = tt
all_parts form.Empty cs = tt
all_parts (form.Hole z) cs = tt

-- What is no script stands nowhere but at the root.
sort_part : (P : Sort → Bool) → P script ≡ false → (s : Sort) → T (P s) → T (not (eqb 6 (sort_rank s)))
sort_part P e expression h = tt
sort_part P e statement h = tt
sort_part P e block h = tt
sort_part P e declaration h = tt
sort_part P e property h = tt
sort_part P e valued h = tt
sort_part P e script h = subst T e h
sort_part P e nothing h = tt

body_sort : (x y z : Bool) → T (x || (y && z)) → T (x || y)
body_sort true y z h = tt
body_sort false true z h = tt
body_sort false false z h = h

part_not_script : (s : Site) (a : Attr) → T (is_part s) → T (ok s a) → T (not (is_sort script a))
part_not_script (at p) a q h = sort_part (λ s. eqb 0 (sort_rank s)) refl a.sort (and_l (is_expression a) _ h)
part_not_script start a p h = sort_part (λ s. eqb 0 (sort_rank s)) refl a.sort (and_l (is_expression a) _ h)
part_not_script body a p h = sort_part (λ s. eqb 2 (sort_rank s) || eqb 0 (sort_rank s)) refl a.sort (body_sort (is_sort block a) (is_expression a) _ h)
part_not_script block_only a p h = sort_part (λ s. eqb 2 (sort_rank s)) refl a.sort h
part_not_script stmt a p h = sort_part (λ s. eqb 1 (sort_rank s) || (eqb 2 (sort_rank s) || eqb 3 (sort_rank s))) refl a.sort h
part_not_script closed a p h = sort_part (λ s. eqb 1 (sort_rank s) || (eqb 2 (sort_rank s) || eqb 3 (sort_rank s))) refl a.sort (and_l (is_statement a) _ h)
part_not_script init a p h = sort_part (λ s. eqb 0 (sort_rank s)) refl a.sort (and_l (is_expression a) _ h)
part_not_script var_init a p h = sort_part (λ s. eqb 3 (sort_rank s)) refl a.sort (and_l (is_sort declaration a) _ h)
part_not_script var_in a p h = sort_part (λ s. eqb 3 (sort_rank s)) refl a.sort (and_l (is_sort declaration a) _ h)
part_not_script prop a p h = sort_part (λ s. eqb 4 (sort_rank s)) refl a.sort h
part_not_script plain_name a p h = sort_part (λ s. eqb 0 (sort_rank s)) refl a.sort (and_l (is_expression a) _ h)
part_not_script valued_name a p h = sort_part (λ s. eqb 5 (sort_rank s)) refl a.sort h
part_not_script key_name a p h = sort_part (λ s. eqb 0 (sort_rank s)) refl a.sort (and_l (is_expression a) _ h)
part_not_script root a p h = absurd p

-- Where the last of the tokens p ends; before them it was h.
abbrev up_to : ℕ → List Token → ℕ
up_to h [] = h
up_to h (k ∷ p) = up_to k.hi p

up_to_app : (h : ℕ) (p q : List Token) → up_to h (p ++ q) ≡ up_to (up_to h p) q
up_to_app h [] q = refl
up_to_app h (k ∷ p) q = up_to_app k.hi p q

up_to_any : (g h : ℕ) (p : List Token) → 0 < length p → up_to g p ≡ up_to h p
up_to_any g h [] l = absurd (omega arith)
up_to_any g h (k ∷ p) l = refl

up_to_hi : (h : ℕ) (p : List Token) → 0 < length p → up_to h p ≡ hi_of p
up_to_hi h [] l = absurd (omega arith)
up_to_hi h (k ∷ []) l = refl
up_to_hi h (k ∷ (j ∷ p)) l = up_to_hi k.hi (j ∷ p) (omega arith)

abbrev Taken : ℕ → ℕ → List Token → List Token → Type 0
Taken h0 h ks r = (p : List Token) × (ks ≡ p ++ r) × (h ≡ up_to h0 p)

abbrev Laid : Rel
Laid s t ks r = Claim s t ks r × Taken 0 (head_of t).hi ks r

plain : {b : Bool} {ls : Lay} {us : Forest} {ks r : List Token} {h0 h : ℕ} → Fills Laid b ls us ks r h0 h → Fills Claim b ls us ks r h0 h
plain fill_end = fill_end
plain (fill_stop e) = fill_stop e
plain (fill_tok d) = fill_tok (plain d)
plain (fill_kid (a, x) d) = fill_kid a (plain d)

grows : (ks p r : List Token) → ks ≡ p ++ r → length r < length ks → 0 < length p
grows ks [] r e l = absurd (omega (arith, ap length e))
grows ks (k ∷ p) r e l = omega arith

taken : {b : Bool} {ls : Lay} {us : Forest} {ks r : List Token} {h0 h : ℕ} → T (rootless ls) → Fills Laid b ls us ks r h0 h → Taken h0 h ks r
taken t fill_end = ([], refl, refl)
taken {b = true} {h0 = h0} t (fill_stop e) = ([], e.0, sym e.1)
taken {b = false} {h = h} t (fill_stop (l, e)) = (token (code.Punctuator punctuator.Semicolon) l h ∷ [], e, refl)
taken t (fill_tok {c = c} {l = l} {i = i} d) = let (p, e, q) = taken t d in (token c l i ∷ p, ap (λ (x : List Token). token c l i ∷ x) e, q)
taken {h0 = h0} t (fill_kid {s = s} {u = u} {ks = ks} {js = js} (a, (p, e, q)) d) =
    let (p2, e2, q2) = taken (and_r (is_part s) _ t) d in
    let n : 0 < length p = grows ks p js e (a.less (part_not_script s (attr u) (and_l (is_part s) _ t) a.fit)) in
    let w : (head_of u).hi ≡ up_to h0 p = q ∙ up_to_any 0 h0 p n in
    (p ++ p2, e ∙ ap (λ (x : List Token). p ++ x) e2 ∙ sym (append_assoc p p2 _), q2 ∙ ap (λ (x : ℕ). up_to x p2) w ∙ sym (up_to_app h0 p p2))

laid : Step Laid
laid f s us ks r h k d = (claim f s us ks r h k (plain d), taken (all_parts f (attrs us)) d)

first_lo : (ks p r : List Token) → ks ≡ p ++ r → 0 < length p → lo_of ks ≡ lo_of p
first_lo ks [] r e l = absurd (omega arith)
first_lo ks (k ∷ p) r e l = ap lo_of e

pub parts_placed : PartsPlaced
parts_placed s t ks r n d =
    let (c, (p, e, q)) = fold Laid laid d in
    let l : 0 < length p = grows ks p r e (c.less (part_not_script s (attr t) n c.fit)) in
    (p, e, l, c.lo ∙ first_lo ks p r e l, q ∙ up_to_hi 0 p l)

all_tokens : (p : List Token) → p ++ [] ≡ p
all_tokens [] = refl
all_tokens (k ∷ p) = ap (λ (x : List Token). k ∷ x) (all_tokens p)

whole_hi : (p : List Token) → up_to 0 p ≡ hi_of p
whole_hi [] = refl
whole_hi (k ∷ p) = up_to_hi 0 (k ∷ p) (omega arith)

pub scripts_placed : ScriptsPlaced
scripts_placed ts t d =
    let (c, (p, e, q)) = fold Laid laid d in
    let w : ts ≡ p = e ∙ all_tokens p in
    (c.lo, q ∙ (whole_hi p ∙ ap hi_of (sym w)))
