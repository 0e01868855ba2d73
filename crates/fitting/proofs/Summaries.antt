-- How a summary goes on with one more child.
use Prim.Native.Nat.{ℕ, ◌<◌, ◌≤◌}
use mathlib.Core.Path.{◌≡◌, refl, sym, ◌∙◌, ap}
use mathlib.Core.Bool.{Bool, ◌&&◌, ◌||◌}
use mathlib.Core.List.{List, [], ◌∷◌, ◌++◌, map}
use lib.Dec.{eqb}
use lib.ListN.{length, get_or, set}
use Rattle.std.proofs.Common.{arith}
use Rattle.std.proofs.Math.Bool.{and_assoc, and-true, or_assoc, or-false}
use Rattle.std.proofs.lemmas.List.{get_or-map, length-map, map-set}
use Rattle.kinds.specs.declared.level.Slot.TheVariants as slot
use Rattle.grammar.specs.Site.{Attr, Site, at, stmt, prop, plain_name, is_sort, property, is_statement, ok}
use Rattle.grammar.specs.Layout.{rest, but_last}
use Rattle.fitting.specs.Traits.{traits_of}
use Rattle.fitting.specs.Summary.{absent, number, more, leading, last, every, any_bare, next, declared, Sums}
use Rattle.fitting.specs.declared.summary.Declared.{Declared}
use Rattle.fitting.specs.declared.summary.Declared.TheVariants.{Nothing}
use Rattle.fitting.specs.declared.summary.Summary.{Summary}
use Rattle.fitting.specs.declared.traits.Traits.{Traits}

number_with : (cs : List Attr) (c : Attr) → number (cs ++ (c ∷ [])) ≡ more (number cs)
number_with [] c = refl
number_with (x ∷ []) c = refl
number_with (x ∷ (y ∷ [])) c = refl
number_with (x ∷ (y ∷ (z ∷ []))) c = refl
number_with (x ∷ (y ∷ (z ∷ (w ∷ [])))) c = refl
number_with (x ∷ (y ∷ (z ∷ (w ∷ (v ∷ cs))))) c = refl

-- one of the first four, or one behind them
leading_set : (cs : List Attr) (c : Attr) → number cs < 4 → set (leading cs) (number cs) c ≡ leading (cs ++ (c ∷ []))
leading_set [] c h = refl
leading_set (x ∷ []) c h = refl
leading_set (x ∷ (y ∷ [])) c h = refl
leading_set (x ∷ (y ∷ (z ∷ []))) c h = refl
leading_set (x ∷ (y ∷ (z ∷ (w ∷ [])))) c h = let no : ⊥ = omega (arith, h) in elim no [ ]
leading_set (x ∷ (y ∷ (z ∷ (w ∷ (v ∷ cs))))) c h = let no : ⊥ = omega (arith, h) in elim no [ ]

leading_kept : (cs : List Attr) (c : Attr) → 4 ≤ number cs → leading cs ≡ leading (cs ++ (c ∷ []))
leading_kept [] c h = let no : ⊥ = omega (arith, h) in elim no [ ]
leading_kept (x ∷ []) c h = let no : ⊥ = omega (arith, h) in elim no [ ]
leading_kept (x ∷ (y ∷ [])) c h = let no : ⊥ = omega (arith, h) in elim no [ ]
leading_kept (x ∷ (y ∷ (z ∷ []))) c h = let no : ⊥ = omega (arith, h) in elim no [ ]
leading_kept (x ∷ (y ∷ (z ∷ (w ∷ [])))) c h = refl
leading_kept (x ∷ (y ∷ (z ∷ (w ∷ (v ∷ cs))))) c h = refl

last_with : (cs : List Attr) (c : Attr) → last (cs ++ (c ∷ [])) ≡ c
last_with [] c = refl
last_with (x ∷ []) c = refl
last_with (x ∷ (y ∷ cs)) c = last_with (y ∷ cs) c

every_with : (s : Site) (cs : List Attr) (c : Attr) → every s (cs ++ (c ∷ [])) ≡ every s cs && ok s c
every_with s [] c = and-true (ok s c)
every_with s (x ∷ cs) c = ap (λ (b : Bool). ok s x && b) (every_with s cs c) ∙ sym (and_assoc (ok s x) (every s cs) (ok s c))

rest_with : (s : Site) (cs : List Attr) (c : Attr) → every s (rest (cs ++ (c ∷ []))) ≡ eqb (number cs) 0 || (every s (rest cs) && ok s c)
rest_with s [] c = refl
rest_with s (x ∷ []) c = every_with s [] c
rest_with s (x ∷ (y ∷ [])) c = every_with s (y ∷ []) c
rest_with s (x ∷ (y ∷ (z ∷ []))) c = every_with s (y ∷ (z ∷ [])) c
rest_with s (x ∷ (y ∷ (z ∷ (w ∷ [])))) c = every_with s (y ∷ (z ∷ (w ∷ []))) c
rest_with s (x ∷ (y ∷ (z ∷ (w ∷ (v ∷ cs))))) c = every_with s (y ∷ (z ∷ (w ∷ (v ∷ cs)))) c

pub but_last_with : (cs : List Attr) (c : Attr) → but_last (cs ++ (c ∷ [])) ≡ cs
but_last_with [] c = refl
but_last_with (x ∷ []) c = refl
but_last_with (x ∷ (y ∷ cs)) c = ap (λ (ds : List Attr). x ∷ ds) (but_last_with (y ∷ cs) c)

bare_with : (cs : List Attr) (c : Attr) → any_bare (cs ++ (c ∷ [])) ≡ any_bare cs || c.bare_in
bare_with [] c = or-false c.bare_in
bare_with (x ∷ cs) c = ap (λ (b : Bool). x.bare_in || b) (bare_with cs c) ∙ sym (or_assoc x.bare_in (any_bare cs) c.bare_in)

declared_with : (d : Declared) (cs : List Attr) (c : Attr) → declared d (cs ++ (c ∷ [])) ≡ next (declared d cs) c
declared_with d [] c = refl
declared_with d (x ∷ cs) c = declared_with (next d x) cs c

pub leading_at : (cs : List Attr) (k : Summary) (i : ℕ) (d : Traits) → Sums cs k → i < 4 → traits_of (get_or k.leading i d) ≡ get_or (leading cs) i absent
leading_at cs k i d s h =
    let four : length k.leading ≡ 4 = sym (length-map k.leading traits_of) ∙ ap length s.leading in
    sym (get_or-map traits_of k.leading i d absent (omega (arith, h, four))) ∙ ap (λ (ds : List Attr). get_or ds i absent) s.leading

pub bare_at : (cs : List Attr) (k : Summary) (i : ℕ) (d : Traits) → Sums cs k → i < 4 → (get_or k.leading i d).bare_in ≡ (get_or (leading cs) i absent).bare_in
bare_at cs k i d s h = ap (λ (a : Attr). a.bare_in) (leading_at cs k i d s h)

module _ (cs : List Attr) (k : Summary) (t : Traits) (s : Sums cs k) where
  pub placed : k.number < 4 → map traits_of (set k.leading k.number t) ≡ leading (cs ++ (traits_of t ∷ []))
  placed h = map-set traits_of k.leading k.number t ∙ ap (λ (ds : List Attr). set ds k.number (traits_of t)) s.leading ∙ ap (λ (n : ℕ). set (leading cs) n (traits_of t)) s.number ∙ leading_set cs (traits_of t) (omega (arith, h, s.number))

  pub kept : 4 ≤ k.number → map traits_of k.leading ≡ leading (cs ++ (traits_of t ∷ []))
  kept h = s.leading ∙ leading_kept cs (traits_of t) (omega (arith, h, s.number))

  pub sums_with : (n : ℕ) (ts : List Traits) (v p m l : Bool) (d : Declared) → n ≡ more k.number → map traits_of ts ≡ leading (cs ++ (traits_of t ∷ [])) → v ≡ ok (at slot.Assignment) (traits_of t) → p ≡ is_sort property (traits_of t) → m ≡ is_statement (traits_of t) → l ≡ ok plain_name (traits_of t) → d ≡ next k.declared (traits_of t) → Sums (cs ++ (traits_of t ∷ [])) (record { number = n; leading = ts; last = t; values = k.values && v; arguments = eqb k.number 0 || (k.arguments && v); properties = k.properties && p; statements = k.statements && m; names = k.names && l; parameters = k.names; bare_in = k.bare_in || t.bare_in; declared = d })
  sums_with n ts v p m l d en et ev ep em el ed =
      record {
        number = en ∙ ap more s.number ∙ sym (number_with cs (traits_of t));
        leading = et;
        last = sym (last_with cs (traits_of t));
        values = rw (s.values, ev) (sym (every_with (at slot.Assignment) cs (traits_of t)));
        arguments = rw (s.number, s.arguments, ev) (sym (rest_with (at slot.Assignment) cs (traits_of t)));
        properties = rw (s.properties, ep) (sym (every_with prop cs (traits_of t)));
        statements = rw (s.statements, em) (sym (every_with stmt cs (traits_of t)));
        names = rw (s.names, el) (sym (every_with plain_name cs (traits_of t)));
        parameters = rw (but_last_with cs (traits_of t)) s.names;
        bare = rw s.bare (sym (bare_with cs (traits_of t)));
        declared = ed ∙ ap (λ (z : Declared). next z (traits_of t)) s.declared ∙ sym (declared_with Nothing cs (traits_of t));
      }
