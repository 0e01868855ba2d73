-- As many children as sites, from the summary.
use Prim.Native.Nat.{ℕ, zero, suc, ◌<◌, ◌≤◌}
use mathlib.Core.Path.{◌≡◌, refl, sym, ◌∙◌, ap}
use mathlib.Core.Bool.{Bool, true, false, ◌&&◌}
use mathlib.Core.List.{List, [], ◌∷◌, map}
use lib.ListN.{length, get_or}
use Rattle.std.proofs.Common.{arith}
use Rattle.std.proofs.Math.Bool.{and-false}
use Rattle.std.specs.Bool.{MatchBool}
use Rattle.std.specs.List.{zip, AllWithin, HoldsAt}
use Rattle.std.proofs.lemmas.List.{length-map}
use Rattle.grammar.specs.Site.{Attr, Site, ok}
use Rattle.grammar.specs.Layout.{rest}
use Rattle.fitting.specs.Traits.{traits_of, site_of}
use Rattle.fitting.specs.Summary.{number, first, Sums}
use Rattle.fitting.specs.Sites.{stand, fit_sites}
use Rattle.fitting.specs.declared.summary.Summary.{Summary}
use Rattle.fitting.specs.declared.traits.Traits.{Traits}
use Rattle.fitting.specs.declared.site.Site.{Site as SiteR}

stand_none : (ss : List Site) → stand ss [] ≡ true
stand_none [] = refl
stand_none (s ∷ ss) = refl

-- A child and its site.
abbrev pub Stands : Traits × SiteR → Type 0
Stands p = ok (site_of p.1) (traits_of p.0) ≡ true

abbrev pub Fails : Traits × SiteR → Type 0
Fails p = ok (site_of p.1) (traits_of p.0) ≡ false

all_stand : (ts : List Traits) (ss : List SiteR) → ((k : ℕ) (d : Traits × SiteR) → k < length (zip ts ss) → Stands (get_or (zip ts ss) k d)) → true ≡ stand (map site_of ss) (map traits_of ts)
all_stand [] ss h = sym (stand_none (map site_of ss))
all_stand (t ∷ ts) [] h = refl
all_stand (t ∷ ts) (s ∷ ss) h = all_stand ts ss (λ k d l. h (suc k) d (omega (arith, l))) ∙ ap (λ (b : Bool). b && stand (map site_of ss) (map traits_of ts)) (sym (h 0 (t, s) (omega arith)))

one_fails : (ts : List Traits) (ss : List SiteR) (k : ℕ) → k < length (zip ts ss) → ((d : Traits × SiteR) → Fails (get_or (zip ts ss) k d)) → false ≡ stand (map site_of ss) (map traits_of ts)
one_fails [] ss k l h = absurd (omega (arith, l))
one_fails (t ∷ ts) [] k l h = absurd (omega (arith, l))
one_fails (t ∷ ts) (s ∷ ss) zero l h = ap (λ (b : Bool). b && stand (map site_of ss) (map traits_of ts)) (sym (h (t, s)))
one_fails (t ∷ ts) (s ∷ ss) (suc k) l h = sym (and-false (ok (site_of s) (traits_of t))) ∙ ap (λ (b : Bool). ok (site_of s) (traits_of t) && b) (one_fails ts ss k (omega (arith, l)) h)

pub stand_told : (ts : List Traits) (ss : List SiteR) (r : Bool) → MatchBool r (AllWithin Stands (zip ts ss) 0 (length (zip ts ss))) ((k : ℕ) × (k < length (zip ts ss)) × HoldsAt Fails (zip ts ss) k) → r ≡ stand (map site_of ss) (map traits_of ts)
stand_told ts ss true h = all_stand ts ss (λ k d l. h k d (omega arith) l)
stand_told ts ss false h = one_fails ts ss h.0 h.1 h.2

-- The number stops at five, and no more than four sites are asked for.
number_is : (cs : List Attr) (n : ℕ) → n ≤ 4 → (number cs ≡ n → length cs ≡ n) × (length cs ≡ n → number cs ≡ n)
number_is [] n h = ((λ e. e), (λ e. e))
number_is (x ∷ []) n h = ((λ e. e), (λ e. e))
number_is (x ∷ (y ∷ [])) n h = ((λ e. e), (λ e. e))
number_is (x ∷ (y ∷ (z ∷ []))) n h = ((λ e. e), (λ e. e))
number_is (x ∷ (y ∷ (z ∷ (w ∷ [])))) n h = ((λ e. e), (λ e. e))
number_is (x ∷ (y ∷ (z ∷ (w ∷ (v ∷ cs))))) n h = ((λ e. absurd (omega (arith, h, e))), (λ e. absurd (omega (arith, h, e))))

-- The first n of cs, and `absent` for each that is not there.
abbrev padded : ℕ → List Attr → List Attr
padded zero cs = []
padded (suc n) cs = first cs ∷ padded n (rest cs)

stand_alike : (n : ℕ) (ss : List Site) (cs : List Attr) → length ss ≤ n → length cs ≡ length ss → stand ss (padded n cs) ≡ fit_sites ss cs
stand_alike n [] [] h e = refl
stand_alike n [] (c ∷ cs) h e = absurd (omega (arith, e))
stand_alike n (s ∷ ss) [] h e = absurd (omega (arith, e))
stand_alike zero (s ∷ ss) (c ∷ cs) h e = absurd (omega (arith, h))
stand_alike (suc n) (s ∷ ss) (c ∷ cs) h e = ap (λ (b : Bool). ok s c && b) (stand_alike n ss cs (omega (arith, h)) (omega (arith, e)))

stand_unlike : (ss : List Site) (cs : List Attr) → (length cs ≡ length ss → ⊥) → false ≡ fit_sites ss cs
stand_unlike [] [] h = absurd (h refl)
stand_unlike [] (c ∷ cs) h = refl
stand_unlike (s ∷ ss) [] h = refl
stand_unlike (s ∷ ss) (c ∷ cs) h = sym (and-false (ok s c)) ∙ ap (λ (b : Bool). ok s c && b) (stand_unlike ss cs (λ e. h (omega (arith, e))))

module _ (cs : List Attr) (k : Summary) (ss : List SiteR) (h : Sums cs k) (few : length ss ≤ 4) where
  pub as_many : k.number ≡ length ss → stand (map site_of ss) (map traits_of k.leading) ≡ fit_sites (map site_of ss) cs
  as_many e = ap (λ (ds : List Attr). stand (map site_of ss) ds) h.leading ∙ stand_alike 4 (map site_of ss) cs (omega (arith, few, length-map ss site_of)) ((number_is cs (length ss) few).0 (sym h.number ∙ e) ∙ sym (length-map ss site_of))

  pub not_as_many : (k.number ≡ length ss → ⊥) → false ≡ fit_sites (map site_of ss) cs
  not_as_many n = stand_unlike (map site_of ss) cs (λ e. n (h.number ∙ (number_is cs (length ss) few).1 (e ∙ length-map ss site_of)))
