-- What is kept of the children of a record, as far as any form asks.
--
--   absent                    what stands for a child that is not there
--   number cs                 how many children there are, up to five
--   more n                    one more than n, up to five
--   first second third fourth last    the attributes of single children, or absent
--   leading cs                those of the first four
--   every s cs                each of cs may stand at the site s
--   any_bare cs               an `in` stands in the open in one of cs
--   next d c, declared d cs   how far the Names and values of a Var have come, behind one more child, behind all of cs
--   Sums cs k                 k is the summary of children with the attributes cs
--
-- Assumes nothing.
use Rattle.std.specs.Prelude.{ℕ, ◌+◌, ◌≡◌, Bool, true, false, cond, ◌&&◌, ◌||◌, List, [], ◌∷◌, map, ltb}
use Rattle.kinds.specs.Levels.{standing}
use Rattle.kinds.specs.declared.form.Form.TheVariants as form
use Rattle.kinds.specs.declared.level.Slot.TheVariants as slot
use Rattle.grammar.specs.Site.{Attr, Site, at, stmt, prop, plain_name, nothing, other, valued, is_sort, ok}
use Rattle.grammar.specs.Layout.{rest, but_last}
use Rattle.fitting.specs.Traits.{traits_of}
use Rattle.fitting.specs.declared.summary.Declared.{Declared}
use Rattle.fitting.specs.declared.summary.Declared.TheVariants.{Nothing, Complete, Unvalued, Wrong}
use Rattle.fitting.specs.declared.summary.Summary.{Summary}

abbrev pub absent : Attr
absent = record { sort = nothing; standing = standing form.Free false false; bare_in = false; begin = other; dangles = false; single = false }

abbrev pub number : List Attr → ℕ
number [] = 0
number (a ∷ []) = 1
number (a ∷ (b ∷ [])) = 2
number (a ∷ (b ∷ (c ∷ []))) = 3
number (a ∷ (b ∷ (c ∷ (d ∷ [])))) = 4
number (a ∷ (b ∷ (c ∷ (d ∷ (e ∷ cs))))) = 5

-- one more than n, up to five
abbrev pub more : ℕ → ℕ
more n = cond (ltb n 5) (n + 1) 5

abbrev pub first : List Attr → Attr
first [] = absent
first (a ∷ cs) = a

abbrev pub second : List Attr → Attr
second cs = first (rest cs)

abbrev pub third : List Attr → Attr
third cs = first (rest (rest cs))

abbrev pub fourth : List Attr → Attr
fourth cs = first (rest (rest (rest cs)))

abbrev pub leading : List Attr → List Attr
leading cs = first cs ∷ (second cs ∷ (third cs ∷ (fourth cs ∷ [])))

abbrev pub last : List Attr → Attr
last [] = absent
last (a ∷ []) = a
last (a ∷ (b ∷ cs)) = last (b ∷ cs)

abbrev pub every : Site → List Attr → Bool
every s [] = true
every s (c ∷ cs) = ok s c && every s cs

abbrev pub any_bare : List Attr → Bool
any_bare [] = false
any_bare (c ∷ cs) = c.bare_in || any_bare cs

-- The next Name: one with a value to come, or a plain one.
abbrev pub named : Attr → Declared
named c = cond (is_sort valued c) Unvalued (cond (ok plain_name c) Complete Wrong)

abbrev pub next : Declared → Attr → Declared
next Nothing c = named c
next Complete c = named c
next Unvalued c = cond (ok (at slot.Assignment) c) Complete Wrong
next Wrong c = Wrong

abbrev pub declared : Declared → List Attr → Declared
declared d [] = d
declared d (c ∷ cs) = declared (next d c) cs

pub record Sums (cs : List Attr) (k : Summary) : Type 0 where
  pub number : k.number ≡ number cs
  pub leading : map traits_of k.leading ≡ leading cs
  pub last : traits_of k.last ≡ last cs
  pub values : k.values ≡ every (at slot.Assignment) cs
  pub arguments : k.arguments ≡ every (at slot.Assignment) (rest cs)
  pub properties : k.properties ≡ every prop cs
  pub statements : k.statements ≡ every stmt cs
  pub names : k.names ≡ every plain_name cs
  pub parameters : k.parameters ≡ every plain_name (but_last cs)
  pub bare : k.bare_in ≡ any_bare cs
  pub declared : k.declared ≡ declared Nothing cs
