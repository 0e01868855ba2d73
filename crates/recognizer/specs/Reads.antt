-- What the functions of the recognizer's walk promise, over the reader of the grammar. What does not speak of `Found` or `Parts` is the
-- reader's: Reads, Runs, Bad, NotParsed, own, graft.
--
--   Shape t f, Holds us p, Shaped us f     what is kept of a tree, of children, of a record over children
--   Parsed Made NotMade   the promises of the two functions that call each other
--   Carried Reached       what holds in their loops
--
-- Assumes nothing.
use Rattle.std.specs.Prelude.{◌≡◌, ℕ, ◌+◌, ◌<◌, ◌≤◌, max, Bool, true, false, ◌&&◌, List, [], ◌∷◌, ◌++◌, length, Some, None, Option as OptionR}
use Rattle.std.proofs.Math.Option.{some}
use Rattle.token.specs.declared.Token.{Token}
use Rattle.token.specs.declared.Code.{Code}
use Rattle.token.specs.Same.{same_code}
use Rattle.kinds.specs.Levels.{Standing}
use Rattle.kinds.specs.declared.form.Form.{Form}
use Rattle.grammar.specs.Site.{Attr}
use Rattle.grammar.specs.Tree.{head, head_of, Tree, Forest, node, nil, ◌▸◌, ◌⊕◌, size, sizes, depth, depths}
use Rattle.grammar.specs.Layout.{layout, attr_of, attr, attrs, fit_kids, good, goods, sort_of}
use Rattle.grammar.specs.Derives.{lo_of}
use Rattle.grammar.specs.Parser.{Goal, Do, Ran, ran, parse, loop, perform, goes_on, frame, next, starts}
use Rattle.fitting.specs.Traits.{traits_of}
use Rattle.fitting.specs.Summary.{Sums}
use Rattle.reader.specs.Rows.{single}
use Rattle.records.specs.declared.build.Children.{Children}
use Rattle.reader.specs.Reads.{own, Reads, Runs, graft, Bad}
use Rattle.recognizer.specs.declared.found.Found.{Found}
use Rattle.recognizer.specs.declared.found.Parts.{Parts}
use Rattle.reader.specs.declared.unread.Unread.{Unread}

abbrev pub standing_of : Found → Standing
standing_of f = (traits_of f.traits).standing

pub record Started (ks : List Token) (r : Children) (p : Parts) : Type 0 where
  pub children : Sums [] p.children
  pub fit : p.good ≡ true
  pub lo : p.lo ≡ lo_of ks
  pub hi : p.hi ≡ 0
  pub ahead : p.ahead.now ≡ ks
  pub records : p.below.records ≡ 0
  pub nests : p.below.depth ≡ 0
  pub row : p.row ≡ r

pub record Alone (f : Found) (p : Parts) : Type 0 where
  pub children : Sums (traits_of f.traits ∷ []) p.children
  pub fit : p.good ≡ f.good
  pub lo : p.lo ≡ f.lo
  pub hi : p.hi ≡ f.hi
  pub ahead : p.ahead.now ≡ f.ahead.now
  pub records : p.below.records ≡ f.below.records + 1
  pub nests : p.below.depth ≡ f.below.depth + 1
  pub row : p.row ≡ single f.slot

pub record Joined (p : Parts) (f : Found) (r : Children) (q : Parts) : Type 0 where
  pub children : (cs : List Attr) → Sums cs p.children → Sums (cs ++ (traits_of f.traits ∷ [])) q.children
  pub fit : q.good ≡ p.good && f.good
  pub lo : q.lo ≡ p.lo
  pub hi : q.hi ≡ f.hi
  pub ahead : q.ahead.now ≡ f.ahead.now
  pub records : q.below.records ≡ p.below.records + f.below.records + 1
  pub nests : q.below.depth ≡ max p.below.depth (f.below.depth + 1)
  pub row : q.row ≡ r

pub record Completed (p : Parts) (g : Form) (n : ℕ) (f : Found) : Type 0 where
  pub form : f.traits.form ≡ g
  pub attributes : (cs : List Attr) → Sums cs p.children → traits_of f.traits ≡ attr_of g cs
  pub fit : (cs : List Attr) → Sums cs p.children → f.good ≡ fit_kids (layout g cs) cs && p.good
  pub lo : f.lo ≡ p.lo
  pub hi : f.hi ≡ p.hi
  pub ahead : f.ahead.now ≡ p.ahead.now
  pub slot : f.slot ≡ n
  pub records : f.below.records ≡ p.below.records
  pub nests : f.below.depth ≡ p.below.depth

pub record Shape (t : Tree) (f : Found) : Type 0 where
  pub heads : head_of t ≡ head f.traits.form f.lo f.hi
  pub attributes : attr t ≡ traits_of f.traits
  pub fit : good t ≡ f.good
  pub records : size t ≡ 1 + f.below.records
  pub nests : depth t ≡ 1 + f.below.depth

pub record Holds (us : Forest) (p : Parts) : Type 0 where
  pub children : Sums (attrs us) p.children
  pub fit : goods us ≡ p.good
  pub records : sizes us ≡ p.below.records
  pub nests : depths us ≡ p.below.depth

pub record Shaped (us : Forest) (f : Found) : Type 0 where
  pub attributes : attr_of f.traits.form (attrs us) ≡ traits_of f.traits
  pub fit : fit_kids (layout f.traits.form (attrs us)) (attrs us) && goods us ≡ f.good
  pub records : sizes us ≡ f.below.records
  pub nests : depths us ≡ f.below.depth

pub record Parsed {K : Type 0} (ks : List Token) (b : Bool) (q : Goal) (R : K → K → Children → Forest → Type 0) (e x : K) (f : Found) : Type 0 where
  pub few : f.below.records + length f.ahead.now < length ks
  pub nests : f.below.depth ≤ f.below.records
  pub tree : (t : Tree) × Shape t f × Reads b q ks t f.ahead.now × R x e (single f.slot) (t ▸ nil)

pub record Made {K : Type 0} (b : Bool) (s : Do) (p : Parts) (R : K → K → Children → Forest → Type 0) (e x : K) (f : Found) : Type 0 where
  pub few : f.below.records + own s + length f.ahead.now ≤ p.below.records + length p.ahead.now
  pub nests : p.below.depth ≤ p.below.records → f.below.depth ≤ f.below.records
  pub lo : f.lo ≡ p.lo
  pub run : (us : Forest) × Runs b s p.hi p.ahead.now (ran f.traits.form us f.hi f.ahead.now) × ((ws : Forest) → Holds ws p → Shaped (ws ⊕ us) f)
  pub rows : (z : K) (ws : Forest) → R e z p.row ws → R x z (single f.slot) (node (head f.traits.form f.lo f.hi) (ws ⊕ run.0) ▸ nil)

abbrev pub NotMade : Bool → Do → Parts → ℕ → Unread → Type 0
NotMade b s p room e = (n : ℕ) (y : Ran) → perform n b s p.hi p.ahead.now ≡ some y → Bad e room (depths y.kids)

-- Since the loop began at p0 with s0 to do: the children us have come, and s is left to do at p.
pub record Carried {K : Type 0} (b : Bool) (s0 : Do) (p0 : Parts) (R : K → K → Children → Forest → Type 0) (e x : K) (s : Do) (p : Parts) : Type 0 where
  pub few : p.below.records + own s0 + length p.ahead.now ≤ p0.below.records + length p0.ahead.now + own s
  pub fewer : p.below.records + length p.ahead.now ≤ p0.below.records + length p0.ahead.now
  pub nests : p0.below.depth ≤ p0.below.records → p.below.depth ≤ p.below.records
  pub lo : p.lo ≡ p0.lo
  pub run : (us : Forest) × ((ws : Forest) → Holds ws p0 → Holds (ws ⊕ us) p) × ((k : ℕ) × ((m : ℕ) → k ≤ m → (n : ℕ) × (m ≤ n) × (perform n b s0 p0.hi p0.ahead.now ≡ graft us (perform m b s p.hi p.ahead.now))))
  pub rows : (z : K) (ws : Forest) → R e z p0.row ws → R x z p.row (ws ⊕ run.0)

-- What the grammar's reader finds at ks is what it finds behind the tree so far.
pub record Reached {K : Type 0} (ks : List Token) (b : Bool) (q : Goal) (R : K → K → Children → Forest → Type 0) (e x : K) (f : Found) : Type 0 where
  pub few : f.below.records + length f.ahead.now < length ks
  pub nests : f.below.depth ≤ f.below.records
  pub tree : (t : Tree) × Shape t f × ((k : ℕ) × ((m : ℕ) → k ≤ m → (n : ℕ) × (m ≤ n) × (parse n b q ks ≡ loop m b q t f.ahead.now)))
  pub rows : R x e (single f.slot) (tree.0 ▸ nil)

-- Whether a tree of the shape f goes on behind f.
abbrev pub Onward : Bool → Goal → Found → Bool → Type 0
Onward b q f r = (a : Attr) → a.sort ≡ sort_of f.traits.form → a.standing ≡ standing_of f → r ≡ goes_on b q a (frame (next f.ahead.now))

-- The parts q are p behind the token c, which was the next.
pub record Behind (p : Parts) (c : Code) (q : Parts) : Type 0 where
  pub next : (k : Token) × (p.ahead.now ≡ k ∷ q.ahead.now) × (same_code k.code c ≡ true) × (q.hi ≡ k.hi)
  pub children : q.children ≡ p.children
  pub fit : q.good ≡ p.good
  pub lo : q.lo ≡ p.lo
  pub records : q.below.records ≡ p.below.records
  pub nests : q.below.depth ≡ p.below.depth
  pub row : q.row ≡ p.row

abbrev pub Eaten : Parts → Code → OptionR Parts → Type 0
Eaten p c None = starts c p.ahead.now ≡ false
Eaten p c (Some q) = Behind p c q
