-- Lists of calls on a pool, and that each record is accounted for after every one of them.
--
--   Event            a call with its arguments and its answer
--   Step a e z       the event e led from the pool a to the pool z: by the call's own outcome relation
--   Run a es z       so did the events es, the latest first, one after the other
--   gives e          the roots that an accepted call was given; leaves e: those that it leaves. A refused call has none
--   outstanding rs es   the roots of the trees that are out after the events es, where rs were out before: from the events alone
--   Accounted z rs   in z each record is found once, on the free chain or in one tree, and the trees' roots are rs
--
-- Assumes nothing.
use Rattle.std.specs.Prelude.{◌≡◌, ℕ, cond, List, [], ◌∷◌, ◌++◌, ◌==◌}
use Rattle.chain.specs.Chain.{times}
use Rattle.token.specs.declared.Token.{Token}
use Rattle.records.specs.declared.record.Record.{Record}
use Rattle.toolkit.specs.declared.trees.Key.{Key}
use Rattle.toolkit.specs.Ledger.{State, Entry, roots, Ledger}
use Rattle.toolkit.specs.Calls.{Answer, done, refused, Fresh, Unload, Read}

pub data Event : Type 0 where
  read : List Token → Answer Key → Event
  unload : Key → Answer (Unit {0}) → Event

abbrev pub Step : State → Event → State → Type 0
Step a (read ts r) z = Read a ts r z
Step a (unload t r) z = Unload a t r z

pub data Run (a : State) : List Event → State → Type 0 where
  start : Run a [] a
  then : {b z : State} {es : List Event} (e : Event) → Run a es b → Step b e z → Run a (e ∷ es) z

abbrev pub accepted : {X : Type 0} → Answer X → List ℕ → List ℕ
accepted (done x) ks = ks
accepted (refused e) ks = []

abbrev pub gives : Event → List ℕ
gives (read ts r) = []
gives (unload t r) = accepted r (t.root ∷ [])

abbrev pub leaves : Event → List ℕ
leaves (read ts (done t)) = t.root ∷ []
leaves (read ts (refused e)) = []
leaves (unload t r) = []

-- a list without the first k that it has
abbrev pub strike : ℕ → List ℕ → List ℕ
strike k [] = []
strike k (j ∷ js) = cond (k == j) js (j ∷ strike k js)

abbrev pub strike_all : List ℕ → List ℕ → List ℕ
strike_all [] js = js
strike_all (k ∷ ks) js = strike_all ks (strike k js)

abbrev pub outstanding : List ℕ → List Event → List ℕ
outstanding rs [] = rs
outstanding rs (e ∷ es) = leaves e ++ strike_all (gives e) (outstanding rs es)

abbrev pub Accounted : State → List ℕ → Type 0
Accounted z rs = (ks : List ℕ) × (ps : List Entry) × Ledger z ks ps × ((k : ℕ) → roots k ps ≡ times k rs)

-- nothing is out of a fresh pool; and whatever was out, each list of calls leaves each record accounted for
pub record AlwaysAccounted : Type 0 where
  pub fresh : (n : ℕ) (s : List Record) (a : State) → Fresh n s a → Accounted a []
  pub run : (a z : State) (rs : List ℕ) (es : List Event) → Accounted a rs → Run a es z → Accounted z (outstanding rs es)
