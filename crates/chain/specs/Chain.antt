-- Chains of records, as lists of slots. A slot is a record's number: slots count from 1, so the record of slot k stands at
-- index k - 1, and 0 is no slot but ends every chain. A slot is a 16-bit number: records past 65,535 have none.
--
--   room n               how many of n records have a slot
--   Slot n k             k is a slot of n records
--   link_at m k          the link of the record of slot k, where m has the links of all records
--   Chain m h ks         from h the links m lead through the slots ks, in this order, and then end
--   times k ks           how often the list ks has k
--   Off m h k            the slot k is not on the chain that begins at h
--   Drawn m ks r h       what drawing from the chain ks answers: the slot that came, and where the chain then begins
--   slots_from k n       the n slots from k on
--   after n i            the link of the record at index i where a chain has all n slots in their order
--   relinked f s k v d   the records s, that of slot k with the link v; d is any record
--   Beyond s t           t has as many records as s, and those that have no slot are as they were
--   SameLoan a b         the records b are those that were lent as a
--
-- Assumes nothing.
use Rattle.std.specs.Borrow.{Lends, MutBor, Fml, Array, RattleType}
use Rattle.std.specs.Prelude.{◌≡◌, ℕ, zero, suc, ◌+◌, ◌-◌, ◌<◌, ◌≤◌, min, cond, List, [], ◌∷◌, length, drop, Some, None, Option, ◌==◌, nat_lt, slice_index, slice_index_or, slice_set}

abbrev pub room : ℕ → ℕ
room n = min n 65535

abbrev pub Slot : ℕ → ℕ → Type 0
Slot n k = (0 < k) × (k ≤ room n)

abbrev pub link_at : List ℕ → ℕ → ℕ
link_at m k = slice_index m (k - 1)

abbrev pub Chain : List ℕ → ℕ → List ℕ → Type 0
Chain m h [] = h ≡ 0
Chain m h (k ∷ ks) = (h ≡ k) × Slot (length m) k × Chain m (link_at m k) ks

-- 1 where two numbers are one, and 0 elsewhere
unfoldable pub is : ℕ → ℕ → ℕ
is k j = cond (k == j) 1 0

abbrev pub times : ℕ → List ℕ → ℕ
times k [] = 0
times k (j ∷ js) = is k j + times k js

abbrev pub Off : List ℕ → ℕ → ℕ → Type 0
Off m h k = (ks : List ℕ) → Chain m h ks → times k ks ≡ 0

abbrev pub Drawn : List ℕ → List ℕ → Option ℕ → ℕ → Type 0
Drawn m [] r h = (r ≡ None) × (h ≡ 0)
Drawn m (k ∷ ks) r h = (r ≡ Some k) × Chain m h ks

abbrev pub slots_from : ℕ → ℕ → List ℕ
slots_from k zero = []
slots_from k (suc n) = k ∷ slots_from (suc k) n

abbrev pub after : ℕ → ℕ → ℕ
after n i = cond (nat_lt (i + 1) n) (i + 2) 0

abbrev pub relinked : {X : Type 0} → (X → ℕ → X) → List X → ℕ → ℕ → X → List X
relinked f s k v d = slice_set s (k - 1) (f (slice_index_or s (k - 1) d) v)

abbrev pub Beyond : {X : Type 0} → List X → List X → Type 0
Beyond s t = (length t ≡ length s) × (drop (room (length s)) t ≡ drop (room (length s)) s)

abbrev pub SameLoan : {X : Type 0} → MutBor X → MutBor X → Type 0
SameLoan a b = b.ghost_name ≡ a.ghost_name

-- what is last written through r ends up at the slot k, and the other records stay
abbrev pub LendsRecord : (T : RattleType) → MutBor (List T.Denot) → ℕ → MutBor T.Denot → Fml
LendsRecord T s k r = Lends (Array T 0) T s r (slice_set s.now (k - 1))
