-- What is true of every chain, whatever the records hold.
--
--   ChainLaws     a head has one chain; no slot is on it twice; it is no longer than there are slots
--
-- Assumes nothing.
use Rattle.std.specs.Prelude.{◌≡◌, ℕ, ◌≤◌, List, length}
use Rattle.chain.specs.Chain.{room, Chain, times}

pub record ChainLaws : Type 0 where
  pub unique : (m : List ℕ) (h : ℕ) (ks js : List ℕ) → Chain m h ks → Chain m h js → ks ≡ js
  pub once : (m : List ℕ) (h : ℕ) (ks : List ℕ) → Chain m h ks → (k : ℕ) → times k ks ≤ 1
  pub short : (m : List ℕ) (h : ℕ) (ks : List ℕ) → Chain m h ks → length ks ≤ room (length m)
