-- The ledger of a pool just made.
use Rattle.std.proofs.Common.{◌≡◌, ℕ, zero, suc, ◌+◌, ◌<◌, List, length, refl, ap, subst, arith}
use Rattle.chain.specs.Chain.{room, Slot, Chain, times, slots_from, Beyond}
use Rattle.chain.proofs.Runs.{length_from, times_before, times_from, times_behind}
use Rattle.records.specs.declared.record.Record.{Record}
use Rattle.records.specs.Record.{at, links, vacant}
use Rattle.toolkit.specs.Ledger.{state}
use Rattle.toolkit.specs.Calls.{Fresh}

pub fresh :
    (n : ℕ)
    (s t : List Record)
    (free : ℕ)
    → Chain (links t) free (slots_from 1 (room (length s)))
    → ((k : ℕ) → Slot (length s) k → at t k ≡ vacant (at t k).next)
    → Beyond s t
    → Fresh n s (state n t free)
fresh n s t free c v b =
    record {
      number = refl;
      ledger = (
        slots_from 1 (room (length s)),
        record {
          chain = c;
          stand = tt;
          once = λ k sl. omega (arith, times_from k 1 (room (length s)) sl.0 (omega (arith, sl.1, b.0)));
          past = λ k q. nowhere k q;
          unmarked = λ k sl z. ap (λ (r : Record). r.mark) (v k (subst (λ x. Slot x k) b.0 sl));
        },
        length_from 1 (room (length s)),
      );
      beyond = b;
    }
  where
    nowhere : (k : ℕ) → (0 < k → room (length t) < k) → times k (slots_from 1 (room (length s))) + 0 ≡ 0
    nowhere zero q = omega (arith, times_before 0 1 (room (length s)) (omega arith))
    nowhere (suc k) q = omega (arith, times_behind (suc k) 1 (room (length s)) (let l : room (length t) < suc k = q (omega arith) in omega (arith, b.0)))
