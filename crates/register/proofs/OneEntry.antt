-- One entry, where two lists become one: in which list it stands afterwards, and with which rank. It is `on` the side of the
-- two lists or not, stands at the offset o, and has the rank n.
use Rattle.std.proofs.Common.{◌≡◌, ℕ, ◌+◌, ◌<◌, Bool, true, false, cond, ◌&&◌, ◌||◌, eqb, ◌⊎◌, refl, arith}
use Rattle.std.proofs.lemmas.Bool.Decides.{nat_tests}

-- two lists have no entry in common
pub apart_one : (on : Bool) (o first second : ℕ) → (first ≡ second → ⊥) → cond ((on && eqb o first) || (on && eqb o second)) 1 0 ≡ cond (on && eqb o first) 1 0 + cond (on && eqb o second) 1 0
apart_one true o first second ne = grind (arith, nat_tests)
apart_one false o first second ne = refl

-- where an entry stands afterwards, and with which rank, if it is `on` the side
abbrev off : ℕ → ℕ → ℕ → Bool → ℕ → ℕ
off first second to on o = cond ((on && eqb o first) || (on && eqb o second)) to o

abbrev rk : ℕ → ℕ → Bool → ℕ → ℕ → ℕ
rk second ahead on o n = cond (on && eqb o second) (n + ahead) n

-- the other side
pub other_here : (first second to k : ℕ) (a on : Bool) (o : ℕ) → (a ≡ true → on ≡ false) → a && eqb (off first second to on o) k ≡ a && eqb o k
other_here first second to k true on o h = rw (h refl) refl
other_here first second to k false on o h = refl

pub other_ranked : (first second to ahead k r : ℕ) (a on : Bool) (o n : ℕ) → (a ≡ true → on ≡ false) → (a && eqb (off first second to on o) k) && eqb (rk second ahead on o n) r ≡ (a && eqb o k) && eqb n r
other_ranked first second to ahead k r true on o n h = rw (h refl) refl
other_ranked first second to ahead k r false on o n h = refl

-- another list of the side
pub apart_here : (first second to k : ℕ) (on : Bool) (o : ℕ) → (k ≡ to → ⊥) → (k ≡ first → ⊥) → (k ≡ second → ⊥) → on && eqb (off first second to on o) k ≡ on && eqb o k
apart_here first second to k true o t f s = grind (arith, nat_tests)
apart_here first second to k false o t f s = refl

pub apart_ranked : (first second to ahead k r : ℕ) (on : Bool) (o n : ℕ) → (k ≡ to → ⊥) → (k ≡ first → ⊥) → (k ≡ second → ⊥) → (on && eqb (off first second to on o) k) && eqb (rk second ahead on o n) r ≡ (on && eqb o k) && eqb n r
apart_ranked first second to ahead k r true o n t f s = grind (arith, nat_tests)
apart_ranked first second to ahead k r false o n t f s = refl

-- the list that is left empty
pub gone_here : (first second to k : ℕ) (on : Bool) (o : ℕ) → (k ≡ to → ⊥) → ((k ≡ first) ⊎ (k ≡ second)) → on && eqb (off first second to on o) k ≡ false
gone_here first second to k true o t g = grind (arith, nat_tests)
gone_here first second to k false o t g = refl

-- the list that has both
pub there_here : (first second to : ℕ) (on : Bool) (o : ℕ) → ((to ≡ first) ⊎ (to ≡ second)) → on && eqb (off first second to on o) to ≡ (on && eqb o first) || (on && eqb o second)
there_here first second to true o g = grind (arith, nat_tests)
there_here first second to false o g = refl

pub there_front : (first second to ahead r : ℕ) (on : Bool) (o n : ℕ) → (first ≡ second → ⊥) → ((to ≡ first) ⊎ (to ≡ second)) → r < ahead → (on && eqb (off first second to on o) to) && eqb (rk second ahead on o n) r ≡ (on && eqb o first) && eqb n r
there_front first second to ahead r true o n ne g l = grind (arith, nat_tests)
there_front first second to ahead r false o n ne g l = refl

pub there_behind :
    (first second to ahead r : ℕ)
    (on : Bool)
    (o n : ℕ)
    → (first ≡ second → ⊥)
    → ((to ≡ first) ⊎ (to ≡ second))
    → (on ≡ true → o ≡ first → n < ahead)
    → (on && eqb (off first second to on o) to) && eqb (rk second ahead on o n) (ahead + r) ≡ (on && eqb o second) && eqb n r
there_behind first second to ahead r true o n ne g b = let m = b refl in grind (arith, nat_tests)
there_behind first second to ahead r false o n ne g b = refl
