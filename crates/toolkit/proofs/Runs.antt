-- The law over lists of calls: each step settles the ledger, so a run does.
use Rattle.std.proofs.Common.{◌≡◌, ℕ, ◌+◌, ◌-◌, ◌≤◌, eqb, List, [], ◌∷◌, sym, refl, ap, ◌∙◌, subst, ⊎_elim, arith}
use Rattle.std.proofs.lemmas.Bool.{cases_eq, cond-true, cond-false, eq-eqb, ne_eqb}
use Rattle.chain.specs.Chain.{is, times}
use Rattle.chain.proofs.Counting.{is_unlike, is_cases, times_append}
use Rattle.toolkit.specs.Ledger.{State, Entry, roots, Ledger}
use Rattle.toolkit.specs.Calls.{done, refused, Released, Raised}
use Rattle.toolkit.specs.Run.{Event, read, unload, Step, Run, start, then, gives, leaves, strike, strike_all, outstanding, Accounted, AlwaysAccounted}
use Rattle.toolkit.proofs.Books.{without_roots}

-- what every call does to the ledger: the roots given go, the roots left come
abbrev pub Settles : State → List ℕ → List ℕ → State → Type 0
Settles a gs ls z =
    (ks : List ℕ) (ps : List Entry) → Ledger a ks ps
    → (js : List ℕ) × (qs : List Entry) × Ledger z js qs × ((k : ℕ) → (times k gs ≤ roots k ps) × (roots k qs ≡ times k ls + (roots k ps - times k gs)))

settles_none : (a z : State) → z ≡ a → Settles a [] [] z
settles_none a z e ks ps b = (ks, ps, subst (λ x. Ledger x ks ps) (sym e) b, λ k. (omega arith, omega arith))

pub step_settles : (a z : State) (e : Event) → Step a e z → Settles a (gives e) (leaves e) z
step_settles a z (read ts (done t)) h ks ps b =
    let x = h.raised ks ps b in
    let r : Raised a h.tree t z ks ps x.0 x.1 = x.2 in
    (x.1, x.0 ∷ ps, r.ledger, λ j. let e : is j x.0.root ≡ is j t.root = ap (is j) r.root in (omega arith, omega arith))
step_settles a z (read ts (refused e)) h ks ps b = settles_none a z h.1 ks ps b
step_settles a z (unload t (done u)) h ks ps b =
    let x = h.1.released ks ps b in
    let r : Released a t z ks ps x.0 x.1 x.2 = x.3 in
    (x.1, x.2, r.ledger, λ j. let e : is j x.0.root ≡ is j t.root = ap (is j) r.root in (omega (arith, without_roots r.others j), omega (arith, without_roots r.others j)))
step_settles a z (unload t (refused e)) h ks ps b = settles_none a z h.2 ks ps b

pub times_strike : (k j : ℕ) (ks : List ℕ) → times k (strike j ks) ≡ times k ks - is k j
times_strike k j [] = omega arith
times_strike k j (i ∷ ks) =
    ⊎_elim
    (λ e. ap (times k) (cond-true (eqb j i) ks (i ∷ strike j ks) (eq-eqb j i e)) ∙ (let q : is k j ≡ is k i = ap (is k) e in omega arith))
    (λ ne.
    ap (times k) (cond-false (eqb j i) ks (i ∷ strike j ks) (ne_eqb j i ne))
    ∙ ⊎_elim
    (λ x. let o : is k i ≡ 0 = is_unlike k i (λ y. ne (sym x.0 ∙ y)) in omega (arith, times_strike k j ks))
    (λ x. omega (arith, x.1, times_strike k j ks))
    (is_cases k j))
    (cases_eq j i)

pub times_strike_all : (k : ℕ) (gs ks : List ℕ) → times k (strike_all gs ks) ≡ times k ks - times k gs
times_strike_all k [] ks = omega arith
times_strike_all k (g ∷ gs) ks = omega (arith, times_strike_all k gs (strike g ks), times_strike k g ks)

pub run_accounted : {a z : State} {es : List Event} (rs : List ℕ) → Run a es z → Accounted a rs → Accounted z (outstanding rs es)
run_accounted rs start h = h
run_accounted rs (then {b = b} {z = z} {es = es} e r s) h =
    let x = run_accounted rs r h in
    let y = step_settles b z e s x.0 x.1 x.2 in (
      y.0,
      y.1,
      y.2,
      λ k.
          omega (arith, (y.3 k).1, x.3 k, times_append k (leaves e) (strike_all (gives e) (outstanding rs es)), times_strike_all k (gives e) (outstanding rs es)),
    )

pub always : AlwaysAccounted
always =
    record { fresh = λ n s a f. (f.ledger.0, [], f.ledger.1, λ k. refl); run = λ a z rs es h r. run_accounted rs r h }
