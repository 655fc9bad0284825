-- The laws on which a search by trial stands: a row that meets with b more in row i meets with less, and row i's own distance to its deadline bounds every raise.
use mathlib.Core.Path.{◌≡◌, refl, sym, ap, ◌∙◌}
use Prim.Native.Nat.{ℕ, suc, ◌+◌, ◌*◌, ◌≤◌, ◌<◌}
use mathlib.Core.Bool.{Bool, true, false}
use mathlib.Core.List.{List}
use native.Mathlib.Omega.{arith}
use native.Mathlib.Nat.{mul-le-mul_right, mul-one}
use borrow.Author.Tests.{eq-eqb, leb-true, leb-false}
use lib.Dec.{T, leb, eqb, eqb_refl}
use lib.ListN.{length}
use Rattle.theory.specs.Row.{Row, row_at}
use Rattle.theory.specs.Rank.{rival}
use Rattle.theory.specs.Response.{load, Outcome, responds, misses, climb, IsResponse, Meets, AllMeet}
use Rattle.theory.specs.Allowance.{raised, IsAllowance}
use Rattle.theory.specs.Points.{times, touches}
use Rattle.theory.specs.Climb.{RoomAt, Climbed}
use Rattle.theory.proofs.Demand.{load_mono}
use Rattle.theory.proofs.Response.{meets_with_no_more_load, climb_from_one}
use Rattle.theory.proofs.Raise.{raised_in_set, raised_row, load_of_touched, load_of_untouched}
use Rattle.theory.proofs.Tests.{or_first}
use Rattle.theory.proofs.Each.{T_true, T_false}
use Rattle.theory.proofs.Verdict.{AllSteady}
use Rattle.theory.proofs.Allowance.{raised_steady}

-- a response time is at most every time with room
pub response_below_room : (rows : List Row) (k R S : ℕ) → 1 ≤ (row_at rows k).C → IsResponse rows k R → RoomAt (load rows k) S → R ≤ S
response_below_room rows k R S runs is-R room = go (climb (load rows k) S S 1) (climb_from_one rows k runs S)
  where
    go : (o : Outcome) → Climbed (load rows k) S o → R ≤ S
    go (responds Q) c = omega (arith, is-R.least Q c.0.room.from_one c.0.repeats, c.1)
    go misses c = absurd (let late : S < S = c S room in omega arith)

module _ (rows : List Row) (i : ℕ) (inside : i < length rows) where
  -- raising row i by more loads no row less
  pub raise_mono : (a b k t : ℕ) → a ≤ b → load (raised rows i a) k t ≤ load (raised rows i b) k t
  raise_mono a b k t h = go (touches rows i k) refl
    where
      go : (c : Bool) → touches rows i k ≡ c → load (raised rows i a) k t ≤ load (raised rows i b) k t
      go true e =
          let touched : T (touches rows i k) = T_true (touches rows i k) e in
          omega (
            arith,
            load_of_touched rows i a inside k t touched,
            load_of_touched rows i b inside k t touched,
            mul-le-mul_right (times rows k i t) h,
          )
      go false e =
          omega (
            arith,
            load_of_untouched rows i a inside k t (T_false (touches rows i k) e),
            load_of_untouched rows i b inside k t (T_false (touches rows i k) e),
          )

  -- and moves no deadline
  pub same_deadline : (a k : ℕ) → (row_at (raised rows i a) k).D ≡ (row_at rows k).D
  same_deadline a k = ap (λ (r : Row). r.D) (raised_row rows i a inside k)

  -- a row that meets with b more in row i meets with less
  pub meets_with_less : (a b k : ℕ) → 1 ≤ (row_at (raised rows i a) k).C → a ≤ b → Meets (raised rows i b) k → Meets (raised rows i a) k
  meets_with_less a b k runs h m = meets_with_no_more_load (raised rows i a) (raised rows i b) k runs (same_deadline b k ∙ sym (same_deadline a k)) (λ t from_one. raise_mono a b k t h) m

  -- so where a row misses with one more than a, no raise above a leaves all rows meeting
  pub miss_bounds : (a k : ℕ) → AllSteady rows → k < length rows → (Meets (raised rows i (suc a)) k → ⊥) → (b : ℕ) → AllMeet (raised rows i b) → b ≤ a
  miss_bounds a k steady in_set late b meet = go (leb b a) refl
    where
      go : (c : Bool) → leb b a ≡ c → b ≤ a
      go true e = leb-true b a e
      go false e =
          absurd (late (meets_with_less (suc a) b k (raised_steady rows steady i inside (suc a) k ((raised_in_set rows i (suc a)).1 in_set)).runs (leb-false b a e) (meet k ((raised_in_set rows i b).1 in_set))))

  -- its own raise counts once in row i's load
  raised_own : (b t : ℕ) → load (raised rows i b) i t ≡ load rows i t + b
  unfolding times
  raised_own b t =
      let once : times rows i i t ≡ 1 = rw (eq-eqb i i refl, times) in
      omega (
        arith,
        load_of_touched rows i b inside i t (or_first (eqb i i) (rival rows i i) (eqb_refl i)),
        ap (λ (n : ℕ). b * n) once,
        mul-one b,
      )

  -- no raise of row i with which it meets takes its response time past its deadline
  pub raise_bounded : (b R : ℕ) → 1 ≤ (row_at rows i).C → IsResponse rows i R → Meets (raised rows i b) i → R + b ≤ (row_at rows i).D
  unfolding load
  raise_bounded b R runs is-R m =
      let Q = m.response in
      let total : load rows i Q + b ≡ Q = omega (arith, m.is_response.solves, raised_own b Q) in
      let S = load rows i Q in
      let fits : load rows i S ≤ S = load_mono rows i (omega arith) in
      omega (
        arith,
        response_below_room rows i R S runs is-R (record { from_one = omega arith; enough = fits }),
        m.by_deadline,
        ap (λ (r : Row). r.D) (raised_row rows i b inside i),
      )

  -- a row that the raise does not touch meets with it
  pub untouched_meets : (a k : ℕ) → AllSteady rows → k < length rows → Meets rows k → (T (touches rows i k) → ⊥) → Meets (raised rows i a) k
  untouched_meets a k steady in_set plain untouched =
      meets_with_no_more_load (raised rows i a) rows k (raised_steady rows steady i inside a k ((raised_in_set rows i a).1 in_set)).runs (sym (same_deadline a k))
      (λ t from_one. omega (arith, load_of_untouched rows i a inside k t untouched)) plain

  -- so all rows meet with it where those do that it touches
  touched_decide : (a : ℕ) → AllSteady rows → AllMeet rows
      → ((k : ℕ) → k < length rows → T (touches rows i k) → Meets (raised rows i a) k)
      → (k : ℕ)
      → k < length rows
      → Meets (raised rows i a) k
  touched_decide a steady all touched-meet k in_set = go (touches rows i k) refl
    where
      go : (b : Bool) → touches rows i k ≡ b → Meets (raised rows i a) k
      go true e = touched-meet k in_set (T_true (touches rows i k) e)
      go false e = untouched_meets a k steady in_set (all k in_set) (T_false (touches rows i k) e)

  -- what a search by trial finds is the allowance: each row that the raise touches meets with it, and no larger one leaves all rows meeting
  pub trial_allowance : (a : ℕ) → AllSteady rows → AllMeet rows
      → ((k : ℕ) → k < length rows → T (touches rows i k) → Meets (raised rows i a) k)
      → ((b : ℕ) → AllMeet (raised rows i b) → b ≤ a)
      → IsAllowance rows i a
  trial_allowance a steady all touched-meet no_larger = record {
    all_meet = λ k h. touched_decide a steady all touched-meet k ((raised_in_set rows i a).0 h);
    largest = no_larger;
  }
