-- What a cleared chart's table tells, wherever it lies.
use Rattle.std.proofs.Common.{◌≡◌, ℕ, ◌+◌, ◌-◌, ◌*◌, ◌<◌, cond, List, [], ◌∷◌, ◌++◌, length, take, drop, sym, refl, ap, ◌∙◌, arith}
use lib.Arith.{digits_lt}
use Rattle.weights.specs.Semiring.{Ops, Plain, Laws}
use Rattle.charts.specs.Automaton.{Automaton, Sound, Spoken, Within}
use Rattle.machines.specs.Closure.{Table, closed}
use Rattle.machines.specs.Machine.{Machine, Alike, arc_table, cleared, cleared_by}
use Rattle.machines.specs.Meant.{machine_of, Cleared}
use Rattle.machines.specs.Shapes.{machine_size}
use Rattle.machines.specs.declared.matrix.Matrix.{Matrix}
use Rattle.machines.specs.Matrix.{Becomes, matrix_of}
use Rattle.machines.specs.Tables.{weight_at, Entries}
use Rattle.machines.proofs.Bridges.{told_cong}
use Rattle.machines.proofs.Clears.{clears}
use Rattle.machines.proofs.Places.{block_fits, weight_take, weight_part, weight_first}
use Rattle.machines.proofs.Rounds.{closed_cong}
use Rattle.machines.proofs.Sums.{sum_cong}

-- letters of a machine are spoken
within_spoken : (n : ℕ) (w : List ℕ) → Within n w → Spoken w
within_spoken n [] h = tt
within_spoken n (c ∷ w) h = (h.0, within_spoken n w h.2)

-- machines that agree with one that agrees with a third
pub alike_trans : {W : Type 0} {x y z : Machine W} → x.letters ≡ y.letters → Alike x y → Alike y z → Alike x z
alike_trans {x} {y} {z} same p q = record {
  states = p.states ∙ q.states;
  start = λ i h. p.start i h ∙ q.start i (rw (sym p.states) h);
  final = λ i h. p.final i h ∙ q.final i (rw (sym p.states) h);
  block = λ c i k b u h v. p.block c i k b u h v ∙ q.block c i k b (rw (sym same) u) (rw (sym p.states) h) (rw (sym p.states) v);
}

module _ {K W : Type 0} (o : Ops W) (meaning : K → W) where
  -- a machine is that of the first places of its table
  pub front_alike : (d l : ℕ) (ws rest : List K) → length ws ≡ machine_size d l → Alike (machine_of o meaning d l (ws ++ rest)) (machine_of o meaning d l ws)
  front_alike d l ws rest long =
      let first : (p : ℕ) → p < machine_size d l → weight_at o meaning (ws ++ rest) p ≡ weight_at o meaning ws p =
      λ p h. weight_first o meaning ws rest p (rw long h) in
      let part : (a n p : ℕ) → p < n → a + p < machine_size d l →
      weight_at o meaning (take n (drop a (ws ++ rest))) p ≡ weight_at o meaning (take n (drop a ws)) p =
      λ a n p h f. weight_part o meaning a n (ws ++ rest) p h ∙ first (a + p) f ∙ sym (weight_part o meaning a n ws p h) in
      record {
        states = refl;
        start = λ i h. weight_take o meaning d (ws ++ rest) i h ∙ first i (omega arith) ∙ sym (weight_take o meaning d ws i h);
        final = λ i h. part d d i h (omega arith);
        block = λ c i k b u h v.
            let place = digits_lt h v in
            let fits = block_fits (d * d) l c b u in
            part (2 * d + (c - 1) * (d * d)) (d * d) (i * d + k) place (omega arith);
      }

  -- a matrix is closed that has these entries
  pub closed_from : (d : ℕ) (t : Table W) (made held shut : Matrix K) → made.states ≡ d → Becomes o meaning made held t →
      Becomes o meaning held shut (closed o held.states (matrix_of o meaning held)) → Entries d (matrix_of o meaning shut) (closed o d t)
  closed_from d t made held shut states first closes =
      let before = rw states at first.entries in
      let after = rw (first.states ∙ states) at closes.entries in
      rw (closes.states ∙ first.states ∙ states) (λ i k h l. after i k h l ∙ closed_cong o d before i k h l)

module _ {W : Type 0} {o : Ops W} (plain : Plain o) (a : Automaton W) where
  -- the machine depends on the closed table's entries alone
  pub cleared_cong : {e f : Table W} → Entries a.states e f → Alike (cleared_by o a e) (cleared_by o a f)
  cleared_cong {e} {f} h = record {
    states = refl;
    start = λ i l. refl;
    final = λ i l. sum_cong plain a.states (λ j b. ap (λ x. cond (a.final j) x o.nil) (h i j l b));
    block = λ c i k b u l v. sum_cong plain a.states (λ j m. ap (λ x. o.times x (arc_table o a c j k)) (h i j l m));
  }

-- a table that has the weights of the cleared chart at its front tells the settled sums
pub cleared_front : {K W : Type 0} {o : Ops W} (meaning : K → W) → Laws o → (a : Automaton W) → Sound a → (ws rest : List K) →
    length ws ≡ machine_size a.states a.letters → Alike (machine_of o meaning a.states a.letters ws) (cleared o a) →
    Cleared o meaning a (ws ++ rest)
cleared_front {o} meaning laws a sound ws rest long alike =
    let whole = alike_trans refl (front_alike o meaning a.states a.letters ws rest long) alike in
    record {
      entries = whole;
      tells = λ w h.
          let (n, settled) = clears laws a sound w (within_spoken a.letters w h) in
          (n, λ m b. settled m b ∙ sym (told_cong laws.plain (machine_of o meaning a.states a.letters (ws ++ rest)) (cleared o a) whole w h));
    }
