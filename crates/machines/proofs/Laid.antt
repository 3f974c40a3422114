-- A machine's table that is written in three parts: its start weights, its end weights and its blocks.
use Rattle.std.proofs.Common.{◌≡◌, ℕ, ◌+◌, ◌-◌, ◌*◌, ◌<◌, ◌≤◌, List, ◌++◌, length, ap, ◌∙◌, arith}
use lib.Arith.{digits_lt}
use Rattle.weights.specs.Semiring.{Ops}
use Rattle.machines.specs.Arcs.{block_entry}
use Rattle.machines.specs.Machine.{Machine, Alike}
use Rattle.machines.specs.Meant.{machine_of}
use Rattle.machines.specs.Tables.{weight_at}
use Rattle.machines.proofs.Places.{weight_take, weight_part, weight_first, weight_second}

module _ {K W : Type 0} (o : Ops W) (meaning : K → W) {d : ℕ} (xs ys zs : List K) (starts_long : length xs ≡ d) (ends_long : length ys ≡ d) where
  -- what stands at the places behind the start weights
  behind_starts : (p : ℕ) → weight_at o meaning (xs ++ (ys ++ zs)) (d + p) ≡ weight_at o meaning (ys ++ zs) p
  behind_starts p = let second = weight_second o meaning xs (ys ++ zs) p in rw starts_long at second

  -- and behind the end weights
  behind_ends : (p : ℕ) → weight_at o meaning (ys ++ zs) (d + p) ≡ weight_at o meaning zs p
  behind_ends p = let second = weight_second o meaning ys zs p in rw ends_long at second

  -- where the parts have the weights of a machine, the table is that machine
  pub laid_alike : {l : ℕ} (y : Machine W) → d ≡ y.states →
      ((i : ℕ) → i < d → weight_at o meaning xs i ≡ y.start i) → ((i : ℕ) → i < d → weight_at o meaning ys i ≡ y.final i) →
      ((c i k : ℕ) → 1 ≤ c → c ≤ l → i < d → k < d → block_entry o meaning d zs c i k ≡ y.block c i k) →
      Alike (machine_of o meaning d l (xs ++ (ys ++ zs))) y
  laid_alike y same starts ends blocks =
      let table = xs ++ (ys ++ zs) in
      record {
        states = same;
        start = λ i h. weight_take o meaning d table i h ∙ weight_first o meaning xs (ys ++ zs) i (omega arith) ∙ starts i h;
        final = λ i h. weight_part o meaning d d table i h ∙ behind_starts i ∙ weight_first o meaning ys zs i (omega arith) ∙ ends i h;
        block = λ c i k b u h v.
            let size = d * d in
            let p = (c - 1) * size + (i * d + k) in
            let place : 2 * d + (c - 1) * size + (i * d + k) ≡ d + (d + p) = omega arith in
            weight_part o meaning (2 * d + (c - 1) * size) size table (i * d + k) (digits_lt h v)
            ∙ ap (weight_at o meaning table) place ∙ behind_starts (d + p) ∙ behind_ends p ∙ blocks c i k b u h v;
      }
