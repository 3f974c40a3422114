-- The rounds of a closing, row by row, as they are done in place.
use Rattle.std.proofs.Common.{◌≡◌, ℕ, zero, suc, ◌*◌, ◌<◌, ◌≤◌, List, ◌++◌, length, take, drop, sym, ap, ◌∙◌, ap₂, le_refl, arith}
use Rattle.weights.specs.Semiring.{Ops, Laws}
use Rattle.machines.specs.Closure.{Table, diagonal, round, rounds, closed}
use Rattle.machines.specs.declared.matrix.Matrix.{Matrix}
use Rattle.machines.specs.Matrix.{Becomes, matrix_of}
use Rattle.machines.specs.Tables.{table_of, Entries, Closed}
use Rattle.machines.proofs.Places.{table_take, table_front}
use Rattle.machines.proofs.Closes.{closes_uniformly}

-- a round of tables that agree
pub round_cong : {W : Type 0} (o : Ops W) (d j : ℕ) {t u : Table W} → j < d → Entries d t u → Entries d (round o j t) (round o j u)
round_cong o d j l e i k h m =
    ap₂ o.plus (e i k h m) (ap₂ o.times (ap₂ o.times (e i j h l) (ap o.star (e j j l l))) (e j k l m))

-- all the rounds of tables that agree, and their closed tables
rounds_cong : {W : Type 0} (o : Ops W) (d j : ℕ) {t u : Table W} → j ≤ d → Entries d t u → Entries d (rounds o j t) (rounds o j u)
rounds_cong o d zero l e = e
rounds_cong o d (suc j) l e = round_cong o d j l (rounds_cong o d j (omega arith) e)

pub closed_cong : {W : Type 0} (o : Ops W) (d : ℕ) {t u : Table W} → Entries d t u → Entries d (closed o d t) (closed o d u)
closed_cong o d e i k h l = ap (λ x. o.plus x (diagonal o i k)) (rounds_cong o d d (le_refl d) e i k h l)

module _ {K W : Type 0} {o : Ops W} (meaning : K → W) (laws : Laws o) (d : ℕ) where
  -- closing the front of a list closes its table
  pub front_closed : (old new : List K) → length new ≡ d * d →
      Entries d (table_of o meaning d new) (closed o d (table_of o meaning d (take (d * d) old))) →
      Closed o meaning d old (new ++ drop (d * d) old)
  front_closed old new long e =
      let entries : Entries d (table_of o meaning d (new ++ drop (d * d) old)) (closed o d (table_of o meaning d old)) =
      λ i k h l. table_front o meaning d new (drop (d * d) old) long i k h l ∙ e i k h l ∙ closed_cong o d (table_take o meaning d old) i k h l in
      let (n, settled) = closes_uniformly laws.plain laws.settles d (table_of o meaning d old) in
      record { entries = entries; settles = (n, λ m b i k h l. settled m b i k h l ∙ sym (entries i k h l)) }

  -- and so does closing a matrix that lies there
  pub matrix_closed : (old new : List K) (made shut : Matrix K) → made.states ≡ d → made.weights.now ≡ take (d * d) old →
      Becomes o meaning made shut (closed o made.states (matrix_of o meaning made)) → new ≡ shut.weights.now ++ drop (d * d) old →
      Closed o meaning d old new
  matrix_closed old new made shut states lies closes lent =
      rw lent (front_closed old shut.weights.now (rw (closes.states, states) at shut.square.1) (rw (states, lies) at closes.entries))
