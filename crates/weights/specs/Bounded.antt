-- Where nothing is better than one, the star is one.
use Rattle.std.specs.Prelude.{◌≡◌, ℕ, zero, suc, refl}
use Rattle.std.proofs.Common.{ap, ◌∙◌}
use Rattle.weights.specs.Semiring.{Ops, Settling, power, powers}

-- one absorbs every power that is joined to it
absorbed : {W : Type 0} (o : Ops W) → ((a : W) → o.plus o.unit a ≡ o.unit)
    → (a : W) (m : ℕ) → powers o a m ≡ o.unit
absorbed o bounded a zero = refl
absorbed o bounded a (suc m) =
    ap (λ b. o.plus b (power o a (suc m))) (absorbed o bounded a m) ∙ bounded (power o a (suc m))

-- so the join of the powers is one from the first on
pub bounded_settles : {W : Type 0} (o : Ops W) → ((a : W) → o.plus o.unit a ≡ o.unit)
    → ((a : W) → o.unit ≡ o.star a) → Settling o
bounded_settles o bounded star_is a = (0, λ m h. absorbed o bounded a m ∙ star_is a)
