-- Two totals keep the laws of the kind that they are kept in.
use Rattle.std.specs.Prelude.{◌≡◌, ℕ, zero, suc, ◌+◌, ◌≤◌, refl}
use Rattle.std.proofs.Common.{sym, ap, ap₂, ◌∙◌, le_refl, arith}
use Rattle.std.proofs.Math.Decide.{le_ind}
use Rattle.weights.specs.Semiring.{Ops, Plain, Laws, Settling, power, powers}
use Rattle.machines.proofs.Sums.{plus_nil, plus_swap, plus_cross}
use Rattle.machines.proofs.Closes.{powers_on, star_on}
use Rattle.machines.proofs.Order.{Part, part_nil, part_refl, part_trans, part_along, part_antisym}
use Rattle.machines.proofs.Order.{part_plus, part_before}
use Rattle.conformance.specs.Dual.{Totals, dual}

-- two of them are equal if both totals are
pub same_totals : {W : Type 0} {a b : Totals W} → a.plain ≡ b.plain → a.marked ≡ b.marked → a ≡ b
same_totals p q = λ i. record { plain = p i; marked = q i }

module _ {W : Type 0} {o : Ops W} (laws : Plain o) where
  open laws use {plus_assoc, plus_comm, nil_plus, times_assoc, unit_times, times_unit}
  open laws use {times_plus, plus_times, nil_times, times_nil, apart, antisym}

  dual_plain : Plain (dual o)
  dual_plain = record {
    plus_assoc = λ a b c. same_totals (plus_assoc _ _ _) (plus_assoc _ _ _);
    plus_comm = λ a b. same_totals (plus_comm _ _) (plus_comm _ _);
    nil_plus = λ a. same_totals (nil_plus _) (nil_plus _);
    times_assoc = λ a b c. same_totals (times_assoc _ _ _) (simp (times_plus, plus_times, times_assoc, plus_assoc));
    unit_times = λ a. same_totals (unit_times _) (simp (unit_times, nil_times, plus_nil laws));
    times_unit = λ a. same_totals (times_unit _) (simp (times_unit, times_nil, nil_plus));
    times_plus = λ a b c. same_totals (times_plus _ _ _) (simp (times_plus) (plus_cross laws _ _ _ _));
    plus_times = λ a b c. same_totals (plus_times _ _ _) (simp (plus_times) (plus_cross laws _ _ _ _));
    nil_times = λ a. same_totals (nil_times _) (simp (nil_times, nil_plus));
    times_nil = λ a. same_totals (times_nil _) (simp (times_nil, nil_plus));
    apart = λ e. apart (ap (λ t. t.plain) e);
    antisym = λ a b c d p q.
        same_totals
        (antisym _ _ _ _ (ap (λ t. t.plain) p) (ap (λ t. t.plain) q))
        (antisym _ _ _ _ (ap (λ t. t.marked) p) (ap (λ t. t.marked) q));
  }

module _ {W : Type 0} {o : Ops W} (laws : Plain o) (settles : Settling o) where
  open o use {plus, times, star}
  open laws use {plus_assoc, plus_comm, nil_plus, times_assoc, unit_times}
  open laws use {times_plus, plus_times, times_nil}

  -- fewer powers are part of more
  powers_more : (x : W) (n m : ℕ) → n ≤ m → Part o (powers o x n) (powers o x m)
  powers_more x n m h =
      le_ind
      (λ k. Part o (powers o x n) (powers o x k))
      (part_refl laws)
      (λ k _ p. part_trans laws p (record { rest = power o x (suc k); joined = refl }))
      m
      h

  -- and all are part of the star
  powers_part : (x : W) (m : ℕ) → Part o (powers o x m) (star x)
  powers_part x m =
      let (n, settled) = settles x in
      part_along laws refl (powers_more x m (m + n) (omega arith)) (settled (m + n) (omega arith))

  -- one more round to both totals, put in another order
  regroup : (x y s t p q : W) →
      plus (plus (times y s) (times x t)) (plus (times x q) (times y p)) ≡ plus (times y (plus s p)) (times x (plus t q))
  regroup x y s t p q = simp (times_plus, plus_assoc, plus_comm, plus_swap laws)

  module _ (a : Totals W) where
    abbrev x : W
    x = a.plain

    abbrev y : W
    y = a.marked

    -- the total of no marked arc is that of the powers of x
    power_plain : (m : ℕ) → (power (dual o) a m).plain ≡ power o x m
    power_plain zero = refl
    power_plain (suc m) = ap (times x) (power_plain m)

    powers_plain : (m : ℕ) → (powers (dual o) a m).plain ≡ powers o x m
    powers_plain zero = refl
    powers_plain (suc m) = ap₂ plus (powers_plain m) (power_plain (suc m))

    -- the total of one marked arc, up to m rounds
    abbrev once : ℕ → W
    once m = (powers (dual o) a m).marked

    -- the first round has the marked arc and the others have none, or it has not
    once_next : (m : ℕ) → once (suc m) ≡ plus (times y (powers o x m)) (times x (once m))
    once_next zero = simp (times_nil, nil_plus, plus_nil laws)
    once_next (suc m) =
        let rounds = (power (dual o) a (suc m)).marked in
        ap₂ plus (once_next m) (ap (λ p. plus (times x rounds) (times y p)) (power_plain (suc m)))
        ∙ regroup x y (powers o x m) (once m) (power o x (suc m)) rounds

    -- it is part of what the star has
    once_part : (m : ℕ) → Part o (once m) (times (star x) (times y (star x)))
    once_part zero = part_nil laws
    once_part (suc m) =
        part_along laws
        (once_next m)
        (part_plus laws (part_before laws y (powers_part x m)) (part_before laws x (once_part m)))
        (sym (star_on laws settles x (times y (star x))))

    module _ (n : ℕ) (settled : (m : ℕ) → n ≤ m → powers o x m ≡ star x) where
      once_settled : (m : ℕ) → n ≤ m → once (suc m) ≡ plus (times y (star x)) (times x (once m))
      once_settled m h = once_next m ∙ ap (λ s. plus (times y s) (times x (once m))) (settled m h)

      -- and each part of what the star has is part of it in the end
      star_part : (k m : ℕ) → n + k ≤ m → Part o (times (powers o x k) (times y (star x))) (once (suc m))
      star_part zero m h =
          part_along laws
          (unit_times (times y (star x)))
          (record { rest = times x (once m); joined = refl })
          (sym (once_settled m (omega arith)))
      star_part (suc k) zero h = absurd (omega arith)
      star_part (suc k) (suc m) h =
          part_along laws
          (powers_on laws settles x (times y (star x)) k)
          (part_plus laws (part_refl laws) (part_before laws x (star_part k m (omega arith))))
          (sym (once_settled (suc m) (omega arith)))

      dual_settled : (m : ℕ) → suc (n + n) ≤ m → powers (dual o) a m ≡ (dual o).star a
      dual_settled zero h = absurd (omega arith)
      dual_settled (suc m) h =
          let star_is = ap (λ s. times s (times y (star x))) (sym (settled n (le_refl n))) in
          same_totals
          (powers_plain (suc m) ∙ settled (suc m) (omega arith))
          (part_antisym laws (once_part (suc m)) (part_along laws star_is (star_part n m (omega arith)) refl))

-- so two totals in a kind are a kind
pub dual_laws : {W : Type 0} {o : Ops W} → Laws o → Laws (dual o)
dual_laws laws = record {
  plain = dual_plain laws.plain;
  settles = λ a.
      let (n, settled) = laws.settles a.plain in
      (suc (n + n), dual_settled laws.plain laws.settles a n settled);
}
