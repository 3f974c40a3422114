-- The order that joining gives.
use Rattle.std.proofs.Common.{◌≡◌, ℕ, zero, suc, ◌<◌, ◌≤◌, sym, refl, ap, ◌∙◌, arith}
use native.Mathlib.Decide.{le_ind}
use Rattle.weights.specs.Semiring.{Ops, Plain}
use Rattle.charts.specs.Sums.{sum}
use Rattle.machines.proofs.Sums.{plus_nil, plus_cross}

-- a is part of b: something joined to a makes b
pub record Part {W : Type 0} (o : Ops W) (a b : W) : Type 0 where
  pub rest : W
  pub joined : o.plus a rest ≡ b

module _ {W : Type 0} {o : Ops W} (laws : Plain o) where
  open o use {nil, plus, times}
  open laws use {plus_assoc, plus_comm, nil_plus, times_plus, plus_times, antisym}

  -- zero is part of everything
  pub part_nil : {a : W} → Part o nil a
  part_nil {a} = record { rest = a; joined = nil_plus a }

  -- everything is part of itself
  pub part_refl : {a : W} → Part o a a
  part_refl {a} = record { rest = nil; joined = plus_nil laws a }

  -- a part of a part is a part
  pub part_trans : {a b c : W} → Part o a b → Part o b c → Part o a c
  part_trans {a} p q = record {
    rest = plus p.rest q.rest;
    joined = sym (plus_assoc a p.rest q.rest) ∙ ap (λ x. plus x q.rest) p.joined ∙ q.joined;
  }

  -- either side may be put otherwise
  pub part_along : {a b c d : W} → a ≡ b → Part o b c → c ≡ d → Part o a d
  part_along e p f = record { rest = p.rest; joined = ap (λ x. plus x p.rest) e ∙ p.joined ∙ f }

  -- two that are parts of one another are one
  pub part_antisym : {a b : W} → Part o a b → Part o b a → a ≡ b
  part_antisym {a} {b} p q = antisym a b p.rest q.rest p.joined q.joined

  -- joins of parts are parts of the joins
  pub part_plus : {a b c d : W} → Part o a b → Part o c d → Part o (plus a c) (plus b d)
  part_plus {a} {b} {c} p q = record {
    rest = plus p.rest q.rest;
    joined = rw (← p.joined, ← q.joined) (plus_cross laws a c p.rest q.rest);
  }

  -- chains of parts are parts of the chains
  pub part_times : {a b c d : W} → Part o a b → Part o c d → Part o (times a c) (times b d)
  part_times {a} {b} {c} p q = record {
    rest = plus (times a q.rest) (times p.rest (plus c q.rest));
    joined = rw (← p.joined, ← q.joined) (simp (plus_times, times_plus, plus_assoc));
  }

  -- a factor before both keeps a part a part
  pub part_before : (a : W) {b c : W} → Part o b c → Part o (times a b) (times a c)
  part_before a p = part_times (part_refl {a = a}) p

  -- a join of parts, one by one, is part of the join
  pub part_sum : (n : ℕ) {f g : ℕ → W} → ((i : ℕ) → i < n → Part o (f i) (g i)) → Part o (sum o n f) (sum o n g)
  part_sum zero p = part_refl
  part_sum (suc n) p = part_plus (part_sum n (λ i l. p i (omega arith))) (p n (omega arith))

  -- a shorter join is part of a longer one
  pub part_longer : (f : ℕ → W) (n m : ℕ) → n ≤ m → Part o (sum o n f) (sum o m f)
  part_longer f n m h =
      le_ind (λ k. Part o (sum o n f) (sum o k f)) part_refl (λ k _ p. part_trans p (record { rest = f k; joined = refl })) m h
