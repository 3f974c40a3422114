-- Two totals in any kind: that of the ways with no marked arc, and that of the ways with exactly one.
use Rattle.weights.specs.Semiring.{Ops}

pub record Totals (W : Type 0) : Type 0 where
  pub plain : W
  pub marked : W

-- of a chain the one marked arc is in the first part or in the second; a loop has it in one of its rounds
abbrev pub dual : {W : Type 0} → Ops W → Ops (Totals W)
dual o = record {
  nil = record { plain = o.nil; marked = o.nil };
  unit = record { plain = o.unit; marked = o.nil };
  plus = λ a b. record { plain = o.plus a.plain b.plain; marked = o.plus a.marked b.marked };
  times = λ a b. record {
    plain = o.times a.plain b.plain;
    marked = o.plus (o.times a.plain b.marked) (o.times a.marked b.plain);
  };
  star = λ a. record {
    plain = o.star a.plain;
    marked = o.times (o.star a.plain) (o.times a.marked (o.star a.plain));
  };
}
