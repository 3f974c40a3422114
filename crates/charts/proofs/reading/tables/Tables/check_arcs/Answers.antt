use Rattle.std.proofs.Common.{◌≡◌, ℕ, ◌<◌, ◌≤◌, Bool, List, [], map, length, get_or, sym, refl, ap, ◌∙◌}
use Rattle.std.proofs.lemmas.List.{length-map, get_or-map}
use Rattle.charts.specs.Views.{row_of, arc_row_fits}
use Rattle.charts.specs.declared.refusals.Refusal.TheVariants.{ArcRow}
use Rattle.charts.proofs.Failing.{failing_passed, failing_found, failing_none, some_is}
use Rattle.charts.proofs.reading.tables.Tables.check_arcs.Goals as goal

-- there are as many rows as runs of twelve bytes
within : (rows : List (List ℕ)) (i : ℕ) → i < length rows → i < length (map row_of rows)
within rows i h = rw (length-map rows row_of) h

-- the row at place i passes the test where the twelve bytes there do
tested : (states letters : ℕ) (rows : List (List ℕ)) (i : ℕ) (b : Bool) → i < length rows
    → b ≡ arc_row_fits states letters (row_of (get_or rows i [])) → arc_row_fits states letters (get_or (map row_of rows) i (row_of [])) ≡ b
tested states letters rows i b h e = ap (arc_row_fits states letters) (get_or-map row_of rows i [] (row_of []) h) ∙ sym e

pub loop-arc-init : goal.loop-arc-init
loop-arc-init c = refl

pub returns-then-is_none : goal.returns-then-is_none
returns-then-is_none c =
    let h = c.loop-arc-test.true in
    let fails = tested _ _ _ _ _ h (sym c.if-is_none.ensures ∙ some_is _ _ _ _ c.read_arc.ensures) in
    sym (failing_found _ ArcRow _ _ _ (within _ _ h) fails) ∙ c.loop-arc.invariant

pub loop-arc-preserved : goal.loop-arc-preserved
loop-arc-preserved c =
    let h = c.loop-arc-test.true in
    let passes = tested _ _ _ _ _ h (sym c.if-is_none.ensures ∙ some_is _ _ _ _ c.read_arc.ensures) in
    sym (failing_passed _ ArcRow _ _ _ (within _ _ h) passes) ∙ c.loop-arc.invariant

pub returns : goal.returns
returns c =
    let past : length (map row_of c.args.self.now.rows.now) ≤ c.loop-arc.arc = rw (length-map c.args.self.now.rows.now row_of) c.loop-arc-test.false in
    sym (failing_none _ ArcRow _ _ past) ∙ c.loop-arc.invariant
