-- The joins over the paths out of one state, and how they unfold by the first arc.
use Rattle.std.proofs.Common.{◌≡◌, ℕ, suc, ◌<◌, ◌≤◌, Bool, true, false, cond, ◌&&◌, eqb, List, [], ◌∷◌, sym, refl, ap, ◌∙◌, ap₂, arith}
use Rattle.std.proofs.lemmas.Bool.{lt-ltb, ne_eqb, eqb-true}
use Rattle.weights.specs.Semiring.{Ops, Plain}
use Rattle.charts.specs.Sums.{sum, sum_lists}
use Rattle.charts.specs.Automaton.{Automaton, Sound, Spoken}
use Rattle.charts.specs.Automaton.{leads, same_list, spelled, path_weight, explains, sum_exactly, sum_up_to}
use Rattle.machines.specs.Machine.{arc_table, cleared}
use Rattle.machines.proofs.Sums.{plus_nil, cond_nil, cond_times, times_cond, test_times}
use Rattle.machines.proofs.Sums.{sum_cong, sum_first, sum_plus, sum_swap, sum_times, sum_pick}
use Rattle.machines.proofs.Sums.{lists_cong, lists_plus, times_lists}
use Rattle.machines.proofs.Rows.{dot, act, dot_sum}

-- what the arcs es weigh if they lead from i to an end state and spell w, else zero
abbrev pub counted : {W : Type 0} → Ops W → Automaton W → List ℕ → ℕ → List ℕ → W
counted o a w i es = cond (leads a i es) (cond (same_list (spelled a es) w) (path_weight o a es) o.nil) o.nil

-- the join of the weights of all lists of exactly r arcs that lead from i to an end state and spell w
abbrev pub exactly : {W : Type 0} → Ops W → Automaton W → List ℕ → ℕ → ℕ → W
exactly o a w r i = sum_lists o a.arcs r (counted o a w i)

-- the same for fewer than m arcs
abbrev pub under : {W : Type 0} → Ops W → Automaton W → ℕ → List ℕ → ℕ → W
under o a m w i = sum o m (λ r. exactly o a w r i)

-- one arc that spells c, and then the column x
abbrev pub step : {W : Type 0} → Ops W → Automaton W → ℕ → (ℕ → W) → ℕ → W
step o a c x = act o a.states (arc_table o a c) x

-- one in the end states
abbrev pub ends : {W : Type 0} → Ops W → Automaton W → ℕ → W
ends o a i = cond (a.final i) o.unit o.nil

-- what comes after the silent arcs: the end, or an arc that spells the first letter and then fewer than m arcs
abbrev pub onward : {W : Type 0} → Ops W → Automaton W → ℕ → List ℕ → ℕ → W
onward o a m [] = ends o a
onward o a m (c ∷ w) = step o a c (under o a m w)

-- what arc e weighs if it spells c and leaves i, else zero
abbrev taken : {W : Type 0} → Ops W → Automaton W → ℕ → ℕ → ℕ → W
taken o a c i e = cond (eqb (a.letter e) c && eqb (a.from e) i) (a.weight e) o.nil

-- arc e, which spells c and leaves i, and then the arcs es, which spell w
abbrev via : {W : Type 0} → Ops W → Automaton W → ℕ → List ℕ → ℕ → ℕ → List ℕ → W
via o a c w i e es = o.times (taken o a c i e) (counted o a w (a.to e) es)

-- a letter or silence, and then s, spell nothing
spells_none : (z : Bool) (b : ℕ) (s : List ℕ) → same_list (cond z s (b ∷ s)) [] ≡ (z && same_list s [])
spells_none true b s = refl
spells_none false b s = refl

-- a letter or silence, and then s, spell a word
spells_word : (z : Bool) (b : ℕ) (s : List ℕ) (c : ℕ) (w : List ℕ) →
    same_list (cond z s (b ∷ s)) (c ∷ w) ≡ cond z (same_list s (c ∷ w)) (eqb b c && same_list s w)
spells_word true b s c w = refl
spells_word false b s c w = refl

-- silence is not a spoken letter
silence_apart : (b c : ℕ) → 1 ≤ c → eqb b 0 ≡ true → eqb b c ≡ false
silence_apart b c h t = let silent : b ≡ 0 = eqb-true b 0 t in ne_eqb b c (omega arith)

module _ {W : Type 0} {o : Ops W} (laws : Plain o) (a : Automaton W) where
  open o use {nil, plus, times}
  open laws use {nil_plus, nil_times, times_nil}

  -- a test of two is a test within a test
  cond_and : (b c : Bool) (x : W) → cond (b && c) x nil ≡ cond b (cond c x nil) nil
  cond_and true c x = refl
  cond_and false c x = refl

  -- a tested weight chained with another
  chained : (k f b q : Bool) (x y : W) →
      times (cond (k && f) x nil) (cond b (cond q y nil) nil) ≡ cond (f && b) (cond (k && q) (times x y) nil) nil
  chained true true true q x y = times_cond laws q x y
  chained true true false q x y = times_nil x
  chained true false b q x y = nil_times (cond b (cond q y nil) nil)
  chained false true b q x y = nil_times (cond b (cond q y nil) nil) ∙ sym (cond_nil laws b)
  chained false false b q x y = nil_times (cond b (cond q y nil) nil)

  -- a weight under either of two tests, z and k, that do not pass together
  either : (t z k p q : Bool) (v : W) → (z ≡ true → k ≡ false) →
      cond t (cond (cond z p (k && q)) v nil) nil
      ≡ plus (cond t (cond (k && q) v nil) nil) (cond t (cond (z && p) v nil) nil)
  either true true k p q v h = sym (ap (λ b. plus (cond (b && q) v nil) (cond p v nil)) (h refl) ∙ nil_plus (cond p v nil))
  either true false k p q v h = sym (plus_nil laws (cond (k && q) v nil))
  either false z k p q v h = sym (nil_plus nil)

  -- a tested weight and then z, under one test more
  tested : (b e : Bool) (y z : W) → cond e (times (cond b y nil) z) nil ≡ times (cond (b && e) y nil) z
  tested true e y z = sym (cond_times laws e y z)
  tested false e y z = ap (λ v. cond e v nil) (nil_times z) ∙ cond_nil laws e ∙ sym (nil_times z)

  -- the arcs e ∷ es spell nothing: e is silent
  counted_none : (i e : ℕ) (es : List ℕ) → e < a.arcs → counted o a [] i (e ∷ es) ≡ via o a 0 [] i e es
  counted_none i e es l =
      let z = eqb (a.letter e) 0 in
      let f = eqb (a.from e) i in
      let s = spelled a es in
      let parts = chained z f (leads a (a.to e) es) (same_list s []) (a.weight e) (path_weight o a es) in
      rw (lt-ltb e a.arcs l, spells_none z (a.letter e) s) (sym parts)

  -- the arcs e ∷ es spell c ∷ w: e spells c, or is silent
  counted_word : (c : ℕ) (w : List ℕ) → 1 ≤ c → (i e : ℕ) (es : List ℕ) → e < a.arcs →
      counted o a (c ∷ w) i (e ∷ es) ≡ plus (via o a c w i e es) (via o a 0 (c ∷ w) i e es)
  counted_word c w h i e es l =
      let z = eqb (a.letter e) 0 in
      let k = eqb (a.letter e) c in
      let f = eqb (a.from e) i in
      let b = leads a (a.to e) es in
      let s = spelled a es in
      let x = a.weight e in
      let y = path_weight o a es in
      let ways = either (f && b) z k (same_list s (c ∷ w)) (same_list s w) (times x y) (silence_apart (a.letter e) c h) in
      let parts = ap₂ plus (chained k f b (same_list s w) x y) (chained z f b (same_list s (c ∷ w)) x y) in
      rw (lt-ltb e a.arcs l, spells_word z (a.letter e) s c w) (ways ∙ sym parts)

  -- a path that spells w is its start, and then what its arcs count
  path_counted : (w : List ℕ) (q : ℕ) (es : List ℕ) → q < a.states →
      cond (explains a w q es) (path_weight o a es) nil ≡ times ((cleared o a).start q) (counted o a w q es)
  path_counted w q es l =
      let s = a.start q in
      let b = leads a q es in
      let p = same_list (spelled a es) w in
      let y = path_weight o a es in
      let apart = cond_and (s && b) p y ∙ cond_and s b (cond p y nil) in
      rw (lt-ltb q a.states l) (apart ∙ sym (test_times laws s (counted o a w q es)))

  -- the join over the paths of exactly r arcs, by the state they begin in
  exactly_by_start : (w : List ℕ) (r : ℕ) →
      sum_exactly o a w r ≡ dot o a.states (cleared o a).start (exactly o a w r)
  exactly_by_start w r =
      sum_cong laws a.states (λ q l. lists_cong laws a.arcs r (λ es. path_counted w q es l))
      ∙ sum_cong laws a.states (λ q _. sym (times_lists laws a.arcs r ((cleared o a).start q) (counted o a w q)))

  -- and so over the paths of at most m arcs
  pub sum_by_start : (w : List ℕ) (m : ℕ) →
      sum_up_to o a w m ≡ dot o a.states (cleared o a).start (under o a (suc m) w)
  sum_by_start w m =
      sum_cong laws (suc m) (λ r _. exactly_by_start w r)
      ∙ dot_sum laws a.states (suc m) (cleared o a).start (exactly o a w)

  -- the arcs that spell c, leave i and enter k, chained with y
  arcs_into : (c i k : ℕ) (y : W) →
      sum o a.arcs (λ e. cond (eqb (a.to e) k) (times (taken o a c i e) y) nil) ≡ times (arc_table o a c i k) y
  arcs_into c i k y =
      let leaves : ℕ → Bool = λ e. eqb (a.letter e) c && eqb (a.from e) i in
      sum_cong laws a.arcs (λ e _. tested (leaves e) (eqb (a.to e) k) (a.weight e) y)
      ∙ sym (sum_times laws a.arcs (λ e. cond (leaves e && eqb (a.to e) k) (a.weight e) nil) y)

  -- the steps to what lists of exactly r arcs weigh, for every r below m
  steps_under : (m c : ℕ) (w : List ℕ) (i : ℕ) →
      sum o m (λ r. step o a c (exactly o a w r) i) ≡ step o a c (under o a m w) i
  steps_under m c w i = dot_sum laws a.states m (arc_table o a c i) (exactly o a w)

  module _ (sound : Sound a) where
    -- the arcs that spell c and leave i, by the states they enter
    by_target : (c : ℕ) (x : ℕ → W) (i : ℕ) →
        sum o a.arcs (λ e. times (taken o a c i e) (x (a.to e))) ≡ step o a c x i
    by_target c x i =
        let on : ℕ → ℕ → W = λ e k. times (taken o a c i e) (x k) in
        sum_cong laws a.arcs (λ e l. sym (sum_pick laws a.states (a.to e) (on e) (sound.to_below e l)))
        ∙ sum_swap laws a.arcs a.states (λ e k. cond (eqb (a.to e) k) (on e k) nil)
        ∙ sum_cong laws a.states (λ k _. arcs_into c i k (x k))

    -- an arc that spells c, and then exactly r arcs that spell w
    by_arc : (c : ℕ) (w : List ℕ) (r i : ℕ) →
        sum o a.arcs (λ e. sum_lists o a.arcs r (via o a c w i e)) ≡ step o a c (exactly o a w r) i
    by_arc c w r i =
        sum_cong laws a.arcs (λ e _. sym (times_lists laws a.arcs r (taken o a c i e) (counted o a w (a.to e))))
        ∙ by_target c (exactly o a w r) i

    -- one arc more, and nothing spelled
    exactly_none : (r i : ℕ) → exactly o a [] (suc r) i ≡ step o a 0 (exactly o a [] r) i
    exactly_none r i =
        sum_cong laws a.arcs (λ e l. lists_cong laws a.arcs r (λ es. counted_none i e es l)) ∙ by_arc 0 [] r i

    -- one arc more, and a word spelled
    exactly_word : (c : ℕ) (w : List ℕ) → 1 ≤ c → (r i : ℕ) →
        exactly o a (c ∷ w) (suc r) i ≡ plus (step o a c (exactly o a w r) i) (step o a 0 (exactly o a (c ∷ w) r) i)
    exactly_word c w h r i =
        let n = a.arcs in
        let spoken = via o a c w i in
        let silent = via o a 0 (c ∷ w) i in
        sum_cong laws n (λ e l. lists_cong laws n r (λ es. counted_word c w h i e es l))
        ∙ sum_cong laws n (λ e _. lists_plus laws n r (spoken e) (silent e))
        ∙ sum_plus laws n (λ e. sum_lists o n r (spoken e)) (λ e. sum_lists o n r (silent e))
        ∙ ap₂ plus (by_arc c w r i) (by_arc 0 (c ∷ w) r i)

    -- fewer than m + 1 arcs: what comes after the silent ones, or a silent arc and then fewer than m
    pub under_step : (m : ℕ) (w : List ℕ) → Spoken w → (i : ℕ) →
        under o a (suc m) w i ≡ plus (onward o a m w i) (step o a 0 (under o a m w) i)
    under_step m [] h i =
        let more = sum_cong laws m (λ r _. exactly_none r i) ∙ steps_under m 0 [] i in
        sum_first laws m (λ r. exactly o a [] r i) ∙ ap (plus (ends o a i)) more
    under_step m (c ∷ w) h i =
        let more = sum o m (λ r. exactly o a (c ∷ w) (suc r) i) in
        sum_first laws m (λ r. exactly o a (c ∷ w) r i)
        ∙ ap (λ x. plus x more) (cond_nil laws (a.final i))
        ∙ nil_plus more
        ∙ sum_cong laws m (λ r _. exactly_word c w h.0 r i)
        ∙ sum_plus laws m (λ r. step o a c (exactly o a w r) i) (λ r. step o a 0 (exactly o a (c ∷ w) r) i)
        ∙ ap₂ plus (steps_under m c w i) (steps_under m 0 (c ∷ w) i)
