-- `fill` meets its contract: a part a turn, each behind the one before it.
use Rattle.numbers.specs.Words.{ℕ, zero, suc, ◌+◌, ◌-◌, ◌≤◌, ◌<◌, add-zero, zero-add, arith, ◌≡◌, ◌++◌, sym, ◌∙◌, ap, List, length, get_or, set, take, drop, replicate, length-drop, length-take-le, constant, placed, placed_none, placed_next, length_placed, placed_in, part_filled, rules}
use Rattle.blank.proofs.fill.Goals as goal

module _ (p : List ℕ) (v : ℕ) where
  on : (a n : ℕ) → placed (placed p 0 (λ i. v) a) a (λ i. v) n ≡ placed p 0 (λ i. v) (a + n)
  unfolding placed
  on a zero = rw (add-zero a)
  on a (suc n) =
      let e : a + n + 1 ≡ a + suc n = omega arith in
      ap (λ (l : List ℕ). set l (a + n) v) (on a n) ∙ ap (λ (k : ℕ). set (placed p 0 (λ i. v) (a + n)) k v) (sym (zero-add (a + n)))
      ∙ placed_next p 0 (λ i. v) (a + n) ∙ ap (placed p 0 (λ i. v)) e

  all : placed p 0 (λ i. v) (length p) ≡ replicate (length p) v
  all =
      constant (placed p 0 (λ i. v) (length p)) (length p) v (length_placed p 0 (λ i. v) (length p))
      (λ i h. ap (λ (k : ℕ). get_or (placed p 0 (λ i. v) (length p)) k v) (sym (zero-add i)) ∙ placed_in p 0 (λ i. v) (length p) i v (omega arith) h)

  -- one part: n of what is left behind the first `at`
  further : (at n : ℕ) {q r : List ℕ} → q ≡ placed p 0 (λ i. v) at → at + n ≤ length q → r ≡ replicate n v → take at q ++ (r ++ drop n (drop at q)) ≡ placed p 0 (λ i. v) (at + n)
  further at n {q} e l f = rw f (part_filled q at n v l ∙ ap (λ (l : List ℕ). placed l at (λ i. v) n) e ∙ on at n)

pub loop-at-init : goal.loop-at-init
loop-at-init c = (omega arith, sym (placed_none _ _ _))

pub loop-at-preserved : goal.loop-at-preserved
loop-at-preserved c =
    let room : c.loop-at.at + c.min-n.result ≤ length c.loop-at.mem = omega arith in
    let n : c.loop-at.at + c.min-n.result - c.loop-at.at ≡ c.min-n.result = omega arith in
    let f : c.fill.new.self ≡ replicate c.min-n.result c.args.value =
    c.fill.ensures.after (λ y e. e) ∙ ap (λ (k : ℕ). replicate k c.args.value) (length-take-le _ _ (rw length-drop (omega arith)) ∙ n) in
    (omega arith, rw n (further _ _ _ _ c.loop-at.invariant.1 room f))

pub returns : goal.returns
returns c =
    let e : c.loop-at.at ≡ length c.args.mem.now = omega arith in
    c.loop-at.invariant.1 ∙ ap (placed c.args.mem.now 0 (λ i. c.args.value)) e ∙ all c.args.mem.now c.args.value
