use Rattle.numbers.specs.Words.{ℕ, ◌+◌, ◌<◌, arith, ◌≡◌, refl, ◌∙◌, ap, Bool, true, false, bit_of, bit_small, bool_byte, List, get_or}
use Rattle.recode.specs.Copies.{ask_copies}
use Rattle.recode_frame.specs.ModeCopies.{walking_start, walking_next, walking_end, walking_below, led_at}
use Rattle.recode_frame.proofs.tree.copy_tree.Goals as goal

pub loop-i-init : goal.loop-i-init
loop-i-init c = walking_start _ _ _ _ _ c.requires.probs_nonzero.0 c.requires.probs_nonzero.1

pub overflow_add-i : goal.overflow_add-i
overflow_add-i c = omega (arith, c.loop-i.invariant.byte)

-- the bit as the kit makes it a number
byte_bit : (b : Bool) → bool_byte b ≡ bit_of b
byte_bit true = refl
byte_bit false = refl

small : (b : Bool) {n : ℕ} → n ≡ bool_byte b → n < 2
small b e = rw (e, byte_bit b) (bit_small b)

-- where it leads
leads_to : (leads : List ℕ) (i : ℕ) (b : Bool) {n next : ℕ} → n ≡ bool_byte b → next ≡ get_or leads (i + i + n) 0 → next ≡ get_or leads (i + i + bit_of b) 0
leads_to leads i b e f = f ∙ ap (λ (n : ℕ). get_or leads (i + i + n) 0) (e ∙ byte_bit b)

pub overflow_add-i-in-loop-i : goal.overflow_add-i-in-loop-i
overflow_add-i-in-loop-i c = omega (arith, c.loop-i.invariant.byte, small c.ask-a.result.bit c.from.ensures)

pub bounds-leads-i : goal.bounds-leads-i
bounds-leads-i c = omega (arith, c.requires.leading.size, c.loop-i-test.true, small c.ask-a.result.bit c.from.ensures)

pub loop-i-smaller : goal.loop-i-smaller
loop-i-smaller c = omega (arith, leads_to c.args.leads.now c.loop-i.i c.ask-a.result.bit c.from.ensures c.from-i.ensures, (led_at c.requires.leading c.loop-i.i c.ask-a.result.bit c.loop-i-test.true).1, c.loop-i-test.true)

pub loop-i-preserved : goal.loop-i-preserved
loop-i-preserved c = rw (leads_to c.args.leads.now c.loop-i.i c.ask-a.result.bit c.from.ensures c.from-i.ensures)
    (walking_next c.loop-i.invariant c.loop-i-test.true c.requires.leading (ask_copies (c.shared_slice_known-2-1.given _).fits c.ask-a.ensures) c.ask-a.auto.out (led_at c.requires.leading c.loop-i.i c.ask-a.result.bit c.loop-i-test.true).0)

pub overflow_cast-result : goal.overflow_cast-result
overflow_cast-result c = omega (arith, c.loop-i.invariant.byte, c.loop-i-test.false)

pub shape_of-out : goal.shape_of-out
shape_of-out c = c.loop-i.invariant.long

pub returns : goal.returns
returns c = (walking_end c.loop-i.invariant c.loop-i-test.false, walking_below c.loop-i.invariant c.loop-i-test.false)
